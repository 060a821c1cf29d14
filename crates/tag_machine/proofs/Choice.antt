-- The allowed tags after a tag, as the set bits of a mask that is turned.
use Rattle.std.proofs.Common.{◌≡◌, ◌≢◌, ℕ, zero, suc, ◌+◌, ◌-◌, ◌*◌, ◌/◌, ◌%◌, ◌^◌, ◌<◌, ◌≤◌, max, Bool, true, false, not, List, []}
use Rattle.std.proofs.{Common.{◌∷◌, map, length, refl, sym, ap, ◌∙◌, inl, inr, arith, ◌⊎◌, ◌==◌, bit_or, slice_index}, Math.Pow.{pow_pos}}
use Rattle.std.proofs.{lemmas.Bool.{cases_eq, cond-true, eq-eqb}}
use Rattle.std.{proofs.lemmas.List.{get_or-map, length-map}, proofs.lemmas.Nat.{zero_from_ones}, specs.Int.Count.{ones, ones_in}}
use Rattle.std.proofs.lemmas.Nat.Bits.{bit_at_or, bit_at_not, bit_at-lt, bit_at_above, bit_at_cat_low, bit_at_cat_high}
use Rattle.std.specs.{Int.{bit_at, bit_not, rotate_right, w16}, List.{filter, range_with_len}}
use Rattle.machine_theory.specs.Tags.{is_excluded, allowed_after, choose_tag}
use Rattle.tag_machine.proofs.{DrawnTags.{bit_at_shr}, MaskBits.{filter_places, set_bits-places, length-set_bits}}
use Rattle.tag_machine.specs.MaskBits.{set_bits}

-- a number of sixteen bits that is shifted to the left: no bit below s, and then its own
bit_at_shl : (n s j : ℕ) → j < 16 → bit_at ((n * 2 ^ s) % 2 ^ 16) j ≡ bit_at (n * 2 ^ s + 0) j
bit_at_shl n s j h =
    let parts : (n * 2 ^ s) / 2 ^ 16 * 2 ^ 16 + (n * 2 ^ s) % 2 ^ 16 ≡ n * 2 ^ s + 0 = omega arith in
    sym (bit_at_cat_low ((n * 2 ^ s) / 2 ^ 16) 16 ((n * 2 ^ s) % 2 ^ 16) j h) ∙ ap (λ m. bit_at m j) parts

-- a bit of a number of sixteen bits that is turned r to the right
bit_at_turned : (n r j : ℕ) → n < 2 ^ 16 → r < 16 → j < 16 →
    bit_at (bit_or (n / 2 ^ r) ((n * 2 ^ ((16 - r) % 16)) % 2 ^ 16)) j ≡ bit_at n ((r + j) % 16)
bit_at_turned n r j n_below r_below j_below =
    grind (arith, bit_at_or, bit_at_shr, bit_at_shl, at)
  where
    both : (x y z : ℕ) → x ≡ z → y ≡ z → max x y ≡ z
    both x y z e f = omega arith

    left : (x y z : ℕ) → x ≡ z → y ≡ 0 → max x y ≡ z
    left x y z e f = omega arith

    right : (x y z : ℕ) → x ≡ 0 → y ≡ z → max x y ≡ z
    right x y z e f = omega arith

    at : (r ≡ 0) ⊎ (r ≡ 0 → ⊥) → (r + j < 16) ⊎ (16 ≤ r + j) →
        max (bit_at n (j + r)) (bit_at (n * 2 ^ ((16 - r) % 16) + 0) j) ≡ bit_at n ((r + j) % 16)
    at (inl still) within = grind arith
    at (inr turned) (inl within) = grind (arith, bit_at_cat_low)
    at (inr turned) (inr round) =
        let sum : j - (16 - r) % 16 ≡ (r + j) % 16 = omega arith in
        right _ _ _ (bit_at_above n 16 (j + r) n_below (omega arith))
        (bit_at_cat_high n ((16 - r) % 16) 0 j (pow_pos ((16 - r) % 16)) (omega arith) ∙ ap (bit_at n) sum)

filter-map : {X Y : Type 0} (p : Y → Bool) (f : X → Y) (xs : List X) → filter p (map f xs) ≡ map f (filter (λ x. p (f x)) xs)
filter-map p f [] = refl
filter-map p f (x ∷ xs) = grind (arith, filter-map p f xs)

abbrev pub allowed_mask : ℕ → ℕ → ℕ
allowed_mask tag exclude = rotate_right w16 (bit_not w16 exclude) (tag + 1)

-- bit j of it tells whether the tag j + 1 steps above `tag` is allowed
allowed_bit : (tag exclude j : ℕ) → tag < 16 → exclude < 2 ^ 16 → j < 16 →
    not (is_excluded exclude ((tag + (1 + j)) % 16)) ≡ (bit_at (allowed_mask tag exclude) j == 1)
allowed_bit tag exclude j tag_below exclude_below j_below =
    let sum : ((tag + 1) % 16 + j) % 16 ≡ (tag + (1 + j)) % 16 = omega arith in
    let below : (tag + (1 + j)) % 16 < 16 = omega arith in
    flipped (bit_at exclude ((tag + (1 + j)) % 16)) (bit_at-lt exclude ((tag + (1 + j)) % 16))
    ∙ ap (λ b. b == 1) (sym (bit_at_turned (bit_not w16 exclude) ((tag + 1) % 16) j (omega arith) (omega arith) j_below
    ∙ ap (bit_at (bit_not w16 exclude)) sum ∙ bit_at_not w16 exclude ((tag + (1 + j)) % 16) exclude_below below))
  where
    flipped : (b : ℕ) → b < 2 → not (b == 1) ≡ (1 - b == 1)
    flipped zero h = refl
    flipped (suc zero) h = refl
    flipped (suc (suc b)) h = absurd (omega arith)

pub allowed_places : (tag exclude mask : ℕ) → tag < 16 → exclude < 2 ^ 16 → mask ≡ allowed_mask tag exclude →
    allowed_after tag exclude ≡ map (λ k. (tag + (1 + k)) % 16) (set_bits mask)
unfolding allowed_after set_bits
allowed_places tag exclude mask tag_below exclude_below is =
    filter-map (λ t. not (is_excluded exclude t)) (λ k. (tag + (1 + k)) % 16) (range_with_len 0 16)
    ∙ ap (map (λ k. (tag + (1 + k)) % 16))
    (filter_places 16 0 (allowed_mask tag exclude) (λ k. not (is_excluded exclude ((tag + (1 + k)) % 16)))
    (grind (arith, allowed_bit))
    ∙ sym (ap set_bits is ∙ set_bits-places (allowed_mask tag exclude)))

-- ---- the choice, by a mask whose set bits are the allowed tags

module _ (tag exclude mask : ℕ) (mask_below : mask < 2 ^ 16)
    (places : allowed_after tag exclude ≡ map (λ k. (tag + (1 + k)) % 16) (set_bits mask)) where
  as_many : length (allowed_after tag exclude) ≡ ones mask
  as_many = ap length places ∙ length-map (set_bits mask) (λ k. (tag + (1 + k)) % 16) ∙ length-set_bits mask mask_below

  entry : (i : ℕ) → i < ones mask → slice_index (allowed_after tag exclude) i ≡ (tag + (1 + slice_index (set_bits mask) i)) % 16
  entry i h = grind (arith, get_or-map, length-set_bits)

  pub mask_some : mask ≢ 0 → 0 < ones mask
  mask_some other = grind (arith, cases_eq, zero_from_ones)

  pub chosen_none : (offset : ℕ) → mask ≡ 0 → choose_tag tag offset exclude ≡ 0
  unfolding choose_tag ones ones_in
  chosen_none offset none = cond-true (length (allowed_after tag exclude) == 0) _ _ (eq-eqb _ _ (as_many ∙ ap ones none))

  pub chosen_here : mask ≢ 0 → is_excluded exclude tag ≡ false → choose_tag tag 0 exclude ≡ tag
  unfolding choose_tag
  chosen_here other free = grind (arith, mask_some, as_many)

  pub chosen_on : (offset : ℕ) → mask ≢ 0 → (offset ≡ 0 → is_excluded exclude tag ≡ true) →
      choose_tag tag offset exclude ≡ (tag + (1 + slice_index (set_bits mask) ((offset - 1) % ones mask))) % 16
  unfolding choose_tag
  chosen_on offset other out = grind (arith, mask_some, as_many, entry)
