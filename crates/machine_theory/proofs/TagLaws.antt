-- A chosen tag is an allowed one.
use Rattle.std.proofs.Common.{◌≡◌, ◌≢◌, ℕ, zero, suc, ◌+◌, ◌-◌, ◌*◌, ◌%◌, ◌^◌, ◌<◌, Bool, true, false, not, cond, List, [], ◌∷◌, length}
use Rattle.std.proofs.{Common.{get_or, refl, sym, ap, ◌∙◌, subst, inl, inr, arith, ◌⊎◌, ◌==◌, ◌||◌, bit_or}, lemmas.Grind.{common_steps}}
use Rattle.std.proofs.lemmas.Bool.{cond_both, cond-true, cond-false, eqb-true, eqb-false, not-true, agree_below_at, or_parts, cases_eq}
use Rattle.std.{proofs.lemmas.List.Elements.{All-filter, filter_passes, All-map}, proofs.lemmas.Nat.{mod_below}, specs.Int.{bit_at}}
use Rattle.std.{proofs.lemmas.List.FromFn.{get_or-map-range_with_len, length-map-range_with_len}, specs.List.{filter, range_with_len, All}}
use Rattle.std.proofs.lemmas.Nat.Bits.{bit_at_or, bit_at-pow_same, bit_at-pow_other, bit_at-lt}
use Rattle.machine_theory.specs.{Address.{logical_tag, with_tag}, Instructions.{drawn_tag, addg, subg}, Seed.{next_offset}}
use Rattle.machine_theory.specs.Tags.{is_excluded, tags_after, allowed_after, choose_tag}

-- a filter that passes an element keeps at least one
filter_keeps : {X : Type 0} (p : X → Bool) (xs : List X) (i : ℕ) (d : X) → i < length xs → p (get_or xs i d) ≡ true →
    0 < length (filter p xs)
filter_keeps p [] i d h e = absurd (omega arith)
filter_keeps p (x ∷ xs) zero d h e = subst (λ b. 0 < length (cond b (x ∷ filter p xs) (filter p xs))) (sym e) (omega arith)
filter_keeps p (x ∷ xs) (suc i) d h e = grind (arith, cond_both, filter_keeps p xs i d (omega arith) e)

pub record IsAllowed (exclude tag : ℕ) : Type 0 where
  pub below : tag < 16
  pub free : is_excluded exclude tag ≡ false

allowed_each : (tag exclude : ℕ) → All (IsAllowed exclude) (allowed_after tag exclude)
unfolding allowed_after
allowed_each tag exclude k d h =
    let test : ℕ → Bool = λ t. not (is_excluded exclude t) in
    let low : All (λ t. t < 16) (filter test (tags_after tag)) =
    All-filter test (λ t. t < 16) (tags_after tag)
    (All-map (λ t. t < 16) (λ k. (tag + k) % 16) (range_with_len 1 16) (λ i e l. mod_below _ 16 (omega arith))) in
    record {
      below = low k d h;
      free = not-true _ (filter_passes test (tags_after tag) k d h);
    }

pub allowed_some : (tag exclude t : ℕ) → tag < 16 → t < 16 → is_excluded exclude t ≡ false → 0 < length (allowed_after tag exclude)
unfolding allowed_after
allowed_some tag exclude t in_range t_in_range free = grind (arith, common_steps, mod_below, get_or-map-range_with_len, filter_keeps, length-map-range_with_len)

pub choose_tag_allowed : (tag offset exclude t : ℕ) → tag < 16 → t < 16 → is_excluded exclude t ≡ false →
    IsAllowed exclude (choose_tag tag offset exclude)
unfolding choose_tag
choose_tag_allowed tag offset exclude t in_range t_in_range free = grind (arith, allowed_some, allowed_each, cond_both, eqb-true, mod_below)

-- a filter that passes no element keeps none
filter_none : {X : Type 0} (p : X → Bool) (xs : List X) → All (λ x. p x ≡ false) xs → filter p xs ≡ []
filter_none p [] none = refl
filter_none p (x ∷ xs) none =
    cond-false (p x) (x ∷ filter p xs) (filter p xs) (none 0 x (omega arith)) ∙ filter_none p xs (λ k d h. none (suc k) d (omega arith))

pub choose_tag_none : (tag offset exclude : ℕ) → ((other : ℕ) → other < 16 → is_excluded exclude other ≡ true) →
    choose_tag tag offset exclude ≡ 0
unfolding choose_tag allowed_after
choose_tag_none tag offset exclude each = grind (arith, filter_none, mod_below, cond-true)

-- ---- masks

bit_zero : (x t : ℕ) → is_excluded x t ≡ false → bit_at x t ≡ 0
bit_zero x t e = grind (arith, bit_at-lt, eqb-false)

excluded_if : (x t : ℕ) → bit_at x t ≡ 0 → is_excluded x t ≡ false
excluded_if x t e = ap (λ b. b == 1) e

-- a tag is excluded by neither mask or by both in one
pub is_excluded-or : (x y t : ℕ) → is_excluded x t ≡ false → is_excluded y t ≡ false → is_excluded (bit_or x y) t ≡ false
is_excluded-or x y t a b = excluded_if (bit_or x y) t (bit_at_or x y t ∙ omega (arith, bit_zero x t a, bit_zero y t b))

pub is_excluded-or_left : (x y t : ℕ) → is_excluded (bit_or x y) t ≡ false → is_excluded x t ≡ false
is_excluded-or_left x y t e = excluded_if x t (omega (arith, bit_at_or x y t, bit_zero (bit_or x y) t e))

pub is_excluded-or_right : (x y t : ℕ) → is_excluded (bit_or x y) t ≡ false → is_excluded y t ≡ false
is_excluded-or_right x y t e = excluded_if y t (omega (arith, bit_at_or x y t, bit_zero (bit_or x y) t e))

pub is_excluded-one : (a t : ℕ) → t ≢ a → is_excluded (2 ^ a) t ≡ false
is_excluded-one a t ne = excluded_if (2 ^ a) t (bit_at-pow_other a t ne)

pub not_the_one : (a t : ℕ) → is_excluded (2 ^ a) t ≡ false → t ≢ a
not_the_one a t e same = eqb-false _ _ e (subst (λ k. bit_at (2 ^ a) k ≡ 1) (sym same) (bit_at-pow_same a))

pub odd_from : (t : ℕ) → t < 16 → is_excluded 0x5555 t ≡ false → t % 2 ≡ 1
odd_from t h e =
    let table : is_excluded 0x5555 t ≡ (t % 2 == 0) = agree_below_at (λ t. is_excluded 0x5555 t) (λ t. t % 2 == 0) 16 t refl h in
    grind (arith, eqb-false)

pub even_from : (t : ℕ) → t < 16 → is_excluded 0xAAAB t ≡ false → (t % 2 ≡ 0) × (0 < t)
even_from t h e =
    let table : is_excluded 0xAAAB t ≡ ((t % 2 == 1) || (t == 0)) =
    agree_below_at (λ t. is_excluded 0xAAAB t) (λ t. (t % 2 == 1) || (t == 0)) 16 t refl h in
    grind (arith, or_parts, eqb-false)

-- a mask that excludes 0 alone leaves 1, so ADDG and SUBG give no tag 0
pub choose_tag-one : (tag steps : ℕ) → tag < 16 → (choose_tag tag steps 1 < 16) × (choose_tag tag steps 1 ≢ 0)
choose_tag-one tag steps in_range =
    let a = choose_tag_allowed tag steps 1 1 in_range (omega arith) refl in
    (a.below, not_the_one 0 (choose_tag tag steps 1) a.free)

logical_tag-chosen : (address from steps : ℕ) → logical_tag (with_tag address (choose_tag (logical_tag from) steps 1)) ≢ 0
logical_tag-chosen address from steps e = grind (arith, choose_tag-one)

pub addg-some : (xn u6 u4 : ℕ) → logical_tag (addg xn u6 u4) ≢ 0
unfolding addg
addg-some xn u6 u4 = logical_tag-chosen ((xn + 16 * u6) % 2 ^ 64) xn u4

pub subg-some : (xn u6 u4 : ℕ) → logical_tag (subg xn u6 u4) ≢ 0
unfolding subg
subg-some xn u6 u4 = logical_tag-chosen ((xn + (2 ^ 64 - 16 * u6)) % 2 ^ 64) xn u4

-- ---- draws among the tags of one parity

-- of two tags one is not a third
other_than : (a x y : ℕ) → x ≢ y → (t : ℕ) × ((t ≡ x) ⊎ (t ≡ y)) × (t ≢ a)
other_than a x y apart = elim (cases_eq x a) [
  | inr other ↦ (x, inl refl, other)
  | inl same ↦ (y, inr refl, λ e. apart (same ∙ sym e))
]

-- the mask that excludes the tags of one parity, one more, and 0
parity_mask : ℕ → ℕ → ℕ
parity_mask mask last = bit_or (bit_or mask (2 ^ last)) 1

-- where it leaves two tags of the other parity, the chosen one is not excluded by any part of it
chosen : (mask x y : ℕ) (tag offset last : ℕ) → tag < 16 → x ≢ y → x < 16 → y < 16 → is_excluded mask x ≡ false →
    is_excluded mask y ≡ false → is_excluded 1 x ≡ false → is_excluded 1 y ≡ false →
    IsAllowed mask (choose_tag tag offset (parity_mask mask last)) × (choose_tag tag offset (parity_mask mask last) ≢ last)
unfolding parity_mask
chosen mask x y tag offset last in_range apart x_below y_below x_free y_free x_some y_some =
    let left = other_than last x y apart in
    let below : left.0 < 16 = either (λ t. t < 16) left.0 left.1 x_below y_below in
    let free : is_excluded mask left.0 ≡ false = either (λ t. is_excluded mask t ≡ false) left.0 left.1 x_free y_free in
    let some : is_excluded 1 left.0 ≡ false = either (λ t. is_excluded 1 t ≡ false) left.0 left.1 x_some y_some in
    let a = choose_tag_allowed tag offset (bit_or (bit_or mask (2 ^ last)) 1) left.0 in_range below
    (grind (arith, is_excluded-or, is_excluded-one)) in
    grind (arith, is_excluded-or_left, not_the_one, is_excluded-or_right)
  where
    either : (P : ℕ → Type 0) (t : ℕ) → (t ≡ x) ⊎ (t ≡ y) → P x → P y → P t
    either P t (inl e) px py = subst P (sym e) px
    either P t (inr e) px py = subst P (sym e) py

pub odd_drawn : (tag seed last : ℕ) → tag < 16 →
    (drawn_tag tag seed (bit_or 0x5555 (2 ^ last)) < 16) × (drawn_tag tag seed (bit_or 0x5555 (2 ^ last)) % 2 ≡ 1)
    × (drawn_tag tag seed (bit_or 0x5555 (2 ^ last)) ≢ last)
unfolding drawn_tag parity_mask
odd_drawn tag seed last in_range =
    let c = chosen 0x5555 1 3 tag (next_offset seed) last in_range (omega arith) (omega arith) (omega arith) refl refl refl refl in
    (c.0.below, odd_from _ c.0.below c.0.free, c.1)

pub even_drawn : (tag seed last : ℕ) → tag < 16 →
    (drawn_tag tag seed (bit_or 0xAAAB (2 ^ last)) < 16) × (drawn_tag tag seed (bit_or 0xAAAB (2 ^ last)) % 2 ≡ 0)
    × (0 < drawn_tag tag seed (bit_or 0xAAAB (2 ^ last))) × (drawn_tag tag seed (bit_or 0xAAAB (2 ^ last)) ≢ last)
unfolding drawn_tag parity_mask
even_drawn tag seed last in_range =
    let c = chosen 0xAAAB 2 4 tag (next_offset seed) last in_range (omega arith) (omega arith) (omega arith) refl refl refl refl in
    grind (arith, even_from)
