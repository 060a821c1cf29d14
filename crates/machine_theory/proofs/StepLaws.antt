-- A tag is chosen by steps from one allowed tag to the next.
use Rattle.std.proofs.Common.{◌≡◌, ℕ, zero, suc, ◌+◌, ◌-◌, ◌%◌, ◌<◌, Bool, true, false, not, cond, List, [], ◌∷◌, ◌++◌, map, length, get_or}
use Rattle.std.proofs.{Common.{take, drop, refl, sym, ap, ◌∙◌, inl, inr, arith}, Math.Nat.{mod-add-mod, mod-eq_of_lt, mod_self}}
use Rattle.std.proofs.lemmas.{Bool.{cases_lt, cases_Bool, cond-true, cond-false, ne_eqb, eqb-true, eqb-false}, Nat.{mod_below}}
use Rattle.std.proofs.lemmas.List.{get_or-drop, get_or-take, get_or-append_right, get_or_append_left, length-drop, length-take}
use Rattle.std.proofs.lemmas.{List.{length-append, append-nil, get_or_past}, List.Elements.{filter-append}}
use Rattle.std.{proofs.lemmas.List.FromFn.{get_or-map-range_with_len, fill_by_all}, specs.List.{filter, range_with_len}}
use Rattle.machine_theory.{proofs.TagLaws.{allowed_some}, specs.Tags.{is_excluded, tags_after, allowed_after, next_allowed, choose_tag}}

tags_after_from_zero : (tag : ℕ) → tags_after tag ≡ map (λ k. (tag + (1 + k)) % 16) (range_with_len 0 16)
tags_after_from_zero tag = refl

length-tags_after : (tag : ℕ) → length (tags_after tag) ≡ 16
length-tags_after tag = refl

tags_after_at : (tag j d : ℕ) → j < 16 → get_or (tags_after tag) j d ≡ (tag + (1 + j)) % 16
tags_after_at tag j d h = get_or-map-range_with_len (λ k. (tag + k) % 16) 1 16 j (1 + j) d h refl

-- the tags from a later one on are those from an earlier one, turned
tags_after_turned : (tag j : ℕ) → j < 16 →
    tags_after ((tag + (1 + j)) % 16) ≡ drop (suc j) (tags_after tag) ++ take (suc j) (tags_after tag)
tags_after_turned tag j h =
    tags_after_from_zero ((tag + (1 + j)) % 16)
    ∙ sym (fill_by_all (λ k. ((tag + (1 + j)) % 16 + (1 + k)) % 16) (drop (suc j) (tags_after tag) ++ take (suc j) (tags_after tag)) 16 0
    (length-append (drop (suc j) (tags_after tag)) (take (suc j) (tags_after tag)) ∙ omega (arith, drop_long, take_long))
    (λ k below. elim (cases_lt k (15 - j)) [
      | inl front ↦ get_or_append_left (drop (suc j) (tags_after tag)) (take (suc j) (tags_after tag)) 0 k (omega (arith, drop_long))
          ∙ get_or-drop (suc j) (tags_after tag) k 0 ∙ tags_after_at tag (suc j + k) 0 (omega arith) ∙ omega arith
      | inr back ↦ get_or-append_right (drop (suc j) (tags_after tag)) (take (suc j) (tags_after tag)) (15 - j) k 0
          (drop_long ∙ omega arith) back
          ∙ get_or-take (suc j) (tags_after tag) (k - (15 - j)) 0 (omega arith) ∙ tags_after_at tag (k - (15 - j)) 0 (omega arith)
          ∙ omega arith
    ]))
  where
    drop_long : length (drop (suc j) (tags_after tag)) ≡ 15 - j
    drop_long = length-drop (suc j) (tags_after tag) ∙ omega (arith, length-tags_after tag)

    take_long : length (take (suc j) (tags_after tag)) ≡ suc j
    take_long = length-take (suc j) (tags_after tag) ∙ omega (arith, length-tags_after tag)

-- where the i-th element that passes stands
record StandsAt (p : ℕ → Bool) (xs : List ℕ) (i : ℕ) : Type 0 where
  place : ℕ
  within : place < length xs
  is : get_or xs place 0 ≡ get_or (filter p xs) i 0
  before : filter p (take (suc place) xs) ≡ take (suc i) (filter p xs)
  after : filter p (drop (suc place) xs) ≡ drop (suc i) (filter p xs)

stands_at : (p : ℕ → Bool) (xs : List ℕ) (i : ℕ) → i < length (filter p xs) → StandsAt p xs i
stands_at p [] i h = absurd (omega arith)
stands_at p (x ∷ xs) i h = by_head (p x) refl i h (stands_at p xs)
  where
    one : p x ≡ true → filter p (x ∷ []) ≡ x ∷ []
    one e = cond-true (p x) (x ∷ []) [] e

    with_head : (ys : List ℕ) → p x ≡ true → filter p (x ∷ ys) ≡ x ∷ filter p ys
    with_head ys e = cond-true (p x) (x ∷ filter p ys) (filter p ys) e

    without_head : (ys : List ℕ) → p x ≡ false → filter p (x ∷ ys) ≡ filter p ys
    without_head ys e = cond-false (p x) (x ∷ filter p ys) (filter p ys) e

    by_head : (b : Bool) → p x ≡ b → (i : ℕ) → i < length (filter p (x ∷ xs)) → ((i : ℕ) → i < length (filter p xs) → StandsAt p xs i) →
        StandsAt p (x ∷ xs) i
    by_head true e zero h rest = grind arith
    by_head true e (suc i) h rest =
        let r = rest i (omega (arith, ap length (with_head xs e))) in
        record {
          place = suc r.place;
          within = omega (arith, r.within);
          is = r.is ∙ ap (λ ys. get_or ys (suc i) 0) (sym (with_head xs e));
          before = with_head (take (suc r.place) xs) e ∙ ap (λ ys. x ∷ ys) r.before ∙ ap (take (suc (suc i))) (sym (with_head xs e));
          after = r.after ∙ ap (drop (suc (suc i))) (sym (with_head xs e));
        }
    by_head false e i h rest =
        let r = rest i (omega (arith, ap length (without_head xs e))) in
        record {
          place = suc r.place;
          within = omega (arith, r.within);
          is = r.is ∙ ap (λ ys. get_or ys i 0) (sym (without_head xs e));
          before = without_head (take (suc r.place) xs) e ∙ r.before ∙ ap (take (suc i)) (sym (without_head xs e));
          after = r.after ∙ ap (drop (suc i)) (sym (without_head xs e));
        }

-- the allowed tags after an allowed tag are those after an earlier one, turned
allowed_turned : (tag exclude i : ℕ) → i < length (allowed_after tag exclude) →
    allowed_after (get_or (allowed_after tag exclude) i 0) exclude ≡ drop (suc i) (allowed_after tag exclude)
    ++ take (suc i) (allowed_after tag exclude)
unfolding allowed_after
allowed_turned tag exclude i h =
    let r = stands_at (λ t. not (is_excluded exclude t)) (tags_after tag) i h in
    let place_below : r.place < 16 = r.within in
    let tag_is : get_or (filter (λ t. not (is_excluded exclude t)) (tags_after tag)) i 0 ≡ (tag + (1 + r.place)) % 16 =
    sym r.is ∙ tags_after_at tag r.place 0 place_below in
    ap (λ t. filter (λ t. not (is_excluded exclude t)) (tags_after t)) tag_is
    ∙ ap (filter (λ t. not (is_excluded exclude t))) (tags_after_turned tag r.place place_below)
    ∙ filter-append (λ t. not (is_excluded exclude t)) (drop (suc r.place) (tags_after tag)) (take (suc r.place) (tags_after tag))
    ∙ (λ k. r.after k ++ r.before k)

-- the allowed tag after the i-th one is the one after it, and the first after the last
next_in_turn : (tag exclude i : ℕ) → i < length (allowed_after tag exclude) →
    next_allowed exclude (get_or (allowed_after tag exclude) i 0)
    ≡ get_or (allowed_after tag exclude) ((i + 1) % length (allowed_after tag exclude)) 0
next_in_turn tag exclude i h =
    ap (λ ys. get_or ys 0 0) (allowed_turned tag exclude i h) ∙ at (allowed_after tag exclude) h
  where
    at : (l : List ℕ) → i < length l → get_or (drop (suc i) l ++ take (suc i) l) 0 0 ≡ get_or l ((i + 1) % length l) 0
    at l h = grind (arith, cases_lt, get_or_append_left, length-drop, get_or-drop, mod-eq_of_lt, get_or-append_right, get_or-take, mod_self)

-- ---- what a body that steps from tag to tag uses

-- one step of the tag, and on while it is excluded
pub next_allowed_here : (tag exclude : ℕ) → is_excluded exclude ((tag + 1) % 16) ≡ false → next_allowed exclude tag ≡ (tag + 1) % 16
unfolding allowed_after
next_allowed_here tag exclude e = grind arith

pub next_allowed_on : (tag exclude : ℕ) → is_excluded exclude ((tag + 1) % 16) ≡ true →
    next_allowed exclude tag ≡ next_allowed exclude ((tag + 1) % 16)
unfolding allowed_after
next_allowed_on tag exclude e =
    ap (λ ys. get_or ys 0 0)
    (ap (λ b. cond (not b) ((tag + 1) % 16 ∷ rest) rest) e
    ∙ sym (append-nil rest)
    ∙ ap (λ ys. rest ++ ys) (sym (ap (λ b. cond (not b) ((tag + 1) % 16 ∷ []) []) e))
    ∙ sym (filter-append (λ t. not (is_excluded exclude t)) (map (λ k. (tag + k) % 16) (range_with_len 2 15)) ((tag + 1) % 16 ∷ []))
    ∙ sym (ap (filter (λ t. not (is_excluded exclude t))) (tags_after_turned tag 0 (omega arith))))
  where
    rest : List ℕ
    rest = filter (λ t. not (is_excluded exclude t)) (map (λ k. (tag + k) % 16) (range_with_len 2 15))

-- offset 0
pub choose_zero_free : (tag exclude other : ℕ) → tag < 16 → is_excluded exclude tag ≡ false → choose_tag tag 0 exclude ≡ tag
unfolding choose_tag
choose_zero_free tag exclude other below free = grind (arith, cond-false, ne_eqb, allowed_some)

pub choose_zero_excluded : (tag exclude : ℕ) → is_excluded exclude tag ≡ true → choose_tag tag 0 exclude ≡ next_allowed exclude tag
unfolding choose_tag
choose_zero_excluded tag exclude out = grind (arith, cases_Bool, cond-true, get_or_past, eqb-true, cond-false)

-- offset 1, and one more
pub choose_one : (tag exclude : ℕ) → choose_tag tag 1 exclude ≡ next_allowed exclude tag
unfolding choose_tag
choose_one tag exclude = grind (arith, cases_Bool, cond-true, get_or_past, eqb-true, eqb-false, cond-false, mod-eq_of_lt)

choose_at : (tag offset exclude : ℕ) → 0 < length (allowed_after tag exclude) →
    choose_tag tag (offset + 1) exclude ≡ get_or (allowed_after tag exclude) (offset % length (allowed_after tag exclude)) 0
unfolding choose_tag
choose_at tag offset exclude some = grind (arith, cond-false, ne_eqb)

pub choose_more : (tag offset exclude other : ℕ) → tag < 16 → other < 16 → is_excluded exclude other ≡ false →
    choose_tag tag (offset + 2) exclude ≡ next_allowed exclude (choose_tag tag (offset + 1) exclude)
choose_more tag offset exclude other below other_below free =
    let some : 0 < length (allowed_after tag exclude) = allowed_some tag exclude other below other_below free in
    let within : offset % length (allowed_after tag exclude) < length (allowed_after tag exclude) =
    mod_below offset (length (allowed_after tag exclude)) some in
    ap (λ k. choose_tag tag k exclude) (omega arith)
    ∙ choose_at tag (offset + 1) exclude some
    ∙ ap (λ k. get_or (allowed_after tag exclude) k 0) (sym (mod-add-mod offset (length (allowed_after tag exclude)) 1))
    ∙ sym (next_in_turn tag exclude (offset % length (allowed_after tag exclude)) within)
    ∙ ap (next_allowed exclude) (sym (choose_at tag offset exclude some))

pub ruleset steps = (next_allowed_here, next_allowed_on, choose_zero_free, choose_zero_excluded, choose_one, choose_more)
