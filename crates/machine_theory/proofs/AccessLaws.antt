-- Which accesses are faults, and which granule a tag fault names.
use Rattle.std.proofs.Common.{◌≡◌, ◌≢◌, ◌⊎◌, ℕ, zero, suc, ◌+◌, ◌-◌, ◌*◌, ◌<◌, ◌≤◌, Bool, true, false, not, List, length, refl, ap}
use Rattle.std.proofs.Common.{◌∙◌, inl, inr, arith, Some, None, Option, ◌==◌, ◌↔◌, IsSome, IsTrue, option_map}
use Rattle.std.proofs.lemmas.Bool.{cases_Bool, false_from_ne_true, iff_false, cond-true, cond-false, eqb-true}
use Rattle.std.proofs.lemmas.Bool.{not-false, and_parts, ltb-true, leb-true}
use Rattle.std.specs.List.{find, range_with_len}
use Rattle.machine_theory.specs.{Access.{IsMapped, IsTagFault, is_mapped, touched, tag_fault, access_fault}, Memory.{Granule, tag_at}}
use Rattle.machine_theory.specs.{Address.{logical_tag, place_of, region_start, granule_of, Holds, Touches}, declared.fault.Fault.{Fault}}
use Rattle.machine_theory.specs.declared.fault.Fault.TheVariants.{Unmapped, TagCheck}

-- what `find` finds among neighbouring numbers
module _ (p : ℕ → Bool) where
  found : (n a g : ℕ) → find p (range_with_len a n) ≡ Some g →
      (a ≤ g) × (g < a + n) × (p g ≡ true) × ((k : ℕ) → a ≤ k → k < g → p k ≡ false)
  found zero a g e = cc
  found (suc n) a g e = grind (arith, found n (a + 1) g)

  none_found : (n a : ℕ) → find p (range_with_len a n) ≡ None → (k : ℕ) → a ≤ k → k < a + n → p k ≡ false
  none_found zero a e k from h = absurd (omega arith)
  none_found (suc n) a e k from h = grind (arith, none_found n (a + 1))

pub IsMapped-from : (granules address len : ℕ) → is_mapped granules address len ≡ true → IsMapped granules address len
IsMapped-from granules address len e = grind (arith, and_parts, ltb-true, leb-true)

pub mapped_test : (granules address len : ℕ) → IsTrue (is_mapped granules address len) ↔ IsMapped granules address len
mapped_test granules address len = grind arith

-- the granules that a mapped access touches
module _ (place len : ℕ) (from : region_start ≤ place) where
  in_span : (g : ℕ) → (i : ℕ) × (i < len) × Holds g (place + i) →
      (granule_of place ≤ g) × (g < granule_of place + (granule_of (place + len - 1) + 1 - granule_of place))
  in_span g t = grind arith

  from_span : (g : ℕ) → 0 < len → granule_of place ≤ g →
      g < granule_of place + (granule_of (place + len - 1) + 1 - granule_of place) → (i : ℕ) × (i < len) × Holds g (place + i)
  from_span g some first last = (region_start + 16 * g - place, omega arith, record { from = omega arith; to = omega arith })

-- an access answers exactly one of three ways
IsTold : List Granule → ℕ → ℕ → Option Fault → Type 0
IsTold memory address len fault =
    ((IsMapped (length memory) address len → ⊥) × (fault ≡ Some Unmapped))
    ⊎ (((g : ℕ) × IsTagFault memory address len g (tag_at memory g) (logical_tag address)
    × (fault ≡ Some (TagCheck g (tag_at memory g) (logical_tag address))))
    ⊎ (((g : ℕ) → Touches address len g → tag_at memory g ≡ logical_tag address) × (fault ≡ None)))

told : (memory : List Granule) (address len : ℕ) → 0 < len → IsTold memory address len (access_fault memory address len)
unfolding access_fault IsTold
told memory address len some = elim (cases_Bool (is_mapped (length memory) address len)) [
  | inr f ↦ inl (iff_false (mapped_test (length memory) address len) f, cond-false (is_mapped (length memory) address len) _ _ f)
  | inl t ↦ by_found (IsMapped-from (length memory) address len t) (cond-true (is_mapped (length memory) address len) _ _ t)
      (find bad (touched address len)) refl
]
  where
    bad : ℕ → Bool
    bad g = not (tag_at memory g == logical_tag address)

    by_found : IsMapped (length memory) address len →
        access_fault memory address len ≡ tag_fault memory (logical_tag address) (touched address len) → (o : Option ℕ) →
        find (λ g. not (tag_at memory g == logical_tag address)) (touched address len) ≡ o →
        IsTold memory address len (access_fault memory address len)
    by_found mapped is None e = inr (inr (
      λ g t. let s = in_span (place_of address) len mapped.from g t in
          eqb-true _ _ (not-false _ (none_found (λ g. not (tag_at memory g == logical_tag address)) _ _ e g s.0 s.1)),
      is ∙ ap (option_map (λ g. TagCheck g (tag_at memory g) (logical_tag address))) e,
    ))
    by_found mapped is (Some g) e =
        let f = found (λ g. not (tag_at memory g == logical_tag address)) _ _ g e in
        grind (arith, from_span)

-- an access that touches a granule whose tag is not the pointer's is a fault
pub touch_faults : (memory : List Granule) (address len g : ℕ) → Touches address len g → tag_at memory g ≢ logical_tag address →
    IsSome (access_fault memory address len)
unfolding IsTold
touch_faults memory address len g touches differs = grind (arith, told)

-- a mapped access all of whose granules have the pointer's tag succeeds
pub inside_succeeds : (memory : List Granule) (address len : ℕ) → 0 < len → IsMapped (length memory) address len →
    ((g : ℕ) → Touches address len g → tag_at memory g ≡ logical_tag address) → access_fault memory address len ≡ None
unfolding IsTold
inside_succeeds memory address len some mapped each = grind (arith, told)

pub unmapped_is : (memory : List Granule) (address len : ℕ) → (IsMapped (length memory) address len → ⊥) →
    access_fault memory address len ≡ Some Unmapped
unfolding access_fault
unmapped_is memory address len never = grind (arith, cond-false, false_from_ne_true, IsMapped-from)

pub tag_fault_names : (memory : List Granule) (address len g memory_tag pointer_tag : ℕ) → 0 < len →
    (access_fault memory address len ≡ Some (TagCheck g memory_tag pointer_tag)) ↔ IsTagFault memory address len g memory_tag pointer_tag
unfolding IsTold
tag_fault_names memory address len g m p some = grind (arith, told)

-- an access sees the length and the tags alone
pub access_fault_same : (memory other : List Granule) (address len : ℕ) → length other ≡ length memory →
    ((g : ℕ) → tag_at other g ≡ tag_at memory g) → access_fault other address len ≡ access_fault memory address len
unfolding access_fault
access_fault_same memory other address len long same = grind arith

pub ruleset access_laws = (unmapped_is, touch_faults, inside_succeeds, access_fault_same)
