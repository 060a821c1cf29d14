-- How a list is shown as a slot comes in front of it, or leaves it.
use Rattle.std.proofs.Common.{◌≡◌, ◌≢◌, ℕ, ◌+◌, ◌<◌, ◌≤◌, List, [], ◌∷◌, length, drop, refl, sym, subst, ⊎_elim, arith, Contains}
use Rattle.heap_theory.proofs.{Linked.{IsLinked-first, IsLinked-none, IsLinked-once, IsLinked-same}, Regions.{as_many_headers, other_link}}
use Rattle.heap_theory.{proofs.ListSearch.{Contains-cases, Contains-tail, AllPairs-first}, specs.Links.{IsLinked}}
use Rattle.heap_theory.specs.Region.{Region, next_in, with_slot_link}
use Rattle.class_lists.specs.Lists.{ShowsList}

pub shown_pushed : (region : Region) (front s : ℕ) (list : List ℕ) → s < length region.headers →
    next_in region s ≡ front →
    ShowsList region front list → ShowsList region (s + 1) (s ∷ list)
shown_pushed region front s list within link shown = record {
  linked = (omega arith, subst (λ n. IsLinked (next_in region) n list) (sym link) shown.linked);
  slots = λ r there. ⊎_elim (λ same. subst (λ n. n < length region.headers) same within) (shown.slots r) (Contains-cases s list r there);
}

-- a list stays where the links of its slots stay,
pub shown_same : (region new : Region) (front : ℕ) (list : List ℕ) → ShowsList region front list →
    length new.headers ≡ length region.headers → ((s : ℕ) → Contains list s → next_in new s ≡ next_in region s) → ShowsList new front list
shown_same region new front list shown long same = record {
  linked = IsLinked-same (next_in region) (next_in new) front list same shown.linked;
  slots = λ s there. subst (λ n. s < n) (sym long) (shown.slots s there);
}

-- so where the link of a slot is set that it doesn't have
pub shown_beside : (region : Region) {new : Region} (s next front : ℕ) (list : List ℕ) → new ≡ with_slot_link region s next →
    (Contains list s → ⊥) → ShowsList region front list → ShowsList new front list
shown_beside region {new} s next front list set outside shown =
    shown_same region new front list shown (as_many_headers region s _ set)
    (λ r there. other_link region s next set r (λ same. outside (subst (Contains list) same there)))

-- with no front there is no slot
pub shown_none : (region : Region) (front : ℕ) (list : List ℕ) → front ≡ 0 → ShowsList region front list →
    list ≡ []
shown_none region front list none shown = IsLinked-none (next_in region) front list shown.linked none

-- the front is the link to the first slot
pub shown_first : (region : Region) (front s : ℕ) (list : List ℕ) → front ≡ s + 1 →
    ShowsList region front list → list ≡ s ∷ drop 1 list
shown_first region front s list is shown = (IsLinked-first (next_in region) front s list shown.linked (omega (arith, is))).0

-- and the link of that slot shows the rest
pub shown_rest : (region : Region) (s : ℕ) (rest : List ℕ) → ShowsList region (s + 1) (s ∷ rest) →
    ShowsList region (next_in region s) rest
shown_rest region s rest shown = record { linked = shown.linked.1; slots = λ r there. shown.slots r (Contains-tail s rest r there) }

-- in which it isn't
pub first_not_in_rest : (region : Region) (s : ℕ) (rest : List ℕ) → ShowsList region (s + 1) (s ∷ rest) →
    Contains rest s → ⊥
first_not_in_rest region s rest shown there =
    AllPairs-first (λ s r. s ≢ r) s rest s (IsLinked-once (next_in region) (s + 1) (s ∷ rest) shown.linked) there refl

-- and the front is 0 or the number of a slot of the region plus one
pub front_within : (region : Region) (front : ℕ) (list : List ℕ) → ShowsList region front list →
    front ≤ length region.headers
front_within region front [] shown = omega (arith, shown.linked)
front_within region front (s ∷ rest) shown = let within = shown.slots s (0, omega arith, refl) in omega (arith, shown.linked.0)
