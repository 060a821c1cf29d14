-- Sizes above the largest that is counted count for nothing in a timeline.
use Rattle.std.proofs.Common.{◌≡◌, ℕ, ◌≤◌, false, cond, List, [], ◌∷◌, ◌++◌, length, take, drop, arith}
use Rattle.std.proofs.Common.{refl, sym, ap, subst, ◌∙◌, inl, inr, sum_by, append_assoc, append-nil}
use Rattle.std.proofs.lemmas.{Bool.{cases_Bool}, Bool.Decides.{nat_tests}, List.{same_lists, take-append-drop, take_at}}
use Rattle.std.proofs.lemmas.{List.Elements.{filter-append}, List.Sums.{count_by-le-length, length-filter, sum_by-cons}}
use Rattle.class_table.specs.Sizes.{largest_counted}
use Rattle.footprint_theory.{proofs.Growing.{last-at, last_snapshot, most-next}, specs.Calls.{counted_events, is_counted}}
use Rattle.tuner_theory.proofs.{TimelineSteps.{frees_at, requests_at}, Timelines.{moment-below, snapshot-length}}
use Rattle.tuner_theory.specs.{Histories.{most}, Profiles.{greatest_count}, Timelines.{IsTimeline, freed, moments, requested}}
use Rattle.tuner_theory.specs.declared.size_event.{SizeEvent.{SizeEvent}, SizeEvent.TheVariants.{Request, Free}}

-- ---- the blocks of a size that is counted

sum-kept : (f : SizeEvent → ℕ) → ((e : SizeEvent) → is_counted e ≡ false → f e ≡ 0) → (events : List SizeEvent) →
    sum_by f (counted_events events) ≡ sum_by f events
sum-kept f none [] = refl
sum-kept f none (e ∷ es) = grind (arith, cases_Bool, sum_by-cons, sum-kept f none es, none e)

no-request : (n : ℕ) → n ≤ largest_counted → (e : SizeEvent) → is_counted e ≡ false → requests_at n e ≡ 0
no-request n le (Request m) large = grind (arith, nat_tests)
no-request n le (Free m) large = refl

no-free : (n : ℕ) → n ≤ largest_counted → (e : SizeEvent) → is_counted e ≡ false → frees_at n e ≡ 0
no-free n le (Request m) large = refl
no-free n le (Free m) large = grind (arith, nat_tests)

pub requested-counted : (events : List SizeEvent) (n : ℕ) → n ≤ largest_counted → requested (counted_events events) n ≡ requested events n
requested-counted events n le = sum-kept (requests_at n) (no-request n le) events

pub freed-counted : (events : List SizeEvent) (n : ℕ) → n ≤ largest_counted → freed (counted_events events) n ≡ freed events n
freed-counted events n le = sum-kept (frees_at n) (no-free n le) events

-- ---- moments

pub last-counted : (events : List SizeEvent) → last_snapshot (counted_events events) ≡ last_snapshot events
last-counted events =
    let counted = counted_events events in
    let long = snapshot-length counted (length counted) in
    same_lists (last_snapshot counted) (last_snapshot events) (long ∙ sym (snapshot-length events (length events))) (λ n d lt.
    let le : n ≤ largest_counted = omega (arith, lt, long) in
    omega (arith, last-at counted n d le, last-at events n d le, requested-counted events n le, freed-counted events n le))

module _ (f : List ℕ → ℕ) where
  abbrev AreSame : List SizeEvent → Type 0
  AreSame events = most f (moments (counted_events events)) ≡ most f (moments events)

  most-one : (past : List SizeEvent) (e : SizeEvent) → AreSame past → AreSame (past ++ e ∷ [])
  most-one past e same =
      grind (arith, cases_Bool (is_counted e), filter-append, most-next, last-counted (past ++ e ∷ []), append-nil, moment-below)

  most-more : (past rest : List SizeEvent) → AreSame past → AreSame (past ++ rest)
  most-more past [] same = subst AreSame (sym (append-nil past)) same
  most-more past (e ∷ rest) same =
      subst AreSame (append_assoc past (e ∷ []) rest) (most-more (past ++ e ∷ []) rest (most-one past e same))

  pub most-counted : (events : List SizeEvent) → AreSame events
  most-counted events = most-more [] events refl

-- ---- beginnings

-- where no beginning of what is counted frees more blocks than it requests, none does
pub counted-timeline : (events : List SizeEvent) → length events ≤ greatest_count →
    ((m n : ℕ) → freed (take m (counted_events events)) n ≤ requested (take m (counted_events events)) n) → IsTimeline events
counted-timeline events few before = record {
  few = few;
  live = λ m n small.
      let first = counted_events (take m events) in
      let is : take (length first) (counted_events events) ≡ first =
      ap (take (length first))
      (ap counted_events (sym (take-append-drop m events)) ∙ filter-append is_counted (take m events) (drop m events))
      ∙ take_at first (counted_events (drop m events)) (length first) refl in
      omega (
        arith,
        ap (λ es. freed es n) is,
        ap (λ es. requested es n) is,
        before (length first) n,
        requested-counted (take m events) n small,
        freed-counted (take m events) n small,
      );
}

-- a beginning of what is counted is what a beginning counts
pub counted_beginning : (events a b : List SizeEvent) → counted_events events ≡ a ++ b →
    (first : List SizeEvent) × (rest : List SizeEvent) × (events ≡ first ++ rest) × (counted_events first ≡ a)
counted_beginning events [] b is = ([], events, refl, refl)
counted_beginning [] (x ∷ a) b is = absurd cc
counted_beginning (e ∷ es) (x ∷ a) b is = elim (cases_Bool (is_counted e)) [
  | inl passes ↦
      let parts : e ∷ counted_events es ≡ x ∷ (a ++ b) =
      subst (λ t. cond t (e ∷ counted_events es) (counted_events es) ≡ x ∷ (a ++ b)) passes is in
      let first_is : e ≡ x = cc in
      let c = counted_beginning es a b (cc) in
      (e ∷ c.0, c.1, ap (λ es. e ∷ es) c.2, ap (λ t. cond t (e ∷ counted_events c.0) (counted_events c.0)) passes ∙ (cc))
  | inr failed ↦
      let c = counted_beginning es (x ∷ a) b
      (subst (λ t. cond t (e ∷ counted_events es) (counted_events es) ≡ x ∷ (a ++ b)) failed is) in
      (e ∷ c.0, c.1, ap (λ es. e ∷ es) c.2, ap (λ t. cond t (e ∷ counted_events c.0) (counted_events c.0)) failed ∙ c.3)
]

-- what is counted of a timeline is one
pub counted_is_timeline : (events : List SizeEvent) → IsTimeline events → IsTimeline (counted_events events)
counted_is_timeline events timeline = record {
  few = omega (arith, timeline.few, length-filter is_counted events, count_by-le-length is_counted events);
  live = λ m n small.
      let c = counted_beginning events (take m (counted_events events)) (drop m (counted_events events))
      (sym (take-append-drop m (counted_events events))) in
      let is : take (length c.0) events ≡ c.0 = ap (take (length c.0)) c.2 ∙ take_at c.0 c.1 (length c.0) refl in
      omega (
        arith,
        ap (λ es. freed es n) (sym c.3),
        ap (λ es. requested es n) (sym c.3),
        requested-counted c.0 n small,
        freed-counted c.0 n small,
        ap (λ es. freed es n) is,
        ap (λ es. requested es n) is,
        timeline.live (length c.0) n small,
      );
}
