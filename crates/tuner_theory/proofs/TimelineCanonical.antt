-- A table that is chosen for some moments, and takes no more over all of them, is the one that is chosen for the timeline.
use Rattle.std.proofs.Common.{◌≡◌, ℕ, zero, suc, ◌+◌, ◌*◌, ◌<◌, ◌≤◌, Bool, true, false, List, [], ◌∷◌, length, slice_index, get_or, cond}
use Rattle.std.proofs.{Common.{eqb, arith, refl, ap, ◌∙◌, inl, inr, All, sum_by, Option}, lemmas.List.{get_or-map, length-map}}
use Rattle.std.proofs.{Math.Nat.{mul-le-mul, mul-le-mul_left}, lemmas.Bool.{cases_lt, eq-eqb}}
use Rattle.std.{proofs.lemmas.List.Elements.{All-nil}, proofs.lemmas.List.Sums.{sum_by-cons}, specs.Option.{option_map_or}}
use Rattle.class_table.specs.{Sizes.{largest_counted}}
use Rattle.tuner_theory.{proofs.Footprint.{most-above, peak-at, peaks-length}, proofs.FootprintLawLemmas.{sum-more}, specs.Served.{served}}
use Rattle.tuner_theory.{proofs.Served.{counted-served, largest-served, served-cases}, specs.Histories.{most, peaks}}
use Rattle.tuner_theory.proofs.Timelines.{moments-length, snapshot-length, some-below, some_moments_take_less, candidate-before}
use Rattle.tuner_theory.{proofs.Timelines.{served-later, serves-served, moment-at}, specs.Waste.{Serves, sum_below}}
use Rattle.tuner_theory.specs.{Best.{IsBestBy, IsCandidate, IsCanonicalBy, IsUsed}, Footprint.{IsFitted, blocks, footprint_of, is_class_of}}
use Rattle.tuner_theory.specs.Timelines.{AreMoments, footprint_over, history_at, moments, snapshot_at}
use Rattle.tuner_theory.specs.declared.size_event.SizeEvent.{SizeEvent}

-- ---- what is not 0

positive-sum : (f : ℕ → ℕ) (m : ℕ) → 0 < sum_below f m → (n : ℕ) × (n < m) × (0 < f n)
unfolding sum_below
positive-sum f zero some = absurd (omega arith)
positive-sum f (suc m) some =
    elim (cases_lt 0 (f m)) [
      | inl here ↦ (m, omega arith, here)
      | inr none ↦ let before = positive-sum f m (omega arith) in (before.0, omega (arith, before.1), before.2)
    ]

positive-most : (f : List ℕ → ℕ) (ss : List (List ℕ)) → 0 < most f ss → (k : ℕ) × (k < length ss) × (0 < f (get_or ss k []))
positive-most f [] some = absurd (omega arith)
positive-most f (s ∷ ss) some =
    elim (cases_lt 0 (f s)) [
      | inl here ↦ (0, omega arith, here)
      | inr none ↦ let later = positive-most f ss (omega arith) in (suc later.0, omega (arith, later.1), later.2)
    ]

term-below : (f : ℕ → ℕ) (n m : ℕ) → n < m → f n ≤ sum_below f m
unfolding sum_below
term-below f n zero lt = absurd (omega arith)
term-below f n (suc m) lt = grind (arith, term-below f n m)

masked : (b : Bool) (v : ℕ) → 0 < cond b v 0 → (b ≡ true) × (0 < v)
masked b v some = grind arith

-- ---- classes that are used

used-of-blocks : (events : List SizeEvent) (numbers classes : List ℕ) (class : ℕ)
    → 0 < most (blocks classes class) (history_at events numbers) → IsUsed (peaks (history_at events numbers)) classes class
used-of-blocks events numbers classes class some =
    let history = history_at events numbers in
    let there = positive-most (blocks classes class) history some in
    let s = get_or history there.0 [] in
    let n = positive-sum (λ n. cond (is_class_of classes class n) (slice_index s n) 0) (length s) there.2 in
    let parts = masked (is_class_of classes class n.0) (slice_index s n.0) n.2 in
    let len : length s ≡ largest_counted + 1 =
    ap length (get_or-map (snapshot_at events) numbers there.0 0 [] (omega (arith, there.1, length-map numbers (snapshot_at events))))
    ∙ snapshot-length events (get_or numbers there.0 0) in grind (arith, peaks-length, peak-at, most-above)

blocks-of-used : (events : List SizeEvent) (classes : List ℕ) (class : ℕ) → IsUsed (peaks (moments events)) classes class
    → 0 < most (blocks classes class) (moments events)
blocks-of-used events classes class used =
    let n = used.0 in
    let le : n ≤ largest_counted = omega (arith, used.1.0, peaks-length (moments events)) in
    let there = positive-most (λ s. slice_index s n) (moments events) (omega (arith, used.1.1, peak-at (moments events) n 0 le)) in
    let s = get_or (moments events) there.0 [] in
    let len : length s ≡ largest_counted + 1 =
    ap length (moment-at events there.0 [] (omega (arith, there.1, moments-length events))) ∙ snapshot-length events there.0 in
    let its : is_class_of classes class n ≡ true =
    ap (λ (o : Option ℕ). option_map_or (λ its. eqb its class) o false) used.2 ∙ eq-eqb class class refl in
    let term = term-below (λ m. cond (is_class_of classes class m) (slice_index s m) 0) n (length s) (omega (arith, len)) in
    grind (arith, most-above)

-- ---- sums that are equal term by term

terms-equal : (f g : ℕ → ℕ) (cs : List ℕ) → ((c : ℕ) → f c ≤ g c) → sum_by g cs ≤ sum_by f cs → All (λ c. g c ≤ f c) cs
terms-equal f g [] each le = All-nil (λ c. g c ≤ f c)
terms-equal f g (c ∷ cs) each le = grind (arith, terms-equal f g cs each, sum_by-cons, sum-more)

pub canonical_over : (forced : Bool) (events : List SizeEvent) (numbers : List ℕ) (step limit : ℕ) (classes : List ℕ)
    → AreMoments events numbers → IsFitted forced (history_at events numbers) step limit classes → Serves (peaks (moments events)) classes
    → footprint_over events classes ≡ footprint_of (history_at events numbers) classes
    → IsCanonicalBy (footprint_over events) (served forced (peaks (moments events))) step limit classes
canonical_over forced events numbers step limit classes are fitted serving same =
    record {
      best = record {
        candidate = its;
        least = λ other candidate.
            omega (
              arith,
              same,
              fitted.best.least other (candidate-before forced events numbers step limit other are candidate),
              some_moments_take_less events numbers other are,
            );
      };
      used = λ k d lt.
          let used = fitted.used k d lt in
          (used.0, served-later forced events numbers used.0 are used.1, used.2);
      least = λ other best used.
          fitted.least other (record {
            candidate = candidate-before forced events numbers step limit other are best.candidate;
            least = grind (arith, some_moments_take_less, its);
          }) (λ k d lt. still-used other best k d lt (used k d lt));
    }
  where
    history : List (List ℕ)
    history = history_at events numbers

    its : IsCandidate (served forced (peaks (moments events))) step limit classes
    its = record {
      legal = fitted.best.candidate.legal;
      few = fitted.best.candidate.few;
      serving = serves-served forced events numbers classes fitted.best.candidate.serving serving;
    }

    -- a class with a block at a moment has one at some of them, since the table takes no more over all moments
    has-blocks : (other : List ℕ) → IsBestBy (footprint_over events) (served forced (peaks (moments events))) step limit other
        → (k d : ℕ) → k < length other → IsUsed (peaks (moments events)) other (get_or other k d)
        → IsUsed (peaks history) other (get_or other k d)
    has-blocks other best k d lt used =
        let c = get_or other k d in
        let over = blocks-of-used events other c used in
        let equal = terms-equal (λ c. 16 * c * most (blocks other c) history) (λ c. 16 * c * most (blocks other c) (moments events)) other
        (λ c. mul-le-mul_left (16 * c) (some-below (blocks other c) events numbers are.within))
        (omega (
          arith,
          same,
          best.least classes its,
          fitted.best.least other (candidate-before forced events numbers step limit other are best.candidate),
        )) k d lt in
        let large : 16 * 2 ≤ 16 * c = omega (arith, (best.candidate.legal.in_range k d lt).0) in
        grind (arith, used-of-blocks, mul-le-mul)

    still-used : (other : List ℕ) → IsBestBy (footprint_over events) (served forced (peaks (moments events))) step limit other
        → (k d : ℕ) → k < length other → IsUsed (served forced (peaks (moments events))) other (get_or other k d)
        → IsUsed (served forced (peaks history)) other (get_or other k d)
    still-used other best k d lt used = elim (served-cases forced (peaks (moments events)) used.0 used.1) [
      | inr largest ↦ (used.0, rw (largest.0, largest.1) (largest-served (peaks history) (omega (arith, peaks-length history))), used.2)
      | inl counted ↦ (let live = has-blocks other best k d lt (used.0, counted, used.2) in
          (live.0, counted-served forced (peaks history) live.0 live.1, live.2))
    ]
