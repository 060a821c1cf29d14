-- The counts that have to be served: what is counted in them, which tables serve them, and what a table wastes on them.
use Rattle.std.proofs.Common.{◌≡◌, ◌≢◌, ◌↔◌, ℕ, zero, suc, ◌-◌, ◌*◌, ◌<◌, ◌≤◌, Bool, true, false, List, [], ◌∷◌, length, slice_index}
use Rattle.std.proofs.Common.{slice_index_or, max, arith, refl, ap, subst, ◌∙◌, inl, inr, ◌⊎◌, unwrap_or, IsSome, All, Contains}
use Rattle.std.proofs.lemmas.Bool.{cases_eq, cases_lt, cond-false, cond-true, false≢true, le-leb, lt-leb}
use Rattle.std.proofs.lemmas.{List.{get_or-set_other, get_or-set_same, length-set}, List.Elements.{All-head, All-tail}}
use Rattle.class_table.specs.{Sizes.{IsBlockSize, largest_counted, loss_of}, Tables.{IsLegalTable, class_for}}
use Rattle.class_table.specs.declared.sizes.TheConstants.{LARGEST_CLASS}
use Rattle.tuner_theory.{proofs.Sums.{sum_same}, specs.Best.{IsBestBy}, specs.Forced.{IsBestWithLargest}}
use Rattle.tuner_theory.specs.{Profiles.{AreCounts, IsCounted}, Served.{served}, Waste.{Serves, sum_below, waste_at, waste_of}}

-- ---- what is counted

pub served-length : (forced : Bool) (counts : List ℕ) → length (served forced counts) ≡ length counts
served-length forced counts = grind (arith, length-set)

-- the other sizes are counted as often as before
pub served-other : (forced : Bool) (counts : List ℕ) (n d : ℕ) → n ≢ largest_counted
    → slice_index_or (served forced counts) n d ≡ slice_index_or counts n d
served-other forced counts n d other = grind (arith, get_or-set_other)

served-here : (counts : List ℕ) (n d : ℕ) → n ≡ largest_counted → n < length counts
    → slice_index_or (served true counts) n d ≡ max 1 (slice_index counts largest_counted)
served-here counts n d here lt = grind (arith, get_or-set_same)

pub counted-served : (forced : Bool) (counts : List ℕ) (n : ℕ) → IsCounted counts n → IsCounted (served forced counts) n
counted-served forced counts n counted = grind (arith, served-length, served-here, served-other)

pub largest-served : (counts : List ℕ) → largest_counted < length counts → IsCounted (served true counts) largest_counted
largest-served counts lt = (omega (arith, lt, served-length true counts), omega (arith, served-here counts largest_counted 0 refl lt))

pub served-cases : (forced : Bool) (counts : List ℕ) (n : ℕ) → IsCounted (served forced counts) n
    → IsCounted counts n ⊎ ((forced ≡ true) × (n ≡ largest_counted))
served-cases forced counts n counted = grind (arith, served-length, served-other)

-- where more is counted, more has to be served
pub served-more : (forced : Bool) (few more : List ℕ) (n : ℕ) → largest_counted < length more
    → ((m : ℕ) → IsCounted few m → IsCounted more m) → IsCounted (served forced few) n → IsCounted (served forced more) n
served-more forced few more n lt covers counted = elim (served-cases forced few n counted) [
  | inl its ↦ counted-served forced more n (covers n its)
  | inr largest ↦ rw (largest.0, largest.1) (largest-served more lt)
]

pub served_are_counts : (forced : Bool) (counts : List ℕ) → AreCounts counts → AreCounts (served forced counts)
served_are_counts forced counts are = grind (arith, served-length, served-here, served-other)

-- ---- tables with the largest class

contains-largest : (classes : List ℕ) → All IsBlockSize classes → IsSome (class_for classes largest_counted)
    → Contains classes LARGEST_CLASS
contains-largest [] all some = absurd (false≢true some)
contains-largest (c ∷ cs) all some = elim (cases_lt c LARGEST_CLASS) [
  | inr not ↦ (0, omega arith, omega (arith, (All-head IsBlockSize c cs all).1))
  | inl below ↦ (let later : class_for (c ∷ cs) largest_counted ≡ class_for cs largest_counted =
      cond-false _ _ _ (lt-leb largest_counted (16 * c - 16) (omega arith)) in
      let rest = contains-largest cs (All-tail IsBlockSize c cs all) (subst IsSome later some) in
      (suc rest.0, omega (arith, rest.1), rest.2))
]

some-largest : (classes : List ℕ) (k : ℕ) → k < length classes → slice_index_or classes k LARGEST_CLASS ≡ LARGEST_CLASS
    → IsSome (class_for classes largest_counted)
some-largest [] k lt is = absurd (omega arith)
some-largest (c ∷ cs) zero lt is = rw (cond-true _ _ _ (le-leb largest_counted (16 * c - 16) (omega arith))) refl
some-largest (c ∷ cs) (suc k) lt is = grind (arith, some-largest cs k (omega arith) is)

pub serves_largest : (counts classes : List ℕ) → AreCounts counts → All IsBlockSize classes
    → Serves (served true counts) classes ↔ (Serves counts classes × Contains classes LARGEST_CLASS)
serves_largest counts classes are sizes = (
  λ serves. (
    λ n counted. serves n (counted-served true counts n counted),
    contains-largest classes sizes (serves largest_counted (largest-served counts (omega (arith, are.sizes)))),
  ),
  λ both n counted. elim (served-cases true counts n counted) [
    | inl its ↦ both.0 n its
    | inr largest ↦ rw largest.1 (some-largest classes both.1.0 both.1.1 both.1.2)
  ],
)

-- ---- what is wasted on them

small-class : (classes : List ℕ) (n : ℕ) → All IsBlockSize classes → unwrap_or (class_for classes n) 0 ≤ LARGEST_CLASS
small-class [] n all = omega arith
small-class (c ∷ cs) n all = grind (arith, small-class cs n (All-tail IsBlockSize c cs all), All-head)

no-loss : (count other n class : ℕ) → n ≡ largest_counted → class ≤ LARGEST_CLASS → count * loss_of n class ≡ other * loss_of n class
no-loss count other n class here le = grind arith

pub served_waste : (forced : Bool) (counts classes : List ℕ) → All IsBlockSize classes
    → waste_of (served forced counts) classes ≡ waste_of counts classes
served_waste false counts classes sizes = refl
served_waste true counts classes sizes =
    ap (sum_below (waste_at (served true counts) classes)) (served-length true counts)
    ∙ sum_same (waste_at (served true counts) classes) (waste_at counts classes) (length counts) (λ n lt.
    elim (cases_eq n largest_counted) [
      | inl here ↦ no-loss (slice_index (served true counts) n) (slice_index counts n) n _ here (small-class classes n sizes)
      | inr other ↦ ap (λ v. v * loss_of n (unwrap_or (class_for classes n) 0)) (served-other true counts n 0 other)
    ])

-- ---- the best of the tables with the largest class

pub best_with_largest : (cost forced_cost : List ℕ → ℕ) (counts : List ℕ) (step limit : ℕ) (classes : List ℕ) → AreCounts counts
    → ((table : List ℕ) → IsLegalTable step table → forced_cost table ≡ cost table)
    → IsBestBy forced_cost (served true counts) step limit classes → IsBestWithLargest cost counts step limit classes
best_with_largest cost forced_cost counts step limit classes are same best =
    let legal = best.candidate.legal in
    let both = (serves_largest counts classes are legal.in_range).0 best.candidate.serving in
    record {
      candidate = record { legal = legal; few = best.candidate.few; serving = both.0 };
      largest = both.1;
      least = λ other candidate has.
          omega (
            arith,
            same classes legal,
            same other candidate.legal,
            best.least other (record {
              legal = candidate.legal;
              few = candidate.few;
              serving = (serves_largest counts other are candidate.legal.in_range).1 (candidate.serving, has);
            }),
          );
    }
