-- The numbers of least rows are the least rests, by any cost that is a sum of intervals.
use Rattle.std.proofs.Common.{◌≡◌, ℕ, zero, suc, ◌<◌, ◌≤◌, max, List, arith}
use Rattle.tuner_theory.proofs.{BoundRests.{IsRestCost, reach-low, rests-bound, waste-rest}, LeastRows.{least_rows_are_valid}}
use Rattle.tuner_theory.proofs.{Needs.{Reaches}, Rounding.{rounded-positive, step-positive}, Tables.{waste-cost}}
use Rattle.tuner_theory.{proofs.TunedTable.{IsTableFor, table-tuned}, specs.Intervals.{IsIntervalCost}, specs.Rows.{table_of_ends}}
use Rattle.tuner_theory.specs.{Rests.{IsRest, IsRestBy, counts_above}, Spans.{need_at, places, rounded_need, waste_between}}
use Rattle.tuner_theory.specs.{Tuned.{AreRowsBy, AreTunedRows}, Waste.{waste_of}}
use Rattle.class_table.proofs.LawLemmas.{legal_table_of_classes}

module _ (between : ℕ → ℕ → ℕ) (counts : List ℕ) (step limit : ℕ) (interval : IsIntervalCost counts step between) (rows ends : ℕ → ℕ → ℕ)
    (made : AreRowsBy between counts step limit rows ends) (cost : List ℕ → ℕ) (above : List ℕ) (i : ℕ)
    (rest : IsRestCost cost between counts above step i) where
  rest-at : (k : ℕ) → suc k ≤ limit → i < places counts step → IsRestBy cost above step (suc k) (rows (suc k) i)
  rest-at k le lt = record {
    table = table;
    best = record {
      candidate = grind (arith, legal_table_of_classes, is);
      least = λ other candidate.
          omega (
            arith,
            costs,
            rests-bound counts step pos between interval limit rows (least_rows_are_valid _ _ _ rows ends made.least) cost above i rest
                (suc k) other le (omega arith) candidate,
          );
    };
    costs = costs;
  }
    where
      pos : 0 < step
      pos = step-positive step made.is_step

      low : ℕ
      low = max 1 (need_at counts step i)

      r : Reaches counts step low (places counts step) i
      r = reach-low counts step pos i (omega arith)

      table : List ℕ
      table = table_of_ends (need_at counts step) ends (places counts step) (suc k) i

      is : IsTableFor between counts step (suc k) low (rows (suc k) i) table
      is = table-tuned counts step made.is_step (omega (arith, made.are_counts.sizes)) between interval limit rows ends made.least k i low le
          (omega arith) r

      costs : cost table ≡ rows (suc k) i
      costs = omega (arith, rest.sum table is.above, is.costs)

      over : (n : ℕ) → need_at counts step i < rounded_need step n → low < rounded_need step n
      over n h = omega (arith, rounded-positive step pos n)

  pub rows_are_rests : (k : ℕ) → 1 ≤ k → k ≤ limit → i < places counts step → IsRestBy cost above step k (rows k i)
  rows_are_rests zero one le lt = absurd (omega arith)
  rows_are_rests (suc k) one le lt = rest-at k le lt

pub tuned_rows_are_rests : (counts : List ℕ) (step limit : ℕ) (rows ends : ℕ → ℕ → ℕ) → AreTunedRows counts step limit rows ends
    → (k i : ℕ) → 1 ≤ k → k ≤ limit → i < places counts step → IsRest counts step k i (rows k i)
tuned_rows_are_rests counts step limit rows ends tuned k i =
    rows_are_rests (waste_between counts step) counts step limit (waste-cost counts step) rows ends tuned
    (waste_of (counts_above counts step i)) (counts_above counts step i) i
    (waste-rest counts step (step-positive step tuned.is_step) i) k
