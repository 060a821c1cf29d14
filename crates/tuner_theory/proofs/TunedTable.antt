-- The table that least rows give costs what the rows say.
use Rattle.std.proofs.Common.{◌≡◌, ℕ, zero, suc, ◌+◌, ◌<◌, ◌≤◌, List, [], ◌∷◌, length, ltb, arith, refl, ap, sym, subst}
use Rattle.std.proofs.{lemmas.Bool.{cases_lt, cond_both, ltb-true, ltb-false}}
use Rattle.class_table.{proofs.LawLemmas.{AreClassesAbove}, specs.Sizes.{largest_counted}, specs.Steps.{IsStep}}
use Rattle.tuner_theory.proofs.{Intervals.{span-same}, Needs.{Reaches, counted_has_place, need_at-mono, place_is_class, reach-at}}
use Rattle.tuner_theory.proofs.{Rounding.{step-positive}, Tables.{ServesAbove, class_for-first}}
use Rattle.tuner_theory.specs.{Intervals.{IsIntervalCost, cost_above, span_cost}, Rows.{AreLeastRows, table_of_ends}}
use Rattle.tuner_theory.specs.Spans.{need_at, places}

-- a table for the needs above low, of at most k classes, that costs so much
pub record IsTableFor (between : ℕ → ℕ → ℕ) (counts : List ℕ) (step k low cost : ℕ) (classes : List ℕ) : Type 0 where
  pub above : AreClassesAbove step low classes
  pub few : length classes ≤ k
  pub costs : cost_above between low classes ≡ cost
  pub served : ServesAbove counts step low classes

module _ (counts : List ℕ) (step : ℕ) (pos : 0 < step) where
  -- what is above the places that low reaches is above low
  pub next-above : (low i j : ℕ) → Reaches counts step low (places counts step) i → i < j → j ≤ places counts step →
      low < need_at counts step j
  next-above low i j r lt le = grind (arith, cases_lt)

module _ (counts : List ℕ) (step : ℕ) (pos : 0 < step) (between : ℕ → ℕ → ℕ) (cost : IsIntervalCost counts step between) where
  -- no class, where low reaches all places
  table-none : (k low : ℕ) → Reaches counts step low (places counts step) (places counts step) → IsTableFor between counts step k low 0 []
  table-none k low r = record {
    above = tt;
    few = omega arith;
    costs = refl;
    served = λ n counted over. let at = counted_has_place counts step n counted in
        absurd (omega (arith, at.3, need_at-mono counts step pos at.0 (places counts step) at.2 (omega arith), r.reached));
  }

  -- a class in front, for the places from i up to j
  table-cons : (k low i j rest whole : ℕ) (classes : List ℕ) → IsStep step → length counts ≤ largest_counted + 1 → 1 ≤ low
      → Reaches counts step low (places counts step) i → i < j → j ≤ places counts step
      → IsTableFor between counts step k (need_at counts step j) rest classes → whole ≡ span_cost between counts step i j + rest
      → IsTableFor between counts step (suc k) low whole (need_at counts step j ∷ classes)
  table-cons k low i j rest whole classes is_step small one r lt le table e =
      let c = need_at counts step j in
      let class = place_is_class counts step j is_step small (omega arith) le in
      let over = next-above counts step pos low i j r lt le in
      record {
        above = (over, class.0.1, class.1, table.above);
        few = omega (arith, table.few);
        costs = omega (arith, table.costs, span-same counts step pos between cost low i j r le, e);
        served = grind (arith, class_for-first);
      }

module _ (counts : List ℕ) (step : ℕ) (is_step : IsStep step) (small : length counts ≤ largest_counted + 1)
    (between : ℕ → ℕ → ℕ) (cost : IsIntervalCost counts step between) (limit : ℕ) (rows ends : ℕ → ℕ → ℕ)
    (least : AreLeastRows (span_cost between counts step) (places counts step) limit rows ends) where
  -- no class more, where low reaches all places already
  none-left : (k i low : ℕ) → Reaches counts step low (places counts step) i → places counts step ≤ i →
      IsTableFor between counts step k low (rows k i) []
  none-left k i low r past =
      let end : i ≡ places counts step = omega (arith, r.within) in
      let reaches = subst (Reaches counts step low (places counts step)) end r in
      let empty = table-none counts step (step-positive step is_step) between cost k low reaches in
      record { above = tt; few = empty.few; served = empty.served; costs = omega (arith, empty.costs, least.at_end k, ap (rows k) end) }

  pub table-tuned : (k i low : ℕ) → suc k ≤ limit → 1 ≤ low → Reaches counts step low (places counts step) i
      → IsTableFor between counts step (suc k) low (rows (suc k) i)
      (table_of_ends (need_at counts step) ends (places counts step) (suc k) i)
  table-tuned zero i low le one r =
      let d = places counts step in
      let pos = step-positive step is_step in
      cond_both (ltb i d) _ _ (IsTableFor between counts step 1 low (rows 1 i))
      (λ e. let lt = ltb-true i d e in
      let row = least.first_row i (omega arith) lt in
      let nothing = table-none counts step pos between cost 0 (need_at counts step d) (reach-at counts step pos d (omega arith)) in
      let whole : rows 1 i ≡ span_cost between counts step i d + 0 = omega (arith, row.0) in
      let table = table-cons counts step pos between cost 0 low i d 0 (rows 1 i) [] is_step small one r lt (omega arith) nothing whole in
      subst (λ (j : ℕ). IsTableFor between counts step 1 low (rows 1 i) (need_at counts step j ∷ [])) (sym row.1) table)
      (λ e. none-left 1 i low r (ltb-false i d e))
  table-tuned (suc k) i low le one r =
      let d = places counts step in
      let pos = step-positive step is_step in
      cond_both (ltb i d) _ _ (IsTableFor between counts step (suc (suc k)) low (rows (suc (suc k)) i))
      (λ e. let lt = ltb-true i d e in
      let row = least.later_row (suc k) i (omega arith) (omega arith) lt in
      let j = ends (suc (suc k)) i in
      let class = place_is_class counts step j is_step small (omega (arith, row.0.from)) row.0.to in
      let later =
      table-tuned k j (need_at counts step j) (omega arith) (omega (arith, class.0.0)) (reach-at counts step pos j row.0.to) in
      search (arith, table-cons))
      (λ e. none-left (suc (suc k)) i low r (ltb-false i d e))
