-- A cost of intervals between places.
use Rattle.std.proofs.{Common.{◌≡◌, ℕ, ◌<◌, ◌≤◌, List, arith}, lemmas.Bool.{cases_lt}}
use Rattle.tuner_theory.{proofs.Needs.{Reaches, reach-at, reach-covers}, specs.Intervals.{IsIntervalCost, span_cost}}
use Rattle.tuner_theory.specs.Spans.{need_at, places}

module _ (counts : List ℕ) (step : ℕ) (pos : 0 < step) (between : ℕ → ℕ → ℕ) (cost : IsIntervalCost counts step between) where
  -- a class c after low costs at least what the span of the places between them does,
  pub span-least : (low c i j : ℕ) → Reaches counts step low (places counts step) i → Reaches counts step c (places counts step) j
      → span_cost between counts step i j ≤ between low c
  span-least low c i j ri rj = grind (arith, cases_lt, reach-covers)

  -- and just that where it is a place's need
  pub span-same : (low i j : ℕ) → Reaches counts step low (places counts step) i → j ≤ places counts step
      → between low (need_at counts step j) ≡ span_cost between counts step i j
  span-same low i j r le = grind (arith, span-least, reach-at)
