-- Costs of intervals grow with their spans.
use Rattle.std.proofs.Common.{ℕ, ◌<◌, List, arith}
use Rattle.class_table.specs.Steps.{IsStep}
use Rattle.tuner_theory.proofs.{Footprint.{footprint-cost_on}, Needs.{need_at-mono}, Rounding.{step-positive}}
use Rattle.tuner_theory.specs.{Footprint.{footprint_between}, Growing.{IsGrowing}, Histories.{AreSnapshots, peaks}, Profiles.{IsCounted}}
use Rattle.tuner_theory.specs.{Intervals.{IsIntervalCost, span_cost}, Spans.{places}}

pub spans_grow : (counts : List ℕ) (step : ℕ) → 0 < step → (between : ℕ → ℕ → ℕ) → IsIntervalCost counts step between
    → IsGrowing (span_cost between counts step) (places counts step)
spans_grow counts step pos between cost a i j b ai ij jb le = grind (arith, need_at-mono)

pub span_footprints_grow : (snapshots : List (List ℕ)) (counts : List ℕ) (step : ℕ) → IsStep step → AreSnapshots snapshots
    → ((n : ℕ) → IsCounted (peaks snapshots) n → IsCounted counts n)
    → IsGrowing (span_cost (footprint_between snapshots step) counts step) (places counts step)
span_footprints_grow snapshots counts step is_step are covers = search (arith, spans_grow, step-positive, footprint-cost_on)
