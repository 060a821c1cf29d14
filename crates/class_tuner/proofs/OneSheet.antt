-- What is made for one measure, step and limit is the same, and so is the number of evaluations.
use Rattle.std.proofs.Common.{◌≡◌, ℕ, zero, suc, ◌<◌, ◌≤◌, Bool, List, arith, sym, ◌∙◌}
use Rattle.class_tuner.{proofs.Tried.{calls-same}, specs.Fits.Fitted.{IsFitOf}, specs.Tuned.{AreEvaluations, IsMadeFor, IsTuned}}
use Rattle.tuner_theory.{proofs.LawLemmas.{one_canonical, one_least_rows}, specs.Measures.{Measure, footprint_on, waste_on}}
use Rattle.tuner_theory.specs.{Rows.{AreLeastRows, number_at}, Served.{served}, Sheets.{Sheet}}

-- by any measure,
one_made : (m : Measure) (step limit : ℕ) (forced : Bool) (a b : Sheet) → IsMadeFor m step limit forced a → IsMadeFor m step limit forced b
    → a ≡ b
one_made m step limit forced a b of_a of_b =
    let table = one_canonical m.cost m.counts step limit a.table b.table of_a.canonical of_b.canonical in
    grind (arith, one_least_rows)

-- so the tuned sheet of a profile,
pub one_sheet : (counts : List ℕ) (step limit : ℕ) (forced : Bool) (a b : Sheet) → IsTuned counts step limit forced a
    → IsTuned counts step limit forced b → a ≡ b
one_sheet counts step limit forced a b of_a of_b = one_made (waste_on (served forced counts)) step limit forced a b of_a.made of_b.made

-- and the fit of a history
pub one_fit : (snapshots : List (List ℕ)) (step limit : ℕ) (forced : Bool) (a b : Sheet) → IsFitOf snapshots step limit forced a
    → IsFitOf snapshots step limit forced b → a ≡ b
one_fit snapshots step limit forced a b of_a of_b = one_made (footprint_on forced snapshots) step limit forced a b of_a.made of_b.made

-- ---- filled rows have one list of least ends each, so the span wastes are asked for one number of times

ends-same : (cost : ℕ → ℕ → ℕ) (d limit : ℕ) (rows a b : ℕ → ℕ → ℕ) → AreLeastRows cost d limit rows a → AreLeastRows cost d limit rows b
    → (k i : ℕ) → 1 ≤ k → k ≤ limit → i < d → a k i ≡ b k i
ends-same cost d limit rows a b of_a of_b zero i one le lt = absurd (omega arith)
ends-same cost d limit rows a b of_a of_b (suc zero) i one le lt = (of_a.first_row i le lt).1 ∙ sym (of_b.first_row i le lt).1
ends-same cost d limit rows a b of_a of_b (suc (suc k)) i one le lt = grind arith

-- `one_count`: the number of evaluations is determined
pub one_count : (counts : List ℕ) (step limit : ℕ) (rows : List (List ℕ)) (a b : ℕ)
    → AreEvaluations counts step limit rows a → AreEvaluations counts step limit rows b → a ≡ b
one_count counts step limit rows a b of_a of_b =
    let ends = ends-same _ _ limit (number_at rows) _ _ of_a.filled.least of_b.filled.least in
    of_a.asked ∙ (calls-same (number_at of_a.ends) (number_at of_b.ends) _ limit ends ∙ sym of_b.asked)
