-- The code that orders a refusal is the one that its text shows.
use Rattle.std.{proofs.Common.{◌≡◌, take, arith}, specs.Str.Parse.{digits_value}}
use Rattle.tuner_theory.specs.{RefusalText.{shown_refusal}, Sheets.{code_of}, declared.verdict.Refusal.{Refusal}}

pub code-shown : (refusal : Refusal) → digits_value 10 (take 2 (shown_refusal refusal)) ≡ code_of refusal
code-shown refusal = grind arith
