-- How a refusal is shown: by its code and its name.
use Rattle.std.specs.Prelude.{ℕ, List, codes}
use Rattle.tuner_theory.specs.declared.verdict.Refusal.{Refusal}
use Rattle.tuner_theory.specs.declared.verdict.Refusal.TheVariants.{LastClass, StageDrop, Edge, NotTight, OffStep, OverLimit, NotServing}
use Rattle.tuner_theory.specs.declared.verdict.Refusal.TheVariants.{WasteWrong, Shape}

abbrev pub shown_refusal : Refusal → List ℕ
shown_refusal OffStep = codes "39 OffStep"
shown_refusal OverLimit = codes "40 OverLimit"
shown_refusal NotServing = codes "41 NotServing"
shown_refusal WasteWrong = codes "42 WasteWrong"
shown_refusal Shape = codes "43 Shape"
shown_refusal LastClass = codes "44 LastClass"
shown_refusal StageDrop = codes "45 StageDrop"
shown_refusal Edge = codes "46 Edge"
shown_refusal NotTight = codes "47 NotTight"

-- A refusal of a fit has the same text, but for the cost that is wrong.
abbrev pub shown_fit_refusal : Refusal → List ℕ
shown_fit_refusal WasteWrong = codes "49 FootprintWrong"
shown_fit_refusal refusal = shown_refusal refusal
