-- How a refusal over a timeline is shown: by its code and its name.
use Rattle.std.specs.Prelude.{ℕ, List, codes}
use Rattle.tuner_theory.specs.RefusalText.{shown_fit_refusal}
use Rattle.potential_check.specs.declared.footprints.timelines.verdict.OverRefusal.{OverRefusal}
use Rattle.potential_check.specs.declared.footprints.timelines.verdict.OverRefusal.TheVariants.{NotMoments, OfFit}

abbrev pub shown_over_refusal : OverRefusal → List ℕ
shown_over_refusal NotMoments = codes "53 NotMoments"
shown_over_refusal (OfFit refusal) = shown_fit_refusal refusal
