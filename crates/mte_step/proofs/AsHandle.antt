-- The handle to a replay.
use mathlib.Core.Path.{refl}
use Rattle.handed_text.proofs.LawLemmas.Handles.{HandleOf}
use Rattle.mte_step.specs.contracts.stepper.Stepper as Stepper
use Rattle.mte_step.proofs.stepper.Stepper.TheLaws as stepper
use Rattle.mte_step.specs.contracts.slot.Slot as Slot

abbrev pub K : HandleOf
K = record {
  held = Stepper.the_row;
  laws = stepper.the_row_laws;
  type = Slot.the_type;
  at = λ h. h.at;
  value = λ h. h.value;
  make = λ p o. record { at = p; value = o };
  at_made = λ p o. refl;
  value_made = λ p o. refl;
}
