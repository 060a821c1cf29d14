-- The handle to a text.
use mathlib.Core.Path.{refl}
use Rattle.handed_text.proofs.LawLemmas.Handles.{HandleOf}
use Rattle.handed_text.specs.contracts.handle.Handle as Handle
use Rattle.handed_text.specs.contracts.held_text.HeldText as Held
use Rattle.handed_text.proofs.held_text.HeldText.TheLaws as held

abbrev pub K : HandleOf
K = record {
  held = Held.the_row;
  laws = held.the_row_laws;
  type = Handle.the_type;
  at = λ h. h.at;
  value = λ h. h.held;
  make = λ p o. record { at = p; held = o };
  at_made = λ p o. refl;
  value_made = λ p o. refl;
}
