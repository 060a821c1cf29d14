-- A fault is shown by its name, and its line after it.
use Rattle.std.proofs.Common.{◌≡◌, ◌++◌, ◌∙◌, List, ℕ, [], ◌∷◌, ap, refl, sym, append-nil, append_assoc, codes}
use Rattle.std.specs.Fmt.{decimal, digits}
use Rattle.mte_engine.specs.{FaultLines.{line_of_fault, line_of_tool_fault}, FaultText.{fault_name, in_line, input_fault_name, line_text}}
use Rattle.mte_engine.specs.FaultText.{fault_line, shown_fault, shown_input_fault}
use Rattle.mte_engine.specs.declared.fault.{InputFault.{InputFault}, ToolFault.{ToolFault}}
use Rattle.mte_engine.specs.declared.fault.InputFault.TheVariants.{TooLong, Table, BadSheet, BadFit, Profile, History, Timeline, Trace}
use Rattle.mte_engine.specs.declared.fault.ToolFault.TheVariants.{OutOfMemory, Input, ReadFault, WriteFault}

named : (name : List ℕ) (line : ℕ) → name ++ (codes " line " ++ decimal line) ≡ in_line name line
named name line = sym (append_assoc name (codes " line ") (decimal line))

at_line_1 : (name : List ℕ) → name ++ (codes " line " ++ decimal 1) ≡ name ++ codes " line 1"
unfolding digits
at_line_1 name = refl

input_shown : (fault : InputFault) → input_fault_name fault ++ line_text (line_of_fault fault) ≡ shown_input_fault fault
input_shown TooLong = append-nil (codes "80 InputTooLong")
input_shown (Table fault) = at_line_1 (input_fault_name (Table fault))
input_shown (BadSheet line) = named (codes "48 BadSheet") line
input_shown (BadFit line) = named (codes "36 BadFit") line
input_shown (Profile line fault) = named (input_fault_name (Profile line fault)) line
input_shown (History line fault) = named (input_fault_name (History line fault)) line
input_shown (Timeline line fault) = named (input_fault_name (Timeline line fault)) line
input_shown (Trace line fault) = named (input_fault_name (Trace line fault)) line

pub name_and_line : (fault : ToolFault) → fault_name fault ++ line_text (line_of_tool_fault fault) ≡ shown_fault fault
name_and_line OutOfMemory = append-nil (codes "1 OutOfMemory")
name_and_line (Input fault) = input_shown fault
name_and_line ReadFault = append-nil (codes "81 ReadFault")
name_and_line WriteFault = append-nil (codes "82 WriteFault")

-- the line of a fault, piece by piece
pub pieces_of_line : (fault : ToolFault) (first named lined whole name : List ℕ) → first ≡ codes "error " → named ≡ first ++ name
    → name ≡ fault_name fault → lined ≡ named ++ line_text (line_of_tool_fault fault) → whole ≡ lined ++ 10 ∷ [] → whole ≡ fault_line fault
pieces_of_line fault first named lined whole name begins then-name is then-line ends =
    let line = line_text (line_of_tool_fault fault) in
    ends
    ∙ ap (λ (t : List ℕ). t ++ 10 ∷ []) (then-line
    ∙ ap (λ (t : List ℕ). t ++ line) (then-name ∙ ap (λ (t : List ℕ). t ++ name) begins ∙ ap (λ (t : List ℕ). codes "error " ++ t) is)
    ∙ append_assoc (codes "error ") (fault_name fault) line ∙ ap (λ (t : List ℕ). codes "error " ++ t) (name_and_line fault))
    ∙ append_assoc (codes "error ") (shown_fault fault) (10 ∷ [])
