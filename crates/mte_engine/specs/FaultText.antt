-- How a fault is shown: by its code and its name, and by its line where it has one.
use Rattle.std.specs.{Fmt.{decimal}, Prelude.{ℕ, List, [], ◌++◌, Option, Some, None, codes}}
use Rattle.class_table.specs.FaultText.{shown_table_error}
use Rattle.history_count.specs.{FaultText.{shown_history_fault}, Timelines.FaultText.{shown_timeline_fault}}
use Rattle.line_text.specs.Lines.{ended}
use Rattle.profile_count.specs.FaultText.{shown_profile_fault}
use Rattle.trace_reader.specs.FaultText.{shown_trace_fault}
use Rattle.mte_engine.specs.declared.fault.{InputFault.{InputFault}, ToolFault.{ToolFault}}
use Rattle.mte_engine.specs.declared.fault.InputFault.TheVariants.{TooLong, Table, BadSheet, BadFit, Profile, History, Timeline, Trace}
use Rattle.mte_engine.specs.declared.fault.ToolFault.TheVariants.{OutOfMemory, Input, ReadFault, WriteFault}

-- A fault in a line of the input.
abbrev pub in_line : List ℕ → ℕ → List ℕ
in_line fault line = fault ++ codes " line " ++ decimal line

-- The code and the name of a fault of an input, without its line.
abbrev pub input_fault_name : InputFault → List ℕ
input_fault_name TooLong = codes "80 InputTooLong"
input_fault_name (Table fault) = shown_table_error fault
input_fault_name (BadSheet line) = codes "48 BadSheet"
input_fault_name (BadFit line) = codes "36 BadFit"
input_fault_name (Profile line fault) = shown_profile_fault fault
input_fault_name (History line fault) = shown_history_fault fault
input_fault_name (Timeline line fault) = shown_timeline_fault fault
input_fault_name (Trace line fault) = shown_trace_fault fault

abbrev pub shown_input_fault : InputFault → List ℕ
shown_input_fault TooLong = codes "80 InputTooLong"
shown_input_fault (Table fault) = shown_table_error fault ++ codes " line 1"
shown_input_fault (BadSheet line) = in_line (codes "48 BadSheet") line
shown_input_fault (BadFit line) = in_line (codes "36 BadFit") line
shown_input_fault (Profile line fault) = in_line (shown_profile_fault fault) line
shown_input_fault (History line fault) = in_line (shown_history_fault fault) line
shown_input_fault (Timeline line fault) = in_line (shown_timeline_fault fault) line
shown_input_fault (Trace line fault) = in_line (shown_trace_fault fault) line

abbrev pub shown_fault : ToolFault → List ℕ
shown_fault OutOfMemory = codes "1 OutOfMemory"
shown_fault (Input fault) = shown_input_fault fault
shown_fault ReadFault = codes "81 ReadFault"
shown_fault WriteFault = codes "82 WriteFault"

-- The same without the line.
abbrev pub fault_name : ToolFault → List ℕ
fault_name OutOfMemory = codes "1 OutOfMemory"
fault_name (Input fault) = input_fault_name fault
fault_name ReadFault = codes "81 ReadFault"
fault_name WriteFault = codes "82 WriteFault"

-- What follows the name, where a fault has a line.
abbrev pub line_text : Option ℕ → List ℕ
line_text None = []
line_text (Some line) = codes " line " ++ decimal line

-- The line that tells a fault.
abbrev pub fault_line : ToolFault → List ℕ
fault_line fault = ended (codes "error " ++ shown_fault fault)
