-- What the error stream was told.
use Rattle.std.specs.Prelude.{◌≡◌, ◌⊎◌, ◌<◌, ℕ, List, [], ◌++◌, codes}
use Rattle.byte_streams.specs.Streams.{SinkState}
use Rattle.command_words.specs.{FaultText.{shown_option_fault}, declared.refusal.OptionFault.{OptionFault}}
use Rattle.line_text.specs.Lines.{ended}
use Rattle.mte_engine.specs.{FaultText.{fault_line}, declared.fault.ToolFault.{ToolFault}}
use Rattle.mte_tool.specs.declared.lines.Piece.{Piece}

abbrev pub left_of : Piece → List ℕ
left_of p = p.left.now

-- The text begins with this one.
abbrev pub BeginsWith : List ℕ → List ℕ → Type 0
BeginsWith text start = (rest : List ℕ) × (text ≡ start ++ rest)

-- The stream took this text; or what it begins with, and then a write failed.
pub record Tells (text : List ℕ) (old new : SinkState) : Type 0 where
  pub told : List ℕ
  pub written : new.written ≡ old.written ++ told
  pub whole : ((told ≡ text) × (new.failed ≡ old.failed)) ⊎ (BeginsWith text told × (old.failed < new.failed))

-- The stream has taken nothing, and no write failed.
pub record IsSilent (errors : SinkState) : Type 0 where
  pub written : errors.written ≡ []
  pub no_write_failed : errors.failed ≡ 0

-- The line of an option's fault.
abbrev pub option_line : OptionFault → List ℕ
option_line fault = ended (codes "error " ++ shown_option_fault fault)

-- The line that says that the program waits for its input.
abbrev pub waiting_line : List ℕ
waiting_line = ended (codes "mte_tool: reading standard input; Ctrl-D ends it, and `--help` after the command says what it takes")

-- All that the stream has taken is nothing or the line that says that the program waits; or what this line begins with, and then a write
-- failed.
pub record IsWaitingAtMost (errors : SinkState) : Type 0 where
  pub begins : BeginsWith waiting_line errors.written
  pub whole : errors.failed ≡ 0 → (errors.written ≡ []) ⊎ (errors.written ≡ waiting_line)

-- After that it was told this text, and nothing else.
abbrev pub WasTold : SinkState → List ℕ → Type 0
WasTold errors text = (before : SinkState) × IsWaitingAtMost before × Tells text before errors

abbrev pub WasToldFault : SinkState → ToolFault → Type 0
WasToldFault errors fault = WasTold errors (fault_line fault)
