-- What takes the lines of a history as they are read.
use Rattle.std.specs.Prelude.{◌≡◌, ℕ, ◌≤◌, List, All, length, Result, Ok, Err}
use Rattle.tuner_theory.specs.Profiles.{greatest_count}
use Rattle.history_count.specs.Histories.{History}
use Rattle.history_count.specs.declared.fault.{HistoryError.{HistoryError}, HistoryError.TheVariants.{OutOfMemory, Line}}
use Rattle.history_count.specs.declared.fault.{HistoryFault.{HistoryFault}}

-- What was taken spells snapshots of this number, and none of the lines is of this size or of a larger one.
pub record CanTake (HasTaken : List (List ℕ) → ℕ → Type 0) (size count : ℕ) : Type 0 where
  pub snapshots : List (List ℕ)
  pub next : ℕ
  pub taken : HasTaken snapshots next
  pub order : next ≤ size
  pub width : length snapshots ≡ count

-- What was taken is the snapshots of the history that was read, and these are its counts of large blocks.
pub record IsReadInto (HasTaken : List (List ℕ) → ℕ → Type 0) (read : Result History (ℕ × HistoryFault)) (large : List ℕ) : Type 0 where
  pub snapshots : List (List ℕ)
  pub next : ℕ
  pub taken : HasTaken snapshots next
  pub width : length snapshots ≡ length large
  pub few : All (λ count. count ≤ greatest_count) large
  pub is : read ≡ Ok (record { snapshots = snapshots; large = large })

-- Memory ran out, or this is the first faulty line with its fault.
abbrev pub IsFaultOf : HistoryError → Result History (ℕ × HistoryFault) → Type 0
IsFaultOf OutOfMemory read = Unit {0}
IsFaultOf (Line number fault) read = read ≡ Err (number, fault)
