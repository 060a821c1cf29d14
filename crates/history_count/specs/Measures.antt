-- What a table takes over a history, or the least counted size that it does not serve.
use Rattle.std.specs.Prelude.{◌≡◌, ℕ, ◌<◌, ◌^◌, List, Some, None}
use Rattle.profile_count.specs.Counts.{unserved_of}
use Rattle.tuner_theory.specs.{Footprint.{footprint_of}, Histories.{peaks}}
use Rattle.history_count.specs.declared.class_sums.TableFootprint.{TableFootprint}
use Rattle.history_count.specs.declared.class_sums.TableFootprint.TheVariants.{Bytes, Unserved}

abbrev pub Measures : List ℕ → List (List ℕ) → TableFootprint → Type 0
Measures table snapshots (Bytes bytes) =
    (unserved_of (peaks snapshots) table ≡ None) × (bytes ≡ footprint_of snapshots table) × (bytes < 2 ^ 58)
Measures table snapshots (Unserved size) = unserved_of (peaks snapshots) table ≡ Some size
