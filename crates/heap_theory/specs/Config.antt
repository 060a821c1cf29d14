-- What a heap is set up with.
use Rattle.std.specs.Prelude.{◌≢◌, ℕ, ◌≤◌, List}
use Rattle.class_table.specs.{Layout.{Partition}, declared.layout.TheConstants.{FEWEST_GRANULES, MOST_GRANULES}}
use Rattle.heap_theory.specs.declared.config.{Config.{Config}, TheConstants.Config.{MOST_QUARANTINE}}

-- A heap can be set up so: each number is in its range.
pub record IsConfig (config : Config) : Type 0 where
  pub granules : (FEWEST_GRANULES ≤ config.granules) × (config.granules ≤ MOST_GRANULES)
  pub seed : config.seed ≢ 0
  pub quarantine : config.quarantine ≤ MOST_QUARANTINE

-- The layout that it gets for a table: the table's classes over as many granules.
abbrev pub layout_for : Config → List ℕ → Partition
layout_for config table = record { classes = table; granules = config.granules }
