-- Windows of a run: histories that close in what a table takes over it from both sides, however long the run is.
use Rattle.std.specs.{List.{AllZip, range_with_len}, Prelude.{ℕ, ◌+◌, ◌-◌, ◌≤◌, List, length, map, Contains}}
use Rattle.tuner_theory.specs.{Histories.{AreSnapshots, peaks}, Timelines.{AreMoments, history_at, snapshot_at}}
use Rattle.tuner_theory.specs.declared.size_event.SizeEvent.{SizeEvent}

-- A lower history of a run: some of its moments, which are written as a history. The run may be longer than a timeline.
pub record IsLowerHistory (events : List SizeEvent) (numbers : List ℕ) : Type 0 where
  pub moments : AreMoments events numbers
  pub snapshots : AreSnapshots (history_at events numbers)

-- An upper history of a run: at each moment one of its snapshots has at least as many blocks of every size.
abbrev pub IsUpperHistory : List SizeEvent → List (List ℕ) → Type 0
IsUpperHistory events upper =
    (moment : ℕ) → moment ≤ length events
    → (snapshot : List ℕ) × Contains upper snapshot × AllZip (λ live most. live ≤ most) (snapshot_at events moment) snapshot

-- A window of a run: its moments from one to another, by their numbers;
pub record Window : Type 0 where
  pub first : ℕ
  pub last : ℕ

-- and of each size the most blocks that are live at one of them.
abbrev pub most_in : List SizeEvent → Window → List ℕ
most_in events window = peaks (map (snapshot_at events) (range_with_len window.first (window.last + 1 - window.first)))

-- Windows of a run: each moment lies in one of them.
abbrev pub AreWindows : List SizeEvent → List Window → Type 0
AreWindows events windows =
    (moment : ℕ) → moment ≤ length events
    → (window : Window) × Contains windows window × (window.first ≤ moment) × (moment ≤ window.last)
