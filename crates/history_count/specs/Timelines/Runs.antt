-- Runs as a text spells them: all sizes above the largest that is counted go by one size, and their frees find live blocks too.
use Rattle.std.specs.Prelude.{◌≡◌, ℕ, ◌+◌, ◌-◌, ◌<◌, ◌≤◌, List, length, take, slice_index, All}
use Rattle.class_table.specs.Sizes.{largest_counted}
use Rattle.tuner_theory.specs.{Profiles.{greatest_count}, Timelines.{freed, requested}, declared.size_event.SizeEvent.{SizeEvent}}
use Rattle.tuner_theory.specs.declared.size_event.SizeEvent.TheVariants.{Request, Free}

-- The size by which all larger blocks go, in bytes.
abbrev pub large_size : ℕ
large_size = largest_counted + 1

abbrev pub size_of : SizeEvent → ℕ
size_of (Request n) = n
size_of (Free n) = n

-- How many blocks of an event's size are live after it, where so many were before.
abbrev pub after_event : SizeEvent → ℕ → ℕ
after_event (Request n) count = count + 1
after_event (Free n) count = count - 1

-- The same in two steps: first the count with a request, then without what is freed.
abbrev pub raised : SizeEvent → ℕ → ℕ
raised (Request n) count = count + 1
raised (Free n) count = count

abbrev pub lowered : SizeEvent → ℕ → ℕ
lowered (Request n) count = count
lowered (Free n) count = count - 1

-- A free needs a live block.
abbrev pub may_come : SizeEvent → ℕ → Type 0
may_come (Request n) count = Unit {0}
may_come (Free n) count = 0 < count

-- Each free finds a live block of its size.
pub record IsRun (events : List SizeEvent) : Type 0 where
  pub few : length events ≤ greatest_count
  pub sizes : All (λ event. size_of event ≤ large_size) events
  pub live : (moment n : ℕ) → freed (take moment events) n ≤ requested (take moment events) n

-- How many blocks of each size are live after these events.
pub record AreLiveCounts (events : List SizeEvent) (live : List ℕ) : Type 0 where
  pub few : length events ≤ greatest_count
  pub len : length live ≡ large_size + 1
  pub balance : (n : ℕ) → n ≤ large_size → slice_index live n + freed events n ≡ requested events n
