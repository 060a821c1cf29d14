-- What `peaks` writes after `live` and `freed`, event by event.
use Rattle.std.specs.{Option.{option_map_or}}
use Rattle.std.specs.Prelude.{◌≡◌, ℕ, zero, suc, ◌+◌, ◌-◌, ◌*◌, ◌≤◌, if◌then◌else◌, List, slice_index_or, sum_by, take}
use Rattle.class_table.specs.{Sizes.{granule_bytes}, Tables.{class_for}}
use Rattle.tuner_theory.specs.{Footprint.{is_class_of}, declared.size_event.SizeEvent.{SizeEvent}}
use Rattle.tuner_theory.specs.declared.size_event.SizeEvent.TheVariants.{Request, Free}

-- The greatest of the amounts at these moments: none is more, and one is as much.
pub record IsGreatestTo (amount : ℕ → ℕ) (last much : ℕ) : Type 0 where
  pub bound : (moment : ℕ) → moment ≤ last → amount moment ≤ much
  pub reached : (moment : ℕ) × (moment ≤ last) × (amount moment ≡ much)

-- The bytes of the block that a size gets: those of its class; none where it has no class.
abbrev pub block_bytes : List ℕ → ℕ → ℕ
block_bytes classes n = granule_bytes * option_map_or (λ class. class) (class_for classes n) 0

-- The bytes that an event gives out, and those that it takes back.
abbrev pub bytes_given : List ℕ → SizeEvent → ℕ
bytes_given classes (Request n) = block_bytes classes n
bytes_given classes (Free n) = 0

abbrev pub bytes_taken : List ℕ → SizeEvent → ℕ
bytes_taken classes (Request n) = 0
bytes_taken classes (Free n) = block_bytes classes n

-- The bytes that are given out and not taken back, after so many events.
abbrev pub bytes_out : List ℕ → List SizeEvent → ℕ → ℕ
bytes_out classes events moment = sum_by (bytes_given classes) (take moment events) - sum_by (bytes_taken classes) (take moment events)

-- The freed blocks of a class, after an event and so many before it: a request of the class is given one of them, if there is one, and a
-- free leaves one more.
abbrev pub pool_after : List ℕ → ℕ → SizeEvent → ℕ → ℕ
pool_after classes class (Request n) pool = if is_class_of classes class n then pool - 1 else pool
pool_after classes class (Free n) pool = if is_class_of classes class n then pool + 1 else pool

-- The same after so many events,
abbrev pub pool_at : List ℕ → List SizeEvent → ℕ → ℕ → ℕ
pool_at classes events class zero = 0
pool_at classes events class (suc moment) =
    pool_after classes class (slice_index_or events moment (Free 0)) (pool_at classes events class moment)

-- and of all classes together.
abbrev pub freed_at : List ℕ → List SizeEvent → ℕ → ℕ
freed_at classes events moment = sum_by (λ class. pool_at classes events class moment) classes
