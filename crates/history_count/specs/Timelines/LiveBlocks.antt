-- What is counted of the blocks of each class, event by event.
use Rattle.std.specs.Prelude.{◌≡◌, ◌≢◌, Bool, ℕ, Some, ◌+◌, ◌*◌, ◌^◌, ◌<◌, ◌≤◌, if◌then◌else◌, nat_lt, List, length, map, slice_index}
use Rattle.std.specs.Prelude.{slice_set}
use Rattle.class_table.specs.{Sizes.{granule_bytes, largest_counted}, Tables.{class_number_for}}
use Rattle.tuner_theory.specs.{Footprint.{blocks}, Histories.{most}, Timelines.{moments, most_to, snapshot_at}}
use Rattle.tuner_theory.specs.declared.size_event.{SizeEvent.{SizeEvent}, SizeEvent.TheVariants.{Request, Free}}
use Rattle.history_count.specs.declared.timelines.counting.{BlockMove.{BlockMove}, BlockMove.TheVariants.{Nothing, New, Again, Freed}}

-- The first moment at which a measure is so much, up to this one.
pub record IsFirst (measure : List ℕ → ℕ) (events : List SizeEvent) (moment much first : ℕ) : Type 0 where
  pub within : first ≤ moment
  pub there : measure (snapshot_at events first) ≡ much
  pub before : (earlier : ℕ) → earlier < first → measure (snapshot_at events earlier) < much

-- After so many events: for each class how many of its blocks are live, the most that were live so far, and the first moment at which so
-- many were.
pub record AreLive (events : List SizeEvent) (classes : List ℕ) (moment : ℕ) (live most firsts : List ℕ) : Type 0 where
  pub live_len : length live ≡ length classes
  pub most_len : length most ≡ length classes
  pub firsts_len : length firsts ≡ length classes
  pub live_at : (j : ℕ) → j < length classes
      → slice_index live j ≡ blocks classes (slice_index classes j) (snapshot_at events moment)
  pub most_at : (j : ℕ) → j < length classes
      → slice_index most j ≡ most_to (blocks classes (slice_index classes j)) events moment
  pub below : (j : ℕ) → j < length classes → slice_index live j ≤ slice_index most j
  pub small : (j : ℕ) → j < length classes → slice_index most j ≤ moment
  pub first_at : (j : ℕ) → j < length classes
      → IsFirst (blocks classes (slice_index classes j)) events moment (slice_index most j) (slice_index firsts j)

-- Each size that 16 bits hold has a place: the number of its class, or 255 where that is not known.
pub record AreKnown (classes known : List ℕ) : Type 0 where
  pub len : length known ≡ 2 ^ 16
  pub counted : (n : ℕ) → n < 2 ^ 16 → slice_index known n ≢ 255 → n ≤ largest_counted
  pub number : (n : ℕ) → n < 2 ^ 16 → slice_index known n ≢ 255 → class_number_for classes n ≡ Some (slice_index known n)
  pub within : (n : ℕ) → n < 2 ^ 16 → slice_index known n ≢ 255 → slice_index known n < length classes

-- The first moments where `newer` blocks of the class of this number are live at a moment, before which `much` was the most.
abbrev pub first_moved : ℕ → ℕ → ℕ → ℕ → List ℕ → List ℕ
first_moved much newer number moment firsts = if nat_lt much newer then slice_set firsts number moment else firsts

-- The counts but for that of this number, which is one more.
pub record IsOneMore (number : ℕ) (counts more : List ℕ) : Type 0 where
  pub within : number < length counts
  pub there : slice_index more number ≡ slice_index counts number + 1
  pub others : (j : ℕ) → j ≢ number → slice_index more j ≡ slice_index counts j

-- What an event does to the blocks of its class, of which it may make more than there were.
abbrev pub moved_by : SizeEvent → ℕ → Bool → BlockMove
moved_by (Request n) number is_more = if is_more then New number else Again number
moved_by (Free n) number is_more = Freed number

-- The same counts, one by one.
abbrev pub AreSame : List ℕ → List ℕ → Type 0
AreSame counts same = (j : ℕ) → slice_index same j ≡ slice_index counts j

-- What an event did to the live blocks of each class and to the most so far, `newer` and `greater` after it.
abbrev pub IsMoved : BlockMove → List ℕ → List ℕ → List ℕ → List ℕ → Type 0
IsMoved Nothing live most newer greater = AreSame live newer × AreSame most greater
IsMoved (New number) live most newer greater = IsOneMore number live newer × IsOneMore number most greater
IsMoved (Again number) live most newer greater = IsOneMore number live newer × AreSame most greater
IsMoved (Freed number) live most newer greater = IsOneMore number newer live × AreSame most greater

-- For each class the most of its blocks that are live at a moment.
abbrev pub most_blocks : List SizeEvent → List ℕ → List ℕ
most_blocks events classes = map (λ class. most (blocks classes class) (moments events)) classes

-- For each class the first moment at which so many of its blocks are live.
pub record AreFirsts (events : List SizeEvent) (classes firsts : List ℕ) : Type 0 where
  pub len : length firsts ≡ length classes
  pub first : (j : ℕ) → j < length classes
      → IsFirst (blocks classes (slice_index classes j)) events (length events)
      (most (blocks classes (slice_index classes j)) (moments events)) (slice_index firsts j)

-- What one class takes.
abbrev pub class_bytes : List SizeEvent → List ℕ → ℕ → ℕ
class_bytes events classes class = granule_bytes * class * most (blocks classes class) (moments events)
