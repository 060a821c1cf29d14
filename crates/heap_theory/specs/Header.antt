-- The header of a slot: two words of 64 bits in its first granule, the lowest byte first. The fields are this project's own, not Scudo's.
use Rattle.std.specs.Int.{w64, to_le_bytes}
use Rattle.std.specs.Prelude.{ℕ, zero, suc, ◌+◌, ◌*◌, ◌/◌, ◌%◌, ◌^◌, ◌<◌, ◌==◌, if◌then◌else◌, Bool, List, ◌++◌, position, unwrap_or}
use Rattle.machine_theory.specs.{Memory.{Granule, word_at, written}, declared.sizes.TheConstants.{GRANULE_BYTES}}
use Rattle.class_table.specs.{Layout.{Partition, slot_of}, declared.table.TheConstants.{MOST_CLASSES}}
use Rattle.heap_theory.specs.State.{State, Heap, state_at, last_tag, is_released, mark_of}
use Rattle.heap_theory.specs.State.State.{Fresh as NeverGiven, Live as Given, Dead}

-- The state of a slot: fresh, live, dead and in the quarantine, or dead and in its class's list.
pub data Standing : Type 0 where
  Fresh : Standing
  Live : Standing
  Quarantined : Standing
  Freed : Standing

-- A header. The size, the tag and the mark are those of the slot's state, or 0; the class is given by its number; next is the number of
-- a slot plus one, or 0.
pub record Header : Type 0 where
  pub standing : Standing
  pub size : ℕ
  pub tag : ℕ
  pub class : ℕ
  pub next : ℕ
  pub mark : ℕ

-- the headers whose fields have room
pub record FitsWords (header : Header) : Type 0 where
  pub size : header.size < 2 ^ 14
  pub tag : header.tag < 16
  pub class : header.class < MOST_CLASSES
  pub next : header.next < 2 ^ 32
  pub mark : header.mark < 2 ^ 64

-- ---- the words

abbrev pub code_of : Standing → ℕ
code_of Fresh = 0
code_of Live = 1
code_of Quarantined = 2
code_of Freed = 3

abbrev pub standing_of : ℕ → Standing
standing_of zero = Fresh
standing_of (suc zero) = Live
standing_of (suc (suc zero)) = Quarantined
standing_of (suc (suc (suc code))) = Freed

-- bits 0 to 1 are the state, 2 to 15 the size, 16 to 19 the tag, 20 to 31 the class, and 32 to 63 next
abbrev pub first_word : Header → ℕ
first_word header = code_of header.standing + 2 ^ 2 * header.size + 2 ^ 16 * header.tag + 2 ^ 20 * header.class + 2 ^ 32 * header.next

abbrev pub second_word : Header → ℕ
second_word header = header.mark

-- The header that two words spell. In a slot's header the class is below 32, and so bits 25 to 31 are 0.
abbrev pub header_of : ℕ → ℕ → Header
header_of first second = record {
  standing = standing_of (first % 2 ^ 2);
  size = first / 2 ^ 2 % 2 ^ 14;
  tag = first / 2 ^ 16 % 2 ^ 4;
  class = first / 2 ^ 20 % 2 ^ 12;
  next = first / 2 ^ 32;
  mark = second;
}

-- ---- in memory

-- The header in a granule.
unfoldable pub header_at : List Granule → ℕ → Header
header_at memory granule = header_of (word_at memory (GRANULE_BYTES * granule)) (word_at memory (GRANULE_BYTES * granule + 8))

-- The memory with a header in a granule, whose tag stays.
unfoldable pub with_header : List Granule → ℕ → Header → List Granule
with_header memory granule header =
    written (GRANULE_BYTES * granule) (to_le_bytes w64 (first_word header) ++ to_le_bytes w64 (second_word header)) memory

-- ---- the headers of a heap

-- the state that a header shows
abbrev pub state_by : Standing → ℕ → ℕ → ℕ → State
state_by Fresh size tag mark = NeverGiven
state_by Live size tag mark = Given size tag
state_by Quarantined size tag mark = Dead size tag mark
state_by Freed size tag mark = Dead size tag mark

abbrev pub shown_state : Header → State
shown_state header = state_by header.standing header.size header.tag header.mark

abbrev pub size_of : State → ℕ
size_of NeverGiven = 0
size_of (Given size tag) = size
size_of (Dead size tag mark) = size

-- how a slot stands in a state, where this says whether a dead slot is in its class's list
abbrev pub standing_where : Bool → State → Standing
standing_where freed NeverGiven = Fresh
standing_where freed (Given size tag) = Live
standing_where freed (Dead size tag mark) = if freed then Freed else Quarantined

abbrev pub standing_in : Heap → State → Standing
standing_in heap state = standing_where (is_released heap state) state

-- the number of a slot's class, from 0
abbrev pub class_number : Partition → ℕ → ℕ
class_number layout s = unwrap_or (position (λ class. class == (slot_of layout s).class) layout.classes) 0

-- the header of slot s of a layout, in this standing and state and with this link
abbrev pub header_with : Partition → ℕ → Standing → State → ℕ → Header
header_with layout s standing state next = record {
  standing = standing;
  size = size_of state;
  tag = last_tag state;
  class = class_number layout s;
  next = next;
  mark = mark_of state;
}

-- The header that a slot of the heap has, where its link is this one.
unfoldable pub header_for : Heap → ℕ → ℕ → Header
header_for heap s next = header_with heap.layout s (standing_in heap (state_at heap s)) (state_at heap s) next
