-- Lists of calls on a heap, and the timeline that they are: by size alone, and of those that are answered.
use Rattle.std.specs.Prelude.{◌≡◌, ℕ, ◌==◌, nat_le, Bool, if◌then◌else◌, List, [], ◌∷◌, ◌++◌, filter, length, ◌≤◌, Result, Ok, Err, IsOk, ⊤}
use Rattle.class_table.specs.{Layout.{IsPartition, Partition}, Sizes.{largest_counted}}
use Rattle.heap_theory.specs.Calls.{malloc_step, calloc_step, free_step, realloc_step, store_step}
use Rattle.heap_theory.specs.{Lookups.{Chunk, chunk_at}, State.{Heap, first_heap}, declared.refusal.FreeError.{FreeError}}
use Rattle.tuner_theory.specs.Profiles.{greatest_count}
use Rattle.tuner_theory.specs.declared.size_event.{SizeEvent.{SizeEvent}, SizeEvent.TheVariants.{Request, Free}}

-- A call on a heap.
pub data Call : Type 0 where
  Malloc : (size : ℕ) → Call
  Calloc : (size : ℕ) → Call
  Realloc : (pointer size : ℕ) → Call
  Release : (pointer : ℕ) → Call
  Store : (address : ℕ) (bytes : List ℕ) → Call

-- what it leaves of the heap
abbrev pub heap_after : Heap → Call → Heap
heap_after heap (Malloc n) = (malloc_step heap n).heap
heap_after heap (Calloc n) = (calloc_step heap n).heap
heap_after heap (Realloc p n) = (realloc_step heap p n).heap
heap_after heap (Release p) = (free_step heap p).heap
heap_after heap (Store address bytes) = store_step heap address bytes

-- It is not refused: a request gets a block, and a free or a realloc is of null or of the pointer of a live block.
abbrev pub IsAnswered : Heap → Call → Type 0
IsAnswered heap (Malloc n) = IsOk (malloc_step heap n).answer
IsAnswered heap (Calloc n) = IsOk (calloc_step heap n).answer
IsAnswered heap (Realloc p n) = IsOk (realloc_step heap p n).answer
IsAnswered heap (Release p) = IsOk (free_step heap p).answer
IsAnswered heap (Store address bytes) = ⊤

-- ---- by size alone

-- the events of a call with this answer: none where it is refused, as then it changes nothing
abbrev pub if_answered : {A E : Type 0} → Result A E → List SizeEvent → List SizeEvent
if_answered (Ok answer) events = events
if_answered (Err error) events = []

abbrev pub free_of : Result Chunk FreeError → List SizeEvent
free_of (Ok chunk) = Free chunk.size ∷ []
free_of (Err error) = []

-- the free of the block at a pointer; none at null, and none where the pointer names no live block
abbrev pub free_at : Heap → ℕ → List SizeEvent
free_at heap p = if p == 0 then [] else free_of (chunk_at heap p)

-- The events of a call. A realloc is a free and then a request: in this order, since a realloc in place has one block at each moment, and
-- one that moves has its two blocks in two classes.
abbrev pub events_of : Heap → Call → List SizeEvent
events_of heap (Malloc n) = if_answered (malloc_step heap n).answer (Request n ∷ [])
events_of heap (Calloc n) = if_answered (calloc_step heap n).answer (Request n ∷ [])
events_of heap (Realloc p n) = if_answered (realloc_step heap p n).answer (free_at heap p ++ Request n ∷ [])
events_of heap (Release p) = free_at heap p
events_of heap (Store address bytes) = []

-- Whether a size is one that is counted. Larger ones count for nothing: the heap refuses them.
abbrev pub is_counted : SizeEvent → Bool
is_counted (Request n) = nat_le n largest_counted
is_counted (Free n) = nat_le n largest_counted

abbrev pub counted_events : List SizeEvent → List SizeEvent
counted_events events = filter is_counted events

-- ---- lists of calls

-- The timeline of some calls, one after the other.
abbrev pub timeline_of : Heap → List Call → List SizeEvent
timeline_of heap [] = []
timeline_of heap (call ∷ calls) = events_of heap call ++ timeline_of (heap_after heap call) calls

abbrev pub AreAnswered : Heap → List Call → Type 0
AreAnswered heap [] = ⊤
AreAnswered heap (call ∷ calls) = IsAnswered heap call × AreAnswered (heap_after heap call) calls

abbrev pub heap_after_all : Heap → List Call → Heap
heap_after_all heap [] = heap
heap_after_all heap (call ∷ calls) = heap_after_all (heap_after heap call) calls

-- A new heap with this layout, seed and limit of its quarantine, and what some calls leave of it.
abbrev pub heap_of : Partition → ℕ → ℕ → List Call → Heap
heap_of layout seed limit calls = heap_after_all (first_heap layout seed limit) calls

-- A new heap runs through these events by these calls: what it answers of the calls is by size alone what the events count.
pub record IsRun (layout : Partition) (seed limit : ℕ) (calls : List Call) (events : List SizeEvent) : Type 0 where
  pub partition : IsPartition layout
  pub few : length events ≤ greatest_count
  pub timeline : timeline_of (first_heap layout seed limit) calls ≡ counted_events events
