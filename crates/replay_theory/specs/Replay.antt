-- The replay of a trace over 1,024 variables: what each event does, and its result.
use Rattle.std.specs.Prelude.{ℕ, ◌+◌, Bool, true, false, ◌||◌, IsTrue, List, [], ◌∷◌, replicate, fold, slice_set, slice_index, Option, Some}
use Rattle.std.specs.{Prelude.{None, Result, Ok, Err}, Result.{result_unwrap_or}}
use Rattle.machine_theory.specs.{Access.{access_fault, loaded}, Address.{moved_by}, Instructions.{addg, subg}, declared.fault.Fault.{Fault}}
use Rattle.machine_theory.specs.declared.fault.Fault.TheVariants.{Unmapped, Alignment, TagCheck}
use Rattle.class_table.specs.Layout.{Partition}
use Rattle.trace_event.specs.declared.event.{Event.{Event}, Event.TheVariants.{Malloc, Calloc, Realloc, Free, Load, Store, Addg, Subg}}
use Rattle.trace_event.specs.declared.event.TheConstants.Event.{LAST_VARIABLE}
use Rattle.heap_theory.specs.{Calls.{malloc_step, calloc_step, free_step, realloc_step, store_step}, GranuleKinds.{place_kind}}
use Rattle.heap_theory.specs.{State.{Heap, first_heap}, declared.place_kind.PlaceKind.{PlaceKind}, declared.refusal.FreeError.{FreeError}}
use Rattle.heap_theory.specs.declared.refusal.{NullCause.{NullCause}, NullCause.TheVariants.{Large, NoClass, Exhausted}}
use Rattle.heap_theory.specs.declared.refusal.{ReallocError.{ReallocError}, ReallocError.TheVariants.{Null, Refused}}

-- A replay: the heap, and the variables' values.
pub record Replay : Type 0 where
  pub heap : Heap
  pub variables : List ℕ

abbrev pub variable : Replay → ℕ → ℕ
variable replay v = slice_index replay.variables v

-- the result of an event; a silent one has no line in the report
pub data Answer : Type 0 where
  Silent : Answer
  Loaded : List ℕ → Answer
  NotMapped : Answer
  TagFault : (granule memory_tag pointer_tag : ℕ) (kind : PlaceKind) → Answer
  NoPointer : NullCause → Answer
  NotFreed : FreeError → Answer

-- ---- tests of a result

abbrev pub is_silent : Answer → Bool
is_silent Silent = true
is_silent other = false

-- a request that was refused, for each cause
abbrev pub is_large : Answer → Bool
is_large (NoPointer Large) = true
is_large other = false

abbrev pub is_no_class : Answer → Bool
is_no_class (NoPointer NoClass) = true
is_no_class other = false

abbrev pub is_exhausted : Answer → Bool
is_exhausted (NoPointer Exhausted) = true
is_exhausted other = false

-- a free or a realloc whose pointer was refused
abbrev pub is_refused : Answer → Bool
is_refused (NotFreed error) = true
is_refused other = false

-- an access that was a fault, for each kind, and of either kind
abbrev pub is_unmapped : Answer → Bool
is_unmapped NotMapped = true
is_unmapped other = false

abbrev pub is_tag_fault : Answer → Bool
is_tag_fault (TagFault granule memory_tag pointer_tag kind) = true
is_tag_fault other = false

abbrev pub IsFaultAnswer : Answer → Type 0
IsFaultAnswer answer = IsTrue (is_unmapped answer || is_tag_fault answer)

-- ---- what an event leaves

unfoldable pub heap_after : Replay → Event → Heap
heap_after replay (Malloc v n) = (malloc_step replay.heap n).heap
heap_after replay (Calloc v n) = (calloc_step replay.heap n).heap
heap_after replay (Realloc v n) = (realloc_step replay.heap (variable replay v) n).heap
heap_after replay (Free v) = (free_step replay.heap (variable replay v)).heap
heap_after replay (Store v off len byte) = store_step replay.heap (moved_by (variable replay v) off) (replicate len byte)
heap_after replay other = replay.heap

unfoldable pub variables_after : Replay → Event → List ℕ
variables_after replay (Malloc v n) = slice_set replay.variables v (result_unwrap_or (malloc_step replay.heap n).answer 0)
variables_after replay (Calloc v n) = slice_set replay.variables v (result_unwrap_or (calloc_step replay.heap n).answer 0)
variables_after replay (Realloc v n) =
    slice_set replay.variables v (result_unwrap_or (realloc_step replay.heap (variable replay v) n).answer (variable replay v))
variables_after replay (Addg v w u6 u4) = slice_set replay.variables v (addg (variable replay w) u6 u4)
variables_after replay (Subg v w u6 u4) = slice_set replay.variables v (subg (variable replay w) u6 u4)
variables_after replay other = replay.variables

unfoldable pub replay_after : Replay → Event → Replay
replay_after replay event = record { heap = heap_after replay event; variables = variables_after replay event }

-- ---- an event's result

-- an access meets no Alignment fault
abbrev pub fault_answer : Heap → Fault → Answer
fault_answer heap Unmapped = NotMapped
fault_answer heap Alignment = NotMapped
fault_answer heap (TagCheck granule memory_tag pointer_tag) = TagFault granule memory_tag pointer_tag (place_kind heap granule)

abbrev pub access_answer : Heap → Answer → Option Fault → Answer
access_answer heap done None = done
access_answer heap done (Some fault) = fault_answer heap fault

abbrev pub malloc_answer : Result ℕ NullCause → Answer
malloc_answer (Ok p) = Silent
malloc_answer (Err cause) = NoPointer cause

abbrev pub free_answer : Result (Unit {0}) FreeError → Answer
free_answer (Ok done) = Silent
free_answer (Err error) = NotFreed error

abbrev pub realloc_answer : Result ℕ ReallocError → Answer
realloc_answer (Ok p) = Silent
realloc_answer (Err (Null cause)) = NoPointer cause
realloc_answer (Err (Refused error)) = NotFreed error

abbrev pub load_answer : Heap → ℕ → ℕ → Answer
load_answer heap address len = access_answer heap (Loaded (loaded heap.memory address len)) (access_fault heap.memory address len)

abbrev pub store_answer : Heap → ℕ → ℕ → Answer
store_answer heap address len = access_answer heap Silent (access_fault heap.memory address len)

unfoldable pub answer_of : Replay → Event → Answer
answer_of replay (Malloc v n) = malloc_answer (malloc_step replay.heap n).answer
answer_of replay (Calloc v n) = malloc_answer (calloc_step replay.heap n).answer
answer_of replay (Realloc v n) = realloc_answer (realloc_step replay.heap (variable replay v) n).answer
answer_of replay (Free v) = free_answer (free_step replay.heap (variable replay v)).answer
answer_of replay (Load v off len) = load_answer replay.heap (moved_by (variable replay v) off) len
answer_of replay (Store v off len byte) = store_answer replay.heap (moved_by (variable replay v) off) len
answer_of replay (Addg v w u6 u4) = Silent
answer_of replay (Subg v w u6 u4) = Silent

-- ---- whole traces

-- A new heap, and all variables null.
unfoldable pub first_replay : Partition → ℕ → ℕ → Replay
first_replay layout seed quarantine = record { heap = first_heap layout seed quarantine; variables = replicate (LAST_VARIABLE + 1) 0 }

-- The results of events, one after the other.
unfoldable pub answers : Replay → List Event → List Answer
answers replay [] = []
answers replay (event ∷ events) = answer_of replay event ∷ answers (replay_after replay event) events

-- What they leave.
unfoldable pub replay_of : Replay → List Event → Replay
replay_of replay events = fold replay_after replay events
