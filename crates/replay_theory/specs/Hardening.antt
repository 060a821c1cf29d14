-- What hardens the heap, said of a run. An access touches each granule that holds one of its bytes, whether the whole access is mapped or
-- not.
use Rattle.std.specs.Prelude.{◌≡◌, ◌⊎◌, ℕ, suc, ◌+◌, ◌-◌, ◌<◌, ◌≤◌, ℤ, nat_abs, List, length, slice_index, Some, None, IsSome, IsTrue}
use Rattle.machine_theory.specs.{Access.{access_fault}, Address.{place_of, moved_by, Holds, Touches}}
use Rattle.machine_theory.specs.declared.sizes.TheConstants.{LONGEST_ACCESS}
use Rattle.class_table.specs.Layout.{Covers}
use Rattle.trace_event.specs.declared.event.{Event.{Event}, TheConstants.Event.{FARTHEST_ACCESS}}
use Rattle.replay_theory.specs.{Replay.{variable}, Run.{Run, times_of, generation_of, run_after}}
use Rattle.heap_theory.specs.{GranuleKinds.{IsBookkeeping, IsChunkGranule, IsPayloadGranule, place_kind}, State.State.{Fresh, Live, Dead}}
use Rattle.heap_theory.specs.HeapTags.{ChunksAreTagged, HaveOtherParity, IsNullOrTagged, ParitiesDiffer}
use Rattle.heap_theory.specs.{OwnPointers.{IsOwnPointer, FreeAccepts, ReallocAccepts}, State.{State, IsLive, is_dead, slot_in, state_at}}

-- ---- accesses

-- The access of a load or a store through variable v.
pub record IsAccess (run : Run) (v : ℕ) (off : ℤ) (len address : ℕ) : Type 0 where
  pub near : nat_abs off ≤ FARTHEST_ACCESS
  pub some : 0 < len
  pub few : len ≤ LONGEST_ACCESS
  pub address_is : address ≡ moved_by (variable run.replay v) off

-- it is answered by a fault
abbrev pub Faults : Run → ℕ → ℕ → Type 0
Faults run address len = IsSome (access_fault run.replay.heap.memory address len)

-- it succeeds
abbrev pub Succeeds : Run → ℕ → ℕ → Type 0
Succeeds run address len = access_fault run.replay.heap.memory address len ≡ None

-- ---- generations

-- the variable has its address from the time-th giving-out of the slot
abbrev pub HasGeneration : Run → ℕ → ℕ → ℕ → Type 0
HasGeneration run v s time = generation_of run v ≡ Some (record { slot = s; time = time })

-- that generation is live
pub record IsLiveGeneration (run : Run) (s time : ℕ) : Type 0 where
  pub live : IsLive (state_at run.replay.heap s)
  pub times : times_of run s ≡ time

-- it was freed, and the next one was not
abbrev pub WasFreed : Run → ℕ → ℕ → Type 0
WasFreed run s time =
    (IsTrue (is_dead (state_at run.replay.heap s)) × (times_of run s ≡ time))
    ⊎ (IsLive (state_at run.replay.heap s) × (times_of run s ≡ suc time))

-- ---- tags

-- No chunk granule of the run's heap has tag 0, and those of slots of other parity differ.
abbrev pub ChunkTagsNotZero : Run → Type 0
ChunkTagsNotZero run = ChunksAreTagged run.replay.heap

abbrev pub ChunkTagsDiffer : Run → Type 0
ChunkTagsDiffer run = ParitiesDiffer run.replay.heap

-- ---- bookkeeping out of reach

-- Each variable is null or tagged.
abbrev pub AreNullOrTagged : List ℕ → Type 0
AreNullOrTagged variables = (v : ℕ) → IsNullOrTagged (slice_index variables v)

abbrev pub NullOrTagged : Run → Type 0
NullOrTagged run = AreNullOrTagged run.replay.variables

-- An access through any variable that touches slack, a header or a tail is a fault.
abbrev pub BookkeepingOutOfReach : Run → Type 0
BookkeepingOutOfReach run =
    (v : ℕ) (off : ℤ) (len address g : ℕ) → IsAccess run v off len address → g < length run.replay.heap.memory → Touches address len g →
    IsBookkeeping (place_kind run.replay.heap g) → Faults run address len

-- ---- inside, neighbours, freed

-- Through a variable whose generation is live, an access of bytes of its chunk succeeds.
abbrev pub InsideSucceeds : Run → Type 0
InsideSucceeds run =
    (v : ℕ) (off : ℤ) (len address s time : ℕ) → IsAccess run v off len address → HasGeneration run v s time → IsLiveGeneration run s time →
    ((i : ℕ) → i < len → (g : ℕ) × IsChunkGranule run.replay.heap s g × Holds g (place_of address + i)) → Succeeds run address len

-- Through a variable with a generation of a slot, an access that touches the payload of a slot of the other parity is a fault.
abbrev pub NeighboursFault : Run → Type 0
NeighboursFault run =
    (v : ℕ) (off : ℤ) (len address s time r g : ℕ) → IsAccess run v off len address → HasGeneration run v s time → HaveOtherParity s r →
    IsPayloadGranule run.replay.heap r g → Touches address len g → Faults run address len

-- Through a variable whose generation was freed, an access that touches its slot is a fault, until the next generation was freed too.
abbrev pub FreedFaults : Run → Type 0
FreedFaults run =
    (v : ℕ) (off : ℤ) (len address s time g : ℕ) → IsAccess run v off len address → HasGeneration run v s time → WasFreed run s time →
    Covers (slot_in run.replay.heap s) g → Touches address len g → Faults run address len

-- ---- own pointers

-- A variable whose generation is live has the own pointer of its chunk; so both calls accept it.
pub record IsAcceptedVariable (run : Run) (v s : ℕ) : Type 0 where
  pub own : IsOwnPointer run.replay.heap s (variable run.replay v)
  pub by_free : FreeAccepts run.replay.heap (variable run.replay v)
  pub by_realloc : (n : ℕ) → ReallocAccepts run.replay.heap (variable run.replay v) n

abbrev pub LiveVariablesAreAccepted : Run → Type 0
LiveVariablesAreAccepted run = (v s time : ℕ) → HasGeneration run v s time → IsLiveGeneration run s time → IsAcceptedVariable run v s

-- ---- copies

-- After ADDG or SUBG by 0 and 0 of a variable that has a generation, its copy is the same pointer, of the same generation.
pub record IsCopied (run copy : Run) (v w s time : ℕ) : Type 0 where
  pub value : variable copy.replay v ≡ variable run.replay w
  pub generation : HasGeneration copy v s time
  pub heap : copy.replay.heap ≡ run.replay.heap

abbrev pub PointersAreCopied : (ℕ → ℕ → Event) → Run → Type 0
PointersAreCopied copying run =
    (v w s time : ℕ) → v < length run.replay.variables → HasGeneration run w s time →
    IsCopied run (run_after run (copying v w)) v w s time

-- ---- what an event does to a slot

-- A dead slot is given out only where more bytes than the quarantine's limit were freed from its free on, its own among them.
abbrev pub ReuseIsDelayed : ℕ → Run → Run → Type 0
ReuseIsDelayed quarantine run next =
    (s size tag mark : ℕ) → state_at run.replay.heap s ≡ Dead size tag mark → IsLive (state_at next.replay.heap s) →
    quarantine < run.replay.heap.total - mark

abbrev pub StaysAsItIs : State → State → Type 0
StaysAsItIs Fresh new = new ≡ Fresh
StaysAsItIs (Live size tag) new = IsLive new
StaysAsItIs (Dead size tag mark) new = new ≡ Dead size tag mark

-- A slot stays fresh, live or dead, or is freed, or is given out once more.
abbrev pub LifeStep : State → ℕ → State → ℕ → Type 0
LifeStep old times new next =
    (StaysAsItIs old new × (next ≡ times)) ⊎ (IsLive old × IsTrue (is_dead new) × (next ≡ times))
    ⊎ ((IsLive old → ⊥) × IsLive new × (next ≡ suc times))

abbrev pub LivesOn : Run → Run → Type 0
LivesOn run next = (s : ℕ) → LifeStep (state_at run.replay.heap s) (times_of run s) (state_at next.replay.heap s) (times_of next s)
