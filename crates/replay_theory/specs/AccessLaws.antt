-- When each result of an access comes, exactly.
use Rattle.std.specs.Prelude.{◌≡◌, ◌≢◌, ◌↔◌, ℕ, ◌<◌, List, ◌∷◌, ◌++◌, length, slice_get, Option, Some, None, IsTrue, MatchOption}
use Rattle.machine_theory.specs.{Access.{IsMapped, IsTagFault, loaded}, Address.{logical_tag, moved_by, Touches}, Memory.{tag_at}}
use Rattle.trace_event.specs.declared.event.{Event.{Event}, Event.TheVariants.{Load, Store}}
use Rattle.heap_theory.specs.{GranuleKinds.{place_kind}, State.{Heap}, declared.place_kind.PlaceKind.{PlaceKind}}
use Rattle.replay_theory.specs.Replay.{Replay, Answer, IsFaultAnswer, variable, answers, replay_of, is_tag_fault}
use Rattle.replay_theory.specs.Replay.Answer.{Silent, Loaded, NotMapped, TagFault}

-- The result of an access of `len` bytes at an address: unmapped, a tag fault, or `done` if it succeeds.
pub record IsAnswerTo (heap : Heap) (address len : ℕ) (done answer : Answer) : Type 0 where
  -- It is unmapped exactly where the access is not mapped,
  pub unmapped : (answer ≡ NotMapped) ↔ (IsMapped (length heap.memory) address len → ⊥)
  -- and a tag fault exactly where it is mapped and touches a granule whose tag differs from the pointer's.
  pub tag_fault : IsTrue (is_tag_fault answer) ↔
      (IsMapped (length heap.memory) address len
      × ((g : ℕ) × Touches address len g × (tag_at heap.memory g ≢ logical_tag address)))
  -- A tag fault names the lowest such granule, both tags, and what that granule is to the heap.
  pub names : (granule memory_tag pointer_tag : ℕ) (kind : PlaceKind) →
      (answer ≡ TagFault granule memory_tag pointer_tag kind) ↔
      (IsTagFault heap.memory address len granule memory_tag pointer_tag × (kind ≡ place_kind heap granule))
  -- The access succeeds exactly where it is mapped and each granule that it touches has the pointer's tag.
  pub succeeds : (answer ≡ done) ↔
      (IsMapped (length heap.memory) address len
      × ((g : ℕ) → Touches address len g → tag_at heap.memory g ≡ logical_tag address))

-- ---- which events are accesses

-- An access: its address, its bytes, and its result where it succeeds.
pub record Access : Type 0 where
  pub address : ℕ
  pub len : ℕ
  pub done : Answer

-- What an event accesses; none for an event that is neither a load nor a store.
abbrev pub access_of : Replay → Event → Option Access
access_of replay (Load v off len) = let address = moved_by (variable replay v) off in
    Some (record { address = address; len = len; done = Loaded (loaded replay.heap.memory address len) })
access_of replay (Store v off len byte) = Some (record { address = moved_by (variable replay v) off; len = len; done = Silent })
access_of replay other = None

-- An event that accesses one byte or more has the result of that access. An event that accesses nothing has no fault.
abbrev pub IsAnswered : Replay → Event → Answer → Type 0
IsAnswered replay event answer = MatchOption (access_of replay event) (IsFaultAnswer answer → ⊥)
    (λ access. 0 < access.len → IsAnswerTo replay.heap access.address access.len access.done answer)

-- ---- whole traces

-- So is each event of a trace, in the replay after the events before it.
abbrev pub AccessesAreAnswered : Replay → List Event → Type 0
AccessesAreAnswered first events = (before after : List Event) (event : Event) → events ≡ before ++ event ∷ after →
    (answer : Answer) × (slice_get (answers first events) (length before) ≡ Some answer)
    × IsAnswered (replay_of first before) event answer
