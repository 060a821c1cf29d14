-- Pictures of a heap.
use Rattle.std.specs.Prelude.{◌≡◌, ℕ, ◌+◌, ◌<◌, ◌≤◌, ◌^◌, Bool, true, false, List, [], ◌∷◌, length, slice_index}
use Rattle.machine_theory.specs.Memory.{tag_at}
use Rattle.heap_theory.specs.{GranuleKinds.{kind_number, place_kind}, State.{Heap}}
use Rattle.replay_theory.specs.Replay.{Replay, replay_after}
use Rattle.trace_event.specs.declared.event.Event.{Event}
use Rattle.replay_core.specs.ReplayState.{Stored}

-- The tags and the kinds of all granules.
pub record IsDrawn (heap : Heap) (tags kinds : List ℕ) : Type 0 where
  pub each_tag : (g : ℕ) → g < length tags → slice_index tags g ≡ tag_at heap.memory g
  pub each_kind : (g : ℕ) → g < length kinds → slice_index kinds g ≡ kind_number (place_kind heap g)
  pub tags_long : length tags ≡ length heap.memory
  pub kinds_long : length kinds ≡ length heap.memory

-- A byte for each granule.
abbrev pub HaveRoom : ℕ → List ℕ → List ℕ → Type 0
HaveRoom granules tags kinds = (length tags ≡ granules) × (length kinds ≡ granules)

-- A step: the next event is performed, if there is one.
abbrev pub after_one : Replay → List Event → Replay → List Event → Bool → Type 0
after_one replay [] replay' events' went = (replay' ≡ replay) × (events' ≡ []) × (went ≡ false)
after_one replay (event ∷ events) replay' events' went = (replay' ≡ replay_after replay event) × (events' ≡ events) × (went ≡ true)

-- The events that were performed, and those that are still to come, are few enough for the totals.
abbrev pub AreFewEvents : Stored → List Event → Type 0
AreFewEvents stored events = stored.totals.events + length events ≤ 2 ^ 40
