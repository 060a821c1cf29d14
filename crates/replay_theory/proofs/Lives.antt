-- What an event does to a slot.
use Rattle.std.proofs.{Common.{◌≡◌, ℕ, ◌-◌, ◌<◌, arith, Option}, lemmas.Bool.{cases_eq, ltb-true}}
use Rattle.std.proofs.lemmas.List.{get_or-set_same, get_or-set_other}
use Rattle.trace_event.specs.declared.event.Event.{Event}
use Rattle.heap_theory.{proofs.CallsKept.{KeepsGiven, HeapChange, state_at-given_out_other}, specs.Lookups.{IsReusable}}
use Rattle.heap_theory.specs.{State.{State, Heap, IsLive, state_at}, State.State.{Dead}}
use Rattle.replay_theory.{proofs.RunKept.{IsKept-event}, specs.Hardening.{ReuseIsDelayed, LifeStep, LivesOn}, specs.SoundRun.{IsSoundRun}}
use Rattle.replay_theory.specs.{Replay.{heap_after, replay_after}, Run.{Run, slot_given, run_after}}

-- ---- reuse is delayed

released_over : (h : Heap) (s n t m : ℕ) → IsReusable h s → state_at h s ≡ Dead n t m → h.quarantine < h.total - m
released_over h s n t m reusable was = grind (arith, ltb-true)

-- a dead slot that an event makes live was reusable
revived : (h new : Heap) (o : Option ℕ) (s n t m : ℕ) → HeapChange h new o → state_at h s ≡ Dead n t m → IsLive (state_at new s) →
    IsReusable h s
revived h new o s n t m kept was live = grind (arith, cases_eq, state_at-given_out_other)

-- ---- the life of a slot

kept_life : (h new : Heap) (s times next : ℕ) → KeepsGiven h new → next ≡ times → LifeStep (state_at h s) times (state_at new s) next
kept_life h new s times next kept same = grind arith

not_live : (h : Heap) (s : ℕ) → IsReusable h s → (x : State) → state_at h s ≡ x → IsLive x → ⊥
not_live h s reusable x3 was l = grind arith

module _ (w : Run) (e : Event) (sound : IsSoundRun w) where
  change : HeapChange w.replay.heap (heap_after w.replay e) (slot_given w.replay e)
  change = (IsKept-event w.replay e sound.heap).change

  pub reuse_is_delayed : (quarantine : ℕ) → w.replay.heap.quarantine ≡ quarantine → ReuseIsDelayed quarantine w (run_after w e)
  unfolding run_after replay_after
  reuse_is_delayed quarantine limit s n t m was live = grind (arith, change, released_over, revived)

  pub lives_on : LivesOn w (run_after w e)
  unfolding run_after replay_after
  lives_on s = grind (arith, change, kept_life, cases_eq, not_live, get_or-set_same, get_or-set_other, state_at-given_out_other)
