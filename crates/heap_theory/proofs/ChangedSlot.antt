-- The states of a heap in which one slot has another.
use Rattle.std.proofs.{Common.{◌≡◌, ◌≢◌, ℕ, ◌<◌, List, length, slice_set}, lemmas.List.{get_or-set_same, get_or-set_other}}
use Rattle.machine_theory.specs.Memory.{Granule}
use Rattle.heap_theory.specs.{State.{State, Heap, state_at}, State.State.{Fresh}}

-- the heap in which slot s has another state, and which has another memory, total, seed and tag
abbrev pub changed : Heap → ℕ → State → List Granule → ℕ → ℕ → ℕ → Heap
changed h s state memory total seed tag =
    record h { states = slice_set h.states s state; memory = memory; total = total; seed = seed; tag = tag }

module _ (h : Heap) (s : ℕ) (state : State) (memory : List Granule) (total seed tag : ℕ) (within : s < length h.states) where
  pub state_here : state_at (changed h s state memory total seed tag) s ≡ state
  state_here = get_or-set_same h.states s state Fresh within

  pub state_there : (r : ℕ) → r ≢ s → state_at (changed h s state memory total seed tag) r ≡ state_at h r
  state_there r other = get_or-set_other h.states s r state Fresh other
