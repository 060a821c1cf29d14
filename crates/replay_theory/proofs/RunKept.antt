-- Each event keeps a run sound, so every run is.
use Rattle.std.proofs.Common.{◌≡◌, ℕ, List, [], ◌∷◌, length, get_or, set, refl, sym, ◌∙◌, arith, None, Option, fold, replicate}
use Rattle.std.proofs.lemmas.Bool.{cases_eq, cases_lt}
use Rattle.std.proofs.lemmas.List.{get_or-set_same, get_or-set_other, length-set, get_or_past, length-replicate}
use Rattle.machine_theory.specs.{Address.{moved_by}, Instructions.{addg, subg}}
use Rattle.class_table.specs.Layout.{Partition, IsPartition, slot_count}
use Rattle.trace_event.specs.declared.event.{Event.{Event}, Event.TheVariants.{Malloc, Calloc, Realloc, Free, Store, Addg, Subg}}
use Rattle.replay_theory.proofs.CopiedPointers.{IsSoundVariable-moved, addg-address, subg-address}
use Rattle.replay_theory.proofs.VariablesKept.{IsSoundVariable-other, IsSoundVariable-malloc, IsSoundVariable-calloc}
use Rattle.replay_theory.{proofs.VariablesKept.{IsSoundVariable-realloc}, specs.SoundRun.{IsSoundVariable, IsSoundRun}}
use Rattle.replay_theory.specs.Replay.{Replay, variable, heap_after, variables_after, replay_after, first_replay}
use Rattle.replay_theory.specs.Run.{Run, Generation, generation_of, slot_given, times_with, generations_after, run_after, first_run, run}
use Rattle.heap_theory.proofs.CallsKept.{HeapChange, IsKept, IsKept-refl, IsKept-malloc, IsKept-calloc, IsKept-free, IsKept-realloc}
use Rattle.heap_theory.{proofs.CallsKept.{IsKept-store, layout-given_out, quarantine-given_out}, specs.Sound.{IsSoundHeap}}
use Rattle.heap_theory.{proofs.FirstHeap.{IsSoundHeap-first, get_or-replicate_any}, specs.State.{Heap, first_heap}}
use Rattle.replay_theory.proofs.TheoryLemmas as laws

-- one variable is set, with its generation, and the others stay
set_both : {X Y : Type 0} (P : X → Y → Type 0) (xs : List X) (ys : List Y) (v : ℕ) (x a : X) (y b : Y) → length ys ≡ length xs → P x y →
    ((u : ℕ) → P (get_or xs u a) (get_or ys u b)) → (u : ℕ) → P (get_or (set xs v x) u a) (get_or (set ys v y) u b)
set_both P xs ys v x a y b long new old u = grind (arith, cases_eq, get_or-set_other, cases_lt, get_or-set_same, get_or_past, length-set)

length-times_with : (w : Run) (o : Option ℕ) → length (times_with w o) ≡ length w.times
length-times_with w o = grind (arith, length-set)

lengths_kept : (w : Run) (e : Event) → length w.generations ≡ length w.replay.variables →
    length (generations_after w e) ≡ length (variables_after w.replay e)
unfolding generations_after variables_after
lengths_kept w x1 long = grind (arith, length-set)

layout_kept : (h new : Heap) (o : Option ℕ) → HeapChange h new o → new.layout ≡ h.layout
layout_kept h new o change = grind (arith, layout-given_out)

-- ---- all runs

-- the limit of the quarantine is that of the first heap
pub record IsRunWith (quarantine : ℕ) (w : Run) : Type 0 where
  pub sound : IsSoundRun w
  pub limit_is : w.replay.heap.quarantine ≡ quarantine

-- what holds at first and is kept by each event holds of every run
holds_of_runs : (P : Run → Type 0) (w : Run) (events : List Event) → P w → ((w : Run) (e : Event) → P w → P (run_after w e)) →
    P (fold run_after w events)
holds_of_runs P w [] first each = first
holds_of_runs P w (e ∷ events) first each = holds_of_runs P (run_after w e) events (each w e first) each

null_variable : (h : Heap) (times : List ℕ) (a : ℕ) (g : Option Generation) → a ≡ 0 → g ≡ None → IsSoundVariable h times a g
null_variable h times a g null none = grind arith

module _ where
  -- an event keeps the heap sound, and gives out a slot or leaves what was given out
  pub IsKept-event : (r : Replay) (e : Event) → IsSoundHeap r.heap → IsKept r.heap (heap_after r e) (slot_given r e)
  unfolding heap_after slot_given
  IsKept-event r (Malloc v n) sound = IsKept-malloc r.heap n sound
  IsKept-event r (Calloc v n) sound = IsKept-calloc r.heap n sound
  IsKept-event r (Realloc v n) sound = IsKept-realloc r.heap (variable r v) n sound
  IsKept-event r (Free v) sound = IsKept-free r.heap (variable r v) sound
  IsKept-event r (Store v off len byte) sound = IsKept-store r.heap (moved_by (variable r v) off) (replicate len byte) sound
  IsKept-event r other sound = IsKept-refl r.heap sound

  module _ (w : Run) (e : Event) (sound : IsSoundRun w) where
    kept : IsKept w.replay.heap (heap_after w.replay e) (slot_given w.replay e)
    kept = IsKept-event w.replay e sound.heap

    others : (u : ℕ) → IsSoundVariable (heap_after w.replay e) (times_with w (slot_given w.replay e)) (variable w.replay u)
        (generation_of w u)
    others u = grind (arith, IsSoundVariable-other, kept)

  variables_kept : (w : Run) (e : Event) → IsSoundRun w → (u : ℕ) →
      IsSoundVariable (heap_after w.replay e) (times_with w (slot_given w.replay e)) (get_or (variables_after w.replay e) u 0)
      (get_or (generations_after w e) u None)
  unfolding variables_after generations_after heap_after slot_given
  variables_kept w (Malloc v n) sound u =
      set_both (IsSoundVariable _ _) w.replay.variables w.generations v _ 0 _ None sound.generations (IsSoundVariable-malloc w sound n)
      (others w (Malloc v n) sound) u
  variables_kept w (Calloc v n) sound u =
      set_both (IsSoundVariable _ _) w.replay.variables w.generations v _ 0 _ None sound.generations (IsSoundVariable-calloc w sound n)
      (others w (Calloc v n) sound) u
  variables_kept w (Realloc v n) sound u =
      set_both (IsSoundVariable _ _) w.replay.variables w.generations v _ 0 _ None sound.generations (IsSoundVariable-realloc w sound v n)
      (others w (Realloc v n) sound) u
  variables_kept w (Addg v x u6 u4) sound u =
      set_both (IsSoundVariable _ _) w.replay.variables w.generations v _ 0 _ None sound.generations
      (IsSoundVariable-moved w.replay.heap w.times sound.heap addg laws.addg_tagged (addg-address w.replay.heap w.times sound.heap)
      (variable w.replay x) u6 u4 (generation_of w x) (sound.variables x))
      (others w (Addg v x u6 u4) sound) u
  variables_kept w (Subg v x u6 u4) sound u =
      set_both (IsSoundVariable _ _) w.replay.variables w.generations v _ 0 _ None sound.generations
      (IsSoundVariable-moved w.replay.heap w.times sound.heap subg laws.subg_tagged (subg-address w.replay.heap w.times sound.heap)
      (variable w.replay x) u6 u4 (generation_of w x) (sound.variables x))
      (others w (Subg v x u6 u4) sound) u
  variables_kept w other sound u = others w other sound u

  pub IsSoundRun-run_after : (w : Run) (e : Event) → IsSoundRun w → IsSoundRun (run_after w e)
  unfolding run_after replay_after
  IsSoundRun-run_after w e sound =
      let kept = kept w e sound in
      grind (arith, length-times_with, layout_kept, lengths_kept, variables_kept)

  IsSoundRun-first : (layout : Partition) (seed quarantine : ℕ) → IsPartition layout → IsSoundRun (first_run layout seed quarantine)
  unfolding first_run first_replay first_heap
  IsSoundRun-first layout seed quarantine is = record {
    heap = IsSoundHeap-first layout seed quarantine is;
    times = length-replicate (slot_count layout) 0;
    generations = length-replicate {A = Option Generation} 1024 None ∙ sym (length-replicate {A = ℕ} 1024 0);
    variables =
        λ v. null_variable (first_heap layout seed quarantine) (replicate (slot_count layout) 0) _ _ (get_or-replicate_any 1024 v 0)
        (get_or-replicate_any 1024 v None);
  }

  IsRunWith-run_after : (quarantine : ℕ) (w : Run) (e : Event) → IsRunWith quarantine w → IsRunWith quarantine (run_after w e)
  unfolding run_after replay_after
  IsRunWith-run_after quarantine w e over =
      let change = (kept w e over.sound).change in
      grind (arith, IsSoundRun-run_after, quarantine-given_out)

  IsRunWith-first : (layout : Partition) (seed quarantine : ℕ) → IsPartition layout →
      IsRunWith quarantine (first_run layout seed quarantine)
  unfolding first_run first_replay first_heap
  IsRunWith-first layout seed quarantine is = record { sound = IsSoundRun-first layout seed quarantine is; limit_is = refl }

  pub IsRunWith-run : (layout : Partition) (seed quarantine : ℕ) (events : List Event) → IsPartition layout →
      IsRunWith quarantine (run layout seed quarantine events)
  unfolding run
  IsRunWith-run layout seed quarantine events is =
      holds_of_runs (IsRunWith quarantine) (first_run layout seed quarantine) events (IsRunWith-first layout seed quarantine is)
      (IsRunWith-run_after quarantine)
