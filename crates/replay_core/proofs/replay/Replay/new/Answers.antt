use Rattle.std.proofs.{Common.{ℕ, [], length, sym, ap, ◌∙◌, subst, arith}, lemmas.List.{length-replicate}}
use Rattle.class_table.specs.Tables.{IsLegalTable}
use Rattle.replay_theory.specs.{Replay.{first_replay}, Totals.{no_totals}}
use Rattle.heap_theory.specs.{Config.{layout_for}, State.{Heap, first_heap}}
use Rattle.replay_core.{proofs.StoredMore.{stored_of_none}, specs.ReplayState.{first_stored}}
use Rattle.replay_core.proofs.replay.Replay.new.Goals as goal

pub returns : goal.returns
unfolding first_stored first_replay
returns c = λ i. record {
  replay = record { heap = c.in_ok-heap.ensures.state i; variables = c.in_ok-variables.ensures.items_if_clones_equal (λ y is. is) i };
  totals = no_totals;
}

pub invariant_of-result : goal.invariant_of-result
unfolding first_heap
invariant_of-result c = record {
  reached = record {
    layout = layout_for c.args.config c.args.table.now;
    seed = c.args.config.seed;
    quarantine = c.args.config.quarantine;
    events = [];
    partition = omega arith;
    stored_is = returns c ∙ sym (stored_of_none _ _ _);
  };
  bounded = grind arith;
  long = ap length (c.in_ok-variables.ensures.items_if_clones_equal (λ y is. is)) ∙ length-replicate {A = ℕ} 1024 0;
  legal = subst (IsLegalTable 1) (sym (ap (λ (h : Heap). h.layout.classes) c.in_ok-heap.ensures.state)) c.len.ensures.legal;
  few = omega (arith, c.in_ok-heap.ensures.frees);
}
