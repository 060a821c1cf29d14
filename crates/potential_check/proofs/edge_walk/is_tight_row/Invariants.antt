use Rattle.std.proofs.Common.{◌≡◌, ℕ, ◌<◌, ◌≤◌, length}
use Rattle.potential_check.{proofs.TightEnds.{IsWalked}, specs.EdgeWalk.{IsEnd, IsStart}, specs.RowConditions.{HasTightEnd}}
use Rattle.tuner_theory.specs.Spans.{places}
use Rattle.potential_check.proofs.edge_walk.is_tight_row.Given as goal

abbrev pub invariant-loop-place : goal.invariant-loop-place
invariant-loop-place l = record {
  walked : IsWalked l.spans l.before l.row l.place l.end.place;
  tight : (k : ℕ) → l.place ≤ k → k < length l.row → HasTightEnd l.spans l.before l.row k (places l.spans.counts l.spans.step);
  end : IsEnd l.spans l.before l.end;
  next : IsStart l.spans l.row l.next × (l.next.place ≡ l.place);
}
