use Rattle.std.proofs.{Common.{◌≡◌, ◌-◌, ◌<◌, length, arith, inl, inr}, lemmas.Bool.{cases_lt, false≢true}, lemmas.Grind.{common_steps}}
use Rattle.potential_check.proofs.TightEnds.{walked-all, walked-end, walked-more}
use Rattle.potential_check.proofs.edge_walk.is_tight_row.Goals as goal

pub returns-in-None : goal.returns-in-None
returns-in-None c = (
  λ holds. absurd (false≢true holds),
  λ (hold, tight).
      let some : c.loop-place.place - 1 < length c.args.row.now = omega arith in
      let end = walked-end c.args.spans.now c.requires.step c.args.before.now c.args.row.now c.requires.row.full
      (c.loop-place.place - 1) c.loop-place.place c.loop-place.end.place (omega arith) c.loop-place.invariant.walked some hold
      (tight.each _ some) in
      absurd ((rw c.start_at-start.ensures.place at c.in-None.ensures.none) end hold),
)

pub loop-place-preserved : goal.loop-place-preserved
loop-place-preserved c =
    let found = rw c.start_at-start.ensures.place at c.in-Some.ensures.some in
    record {
      walked = walked-more c.args.spans.now c.requires.step c.args.before.now c.args.row.now c.requires.row.full
          (c.loop-place.place - 1) c.loop-place.place c.loop-place.end.place c.in-Some.tight.place (omega arith) c.loop-place.invariant.walked
          (omega arith) found;
      tight = λ k from within. elim (cases_lt (c.loop-place.place - 1) k) [
        | inl later ↦ c.loop-place.invariant.tight k (omega arith) within
        | inr not ↦ (let same : k ≡ c.loop-place.place - 1 = omega arith in
            rw same (c.in-Some.tight.place, found.after, omega (arith, found.within, c.loop-place.invariant.walked.within), found.tight))
      ];
      end = c.in-Some.ensures.end;
      next = (c.start_at-start.ensures.start, c.start_at-start.ensures.place);
    }

pub returns : goal.returns
returns c = (
  λ holds. (
    walked-all c.args.spans.now c.requires.step c.args.before.now c.args.row.now c.requires.row.full
        c.loop-place.place c.loop-place.end.place (omega arith) c.loop-place.invariant.walked (c.first_edges_hold.ensures.0 holds),
    record { each = λ k within. c.loop-place.invariant.tight k (omega arith) within },
  ),
  grind arith,
)

pub loop-place-init : goal.loop-place-init
loop-place-init c = grind (arith, common_steps)

pub returns-then-is_empty : goal.returns-then-is_empty
returns-then-is_empty c = grind (arith, common_steps)
