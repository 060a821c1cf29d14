use Rattle.std.proofs.Common.{◌≡◌, add-one, arith}
use Rattle.class_tuner.proofs.FitLemmas.Places.{no-rows, so_far-pushed}
use Rattle.tuner_theory.specs.Lists.{lists_of}
use Rattle.class_tuner.proofs.fits.place_filling.unfilled_rows.Goals as goal

pub loop-init : goal.loop-init
loop-init c = record { so_far = rw (c.new.ensures.items, c.new-2.ensures.items) (no-rows c.args.places) }

pub loop-preserved : goal.loop-preserved
loop-preserved c = record {
  so_far = rw add-one (so_far-pushed c.args.places c.loop.counter (lists_of c.loop.filled.rows.items) (lists_of c.loop.filled.ends.items)
      (lists_of c.push.new.self.rows.items) (lists_of c.push.new.self.ends.items) c.in_ok-row.row.costs.items c.in_ok-row.row.ends.items
      c.loop.invariant.so_far c.in_ok-row.ensures.costs_length c.in_ok-row.ensures.ends_length c.in_ok-row.ensures.costs
      c.in_ok-push.ensures.rows c.in_ok-push.ensures.ends);
}

pub returns : goal.returns
returns c =
    let all : c.loop.counter ≡ c.args.limit = omega arith in
    rw all at c.loop.invariant.so_far
