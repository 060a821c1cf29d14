use Rattle.std.proofs.Common.{arith}
use Rattle.tuner_theory.specs.Lists.{lists_of}
use Rattle.potential_check.proofs.FootprintLemmas.Snapshots.{eight-rows, most-raised_in}
use Rattle.potential_check.proofs.footprints.snapshot_sums.SnapshotSums.raise_eight_from.Goals as goal

pub returns-clause-most : goal.returns-clause-most
returns-clause-most c = λ done from to before.
    let s = c.args.self.now in
    let sums = lists_of s.sums.items in
    let t = c.args.t in
    let rows = eight-rows sums t c.narrow_at.ensures.read c.narrow_at-2.ensures.read c.narrow_at-3.ensures.read c.narrow_at-4.ensures.read
    c.narrow_at-5.ensures.read c.narrow_at-6.ensures.read c.narrow_at-7.ensures.read c.narrow_at-8.ensures.read in
    most-raised_in s.history.now.snapshots s.spans.now.counts s.spans.now.step sums s.holds c.args.i c.args.start c.args.stop t done _
    c.args.most.now c.raise_eight.new.numbers c.requires.after c.requires.within (omega (arith, c.narrow_at-8.ensures.within)) rows
    from to before c.raise_eight.ensures
