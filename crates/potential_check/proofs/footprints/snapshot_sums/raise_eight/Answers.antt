use Rattle.std.proofs.Common.{◌≡◌, ◌-◌, [], ◌∷◌, slice_index, arith}
use Rattle.potential_check.{proofs.FootprintLemmas.Snapshots.{raised-more}, specs.Footprints.SnapshotSums.{raised_to}}
use Rattle.potential_check.proofs.footprints.snapshot_sums.raise_eight.Goals as goal

pub overflow_sub-s0 : goal.overflow_sub-s0
overflow_sub-s0 c = c.requires.rows.0.1 c.loop-j.j (omega arith) (omega arith)

pub overflow_sub-s1 : goal.overflow_sub-s1
overflow_sub-s1 c = c.requires.rows.1.0.1 c.loop-j.j (omega arith) (omega arith)

pub overflow_sub-s2 : goal.overflow_sub-s2
overflow_sub-s2 c = c.requires.rows.1.1.0.1 c.loop-j.j (omega arith) (omega arith)

pub overflow_sub-s3 : goal.overflow_sub-s3
overflow_sub-s3 c = c.requires.rows.1.1.1.0.1 c.loop-j.j (omega arith) (omega arith)

pub overflow_sub-s4 : goal.overflow_sub-s4
overflow_sub-s4 c = c.requires.rows.1.1.1.1.0.1 c.loop-j.j (omega arith) (omega arith)

pub overflow_sub-s5 : goal.overflow_sub-s5
overflow_sub-s5 c = c.requires.rows.1.1.1.1.1.0.1 c.loop-j.j (omega arith) (omega arith)

pub overflow_sub-s6 : goal.overflow_sub-s6
overflow_sub-s6 c = c.requires.rows.1.1.1.1.1.1.0.1 c.loop-j.j (omega arith) (omega arith)

pub overflow_sub-s7 : goal.overflow_sub-s7
overflow_sub-s7 c = c.requires.rows.1.1.1.1.1.1.1.0.1 c.loop-j.j (omega arith) (omega arith)

pub loop-j-preserved : goal.loop-j-preserved
loop-j-preserved c =
    let a = c.args in
    let j = c.loop-j.j in
    let rows = a.s0.now ∷ a.s1.now ∷ a.s2.now ∷ a.s3.now ∷ a.s4.now ∷ a.s5.now ∷ a.s6.now ∷ a.s7.now ∷ [] in
    let value : c.max-in-loop-j-4.result ≡ raised_to rows a.i j (slice_index c.loop-j.numbers (j - a.start)) = cc in
    record {
      raised = raised-more rows a.i a.start j c.max-in-loop-j-4.result a.numbers.now c.loop-j.numbers (omega arith) (omega arith) value
          c.loop-j.invariant.raised;
    }

pub returns : goal.returns
returns c = let all : c.loop-j.j ≡ c.args.stop = omega (arith, c.loop-j.auto.j-end c.requires.order) in rw all at c.loop-j.invariant.raised
