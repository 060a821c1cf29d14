use Rattle.std.proofs.Common.{◌≡◌, ℕ, ◌<◌, ◌≤◌, [], List, length, slice_index, slice_index_or, ap, arith, Vec}
use Rattle.std.specs.declared.alloc.Global.{Global}
use Rattle.history_count.{proofs.LawLemmas.{column-few, few-lines}, specs.CountedLines.{AreLinesOf, CountsSizes}}
use Rattle.potential_check.{proofs.FootprintLemmas.Snapshots.{small-spans, spans-grow}, specs.Footprints.SnapshotSums.{HoldsSnapshots}}
use Rattle.potential_check.proofs.FootprintLemmas.UpTo.{column-sums, cuts-ascend, first-more}
use Rattle.tuner_theory.{proofs.Lists.{lists-length, row-read}, proofs.Rounding.{step-positive}, specs.Histories.{AreSnapshots}}
use Rattle.tuner_theory.specs.{Lists.{lists_of}, Profiles.{greatest_count}}
use Rattle.potential_check.proofs.footprints.snapshot_sums.SnapshotSums.new.Goals as goal

-- the column of a snapshot
module _ (snapshots : List (List ℕ)) (sizes : List ℕ) (columns : List (Vec ℕ Global)) (lines : AreLinesOf snapshots sizes (lists_of columns))
    (are : AreSnapshots snapshots) (t : ℕ) (d : Vec ℕ Global) (column : List ℕ) (lt : t < length columns)
    (is : column ≡ (slice_index_or columns t d).items) where
  inside : t < length snapshots
  inside = omega (arith, lt, lines.width, lists-length columns)

  read : column ≡ slice_index_or (lists_of columns) t []
  read = row-read columns t d column (omega (arith, lt, lists-length columns)) is

  counted : CountsSizes (slice_index_or snapshots t []) sizes column
  counted = rw read (lines.each t inside)

  few : (k : ℕ) → slice_index column k ≤ greatest_count
  few = column-few (slice_index_or snapshots t []) sizes column (are.counts t [] inside) counted

pub sums_up_to-requires-clause-few : goal.sums_up_to-requires-clause-few
sums_up_to-requires-clause-few c = grind (arith, few)

pub sums_up_to-requires-clause-size : goal.sums_up_to-requires-clause-size
sums_up_to-requires-clause-size c =
    let lines = c.lines-lines in
    let column = counted c.args.history.now.snapshots lines.result.sizes.now lines.result.columns.now lines.ensures.lines
    lines.ensures.history.snapshots c.loop-t.t c.index-lines-t.result c.deref.result.now (omega arith)
    c.deref.ensures.value in
    omega (arith, column.size, few-lines lines.result.sizes.now lines.ensures.lines.sizes_are)

pub sums_up_to-requires-clause-within : goal.sums_up_to-requires-clause-within
sums_up_to-requires-clause-within c = λ p lt.
    let lines = c.lines-lines in
    let column = counted c.args.history.now.snapshots lines.result.sizes.now lines.result.columns.now lines.ensures.lines
    lines.ensures.history.snapshots c.loop-t.t c.index-lines-t.result c.deref.result.now (omega arith)
    c.deref.ensures.value in
    grind arith

pub sums_up_to-requires-clause-ascend : goal.sums_up_to-requires-clause-ascend
sums_up_to-requires-clause-ascend c = λ p q le lt.
    let s = c.args.spans.now in
    rw c.deref-in-loop-t.ensures.value
    (cuts-ascend c.lines-lines.result.sizes.now s.counts s.step c.in_ok-cuts.cuts.items (step-positive s.step c.requires.spans.is_step)
    c.in_ok-cuts.ensures p q le (omega (arith, lt, ap length c.deref-in-loop-t.ensures.value)))

pub loop-t-preserved : goal.loop-t-preserved
loop-t-preserved c =
    let s = c.args.spans.now in
    let snapshots = c.args.history.now.snapshots in
    let lines = c.lines-lines in
    let t = c.loop-t.t in
    let column = counted snapshots lines.result.sizes.now lines.result.columns.now lines.ensures.lines
    lines.ensures.history.snapshots t c.index-lines-t.result c.deref.result.now (omega arith)
    c.deref.ensures.value in
    let inside = inside snapshots lines.result.sizes.now lines.result.columns.now lines.ensures.lines
    lines.ensures.history.snapshots t c.index-lines-t.result c.deref.result.now (omega arith)
    c.deref.ensures.value in
    let sums = column-sums (slice_index_or snapshots t []) lines.result.sizes.now c.deref.result.now s.counts c.in_ok-cuts.cuts.items
    c.in_ok-sums_up_to.field-0.items s.step c.requires.spans.is_step c.requires.spans.are_counts
    (lines.ensures.history.snapshots.counts t [] inside) lines.ensures.lines.sizes_are column c.in_ok-cuts.ensures
    (rw c.deref-in-loop-t.ensures.value at c.in_ok-sums_up_to.ensures) in
    rw c.in_ok-push.ensures.items (record {
      first = first-more snapshots s.counts s.step t c.loop-t.sums.items c.in_ok-sums_up_to.field-0 c.loop-t.invariant.first sums;
    })

pub invariant_of-result : goal.invariant_of-result
invariant_of-result c =
    let snapshots = c.args.history.now.snapshots in
    let s = c.args.spans.now in
    let lines = c.lines-lines in
    let sums = lists_of c.loop-t.sums.items in
    let holds : HoldsSnapshots snapshots s.counts s.step sums = grind (arith, lists-length) in
    record {
      holds = holds;
      small = small-spans snapshots _ _ sums holds;
      same = rw c.deref-2.ensures.value at c.in_ok-narrow.ensures;
      grows = spans-grow snapshots _ _ sums holds;
    }
