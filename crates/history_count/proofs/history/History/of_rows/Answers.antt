use Rattle.std.proofs.Common.{◌≡◌, ℕ, length, arith, subst}
use Rattle.profile_count.proofs.LawLemmas.{length-zeros}
use Rattle.tuner_theory.{proofs.Lists.{lists-length}, specs.Lists.{lists_of}}
use Rattle.history_count.proofs.{CutLines.{few-lines}, Peaks.{zeros-small}, RowPeaks.{ArePeaksTo, peaks_to-none, rows-held}}
use Rattle.history_count.proofs.history.History.of_rows.Goals as goal

pub loop-line-init : goal.loop-line-init
loop-line-init c = record { peaks = rw c.in_ok-peaks.ensures (peaks_to-none c.args.sizes.now (lists_of c.args.rows.items)) }

pub most_between-requires-clause-stop : goal.most_between-requires-clause-stop
most_between-requires-clause-stop c = omega (arith, few-lines c.args.sizes.now c.requires.sizes)

pub new-requires-2-clause-lines : goal.new-requires-2-clause-lines
new-requires-2-clause-lines c =
    let sizes = c.args.sizes.now in
    let rows = lists_of c.args.rows.items in
    let last : c.loop-line.line ≡ length sizes = omega arith in
    let width : length rows ≡ length c.in_ok-large.large.items = grind (arith, lists-length, length-zeros) in
    rw c.in_ok-from_slice.ensures.items
    (rows-held sizes rows c.requires.sizes c.requires.rows c.requires.snapshots c.loop-line.peaks
    (subst (λ (line : ℕ). ArePeaksTo sizes rows line c.loop-line.peaks) last c.loop-line.invariant.peaks) (length c.in_ok-large.large.items) width)

pub new-requires-2-clause-large : goal.new-requires-2-clause-large
new-requires-2-clause-large c = rw c.in_ok-large.ensures (zeros-small c.len.result)
