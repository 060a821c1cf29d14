use Rattle.std.proofs.Common.{◌∙◌, sym, ap, arith}
use Rattle.profile_count.specs.Counts.{unserved_of}
use Rattle.tuner_theory.specs.Profiles.{Profile}
use Rattle.history_count.proofs.SumsOfClasses.{holds-all}
use Rattle.history_count.proofs.class_sums.ClassSums.finish.Goals as goal

pub returns : goal.returns
returns c = λ snapshots next holds.
    let sums = c.loop-sums.sums in
    let kept = c.loop-sums.invariant.kept snapshots next holds in
    let all = holds-all sums.table.now c.len.ensures.legal sums.number sums.total sums.blocks.items sums.peaks snapshots kept.0 kept.1
    (omega (arith, c.len.ensures.len, c.loop-sums-test.false)) in
    (ap (λ (p : Profile). unserved_of p.counts c.args.self.table.now) (sym holds.peaks_are) ∙ sym (rw c.in_default.is at c.unserved.ensures.size), rw c.loop-sums.invariant.table at all.0, all.1)
