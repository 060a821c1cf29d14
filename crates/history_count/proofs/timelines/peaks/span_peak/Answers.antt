use Rattle.std.proofs.{Common.{◌≡◌, length, slice_index, arith}}
use Rattle.tuner_theory.{proofs.Lists.{lists-length}, specs.Lists.{lists_of}}
use Rattle.history_count.{proofs.CutLines.{few-lines}, specs.Histories.{blocks_from}}
use Rattle.history_count.proofs.TimelineLemmas.Peaks.{before-few, blocks_from-none, most-before, peak-all}
use Rattle.history_count.proofs.timelines.peaks.span_peak.Goals as goal

pub most_between-reached-requires-clause-few : goal.most_between-reached-requires-clause-few
most_between-reached-requires-clause-few c =
    let s = c.args.stretches.now in
    rw c.deref.ensures.value
    (before-few c.args.events.now c.args.requested.now s.starts.items (lists_of s.before.items) (lists_of s.most.items) c.args.span
    c.requires.timeline c.requires.requested c.requires.stretches c.requires.span).few

pub most_between-reached-requires-clause-stop : goal.most_between-reached-requires-clause-stop
most_between-reached-requires-clause-stop c = grind (arith, few-lines)

pub loop-b-init : goal.loop-b-init
loop-b-init c = grind (arith, blocks_from-none)

pub returns : goal.returns
returns c =
    let s = c.args.stretches.now in
    let span = c.args.span in
    let f = blocks_from span.low span.end in
    let events = c.args.events.now in
    let floor = c.saturating_sub.result in
    let end : slice_index s.starts.items c.loop-b.b ≡ length events =
    grind (arith, lists-length) in
    let below = most-before events c.args.requested.now s.starts.items (lists_of s.before.items) (lists_of s.most.items) span
    c.requires.timeline c.requires.requested c.requires.stretches c.requires.span in
    grind (arith, peak-all, blocks_from-none)
