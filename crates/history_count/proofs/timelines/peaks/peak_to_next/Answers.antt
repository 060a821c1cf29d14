use Rattle.std.proofs.{Common.{◌<◌, ◌+◌, [], length, slice_index, arith, ap}, lemmas.List.{get_or_read}}
use Rattle.tuner_theory.{proofs.Lists.{lists-length, row-read_at}, specs.Lists.{lists_of}}
use Rattle.history_count.proofs.{CutLines.{few-lines}, TimelineLemmas.Peaks.{before-few, live-before, most-within, peak-kept}}
use Rattle.history_count.specs.{Histories.{blocks_from}}
use Rattle.history_count.proofs.timelines.peaks.peak_to_next.Goals as goal

pub blocks_between-requires-clause-size : goal.blocks_between-requires-clause-size
blocks_between-requires-clause-size c =
    let rows = c.args.stretches.now.most.items in
    let inside : c.args.b < length (lists_of rows) = omega (arith, lists-length rows) in
    let read = row-read_at rows c.args.b c.index.result.now c.deref.result.now inside c.index.ensures c.deref.ensures.value in
    omega (arith, ap length read, (c.requires.stretches.most_are c.args.b inside).len, c.requires.span.to.within)

pub blocks_between-requires-clause-few : goal.blocks_between-requires-clause-few
blocks_between-requires-clause-few c = λ k.
    let rows = c.args.stretches.now.most.items in
    let inside : c.args.b < length (lists_of rows) = omega (arith, lists-length rows) in
    let read = row-read_at rows c.args.b c.index.result.now c.deref.result.now inside c.index.ensures c.deref.ensures.value in
    rw read ((c.requires.stretches.most_are c.args.b inside).few k)

pub blocks_between-requires-clause-stop : goal.blocks_between-requires-clause-stop
blocks_between-requires-clause-stop c = grind (arith, few-lines)

pub returns-then-blocks_between-peak : goal.returns-then-blocks_between-peak
returns-then-blocks_between-peak c = λ floor so_far.
    let s = c.args.stretches.now in
    let rows = s.most.items in
    let span = c.args.span in
    let inside : c.args.b < length (lists_of rows) = omega (arith, lists-length rows) in
    let read = row-read_at rows c.args.b c.index.result.now c.deref.result.now inside c.index.ensures c.deref.ensures.value in
    peak-kept (blocks_from span.low span.end) c.args.events.now floor (slice_index s.starts.items c.args.b)
    (slice_index s.starts.items (c.args.b + 1)) c.args.peak (c.requires.stretches.up c.args.b inside) so_far
    (grind (arith, most-within))

pub blocks_between-live-requires-clause-size : goal.blocks_between-live-requires-clause-size
blocks_between-live-requires-clause-size c =
    let s = c.args.stretches.now in
    let inside : c.args.b < length (lists_of s.before.items) =
    omega (arith, lists-length s.most.items, c.requires.stretches.rows, c.requires.stretches.ends) in
    let read = row-read_at s.before.items c.args.b c.index-2.result.now c.deref-2.result.now inside c.index-2.ensures c.deref-2.ensures.value in
    let few = before-few c.args.events.now c.args.requested.now s.starts.items (lists_of s.before.items) (lists_of s.most.items) c.args.span
    c.requires.timeline c.requires.requested c.requires.stretches c.requires.span in
    omega (arith, ap length read, few.long c.args.b [] inside, c.requires.span.to.within)

pub blocks_between-live-requires-clause-few : goal.blocks_between-live-requires-clause-few
blocks_between-live-requires-clause-few c = λ k.
    let s = c.args.stretches.now in
    let inside : c.args.b < length (lists_of s.before.items) =
    omega (arith, lists-length s.most.items, c.requires.stretches.rows, c.requires.stretches.ends) in
    let read = row-read_at s.before.items c.args.b c.index-2.result.now c.deref-2.result.now inside c.index-2.ensures c.deref-2.ensures.value in
    let few = before-few c.args.events.now c.args.requested.now s.starts.items (lists_of s.before.items) (lists_of s.most.items) c.args.span
    c.requires.timeline c.requires.requested c.requires.stretches c.requires.span in
    rw read (few.few c.args.b [] inside k)

pub blocks_between-live-requires-clause-stop : goal.blocks_between-live-requires-clause-stop
blocks_between-live-requires-clause-stop c = grind (arith, few-lines)

pub peak_between-requires-clause-order : goal.peak_between-requires-clause-order
peak_between-requires-clause-order c =
    let s = c.args.stretches.now in
    let inside : c.args.b < length (lists_of s.most.items) = omega (arith, lists-length s.most.items) in
    omega (
      arith,
      get_or_read s.starts.items c.args.b c.index-3.result.now (omega (arith, c.requires.stretches.ends)) c.index-3.ensures 0,
      get_or_read s.starts.items (c.args.b + 1) c.index-4.result.now (omega (arith, c.requires.stretches.ends)) c.index-4.ensures 0,
      c.requires.stretches.up c.args.b inside,
    )

pub peak_between-requires-clause-within : goal.peak_between-requires-clause-within
peak_between-requires-clause-within c =
    let s = c.args.stretches.now in
    let inside : c.args.b < length (lists_of s.most.items) = omega (arith, lists-length s.most.items) in
    omega (
      arith,
      get_or_read s.starts.items (c.args.b + 1) c.index-4.result.now (omega (arith, c.requires.stretches.ends)) c.index-4.ensures 0,
      c.requires.stretches.within (c.args.b + 1) (omega (arith, c.requires.stretches.ends)),
    )

pub peak_between-requires-clause-live : goal.peak_between-requires-clause-live
peak_between-requires-clause-live c =
    let s = c.args.stretches.now in
    let span = c.args.span in
    let inside : c.args.b < length (lists_of s.before.items) =
    omega (arith, lists-length s.most.items, c.requires.stretches.rows, c.requires.stretches.ends) in
    let read = row-read_at s.before.items c.args.b c.index-2.result.now c.deref-2.result.now inside c.index-2.ensures c.deref-2.ensures.value in
    grind (arith, get_or_read, live-before)

pub returns : goal.returns
returns c = λ floor so_far.
    let s = c.args.stretches.now in
    let f = blocks_from c.args.span.low c.args.span.end in
    let inside : c.args.b < length (lists_of s.most.items) = omega (arith, lists-length s.most.items) in
    let start = get_or_read s.starts.items c.args.b c.index-3.result.now (omega (arith, c.requires.stretches.ends)) c.index-3.ensures 0 in
    let end = get_or_read s.starts.items (c.args.b + 1) c.index-4.result.now (omega (arith, c.requires.stretches.ends)) c.index-4.ensures 0 in
    grind arith
