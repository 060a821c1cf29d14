use Rattle.std.proofs.{Common.{◌≡◌, ◌≤◌, ◌++◌, length, take, arith}, lemmas.List.{length-take, length-append}}
use Rattle.byte_streams.proofs.Transfers.{consumes_more, moved_more, piece_of}
use Rattle.byte_streams.proofs.transfer.read_all.Goals as goal

pub loop-turn-preserved : goal.loop-turn-preserved
loop-turn-preserved g c =
    let inv = c.loop-turn.invariant.1 in
    let bytes = c.loop-turn.invariant.0 in
    let n = c.in-Ok.n in
    let buffer = c.read.new.buf in
    let piece = c.deref.result.now in
    let same : take n piece ≡ take n buffer = piece_of n _ buffer _ piece (omega arith) c.deref.ensures.value in
    let fits : n ≤ length buffer = c.in-Ok.ensures.bound in (
      bytes ++ take n piece,
      record {
        taken = c.in_ok-take.ensures bytes inv.taken;
        count = rw same (simp (length-append, length-take) (omega (arith, inv.count)));
        short = omega (arith, inv.short);
        failed = omega (arith, inv.failed, c.in-Ok.ensures.failed);
        given =
            rw same (record {
              all = moved_more _ _ _ bytes (take n buffer) inv.given.all c.in-Ok.ensures.given;
              known = consumes_more _ _ _ bytes (take n buffer) inv.given.known c.in-Ok.ensures.bytes.0;
            });
        reads = omega (arith, inv.reads, c.in-Ok.ensures.reads);
        turns = omega (arith, inv.turns);
        room = inv.room;
      },
    )

pub returns-in_default-clause-read : goal.returns-in_default-clause-read
returns-in_default-clause-read g c = omega (arith, c.loop-turn.invariant.1.failed, c.in_default.ensures.failed)
