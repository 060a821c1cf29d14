use Rattle.std.proofs.Common.{◌≡◌, ◌≤◌, ◌++◌, length, take, arith}
use Rattle.byte_streams.proofs.Transfers.{appends_more, first_ready, moved_more, written_more}
use Rattle.byte_streams.proofs.transfer.write_all.Goals as goal

pub loop-sink-preserved : goal.loop-sink-preserved
loop-sink-preserved g c =
    let inv = c.loop-sink.invariant.1 in
    let written = c.loop-sink.invariant.0 in
    let ready = g.O.Output.ready c.loop-sink.output in
    let rest = g.O.Output.rest c.loop-sink.output in
    let n = c.in_ok-n.n in
    let handed = c.piece-in-loop-sink.ensures.ready in
    let first = c.piece-in-loop-sink.ensures.first in
    let bound : n ≤ length ready = rw handed at c.in_ok-n.ensures.bound in
    let same : take n ready ≡ take n rest = first_ready rest ready first.0 n first.1 bound in (
      written ++ take n rest,
      record {
        parts = written_more _ written rest _ n inv.parts c.advance.ensures;
        taken = record {
          all = moved_more _ _ _ written (take n rest) inv.taken.all (rw (handed, same) at c.in_ok-n.ensures.written);
          known = appends_more _ _ _ written (take n rest) inv.taken.known (rw (handed, same) at c.in_ok-n.ensures.bytes);
        };
        failed = omega (arith, inv.failed, c.in_ok-n.ensures.failed);
      },
    )
