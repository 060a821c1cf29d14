use Rattle.std.proofs.Common.{◌≡◌, ◌+◌, ◌≤◌, List, ℕ, length, vec_len}
use Rattle.byte_streams.specs.Transfer.{HasGiven}
use Rattle.byte_streams.proofs.transfer.read_all.Given as goal

abbrev pub invariant-loop-turn : goal.invariant-loop-turn
invariant-loop-turn g l =
    let old = g.R.ByteSource.state l.fn.source in
    let new = g.R.ByteSource.state l.source in
    (bytes : List ℕ) × record {
      taken : g.I.Input.has_taken l.input bytes;
      count : length bytes ≡ l.taken;
      short : l.taken ≤ 67108864;
      failed : new.failed ≡ old.failed;
      given : HasGiven old new bytes;
      reads : new.reads ≡ old.reads + l._turn;
      turns : l._turn ≤ l.taken;
      room : vec_len l.piece ≡ 65536;
    }
