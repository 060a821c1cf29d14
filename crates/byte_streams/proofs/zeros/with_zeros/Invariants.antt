use Rattle.std.proofs.Common.{◌≡◌, ◌++◌, ◌+◌, ◌-◌, ◌≤◌, ℕ, replicate, vec_len}
use Rattle.byte_streams.proofs.zeros.with_zeros.Given as goal

abbrev pub invariant-runs : goal.invariant-runs
invariant-runs l = (done : ℕ) × record {
  zeros : l.bytes.items ≡ l.fn.bytes.items ++ replicate done 0;
  long : vec_len l.bytes + l.count ≡ l.end + done;
  few : done ≤ l.count;
}

abbrev pub decreases-runs : goal.decreases-runs
decreases-runs l = l.end - vec_len l.bytes
