use Rattle.std.proofs.{Common.{◌≡◌, ℕ, List, ◌+◌, ◌++◌, take, append_assoc, arith}, Math.Seq.{take-add}}
use Rattle.std.{proofs.lemmas.Grind.{flat_map-append}, specs.List.{flat_map}}
use lib.Lanes.{chunk}
use Rattle.line_text.specs.Hexadecimal.{hex}
use Rattle.replay_core.proofs.put.put_hex_strides.Goals as goal

-- sixteen bytes more
digits_more : (bytes : List ℕ) (done : ℕ) →
    flat_map hex (take (done + 16) bytes) ≡ flat_map hex (take done bytes) ++ flat_map hex (chunk done 16 bytes)
digits_more bytes done = grind (arith, take-add, flat_map-append)

-- a stride more
stride_more : (bytes : List ℕ) (done : ℕ) → flat_map hex (take (done + 32) bytes)
    ≡ flat_map hex (take done bytes) ++ flat_map hex (chunk done 16 bytes) ++ flat_map hex (chunk (done + 16) 16 bytes)
stride_more bytes done =
    let two : done + 32 ≡ done + 16 + 16 = omega arith in
    grind (arith, digits_more)

pub loop-done-preserved : goal.loop-done-preserved
loop-done-preserved c = grind (arith, stride_more, append_assoc)
