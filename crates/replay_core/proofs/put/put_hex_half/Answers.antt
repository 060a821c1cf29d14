use Rattle.std.proofs.{Common.{arith}, lemmas.Simd.{take_more_put_chunk}}
use Rattle.replay_core.proofs.put.put_hex_half.Goals as goal

pub returns-clause-text : goal.returns-clause-text
returns-clause-text c = grind (arith, take_more_put_chunk)
