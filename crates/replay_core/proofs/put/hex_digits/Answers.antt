use Rattle.std.proofs.Common.{◌∙◌}
use Rattle.replay_core.proofs.HexLanes.{firsts_ok, seconds_ok, first_digits, second_digits, in_turn, paired}
use Rattle.replay_core.proofs.put.hex_digits.Goals as goal

pub swizzle-first : goal.swizzle-first
swizzle-first c = firsts_ok c.args.bytes c.fits-bytes

pub swizzle-second : goal.swizzle-second
swizzle-second c = seconds_ok c.args.bytes c.fits-bytes

pub returns : goal.returns
returns c =
    (λ k. in_turn (first_digits c.args.bytes c.fits-bytes k) (second_digits c.args.bytes c.fits-bytes k))
    ∙ paired c.args.bytes c.fits-bytes.0
