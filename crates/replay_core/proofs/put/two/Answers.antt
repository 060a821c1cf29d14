use Rattle.replay_core.proofs.TwoDigits.{two_at}
use Rattle.replay_core.proofs.put.two.Goals as goal

pub returns : goal.returns
returns c = two_at c.args.number c.requires
