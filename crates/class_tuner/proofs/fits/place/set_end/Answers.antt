use Rattle.tuner_theory.proofs.Lists.{set-lists}
use Rattle.class_tuner.proofs.fits.place.set_end.Goals as goal

pub returns : goal.returns
returns c = set-lists c.args.ends.now c.args.index c.args.place c.args.end c.index-ends-index.result c.requires.row
