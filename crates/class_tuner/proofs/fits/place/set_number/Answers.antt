use Rattle.tuner_theory.proofs.Lists.{set-lists}
use Rattle.class_tuner.proofs.fits.place.set_number.Goals as goal

pub returns : goal.returns
returns c = set-lists c.args.rows.now c.args.index c.args.place c.args.number c.index-rows-index.result c.requires.row
