use Rattle.std.proofs.Common.{arith}
use Rattle.class_tuner.proofs.fits.place_filling.fill_next.Goals as goal

pub lower_slack-requires : goal.lower_slack-requires
lower_slack-requires c = omega arith

pub fill_place-requires : goal.fill_place-requires
fill_place-requires c = grind arith

pub returns : goal.returns
returns c = record {
  ready = c.fill_place.ensures.ready;
  filled = c.fill_place.ensures.filled;
  alike = c.fill_place.ensures.alike;
}
