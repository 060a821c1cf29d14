use Rattle.std.proofs.{Common.{arith}, lemmas.Grind.{common_steps}}
use Rattle.class_tuner.proofs.fits.place_filling.fresh_memory.Goals as goal

pub returns : goal.returns
returns c = record {
  bounds = c.in_ok-bounds.ensures;
  slack = record {
    long = omega (arith, c.in_ok-slack.ensures.len, c.in_ok-slack.slack.ok.0);
    small = λ b. grind (arith, common_steps);
  };
  from = omega (arith, c.in_ok-from.ensures.len, c.in_ok-from.from.ok.0);
  older = omega (arith, c.in_ok-older.ensures.len, c.in_ok-older.older.ok.0);
}
