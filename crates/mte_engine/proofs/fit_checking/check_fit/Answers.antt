use Rattle.std.proofs.lemmas.Bool.{le-ltb, lt-ltb}
use Rattle.mte_engine.proofs.Borders.{fit_at_border, leading_fit}
use Rattle.mte_engine.proofs.fit_checking.check_fit.Goals as goal

pub returns-then-options-gt0 : goal.returns-then-options-gt0
returns-then-options-gt0 g c =
    rw (fit_at_border c.args.options (lt-ltb 0 c.args.options.first_lines c.if-options-gt0.true)) c.run_engine.ensures

pub returns : goal.returns
returns g c = rw (leading_fit c.args.options (le-ltb 0 c.args.options.first_lines c.if-options-gt0.false)) c.run_engine-2.ensures
