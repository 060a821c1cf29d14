use Rattle.std.proofs.Common.{arith}
use Rattle.history_count.proofs.TimelineLemmas.Steps.{known-more}
use Rattle.history_count.proofs.timelines.counting.known_class.Goals as goal

pub overflow_cast-known : goal.overflow_cast-known
overflow_cast-known c = omega (arith, c.in_ok-number.ensures.some.2, c.requires.legal.few)

pub returns-clause-known : goal.returns-clause-known
returns-clause-known c =
    let found = c.in_ok-number.ensures.some in
    known-more c.args.layout.now.classes c.args.known.now c.args.n c.in_ok-number.number c.requires.known found.0 found.1 found.2
