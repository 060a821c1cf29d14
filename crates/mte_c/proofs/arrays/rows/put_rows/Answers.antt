use Rattle.std.proofs.Common.{arith}
use Rattle.mte_c.proofs.ArrayLemmas.Laid.{rows_laid}
use Rattle.mte_c.proofs.arrays.rows.put_rows.Goals as goal

pub returns-clause-written : goal.returns-clause-written
returns-clause-written c = λ room.
    rows_laid c.args.limit c.args.places c.loop-at.numbers c.args.rows.now c.requires.shape
    (λ at before. c.loop-at.invariant.written at (omega (arith, before, c.loop-at.invariant.ends, c.loop-at-test.false)))
