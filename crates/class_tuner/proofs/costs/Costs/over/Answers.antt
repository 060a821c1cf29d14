use Rattle.std.proofs.Common.{arith}
use Rattle.tuner_theory.proofs.LawLemmas.{places_cross, spans_fit}
use Rattle.class_tuner.proofs.costs.Costs.over.Goals as goal

pub invariant_of-lawful : goal.invariant_of-lawful
invariant_of-lawful c =
    let s = c.args.spans in
    record {
      small = λ i j lt le. omega (arith, spans_fit s.counts s.step i j c.requires.is_step c.requires.are_counts lt le);
      crossing = λ a b d e ab bd de le. places_cross s.counts s.step a b d e c.requires.is_step ab (omega arith) de le;
    }
