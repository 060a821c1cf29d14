use Rattle.std.{proofs.Common.{ℕ, List, ◌∷◌, ◌++◌, ◌∙◌, [], ap, append_assoc}, specs.Fmt.{decimal}}
use Rattle.trace_reader.proofs.one_pass.three_digits.Goals as goal

pub returns-clause-spelled : goal.returns-clause-spelled
returns-clause-spelled c =
    c.in_ok-word.ensures ∙ ap (λ (t : List ℕ). t ++ c.in_ok-word.after.now) c.in_ok-value.ensures.spelled
    ∙ append_assoc (decimal c.in_ok-value.value) (c.args.end ∷ []) c.in_ok-word.after.now
