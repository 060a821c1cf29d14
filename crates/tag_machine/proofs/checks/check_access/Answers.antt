use Rattle.std.proofs.Common.{◌∙◌, arith}
use Rattle.machine_theory.proofs.AccessLaws.{inside_succeeds, unmapped_is}
use Rattle.tag_machine.proofs.Touched.{touched_from, touched_to}
use Rattle.tag_machine.proofs.checks.check_access.Goals as goal

pub returns-in_default-clause-err : goal.returns-in_default-clause-err
returns-in_default-clause-err c = unmapped_is c.args.memory.now c.args.address c.args.len c.in_default.ensures.none

pub returns-else-not-all_have_tag-clause-ok : goal.returns-else-not-all_have_tag-clause-ok
returns-else-not-all_have_tag-clause-ok c =
    inside_succeeds c.args.memory.now c.args.address c.args.len (omega arith) c.in-Some.ensures.mapped
    (λ g t. c.all_have_tag.ensures.0 c.if-not-all_have_tag.false g
    (omega (arith, c.in-Some.ensures.at, touched_from c.args.address c.args.len g t))
    (omega (arith, c.in-Some.ensures.at, c.in-Some.ensures.mapped.from, touched_to c.args.address c.args.len g t)) ∙ c.logical_tag.ensures.tag)
