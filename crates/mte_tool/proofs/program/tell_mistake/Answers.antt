use Rattle.std.proofs.{Common.{arith}, lemmas.Grind.{common_steps}}
use Rattle.mte_tool.proofs.Ends.{told_after}
use Rattle.mte_tool.proofs.program.tell_mistake.Goals as goal

pub returns-then-eq : goal.returns-then-eq
returns-then-eq g c =
    told_after c.as_str.result.now _ _ _ _ c.write_text.result (grind (arith, common_steps)) c.write_text.ensures
    (grind (arith, common_steps)) c.tell.ensures
