use Rattle.std.proofs.Common.{append_assoc, refl}
use Rattle.trace_reader.proofs.one_pass.move_pointer.Goals as goal

pub returns-clause-spelled : goal.returns-clause-spelled
returns-clause-spelled c =
    rw (c.in_ok-v.ensures.spelled, c.in_ok-w.ensures.spelled, c.in_ok-u6.ensures.spelled, c.in_ok-u4.ensures.spelled) (simp append_assoc refl)
