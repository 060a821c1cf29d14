use Rattle.std.proofs.{Common.{◌≡◌, ◌-◌, arith, vec_len}}
use Rattle.history_count.proofs.SumsOfClasses.{holds-none, zeros-are}
use Rattle.history_count.proofs.class_sums.ClassSums.new.Goals as goal

pub returns-clause-holds : goal.returns-clause-holds
returns-clause-holds c =
    let size : c.args.count - vec_len c.new-blocks.result ≡ c.args.count = omega (arith, c.new-blocks.ensures.len) in
    holds-none c.args.table.now c.args.count c.resize.new.self.items c.in_ok-new.field-0 c.requires.some c.requires.few
    (grind (arith, zeros-are)) c.in_ok-new.ensures
