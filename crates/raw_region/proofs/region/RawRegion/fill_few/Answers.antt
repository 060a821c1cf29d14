use Rattle.std.proofs.{Common.{ℕ, rules, arith, replicate}, lemmas.Grind.{common_steps}, lemmas.List.{length-replicate}}
use Rattle.raw_region.proofs.Written.{changes_only}
use Rattle.raw_region.proofs.region.RawRegion.fill_few.Goals as goal

pub returns-clause-others : goal.returns-clause-others
returns-clause-others c =
    changes_only c.args.self.now (replicate c.args.count c.args.b) _ c.args.i _ (grind (arith, common_steps))
    (omega (arith, length-replicate {A = ℕ})) (search rules)
