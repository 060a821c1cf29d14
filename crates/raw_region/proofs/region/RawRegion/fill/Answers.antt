use Rattle.std.proofs.{Common.{ℕ, rules, arith, ◌-◌, replicate}, lemmas.Grind.{common_steps}, lemmas.List.{length-replicate}}
use Rattle.raw_region.proofs.Written.{changes_only}
use Rattle.raw_region.proofs.region.RawRegion.fill.Goals as goal

pub returns-clause-others : goal.returns-clause-others
returns-clause-others c =
    let run = replicate (c.args.to - c.args.from) c.args.b in
    changes_only c.args.self.now run _ c.args.from _ (grind (arith, common_steps)) (omega (arith, length-replicate {A = ℕ})) (search rules)
