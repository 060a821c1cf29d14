use Rattle.std.proofs.{Common.{refl, rules, arith}, lemmas.Grind.{common_steps}}
use Rattle.raw_region.proofs.Written.{changes_only}
use Rattle.raw_region.proofs.region.RawRegion.write_bytes.Goals as goal

pub returns-clause-others : goal.returns-clause-others
returns-clause-others c =
    changes_only c.args.self.now c.args.bytes.now _ c.args.i _ (grind (arith, common_steps)) refl (search rules)
