use Rattle.std.proofs.Common.{Option, refl, rules, subst, sym}
use Rattle.mte_step.specs.{Settings.{Made, config_of}, declared.picture.NoPicture.TheVariants.{OutOfMemory}}
use Rattle.mte_step.specs.declared.stepper.Stepper.{Stepper}
use Rattle.heap_theory.specs.{Config.{IsConfig}, declared.config.Config.{Config}}
use Rattle.mte_step.proofs.mte_step_new.Goals as goal

pub returns-in-Ok : goal.returns-in-Ok
returns-in-Ok c =
    subst (λ (held : Option Stepper). Made (config_of c.args.settings) c.args.line.now c.args.trace.now held 3) (sym c.requires) (
      OutOfMemory,
      (subst (λ (config : Config). IsConfig config) c.config.ensures c.in-Ok.ensures.0, rw c.in-Ok.ensures.1.spelled (search rules)),
      refl,
    )
