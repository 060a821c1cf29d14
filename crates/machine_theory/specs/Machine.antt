-- The machine: its memory and the register RGSR_EL1 (Arm ARM DDI 0487, Memory Tagging Extension).
use Rattle.std.specs.Prelude.{ℕ, ◌^◌, ◌<◌, List}
use Rattle.machine_theory.specs.Memory.{Granule}

pub record Machine : Type 0 where
  pub memory : List Granule
  pub seed : ℕ  -- RGSR_EL1.SEED
  pub tag : ℕ  -- RGSR_EL1.TAG, the tag that IRG chose last

-- what its register always is
pub record IsRegister (seed tag : ℕ) : Type 0 where
  pub seed_some : 0 < seed
  pub seed_fits : seed < 2 ^ 16
  pub tag_fits : tag < 16
