-- Needs, rounded up, against the classes that serve.
use Rattle.std.proofs.{Common.{◌≡◌, ℕ, ◌-◌, ◌*◌, ◌%◌, ◌<◌, ◌≤◌, arith}}
use Rattle.class_table.specs.{Sizes.{largest_counted, need_of}, Steps.{IsLeastMultiple, IsStep, round_up}}
use Rattle.class_table.specs.declared.sizes.TheConstants.{LARGEST_CLASS, SMALLEST_CLASS}
use Rattle.tuner_theory.specs.Spans.{rounded_need}

-- ---- steps

-- what holds of each step
at_each_step : (P : ℕ → Type 0) → P 1 → P 2 → P 4 → P 8 → (step : ℕ) → IsStep step → P step
at_each_step P one two four eight step h = grind arith

pub step-positive : (step : ℕ) → IsStep step → 0 < step
step-positive = at_each_step (λ step. 0 < step) (omega arith) (omega arith) (omega arith) (omega arith)

-- ---- rounding

-- none of the multiples that are not below the need is below the rounded one
round_up-least : (need step other : ℕ) → 0 < step → other % step ≡ 0 → need ≤ other → round_up need step ≤ other
round_up-least need step other pos multiple le = grind arith

pub rounding_is_least : (step need : ℕ) → 0 < step → IsLeastMultiple step need (round_up need step)
rounding_is_least step need pos = grind arith

-- ---- rounded needs

pub rounded-small : (step n : ℕ) → IsStep step → n ≤ largest_counted → rounded_need step n ≤ LARGEST_CLASS
rounded-small step n is_step le = grind arith

module _ (step : ℕ) (pos : 0 < step) where
  pub rounded-multiple : (n : ℕ) → rounded_need step n % step ≡ 0
  rounded-multiple n = (rounding_is_least step (need_of n) pos).multiple

  pub rounded-mono : (m n : ℕ) → m ≤ n → rounded_need step m ≤ rounded_need step n
  rounded-mono m n le = grind (arith, rounding_is_least, round_up-least)

  pub rounded-positive : (n : ℕ) → SMALLEST_CLASS ≤ rounded_need step n
  rounded-positive n = omega arith

  -- a class that is not below the rounded need serves,
  pub rounded-fits : (n class : ℕ) → rounded_need step n ≤ class → n ≤ 16 * class - 16
  rounded-fits n class le = omega arith

  -- and a class that serves, where it is a multiple of the step, is not below it
  pub fits-rounded : (n class : ℕ) → 2 ≤ class → class % step ≡ 0 → n ≤ 16 * class - 16 → rounded_need step n ≤ class
  fits-rounded n class two multiple le = grind arith
