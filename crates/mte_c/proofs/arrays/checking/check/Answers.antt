use Rattle.std.proofs.{Common.{◌≡◌, ℕ, ◌%◌, List, length, Err, IsOk, arith, rules}, lemmas.Result.{err_from_is_err_and}}
use Rattle.class_table.specs.Faults.{table_of_classes}
use Rattle.tool_call.specs.{Options.{AreValid}, declared.options.{OptionName.TheVariants.{Limit}, Options.{Options}}}
use Rattle.tool_call.specs.declared.call.CommandName.TheVariants.{Tune}
use Rattle.mte_c.specs.{Arrays.Calls.{AreToCheck, GivesTable, IsChecked}, Arrays.Spelled.{GivesProfile, profile_of_arrays}}
use Rattle.mte_c.specs.declared.arrays.fault.ArrayError.{ArrayError}
use Rattle.mte_c.proofs.arrays.checking.check.Goals as goal

module _ (options : Options) (waste : ℕ) (classes numbers sizes counts : List ℕ) (error : ArrayError) (valid : AreToCheck options)
    (cut : length numbers % options.limit ≡ 0) where
  table_refused : GivesTable (Err error) (table_of_classes classes) → IsChecked options waste classes numbers sizes counts (Err error)
  table_refused gives = grind arith

  profile_refused : IsOk (table_of_classes classes) → GivesProfile (Err error) (profile_of_arrays sizes counts)
      → IsChecked options waste classes numbers sizes counts (Err error)
  profile_refused read gives = grind arith

pub nonzero_div-numbers : goal.nonzero_div-numbers
nonzero_div-numbers c =
    let valid : AreValid Tune c.args.options = search rules in
    omega (arith, c.from-limit.ensures, (valid 0 Limit (omega arith)).0)

pub returns-in_err-table : goal.returns-in_err-table
returns-in_err-table c =
    let error = err_from_is_err_and c.from_residual.result c.from_residual.ensures.1 in
    rw (error.1, error.2)
    (table_refused c.args.options c.args.waste c.args.classes.now c.args.numbers.now c.args.sizes.now c.args.counts.now
    c.in_err-table.field-0.0 (search rules) (search rules) c.in_err-table.ensures)

pub returns-in_err-profile : goal.returns-in_err-profile
returns-in_err-profile c =
    let error = err_from_is_err_and c.from_residual-in_err-profile.result c.from_residual-in_err-profile.ensures.1 in
    rw (error.1, error.2)
    (profile_refused c.args.options c.args.waste c.args.classes.now c.args.numbers.now c.args.sizes.now c.args.counts.now
    c.in_err-profile.field-0.0 (search rules) (search rules) (search rules) c.in_err-profile.ensures)
