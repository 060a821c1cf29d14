use Rattle.std.proofs.{Common.{ℕ, ◌≤◌, List, Err, arith, refl, rules}, lemmas.Result.{err_from_is_err_and}}
use Rattle.potential_check.specs.Certificates.SheetView.{sheet_of}
use Rattle.mte_c.specs.{Arrays.Calls.{IsTunedOr}, Arrays.Spelled.{GivesProfile, profile_of_arrays}}
use Rattle.mte_c.specs.declared.{arrays.fault.ArrayError.{ArrayError}, arrays.tuning.TunedNumbers.{TunedNumbers}}
use Rattle.tool_call.specs.{Options.{AreValid}, declared.options.Options.{Options}}
use Rattle.tool_call.specs.declared.call.CommandName.TheVariants.{Tune}
use Rattle.mte_c.proofs.arrays.tuning.tune.Goals as goal

refused : (options : Options) (sizes counts : List ℕ) (room : ℕ) (done : TunedNumbers → Type 0) (error : ArrayError) → AreValid Tune options
    → options.limit ≤ room → GivesProfile (Err error) (profile_of_arrays sizes counts) → IsTunedOr options sizes counts room (Err error) done
refused options sizes counts room done error valid fits gives = grind arith

pub put_rows-requires-clause-shape : goal.put_rows-requires-clause-shape
put_rows-requires-clause-shape c = rw (c.from-limit.ensures, c.row_length-places.ensures.length) c.in_ok-sheet.ensures.made.shape

pub returns-clause-tuned : goal.returns-clause-tuned
returns-clause-tuned c = (
  search rules,
  omega (arith, c.from-limit.ensures, c.if-classes-limit.false),
  record {
    profile = c.in_ok-profile.profile;
    spelled = c.in_ok-profile.ensures;
    sheet = sheet_of c.in_ok-sheet.sheet;
    is_tuned = c.in_ok-sheet.ensures;
    class_count = c.len.ensures.len;
    waste = refl;
    row_length = c.row_length-places.ensures.length;
    table = c.put_classes.ensures;
    rows_fit = rw c.from-limit.ensures at c.put_rows.ensures.written;
    rows_rest = rw c.from-limit.ensures at c.put_rows.ensures.rest;
    rows_kept = rw c.from-limit.ensures at c.put_rows.ensures.kept;
  },
)

pub returns-in_err-profile-clause-tuned : goal.returns-in_err-profile-clause-tuned
returns-in_err-profile-clause-tuned c =
    let error = err_from_is_err_and c.from_residual.result c.from_residual.ensures.1 in
    rw (error.1, error.2)
    (refused c.args.options c.args.sizes.now c.args.counts.now _ _ c.in_err-profile.field-0.0 (search rules)
    (omega (arith, c.from-limit.ensures, c.if-classes-limit.false)) c.in_err-profile.ensures)
