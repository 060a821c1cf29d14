use Rattle.std.proofs.Common.{◌==◌, ap, List, ℕ}
use Rattle.potential_check.specs.Certificates.SheetView.{sheet_of}
use Rattle.tuner_theory.{proofs.LawLemmas.{few_places}, proofs.Served.{served_are_counts}, specs.Served.{served}}
use Rattle.mte_engine.{proofs.RowLines.{short_rows}, specs.declared.engine.Status.TheVariants.{Done}}
use Rattle.mte_engine.proofs.tuning.tune_text.Goals as goal

pub of_sheet-requires : goal.of_sheet-requires
of_sheet-requires c =
    let profile = c.in_ok-profile.profile in
    let is_profile = rw c.profile.view_is at c.profile.invariant in
    let forced = c.args.options.largest_class == 1 in
    let few = few_places (served forced profile.counts) c.args.options.step c.requires.is_step
    (served_are_counts forced profile.counts is_profile.counts) in
    short_rows _ c.args.options.limit _ c.in_ok-sheet.ensures.made.shape few

pub returns : goal.returns
returns c = (
  c.in_ok-profile.profile,
  c.in_ok-profile.ensures,
  record {
    sheet = sheet_of c.in_ok-sheet.sheet;
    tuned = c.in_ok-sheet.ensures;
    written = ap (λ (t : List ℕ). record { text = t; status = Done }) c.in_ok-output.ensures;
  },
)
