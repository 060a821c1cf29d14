use Rattle.std.proofs.Common.{◌∙◌, ap, subst, List, ℕ}
use Rattle.potential_check.specs.{Certificates.SheetView.{sheet_of}, SheetText.{fit_text}, declared.cost.OfFootprint.{OfFootprint}}
use Rattle.potential_check.specs.declared.certificates.certificate.Certificate.{Certificate}
use Rattle.tuner_theory.proofs.{FootprintLawLemmas.{peaks_are_counts}, LawLemmas.{few_places}, Served.{served_are_counts}}
use Rattle.tuner_theory.specs.{Histories.{AreSnapshots, peaks}, Served.{served}}
use Rattle.history_count.specs.Histories.{History}
use Rattle.mte_engine.{proofs.RowLines.{short_rows}, specs.declared.engine.Status.TheVariants.{Done}}
use Rattle.mte_engine.proofs.fit_engine.fit_text.Goals as goal

pub of_sheet-requires : goal.of_sheet-requires
of_sheet-requires c =
    let history = c.in_ok-history.history in
    let Good : History → Type 0 = λ h. AreSnapshots h.snapshots in
    let are = subst Good c.history.view_is c.history.invariant.lines.snapshots in
    let few = few_places (served c.args.forced (peaks history.snapshots)) c.args.step c.requires.options.is_step
    (served_are_counts c.args.forced (peaks history.snapshots) (peaks_are_counts history.snapshots are)) in
    rw c.into_sheet.ensures (short_rows _ c.args.limit _ c.in_ok-fitted.ensures.fitted.made.shape few)

pub returns : goal.returns
returns c =
    let text = c.in_ok-output.ensures ∙ ap (λ (f : Certificate OfFootprint). fit_text (sheet_of f)) c.into_sheet.ensures in (
      c.in_ok-history.history,
      c.in_ok-history.ensures,
      record {
        fit = sheet_of c.in_ok-fitted.fitted.sheet;
        fitted = c.in_ok-fitted.ensures.fitted;
        written = ap (λ (t : List ℕ). record { text = t; status = Done }) text;
      },
    )
