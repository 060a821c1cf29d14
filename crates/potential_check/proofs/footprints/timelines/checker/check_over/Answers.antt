use Rattle.std.proofs.{Common.{◌≡◌, List, ℕ, inr, sym, subst, ◌∙◌}, lemmas.Bool.{false≢true}}
use Rattle.potential_check.specs.Certificates.SheetView.{sheet_of}
use Rattle.tuner_theory.{proofs.Timelines.{least_over_timeline}, specs.Histories.{peaks}, specs.Sheets.{IsFitVerdict, Sheet}}
use Rattle.tuner_theory.specs.{Timelines.{AreMoments, history_at, moments}, Waste.{Serves}, declared.size_event.SizeEvent.{SizeEvent}}
use Rattle.tuner_theory.specs.declared.verdict.{Verdict.{Verdict}, Verdict.TheVariants.{Optimal}}
use Rattle.potential_check.proofs.footprints.timelines.checker.check_over.Goals as goal

-- a verdict over a history, at what both are
moved : (snapshots others : List (List ℕ)) (fit : Sheet) (verdict : Verdict) → snapshots ≡ others → verdict ≡ Optimal
    → IsFitVerdict snapshots fit verdict → IsFitVerdict others fit Optimal
moved snapshots others fit verdict same is meets =
    subst (λ (s : List (List ℕ)). IsFitVerdict s fit Optimal) same (subst (λ (v : Verdict). IsFitVerdict snapshots fit v) is meets)

pub returns-then-not-serves-clause-verdict : goal.returns-then-not-serves-clause-verdict
returns-then-not-serves-clause-verdict c =
    let fit = sheet_of c.args.fit.now in
    let same = c.in_ok-index.ensures ∙ c.events-events.ensures.events in
    record {
      are = rw c.events-events.ensures.events at (c.are_moments.ensures.0 c.if-not-are_moments.false);
      breaks = inr (
        moved c.in_ok-history.history.snapshots (history_at c.args.timeline.now c.args.numbers.now) fit c.in_ok-refusal.field-0
            (rw same at c.in_ok-history.ensures) c.in_default.is c.in_ok-refusal.ensures.verdict,
        λ serves. false≢true (sym c.if-not-serves.true ∙ c.serves.ensures.1
            (subst (λ (events : List SizeEvent). Serves (peaks (moments events)) fit.table) (sym same) serves)),
      );
    }

pub returns-then-taken-fit-clause-verdict : goal.returns-then-taken-fit-clause-verdict
returns-then-taken-fit-clause-verdict c =
    let fit = sheet_of c.args.fit.now in
    let same = c.in_ok-index.ensures ∙ c.events-events.ensures.events in
    record {
      are = rw c.events-events.ensures.events at (c.are_moments.ensures.0 c.if-not-are_moments.false);
      breaks = inr (
        moved c.in_ok-history.history.snapshots (history_at c.args.timeline.now c.args.numbers.now) fit c.in_ok-refusal.field-0
            (rw same at c.in_ok-history.ensures) c.in_default.is c.in_ok-refusal.ensures.verdict,
        (rw same at (c.serves.ensures.0 c.if-not-serves.false), λ takes. c.if-taken-fit.true (rw same at c.in_ok-taken.ensures.bytes ∙ takes)),
      );
    }

pub returns-clause-verdict : goal.returns-clause-verdict
returns-clause-verdict c =
    let fit = sheet_of c.args.fit.now in
    let same = c.in_ok-index.ensures ∙ c.events-events.ensures.events in
    record {
      are = rw c.events-events.ensures.events at (c.are_moments.ensures.0 c.if-not-are_moments.false);
      over_moments = moved c.in_ok-history.history.snapshots (history_at c.args.timeline.now c.args.numbers.now) fit c.in_ok-refusal.field-0
          (rw same at c.in_ok-history.ensures) c.in_default.is c.in_ok-refusal.ensures.verdict;
      serving = rw same at (c.serves.ensures.0 c.if-not-serves.false);
      takes = sym (rw same at c.in_ok-taken.ensures.bytes) ∙ c.if-taken-fit.false;
    }

pub returns-clause-least : goal.returns-clause-least
returns-clause-least c _ =
    let fit = sheet_of c.args.fit.now in
    let same = c.in_ok-index.ensures ∙ c.events-events.ensures.events in
    let are : AreMoments c.args.timeline.now c.args.numbers.now =
    rw c.events-events.ensures.events at (c.are_moments.ensures.0 c.if-not-are_moments.false) in
    least_over_timeline c.args.timeline.now c.args.numbers.now fit c.events-events.ensures.timeline are c.len-classes.ensures.legal
    (moved c.in_ok-history.history.snapshots (history_at c.args.timeline.now c.args.numbers.now) fit c.in_ok-refusal.field-0
    (rw same at c.in_ok-history.ensures) c.in_default.is c.in_ok-refusal.ensures.verdict)
    (rw same at (c.serves.ensures.0 c.if-not-serves.false)) (sym (rw same at c.in_ok-taken.ensures.bytes) ∙ c.if-taken-fit.false)
