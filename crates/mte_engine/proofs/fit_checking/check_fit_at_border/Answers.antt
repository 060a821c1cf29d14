use Rattle.std.proofs.{Common.{List, ℕ, ◌+◌, ◌++◌, drop, length, take, Err, sym, ◌∙◌, Result}, lemmas.Result.{err_from_is_err_and}}
use Rattle.byte_streams.specs.TextLeft.{text_left}
use Rattle.history_count.specs.{Histories.{History}, HistoryText.{history_of_lines}, Timelines.TimelineText.{timeline_of_lines}}
use Rattle.line_text.specs.Lines.{lines}
use Rattle.potential_check.specs.{Certificates.SheetView.{sheet_of}, Leading.{leading_lines, lines_after}, SheetText.{fit_of_lines}}
use Rattle.potential_check.specs.declared.cost.Cost.TheVariants.{Footprint}
use Rattle.tuner_theory.specs.{Sheets.{Sheet}, declared.size_event.SizeEvent.{SizeEvent}}
use Rattle.mte_engine.proofs.TwoParts.{either_refused, first_refused, other_answers, others_refused, part_alone, part_refused}
use Rattle.mte_engine.{proofs.TwoParts.{then_answered, one_answers}, specs.CheckFit.{ChecksFitParts, IsFitChecked}, specs.Outcome.{Answer}}
use Rattle.mte_engine.specs.CheckFitOver.{ChecksOverParts, IsCheckedOver, begins_moments, whole_moments_part}
use Rattle.mte_engine.specs.Parts.{both_parts, history_part, lacking, sheet_part, timeline_part, whole_sheet_part}
use Rattle.mte_engine.specs.declared.fault.{InputFault.{InputFault}, InputFault.TheVariants.{BadFit}}
use Rattle.tool_call.specs.declared.options.Options.{Options}
use Rattle.mte_engine.proofs.Borders.{begins-lacking}
use Rattle.mte_engine.proofs.fit_checking.check_fit_at_border.Goals as goal

module _ (options : Options) (ls : List (List ℕ)) where
  abbrev border : ℕ
  border = options.first_lines

  abbrev over : Sheet × (List ℕ × List SizeEvent) → Answer → Type 0
  over parts answer = IsCheckedOver options parts.0 parts.1.0 parts.1.1 answer

  abbrev checked : Sheet × History → Answer → Type 0
  checked parts answer = IsFitChecked options parts.0 parts.1 answer

  abbrev fit_lines : List (List ℕ)
  fit_lines = leading_lines (take border ls)

  abbrev others : List (List ℕ)
  others = lines_after (take border ls) ++ lacking border ls

  abbrev part : Result Sheet InputFault
  part = sheet_part Footprint (fit_of_lines fit_lines)

  abbrev whole : Result Sheet InputFault
  whole = whole_sheet_part Footprint fit_lines others

  abbrev moments_and_timeline : Result (List ℕ × List SizeEvent) InputFault
  moments_and_timeline =
      both_parts (whole_moments_part (length fit_lines) others) (timeline_part border (timeline_of_lines (drop border ls)))

  abbrev history : Result History InputFault
  history = history_part border (history_of_lines (drop border ls))

  abbrev by_moments : Result Answer InputFault → Type 0
  by_moments = ChecksOverParts options fit_lines others border (drop border ls)

  abbrev by_snapshots : Result Answer InputFault → Type 0
  by_snapshots = ChecksFitParts options fit_lines others border (drop border ls)

pub returns-in_err-leading : goal.returns-in_err-leading
returns-in_err-leading c =
    let error = err_from_is_err_and c.from_residual.result c.from_residual.ensures.1 in
    let fault = c.in_err-leading.field-0.0 in
    let o = c.args.options in
    let ls = lines c.args.text.now in
    let read = rw c.cut_after_lines-cut.ensures.first at c.in_err-leading.ensures.sheet in
    rw (error.1, error.2)
    (either_refused (by_moments o ls) (by_snapshots o ls) (begins_moments (others o ls)) fault
    (first_refused (part o ls) (moments_and_timeline o ls) (over o ls) fault read)
    (first_refused (whole o ls) (history o ls) (checked o ls) fault
    (part_refused (part o ls) (BadFit (length (fit_lines o ls) + 1)) (others o ls) fault read)))

pub returns-then-begins_moments : goal.returns-then-begins_moments
returns-then-begins_moments c =
    let o = c.args.options in
    let ls = lines c.args.text.now in
    let cut = c.cut_after_lines-cut.ensures in
    let leading = c.in_ok-leading.ensures in
    let begins = sym c.begins_moments.ensures ∙ c.if-begins_moments.true in
    one_answers text_left (by_moments o ls) (by_snapshots o ls) (begins_moments (others o ls))
    (begins-lacking o.first_lines ls (lines_after (take o.first_lines ls)) ∙ (rw (leading.rest, cut.first) at begins))
    c.check_cut_moments.result
    (then_answered (part o ls) (moments_and_timeline o ls) (over o ls) text_left (sheet_of c.in_ok-leading.leading.sheet)
    (rw cut.first at leading.sheet) c.check_cut_moments.result
    (rw (leading.lines.0, leading.rest, cut.first, cut.rest) at c.check_cut_moments.ensures ls o.first_lines cut.lacks))

pub returns-in_err-end_first : goal.returns-in_err-end_first
returns-in_err-end_first c =
    let error = err_from_is_err_and c.from_residual-in_err-end_first.result c.from_residual-in_err-end_first.ensures.1 in
    let o = c.args.options in
    let ls = lines c.args.text.now in
    let cut = c.cut_after_lines-cut.ensures in
    let leading = c.in_ok-leading.ensures in
    let fault = c.in_err-end_first.field-0.0 in
    let begins = sym c.begins_moments.ensures ∙ c.if-begins_moments.false in
    rw (error.1, error.2)
    (other_answers text_left (by_moments o ls) (by_snapshots o ls) (begins_moments (others o ls))
    (begins-lacking o.first_lines ls (lines_after (take o.first_lines ls)) ∙ (rw (leading.rest, cut.first) at begins)) (Err fault)
    (first_refused (whole o ls) (history o ls) (checked o ls) fault
    (others_refused (part o ls) (BadFit (length (fit_lines o ls) + 1)) (sheet_of c.in_ok-leading.leading.sheet) (others o ls) fault
    (rw cut.first at leading.sheet)
    (rw (leading.lines.0, leading.rest, cut.first) at c.in_err-end_first.ensures ls o.first_lines cut.lacks))))

pub returns : goal.returns
returns c =
    let o = c.args.options in
    let ls = lines c.args.text.now in
    let cut = c.cut_after_lines-cut.ensures in
    let leading = c.in_ok-leading.ensures in
    let fit = sheet_of c.in_ok-leading.leading.sheet in
    let begins = sym c.begins_moments.ensures ∙ c.if-begins_moments.false in
    other_answers text_left (by_moments o ls) (by_snapshots o ls) (begins_moments (others o ls))
    (begins-lacking o.first_lines ls (lines_after (take o.first_lines ls)) ∙ (rw (leading.rest, cut.first) at begins))
    c.check_history.result
    (then_answered (whole o ls) (history o ls) (checked o ls) text_left fit
    (part_alone (part o ls) (BadFit (length (fit_lines o ls) + 1)) fit (others o ls) (rw cut.first at leading.sheet)
    (rw (leading.rest, cut.first) at c.in_ok-end_first.ensures ls o.first_lines cut.lacks)) c.check_history.result
    (rw (cut.rest, c.line_count.ensures.count) at c.check_history.ensures))
