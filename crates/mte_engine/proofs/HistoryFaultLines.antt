-- An input that is refused for its history, or for the table before it, has its first fault in the line of the refusal.
use Rattle.std.proofs.Common.{◌≡◌, ℕ, ◌+◌, ◌-◌, ◌≤◌, false, List, [], ◌∷◌, ◌++◌, take, drop, length, codes, All, Result, Ok, Err}
use Rattle.std.proofs.{Common.{inl, inr, refl, sym, ap, ◌∙◌, arith}, lemmas.Bool.{cases_lt}, lemmas.List.Elements.{All-append, All-drop, All-take}}
use Rattle.std.proofs.lemmas.List.{drop-append-le, drop_all, length-take, take-append-le, take-take, take_all}
use Rattle.line_text.{proofs.LawLemmas.{lines_are_lines, written_lines_are_read}, specs.FirstFault.{IsFirstFault}}
use Rattle.line_text.specs.{Lines.{lines, text_of, words, IsLine}, LineSteps.{read_lines}, Numbers.{number_of}}
use Rattle.history_count.proofs.LawLemmas.{first_fault_is_refused, history_is_spelled, lines_before_it_spell, refused_line_is_there}
use Rattle.history_count.{proofs.LawLemmas.{spelled_history_is_read}, specs.Histories.{History as CountedHistory, nothing_counted}}
use Rattle.history_count.specs.HistoryText.{IsRefusedAt, SpellsHistory, history_of, history_of_lines}
use Rattle.history_count.specs.declared.fault.HistoryFault.{HistoryFault}
use Rattle.potential_check.proofs.LawLemmas.{leading_lines-lines, leading_lines-one_more, leading_lines-settled, read_is_spelled}
use Rattle.potential_check.specs.Leading.{leading_lines, lines_after}
use Rattle.potential_check.specs.SheetText.{SpellsFit, fit_of_lines, is_named}
use Rattle.potential_check.specs.declared.cost.Cost.TheVariants.{Footprint}
use Rattle.tuner_theory.specs.Sheets.{Sheet}
use Rattle.mte_engine.{proofs.FaultLines.{IsPart, after_leading, none_later, whole_lines}, specs.CheckFit.{CheckFitAnswers}}
use Rattle.mte_engine.specs.{FaultLines.{SpellsFitAndHistory}, Parts.{history_part}, declared.fault.InputFault.TheVariants.{History}}
use Rattle.tool_call.specs.declared.options.Options.{Options}

-- the history of one snapshot that counts nothing
shortest : List ℕ
shortest = codes "snapshots 1"

shortest_is_line : lines shortest ≡ shortest ∷ []
unfolding shortest lines
shortest_is_line = refl

shortest_spelled : SpellsHistory shortest (nothing_counted 1)
unfolding shortest lines words number_of read_lines
shortest_spelled = history_is_spelled shortest (nothing_counted 1) refl

shortest_is_no_row : is_named (codes "row") shortest ≡ false
unfolding shortest words
shortest_is_no_row = refl

pub history_is_part : IsPart SpellsHistory history_of_lines history_part
history_is_part = record {
  spelled = history_is_spelled;
  is_read = spelled_history_is_read;
  first = λ text n fault refused. (first_fault_is_refused text n).0 (fault, refused);
  example = shortest;
  value = nothing_counted 1;
  is_example = shortest_spelled;
  whole = λ n x. refl;
  refused = λ n f fault e. let is : fault ≡ History (n + f.0) f.1 = cc in rw is refl;
}

-- ---- a history after a fit

-- The first line of a history, after a fit, is missing or faulty.
first_after_fit : (text : List ℕ) (fit : Sheet) → fit_of_lines (leading_lines (lines text)) ≡ Ok fit
    → SpellsFit (text_of (leading_lines (lines text))) fit → IsFirstFault SpellsHistory (text_of (lines_after (lines text))) 1
    → IsFirstFault SpellsFitAndHistory text (length (leading_lines (lines text)) + 1)
unfolding lines_after
first_after_fit text fit read is_fit first =
    let ls = lines text in
    let k = length (leading_lines ls) in
    let all = lines_are_lines text in
    let one_more = leading_lines-one_more Footprint ls fit shortest shortest_is_no_row read in
    let within : k ≤ length ls = one_more.0 in
    let number : k + 1 - 1 ≡ k = omega arith in
    let base = take k ls ++ shortest ∷ [] in
    let is_line : All IsLine (shortest ∷ []) = rw shortest_is_line at (lines_are_lines shortest) in
    let base_lines : lines (text_of base) ≡ base =
    written_lines_are_read base (All-append IsLine (take k ls) (shortest ∷ []) (All-take IsLine k ls all) is_line) in
    let long : k ≤ length (take k ls) = omega (arith, length-take k ls, within) in
    let after : drop k base ≡ shortest ∷ [] =
    grind (arith, drop-append-le, drop_all, length-take) in
    let front : take k base ≡ take k ls = take-append-le k (take k ls) (shortest ∷ []) long ∙ take-take k k ls (omega arith) in
    let is_history : SpellsHistory (text_of (shortest ∷ [])) (nothing_counted 1) =
    rw shortest_is_line at (whole_lines SpellsHistory history_of_lines history_part history_is_part shortest (nothing_counted 1) shortest_spelled) in
    record {
      some = omega arith;
      within = omega (arith, within);
      before = (
        text_of base,
        (fit, nothing_counted 1),
        record { first = rw (base_lines, one_more.1) is_fit; rest = rw (base_lines, one_more.1, after) is_history },
        rw (number, base_lines) front,
      );
      none = λ next spelled spells alike.
          let settled : leading_lines (lines next) ≡ leading_lines ls = elim (cases_lt k (length ls)) [
            | inl more ↦ leading_lines-settled (k + 1) ls (lines next) (omega arith) (omega (arith, more)) (sym alike)
            | inr none ↦
                grind (arith, length-take, take_all)
          ] in
          none_later SpellsFit SpellsHistory text next 1 spelled first settled spells alike;
    }

-- the first fault of the lines after a fit is that of the input, so many lines later
after_fit : (text : List ℕ) (fit : Sheet) (m : ℕ) → fit_of_lines (leading_lines (lines text)) ≡ Ok fit
    → IsRefusedAt m (text_of (lines_after (lines text)))
    → IsFirstFault SpellsFitAndHistory text (length (leading_lines (lines text)) + m)
unfolding lines_after
after_fit text fit m read refused =
    let ls = lines text in
    let front = leading_lines ls in
    let rest = drop (length front) ls in
    let all = lines_are_lines text in
    let rest_lines : lines (text_of rest) ≡ rest = written_lines_are_read rest (All-drop IsLine (length front) ls all) in
    let front_lines : lines (text_of front) ≡ front = written_lines_are_read front (leading_lines-lines ls all) in
    let first = (first_fault_is_refused (text_of rest) m).0 refused in
    let is_fit : SpellsFit (text_of front) fit = read_is_spelled Footprint (text_of front) fit (ap fit_of_lines front_lines ∙ read) in
    elim (cases_lt 1 m) [
      | inl later ↦
          let there : m ≤ length rest =
          (let known = rw rest_lines at (refused_line_is_there (text_of rest) m refused) in omega (arith, known, later)) in
          let before = lines_before_it_spell (text_of rest) m later refused in
          let is_history : SpellsHistory (text_of (take (m - 1) rest)) before.0 = rw rest_lines at before.1 in
          after_leading SpellsFit SpellsHistory text fit before.0 m is_fit there is_history first
      | inr none ↦
          let one : m ≡ 1 = omega (arith, none, first.some) in
          grind (arith, first_after_fit)
    ]

pub check_fit_history_at_first : (options : Options) (text : List ℕ) (n : ℕ) (fault : HistoryFault)
    → CheckFitAnswers options text (Err (History n fault)) → IsFirstFault SpellsFitAndHistory text n
unfolding lines_after
check_fit_history_at_first options text n fault e = go (fit_of_lines (leading_lines (lines text))) refl
  where
    with_fit : (fit : Sheet) (read : Result CountedHistory (ℕ × HistoryFault)) → fit_of_lines (leading_lines (lines text)) ≡ Ok fit
        → history_of_lines (lines_after (lines text)) ≡ read → IsFirstFault SpellsFitAndHistory text n
    with_fit fit (Ok history) is_fit is_history = let none = rw (is_fit, is_history) at e in absurd cc
    with_fit fit (Err refused) is_fit is_history =
        let ls = lines text in
        let rest = lines_after ls in
        let is_n : length (leading_lines ls) + refused.0 ≡ n = (let same = rw (is_fit, is_history) at e in cc) in
        let rest_lines : lines (text_of rest) ≡ rest =
        written_lines_are_read rest (All-drop IsLine (length (leading_lines ls)) ls (lines_are_lines text)) in
        let refused_text : history_of (text_of rest) ≡ Err (refused.0, refused.1) = ap history_of_lines rest_lines ∙ is_history in
        rw (← is_n) (after_fit text fit refused.0 is_fit (refused.1, refused_text))

    go : (read : Result Sheet ℕ) → fit_of_lines (leading_lines (lines text)) ≡ read → IsFirstFault SpellsFitAndHistory text n
    go (Ok fit) is = with_fit fit (history_of_lines (lines_after (lines text))) is refl
    go (Err number) is = let none = rw is at e in absurd cc
