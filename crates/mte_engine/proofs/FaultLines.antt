-- An input that is refused for its table or for its profile has its first fault in the line of the refusal.
use Rattle.std.proofs.Common.{◌≡◌, ℕ, suc, ◌+◌, ◌-◌, ◌<◌, ◌≤◌, List, [], ◌∷◌, ◌++◌, take, drop, codes, All, length, Some}
use Rattle.std.proofs.{Common.{MatchResult, Result, Ok, Err, refl, sym, ap, ◌∙◌, append_assoc, arith}, lemmas.Fmt.{decimal_digit}}
use Rattle.std.proofs.lemmas.{List.{drop-take, length-drop, take-take}, List.Elements.{All-take, All-drop, All-head, All-tail}}
use Rattle.std.{proofs.lemmas.Option.{same_Some}, specs.Fmt.{decimal}}
use Rattle.line_text.proofs.LawLemmas.{line_in_front_is_read, lines_are_lines, written_lines_are_read}
use Rattle.line_text.specs.{FirstFault.{IsFirstFault}, Lines.{lines, text_of, IsLine}, LineSteps.{read_lines}}
use Rattle.class_table.proofs.LawLemmas.{class_line_is_full, first_fault_is_refused as table_fault_is_refused, missing_line_is_first_fault}
use Rattle.class_table.proofs.LawLemmas.{no_classes_are_legal, read_line_is_spelled, table_line_is_read}
use Rattle.class_table.specs.{ClassLine.{BeginsWithTable, class_line, table_of_line}, FaultText.{shown_table_error}}
use Rattle.class_table.specs.declared.fault.{TableError.{TableError}, TableError.TheVariants.{BadLine}}
use Rattle.profile_count.proofs.LawLemmas.{first_fault_is_refused as profile_fault_is_refused, lines_before_it_spell, profile_is_spelled}
use Rattle.profile_count.{proofs.LawLemmas.{refused_line_is_there, spelled_profile_is_read}, specs.Counts.{nothing_counted}}
use Rattle.profile_count.specs.{FaultText.{shown_profile_fault}, declared.fault.ProfileFault.{ProfileFault}}
use Rattle.profile_count.specs.ProfileText.{IsRefusedAt, SpellsProfile, profile_of, profile_of_lines}
use Rattle.potential_check.proofs.LawLemmas.{leading_lines-cut, leading_lines-lines, leading_lines-settled, read_is_spelled}
use Rattle.potential_check.specs.Leading.{leading_lines, lines_after}
use Rattle.potential_check.specs.SheetText.{SpellsSheet, sheet_of_lines}
use Rattle.heap_theory.specs.declared.config.Config.{Config}
use Rattle.trace_reader.specs.{FaultText.{shown_trace_fault}}
use Rattle.tuner_theory.specs.{Profiles.{Profile as Counted}, Sheets.{Sheet}}
use Rattle.mte_engine.specs.{Check.{leading_sheet}, FaultText.{in_line, shown_input_fault}, Outcome.{Answer}}
use Rattle.mte_engine.specs.FaultLines.{IsAtFirstFault, SpellsLeadingAnd, SpellsSheetAndProfile, SpellsTableAnd, line_of_fault}
use Rattle.mte_engine.specs.{Parts.{class_part, profile_part}, Replay.{replay_answer}}
use Rattle.mte_engine.specs.declared.{fault.InputFault.{InputFault}}
use Rattle.tool_call.specs.declared.options.Options.{Options}
use Rattle.mte_engine.specs.declared.fault.InputFault.TheVariants.{TooLong, Table, BadSheet, BadFit, Profile, History, Timeline, Trace}
use Rattle.history_count.specs.{FaultText.{shown_history_fault}, Timelines.FaultText.{shown_timeline_fault}}

-- ---- how a fault is shown

pub shown_with_line : (fault : InputFault) (n : ℕ) → line_of_fault fault ≡ Some n
    → (name : List ℕ) × (shown_input_fault fault ≡ in_line name n)
shown_with_line TooLong n e = absurd cc
shown_with_line (Table fault) n e =
    let one : codes " line 1" ≡ codes " line " ++ decimal 1 = rw (decimal_digit 1 (omega arith)) refl in
    let name = shown_table_error fault in
    let first = ap (λ (end : List ℕ). name ++ end) one ∙ sym (append_assoc name (codes " line ") (decimal 1)) in
    (name, first ∙ ap (in_line name) (same_Some 1 n e))
shown_with_line (BadSheet line) n e = (codes "48 BadSheet", ap (in_line (codes "48 BadSheet")) (same_Some line n e))
shown_with_line (BadFit line) n e = (codes "36 BadFit", ap (in_line (codes "36 BadFit")) (same_Some line n e))
shown_with_line (Profile line fault) n e = (shown_profile_fault fault, ap (in_line (shown_profile_fault fault)) (same_Some line n e))
shown_with_line (History line fault) n e = (shown_history_fault fault, ap (in_line (shown_history_fault fault)) (same_Some line n e))
shown_with_line (Timeline line fault) n e = (shown_timeline_fault fault, ap (in_line (shown_timeline_fault fault)) (same_Some line n e))
shown_with_line (Trace line fault) n e = (shown_trace_fault fault, ap (in_line (shown_trace_fault fault)) (same_Some line n e))

-- ---- lines

-- the table of a text is refused at line 1
pub table_refused : (text line : List ℕ) (ls : List (List ℕ)) (fault : TableError) → lines text ≡ line ∷ ls
    → table_of_line line ≡ Err fault → IsFirstFault BeginsWithTable text 1
table_refused text line ls fault parts read = (table_fault_is_refused text line (ap (take 1) parts)).0 (rw read refl)

-- ---- a part alone, or after a table

-- A part of an input: what its lines are read as, with the number of the first faulty line and its fault, and what is reported of that.
pub record IsPart {A F : Type 0} (Spells : List ℕ → A → Type 0) (read : List (List ℕ) → Result A (ℕ × F))
    (part : ℕ → Result A (ℕ × F) → Result A InputFault) : Type 0 where
  pub spelled : (text : List ℕ) (x : A) → read (lines text) ≡ Ok x → Spells text x
  pub is_read : (text : List ℕ) (x : A) → Spells text x → read (lines text) ≡ Ok x
  pub first : (text : List ℕ) (n : ℕ) (fault : F) → read (lines text) ≡ Err (n, fault) → IsFirstFault Spells text n
  pub example : List ℕ
  pub value : A
  pub is_example : Spells example value
  pub whole : (n : ℕ) (x : A) → part n (Ok x) ≡ Ok x
  pub refused : (n : ℕ) (f : ℕ × F) (fault : InputFault) → part n (Err f) ≡ Err fault → line_of_fault fault ≡ Some (n + f.0)

ok_or_err : {A E : Type 0} (x : A) (e : E) → (let r : Result A E = Ok x in r) ≡ Err e → ⊥
ok_or_err x e is = cc

module _ {A F : Type 0} (Spells : List ℕ → A → Type 0) (read : List (List ℕ) → Result A (ℕ × F))
    (part : ℕ → Result A (ℕ × F) → Result A InputFault) (is_part : IsPart Spells read part) where
  -- what a text spells is spelled by its lines, each with its newline
  pub whole_lines : (text : List ℕ) (x : A) → Spells text x → Spells (text_of (lines text)) x
  whole_lines text x spells = grind (arith, written_lines_are_read, lines_are_lines)

  -- the whole text
  pub alone_at_first : (text : List ℕ) (fault : InputFault) → part 0 (read (lines text)) ≡ Err fault → IsAtFirstFault Spells text fault
  alone_at_first text fault e = go (read (lines text)) refl e
    where
      go : (result : Result A (ℕ × F)) → read (lines text) ≡ result → part 0 result ≡ Err fault → IsAtFirstFault Spells text fault
      go (Ok x) is e = absurd (ok_or_err x fault (sym (is_part.whole 0 x) ∙ e))
      go (Err f) is e =
          let number : 0 + f.0 ≡ f.0 = omega arith in
          (f.0, is_part.refused 0 f fault e ∙ ap (λ (n : ℕ). Some n) number, is_part.first text f.0 f.1 is)

  -- the line of a table in front of it
  in_front : (line table text : List ℕ) (x : A) → IsLine line → table_of_line line ≡ Ok table → Spells text x
      → SpellsTableAnd Spells (line ++ 10 ∷ text) (table, x)
  in_front line table text x is_line read spells =
      let parts : lines (line ++ 10 ∷ text) ≡ line ∷ lines text = line_in_front_is_read line text is_line in
      let spelled = read_line_is_spelled line table read in
      grind (arith, whole_lines)

  -- an input with a fault in its table has its first fault there
  first_line : (text : List ℕ) → IsFirstFault BeginsWithTable text 1 → IsFirstFault (SpellsTableAnd Spells) text 1
  first_line text first = record {
    some = first.some;
    within = first.within;
    before = (
      class_line [] ++ 10 ∷ is_part.example,
      ([], is_part.value),
      in_front (class_line []) [] is_part.example is_part.value (class_line_is_full [] no_classes_are_legal).0
          (table_line_is_read [] no_classes_are_legal) is_part.is_example,
      refl,
    );
    none = λ other parts spells alike. first.none other parts.0 spells.table alike;
  }

  -- the first fault of the lines after a table is that of the input, one line later
  later_line : (text line table : List ℕ) (ls : List (List ℕ)) (m : ℕ) → lines text ≡ line ∷ ls
      → table_of_line line ≡ Ok table → IsFirstFault Spells (text_of ls) m → IsFirstFault (SpellsTableAnd Spells) text (suc m)
  later_line text line table ls m parts is_table first =
      let all : All IsLine (line ∷ ls) = rw parts at (lines_are_lines text) in
      let same : lines (text_of ls) ≡ ls = written_lines_are_read ls (All-tail IsLine line ls all) in
      let other = first.before.0 in
      let is_line = All-head IsLine line ls all in
      let before : suc m - 1 ≡ suc (m - 1) = omega (arith, first.some) in
      let alike : take (m - 1) (lines other) ≡ take (m - 1) ls = rw same at first.before.3 in
      record {
        some = omega arith;
        within = omega (arith, first.within, ap length same, ap length parts);
        before = (
          line ++ 10 ∷ other,
          (table, first.before.1),
          in_front line table other first.before.1 is_line is_table first.before.2,
          rw (before, parts, line_in_front_is_read line other is_line) (ap (λ (front : List (List ℕ)). line ∷ front) alike),
        );
        none = λ next spelled spells alike_next.
            let rest = drop 1 (lines next) in
            let rest_lines = written_lines_are_read rest (All-drop IsLine 1 (lines next) (lines_are_lines next)) in
            grind arith;
      }

  -- the part after a table
  -- the lines of an input are refused by the fault of its class line, or of the part after it
  abbrev refused_by : InputFault → List (List ℕ) → Type 0
  refused_by fault ls =
      MatchResult (class_part (take 1 ls)) (λ table. part 1 (read (drop 1 ls)) ≡ Err fault)
      (λ refused. ◌≡◌ {A = Result Answer InputFault} (Err fault) (Err refused))

  pub after_table_at_first : (text : List ℕ) (fault : InputFault) → refused_by fault (lines text)
      → IsAtFirstFault (SpellsTableAnd Spells) text fault
  after_table_at_first text fault e = go (lines text) refl e
    where
      after : (line table : List ℕ) (ls : List (List ℕ)) (result : Result A (ℕ × F)) → lines text ≡ line ∷ ls
          → table_of_line line ≡ Ok table → read ls ≡ result → part 1 result ≡ Err fault → IsAtFirstFault (SpellsTableAnd Spells) text fault
      after line table ls (Ok x) parts is_table is e = absurd (ok_or_err x fault (sym (is_part.whole 1 x) ∙ e))
      after line table ls (Err f) parts is_table is e =
          let number : 1 + f.0 ≡ suc f.0 = omega arith in
          let all : All IsLine (line ∷ ls) = rw parts at (lines_are_lines text) in
          let same : lines (text_of ls) ≡ ls = written_lines_are_read ls (All-tail IsLine line ls all) in (
            suc f.0,
            is_part.refused 1 f fault e ∙ ap (λ (n : ℕ). Some n) number,
            later_line text line table ls f.0 parts is_table (is_part.first (text_of ls) f.0 f.1 (ap read same ∙ is)),
          )

      with_line : (line : List ℕ) (ls : List (List ℕ)) (result : Result (List ℕ) TableError) → lines text ≡ line ∷ ls
          → table_of_line line ≡ result → refused_by fault (line ∷ ls) → IsAtFirstFault (SpellsTableAnd Spells) text fault
      with_line line ls (Ok table) parts is e = grind (arith, after)
      with_line line ls (Err refused) parts is e = grind (arith, first_line, table_refused)

      go : (ls : List (List ℕ)) → lines text ≡ ls → refused_by fault ls → IsAtFirstFault (SpellsTableAnd Spells) text fault
      go [] parts e =
          let is_fault : fault ≡ Table BadLine = cc in
          (1, rw is_fault refl, first_line text (missing_line_is_first_fault text parts))
      go (line ∷ ls) parts e = with_line line ls (table_of_line line) parts refl e

-- ---- a profile

nothing_spelled : SpellsProfile [] nothing_counted
unfolding lines read_lines
nothing_spelled = profile_is_spelled [] nothing_counted refl

pub profile_is_part : IsPart SpellsProfile profile_of_lines profile_part
profile_is_part = record {
  spelled = profile_is_spelled;
  is_read = spelled_profile_is_read;
  first = λ text n fault refused. (profile_fault_is_refused text n).0 (fault, refused);
  example = [];
  value = nothing_counted;
  is_example = nothing_spelled;
  whole = λ n x. refl;
  refused = λ n f fault e. let is : fault ≡ Profile (n + f.0) f.1 = cc in rw is refl;
}

-- ---- a part in front of another part

-- what is alike after lines that are alike
after_alike : {A : Type 0} (n m : ℕ) (xs ys : List A) → take (n + m) xs ≡ take (n + m) ys → take m (drop n xs) ≡ take m (drop n ys)
after_alike n m xs ys e = sym (drop-take n m xs) ∙ ap (drop n) e ∙ drop-take n m ys

-- No text with the same leading lines and the lines after them up to their first fault spells both parts.
pub none_later : {A B : Type 0} (First : List ℕ → A → Type 0) (Rest : List ℕ → B → Type 0) (text next : List ℕ) (m : ℕ) (parts : A × B)
    → IsFirstFault Rest (text_of (lines_after (lines text))) m → leading_lines (lines next) ≡ leading_lines (lines text)
    → SpellsLeadingAnd First Rest next parts
    → take (length (leading_lines (lines text)) + m) (lines next) ≡ take (length (leading_lines (lines text)) + m) (lines text) → ⊥
unfolding lines_after
none_later First Rest text next m parts first settled spells alike =
    let ls = lines text in
    let others = lines next in
    let k = length (leading_lines ls) in
    let rest_lines = written_lines_are_read (drop k ls) (All-drop IsLine k ls (lines_are_lines text)) in
    let after = drop k others in
    let after_lines : lines (text_of after) ≡ after =
    written_lines_are_read after (All-drop IsLine k others (lines_are_lines next)) in
    grind (arith, after_alike)

-- The first fault of the lines after the leading lines is that of the input, so many lines later: where that line is there, and those before
-- it spell the other part.
pub after_leading : {A B : Type 0} (First : List ℕ → A → Type 0) (Rest : List ℕ → B → Type 0) (text : List ℕ) (x : A) (y : B) (m : ℕ)
    → First (text_of (leading_lines (lines text))) x → m ≤ length (lines_after (lines text))
    → Rest (text_of (take (m - 1) (lines_after (lines text)))) y → IsFirstFault Rest (text_of (lines_after (lines text))) m
    → IsFirstFault (SpellsLeadingAnd First Rest) text (length (leading_lines (lines text)) + m)
unfolding lines_after
after_leading First Rest text x y m is_first there is_rest first =
    let ls = lines text in
    let front = leading_lines ls in
    let k = length front in
    let rest = drop k ls in
    let all = lines_are_lines text in
    let within : k + m ≤ length ls = omega (arith, there, length-drop k ls, first.some) in
    let number : k + m - 1 ≡ k + (m - 1) = omega (arith, first.some) in
    let kept = take (k + (m - 1)) ls in
    let other = text_of kept in
    let kept_lines : lines other ≡ kept = written_lines_are_read kept (All-take IsLine (k + (m - 1)) ls all) in
    let same_front : leading_lines kept ≡ front =
    leading_lines-cut (k + (m - 1)) ls (omega arith) in
    let same_rest : drop k kept ≡ take (m - 1) rest = drop-take k (m - 1) ls in
    record {
      some = omega (arith, first.some);
      within = omega (arith, within);
      before = (
        other,
        (x, y),
        record { first = rw (kept_lines, same_front) is_first; rest = rw (kept_lines, same_front, same_rest) is_rest },
        rw (number, kept_lines) (take-take (k + (m - 1)) (k + (m - 1)) ls (omega arith)),
      );
      none = λ next spelled spells alike.
          let more : k < k + m = omega (arith, first.some) in
          let settled = leading_lines-settled (k + m) ls (lines next) more within (sym alike) in
          none_later First Rest text next m spelled first settled spells alike;
    }

-- the first fault of the lines after a sheet
after_sheet : (text : List ℕ) (sheet : Sheet) (m : ℕ) → sheet_of_lines (leading_lines (lines text)) ≡ Ok sheet
    → IsRefusedAt m (text_of (lines_after (lines text)))
    → IsFirstFault SpellsSheetAndProfile text (length (leading_lines (lines text)) + m)
unfolding lines_after
after_sheet text sheet m read refused =
    let ls = lines text in
    let front = leading_lines ls in
    let rest = drop (length front) ls in
    let all = lines_are_lines text in
    let rest_lines : lines (text_of rest) ≡ rest = written_lines_are_read rest (All-drop IsLine (length front) ls all) in
    let front_lines : lines (text_of front) ≡ front = written_lines_are_read front (leading_lines-lines ls all) in
    let first = (profile_fault_is_refused (text_of rest) m).0 refused in
    let there : m ≤ length rest = rw rest_lines at (refused_line_is_there (text_of rest) m refused) in
    let before = lines_before_it_spell (text_of rest) m refused in
    let is_sheet : SpellsSheet (text_of front) sheet = read_is_spelled _ (text_of front) sheet (ap sheet_of_lines front_lines ∙ read) in
    let is_profile : SpellsProfile (text_of (take (m - 1) rest)) before.0 = rw rest_lines at before.1 in
    after_leading SpellsSheet SpellsProfile text sheet before.0 m is_sheet there is_profile first

pub check_profile_at_first : (options : Options) (text : List ℕ) (n : ℕ) (fault : ProfileFault)
    → leading_sheet (lines text) ≡ Err (Profile n fault) → IsFirstFault SpellsSheetAndProfile text n
unfolding lines_after
check_profile_at_first options text n fault e = go (sheet_of_lines (leading_lines (lines text))) refl
  where
    with_sheet : (sheet : Sheet) (read : Result Counted (ℕ × ProfileFault)) → sheet_of_lines (leading_lines (lines text)) ≡ Ok sheet
        → profile_of_lines (lines_after (lines text)) ≡ read → IsFirstFault SpellsSheetAndProfile text n
    with_sheet sheet (Ok profile) is_sheet is_profile = let none = rw (is_sheet, is_profile) at e in absurd cc
    with_sheet sheet (Err refused) is_sheet is_profile =
        let ls = lines text in
        let rest = lines_after ls in
        let is_n : length (leading_lines ls) + refused.0 ≡ n = (let same = rw (is_sheet, is_profile) at e in cc) in
        let rest_lines : lines (text_of rest) ≡ rest =
        written_lines_are_read rest (All-drop IsLine (length (leading_lines ls)) ls (lines_are_lines text)) in
        let refused_text : profile_of (text_of rest) ≡ Err (refused.0, refused.1) = ap profile_of_lines rest_lines ∙ is_profile in
        rw (← is_n) (after_sheet text sheet refused.0 is_sheet (refused.1, refused_text))

    go : (read : Result Sheet ℕ) → sheet_of_lines (leading_lines (lines text)) ≡ read → IsFirstFault SpellsSheetAndProfile text n
    go (Ok sheet) is = with_sheet sheet (profile_of_lines (lines_after (lines text))) is refl
    go (Err number) is = let none = rw is at e in absurd cc

pub replay_at_first : (config : Config) (text : List ℕ) (fault : TableError) → replay_answer config text ≡ Err (Table fault)
    → IsAtFirstFault BeginsWithTable text (Table fault)
unfolding replay_answer
replay_at_first config text fault e = grind (arith, table_refused, missing_line_is_first_fault)
