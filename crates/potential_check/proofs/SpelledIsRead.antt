-- The text of a sheet or a fit is read as that, line by line.
use Rattle.std.proofs.Common.{◌≡◌, ℕ, ◌+◌, ◌≤◌, Bool, true, false, List, [], ◌∷◌, ◌++◌, length, map, Some, Result, Ok, refl, ◌∙◌}
use Rattle.std.proofs.{Common.{ap, append-nil, length-append, append_assoc, arith, codes, ne_eqb, inl, inr, All}, lemmas.Bool.{cases_eq, lt-ltb}}
use Rattle.std.proofs.lemmas.List.Elements.{All-nil, All-cons, All-head, All-tail, All-append}
use Rattle.std.specs.Result.{result_map_both}
use Rattle.class_table.{proofs.LawLemmas.{class_line_is_full, named_line_is_full, words_of_named_line}, specs.ClassLine.{class_line}}
use Rattle.class_table.specs.{NamedLines.{named_line}, Steps.{IsStep}, declared.sizes.TheConstants.{LARGEST_CLASS}}
use Rattle.class_table.specs.declared.table.TheConstants.{MOST_CLASSES}
use Rattle.line_text.{proofs.LawLemmas.{line_read, no_line, text_laws as laws}, specs.{Lines.{IsFullLine, lines}, LineSteps.{read_lines}}}
use Rattle.potential_check.proofs.SheetLines.{cost-not_forced, cost-not_step, cost_in-line, forced-named, forced_in-line, forced_line}
use Rattle.potential_check.proofs.SheetLines.{limit_in-line, names, one_small, row_in-line, step_in-line, step_small}
use Rattle.potential_check.{proofs.SheetLines.{table_in-line}, specs.declared.{cost.Cost.{Cost}, part.Part.{Part}}}
use Rattle.potential_check.specs.SheetText.{IsRow, IsWithinLimits, SheetReading, SpellsBy, forced_lines, lines_by, part_after, part_of}
use Rattle.potential_check.specs.SheetText.{nothing_stated, read_by, sheet_steps, step_lines, with_part, with_row, word_of}
use Rattle.potential_check.specs.declared.part.Part.TheVariants.{Table, Limit, Step, Forced, Stated, Row}
use Rattle.tuner_theory.specs.Sheets.{Sheet}

-- ---- the lines are lines, and not empty

rows-full : (rows : List (List ℕ)) → All IsRow rows → All IsFullLine (map (named_line (codes "row")) rows)
rows-full [] all = All-nil IsFullLine
rows-full (row ∷ rows) all =
    let is = All-head IsRow row rows all in
    let rest = rows-full rows (All-tail IsRow row rows all) in
    grind (arith, named_line_is_full, names)

step_lines-full : (step : ℕ) → IsStep step → All IsFullLine (step_lines step)
step_lines-full step is_step = elim (cases_eq step 1) [
  | inl one ↦ rw one (All-nil IsFullLine)
  | inr other ↦
      rw (ne_eqb step 1 other)
      (All-cons IsFullLine (named_line (codes "step") (step ∷ [])) []
      (named_line_is_full (codes "step") (step ∷ []) names.step (one_small step (step_small step is_step))) (All-nil IsFullLine))
]

forced_lines-full : (forced : Bool) → All IsFullLine (forced_lines forced)
forced_lines-full false = All-nil IsFullLine
forced_lines-full true =
    All-cons IsFullLine (named_line (codes "forced") (LARGEST_CLASS ∷ [])) []
    (named_line_is_full (codes "forced") (LARGEST_CLASS ∷ []) names.forced (one_small LARGEST_CLASS (omega arith))) (All-nil IsFullLine)

lines-full : (cost : Cost) (s : Sheet) → IsWithinLimits s → All IsFullLine (lines_by cost s)
lines-full cost s within =
    let table = class_line_is_full s.table within.table in
    let limit = named_line_is_full (codes "limit") (s.limit ∷ []) names.limit (one_small s.limit (omega (arith, within.limit.1))) in
    let stated = named_line_is_full (word_of cost) (s.cost ∷ []) (names.cost cost) (one_small s.cost within.cost) in
    let rows = map (named_line (codes "row")) s.rows in
    let after = named_line (word_of cost) (s.cost ∷ []) ∷ rows in
    let from_cost = All-cons IsFullLine (named_line (word_of cost) (s.cost ∷ [])) rows stated (rows-full s.rows within.rows) in
    let from_forced = All-append IsFullLine (forced_lines s.forced) after (forced_lines-full s.forced) from_cost in
    let forced = forced_lines s.forced ++ after in
    let from_step = All-append IsFullLine (step_lines s.step) forced (step_lines-full s.step within.step) from_forced in
    let from_limit = All-cons IsFullLine (named_line (codes "limit") (s.limit ∷ [])) (step_lines s.step ++ forced) limit from_step in
    All-cons IsFullLine (class_line s.table) (named_line (codes "limit") (s.limit ∷ []) ∷ step_lines s.step ++ forced) table from_limit

-- ---- they are read one after the other

abbrev at : Cost → Part → Sheet → SheetReading
at cost next s = record { cost = cost; next = next; sheet = s }

abbrev read_at : Cost → ℕ → Part → Sheet → List (List ℕ) → Result Sheet (ℕ × Unit {0})
read_at cost n next s ls = read_lines sheet_steps n (at cost next s) ls

-- the line of a part
pub part_line : (cost : Cost) (n : ℕ) (next part : Part) (s t : Sheet) (line : List ℕ) (ls : List (List ℕ)) → part_of next line ≡ part
    → with_part cost part s line ≡ Some t → read_at cost n next s (line ∷ ls) ≡ read_at cost (n + 1) (part_after part) t ls
part_line cost n next part s t line ls is read =
    line_read sheet_steps n (at cost next s) (at cost (part_after part) t) line ls (rw (is, read) refl)

abbrev with_rows : Sheet → List (List ℕ) → Sheet
with_rows s rows = record { table = s.table; limit = s.limit; step = s.step; forced = s.forced; cost = s.cost; rows = rows }

row_lines : (cost : Cost) (rows : List (List ℕ)) (n : ℕ) (s : Sheet) → length s.rows + length rows ≤ MOST_CLASSES → All IsRow rows
    → read_at cost n Row s (map (named_line (codes "row")) rows) ≡ Ok (with_rows s (s.rows ++ rows))
row_lines cost [] n s few all = no_line sheet_steps n (at cost Row s) _ (rw (append-nil s.rows) refl)
row_lines cost (row ∷ rows) n s few all =
    let room = lt-ltb (length s.rows) MOST_CLASSES (omega arith) in
    part_line cost n Row Row s (with_row s row) (named_line (codes "row") row) _ refl
    (rw (room, row_in-line row (All-head IsRow row rows all)) refl)
    ∙ row_lines cost rows (n + 1) (with_row s row) (omega (arith, length-append s.rows (row ∷ []))) (All-tail IsRow row rows all)
    ∙ rw (append_assoc s.rows (row ∷ []) rows) refl

module _ (cost : Cost) (s : Sheet) (within : IsWithinLimits s) where
  abbrev row_lines_of : List (List ℕ)
  row_lines_of = map (named_line (codes "row")) s.rows

  abbrev cost_line : List ℕ
  cost_line = named_line (word_of cost) (s.cost ∷ [])

  -- what was read before the cost, and the whole
  abbrev headed : List ℕ → ℕ → ℕ → Bool → Sheet
  headed table limit step forced = record { table = table; limit = limit; step = step; forced = forced; cost = 0; rows = [] }

  abbrev whole_with : List ℕ → ℕ → ℕ → Bool → Sheet
  whole_with table limit step forced =
      record { table = table; limit = limit; step = step; forced = forced; cost = s.cost; rows = s.rows }

  from_cost : (n : ℕ) (next : Part) (table : List ℕ) (limit step : ℕ) (forced : Bool) → part_of next cost_line ≡ Stated
      → read_at cost n next (headed table limit step forced) (cost_line ∷ row_lines_of) ≡ Ok (whole_with table limit step forced)
  from_cost n next table limit step forced is =
      part_line cost n next Stated _ (with_rows (whole_with table limit step forced) []) cost_line row_lines_of is
      (rw (cost_in-line cost s.cost within.cost) refl)
      ∙ row_lines cost s.rows (n + 1) (with_rows (whole_with table limit step forced) []) (omega (arith, within.few)) within.rows

  from_forced : (n : ℕ) (next : Part) (table : List ℕ) (limit step : ℕ) (forced : Bool) → part_of next cost_line ≡ Stated
      → part_of next forced_line ≡ Forced
      → read_at cost n next (headed table limit step false) (forced_lines forced ++ cost_line ∷ row_lines_of)
      ≡ Ok (whole_with table limit step forced)
  unfolding forced_line
  from_forced n next table limit step false is too = from_cost n next table limit step false is
  from_forced n next table limit step true is too =
      part_line cost n next Forced _ (headed table limit step true) forced_line _ too (rw forced_in-line refl)
      ∙ from_cost (n + 1) Stated table limit step true refl

  from_step : (n : ℕ) (table : List ℕ) (limit step : ℕ) (forced : Bool) → IsStep step
      → read_at cost n Step (headed table limit 1 false) (step_lines step ++ (forced_lines forced ++ cost_line ∷ row_lines_of))
      ≡ Ok (whole_with table limit step forced)
  from_step n table limit step forced is_step = elim (cases_eq step 1) [
    | inl one ↦
        rw one (from_forced n Step table limit 1 forced (rw (cost-not_step cost s.cost within.cost, cost-not_forced cost s.cost within.cost) refl)
        (rw (forced-named.0, forced-named.1) refl))
    | inr other ↦
        let line = named_line (codes "step") (step ∷ []) in
        rw (ne_eqb step 1 other)
        (part_line cost n Step Step _ (headed table limit step false) line _
        (rw (words_of_named_line (codes "step") (step ∷ []) names.step (one_small step (step_small step is_step))) refl)
        (rw (step_in-line step is_step other) refl)
        ∙ from_forced (n + 1) Forced table limit step forced (rw (cost-not_forced cost s.cost within.cost) refl) (rw forced-named.1 refl))
  ]

  lines_are_read : read_by cost (lines_by cost s) ≡ Ok s
  unfolding read_by
  lines_are_read =
      ap (result_map_both (λ s. s) (λ fault. fault.0))
      (part_line cost 1 Table Table nothing_stated (headed s.table 1 1 false) (class_line s.table) _ refl
      (rw (table_in-line s.table within.table) refl)
      ∙ part_line cost 2 Limit Limit _ (headed s.table s.limit 1 false) (named_line (codes "limit") (s.limit ∷ [])) _ refl
      (rw (limit_in-line s.limit within.limit) refl)
      ∙ from_step 3 s.table s.limit s.step s.forced within.step)

-- The text of what is within the limits is read as that.
pub spelled_is_read : (cost : Cost) (text : List ℕ) (s : Sheet) → SpellsBy cost text s → read_by cost (lines text) ≡ Ok s
spelled_is_read cost text s spells =
    rw (laws.full_lines (lines_by cost s) text (lines-full cost s spells.limits) spells.spelled) (lines_are_read cost s spells.limits)
