-- The number of a fault, of a sheet or a fit, is that of its first fault.
use Rattle.std.proofs.Common.{◌≡◌, ℕ, ◌^◌, ◌<◌, List, [], ◌∷◌, Some, Result, Ok, Err, refl, arith, codes}
use Rattle.std.specs.Result.{result_map_both}
use Rattle.class_table.proofs.LawLemmas.{IsName, class_line_is_full, named_line_is_line, no_classes_are_legal}
use Rattle.class_table.specs.{ClassLine.{class_line}, NamedLines.{named_line}}
use Rattle.line_text.proofs.LawLemmas.{GoesOn, IsFormat, ended_goes_on, goes_on_by, refused_at_first_fault}
use Rattle.line_text.specs.{FirstFault.{IsFirstFault}, Lines.{IsLine, lines}}
use Rattle.potential_check.{proofs.ReadIsSpelled.{read_is_spelled}, proofs.SpelledIsRead.{spelled_is_read}}
use Rattle.potential_check.proofs.SheetLines.{cost-not_forced, cost-not_step, cost_in-line, limit_in-line, names, one_small, table_in-line}
use Rattle.potential_check.specs.SheetText.{SpellsBy, nothing_read, part_after, part_of, read_by, sheet_steps, with_part, word_of}
use Rattle.potential_check.specs.declared.{cost.Cost.{Cost}, part.Part.{Part}}
use Rattle.potential_check.specs.declared.part.Part.TheVariants.{Table, Limit, Step, Forced, Stated, Row}
use Rattle.tuner_theory.specs.Sheets.{Sheet}

line_of_one : (name : List ℕ) (n : ℕ) → IsName name → n < 2 ^ 64 → IsLine (named_line name (n ∷ []))
line_of_one name n is_name small = named_line_is_line name (n ∷ []) is_name (one_small n small)

-- ---- some lines lead from each reading to a sheet

module _ (cost : Cost) where
  abbrev Goes : Part → Sheet → Type 0
  Goes next s = GoesOn sheet_steps (record { cost = cost; next = next; sheet = s })

  by_line : (next part : Part) (s t : Sheet) (line : List ℕ) → IsLine line → part_of next line ≡ part → with_part cost part s line ≡ Some t
      → Goes (part_after part) t → Goes next s
  by_line next part s t line is_line is read on = goes_on_by sheet_steps _ _ line is_line (rw (is, read) refl) on

  at_rows : (s : Sheet) → Goes Row s
  at_rows s = ended_goes_on sheet_steps _ (s, refl)

  cost_line : List ℕ
  cost_line = named_line (word_of cost) (0 ∷ [])

  by_cost : (next : Part) (s : Sheet) → part_of next cost_line ≡ Stated → Goes next s
  unfolding cost_line
  by_cost next s is =
      by_line next Stated s (record { table = s.table; limit = s.limit; step = s.step; forced = s.forced; cost = 0; rows = s.rows })
      cost_line (line_of_one (word_of cost) 0 (names.cost cost) (omega arith)) is
      (rw (cost_in-line cost 0 (omega arith)) refl) (at_rows _)

  at_step : (s : Sheet) → Goes Step s
  unfolding cost_line
  at_step s = by_cost Step s (rw (cost-not_step cost 0 (omega arith), cost-not_forced cost 0 (omega arith)) refl)

  at_limit : (s : Sheet) → Goes Limit s
  at_limit s =
      by_line Limit Limit s (record { table = s.table; limit = 1; step = s.step; forced = s.forced; cost = s.cost; rows = s.rows })
      (named_line (codes "limit") (1 ∷ [])) (line_of_one (codes "limit") 1 names.limit (omega arith)) refl
      (rw (limit_in-line 1 (omega arith, omega arith)) refl) (at_step _)

  goes_on : (next : Part) (s : Sheet) → Goes next s
  unfolding cost_line
  goes_on Table s =
      by_line Table Table s (record { table = []; limit = s.limit; step = s.step; forced = s.forced; cost = s.cost; rows = s.rows })
      (class_line []) (class_line_is_full [] no_classes_are_legal).0 refl
      (rw (table_in-line [] no_classes_are_legal) refl) (at_limit _)
  goes_on Limit s = at_limit s
  goes_on Step s = at_step s
  goes_on Forced s = by_cost Forced s (rw (cost-not_forced cost 0 (omega arith)) refl)
  goes_on Stated s = by_cost Stated s refl
  goes_on Row s = at_rows s

-- ---- the first fault

module _ (cost : Cost) where
  numbers : (read : Result Sheet (ℕ × Unit {0})) (number : ℕ) → result_map_both (λ s. s) (λ fault. fault.0) read ≡ Err number
      → read ≡ Err (number, tt)
  numbers read number e = grind arith

  values : (read : Result Sheet (ℕ × Unit {0})) (s : Sheet) → result_map_both (λ s. s) (λ (fault : ℕ × Unit {0}). fault.0) read ≡ Ok s → read ≡ Ok s
  values read s e = grind arith

  format : IsFormat sheet_steps (nothing_read cost) (SpellsBy cost)
  unfolding read_by
  format = record {
    spelled = λ text s e. read_is_spelled cost text s (rw e refl);
    read = λ text s spells. values _ s (spelled_is_read cost text s spells);
    goes_on = λ r. goes_on r.cost r.next r.sheet;
  }

  pub fault_is_first : (text : List ℕ) (number : ℕ) → read_by cost (lines text) ≡ Err number → IsFirstFault (SpellsBy cost) text number
  unfolding read_by
  fault_is_first text number e =
      (refused_at_first_fault sheet_steps (nothing_read cost) (SpellsBy cost) format text number).0 (tt, numbers _ number e)

  pub first_fault_is_reported : (text : List ℕ) (number : ℕ) → IsFirstFault (SpellsBy cost) text number → read_by cost (lines text) ≡ Err number
  unfolding read_by
  first_fault_is_reported text number first =
      rw ((refused_at_first_fault sheet_steps (nothing_read cost) (SpellsBy cost) format text number).1 first).1 refl
