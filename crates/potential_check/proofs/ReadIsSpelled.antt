-- What is read as a sheet or a fit is its text, line by line.
use Rattle.std.proofs.Common.{◌≡◌, ◌≤◌, ℕ, Bool, true, false, List, [], ◌∷◌, ◌++◌, length, map, Option, Some, None, Ok, refl, sym, subst}
use Rattle.std.{proofs.Common.{◌∙◌, ap, append-nil, append_assoc, arith, codes, if◌then◌else◌, length-append, nat_lt, ne_eqb}, specs.Option.{option_map}}
use Rattle.std.proofs.lemmas.{Bool.{ltb-true}, List.{map-append}, List.Elements.{All-append, All-cons, All-nil}}
use Rattle.line_text.{proofs.LawLemmas.{read_has, text_laws as laws}, specs.Lines.{IsTextOf, lines}}
use Rattle.class_table.specs.{ClassLine.{class_line}, NamedLines.{named_line}, declared.table.TheConstants.{MOST_CLASSES}}
use Rattle.potential_check.proofs.SheetLines.{forced_line, forced_line-is, line-cost_in, line-forced_in, line-limit_in, line-row_in, line-step_in}
use Rattle.potential_check.proofs.SheetLines.{line-table_in}
use Rattle.potential_check.specs.SheetText.{IsRow, IsWithinLimits, SheetReading, SpellsBy, cost_in, forced_in, forced_lines, is_named, limit_in}
use Rattle.potential_check.specs.SheetText.{lines_by, nothing_read, part_after, part_of, read_by, row_in, sheet_steps, step_in, step_lines}
use Rattle.potential_check.specs.{SheetText.{table_in, with_part, with_row, word_of}, declared.{cost.Cost.{Cost}, part.Part.{Part}}}
use Rattle.potential_check.specs.declared.part.Part.TheVariants.{Table, Limit, Step, Forced, Stated, Row}
use Rattle.tuner_theory.specs.Sheets.{Sheet}

-- The lines of a sheet before a part.
abbrev lines_before : Cost → Part → Sheet → List (List ℕ)
lines_before cost Table s = []
lines_before cost Limit s = class_line s.table ∷ []
lines_before cost Step s = class_line s.table ∷ named_line (codes "limit") (s.limit ∷ []) ∷ []
lines_before cost Forced s = class_line s.table ∷ named_line (codes "limit") (s.limit ∷ []) ∷ step_lines s.step
lines_before cost Stated s = class_line s.table ∷ named_line (codes "limit") (s.limit ∷ []) ∷ step_lines s.step ++ forced_lines s.forced
lines_before cost Row s = lines_by cost s

-- Nothing was read of the parts from one on.
abbrev IsUnread : Part → Sheet → Type 0
IsUnread Row s = Unit {0}
IsUnread Stated s = s.rows ≡ []
IsUnread Forced s = (s.forced ≡ false) × (s.rows ≡ [])
IsUnread part s = (s.step ≡ 1) × (s.forced ≡ false) × (s.rows ≡ [])

record IsReadBefore (part : Part) (s : Sheet) : Type 0 where
  limits : IsWithinLimits s
  unread : IsUnread part s

-- a part that is passed over has no line
part_passed : (cost : Cost) (next : Part) (s : Sheet) (line : List ℕ) → IsReadBefore next s
    → IsReadBefore (part_of next line) s × (lines_before cost (part_of next line) s ≡ lines_before cost next s)
part_passed cost Step s line is = go (is_named (codes "step") line) refl (is_named (codes "forced") line) refl
  where
    go : (a : Bool) → is_named (codes "step") line ≡ a → (b : Bool) → is_named (codes "forced") line ≡ b
        → IsReadBefore (part_of Step line) s × (lines_before cost (part_of Step line) s ≡ lines_before cost Step s)
    go a is_a b is_b = grind (arith, append-nil)
part_passed cost Forced s line is = grind (arith, append-nil)
part_passed cost Table s line is = (is, refl)
part_passed cost Limit s line is = (is, refl)
part_passed cost Stated s line is = (is, refl)
part_passed cost Row s line is = (is, refl)

-- what is made of what was read
mapped : {A B : Type 0} (make : A → B) (read : Option A) (y : B) → option_map make read ≡ Some y → (x : A) × (read ≡ Some x) × (make x ≡ y)
mapped make None y e = absurd cc
mapped make (Some x) y e = (x, refl, cc)

row_parts : (room : Bool) (read : Option (List ℕ)) (s next : Sheet) → (if room then option_map (with_row s) read else None) ≡ Some next
    → (room ≡ true) × (row : List ℕ) × (read ≡ Some row) × (with_row s row ≡ next)
row_parts true None s next e = absurd cc
row_parts true (Some row) s next e = (refl, row, refl, cc)
row_parts false read s next e = absurd cc

-- the line of each part is the last
last_forced : (line : List ℕ) (forced : Bool) → line ≡ forced_line → forced ≡ true → forced_lines forced ≡ line ∷ []
last_forced line forced is too = rw (is, too) forced_line-is

last_cost : (front more : List (List ℕ)) (line stated : List ℕ) (rows : List (List ℕ)) → line ≡ stated → rows ≡ []
    → front ++ (more ++ stated ∷ map (named_line (codes "row")) rows) ≡ (front ++ more) ++ line ∷ []
last_cost front more line stated rows is none = rw (is, none) (sym (append_assoc front more (stated ∷ [])))

last_row : (front more : List (List ℕ)) (line stated row : List ℕ) (rows : List (List ℕ)) → line ≡ named_line (codes "row") row
    → front ++ (more ++ stated ∷ map (named_line (codes "row")) (rows ++ row ∷ []))
    ≡ (front ++ (more ++ stated ∷ map (named_line (codes "row")) rows)) ++ line ∷ []
last_row front more line stated row rows is = rw (is, map-append) (grind (arith, append_assoc))

-- a part that is read has its line
abbrev IsReadBy : Cost → Part → Sheet → List ℕ → Sheet → Type 0
IsReadBy cost part s line next =
    IsReadBefore (part_after part) next × (lines_before cost (part_after part) next ≡ lines_before cost part s ++ line ∷ [])

part_read : (cost : Cost) (part : Part) (s next : Sheet) (line : List ℕ) → IsReadBefore part s → with_part cost part s line ≡ Some next
    → IsReadBy cost part s line next
part_read cost Table s next line is read =
    let old = is.limits in
    let table = mapped _ (table_in line) next read in
    let spelled = line-table_in line table.0 table.1 in
    subst (IsReadBy cost Table s line) table.2
    (record { limits = record { table = spelled.1; limit = old.limit; step = old.step; cost = old.cost; few = old.few; rows = old.rows }; unread = is.unread }, ap (λ last. last ∷ []) (sym spelled.0))
part_read cost Limit s next line is read =
    let old = is.limits in
    let limit = mapped _ (limit_in line) next read in
    let spelled = line-limit_in line limit.0 limit.1 in
    subst (IsReadBy cost Limit s line) limit.2
    (record { limits = record { table = old.table; limit = (spelled.1, spelled.2); step = old.step; cost = old.cost; few = old.few; rows = old.rows }; unread = is.unread }, ap (λ last. class_line s.table ∷ last ∷ []) (sym spelled.0))
part_read cost Step s next line is read =
    let old = is.limits in
    let step = mapped _ (step_in line) next read in
    let spelled = line-step_in line step.0 step.1 in
    subst (IsReadBy cost Step s line) step.2 (
      record { limits = record { table = old.table; limit = old.limit; step = spelled.1; cost = old.cost; few = old.few; rows = old.rows }; unread = (is.unread.1, is.unread.2) },
      rw (ne_eqb step.0 1 spelled.2) (ap (λ last. class_line s.table ∷ named_line (codes "limit") (s.limit ∷ []) ∷ last ∷ []) (sym spelled.0)),
    )
part_read cost Forced s next line is read =
    let old = is.limits in
    let forced = mapped _ (forced_in line) next read in
    let spelled = line-forced_in line forced.0 forced.1 in
    subst (IsReadBy cost Forced s line) forced.2 (
      record { limits = record { table = old.table; limit = old.limit; step = old.step; cost = old.cost; few = old.few; rows = old.rows }; unread = is.unread.1 },
      ap (λ last. class_line s.table ∷ named_line (codes "limit") (s.limit ∷ []) ∷ step_lines s.step ++ last)
          (last_forced line forced.0 spelled.0 spelled.1),
    )
part_read cost Stated s next line is read =
    let old = is.limits in
    let stated = mapped _ (cost_in cost line) next read in
    let spelled = line-cost_in cost line stated.0 stated.1 in
    subst (IsReadBy cost Stated s line) stated.2 (
      record { limits = record { table = old.table; limit = old.limit; step = old.step; cost = spelled.1; few = old.few; rows = old.rows }; unread = tt },
      ap (λ ls. class_line s.table ∷ named_line (codes "limit") (s.limit ∷ []) ∷ ls)
          (last_cost (step_lines s.step) (forced_lines s.forced) line (named_line (word_of cost) (stated.0 ∷ [])) s.rows spelled.0 is.unread),
    )
part_read cost Row s next line is read =
    let old = is.limits in
    let row = row_parts (nat_lt (length s.rows) MOST_CLASSES) (row_in line) s next read in
    let spelled = line-row_in line row.1 row.2 in
    let few : length (s.rows ++ row.1 ∷ []) ≤ MOST_CLASSES = omega (arith, ltb-true (length s.rows) MOST_CLASSES row.0, length-append s.rows (row.1 ∷ [])) in
    let rows = All-append IsRow s.rows (row.1 ∷ []) old.rows (All-cons IsRow row.1 [] spelled.1 (All-nil IsRow)) in
    subst (IsReadBy cost Row s line) row.3 (
      record { limits = record { table = old.table; limit = old.limit; step = old.step; cost = old.cost; few = few; rows = rows }; unread = tt },
      ap (λ ls. class_line s.table ∷ named_line (codes "limit") (s.limit ∷ []) ∷ ls)
          (last_row (step_lines s.step) (forced_lines s.forced) line (named_line (word_of cost) (s.cost ∷ [])) row.1 s.rows spelled.0),
    )

-- ---- all lines

-- What is read of lines is spelled by these, after those that were read before them.
abbrev IsSpelled : SheetReading → List (List ℕ) → Sheet → Type 0
IsSpelled r ls s = IsReadBefore r.next r.sheet → IsWithinLimits s × (lines_by r.cost s ≡ lines_before r.cost r.next r.sheet ++ ls)

end_spelled : (r : SheetReading) (s : Sheet) → sheet_steps.finish r ≡ Ok s → IsSpelled r [] s
end_spelled r s is before = go r.next refl
  where
    go : (next : Part) → r.next ≡ next → IsWithinLimits s × (lines_by r.cost s ≡ lines_before r.cost r.next r.sheet ++ [])
    go next e = grind (arith, append-nil)

abbrev reading_after : SheetReading → List ℕ → Sheet → SheetReading
reading_after r line s = record { cost = r.cost; next = part_after (part_of r.next line); sheet = s }

line_spelled : (r next : SheetReading) (line : List ℕ) (ls : List (List ℕ)) (s : Sheet) → sheet_steps.step r line ≡ Ok next → IsSpelled next ls s
    → IsSpelled r (line ∷ ls) s
line_spelled r next line ls s is rest before = go (with_part r.cost (part_of r.next line) r.sheet line) refl
  where
    go : (read : Option Sheet) → with_part r.cost (part_of r.next line) r.sheet line ≡ read
        → IsWithinLimits s × (lines_by r.cost s ≡ lines_before r.cost r.next r.sheet ++ line ∷ ls)
    go None e = let none = rw e at is in absurd cc
    go (Some sheet) e =
        let passed = part_passed r.cost r.next r.sheet line before in
        let read = part_read r.cost (part_of r.next line) r.sheet sheet line passed.0 e in
        let same : reading_after r line sheet ≡ next = (let both = rw e at is in cc) in
        let after = (rw (← same) at rest) read.0 in
        (after.0, after.1 ∙ rw (read.1, passed.1) (append_assoc (lines_before r.cost r.next r.sheet) (line ∷ []) ls))

-- Lines of which something is read are its lines, and it is within the limits.
pub lines_read : (cost : Cost) (ls : List (List ℕ)) (s : Sheet) → read_by cost ls ≡ Ok s → IsWithinLimits s × (lines_by cost s ≡ ls)
unfolding read_by
lines_read cost ls s e = grind (arith, read_has sheet_steps IsSpelled end_spelled line_spelled ls 1 (nothing_read cost) s)

-- What is read is spelled by the text, and is within the limits.
pub read_is_spelled : (cost : Cost) (text : List ℕ) (s : Sheet) → read_by cost (lines text) ≡ Ok s → SpellsBy cost text s
read_is_spelled cost text s e =
    let read = lines_read cost (lines text) s e in
    record { limits = read.0; spelled = subst (IsTextOf text) (sym read.1) (laws.text text) }
