-- Lines that are read as a sheet or a fit in front of others, and what is read where there are no others.
use Rattle.std.proofs.Common.{◌≡◌, ℕ, ◌+◌, ◌≤◌, Bool, true, false, List, [], ◌∷◌, length, take, drop, Option, Some, None, Result, Ok}
use Rattle.std.{proofs.Common.{Err, refl, ◌∙◌, ap, arith, length-append}, proofs.lemmas.List.{length-map}}
use Rattle.class_table.specs.declared.table.TheConstants.{MOST_CLASSES}
use Rattle.line_text.specs.{Lines.{lines}, LineSteps.{read_lines}, Stops.{Takes}, declared.line_reader.Stop.{Stop}}
use Rattle.line_text.specs.declared.line_reader.Stop.TheVariants.{OutOfMemory, Fault}
use Rattle.potential_check.{proofs.ReadIsSpelled.{lines_read}, specs.Certificates.SheetView.{sheet_of}}
use Rattle.potential_check.specs.Leading.{GivesLeadingBy, IsLeadingOf, leading_lines, lines_after, lines_from}
use Rattle.potential_check.specs.SheetText.{GivesBy, IsTaken, SheetReading, bad_line, is_left, lines_by, most_head_lines}
use Rattle.potential_check.specs.SheetText.{nothing_read, part_after, part_of, read_by, sheet_steps, with_part}
use Rattle.potential_check.specs.declared.{cost.Cost.{Cost}, cost.Cost.TheVariants.{Waste, Footprint}, fault.SheetError.{SheetError}}
use Rattle.potential_check.specs.declared.{part.Part.{Part}, part.Part.TheVariants.{Table}}
use Rattle.potential_check.specs.declared.certificates.certificate.Certificate.{Certificate as Held}
use Rattle.tuner_theory.specs.Sheets.{Sheet}

-- ---- the next line

pub own_line : (next : Part) (line : List ℕ) (rest : List (List ℕ)) → is_left next line ≡ false
    → lines_from next (line ∷ rest) ≡ line ∷ lines_from (part_after (part_of next line)) rest
unfolding lines_from
own_line next line rest own = rw own refl

pub left_line : (next : Part) (line : List ℕ) (rest : List (List ℕ)) → is_left next line ≡ true → lines_from next (line ∷ rest) ≡ []
unfolding lines_from
left_line next line rest left = rw left refl

pub no_line_left : (next : Part) → lines_from next [] ≡ []
unfolding lines_from
no_line_left next = refl

-- What is made of a line that is not left
pub takes_line : (r : SheetReading) (line : List ℕ) (rest : List (List ℕ)) (new : Sheet) (read : Result (Unit {0}) (Stop (Unit {0})))
    → is_left r.next line ≡ false → IsTaken (with_part r.cost (part_of r.next line) r.sheet line) new read
    → Takes sheet_steps (λ r ls. lines_from r.next ls) r line
    (record { cost = r.cost; next = part_after (part_of r.next line); sheet = new }) rest read
takes_line r line rest new (Ok done) own is = (rw is refl, own_line r.next line rest own)
takes_line r line rest new (Err OutOfMemory) own is = tt
takes_line r line rest new (Err (Fault fault)) own is = (rw is refl, ap (take 1) (own_line r.next line rest own))

-- ---- what is read

few_lines : (cost : Cost) (s : Sheet) → length s.rows ≤ MOST_CLASSES → length (lines_by cost s) ≤ most_head_lines + MOST_CLASSES
few_lines cost s few = grind (arith, length-append, length-map)

pub leading_read : (cost : Cost) (ls : List (List ℕ)) (s : Sheet) (count : ℕ) (after : List ℕ)
    → read_lines sheet_steps 1 (nothing_read cost) (lines_from Table ls) ≡ Ok s → count ≡ length (lines_by cost s)
    → lines after ≡ drop (length (lines_from Table ls)) ls → IsLeadingOf (read_by cost) ls s count after
unfolding read_by leading_lines lines_after
leading_read cost ls s count after read size is =
    let all = lines_read cost (lines_from Table ls) s (rw read refl) in
    record { read = rw read refl; size = size ∙ ap length all.1; few = rw size (few_lines cost s all.0.few); after = is }

pub leading_fault : (C : Type 0) (cost : Cost) (ls : List (List ℕ)) (number : ℕ) (fault : Unit {0})
    → read_lines sheet_steps 1 (nothing_read cost) (lines_from Table ls) ≡ Err (number, fault)
    → GivesLeadingBy {C = C} cost ls (Err (bad_line cost number))
unfolding read_by leading_lines
leading_fault C Waste ls number fault read = (refl, rw read refl)
leading_fault C Footprint ls number fault read = (refl, rw read refl)

-- ---- all lines

-- the sheet in front, unless there is a line after it
abbrev unless_line : List (List ℕ) → ℕ → Result Sheet (ℕ × Unit {0}) → Result Sheet (ℕ × Unit {0})
unless_line [] number read = read
unless_line (line ∷ ls) number (Ok s) = Err (number, tt)
unless_line (line ∷ ls) number (Err fault) = Err fault

-- a line that is left comes after a whole sheet, and would be faulty in it
left_is_faulty : (r : SheetReading) (line : List ℕ) → is_left r.next line ≡ true
    → (sheet_steps.step r line ≡ Err tt) × (sheet_steps.finish r ≡ Ok r.sheet)
left_is_faulty r line left = go r.next refl
  where
    go : (next : Part) → r.next ≡ next → (sheet_steps.step r line ≡ Err tt) × (sheet_steps.finish r ≡ Ok r.sheet)
    go next is = grind arith

-- What is read of all lines is what is read of the first of them, where these are all.
all_by_own : (ls : List (List ℕ)) (n : ℕ) (r : SheetReading) → read_lines sheet_steps n r ls
    ≡ unless_line (drop (length (lines_from r.next ls)) ls) (n + length (lines_from r.next ls)) (read_lines sheet_steps n r (lines_from r.next ls))
unfolding read_lines lines_from
all_by_own [] n r = refl
all_by_own (line ∷ ls) n r = go (all_by_own ls) (is_left r.next line) refl (with_part r.cost (part_of r.next line) r.sheet line) refl
  where
    go : ((n : ℕ) (r : SheetReading) → read_lines sheet_steps n r ls ≡ unless_line (drop (length (lines_from r.next ls)) ls)
        (n + length (lines_from r.next ls)) (read_lines sheet_steps n r (lines_from r.next ls)))
        → (left : Bool) → is_left r.next line ≡ left → (read : Option Sheet) → with_part r.cost (part_of r.next line) r.sheet line ≡ read
        → read_lines sheet_steps n r (line ∷ ls)
        ≡ unless_line (drop (length (lines_from r.next (line ∷ ls))) (line ∷ ls)) (n + length (lines_from r.next (line ∷ ls)))
        (read_lines sheet_steps n r (lines_from r.next (line ∷ ls)))
    go others true left read is = grind (arith, left_is_faulty)
    go others false left None is = grind arith
    go others false left (Some s) is = grind (arith, others)

abbrev pub unless_more : List (List ℕ) → ℕ → Result Sheet ℕ → Result Sheet ℕ
unless_more [] number read = read
unless_more (line ∷ ls) number (Ok s) = Err number
unless_more (line ∷ ls) number (Err fault) = Err fault

pub all_by_leading : (cost : Cost) (ls : List (List ℕ)) →
    read_by cost ls ≡ unless_more (lines_after ls) (length (leading_lines ls) + 1) (read_by cost (leading_lines ls))
unfolding read_by leading_lines lines_after
all_by_leading cost ls = grind (arith, all_by_own ls 1 (nothing_read cost))

pub all_fault_given : {C : Type 0} (cost : Cost) (ls : List (List ℕ)) (result : Result (Held C) SheetError) (y e : SheetError)
    → result ≡ Err y → y ≡ e → GivesLeadingBy {C = C} cost ls (Err e) → GivesBy cost sheet_of result (read_by cost ls)
all_fault_given cost ls result y e is also too = grind (arith, all_by_leading)

module _ (cost : Cost) (ls : List (List ℕ)) (s : Sheet) (count : ℕ) (after : List ℕ) (is : IsLeadingOf (read_by cost) ls s count after) where
  pub all_read : lines after ≡ [] → read_by cost ls ≡ Ok s
  all_read none = grind (arith, all_by_leading)

  pub line_after : {A : Type 0} (view : A → Sheet) (new : List (List ℕ)) (line : List ℕ) → lines after ≡ line ∷ new
      → GivesBy cost view (Err (bad_line cost (count + 1))) (read_by cost ls)
  line_after view new line some = by_cost cost (grind (arith, all_by_leading))
    where
      by_cost : (kind : Cost) → read_by cost ls ≡ Err (count + 1) → GivesBy kind view (Err (bad_line kind (count + 1))) (read_by cost ls)
      by_cost Waste e = (refl, e)
      by_cost Footprint e = (refl, e)
