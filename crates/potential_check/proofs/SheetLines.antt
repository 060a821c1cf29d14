-- Each line of a sheet or a fit: it is read as what it spells, and no other line is.
use Rattle.std.proofs.Common.{◌≡◌, ◌≢◌, ℕ, ◌<◌, ◌≤◌, ◌^◌, Bool, true, false, List, [], ◌∷◌, length, Option, Some, refl, sym, ap, ◌∙◌, arith}
use Rattle.std.proofs.{Common.{codes, leb, option_and_then}, lemmas.Bool.Decides.{nat_tests}, lemmas.List.Sums.{AllPass-from_list_all}}
use Rattle.std.{proofs.lemmas.Bool.{and_from, and_parts, eqb-true, leb-true, le-leb, lt-ltb, ltb-true}, specs.List.{list_all}}
use Rattle.std.{proofs.lemmas.List.Elements.{All-nil, All-cons, All-head, All-tail, All-weaker}, specs.Option.{option_map}}
use Rattle.class_table.proofs.LawLemmas.{AreSmall, IsName, line_of_read_numbers, named_numbers_are_read, read_line_is_spelled}
use Rattle.class_table.{proofs.LawLemmas.{table_line_is_read, words_of_named_line}, specs.ClassLine.{class_line}, specs.Steps.{IsStep}}
use Rattle.class_table.specs.{NamedLines.{named_line, numbers_in}, Tables.{IsLegalTable}, declared.table.TheConstants.{MOST_CLASSES}}
use Rattle.class_table.specs.declared.sizes.TheConstants.{LARGEST_CLASS, MOST_NEEDS}
use Rattle.potential_check.{proofs.RowNumbers.{passing-some}, specs.declared.cost.Cost.{Cost}}
use Rattle.potential_check.specs.SheetText.{IsRow, cost_in, fits, forced_in, forced_lines, is_forced, is_limit, is_named, is_row}
use Rattle.potential_check.specs.SheetText.{is_written_step, limit_in, number_in, passing, row_in, step_in, table_in, word_of, only_one}
use Rattle.potential_check.specs.declared.cost.Cost.TheVariants.{Waste, Footprint}

-- The line of a name and one number: it is read as this number, and no other line is.

-- ---- from the number to the line

-- The number of a line, by the line's numbers
pub number_in-numbers : (name : List ℕ) (test : ℕ → Bool) (line : List ℕ) →
    number_in name test line ≡ passing test (option_and_then only_one (numbers_in name line))
number_in-numbers name test line = grind arith

pub number_in-named_line : (name : List ℕ) (test : ℕ → Bool) (n : ℕ) → IsName name → n < 2 ^ 64 → test n ≡ true →
    number_in name test (named_line name (n ∷ [])) ≡ Some n
number_in-named_line name test n is_name small passes =
    number_in-numbers name test (named_line name (n ∷ []))
    ∙ rw (named_numbers_are_read name (n ∷ []) is_name (All-cons (λ n. n < 2 ^ 64) n [] small (All-nil (λ n. n < 2 ^ 64))), passes) refl

-- ---- from a line to its number

-- a single number
one_number : (o : Option (List ℕ)) (n : ℕ) → option_and_then only_one o ≡ Some n → o ≡ Some (n ∷ [])
one_number o n is = grind arith

pub line-number_in : (name : List ℕ) (test : ℕ → Bool) (line : List ℕ) (n : ℕ) → number_in name test line ≡ Some n →
    ((m : ℕ) → test m ≡ true → m < 2 ^ 64)
    → (line ≡ named_line name (n ∷ [])) × (test n ≡ true)
line-number_in name test line n e small =
    let passed = passing-some test (option_and_then only_one (numbers_in name line)) n (sym (number_in-numbers name test line) ∙ e) in
    let one = one_number (numbers_in name line) n passed.0 in
    (line_of_read_numbers name line (n ∷ []) one (All-cons (λ n. n < 2 ^ 64) n [] (small n passed.1) (All-nil (λ n. n < 2 ^ 64))), passed.1)

-- ---- the names

-- the names of the lines after the table
pub record AreNames : Type 0 where
  pub limit : IsName (codes "limit")
  pub step : IsName (codes "step")
  pub forced : IsName (codes "forced")
  pub cost : (cost : Cost) → IsName (word_of cost)
  pub row : IsName (codes "row")

pub names : AreNames
names = grind arith

-- ---- the tests

limit_passes : (k : ℕ) → (1 ≤ k) × (k ≤ MOST_CLASSES) → is_limit k ≡ true
limit_passes k within = and_from (leb 1 k) (leb k MOST_CLASSES) (le-leb 1 k within.0) (le-leb k MOST_CLASSES within.1)

passed_limit : (k : ℕ) → is_limit k ≡ true → (1 ≤ k) × (k ≤ MOST_CLASSES)
passed_limit k e = let both = and_parts (leb 1 k) (leb k MOST_CLASSES) e in (leb-true 1 k both.0, leb-true k MOST_CLASSES both.1)

step_passes : (s : ℕ) → IsStep s → s ≢ 1 → is_written_step s ≡ true
step_passes s is_step other = grind (arith, nat_tests)

passed_step : (s : ℕ) → is_written_step s ≡ true → IsStep s × (2 ≤ s) × (s ≤ 8)
passed_step s e = grind (arith, nat_tests)

pub step_small : (s : ℕ) → IsStep s → s < 2 ^ 64
step_small s is_step = let small : s ≤ 8 = grind (arith, nat_tests) in omega arith

all_fit : (ns : List ℕ) → AreSmall ns → list_all fits ns ≡ true
all_fit [] small = refl
all_fit (n ∷ ns) small =
    and_from (fits n) (list_all fits ns) (lt-ltb n (2 ^ 64) (All-head (λ n. n < 2 ^ 64) n ns small))
    (all_fit ns (All-tail (λ n. n < 2 ^ 64) n ns small))

fitted : (ns : List ℕ) → list_all fits ns ≡ true → AreSmall ns
fitted ns e = All-weaker (λ n. fits n ≡ true) (λ n. n < 2 ^ 64) (λ n f. ltb-true n (2 ^ 64) f) ns (AllPass-from_list_all fits ns e)

row_passes : (ns : List ℕ) → IsRow ns → is_row ns ≡ true
row_passes ns is = and_from (leb (length ns) MOST_NEEDS) (list_all fits ns) (le-leb (length ns) MOST_NEEDS is.0) (all_fit ns is.1)

-- ---- from what is spelled to the line

pub one_small : (n : ℕ) → n < 2 ^ 64 → AreSmall (n ∷ [])
one_small n small = All-cons (λ n. n < 2 ^ 64) n [] small (All-nil (λ n. n < 2 ^ 64))

pub limit_in-line : (k : ℕ) → (1 ≤ k) × (k ≤ MOST_CLASSES) → limit_in (named_line (codes "limit") (k ∷ [])) ≡ Some k
limit_in-line k within = number_in-named_line (codes "limit") is_limit k names.limit (omega (arith, within.1)) (limit_passes k within)

pub step_in-line : (s : ℕ) → IsStep s → s ≢ 1 → step_in (named_line (codes "step") (s ∷ [])) ≡ Some s
step_in-line s is_step other =
    let passes = step_passes s is_step other in
    number_in-named_line (codes "step") is_written_step s names.step (omega (arith, (passed_step s passes).2)) passes

pub cost_in-line : (cost : Cost) (n : ℕ) → n < 2 ^ 64 → cost_in cost (named_line (word_of cost) (n ∷ [])) ≡ Some n
cost_in-line cost n small = number_in-named_line (word_of cost) fits n (names.cost cost) small (lt-ltb n (2 ^ 64) small)

-- the line of a cost is no step line
pub cost-not_step : (cost : Cost) (n : ℕ) → n < 2 ^ 64 → is_named (codes "step") (named_line (word_of cost) (n ∷ [])) ≡ false
cost-not_step Waste n small = rw (words_of_named_line (codes "waste") (n ∷ []) (names.cost Waste) (one_small n small)) refl
cost-not_step Footprint n small = rw (words_of_named_line (codes "footprint") (n ∷ []) (names.cost Footprint) (one_small n small)) refl

-- nor one of a forced class
pub cost-not_forced : (cost : Cost) (n : ℕ) → n < 2 ^ 64 → is_named (codes "forced") (named_line (word_of cost) (n ∷ [])) ≡ false
cost-not_forced Waste n small = rw (words_of_named_line (codes "waste") (n ∷ []) (names.cost Waste) (one_small n small)) refl
cost-not_forced Footprint n small =
    rw (words_of_named_line (codes "footprint") (n ∷ []) (names.cost Footprint) (one_small n small)) refl

-- the line of a forced class, which is no step line
unfoldable pub forced_line : List ℕ
forced_line = named_line (codes "forced") (LARGEST_CLASS ∷ [])

pub forced_line-is : forced_lines true ≡ forced_line ∷ []
unfolding forced_line
forced_line-is = refl

pub forced-named : (is_named (codes "step") forced_line ≡ false) × (is_named (codes "forced") forced_line ≡ true)
unfolding forced_line
forced-named =
    rw (words_of_named_line (codes "forced") (LARGEST_CLASS ∷ []) names.forced (one_small LARGEST_CLASS (omega arith))) (refl, refl)

pub forced_in-line : forced_in forced_line ≡ Some true
unfolding forced_line
forced_in-line = rw (number_in-named_line (codes "forced") is_forced LARGEST_CLASS names.forced (omega arith) refl) refl

-- a row, by the line's numbers
row_in-numbers : (line : List ℕ) → row_in line ≡ passing is_row (numbers_in (codes "row") line)
row_in-numbers line = grind arith

pub row_in-line : (ns : List ℕ) → IsRow ns → row_in (named_line (codes "row") ns) ≡ Some ns
row_in-line ns is = grind (arith, row_in-numbers, named_numbers_are_read, names, row_passes)

pub table_in-line : (table : List ℕ) → IsLegalTable 1 table → table_in (class_line table) ≡ Some table
table_in-line table legal = rw (table_line_is_read table legal) refl

-- ---- from a line to what it spells

pub line-limit_in : (line : List ℕ) (k : ℕ) → limit_in line ≡ Some k
    → (line ≡ named_line (codes "limit") (k ∷ [])) × (1 ≤ k) × (k ≤ MOST_CLASSES)
line-limit_in line k e =
    let read = line-number_in (codes "limit") is_limit line k e (λ m f. omega (arith, (passed_limit m f).1)) in
    grind (arith, passed_limit)

pub line-step_in : (line : List ℕ) (s : ℕ) → step_in line ≡ Some s → (line ≡ named_line (codes "step") (s ∷ [])) × IsStep s × (s ≢ 1)
line-step_in line s e =
    let read = line-number_in (codes "step") is_written_step line s e (λ m f. omega (arith, (passed_step m f).2)) in
    grind (arith, passed_step)

-- what a class is forced by
forced_number_there : (o : Option ℕ) (forced : Bool) → option_map (λ class. true) o ≡ Some forced → (forced ≡ true) × ((class : ℕ) × (o ≡ Some class))
forced_number_there o forced is = grind arith

pub line-forced_in : (line : List ℕ) (forced : Bool) → forced_in line ≡ Some forced → (line ≡ forced_line) × (forced ≡ true)
unfolding forced_line
line-forced_in line forced e =
    let there = forced_number_there (number_in (codes "forced") is_forced line) forced e in
    let read = line-number_in (codes "forced") is_forced line there.1.0 there.1.1
    (λ m f. let same : m ≡ LARGEST_CLASS = eqb-true m LARGEST_CLASS f in omega (arith, same)) in
    (read.0 ∙ ap (λ class. named_line (codes "forced") (class ∷ [])) (eqb-true there.1.0 LARGEST_CLASS read.1), there.0)

pub line-cost_in : (cost : Cost) (line : List ℕ) (n : ℕ) → cost_in cost line ≡ Some n
    → (line ≡ named_line (word_of cost) (n ∷ [])) × (n < 2 ^ 64)
line-cost_in cost line n e = grind (arith, line-number_in, ltb-true)

pub line-row_in : (line ns : List ℕ) → row_in line ≡ Some ns → (line ≡ named_line (codes "row") ns) × IsRow ns
line-row_in line ns e = grind (arith, row_in-numbers, fitted, line_of_read_numbers)

pub line-table_in : (line table : List ℕ) → table_in line ≡ Some table → (line ≡ class_line table) × IsLegalTable 1 table
line-table_in line table e = grind (arith, read_line_is_spelled line table)
