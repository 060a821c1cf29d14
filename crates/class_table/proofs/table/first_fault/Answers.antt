use Rattle.std.proofs.Common.{◌≡◌, drop, refl, ℕ, ◌+◌, ◌<◌, ◌≤◌, true, false, List, length, get_or, Option, Some, add-one}
use Rattle.std.proofs.{Common.{arith}, Math.Seq.{drop-cons}, lemmas.Bool.{le-leb, lt-leb}, lemmas.Grind.{common_steps}}
use Rattle.std.proofs.lemmas.List.{drop_all}
use Rattle.class_table.specs.{Faults.{fault_from, is_out_of_range}, declared.fault.TableError.{TableError}}
use Rattle.class_table.specs.declared.fault.TableError.TheVariants.{OutOfRange, NotAscending}
use Rattle.class_table.proofs.table.first_fault.Goals as goal

-- Looking for the first faulty class, one class after the other.

-- the faults from a place on
abbrev fault_at : List ℕ → ℕ → ℕ → Option TableError
fault_at classes below i = fault_from below (drop i classes)

out_of_range_at : (classes : List ℕ) (below i : ℕ) → i < length classes → is_out_of_range (get_or classes i 0) ≡ true →
    fault_at classes below i ≡ Some OutOfRange
unfolding fault_from
out_of_range_at classes below i within out = rw (drop-cons classes i 0 within, out) refl

not_ascending_at : (classes : List ℕ) (below i : ℕ) → i < length classes → is_out_of_range (get_or classes i 0) ≡ false →
    get_or classes i 0 ≤ below
    → fault_at classes below i ≡ Some NotAscending
unfolding fault_from
not_ascending_at classes below i within in_range low = grind (arith, le-leb, drop-cons)

no_fault_at : (classes : List ℕ) (below i : ℕ) → i < length classes → is_out_of_range (get_or classes i 0) ≡ false →
    below < get_or classes i 0
    → fault_at classes below i ≡ fault_at classes (get_or classes i 0) (i + 1)
unfolding fault_from
no_fault_at classes below i within in_range above = grind (arith, common_steps, lt-leb, drop-cons, add-one)

pub returns-then-is_out_of_range : goal.returns-then-is_out_of_range
returns-then-is_out_of_range c = grind (arith, out_of_range_at)

pub returns-then-class-below : goal.returns-then-class-below
returns-then-class-below c = grind (arith, not_ascending_at)

pub loop-class-preserved : goal.loop-class-preserved
loop-class-preserved c = grind (arith, no_fault_at)

pub returns : goal.returns
unfolding fault_from
returns c = grind (arith, drop_all)
