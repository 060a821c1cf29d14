use Rattle.std.proofs.Common.{◌≡◌, [], List, ℕ, replicate}
use Rattle.tuner_theory.specs.Lists.{lists_of}
use Rattle.history_count.proofs.counted_lines.CountedLines.new.Given as goal

abbrev pub invariant-loop : goal.invariant-loop
invariant-loop l = let none : List ℕ = [] in record { empty : lists_of l.columns.items ≡ replicate l.counter none }
