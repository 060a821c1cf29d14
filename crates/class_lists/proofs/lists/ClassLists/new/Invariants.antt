use Rattle.std.proofs.Common.{◌≡◌, replicate}
use Rattle.class_lists.proofs.lists.ClassLists.new.Given as goal

abbrev pub invariant-loop : goal.invariant-loop
invariant-loop l = l.fronts.items ≡ replicate l.counter 0
