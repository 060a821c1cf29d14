-- What the proofs of the crates above cite.
use Rattle.std.proofs.Common.{◌≡◌, ℕ, List}
use Rattle.class_table.specs.Layout.{Partition}
use Rattle.heap_theory.specs.Region.{Region, next_in}
use Rattle.quarantine_core.{proofs.TheoryLemmas.{one_list}, specs.Queue.{Queue, AreQueued}}

-- the links show one queue
pub one_queue_is_shown : (value : Queue) (layout : Partition) (region : Region) (a b : List ℕ) → AreQueued value layout region a →
    AreQueued value layout region b → a ≡ b
one_queue_is_shown value layout region a b of_a of_b = one_list (next_in region) value.front a b of_a.linked of_b.linked
