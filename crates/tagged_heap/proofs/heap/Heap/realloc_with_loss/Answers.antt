-- The chunk that the pointer names, and whether the bytes are of its class, decide which of the four cases it is.
use Rattle.std.{proofs.Common.{◌≡◌, arith, Err}, proofs.lemmas.Bool.{ne_eqb}}
use Rattle.heap_theory.specs.{Calls.{realloc_step}, Lookups.{chunk_at}, declared.refusal.FreeError.{FreeError}}
use Rattle.heap_theory.specs.declared.refusal.ReallocError.TheVariants.{Refused}
use Rattle.tagged_heap.proofs.{CallSteps.{realloc_accepted}, Kept.{class_most}}
use Rattle.tagged_heap.{proofs.heap.Heap.realloc_with_loss.Goals.{In_ok-chunk, In_err-chunk}, specs.Chunks.{IsChunk}}
use Rattle.tagged_heap.specs.{Frees.{frees_of_realloc}}
use Rattle.tagged_heap.proofs.heap.Heap.realloc_with_loss.Goals as goal

is_chunk : (c : In_ok-chunk) → IsChunk c.args.self.now.state c.in_ok-chunk.chunk
is_chunk c = grind arith

-- why there is none, and what is answered then
record IsRefused (c : In_err-chunk) : Type 0 where
  pub error : FreeError
  pub named : chunk_at c.args.self.now.state c.args.p ≡ Err error
  pub is : c.in_err-chunk.field-0.0 ≡ Refused error

refused : (c : In_err-chunk) → IsRefused c
refused c = grind arith

pub returns-in_err-chunk-clause-answer : goal.returns-in_err-chunk-clause-answer
unfolding realloc_step
returns-in_err-chunk-clause-answer c = grind arith

pub returns-in_err-chunk-clause-state : goal.returns-in_err-chunk-clause-state
unfolding realloc_step
returns-in_err-chunk-clause-state c = grind arith

pub returns-in_err-chunk-clause-counted : goal.returns-in_err-chunk-clause-counted
unfolding frees_of_realloc
returns-in_err-chunk-clause-counted c = grind arith

pub stays_in_class-requires : goal.stays_in_class-requires
stays_in_class-requires c = is_chunk (goal.at.stays_in_class-requires c).In_ok-chunk

pub resize-requires-clause-live : goal.resize-requires-clause-live
resize-requires-clause-live c = is_chunk (goal.at.resize-requires-clause-live c).In_ok-chunk

pub unused_bytes-requires-clause-few : goal.unused_bytes-requires-clause-few
unused_bytes-requires-clause-few c = grind (arith, class_most)

pub returns-then-stays_in_class-clause-answer : goal.returns-then-stays_in_class-clause-answer
unfolding realloc_step
returns-then-stays_in_class-clause-answer c = grind arith

pub returns-then-stays_in_class-clause-state : goal.returns-then-stays_in_class-clause-state
unfolding realloc_step
returns-then-stays_in_class-clause-state c = grind arith

pub returns-then-stays_in_class-clause-counted : goal.returns-then-stays_in_class-clause-counted
unfolding frees_of_realloc
returns-then-stays_in_class-clause-counted c = grind arith

pub move_chunk-requires-clause-live : goal.move_chunk-requires-clause-live
move_chunk-requires-clause-live c = is_chunk (goal.at.move_chunk-requires-clause-live c).In_ok-chunk

pub returns-clause-answer : goal.returns-clause-answer
unfolding realloc_step
returns-clause-answer c = grind arith

pub returns-clause-state : goal.returns-clause-state
unfolding realloc_step
returns-clause-state c = grind (arith, ne_eqb)

pub returns-clause-counted : goal.returns-clause-counted
unfolding frees_of_realloc
returns-clause-counted c = grind (arith, ne_eqb)

-- what is answered is the definition's answer, of which the law speaks
pub returns-in_err-chunk-clause-accepted : goal.returns-in_err-chunk-clause-accepted
returns-in_err-chunk-clause-accepted c = grind (arith, realloc_accepted, returns-in_err-chunk-clause-answer)

pub returns-then-stays_in_class-clause-accepted : goal.returns-then-stays_in_class-clause-accepted
returns-then-stays_in_class-clause-accepted c =
    realloc_accepted c.args.self.now.state c.args.p c.args.n _ c.chunk.ensures.sound
    (returns-then-stays_in_class-clause-answer c)

pub returns-clause-accepted : goal.returns-clause-accepted
returns-clause-accepted c =
    realloc_accepted c.args.self.now.state c.args.p c.args.n _ c.chunk.ensures.sound (returns-clause-answer c)
