-- Accesses through a variable.
use Rattle.std.proofs.Common.{◌≡◌, ◌≢◌, ℕ, ◌≤◌, Bool, true, false, refl, sym, ◌∙◌, subst, inl, inr, arith, ℤ, nat_abs, length}
use Rattle.std.proofs.{Common.{replicate, Ok}, lemmas.Int.{to_z-of_z, fits_signed_from_abs}}
use Rattle.std.{proofs.lemmas.List.{length-replicate}, specs.Int.{w32, cast_signed, cast_unsigned}}
use Rattle.machine_theory.specs.{Access.{IsMapped, access_fault, is_mapped, ok_unless, stored}, Address.{logical_tag, moved_by}}
use Rattle.heap_theory.specs.{Calls.{store_step}, HeapTags.{IsTaggedOrUnmapped, IsNullOrTagged}, Sound.{IsSoundHeap}}
use Rattle.heap_theory.specs.State.{Heap}
use Rattle.replay_core.proofs.TheoryLemmas as laws

-- an offset that is near, as the code reads it
pub near_offset : (off : ℤ) → nat_abs off ≤ 1048576 → cast_signed w32 (cast_unsigned w32 off) ≡ off
near_offset off near = to_z-of_z w32 off (fits_signed_from_abs w32 off (omega arith))

module _ (heap : Heap) (sound : IsSoundHeap heap) (a : ℕ) (off : ℤ) (len : ℕ) (near : nat_abs off ≤ 1048576) (some : 1 ≤ len) where
  mapped_is_tagged : IsMapped (length heap.memory) (moved_by a off) len → IsNullOrTagged a → logical_tag (moved_by a off) ≢ 0
  mapped_is_tagged mapped (inl null) same =
      let at_null = subst (λ z. IsMapped (length heap.memory) (moved_by z off) len) null mapped in
      laws.moved_null off 0 (omega arith) (omega arith) (omega (arith, at_null.from))
      (omega (arith, at_null.to, sound.long, sound.partition.most))
  mapped_is_tagged mapped (inr tagged) same =
      tagged (sym (laws.moved_tag a off 0 (omega arith) (omega arith) (omega (arith, mapped.from))
      (omega (arith, mapped.to, sound.long, sound.partition.most))) ∙ same)

  pub tagged_or_not_mapped : IsNullOrTagged a → IsTaggedOrUnmapped heap (moved_by a off) len
  tagged_or_not_mapped null_or_tagged = by_test (is_mapped (length heap.memory) (moved_by a off) len) refl
    where
      by_test : (b : Bool) → is_mapped (length heap.memory) (moved_by a off) len ≡ b → IsTaggedOrUnmapped heap (moved_by a off) len
      by_test true is = inl (mapped_is_tagged ((laws.mapped (length heap.memory) (moved_by a off) len).0 is) null_or_tagged)
      by_test false is = inr is

-- a store that succeeds, of bytes that are all the same
pub store_is : (heap new : Heap) (address len byte : ℕ) → ok_unless (access_fault heap.memory address len) ≡ Ok tt →
    new ≡ record heap { memory = stored heap.memory address (replicate len byte) } → new ≡ store_step heap address (replicate len byte)
unfolding store_step
store_is heap new address len byte done is = grind (arith, length-replicate)
