-- The pointer that was given out for a live chunk, and which pointers `free` and `realloc` accept.
use Rattle.std.specs.Prelude.{◌≡◌, ◌≢◌, ◌⊎◌, ℕ, List, Result, Ok, Err, ⊤}
use Rattle.heap_theory.specs.Calls.{malloc_step, calloc_step, free_step, realloc_step, store_step}
use Rattle.heap_theory.specs.{State.{Heap, IsLive, state_at, pointer_to, IsSlot}, declared.refusal.ReallocError.{ReallocError}}
use Rattle.heap_theory.specs.declared.refusal.ReallocError.TheVariants.{Null, Refused}

-- The own pointer of the live chunk in slot s: the address of its first byte, under the tag that the slot was given out with.
pub record IsOwnPointer (heap : Heap) (s p : ℕ) : Type 0 where
  pub in_range : IsSlot heap s
  pub live : IsLive (state_at heap s)
  pub address : p ≡ pointer_to heap s

abbrev pub IsNullOrOwn : Heap → ℕ → Type 0
IsNullOrOwn heap p = (p ≡ 0) ⊎ ((s : ℕ) × IsOwnPointer heap s p)

-- `free` accepts the pointer
abbrev pub FreeAccepts : Heap → ℕ → Type 0
FreeAccepts heap p = (free_step heap p).answer ≡ Ok tt

-- a realloc that accepted its pointer, whether it had a slot for the new size or not
abbrev pub IsNotRefused : Result ℕ ReallocError → Type 0
IsNotRefused (Ok p) = ⊤
IsNotRefused (Err (Null cause)) = ⊤
IsNotRefused (Err (Refused error)) = ⊥

-- `realloc` to n bytes accepts the pointer
abbrev pub ReallocAccepts : Heap → ℕ → ℕ → Type 0
ReallocAccepts heap p n = IsNotRefused (realloc_step heap p n).answer

-- ---- the laws

-- What malloc, calloc and realloc give out is the own pointer of a live chunk,
pub record GivesOwnPointers (heap : Heap) : Type 0 where
  pub malloc : (n p : ℕ) → (malloc_step heap n).answer ≡ Ok p → (s : ℕ) × IsOwnPointer (malloc_step heap n).heap s p
  pub calloc : (n p : ℕ) → (calloc_step heap n).answer ≡ Ok p → (s : ℕ) × IsOwnPointer (calloc_step heap n).heap s p
  pub realloc : (q n p : ℕ) → (realloc_step heap q n).answer ≡ Ok p → (s : ℕ) × IsOwnPointer (realloc_step heap q n).heap s p

-- and stays it in each call but a free or a realloc of itself.
pub record StaysOwnPointer (heap : Heap) (s p : ℕ) : Type 0 where
  pub malloc : (n : ℕ) → IsOwnPointer (malloc_step heap n).heap s p
  pub calloc : (n : ℕ) → IsOwnPointer (calloc_step heap n).heap s p
  pub free : (q : ℕ) → q ≢ p → IsOwnPointer (free_step heap q).heap s p
  pub realloc : (q n : ℕ) → q ≢ p → IsOwnPointer (realloc_step heap q n).heap s p
  pub store : (address : ℕ) (bytes : List ℕ) → IsOwnPointer (store_step heap address bytes) s p
