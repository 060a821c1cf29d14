-- The marks of slots in a queue and in lists.
use Rattle.std.proofs.Common.{◌≡◌, ◌≢◌, ℕ, ◌+◌, ◌<◌, ◌≤◌, true, false, List, [], ◌∷◌, length, get_or, sym, ◌∙◌, subst, inl, inr, arith}
use Rattle.std.proofs.{Common.{Contains, slice_get, Some}, lemmas.Bool.{cases_order}, lemmas.List.Kept.{AllPairs-from_increasing}}
use Rattle.std.proofs.lemmas.{List.Sums.{sum_by-cons}, Option.{get_or_from_slice_get, slice_get_within}}
use Rattle.class_table.specs.{Layout.{Partition, slot_count, slot_of, block_bytes}, Tables.{IsLegalTable}}
use Rattle.heap_theory.{proofs.ListSearch.{Contains-cases, Contains-none}, specs.QueueAndLists.{HasMark, IsChain, IsFreedList, bytes_of}}
use Rattle.heap_theory.specs.{Sound.{IfDead}, State.{State, Heap, slot_in, state_at, mark_of, is_dead}}

-- ---- one mark

pub one_mark : (x : State) (m k : ℕ) → HasMark x m → HasMark x k → m ≡ k
one_mark x0 m k a b = grind arith

pub mark_of-is : (x : State) (mark : ℕ) → HasMark x mark → mark_of x ≡ mark
mark_of-is x0 mark d = grind arith

pub HasMark-own : (x : State) → is_dead x ≡ true → HasMark x (mark_of x)
HasMark-own x0 dead = grind arith

pub dead_with_mark : (x : State) (mark : ℕ) → HasMark x mark → is_dead x ≡ true
dead_with_mark x0 mark d = grind arith

pub not_marked : (x : State) (mark : ℕ) → is_dead x ≡ false → HasMark x mark → ⊥
not_marked x mark alive d = let dead = sym alive ∙ dead_with_mark x mark d in cc

pub same_mark : (x y : State) (m k : ℕ) → HasMark x m → HasMark y k → m ≡ k → IfDead x (λ mark. IfDead y (λ other. mark ≢ other)) → ⊥
same_mark x0 x1 m k d e same differ = grind arith

-- ---- the queue

pub bytes_of-cons : (layout : Partition) (s : ℕ) (slots : List ℕ) →
    bytes_of layout (s ∷ slots) ≡ block_bytes (slot_of layout s) + bytes_of layout slots
bytes_of-cons layout s slots = sum_by-cons (λ s. block_bytes (slot_of layout s)) s slots

pub chain_bytes : (h : Heap) (from : ℕ) (queue : List ℕ) → IsChain h from queue → from + bytes_of h.layout queue ≡ h.total
chain_bytes h from [] c = omega (arith, c)
chain_bytes h from (s ∷ rest) c = omega (arith, bytes_of-cons h.layout s rest, chain_bytes h (from + block_bytes (slot_in h s)) rest c.2)

pub chain_mark : (h : Heap) (from : ℕ) (queue : List ℕ) (s mark : ℕ) → IsChain h from queue → Contains queue s →
    HasMark (state_at h s) mark → from ≤ mark
chain_mark h from [] s mark c there d = absurd (Contains-none s there)
chain_mark h from (r ∷ rest) s mark c there d = elim (Contains-cases r rest s there) [
  | inl is ↦ omega (arith, one_mark (state_at h s) from mark (subst (λ r. HasMark (state_at h r) from) is c.1) d)
  | inr after ↦ omega (arith, chain_mark h (from + block_bytes (slot_in h r)) rest s mark c.2 after d)
]

-- each slot of a queue is dead
pub record IsQueued (h : Heap) (from s : ℕ) : Type 0 where
  pub in_range : s < slot_count h.layout
  pub mark : ℕ
  pub marked : HasMark (state_at h s) mark
  pub above : from ≤ mark

pub chain_dead : (h : Heap) (from : ℕ) (queue : List ℕ) (s : ℕ) → IsChain h from queue → Contains queue s → IsQueued h from s
chain_dead h from [] s c there = absurd (Contains-none s there)
chain_dead h from (r ∷ rest) s c there = grind (arith, chain_dead h (from + block_bytes (slot_in h r)) rest s c.2)

-- ---- lists

pub list_mark : (h : Heap) (class bound : ℕ) (list : List ℕ) (s mark : ℕ) → IsFreedList h class bound list → Contains list s →
    HasMark (state_at h s) mark → mark < bound
list_mark h class bound [] s mark f there d = absurd (Contains-none s there)
list_mark h class bound (r ∷ rest) s mark f there d = grind (arith, list_mark h class f.0 rest s mark f.5)

pub list_weaker : (h : Heap) (class a b : ℕ) (list : List ℕ) → a ≤ b → IsFreedList h class a list → IsFreedList h class b list
list_weaker h class a b [] le f = tt
list_weaker h class a b (s ∷ rest) le f = let below : f.0 < a = f.4 in (f.0, f.1, f.2, f.3, omega arith, f.5)

-- each slot of a list is dead, and of its class
pub record IsListed (h : Heap) (class bound s : ℕ) : Type 0 where
  pub in_range : s < slot_count h.layout
  pub of_class : (slot_in h s).class ≡ class
  pub mark : ℕ
  pub marked : HasMark (state_at h s) mark
  pub below : mark < bound

pub list_dead : (h : Heap) (class bound : ℕ) (list : List ℕ) (s : ℕ) → IsFreedList h class bound list → Contains list s →
    IsListed h class bound s
list_dead h class bound [] s f there = absurd (Contains-none s there)
list_dead h class bound (r ∷ rest) s f there = elim (Contains-cases r rest s there) [
  | inl is ↦ subst (IsListed h class bound) is (record { in_range = f.1; of_class = f.2; mark = f.0; marked = f.3; below = f.4 })
  | inr after ↦
      let l = list_dead h class f.0 rest s f.5 after in
      grind arith
]

-- ---- classes

-- a class has one number
pub one_number : (step : ℕ) (classes : List ℕ) (a b : ℕ) → IsLegalTable step classes → a < length classes → b < length classes →
    get_or classes a 0 ≡ get_or classes b 0 → a ≡ b
one_number step classes a b legal in_a in_b same = grind (arith, AllPairs-from_increasing, cases_order)

pub record IsNumberOf (classes : List ℕ) (number class : ℕ) : Type 0 where
  pub within : number < length classes
  pub is : get_or classes number 0 ≡ class

pub number_is : (classes : List ℕ) (number class : ℕ) → slice_get classes number ≡ Some class → IsNumberOf classes number class
number_is classes number class found = grind (arith, slice_get_within, get_or_from_slice_get)
