-- What the queue and the lists hold.
use Rattle.std.proofs.Common.{◌≡◌, ℕ, ◌+◌, ◌<◌, true, List, [], ◌∷◌, sym, ◌∙◌, subst, arith, AllPairs, Contains}
use Rattle.std.proofs.{Common.{slice_get, Some, length}, lemmas.Bool.{and_parts}}
use Rattle.class_table.specs.Layout.{slot_count, block_bytes}
use Rattle.heap_theory.{proofs.Front.{freed_list, listed}, proofs.ListSearch.{AllPairs-cons, AllPairs-nil}, specs.Links.{list_of}}
use Rattle.heap_theory.proofs.Marks.{list_dead, one_number, HasMark-own, mark_of-is, chain_bytes}
use Rattle.heap_theory.{proofs.Marks.{chain_dead}, specs.Sound.{IsSoundHeap}}
use Rattle.heap_theory.specs.QueueAndLists.{IsChain, IsFreedList, AgreeWithMarks, HoldsQuarantined, HoldsReleased}
use Rattle.heap_theory.specs.State.{Heap, slot_in, state_at, is_dead, is_released, is_quarantined, mark_of}

-- ---- the queue

ascending : (h : Heap) (from : ℕ) (queue : List ℕ) → IsSoundHeap h → IsChain h from queue →
    AllPairs (λ s r. mark_of (state_at h s) < mark_of (state_at h r)) queue
ascending h from [] sound c = AllPairs-nil (λ s r. mark_of (state_at h s) < mark_of (state_at h r))
ascending h from (s ∷ rest) sound c =
    AllPairs-cons (λ s r. mark_of (state_at h s) < mark_of (state_at h r)) s rest
    (λ r there.
    let q = chain_dead h (from + block_bytes (slot_in h s)) rest r c.2 there in
    grind (arith, mark_of-is))
    (ascending h (from + block_bytes (slot_in h s)) rest sound c.2)

pub holds_quarantined : (heap : Heap) (queue : List ℕ) (lists : List (List ℕ)) → IsSoundHeap heap → AgreeWithMarks heap queue lists →
    HoldsQuarantined heap queue
holds_quarantined h queue lists sound b = record {
  slots = λ s. (in_queue s, queued s);
  ascending = ascending h b.from queue sound b.agree.chain;
}
  where
    in_queue : (s : ℕ) → Contains queue s → (s < slot_count h.layout) × (is_quarantined h (state_at h s) ≡ true)
    in_queue s there =
        let q = chain_dead h b.from queue s b.agree.chain there in
        grind (arith, chain_bytes)

    queued : (s : ℕ) → (s < slot_count h.layout) × (is_quarantined h (state_at h s) ≡ true) → Contains queue s
    queued s is =
        let both = and_parts (is_dead (state_at h s)) _ is.1 in
        let marked = HasMark-own (state_at h s) both.0 in
        grind arith

-- ---- a class's list

descending : (h : Heap) (class bound : ℕ) (list : List ℕ) → IsFreedList h class bound list →
    AllPairs (λ s r. mark_of (state_at h r) < mark_of (state_at h s)) list
descending h class bound [] f = AllPairs-nil (λ s r. mark_of (state_at h r) < mark_of (state_at h s))
descending h class bound (s ∷ rest) f =
    AllPairs-cons (λ s r. mark_of (state_at h r) < mark_of (state_at h s)) s rest
    (λ r there.
    let l = list_dead h class f.0 rest r f.5 there in
    omega (arith, mark_of-is (state_at h s) f.0 f.3, mark_of-is (state_at h r) l.mark l.marked, l.below))
    (descending h class f.0 rest f.5)

pub holds_released : (heap : Heap) (queue : List ℕ) (lists : List (List ℕ)) (number class : ℕ) → IsSoundHeap heap →
    AgreeWithMarks heap queue lists → slice_get heap.layout.classes number ≡ Some class → HoldsReleased heap class (list_of lists number)
holds_released h queue lists number class sound b numbered = record {
  slots =
      λ s. (
        in_list s,
        λ is. listed h queue lists number class sound b numbered s
            (record { in_range = is.0; of_class = is.1; passes = is.2 }),
      );
  descending = descending h class b.from (list_of lists number) (freed_list h queue lists number class sound b numbered);
}
  where
    in_list : (s : ℕ) → Contains (list_of lists number) s →
        (s < slot_count h.layout) × ((slot_in h s).class ≡ class) × (is_released h (state_at h s) ≡ true)
    in_list s there =
        let l = list_dead h class b.from (list_of lists number) s (freed_list h queue lists number class sound b numbered) there in grind arith

-- ---- no slot is in two of them

pub one_list_has : (heap : Heap) (queue : List ℕ) (lists : List (List ℕ)) (a b s : ℕ) → IsSoundHeap heap → AgreeWithMarks heap queue lists →
    a < length lists → b < length lists → Contains (list_of lists a) s → Contains (list_of lists b) s → a ≡ b
one_list_has h queue lists a b s sound agree in_a in_b at_a at_b =
    let l = list_dead h _ agree.from (list_of lists a) s (agree.agree.freed a in_a) at_a in
    let k = list_dead h _ agree.from (list_of lists b) s (agree.agree.freed b in_b) at_b in
    one_number 1 h.layout.classes a b sound.partition.table (subst (λ n. a < n) agree.agree.long in_a)
    (subst (λ n. b < n) agree.agree.long in_b) (sym l.of_class ∙ k.of_class)

pub queue_or_list : (heap : Heap) (queue : List ℕ) (lists : List (List ℕ)) (number s : ℕ) → AgreeWithMarks heap queue lists →
    number < length lists → Contains queue s → Contains (list_of lists number) s → ⊥
queue_or_list h queue lists number s b within in_queue in_list =
    let q = chain_dead h b.from queue s b.agree.chain in_queue in
    let l = list_dead h _ b.from (list_of lists number) s (b.agree.freed number within) in_list in
    omega (arith, mark_of-is (state_at h s) q.mark q.marked, mark_of-is (state_at h s) l.mark l.marked, q.above, l.below)
