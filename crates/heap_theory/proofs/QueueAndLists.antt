-- After each step of a call the queue and the lists agree with the marks again.
use Rattle.std.proofs.Common.{◌≡◌, ℕ, ◌+◌, ◌-◌, ◌<◌, true, false, List, [], ◌∷◌, ◌++◌, length, get_or, refl, sym, ap, ◌∙◌, subst, inl, inr}
use Rattle.std.proofs.{Common.{arith, Some, slice_get, slice_set, replicate, Contains, IsTrue}, lemmas.Bool.{cases_eq}}
use Rattle.std.proofs.lemmas.{Grind.{common_steps}, List.{length-set, length-replicate}}
use Rattle.std.proofs.lemmas.List.Elements.{Contains-append_left, Contains-push}
use Rattle.machine_theory.specs.Memory.{Granule}
use Rattle.class_table.specs.Layout.{slot_count, block_bytes, Partition}
use Rattle.heap_theory.proofs.{ChangedSlot.{changed, state_here, state_there}, FirstHeap.{get_or-replicate_any}, HeapKept.{in_states}}
use Rattle.heap_theory.proofs.{ListSearch.{Contains-head, Contains-tail}, Releasing.{list_of-here, list_of-there}}
use Rattle.heap_theory.proofs.Marks.{list_mark, list_dead, list_weaker, one_number, IsNumberOf, number_is, one_mark, not_marked}
use Rattle.heap_theory.{proofs.Marks.{chain_bytes, chain_mark, chain_dead}, specs.Calls.{next_tag, given_out, freed, resized}}
use Rattle.heap_theory.specs.{Links.{list_of}, QueueAndLists.{HasMark, IsChain, IsFreedList, AgreeWithMarksFrom, AgreeWithMarks}}
use Rattle.heap_theory.specs.{Sound.{IsSoundHeap}, State.{State, Heap, slot_in, state_at, last_tag, is_fresh, first_heap, is_dead, IsSlot}}
use Rattle.heap_theory.specs.State.State.{Live, Dead}

-- ---- a change of the memory

chain_over : (h : Heap) (memory : List Granule) (from : ℕ) (queue : List ℕ) → IsChain h from queue →
    IsChain (record h { memory = memory }) from queue
chain_over h memory from [] c = c
chain_over h memory from (s ∷ rest) c = (c.0, c.1, chain_over h memory (from + block_bytes (slot_in h s)) rest c.2)

list_over : (h : Heap) (memory : List Granule) (class bound : ℕ) (list : List ℕ) → IsFreedList h class bound list →
    IsFreedList (record h { memory = memory }) class bound list
list_over h memory class bound [] f = tt
list_over h memory class bound (s ∷ rest) f = (f.0, f.1, f.2, f.3, f.4, list_over h memory class f.0 rest f.5)

pub agree_over : (heap : Heap) (memory : List Granule) (queue : List ℕ) (lists : List (List ℕ)) → AgreeWithMarks heap queue lists →
    AgreeWithMarks (record heap { memory = memory }) queue lists
agree_over h memory queue lists b = grind (arith, chain_over, list_over)

-- ---- the state of one slot changes

module _ (h : Heap) (s : ℕ) (state : State) (memory : List Granule) (total seed tag : ℕ) (within : s < length h.states) where
  abbrev now : Heap
  now = changed h s state memory total seed tag

  marked_there : (r mark : ℕ) → (r ≡ s → ⊥) → HasMark (state_at h r) mark → HasMark (state_at now r) mark
  marked_there r mark not d = subst (λ x. HasMark x mark) (sym (state_there h s state memory total seed tag within r not)) d

  marked_before : (r mark : ℕ) → (r ≡ s → ⊥) → HasMark (state_at now r) mark → HasMark (state_at h r) mark
  marked_before r mark not d = subst (λ x. HasMark x mark) (state_there h s state memory total seed tag within r not) d

  marked_here : (r mark : ℕ) → r ≡ s → HasMark (state_at now r) mark → HasMark state mark
  marked_here r mark is d = grind (arith, common_steps, state_here)

  list_stays : (class bound : ℕ) (list : List ℕ) → (Contains list s → ⊥) → IsFreedList h class bound list →
      IsFreedList now class bound list
  list_stays class bound [] out f = tt
  list_stays class bound (r ∷ rest) out f = (
    f.0,
    f.1,
    f.2,
    marked_there r f.0 (λ is. out (subst (Contains (r ∷ rest)) is (Contains-head r rest))) f.3,
    f.4,
    list_stays class f.0 rest (λ there. out (Contains-tail r rest s there)) f.5,
  )

  chain_stays : (from : ℕ) (queue : List ℕ) → total ≡ h.total → (Contains queue s → ⊥) → IsChain h from queue → IsChain now from queue
  chain_stays from [] same out c = c ∙ sym same
  chain_stays from (r ∷ rest) same out c = (
    c.0,
    marked_there r from (λ is. out (subst (Contains (r ∷ rest)) is (Contains-head r rest))) c.1,
    chain_stays (from + block_bytes (slot_in h r)) rest same (λ there. out (Contains-tail r rest s there)) c.2,
  )

  -- a slot that becomes live, or stays so, leaves the lists if it was in one
  made_live : (queue : List ℕ) (lists new : List (List ℕ)) → total ≡ h.total → is_dead state ≡ false → AgreeWithMarks h queue lists →
      (Contains queue s → ⊥) →
      length new ≡ length lists → ((number : ℕ) → number < length new → Contains (list_of new number) s → ⊥) →
      ((number class bound : ℕ) → number < length new → IsFreedList h class bound (list_of lists number) →
      IsFreedList h class bound (list_of new number)) →
      ((number r : ℕ) → (r ≡ s → ⊥) → Contains (list_of lists number) r → Contains (list_of new number) r) →
      AgreeWithMarks now queue new
  made_live queue lists new same alive b not_queued long out kept others = record {
    from = b.from;
    agree = record {
      chain = chain_stays b.from queue same not_queued b.agree.chain;
      long = long ∙ b.agree.long;
      freed =
          λ number inside. list_stays _ b.from (list_of new number) (out number inside)
          (kept number _ b.from inside (b.agree.freed number (subst (λ n. number < n) long inside)));
      queued = λ r mark in_range d le. let before = dead_before r mark d in b.agree.queued r mark in_range before.1 le;
      listed =
          grind (arith, dead_before);
      released = grind (arith, dead_before);
    };
    held = b.held;
  }
    where
      dead_before : (r mark : ℕ) → HasMark (state_at now r) mark → (r ≡ s → ⊥) × HasMark (state_at h r) mark
      dead_before r mark d =
          let not : r ≡ s → ⊥ = λ is. not_marked state mark alive (marked_here r mark is d) in
          (not, marked_before r mark not d)

  -- a live slot that is freed goes to the end of the queue
  chain_push : (from : ℕ) (queue : List ℕ) → s < slot_count h.layout → HasMark state h.total → total ≡ h.total + block_bytes (slot_in h s) →
      (Contains queue s → ⊥) → IsChain h from queue → IsChain now from (queue ++ s ∷ [])
  chain_push from [] in_range d grows out c = (
    in_range,
    subst (λ x. HasMark x from) (sym (state_here h s state memory total seed tag within)) (subst (HasMark state) (sym c) d),
    omega (arith, c),
  )
  chain_push from (r ∷ rest) in_range d grows out c = (
    c.0,
    marked_there r from (λ is. out (subst (Contains (r ∷ rest)) is (Contains-head r rest))) c.1,
    chain_push (from + block_bytes (slot_in h r)) rest in_range d grows (λ there. out (Contains-tail r rest s there)) c.2,
  )

  made_dead : (queue : List ℕ) (lists : List (List ℕ)) → s < slot_count h.layout → HasMark state h.total →
      total ≡ h.total + block_bytes (slot_in h s) →
      (b : AgreeWithMarks h queue lists) → (Contains queue s → ⊥) →
      ((number : ℕ) → number < length lists → Contains (list_of lists number) s → ⊥) →
      AgreeWithMarksFrom now b.from (queue ++ s ∷ []) lists
  made_dead queue lists in_range d grows b not_queued out = record {
    chain = chain_push b.from queue in_range d grows not_queued b.agree.chain;
    long = b.agree.long;
    freed = λ number inside. list_stays _ b.from (list_of lists number) (out number inside) (b.agree.freed number inside);
    queued = λ r mark k dead le. elim (cases_eq r s) [
      | inl is ↦ subst (Contains (queue ++ s ∷ [])) (sym is) (Contains-push queue s)
      | inr not ↦ Contains-append_left queue (s ∷ []) r (b.agree.queued r mark k (marked_before r mark not dead) le)
    ];
    listed = λ r mark number k dead lt found. elim (cases_eq r s) [
      | inl is ↦ absurd (not_before r mark is dead lt)
      | inr not ↦ b.agree.listed r mark number k (marked_before r mark not dead) lt found
    ];
    released = λ r mark k dead lt. elim (cases_eq r s) [
      | inl is ↦ absurd (not_before r mark is dead lt)
      | inr not ↦ let over : h.quarantine < h.total - mark = b.agree.released r mark k (marked_before r mark not dead) lt in omega arith
    ];
  }
    where
      not_before : (r mark : ℕ) → r ≡ s → HasMark (state_at now r) mark → mark < b.from → ⊥
      not_before r mark is dead lt =
          let own : mark ≡ h.total = one_mark state mark h.total (marked_here r mark is dead) d in
          grind (arith, chain_bytes)

-- ---- a slot that is not dead is in no list

not_queued : (h : Heap) (from : ℕ) (queue : List ℕ) (s : ℕ) → IsChain h from queue → is_dead (state_at h s) ≡ false → Contains queue s → ⊥
not_queued h from queue s c alive there = let q = chain_dead h from queue s c there in not_marked (state_at h s) q.mark alive q.marked

not_listed : (h : Heap) (queue : List ℕ) (lists : List (List ℕ)) (s : ℕ) → (b : AgreeWithMarks h queue lists) →
    is_dead (state_at h s) ≡ false →
    (number : ℕ) → number < length lists → Contains (list_of lists number) s → ⊥
not_listed h queue lists s b alive number inside there =
    let l = list_dead h _ b.from (list_of lists number) s (b.agree.freed number inside) there in
    not_marked (state_at h s) l.mark alive l.marked

pub fresh_not_dead : (x : State) → is_fresh x ≡ true → is_dead x ≡ false
fresh_not_dead x fresh = grind arith

-- ---- the changes that calls make

pub agree_freed : (heap : Heap) (queue : List ℕ) (lists : List (List ℕ)) (s n tag : ℕ) → IsSoundHeap heap →
    (b : AgreeWithMarks heap queue lists) → IsSlot heap s → state_at heap s ≡ Live n tag →
    AgreeWithMarksFrom (freed heap s n) b.from (queue ++ s ∷ []) lists
unfolding freed
agree_freed h queue lists s n t sound b in_range live =
    made_dead h s (Dead n (last_tag (state_at h s)) h.total) _ (h.total + block_bytes (slot_in h s)) _ _ (in_states h s sound in_range)
    queue lists in_range refl refl b
    (not_queued h b.from queue s b.agree.chain (ap is_dead live))
    (not_listed h queue lists s b (ap is_dead live))

pub agree_fresh : (heap : Heap) (queue : List ℕ) (lists : List (List ℕ)) (s n : ℕ) → IsSoundHeap heap → AgreeWithMarks heap queue lists →
    IsSlot heap s → IsTrue (is_fresh (state_at heap s)) → AgreeWithMarks (given_out heap s n) queue lists
unfolding given_out
agree_fresh h queue lists s n sound b in_range fresh =
    made_live h s (Live n (next_tag h s)) _ h.total _ _ (in_states h s sound in_range) queue lists lists refl refl b
    (not_queued h b.from queue s b.agree.chain (fresh_not_dead (state_at h s) fresh))
    refl
    (not_listed h queue lists s b (fresh_not_dead (state_at h s) fresh))
    (λ number class bound inside f. f) (λ number r not there. there)

pub agree_resized : (heap : Heap) (queue : List ℕ) (lists : List (List ℕ)) (s n size tag : ℕ) → IsSoundHeap heap →
    AgreeWithMarks heap queue lists → IsSlot heap s → state_at heap s ≡ Live size tag → AgreeWithMarks (resized heap s n) queue lists
unfolding resized
agree_resized h queue lists s n m t sound b in_range live =
    made_live h s (Live n (last_tag (state_at h s))) _ h.total _ _ (in_states h s sound in_range) queue lists lists refl refl b
    (not_queued h b.from queue s b.agree.chain (ap is_dead live))
    refl
    (not_listed h queue lists s b (ap is_dead live))
    (λ number class bound inside f. f) (λ number r not there. there)

-- the front of a class's list is given out
module _ (h : Heap) (queue : List ℕ) (lists : List (List ℕ)) (number class s n : ℕ) (rest : List ℕ) (sound : IsSoundHeap h)
    (b : AgreeWithMarks h queue lists)
    (numbered : slice_get h.layout.classes number ≡ Some class) (is : list_of lists number ≡ s ∷ rest) where
  is_number : IsNumberOf h.layout.classes number class
  is_number = number_is h.layout.classes number class numbered

  inside : number < length lists
  inside = subst (λ k. number < k) (sym b.agree.long) is_number.within

  front : IsFreedList h class b.from (s ∷ rest)
  front = grind (arith, is_number)

  in_no_queue : Contains queue s → ⊥
  in_no_queue there = grind (arith, chain_mark, front)

  in_no_list : (other : ℕ) → other < length (slice_set lists number rest) → Contains (list_of (slice_set lists number rest) other) s → ⊥
  in_no_list other within there =
      let f = front in
      elim (cases_eq other number) [
        | inl same ↦
            grind (arith, list_of-here, inside, list_mark)
        | inr not ↦
            let in_lists : other < length lists = subst (λ k. other < k) (length-set lists number rest) within in
            let l = list_dead h (get_or h.layout.classes other 0) b.from (list_of lists other) s (b.agree.freed other in_lists)
            (subst (λ list. Contains list s) (list_of-there lists number other rest not) there) in
            not (one_number 1 h.layout.classes other number sound.partition.table (subst (λ k. other < k) b.agree.long in_lists)
            is_number.within
            (sym l.of_class ∙ f.2 ∙ sym is_number.is))
      ]

  rest_freed : (other c bound : ℕ) → other < length (slice_set lists number rest) → IsFreedList h c bound (list_of lists other) →
      IsFreedList h c bound (list_of (slice_set lists number rest) other)
  rest_freed other c bound within f = grind (arith, common_steps, cases_eq, list_of-here, list_of-there, list_weaker)

  others_listed : (other r : ℕ) → (r ≡ s → ⊥) → Contains (list_of lists other) r → Contains (list_of (slice_set lists number rest) other) r
  others_listed other r another there = elim (cases_eq other number) [
    | inl same ↦
        subst (λ k. Contains (list_of (slice_set lists number rest) k) r) (sym same)
        (subst (λ list. Contains list r) (sym (list_of-here lists number rest inside))
        (grind arith))
    | inr not ↦ subst (λ list. Contains list r) (sym (list_of-there lists number other rest not)) there
  ]

  pub agree_taken : AgreeWithMarks (given_out h s n) queue (slice_set lists number rest)
  unfolding given_out
  agree_taken =
      let f = front in
      made_live h s (Live n (next_tag h s)) _ h.total _ _ (in_states h s sound f.1) queue lists (slice_set lists number rest) refl refl b
      in_no_queue (length-set lists number rest) in_no_list rest_freed others_listed

-- ---- a new heap

pub agree_first : (layout : Partition) (seed quarantine : ℕ) →
    AgreeWithMarks (first_heap layout seed quarantine) [] (replicate (length layout.classes) [])
unfolding first_heap
agree_first layout seed quarantine = grind (arith, length-replicate, get_or-replicate_any)
