-- The front of the queue is released to its class's list.
use Rattle.std.proofs.Common.{◌≡◌, ℕ, ◌+◌, ◌<◌, ◌≤◌, List, [], ◌∷◌, length, sym, ◌∙◌, subst, inl, inr, arith, Contains, slice_get}
use Rattle.std.proofs.{Common.{slice_set, Some}, lemmas.Bool.{cases_eq, cases_lt}}
use Rattle.std.proofs.lemmas.List.{get_or-set_same, get_or-set_other, length-set}
use Rattle.class_table.specs.Layout.{block_bytes}
use Rattle.heap_theory.{proofs.ListSearch.{Contains-tail, Contains-cases}, specs.Links.{list_of}, specs.Sound.{IsSoundHeap}}
use Rattle.heap_theory.proofs.Marks.{bytes_of-cons, chain_bytes, chain_mark, list_weaker, one_number, IsNumberOf, number_is}
use Rattle.heap_theory.specs.{QueueAndLists.{HasMark, AgreeWithMarksFrom, bytes_of}, State.{Heap, slot_in, state_at}}

-- a list for one class is another one
pub list_of-here : (lists : List (List ℕ)) (number : ℕ) (list : List ℕ) → number < length lists →
    list_of (slice_set lists number list) number ≡ list
list_of-here lists number list within = get_or-set_same lists number list [] within

pub list_of-there : (lists : List (List ℕ)) (number other : ℕ) (list : List ℕ) → (other ≡ number → ⊥) →
    list_of (slice_set lists number list) other ≡ list_of lists other
list_of-there lists number other list not = get_or-set_other lists number other list [] not

module _ (h : Heap) (from s number : ℕ) (queue : List ℕ) (lists : List (List ℕ)) (sound : IsSoundHeap h)
    (b : AgreeWithMarksFrom h from (s ∷ queue) lists)
    (numbered : slice_get h.layout.classes number ≡ Some (slot_in h s).class) where
  is_number : IsNumberOf h.layout.classes number (slot_in h s).class
  is_number = number_is h.layout.classes number (slot_in h s).class numbered

  within : number < length lists
  within = subst (λ n. number < n) (sym b.long) is_number.within

  wide : 0 < block_bytes (slot_in h s)
  wide = let two : 2 ≤ (slot_in h s).class = sound.slots.wide s b.chain.0 in omega arith

  is_front : (r mark : ℕ) → HasMark (state_at h r) mark → mark < from + block_bytes (slot_in h s) → Contains (s ∷ queue) r → s ≡ r
  is_front r mark d lt there = grind (arith, Contains-cases, chain_mark)

  stays_listed : (r other : ℕ) → Contains (list_of lists other) r →
      Contains (list_of (slice_set lists number (s ∷ list_of lists number)) other) r
  stays_listed r other there = elim (cases_eq other number) [
    | inl is ↦
        subst (λ n. Contains (list_of (slice_set lists number (s ∷ list_of lists number)) n) r) (sym is)
        (subst (λ list. Contains list r) (sym (list_of-here lists number (s ∷ list_of lists number) within))
        (Contains-tail s (list_of lists number) r (subst (λ n. Contains (list_of lists n) r) is there)))
    | inr not ↦ subst (λ list. Contains list r) (sym (list_of-there lists number other (s ∷ list_of lists number) not)) there
  ]

  front_listed : (other : ℕ) → slice_get h.layout.classes other ≡ Some (slot_in h s).class →
      Contains (list_of (slice_set lists number (s ∷ list_of lists number)) other) s
  front_listed other found =
      let there = number_is h.layout.classes other (slot_in h s).class found in
      let is : other ≡ number =
      one_number 1 h.layout.classes other number sound.partition.table there.within is_number.within (there.is ∙ sym is_number.is) in
      grind (arith, list_of-here)

  pub release : h.quarantine < bytes_of h.layout (s ∷ queue) →
      AgreeWithMarksFrom h (from + block_bytes (slot_in h s)) queue (slice_set lists number (s ∷ list_of lists number))
  release over =
      let some = wide in
      let bytes : bytes_of h.layout (s ∷ queue) ≡ block_bytes (slot_in h s) + bytes_of h.layout queue = bytes_of-cons h.layout s queue in
      let sum : from + block_bytes (slot_in h s) + bytes_of h.layout queue ≡ h.total =
      chain_bytes h (from + block_bytes (slot_in h s)) queue b.chain.2 in
      record {
        chain = b.chain.2;
        long = length-set lists number (s ∷ list_of lists number) ∙ b.long;
        freed = grind (arith, list_of-here, is_number, list_of-there, list_weaker, length-set);
        queued = grind arith;
        listed = λ r mark other in_range d lt found. elim (cases_lt mark from) [
          | inl before ↦ stays_listed r other (b.listed r mark other in_range d before found)
          | inr le ↦
              let is = is_front r mark d lt (b.queued r mark in_range d le) in
              grind (arith, front_listed)
        ];
        released = grind (arith, is_front);
      }
