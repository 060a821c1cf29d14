-- A slot is let go by the quarantine and put into its class's list.
use Rattle.std.proofs.Common.{◌≡◌, ◌≢◌, ℕ, suc, ◌+◌, ◌<◌, ◌≤◌, ◌⊎◌, List, ◌∷◌, length, drop, refl, sym, ap, ◌∙◌, subst, inl, inr, arith}
use Rattle.std.proofs.{Common.{Some, Contains, slice_get, slice_index, slice_set}, lemmas.Option.{slice_get_within}}
use Rattle.std.proofs.lemmas.Bool.{cases_eq, cases_lt, lt-ltb, le-ltb, cond-true, cond-false}
use Rattle.machine_theory.specs.Memory.{Granule, IsMemory}
use Rattle.class_table.specs.Layout.{block_bytes}
use Rattle.heap_theory.proofs.{ListSearch.{Contains-cases}, Marks.{one_mark, not_marked, chain_dead, chain_mark}}
use Rattle.heap_theory.specs.{Header.{Header, class_number}, Header.Standing.{Freed, Quarantined}, Links.{IsLinked, list_of}}
use Rattle.heap_theory.specs.{QueueAndLists.{HasMark, IsChain, AgreeWithMarksFrom, bytes_of}, Region.{region_of, header_in, next_in}}
use Rattle.heap_theory.specs.{State.{State, Heap, slot_in, state_at, without_headers, IsSlot}, State.State.{Fresh, Live, Dead}}
use Rattle.quarantine_core.specs.Queue.{Queue, AreQueued, TakesOldest}
use Rattle.tagged_heap.proofs.{Changed.{with_link, with_standing, listed_same, other_list}, Kept.{class_few, list_slot}}
use Rattle.tagged_heap.{proofs.RewrittenHeaders.{link_set}, specs.ClassSlots.{HasFront}}
use Rattle.tagged_heap.specs.Representation.{standing_from, header_from, IsRewritten, AreListed, Parts, IsKept}
use Rattle.tagged_heap.proofs.TheoryLemmas as laws

-- ---- how slots stand

standing_freed : (from mark : ℕ) (x : State) → HasMark x mark → mark < from → standing_from from x ≡ Freed
standing_freed from mark x marked before = grind (arith, cond-true, lt-ltb)

-- the same where no mark is between the two
standing_between : (from to : ℕ) (x : State) → from ≤ to → ((mark : ℕ) → HasMark x mark → (mark < from) ⊎ (to ≤ mark)) →
    standing_from from x ≡ standing_from to x
standing_between from to Fresh le apart = refl
standing_between from to (Live n t) le apart = refl
standing_between from to (Dead n t mark) le apart = elim (apart mark refl) [
  | inl before ↦ cond-true _ Freed Quarantined (lt-ltb _ _ before) ∙ sym (cond-true _ Freed Quarantined (lt-ltb mark to (omega arith)))
  | inr after ↦ cond-false _ Freed Quarantined (le-ltb mark from (omega arith)) ∙ sym (cond-false _ Freed Quarantined (le-ltb _ _ after))
]

module _ {h : Heap} {p : Parts} (k : IsKept h p) {q1 : Queue} {m1 : List Granule} {s : ℕ}
    (out : TakesOldest p.quarantine q1 h.layout p.memory m1 s) where
  unlinked : IsRewritten h.layout p.memory m1 s (record (header_in (region_of h.layout p.memory) s) { next = 0 })
      (without_headers h.layout p.memory)
  unlinked = link_set out.link out.slot

  -- ---- the class of the slot that is let go

  class_is : (header_in (region_of h.layout m1) s).class ≡ class_number h.layout s
  class_is = ap (λ (x : Header). x.class) (unlinked.own ∙ ap (λ x. with_link x 0) (k.headers.headers s out.slot))

  class_found : slice_get h.layout.classes (header_in (region_of h.layout m1) s).class ≡ Some (slot_in h s).class
  class_found = ap (slice_get h.layout.classes) class_is ∙ laws.class_number_is h.layout s out.slot

  in_lists : (header_in (region_of h.layout m1) s).class < length k.lists
  in_lists = grind (arith, slice_get_within, class_found)

  pub can_be_listed : HasFront p.fronts (header_in (region_of h.layout m1) s).class
  can_be_listed = grind (arith, class_few, class_is, in_lists)

  -- ---- it goes to the front of the class's list

  pub release_step : {m2 : List Granule} → p.quarantine.limit < p.quarantine.held →
      IsRewritten h.layout m1 m2 s (record (header_in (region_of h.layout m1) s)
      { standing = Freed; next = slice_index p.fronts (header_in (region_of h.layout m1) s).class }) (without_headers h.layout m1) →
      IsMemory m2 →
      IsKept h (record
      { memory = m2; quarantine = q1; fronts = slice_set p.fronts (header_in (region_of h.layout m1) s).class (s + 1) })
  release_step {m2} over written memory = record {
    from = to;
    queue = rest;
    lists = slice_set k.lists number (s ∷ list_of k.lists number);
    sound = k.sound;
    memory_is = memory;
    seen =
        written.seen_is ∙ unlinked.seen_is ∙ k.seen;
    headers = record {
      headers = λ r inside. elim (cases_eq r s) [
        | inl is ↦
            grind (arith, here)
        | inr other ↦
            there r inside other ∙ k.headers.headers r inside
            ∙ ap (with_standing (header_from h.layout to r (state_at h r) (next_in (region_of h.layout p.memory) r)))
            (standing_between k.from to (state_at h r) (omega arith) (λ mark. apart r mark inside other))
            ∙ ap (header_from h.layout to r (state_at h r)) (sym (next_there r inside other))
      ];
      unlinked = grind (arith, next_there, not_marked);
    };
    queued = record {
      slots = rest_queued.slots;
      linked = laws.links_stay _ _ _ rest (λ r there. next_listed r (rest_queued.slots r there) (rest_differs r there)) rest_queued.linked;
      back = rest_queued.back;
      back_start = rest_queued.back_start;
      held = rest_queued.held;
    };
    listed =
        let plus : suc s ≡ s + 1 = omega arith in
        subst (λ front. AreListed (next_in (region_of h.layout m2)) (slice_set p.fronts number front)
        (slice_set k.lists number (s ∷ list_of k.lists number))) plus
        (other_list old_lists number (suc s) (s ∷ list_of k.lists number) in_lists (
          refl,
          subst (λ front. IsLinked (next_in (region_of h.layout m2)) front (list_of k.lists number)) (sym next_here)
              (old_lists.linked number in_lists),
        ));
    agree =
        laws.releases h k.from s number rest k.lists k.sound (subst (λ queue. AgreeWithMarksFrom h k.from queue k.lists) oldest k.agree)
        class_found
        (subst (λ queue. h.quarantine < bytes_of h.layout queue) oldest (omega (arith, over, k.queued.held, k.limit)));
    limit = ap (λ (x : Queue). x.limit) out.value ∙ k.limit;
  }
    where
      number : ℕ
      number = (header_in (region_of h.layout m1) s).class

      rest : List ℕ
      rest = drop 1 k.queue

      to : ℕ
      to = k.from + block_bytes (slot_in h s)

      oldest : k.queue ≡ s ∷ rest
      oldest = out.first k.queue k.queued

      chain : IsChain h k.from (s ∷ rest)
      chain = subst (IsChain h k.from) oldest k.agree.chain

      rest_queued : AreQueued q1 h.layout (region_of h.layout m1) rest
      rest_queued = out.queued rest (subst (AreQueued p.quarantine h.layout (region_of h.layout p.memory)) oldest k.queued)

      -- a slot with another mark is another slot
      differs : (r mark : ℕ) → HasMark (state_at h r) mark → mark ≢ k.from → r ≢ s
      differs r mark marked not is = not (one_mark (state_at h s) mark k.from (subst (λ q. HasMark (state_at h q) mark) is marked) chain.1)

      rest_differs : (r : ℕ) → Contains rest r → r ≢ s
      rest_differs r there =
          let d = chain_dead h to rest r chain.2 there in
          grind (arith, differs)

      -- no slot has a mark between the two
      apart : (r mark : ℕ) → IsSlot h r → r ≢ s → HasMark (state_at h r) mark →
          (mark < k.from) ⊎ (to ≤ mark)
      apart r mark inside other marked = elim (cases_lt mark k.from) [
        | inl before ↦ inl before
        | inr after ↦
            elim (Contains-cases s rest r
            (subst (λ queue. Contains queue r) oldest (k.agree.queued r mark inside marked after))) [
              | inl is ↦ absurd (other (sym is))
              | inr there ↦ inr (chain_mark h to rest r mark chain.2 there marked)
            ]
      ]

      there : (r : ℕ) → IsSlot h r → r ≢ s → header_in (region_of h.layout m2) r ≡ header_in (region_of h.layout p.memory) r
      there r inside other =
          written.others r inside other ∙ unlinked.others r inside other

      next_there : (r : ℕ) → IsSlot h r → r ≢ s → next_in (region_of h.layout m2) r ≡ next_in (region_of h.layout p.memory) r
      next_there r inside other = ap (λ (x : Header). x.next) (there r inside other)

      next_listed : (r : ℕ) → IsSlot h r → r ≢ s → next_in (region_of h.layout m2) r ≡ next_in (region_of h.layout m1) r
      next_listed r inside other = ap (λ (x : Header). x.next) (written.others r inside other)

      next_here : next_in (region_of h.layout m2) s ≡ slice_index p.fronts (header_in (region_of h.layout m1) s).class
      next_here = ap (λ (x : Header). x.next) written.own

      here : header_in (region_of h.layout m2) s ≡ header_from h.layout to s (state_at h s) (next_in (region_of h.layout m2) s)
      here =
          let two : 2 ≤ (slot_in h s).class = k.sound.slots.wide s out.slot in
          grind (arith, unlinked, standing_freed, chain)

      old_lists : AreListed (next_in (region_of h.layout m2)) p.fronts k.lists
      old_lists =
          listed_same k.listed
          (λ n r inside there.
          let d = list_slot k n r inside there in
          next_there r d.in_range (differs r d.mark d.marked (λ is. omega (arith, d.below))))
