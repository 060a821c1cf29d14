-- A slot is taken for a request and given out.
use Rattle.std.proofs.Common.{◌≡◌, ℕ, suc, ◌+◌, ◌^◌, ◌<◌, ◌≤◌, true, List, length, drop, refl, sym, ap, ◌∙◌, subst, inl, inr, arith}
use Rattle.std.proofs.Common.{Some, None, Option, Ok, Err, Contains, slice_get, slice_index, slice_set, bit_or, nat_lt}
use Rattle.std.proofs.lemmas.{Bool.{cond-true, cond-false, lt-ltb, le-ltb}, Option.{slice_get-get_or}}
use Rattle.std.specs.Option.{ok_or}
use Rattle.machine_theory.specs.{Address.{with_tag}, Instructions.{drawn_tag}, Machine.{Machine}, Memory.{Granule, IsMemory}}
use Rattle.machine_theory.specs.Seed.{next_seed}
use Rattle.class_table.specs.{Layout.{IsClassOf, first_slot}, Sizes.{largest_counted}, Tables.{class_number_for}}
use Rattle.heap_theory.proofs.{ChangedSlot.{state_here}, Linked.{IsLinked-first, IsLinked-none}, ListSearch.{Contains-head}}
use Rattle.heap_theory.{proofs.QueueAndLists.{fresh_not_dead}, proofs.SeenMemory.{length-without_headers}, specs.Links.{IsLinked, list_of}}
use Rattle.heap_theory.specs.{Calls.{given_out, next_tag, parity_exclude, chunk_tagged}, Header.{Header, with_header}}
use Rattle.heap_theory.specs.Lookups.{MayBeGiven, slot_for, slot_for_request, slot_in_class, lowest_fresh}
use Rattle.heap_theory.specs.{QueueAndLists.{AgreeWithMarks}, Region.{region_of, header_in, next_in}}
use Rattle.heap_theory.specs.State.{Heap, slot_in, state_at, last_tag, is_fresh, payload_place, pointer_to, IsSlot}
use Rattle.heap_theory.specs.{State.State.{Live}, declared.refusal.NullCause.{NullCause}}
use Rattle.heap_theory.specs.declared.refusal.NullCause.TheVariants.{Large, NoClass, Exhausted}
use Rattle.chunk_header.specs.Links.{SetsLink}
use Rattle.tagged_heap.proofs.{Changed.{with_link, other_list, counters_changed, kept_alive, alive_memory}, RewrittenHeaders.{link_set}}
use Rattle.tagged_heap.proofs.{Counters.{counters_step, counted, lowest_counted, lowest_none}, Shares.{share_of_slot}}
use Rattle.tagged_heap.proofs.Kept.{class_few, within_states, within_lists, region_is, list_slot, agree_at_rest, shown_is}
use Rattle.tagged_heap.specs.{Chunks.{given_header, tag_for, HasRoom}, ClassSlots.{IsCauseFor, HasClass, Takes}}
use Rattle.tagged_heap.specs.HeapAtRest.{shown_heap, IsAtRest}
use Rattle.tagged_heap.specs.Representation.{header_from, IsRewritten, AreListed, AreFirstFresh, Parts, IsKept}
use Rattle.tagged_heap.proofs.TheoryLemmas as laws

-- ---- the request

pub request_refused : (h : Heap) (n : ℕ) (cause : NullCause) → IsCauseFor h.layout.classes n cause → slot_for_request h n ≡ Err cause
unfolding slot_for_request
request_refused h n Large large = ap (slot_in_class h) (cond-true (nat_lt largest_counted n) (Err Large) _ (lt-ltb _ _ large))
request_refused h n NoClass none = grind (arith, laws.class_by_number, cond-false, le-ltb)
request_refused h n Exhausted none = absurd none

pub request_served : (h : Heap) (n number class : ℕ) (found : Option ℕ) → n ≤ largest_counted → class_number_for h.layout.classes n ≡ Some number →
    slice_get h.layout.classes number ≡ Some class → slot_for h class ≡ found → slot_for_request h n ≡ ok_or found Exhausted
unfolding slot_for_request
request_served h n number class found few numbered listed given = grind (arith, cond-false, le-ltb, listed, laws.class_by_number)

-- ---- which slot

-- A slot that was taken for a request of n bytes, and is to be given out.
pub record IsTaken (h : Heap) (p : Parts) (k : IsKept h p) (m1 : List Granule) (fronts counters : List ℕ) (s n : ℕ) : Type 0 where
  pub request : slot_for_request h n ≡ Ok s
  pub given : MayBeGiven h n s
  pub before : IsRewritten h.layout p.memory m1 s (header_from h.layout k.from s (state_at h s) 0) h.memory
  pub memory_is : IsMemory m1
  pub lists : List (List ℕ)
  pub listed : AreListed (next_in (region_of h.layout p.memory)) fronts lists
  pub agree : AgreeWithMarks (given_out h s n) k.queue lists
  pub fresh : AreFirstFresh (given_out h s n) counters

module _ {h : Heap} {frees : ℕ} {p : Parts} {counters : List ℕ} (held : IsAtRest h frees p counters) (n number : ℕ) (few : n ≤ largest_counted)
    (numbered : class_number_for h.layout.classes n ≡ Some number) (within : number < length h.layout.classes) where
  listed : slice_get h.layout.classes number ≡ Some (slice_index h.layout.classes number)
  listed = slice_get-get_or h.layout.classes number 0 within

  agree : AgreeWithMarks h held.kept.queue held.kept.lists
  agree = agree_at_rest held.kept held.rests

  linked : IsLinked (next_in (region_of h.layout p.memory)) (slice_index p.fronts number) (list_of held.kept.lists number)
  linked = held.kept.listed.linked number (within_lists held.kept number within)

  -- the link of the slot that is taken off a list is set to 0
  link_cleared : {m1 : List Granule} (s : ℕ) → IsSlot h s → SetsLink h.layout p.memory m1 s 0 →
      IsRewritten h.layout p.memory m1 s (header_from h.layout held.kept.from s (state_at h s) 0) h.memory
  link_cleared s in_range set =
      let cleared = link_set set in_range in grind (arith, with_link)

  -- the front of the class's list is taken, or where the list is empty the lowest fresh slot
  pub taken : {m1 : List Granule} {fronts' counters' : List ℕ} (s : ℕ) →
      Takes h.layout p.memory m1 p.fronts fronts' counters counters' number (Some s) → IsMemory m1 →
      IsTaken h p held.kept m1 fronts' counters' s n
  unfolding given_out
  taken s (inl t) is =
      let k = held.kept in
      let plus : s + 1 ≡ suc s = omega arith in
      let rest = drop 1 (list_of k.lists number) in
      let first =
      IsLinked-first (next_in (region_of h.layout p.memory)) (slice_index p.fronts number) s (list_of k.lists number) linked
      (t.taken.was ∙ plus) in
      let request : slot_for_request h n ≡ Ok s =
      request_served h n number _ (Some s) few numbered listed
      (laws.front_given h k.queue k.lists number _ k.sound agree listed s rest first.0) in
      let freed =
      list_slot k number s (within_lists k number within) (subst (λ list. Contains list s) (sym first.0) (Contains-head s rest)) in
      record {
        request = request;
        given = laws.request h n s k.sound request;
        before = link_cleared s freed.in_range t.taken.link;
        memory_is = is;
        lists = slice_set k.lists number rest;
        listed = subst (λ x. AreListed (next_in (region_of h.layout p.memory)) x (slice_set k.lists number rest)) (sym t.taken.front)
            (other_list k.listed number (next_in (region_of h.layout p.memory) s) rest (within_lists k number within) first.1);
        agree = laws.front_taken h k.queue k.lists number _ s n rest k.sound agree listed first.0;
        fresh = subst (AreFirstFresh (given_out h s n)) (sym t.counters_are)
            (counters_changed h s (Live n (next_tag h s)) _ _ _ _ (within_states k s freed.in_range)
            (grind arith) held.fresh);
      }
  taken s (inr t) is =
      let k = held.kept in
      let below : slice_index counters number < first_slot h.layout (number + 1) = omega (arith, t.counter, t.below) in
      let own =
      subst (λ x. IsSlot h x × ((slot_in h x).class ≡ slice_index h.layout.classes number) × (is_fresh (state_at h x) ≡ true))
      (sym t.counter)
      (counted h k.sound counters held.fresh number within below) in
      let none =
      IsLinked-none (next_in (region_of h.layout p.memory)) (slice_index p.fronts number) (list_of k.lists number) linked t.empty in
      let lowest : lowest_fresh h (slice_index h.layout.classes number) ≡ Some s =
      lowest_counted h k.sound counters held.fresh number within below ∙ ap Some (sym t.counter) in
      let request : slot_for_request h n ≡ Ok s =
      request_served h n number _ (Some s) few numbered listed
      (laws.fresh_given h k.queue k.lists number _ k.sound agree listed none ∙ lowest) in
      record {
        request = request;
        given = laws.request h n s k.sound request;
        before = grind (arith, fresh_not_dead);
        memory_is = is;
        lists = k.lists;
        listed = subst (λ x. AreListed (next_in (region_of h.layout p.memory)) x k.lists) (sym t.fronts_are) k.listed;
        agree = laws.fresh_taken h k.queue k.lists s n k.sound agree own.0 own.2;
        fresh = subst (AreFirstFresh (given_out h s n)) (sym t.counters_are)
            (counters_step h k.sound counters held.fresh number within s (Live n (next_tag h s)) _ _ _ _ (within_states k s own.0) t.counter
            t.below refl);
      }

  -- neither is there
  pub exhausted : {m1 : List Granule} {fronts' counters' : List ℕ} →
      Takes h.layout p.memory m1 p.fronts fronts' counters counters' number None →
      slot_for_request h n ≡ Err Exhausted
  exhausted t =
      let k = held.kept in
      let none =
      IsLinked-none (next_in (region_of h.layout p.memory)) (slice_index p.fronts number) (list_of k.lists number) linked t.empty in
      request_served h n number _ None few numbered listed
      (laws.fresh_given h k.queue k.lists number _ k.sound agree listed none
      ∙ lowest_none h k.sound counters held.fresh number within (omega (arith, t.counter)))

-- the first slot of a class's list is of that class
front_class : {h : Heap} {p : Parts} (k : IsKept h p) (number s : ℕ) → number < length h.layout.classes →
    slice_index p.fronts number ≡ s + 1 → IsClassOf h.layout s number
front_class {h} {p} k number s within is =
    let plus : s + 1 ≡ suc s = omega arith in
    let list = list_of k.lists number in
    let first =
    IsLinked-first (next_in (region_of h.layout p.memory)) (slice_index p.fronts number) s list
    (k.listed.linked number (within_lists k number within)) (is ∙ plus) in
    let listed =
    list_slot k number s (within_lists k number within) (subst (λ slots. Contains slots s) (sym first.0) (Contains-head s (drop 1 list))) in
    share_of_slot h.layout number s k.sound.partition.table within listed.in_range listed.of_class

pub has_class : {h : Heap} {frees : ℕ} {p : Parts} {counters : List ℕ} → IsAtRest h frees p counters → (number : ℕ) →
    number < length h.layout.classes → HasClass h.layout p.memory p.fronts counters number
has_class {h} {frees} {p} {counters} held number within =
    let k = held.kept in
    let in_counters : number < length counters = subst (λ k. number < k) (sym held.fresh.long) within in
    record {
      class = within;
      in_fronts = subst (λ n. number < n) (sym k.listed.long) (within_lists k number within);
      front = λ s. front_class k number s within;
      in_counters = in_counters;
      counter_from = held.fresh.from number in_counters;
      counter = held.fresh.to number in_counters;
      region = region_is k;
      memory_is = k.memory_is;
    }

-- ---- and is given out

module _ {h : Heap} {frees : ℕ} {p : Parts} {counters : List ℕ} (held : IsAtRest h frees p counters) {m1 : List Granule}
    {fronts counters' : List ℕ} {s n : ℕ}
    (t : IsTaken h p held.kept m1 fronts counters' s n) where
  pub taken_room : n ≤ largest_counted → HasRoom h.layout m1 s n
  taken_room few = grind (arith, class_few, length-without_headers)

  drawn_is : tag_for h.layout (record { memory = m1; seed = h.seed; tag = h.tag }) s ≡ next_tag h s
  drawn_is = ap (λ (x : Header). drawn_tag h.tag h.seed (bit_or (parity_exclude s) (2 ^ x.tag))) t.before.own

  -- what giving out makes of the machine
  abbrev pub IsGivenBy : Machine → Type 0
  IsGivenBy machine =
      let drawn = tag_for h.layout (record { memory = m1; seed = h.seed; tag = h.tag }) s in
      machine ≡ record {
        memory = chunk_tagged (slot_in h s) n drawn
            (with_header m1 (slot_in h s).start (given_header (header_in (region_of h.layout m1) s) n drawn));
        seed = next_seed h.seed;
        tag = drawn;
      }

  module _ (machine : Machine) (given : IsGivenBy machine) (memory : IsMemory machine.memory) where
    pub given_held : IsAtRest (given_out h s n) frees (record p { memory = machine.memory; fronts = fronts }) counters'
    unfolding given_out
    given_held =
        let k = held.kept in
        let in_range = t.given.reusable.in_range in
        let sound = laws.given_out_sound h s n k.sound in_range t.given.room in
        record {
          kept =
              kept_alive k s n (next_tag h s) (next_seed h.seed) (next_tag h s) in_range held.fits sound t.listed t.agree
              (alive_memory k s n (next_tag h s) (next_seed h.seed) (next_tag h s) in_range held.fits sound t.before t.memory_is
              (λ i. given_header (t.before.own i) n (drawn_is i)) drawn_is (ap (λ (x : Machine). x.memory) given)) memory;
          rests = held.rests;
          fresh = t.fresh;
          total = held.total;
          fits = held.fits;
        }

    pub given_shown : shown_heap h.layout p.quarantine.limit machine.memory h.total machine.seed machine.tag ≡ given_out h s n
    unfolding given_out
    given_shown =
        shown_is given_held.kept h.total machine.seed machine.tag refl (ap (λ (x : Machine). x.seed) given)
        (ap (λ (x : Machine). x.tag) given ∙ drawn_is)

  -- the address of the payload, under the tag that was drawn
  pub given_address : (address : ℕ) →
      address ≡ with_tag (payload_place (slot_in h s)) (tag_for h.layout (record { memory = m1; seed = h.seed; tag = h.tag }) s) →
      address ≡ pointer_to (given_out h s n) s
  unfolding given_out
  given_address address is =
      let here : state_at (given_out h s n) s ≡ Live n (next_tag h s) =
      state_here h s (Live n (next_tag h s)) h.memory 0 0 0 (within_states held.kept s t.given.reusable.in_range) in
      is ∙ ap (with_tag (payload_place (slot_in h s))) (drawn_is ∙ sym (ap last_tag here))
