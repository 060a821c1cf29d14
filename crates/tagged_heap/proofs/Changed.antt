-- A heap stays kept as the state of one slot changes, with its header and its lists.
use Rattle.std.proofs.Common.{◌≡◌, ◌≢◌, ℕ, ◌+◌, ◌-◌, ◌^◌, ◌<◌, false, List, length, refl, sym, ap, ◌∙◌, subst, inl, inr, arith, Contains}
use Rattle.std.proofs.{Common.{slice_set, slice_index}, lemmas.Bool.{cases_eq}, lemmas.List.{get_or-set_same, get_or-set_other, length-set}}
use Rattle.machine_theory.specs.Memory.{Granule, IsMemory}
use Rattle.heap_theory.proofs.{ChangedSlot.{changed, state_here, state_there}, Marks.{chain_dead, list_dead, not_marked}}
use Rattle.heap_theory.proofs.{Releasing.{list_of-here, list_of-there}, SeenMemory.{length-without_headers}}
use Rattle.heap_theory.specs.{Calls.{chunk_tagged}, Header.{Standing, Header, FitsWords, with_header}, Links.{IsLinked, list_of}}
use Rattle.heap_theory.specs.{QueueAndLists.{HasMark, AgreeWithMarks}, Region.{Region, region_of, header_in, next_in}, Sound.{IsSoundHeap}}
use Rattle.heap_theory.specs.State.{State, Heap, slot_in, state_at, is_fresh, payload_start, without_headers, IsSlot, is_dead}
use Rattle.heap_theory.specs.State.State.{Live}
use Rattle.class_table.specs.Sizes.{chunk_granules}
use Rattle.tagged_heap.proofs.{Kept.{header_fits, within_states, agree_same}, RewrittenHeaders.{then_tagged, then_written, written_header}}
use Rattle.tagged_heap.specs.Representation.{header_from, IsRewritten, HasHeaders, AreListed, AreFirstFresh, Parts, IsKept}
use Rattle.tagged_heap.proofs.TheoryLemmas as laws

-- ---- lists

pub listed_same : {next new : ℕ → ℕ} {fronts : List ℕ} {lists : List (List ℕ)} → AreListed next fronts lists →
    ((number s : ℕ) → number < length lists → Contains (list_of lists number) s → new s ≡ next s) → AreListed new fronts lists
listed_same {next} {new} {fronts} {lists} l same = record {
  long = l.long;
  linked =
      λ number within. laws.links_stay next new (slice_index fronts number) (list_of lists number) (λ s. same number s within)
      (l.linked number within);
}

-- one list is another
pub other_list : {next : ℕ → ℕ} {fronts : List ℕ} {lists : List (List ℕ)} → AreListed next fronts lists →
    (number front : ℕ) (list : List ℕ) → number < length lists →
    IsLinked next front list → AreListed next (slice_set fronts number front) (slice_set lists number list)
other_list {next} {fronts} {lists} l number front list within linked = grind (arith, length-set, cases_eq, get_or-set_same, list_of-here, get_or-set_other, list_of-there)

-- ---- the state of one slot

abbrev pub with_link : Header → ℕ → Header
with_link header next = record header { next = next }

abbrev pub with_standing : Header → Standing → Header
with_standing header standing = record header { standing = standing }

module _ (h : Heap) (s : ℕ) (state : State) (memory : List Granule) (total seed tag : ℕ) (within : s < length h.states) where
  -- the slot's header is that of its new state, and in other headers at most the links change
  pub headers_changed : {m new : Region} {from : ℕ} → HasHeaders h m from →
      header_in new s ≡ header_from h.layout from s state (next_in new s) →
      ((r : ℕ) → IsSlot h r → r ≢ s → header_in new r ≡ with_link (header_in m r) (next_in new r)) →
      (is_dead state ≡ false → next_in new s ≡ 0) →
      ((r : ℕ) → IsSlot h r → r ≢ s → is_dead (state_at h r) ≡ false → next_in new r ≡ next_in m r) →
      HasHeaders (changed h s state memory total seed tag) new from
  headers_changed {m} {new} {from} before own others link links = record {
    headers = λ r in_range. elim (cases_eq r s) [
      | inl is ↦
          subst (λ q. header_in new q ≡ header_from h.layout from q (state_at (changed h s state memory total seed tag) q)
          (next_in new q)) (sym is)
          (own ∙ ap (λ x. header_from h.layout from s x (next_in new s)) (sym (state_here h s state memory total seed tag within)))
      | inr other ↦
          others r in_range other ∙ ap (λ x. with_link x (next_in new r)) (before.headers r in_range)
          ∙ ap (λ x. header_from h.layout from r x (next_in new r)) (sym (state_there h s state memory total seed tag within r other))
    ];
    unlinked = λ r in_range alive. elim (cases_eq r s) [
      | inl is ↦
          ap (next_in new) is
          ∙ link (sym (ap is_dead (state_here h s state memory total seed tag within))
          ∙ ap (λ q. is_dead (state_at (changed h s state memory total seed tag) q)) (sym is) ∙ alive)
      | inr other ↦
          let alive' : is_dead (state_at h r) ≡ false =
          ap is_dead (sym (state_there h s state memory total seed tag within r other)) ∙ alive in
          links r in_range other alive' ∙ before.unlinked r in_range alive'
    ];
  }

  -- no slot becomes fresh, or stops to be
  pub counters_changed : {counters : List ℕ} → is_fresh state ≡ is_fresh (state_at h s) → AreFirstFresh h counters →
      AreFirstFresh (changed h s state memory total seed tag) counters
  counters_changed same f = grind (arith, fresh_same)
    where
      fresh_same : (r : ℕ) → is_fresh (state_at (changed h s state memory total seed tag) r) ≡ is_fresh (state_at h r)
      fresh_same r = elim (cases_eq r s) [
        | inl is ↦
            ap (λ q. is_fresh (state_at (changed h s state memory total seed tag) q)) is
            ∙ ap is_fresh (state_here h s state memory total seed tag within) ∙ same
            ∙ ap (λ q. is_fresh (state_at h q)) (sym is)
        | inr other ↦ ap is_fresh (state_there h s state memory total seed tag within r other)
      ]

-- ---- a slot is live with n bytes under a tag: it is given out, or resized

abbrev pub alive : Heap → ℕ → ℕ → ℕ → ℕ → ℕ → Heap
alive h s n tag seed drawn = changed h s (Live n tag) (chunk_tagged (slot_in h s) n tag h.memory) h.total seed drawn

module _ {h : Heap} {p : Parts} (k : IsKept h p) (s n tag seed drawn : ℕ) (in_range : IsSlot h s) (fits : h.total < 2 ^ 64)
    (sound : IsSoundHeap (alive h s n tag seed drawn)) where
  -- its header is written in a memory that had another of its headers, and then its tags
  pub alive_memory : {m1 new : List Granule} {old header : Header} {tag' : ℕ} → IsRewritten h.layout p.memory m1 s old h.memory →
      IsMemory m1 → header ≡ header_from h.layout k.from s (Live n tag) 0 → tag' ≡ tag →
      new ≡ chunk_tagged (slot_in h s) n tag' (with_header m1 (slot_in h s).start header) →
      IsRewritten h.layout p.memory new s (header_from h.layout k.from s (Live n tag) 0) (alive h s n tag seed drawn).memory
  alive_memory {m1} {new} {old} {header} {tag'} before is header_is tag_is new_is =
      let own = header_from h.layout k.from s (Live n tag) 0 in
      let here = state_here h s (Live n tag) (alive h s n tag seed drawn).memory h.total seed drawn (within_states k s in_range) in
      let long : length m1 ≡ h.layout.granules = sym (length-without_headers h.layout m1) ∙ ap length before.seen_is ∙ k.sound.long in
      let written : IsRewritten h.layout m1 (with_header m1 (slot_in h s).start own) s own (without_headers h.layout m1) =
      written_header h.layout m1 s own is k.sound.partition long in_range
      (subst (λ x. FitsWords (header_from h.layout k.from s x 0)) here
      (header_fits (alive h s n tag seed drawn) k.from s 0 sound in_range (omega arith) fits)) in
      let seen = subst (IsRewritten h.layout m1 (with_header m1 (slot_in h s).start own) s own) before.seen_is written in
      let all =
      then_tagged (payload_start (slot_in h s) + chunk_granules n) ((slot_in h s).class - 1 - chunk_granules n) 0
      (then_tagged (payload_start (slot_in h s)) (chunk_granules n) tag (then_written before seen)) in grind arith

  pub kept_alive : {new : List Granule} {fronts : List ℕ} {lists : List (List ℕ)} →
      AreListed (next_in (region_of h.layout p.memory)) fronts lists →
      AgreeWithMarks (alive h s n tag seed drawn) k.queue lists →
      IsRewritten h.layout p.memory new s (header_from h.layout k.from s (Live n tag) 0) (alive h s n tag seed drawn).memory →
      IsMemory new → IsKept (alive h s n tag seed drawn) (record p { memory = new; fronts = fronts })
  kept_alive {new} {fronts} {lists} listed b written is = record {
    from = k.from;
    queue = k.queue;
    lists = lists;
    sound = sound;
    memory_is = is;
    seen = written.seen_is;
    headers = grind (arith, headers_changed, within_states, own_next, other_next);
    queued = record {
      slots = k.queued.slots;
      linked = laws.links_stay _ _ _ k.queue
          (λ r there. let d = chain_dead now b.from k.queue r b.agree.chain there in dead_next r d.mark d.in_range d.marked)
          k.queued.linked;
      back = k.queued.back;
      back_start = k.queued.back_start;
      held = k.queued.held;
    };
    listed = listed_same listed
        (λ number r inside there.
        let d = list_dead now _ b.from (list_of lists number) r (b.agree.freed number inside) there in
        dead_next r d.mark d.in_range d.marked);
    agree = agree_same k refl refl b;
    limit = k.limit;
  }
    where
      now : Heap
      now = alive h s n tag seed drawn

      own_next : next_in (region_of h.layout new) s ≡ 0
      own_next = ap (λ (x : Header). x.next) written.own

      other_next : (r : ℕ) → IsSlot h r → r ≢ s → next_in (region_of h.layout new) r ≡ next_in (region_of h.layout p.memory) r
      other_next r inside other = ap (λ (x : Header). x.next) (written.others r inside other)

      dead_next : (r mark : ℕ) → IsSlot h r → HasMark (state_at now r) mark →
          next_in (region_of h.layout new) r ≡ next_in (region_of h.layout p.memory) r
      dead_next r mark inside marked =
          let here = state_here h s (Live n tag) now.memory h.total seed drawn (within_states k s in_range) in
          let live = λ (is : r ≡ s). subst (λ x. HasMark x mark) here (subst (λ q. HasMark (state_at now q) mark) is marked) in
          other_next r inside (λ is. not_marked (Live n tag) mark refl (live is))
