-- What is known of a heap that is kept in its parts.
use Rattle.std.proofs.Common.{◌≡◌, ℕ, ◌+◌, ◌^◌, ◌<◌, ◌≤◌, List, length, refl, sym, ap, ◌∙◌, subst, inl, inr, arith, Contains, map}
use Rattle.std.proofs.{Common.{slice_index}, lemmas.Bool.{cases_lt, lt-ltb, cond-true}}
use Rattle.std.proofs.lemmas.List.{ext_get_or, get_or-map, length-map}
use Rattle.heap_theory.proofs.{Marks.{IsQueued, IsListed, chain_bytes, chain_dead, list_dead}, Regions.{length-headers_of}}
use Rattle.heap_theory.{proofs.SeenMemory.{length-without_headers}, specs.Header.Standing.{Freed, Quarantined}, specs.Links.{list_of}}
use Rattle.heap_theory.specs.{Header.{Header, FitsWords, header_for, shown_state, standing_in, class_number}, HeapInMemory.{IsKeptIn}}
use Rattle.heap_theory.specs.{QueueAndLists.{HasMark, AgreeWithMarks, AgreeWithMarksFrom, bytes_of}, Sound.{IsSoundHeap}}
use Rattle.heap_theory.specs.{Region.{region_of, headers_of, next_in}, State.{State, Heap, slot_in, state_at, IsSlot}}
use Rattle.heap_theory.specs.State.State.{Fresh, Live, Dead}
use Rattle.class_table.specs.Sizes.{chunk_granules, largest_counted}
use Rattle.tagged_heap.specs.{Chunks.{HasRoom}, HeapAtRest.{shown_heap, shown_states}}
use Rattle.tagged_heap.specs.Representation.{standing_from, header_from, Parts, IsKept}
use Rattle.tagged_heap.proofs.TheoryLemmas as laws

-- ---- sizes

-- a class has one of at most 32 numbers,
pub class_few : (h : Heap) (s : ℕ) → IsSoundHeap h → IsSlot h s → class_number h.layout s < 32
class_few h s sound in_range = laws.class_number_few 1 h.layout s sound.partition.table in_range

-- and at most 1024 granules
pub class_most : (h : Heap) (s : ℕ) → IsSoundHeap h → IsSlot h s → (slot_in h s).class ≤ 1024
class_most h s sound in_range = laws.classes_small 1 h.layout s sound.partition.table in_range

pub size_most : (n class : ℕ) → chunk_granules n < class → class ≤ 1024 → n ≤ largest_counted
size_most n class room most = omega arith

-- ---- headers

-- a header has room in its words, from whatever mark on slots are in the quarantine
pub header_fits : (h : Heap) (from s next : ℕ) → IsSoundHeap h → IsSlot h s → next < 2 ^ 32 → h.total < 2 ^ 64 →
    FitsWords (header_from h.layout from s (state_at h s) next)
unfolding header_for
header_fits h from s next sound in_range link total =
    let fits = laws.header_fits h s next sound in_range link total in
    record { size = fits.size; tag = fits.tag; class = fits.class; next = fits.next; mark = fits.mark }

-- ---- the parts

module _ {h : Heap} {p : Parts} (k : IsKept h p) where
  pub region_is : length p.memory ≡ h.layout.granules
  region_is = sym (length-without_headers h.layout p.memory) ∙ ap length k.seen ∙ k.sound.long

  pub within_states : (s : ℕ) → IsSlot h s → s < length h.states
  within_states s in_range = subst (λ n. s < n) (sym k.sound.states) in_range

  pub within_lists : (number : ℕ) → number < length h.layout.classes → number < length k.lists
  within_lists number within = subst (λ n. number < n) (sym k.agree.long) within

  pub bytes_from : k.from + bytes_of h.layout k.queue ≡ h.total
  bytes_from = chain_bytes h k.from k.queue k.agree.chain

  -- with the same queue and total, they agree from the same mark on
  pub agree_same : {h' : Heap} {lists : List (List ℕ)} → bytes_of h'.layout k.queue ≡ bytes_of h.layout k.queue → h'.total ≡ h.total →
      AgreeWithMarks h' k.queue lists → AgreeWithMarksFrom h' k.from k.queue lists
  agree_same {h'} {lists} bytes total b = grind (arith, chain_bytes)

  pub queue_slot : (s : ℕ) → Contains k.queue s → IsQueued h k.from s
  queue_slot s there = chain_dead h k.from k.queue s k.agree.chain there

  pub list_slot : (number s : ℕ) → number < length k.lists → Contains (list_of k.lists number) s →
      IsListed h (slice_index h.layout.classes number) k.from s
  list_slot number s within there = list_dead h _ k.from (list_of k.lists number) s (k.agree.freed number within) there

  pub has_room : (s n : ℕ) → IsSlot h s → n ≤ largest_counted → chunk_granules n < (slot_in h s).class → HasRoom h.layout p.memory s n
  has_room s n in_range few room = grind (arith, class_few, region_is)

  -- ---- the parts show the heap

  pub shown_is : (total seed tag : ℕ) → total ≡ h.total → seed ≡ h.seed → tag ≡ h.tag →
      shown_heap h.layout p.quarantine.limit p.memory total seed tag ≡ h
  unfolding shown_states
  shown_is total seed tag total_is seed_is tag_is = grind (arith, states)
    where
      headers : List Header
      headers = headers_of h.layout p.memory

      states : h.states ≡ shown_states h.layout p.memory
      states =
          ext_get_or Fresh h.states (map shown_state headers)
          (k.sound.states ∙ sym (length-map headers shown_state ∙ length-headers_of h.layout p.memory))
          (grind (arith, length-headers_of, get_or-map))

  -- ---- at rest

  module _ (rests : p.quarantine.held ≤ p.quarantine.limit) where
    pub queue_few : bytes_of h.layout k.queue ≤ h.quarantine
    queue_few = omega (arith, rests, k.queued.held, k.limit)

    abbrev pub agree_at_rest : AgreeWithMarks h k.queue k.lists
    agree_at_rest = record { from = k.from; agree = k.agree; held = queue_few }

    -- the slots from the mark on are those that the heap's limit holds back
    standing_at_rest : (s : ℕ) (x : State) → IsSlot h s → state_at h s ≡ x → standing_from k.from x ≡ standing_in h x
    standing_at_rest s Fresh in_range is = refl
    standing_at_rest s (Live n t) in_range is = refl
    standing_at_rest s (Dead n t mark) in_range is = elim (cases_lt mark k.from) [
      | inl before ↦
          let over = k.agree.released s mark in_range (subst (λ x. HasMark x mark) (sym is) refl) before in
          cond-true _ Freed Quarantined (lt-ltb _ _ before) ∙ sym (cond-true _ Freed Quarantined (lt-ltb _ _ over))
      | inr after ↦
          grind (arith, bytes_from)
    ]

    -- what is kept of a heap, said out
    pub kept_said : IsKeptIn h (region_of h.layout p.memory)
    unfolding header_for
    kept_said = record {
      seen = k.seen;
      headers = grind (arith, standing_at_rest);
      unlinked = k.headers.unlinked;
      front = p.quarantine.front;
      queue = k.queue;
      queue_linked = k.queued.linked;
      queue_holds = laws.queue_holds h k.queue k.lists k.sound agree_at_rest;
      queue_once = laws.each_once (next_in (region_of h.layout p.memory)) p.quarantine.front k.queue k.queued.linked;
      fronts = p.fronts;
      lists = k.lists;
      fronts_long = k.listed.long ∙ k.agree.long;
      list_linked = λ number within. k.listed.linked number (in_lists number within);
      list_holds = λ number class found. laws.lists_hold h k.queue k.lists number class k.sound agree_at_rest found;
      list_once = grind (arith, laws.each_once, in_lists);
      one_list =
          λ a b s in_a in_b there also. laws.one_list_has h k.queue k.lists a b s k.sound agree_at_rest (in_lists a in_a) (in_lists b in_b)
          there also;
      apart =
          λ number s within queued listed. laws.queue_apart h k.queue k.lists number s agree_at_rest (in_lists number within) queued
          listed;
    }
      where
        in_lists : (number : ℕ) → number < length p.fronts → number < length k.lists
        in_lists number within = subst (λ n. number < n) k.listed.long within
