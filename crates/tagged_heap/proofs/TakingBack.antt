-- The chunk of a live slot is taken back, and the slot goes into the quarantine.
use Rattle.std.proofs.Common.{◌≡◌, ◌≢◌, ℕ, zero, suc, ◌+◌, ◌^◌, ◌<◌, ◌≤◌, List, [], ◌∷◌, ◌++◌, length, refl, sym, ap, ◌∙◌, subst}
use Rattle.std.proofs.{Common.{arith, Contains}, lemmas.Bool.{cases_eq}}
use Rattle.machine_theory.specs.{Machine.{Machine}, Memory.{Granule, IsMemory, tagged}, Seed.{next_seed}}
use Rattle.class_table.specs.{Layout.{block_bytes}, Sizes.{chunk_granules}}
use Rattle.heap_theory.proofs.{ChangedSlot.{state_here}, Marks.{not_marked}, SeenMemory.{length-without_headers}}
use Rattle.heap_theory.specs.{Calls.{freed, next_tag}, Header.{Header, FitsWords, with_header}}
use Rattle.heap_theory.specs.{QueueAndLists.{HasMark}, Region.{region_of, header_in, next_in}}
use Rattle.heap_theory.specs.{Sound.{IsSoundHeap}, State.State.{Live, Dead}}
use Rattle.heap_theory.specs.State.{State, Heap, slot_in, state_at, is_fresh, last_tag, chunk_granules_of, payload_start, without_headers}
use Rattle.heap_theory.specs.State.{IsSlot, is_dead}
use Rattle.chunk_header.specs.Links.{SetsLink}
use Rattle.quarantine_core.specs.Queue.{Queue, AreQueued, CanBePut, with_newest}
use Rattle.tagged_heap.{proofs.Changed.{with_link, listed_same, headers_changed, counters_changed}, specs.HeapAtRest.{shown_heap, IsAtRest}}
use Rattle.tagged_heap.proofs.Kept.{class_most, size_most, header_fits, region_is, within_states, bytes_from, queue_slot, list_slot}
use Rattle.tagged_heap.proofs.{Kept.{has_room, agree_at_rest, shown_is}, RewrittenHeaders.{link_set, then_tagged, written_header}}
use Rattle.tagged_heap.specs.Chunks.{HasRoom, retired_header, tag_for}
use Rattle.tagged_heap.specs.Representation.{header_from, IsRewritten, Parts, IsKept}
use Rattle.tagged_heap.proofs.TheoryLemmas as laws

module _ {h : Heap} {frees : ℕ} {p : Parts} {counters : List ℕ} (held : IsAtRest h frees p counters) (s n tag : ℕ) (in_range : IsSlot h s)
    (live : state_at h s ≡ Live n tag) where
  -- ---- the slot

  pub retire_room : HasRoom h.layout p.memory s (header_in (region_of h.layout p.memory) s).size
  retire_room =
      let room = subst (λ x. chunk_granules_of x < (slot_in h s).class) live (held.kept.sound.tagged s in_range).room in
      subst (HasRoom h.layout p.memory s) (grind arith)
      (has_room held.kept s n in_range (size_most n _ room (class_most h s held.kept.sound in_range)) room)

  -- another slot's header stays
  dead_differs : (r mark : ℕ) → HasMark (state_at h r) mark → r ≢ s
  dead_differs r mark marked is = not_marked (state_at h s) mark (ap is_dead live) (subst (λ q. HasMark (state_at h q) mark) is marked)

  abbrev dead : State
  dead = Dead n (last_tag (state_at h s)) h.total

  -- the header that is written: the slot's mark is the last one
  retired_is : retired_header (header_in (region_of h.layout p.memory) s) h.total ≡ header_from h.layout held.kept.from s dead 0
  retired_is =
      let sum = bytes_from held.kept in
      grind arith

  sound_after : IsSoundHeap (freed h s n)
  sound_after = laws.freed_sound h s n tag held.kept.sound in_range live

  -- what taking back makes of the machine
  abbrev pub IsRetiredBy : Machine → Type 0
  IsRetiredBy machine =
      let drawn = tag_for h.layout (record { memory = p.memory; seed = h.seed; tag = h.tag }) s in
      machine ≡ record {
        memory = tagged (payload_start (slot_in h s)) (chunk_granules (header_in (region_of h.layout p.memory) s).size) drawn
            (with_header p.memory (slot_in h s).start (retired_header (header_in (region_of h.layout p.memory) s) h.total));
        seed = next_seed h.seed;
        tag = drawn;
      }

  module _ (few : frees < 2 ^ 48) where
    total_after : h.total + block_bytes (slot_in h s) < 2 ^ 64
    total_after = omega (arith, held.total, few, class_most h s held.kept.sound in_range)

    module _ (machine : Machine) (retired : IsRetiredBy machine) (is1 : IsMemory machine.memory) where
      rewritten : IsRewritten h.layout p.memory machine.memory s (header_from h.layout held.kept.from s dead 0) (freed h s n).memory
      unfolding freed
      rewritten =
          let k = held.kept in
          let own = header_from h.layout k.from s dead 0 in
          let here = state_here h s dead h.memory 0 0 0 (within_states k s in_range) in
          let fits =
          subst (λ x. FitsWords (header_from h.layout k.from s x 0)) here
          (header_fits (freed h s n) k.from s 0 sound_after in_range (omega arith) total_after) in
          let written = written_header h.layout p.memory s own k.memory_is k.sound.partition (region_is k) in_range fits in
          let seen = subst (IsRewritten h.layout p.memory (with_header p.memory (slot_in h s).start own) s own) k.seen written in
          subst (λ x. IsRewritten h.layout p.memory x s own
          (tagged (payload_start (slot_in h s)) (chunk_granules n) (next_tag h s) h.memory))
          (grind (arith, retired_is))
          (then_tagged (payload_start (slot_in h s)) (chunk_granules n) (next_tag h s) seen)

      next_retired : (r mark : ℕ) → IsSlot h r → HasMark (state_at h r) mark →
          next_in (region_of h.layout machine.memory) r ≡ next_in (region_of h.layout p.memory) r
      next_retired r mark inside marked = ap (λ (x : Header). x.next) (rewritten.others r inside (dead_differs r mark marked))

      -- ---- it can be put into the quarantine

      queued_before : AreQueued p.quarantine h.layout (region_of h.layout machine.memory) held.kept.queue
      queued_before = record {
        slots = held.kept.queued.slots;
        linked = laws.links_stay _ _ _ held.kept.queue
            (λ r there. let d = queue_slot held.kept r there in next_retired r d.mark d.in_range d.marked) held.kept.queued.linked;
        back = held.kept.queued.back;
        back_start = held.kept.queued.back_start;
        held = held.kept.queued.held;
      }

      pub can_be_put : (bytes : ℕ) → bytes ≡ block_bytes (slot_in h s) → CanBePut p.quarantine h.layout machine.memory s bytes
      unfolding freed
      can_be_put bytes is = record {
        region = sym (length-without_headers h.layout machine.memory) ∙ ap length rewritten.seen_is ∙ sound_after.long;
        linked = (held.kept.queue, queued_before);
        slot = in_range;
        outside = λ queue queued there.
            let same =
            laws.one_list (next_in (region_of h.layout machine.memory)) p.quarantine.front queue held.kept.queue queued.linked
            queued_before.linked in
            let d = queue_slot held.kept s (subst (λ list. Contains list s) same there) in
            dead_differs s d.mark d.marked refl;
        next = ap (λ (x : Header). x.next) rewritten.own;
        bytes = is;
      }

      -- ---- and is put there

      -- what the put leaves of headers: all but the link of the slot that was last
      record IsPut (new : List Granule) : Type 0 where
        pub headers : (r : ℕ) → IsSlot h r →
            header_in (region_of h.layout new) r
            ≡ with_link (header_in (region_of h.layout machine.memory) r) (next_in (region_of h.layout new) r)
        pub links : (r : ℕ) → IsSlot h r → (Contains held.kept.queue r → ⊥) →
            next_in (region_of h.layout new) r ≡ next_in (region_of h.layout machine.memory) r
        pub seen_is : without_headers h.layout new ≡ without_headers h.layout machine.memory
        pub memory_is : IsMemory new

      put : {new : List Granule} → (p.quarantine.back ≡ 0 → new ≡ machine.memory) →
          ((last : ℕ) → p.quarantine.back ≡ suc last → SetsLink h.layout machine.memory new last (suc s)) → IsPut new
      put {new} first after = by p.quarantine.back refl
        where
          by : (back : ℕ) → p.quarantine.back ≡ back → IsPut new
          by zero is = grind arith
          by (suc last) is =
              let k = held.kept in
              let ends =
              laws.last_ends (next_in (region_of h.layout p.memory)) p.quarantine.front last k.queue k.queued.linked
              (sym k.queued.back ∙ is) in
              let set = link_set (after last is) (queue_slot k last ends.0).in_range in
              record {
                headers = grind (arith, cases_eq, with_link);
                links = grind arith;
                seen_is = set.seen_is;
                memory_is = (after last is).memory;
              }

      pub kept_freed : {m2 : List Granule} {q2 : Queue} (start bytes : ℕ) →
          ((queue : List ℕ) → AreQueued p.quarantine h.layout (region_of h.layout machine.memory) queue →
          AreQueued q2 h.layout (region_of h.layout m2) (queue ++ s ∷ [])) →
          q2 ≡ with_newest p.quarantine s start bytes → (p.quarantine.back ≡ 0 → m2 ≡ machine.memory) →
          ((last : ℕ) → p.quarantine.back ≡ suc last → SetsLink h.layout machine.memory m2 last (suc s)) →
          IsKept (freed h s n) (record p { memory = m2; quarantine = q2 })
      unfolding freed
      kept_freed {m2} {q2} start bytes queued value first after =
          let k = held.kept in
          let left = put first after in
          record {
            from = k.from;
            queue = k.queue ++ s ∷ [];
            lists = k.lists;
            sound = sound_after;
            memory_is = left.memory_is;
            seen = left.seen_is ∙ rewritten.seen_is;
            headers =
                headers_changed h s dead _ _ _ _ (within_states k s in_range) k.headers
                (left.headers s in_range ∙ ap (λ x. with_link x (next_in (region_of h.layout m2) s)) rewritten.own)
                (grind (arith, rewritten))
                (λ never. cc)
                (λ r inside other alive.
                left.links r inside (λ there. let d = queue_slot k r there in not_marked (state_at h r) d.mark alive d.marked)
                ∙ ap (λ (x : Header). x.next) (rewritten.others r inside other));
            queued = queued k.queue queued_before;
            listed = listed_same k.listed
                (λ number r inside there.
                let d = list_slot k number r inside there in
                let apart = laws.queue_apart h k.queue k.lists number r (agree_at_rest k held.rests) inside in
                left.links r d.in_range (λ queued. apart queued there) ∙ next_retired r d.mark d.in_range d.marked);
            agree = laws.queues h k.queue k.lists s n tag k.sound (agree_at_rest k held.rests) in_range live;
            limit = ap (λ (x : Queue). x.limit) value ∙ k.limit;
          }

    -- ---- the quarantine has let go what it had too much

    pub freed_held : {after : Parts} → IsKept (freed h s n) after → after.quarantine.held ≤ after.quarantine.limit →
        IsAtRest (freed h s n) (frees + 1) after counters
    unfolding freed
    freed_held kept rests = record {
      kept = kept;
      rests = rests;
      fresh = counters_changed h s dead _ _ _ _ (within_states held.kept s in_range) (sym (ap is_fresh live)) held.fresh;
      total = omega (arith, held.total, class_most h s held.kept.sound in_range);
      fits = total_after;
    }

  pub freed_shown : {after : Parts} → IsKept (freed h s n) after → (machine : Machine) → IsRetiredBy machine → (total : ℕ) →
      total ≡ h.total + block_bytes (slot_in h s) →
      shown_heap h.layout after.quarantine.limit after.memory total machine.seed machine.tag ≡ freed h s n
  unfolding freed
  freed_shown kept machine retired total is =
      shown_is kept total machine.seed machine.tag is (ap (λ (x : Machine). x.seed) retired)
      (grind arith)
