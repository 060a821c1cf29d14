-- Bytes that are written outside all headers keep a heap, and are seen as they are written.
use Rattle.std.proofs.Common.{◌≡◌, ◌≢◌, ◌⊎◌, ℕ, ◌+◌, ◌-◌, ◌*◌, ◌/◌, ◌<◌, ◌≤◌, true, false, List, length, max, refl, sym, ap, ◌∙◌, subst}
use Rattle.std.proofs.{Common.{inl, inr, arith, Some, None, Option, All}, lemmas.Bool.{cases_lt, cond-false, false≢true}}
use Rattle.machine_theory.{proofs.AccessLaws.{IsMapped-from}, proofs.ByteLaws.{bytes_at_agree}, specs.Memory.{Granule, bytes_at, written}}
use Rattle.machine_theory.specs.{Access.{access_fault, is_mapped, loaded}, Address.{logical_tag, place_of, region_start, byte_of}}
use Rattle.machine_theory.specs.declared.fault.Fault.{Fault}
use Rattle.class_table.specs.Layout.{Partition, AreInOrder, end_of, slot_count, slot_of}
use Rattle.heap_theory.proofs.{Regions.{region_of-written, start_is_header}, SeenMemory.{header_starts, length-without_headers}}
use Rattle.heap_theory.specs.{Calls.{with_payload}, HeapTags.{IsTaggedOrUnmapped}}
use Rattle.heap_theory.specs.Region.{Region, region_of, headers_of, next_in}
use Rattle.heap_theory.specs.State.{Heap, payload_start, is_header_granule, without_headers}
use Rattle.tagged_heap.proofs.{Changed.{listed_same}, Kept.{agree_same, agree_at_rest, region_is, shown_is}}
use Rattle.tagged_heap.specs.{HeapAtRest.{shown_heap, IsAtRest}, Representation.{Parts, IsKept}}
use Rattle.tagged_heap.proofs.TheoryLemmas as laws

-- these bytes from byte i on are in no header
abbrev pub AreOutsideHeaders : Partition → ℕ → List ℕ → Type 0
AreOutsideHeaders layout i bytes =
    (s : ℕ) → s < slot_count layout → (i + length bytes ≤ 16 * (slot_of layout s).start) ⊎ (16 * (slot_of layout s).start + 16 ≤ i)

-- ---- a heap stays kept

module _ {h : Heap} {frees : ℕ} {p : Parts} {counters : List ℕ} (held : IsAtRest h frees p counters) {new : List Granule} (i : ℕ)
    (bytes : List ℕ) (is : new ≡ written i bytes p.memory)
    (outside : AreOutsideHeaders h.layout i bytes) (fit : All (λ b. b < 256) bytes) where
  same : region_of h.layout (written i bytes p.memory)
      ≡ record { headers = headers_of h.layout p.memory; granules = written i bytes (without_headers h.layout p.memory) }
  same = region_of-written h.layout i bytes p.memory outside

  next_same : (s : ℕ) → next_in (region_of h.layout (written i bytes p.memory)) s ≡ next_in (region_of h.layout p.memory) s
  next_same s = ap (λ (x : Region). next_in x s) same

  kept_written : IsKept (record h { memory = written i bytes h.memory }) (record p { memory = written i bytes p.memory })
  kept_written =
      let k = held.kept in
      record {
        from = k.from;
        queue = k.queue;
        lists = k.lists;
        sound = laws.written_sound h i bytes k.sound;
        memory_is = laws.memory_written i bytes p.memory fit k.memory_is;
        seen = ap (λ (x : Region). x.granules) same ∙ ap (written i bytes) k.seen;
        headers = grind (arith, same, next_same);
        queued = grind (arith, laws.links_stay, next_same);
        listed = listed_same k.listed (λ number s inside there. next_same s);
        agree =
            agree_same k refl refl (laws.memory_without_marks h (written i bytes h.memory) k.queue k.lists (agree_at_rest k held.rests));
        limit = k.limit;
      }

  pub written_held : IsAtRest (record h { memory = written i bytes h.memory }) frees (record p { memory = new }) counters
  written_held = grind (arith, kept_written)

  pub written_shown : shown_heap h.layout p.quarantine.limit new h.total h.seed h.tag ≡ record h { memory = written i bytes h.memory }
  written_shown = shown_is written_held.kept h.total h.seed h.tag refl refl refl

-- ---- the payload of a slot is outside all headers

-- the end of so many bytes from a slot's payload on
pub payload_within : {h : Heap} {p : Parts} → IsKept h p → (s bytes : ℕ) → s < slot_count h.layout →
    bytes + 16 ≤ 16 * (slot_of h.layout s).class → 16 * payload_start (slot_of h.layout s) + bytes ≤ 16 * length p.memory
payload_within k s bytes within room = omega (arith, k.sound.slots.inside s within, region_is k)

-- A memory in which the payload of a slot begins with these bytes, and which is else as another: they fit in.
pub record HasPayload (layout : Partition) (memory new : List Granule) (s : ℕ) (bytes : List ℕ) : Type 0 where
  pub in_range : s < slot_count layout
  pub room : length bytes + 16 ≤ 16 * (slot_of layout s).class
  pub fit : All (λ b. b < 256) bytes
  pub written_is : new ≡ written (16 * payload_start (slot_of layout s)) bytes memory

module _ {h : Heap} {frees : ℕ} {p : Parts} {counters : List ℕ} (held : IsAtRest h frees p counters) {new : List Granule} {s : ℕ}
    {bytes : List ℕ} (has : HasPayload h.layout p.memory new s bytes) where
  payload_held : IsAtRest (with_payload h s bytes) frees (record p { memory = new }) counters
  unfolding with_payload
  payload_held =
      written_held held _ bytes has.written_is (grind arith) has.fit

  pub payload_shown : shown_heap h.layout p.quarantine.limit new h.total h.seed h.tag ≡ with_payload h s bytes
  unfolding with_payload
  payload_shown = shown_is payload_held.kept h.total h.seed h.tag refl refl refl

  pub payload_kept : IsAtRest (shown_heap h.layout p.quarantine.limit new h.total h.seed h.tag) frees (record p { memory = new }) counters
  payload_kept = subst (λ x. IsAtRest x frees (record p { memory = new }) counters) (sym payload_shown) payload_held

not_header : (layout : Partition) (s g : ℕ) → AreInOrder layout → s < slot_count layout → (slot_of layout s).start < g →
    g < end_of (slot_of layout s) → is_header_granule layout g ≡ false
not_header layout s g order in_s from to = grind (arith, cases_lt, header_starts, same)

pub payload_seen : (layout : Partition) (m : List Granule) (s n : ℕ) → AreInOrder layout → s < slot_count layout →
    n + 16 ≤ 16 * (slot_of layout s).class →
    bytes_at (without_headers layout m) (16 * payload_start (slot_of layout s)) n ≡ bytes_at m (16 * payload_start (slot_of layout s)) n
payload_seen layout m s n order in_s room = grind (arith, bytes_at_agree, not_header, laws.byte_seen)

-- ---- an access that succeeds under another tag than 0 touches no header

pub mapped_of : (memory : List Granule) (address len : ℕ) → access_fault memory address len ≡ None →
    is_mapped (length memory) address len ≡ true
unfolding access_fault
mapped_of memory address len none = grind (arith, cond-false)

pub tagged_access : {h : Heap} {p : Parts} (k : IsKept h p) (address len : ℕ) → IsTaggedOrUnmapped h address len →
    access_fault p.memory address len ≡ None → logical_tag address ≢ 0
tagged_access {h} {p} k address len either none = grind (arith, length-without_headers, false≢true, mapped_of)

in_access : (place base len j : ℕ) → base ≤ place → place - base ≤ j → j < place - base + len →
    (k : ℕ) × (k < len) × (base + 16 * (j / 16) ≤ place + k) × (place + k < base + 16 * (j / 16) + 16)
in_access place base len j region from to = (j - (place - base), omega arith, omega arith, omega arith)

module _ {h : Heap} {p : Parts} (k : IsKept h p) (address len : ℕ) (tagged : logical_tag address ≢ 0)
    (none : access_fault p.memory address len ≡ None) where
  no_header : (j : ℕ) → byte_of (place_of address) ≤ j → j < byte_of (place_of address) + len → is_header_granule h.layout (j / 16) ≡ false
  no_header j from to =
      let mapped = IsMapped-from (length p.memory) address len (mapped_of p.memory address len none) in
      let k' = in_access (place_of address) region_start len j mapped.from from to in
      laws.spared h address len (j / 16) k.sound tagged
      (ap (λ m. access_fault m address len) (sym k.seen) ∙ laws.accesses_seen h.layout p.memory address len ∙ none)
      (k'.0, k'.1, record { from = k'.2; to = k'.3 })

  -- so it reads what is seen
  pub load_seen : loaded p.memory address len ≡ loaded h.memory address len
  load_seen = grind (arith, bytes_at_agree, no_header, laws.byte_seen)

-- and leaves all headers where it writes
pub access_outside : {h : Heap} {p : Parts} (k : IsKept h p) (address : ℕ) (bytes : List ℕ) → 1 ≤ length bytes → logical_tag address ≢ 0 →
    access_fault p.memory address (length bytes) ≡ None → AreOutsideHeaders h.layout (byte_of (place_of address)) bytes
access_outside {h} {p} k address bytes some tagged none r in_r =
    elim (cases_lt (16 * start) (byte_of (place_of address) + length bytes)) [
      | inr before ↦ inl before
      | inl less ↦ elim (cases_lt (byte_of (place_of address)) (16 * start + 16)) [
        | inr after ↦ inr after
        | inl more ↦
            let at : max (byte_of (place_of address)) (16 * start) / 16 ≡ start = omega arith in
            let not =
            no_header k address (length bytes) tagged none (max (byte_of (place_of address)) (16 * start)) (omega arith) (omega arith) in
            absurd (false≢true (sym not ∙ ap (is_header_granule h.layout) at ∙ start_is_header h.layout r in_r))
      ]
    ]
  where
    start : ℕ
    start = (slot_of h.layout r).start

pub fault_cases : (fault : Option Fault) → (fault ≡ None) ⊎ ((f : Fault) × (fault ≡ Some f))
fault_cases None = inl refl
fault_cases (Some f) = inr (f, refl)
