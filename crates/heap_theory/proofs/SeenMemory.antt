-- What is seen of a memory without the bytes of its headers.
use Rattle.std.proofs.Common.{◌≡◌, ◌⊎◌, ℕ, ◌+◌, ◌*◌, ◌/◌, ◌<◌, ◌≤◌, Bool, true, false, cond, List, [], length, replicate, refl}
use Rattle.std.proofs.Common.{sym, ap, ◌∙◌, subst, inl, inr, arith, slice_index, IsTrue, ◌≢◌, None, IsFalse}
use Rattle.std.proofs.lemmas.Bool.{cases_lt, cases_Bool, cases_order, cond-false, cond_both, eqb-true, both_ways, and_left, and_right}
use Rattle.std.proofs.lemmas.{Bool.{lt-leb, le-ltb, false_from_ne_true}, List.Folds.{Any-from_list_any}, List.FromFn.{fill_by_all}}
use Rattle.std.proofs.lemmas.List.{length-replicate, get_or-replicate, get_or_past, get_or_default}
use Rattle.machine_theory.{proofs.MemoryLaws.{tag_at_past}, specs.Access.{access_fault}, specs.Address.{logical_tag, Touches}}
use Rattle.machine_theory.specs.Memory.{Granule, no_granule, new_granule, granule_at, tag_at, each_granule, is_among, tagged, byte_at}
use Rattle.machine_theory.specs.{Memory.{byte_after, bytes_after, written, IsMemory}, declared.sizes.TheConstants.{GRANULE_BYTES}}
use Rattle.class_table.specs.Layout.{Partition, slot_count, slot_of}
use Rattle.heap_theory.specs.{Sound.{IsSoundHeap}, State.{Heap, is_header_granule, without_headers, first_memory}}
use Rattle.heap_theory.proofs.TheoryLemmas as laws

-- what becomes of a granule
abbrev hidden : Partition → ℕ → Granule → Granule
hidden layout g granule = cond (is_header_granule layout g) (record granule { bytes = [] }) granule

swap_tag : (a b : Bool) (tag : ℕ) (x : Granule) →
    ◌≡◌ {A = Granule} (cond a (record (cond b (record x { tag = tag }) x) { bytes = [] }) (cond b (record x { tag = tag }) x))
    (cond b (record (cond a (record x { bytes = [] }) x) { tag = tag }) (cond a (record x { bytes = [] }) x))
swap_tag x0 x1 tag x = grind arith

swap_bytes : (a : Bool) (i : ℕ) (new : List ℕ) (g : ℕ) (x : Granule) →
    ◌≡◌ {A = Granule} (cond a (record (record x { bytes = bytes_after i new g x.bytes }) { bytes = [] })
    (record x { bytes = bytes_after i new g x.bytes }))
    (record (cond a (record x { bytes = [] }) x) { bytes = bytes_after i new g (cond a (record x { bytes = [] }) x).bytes })
swap_bytes true i new g x = refl
swap_bytes false i new g x = refl

module _ (layout : Partition) where
  pub without_headers-tagged : (first count tag : ℕ) (memory : List Granule) →
      without_headers layout (tagged first count tag memory) ≡ tagged first count tag (without_headers layout memory)
  unfolding without_headers tagged
  without_headers-tagged first count tag memory = grind (arith, laws.either_order, swap_tag)

  pub without_headers-written : (i : ℕ) (new : List ℕ) (memory : List Granule) →
      without_headers layout (written i new memory) ≡ written i new (without_headers layout memory)
  unfolding without_headers written
  without_headers-written i new memory = grind (arith, laws.either_order, swap_bytes)

  pub length-without_headers : (memory : List Granule) → length (without_headers layout memory) ≡ length memory
  unfolding without_headers
  length-without_headers memory = laws.each_length _ memory

  pub tag_at-without_headers : (memory : List Granule) (g : ℕ) → tag_at (without_headers layout memory) g ≡ tag_at memory g
  unfolding without_headers
  tag_at-without_headers memory g = grind (arith, cases_lt, laws.each_at, cond_both, tag_at_past, laws.each_length)

  pub access_fault-without_headers : (memory : List Granule) (address len : ℕ) →
      access_fault (without_headers layout memory) address len ≡ access_fault memory address len
  access_fault-without_headers memory address len = grind (arith, laws.by_tags, length-without_headers, tag_at-without_headers)

  -- a granule that is no header is seen as it is
  pub granule_at-without_headers : (memory : List Granule) (g : ℕ) → is_header_granule layout g ≡ false →
      granule_at (without_headers layout memory) g ≡ granule_at memory g
  unfolding without_headers
  granule_at-without_headers memory g no_header = grind (arith, cases_lt, laws.each_at, cond-false, get_or_past, laws.each_length)

  pub byte_at-without_headers : (memory : List Granule) (i : ℕ) → is_header_granule layout (i / 16) ≡ false →
      byte_at (without_headers layout memory) i ≡ byte_at memory i
  byte_at-without_headers memory i no_header = grind (arith, granule_at-without_headers)

  -- two memories that differ in bytes of headers alone are seen as one
  pub without_headers-same : (memory other : List Granule) → length other ≡ length memory → ((g : ℕ) → tag_at other g ≡ tag_at memory g) →
      ((g : ℕ) → is_header_granule layout g ≡ false → granule_at other g ≡ granule_at memory g) →
      without_headers layout other ≡ without_headers layout memory
  unfolding without_headers
  without_headers-same memory other long tags granules =
      fill_by_all (λ g. hidden layout g (granule_at memory g)) (each_granule (hidden layout) other) (length memory) no_granule
      (laws.each_length _ other ∙ long)
      (λ g within. laws.each_at (hidden layout) other g (subst (λ n. g < n) (sym long) within) ∙ at g)
      ∙ sym (fill_by_all (λ g. hidden layout g (granule_at memory g)) (each_granule (hidden layout) memory) (length memory) no_granule
      (laws.each_length _ memory) (λ g within. laws.each_at (hidden layout) memory g within))
    where
      at : (g : ℕ) → hidden layout g (granule_at other g) ≡ hidden layout g (granule_at memory g)
      at g = grind (arith, cases_Bool)

  pub without_headers-new : without_headers layout (replicate layout.granules new_granule) ≡ first_memory layout
  unfolding without_headers first_memory
  without_headers-new =
      fill_by_all (λ g. cond (is_header_granule layout g) no_granule new_granule)
      (each_granule (hidden layout) (replicate layout.granules new_granule)) layout.granules no_granule
      (laws.each_length _ (replicate layout.granules new_granule) ∙ length-replicate layout.granules new_granule)
      (λ k within.
      laws.each_at (hidden layout) (replicate layout.granules new_granule) k
      (subst (λ n. k < n) (sym (length-replicate layout.granules new_granule)) within)
      ∙ ap (hidden layout k) (get_or-replicate layout.granules k new_granule no_granule within))

-- ---- header bytes are not seen

-- a granule in which nothing is written stays
granule_at-written : (i g : ℕ) (new : List ℕ) (memory : List Granule) → IsMemory memory → (16 * g + 16 ≤ i) ⊎ (i + length new ≤ 16 * g) →
    granule_at (written i new memory) g ≡ granule_at memory g
unfolding written
granule_at-written i g new memory is apart = elim (cases_lt g (length memory)) [
  | inl within ↦
      let granule = is.granules g no_granule within in
      let same : bytes_after i new g (granule_at memory g).bytes ≡ (granule_at memory g).bytes = sym
      (fill_by_all (λ k. byte_after i new (16 * g + k) (slice_index (granule_at memory g).bytes k)) (granule_at memory g).bytes
      (length (granule_at memory g).bytes) 0 refl
      (grind arith)) in
      laws.each_at (λ g granule. record granule { bytes = bytes_after i new g granule.bytes }) memory g within
      ∙ (λ j. record { tag = (granule_at memory g).tag; bytes = same j })
  | inr past ↦
      get_or_past (each_granule (λ g granule. record granule { bytes = bytes_after i new g granule.bytes }) memory) g no_granule
      (subst (λ n. n ≤ g) (sym (laws.each_length _ memory)) past)
      ∙ sym (get_or_past memory g no_granule past)
]
  where
    outside : (k : ℕ) → k < 16 → is_among i (length new) (16 * g + k) ≡ false
    outside k below = grind (arith, and_left, lt-leb, and_right, le-ltb)

-- bytes that are written in a header are not seen
pub without_headers-in_header : (layout : Partition) (g i : ℕ) (new : List ℕ) (memory : List Granule) → IsMemory memory →
    IsTrue (is_header_granule layout g) → GRANULE_BYTES * g ≤ i → i + length new ≤ GRANULE_BYTES * g + GRANULE_BYTES →
    without_headers layout (written i new memory) ≡ without_headers layout memory
without_headers-in_header layout g i new memory is header from to =
    grind (arith, without_headers-same, laws.written_length, laws.tag_under_bytes, granule_at-written, cases_order, both_ways)

-- ---- headers are spared

-- a header is the first granule of a slot,
pub header_starts : (layout : Partition) (g : ℕ) → is_header_granule layout g ≡ true →
    (s : ℕ) × (s < slot_count layout) × ((slot_of layout s).start ≡ g)
header_starts layout g is = grind (arith, Any-from_list_any, eqb-true, get_or_default)

-- an access that succeeds under another tag than 0 touches no header
pub headers_spared : (heap : Heap) (address len g : ℕ) → IsSoundHeap heap → logical_tag address ≢ 0 → access_fault heap.memory address len
    ≡ None → Touches address len g → IsFalse (is_header_granule heap.layout g)
headers_spared h address len g sound tagged succeeds touches = false_from_ne_true (is_header_granule h.layout g) (λ is.
    let fault = laws.other_tag_faults h.memory address len g touches (grind (arith, header_starts)) in
    grind (arith, both_ways))
