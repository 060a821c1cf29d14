-- How a change of a memory changes its region.
use Rattle.std.proofs.Common.{◌≡◌, ◌≢◌, ◌⊎◌, ℕ, ◌+◌, ◌*◌, ◌<◌, ◌≤◌, true, List, ◌++◌, length, sym, ap, ◌∙◌, arith, slice_index_or}
use Rattle.std.proofs.{Common.{slice_set}, lemmas.Bool.{cases_order, eq-eqb}, lemmas.Grind.{common_steps}}
use Rattle.std.proofs.lemmas.{List.{get_or-set_same, get_or-set_other, get_or_default, length-set}, List.Folds.{list_any-from_Any}}
use Rattle.std.{proofs.lemmas.List.FromFn.{fill_by_all, get_or-map-range_with_len, length-map-range_with_len}, specs.Int.{w64, to_le_bytes}}
use Rattle.machine_theory.specs.Memory.{Granule, IsMemory, tagged, written}
use Rattle.class_table.specs.Layout.{Partition, IsPartition, slot_count, slot_of}
use Rattle.heap_theory.proofs.HeaderWords.{header_at-elsewhere, header_at-tagged, header_at-with_header, header_at-written}
use Rattle.heap_theory.proofs.SeenMemory.{without_headers-in_header, without_headers-tagged, without_headers-written}
use Rattle.heap_theory.specs.Header.{Header, FitsWords, first_word, second_word, header_at, with_header}
use Rattle.heap_theory.specs.Region.{Region, headers_of, region_of, no_header, header_in, next_in, with_slot_header, with_slot_link}
use Rattle.heap_theory.specs.State.{is_header_granule, without_headers}
use Rattle.heap_theory.proofs.TheoryLemmas as laws

module _ (layout : Partition) where
  pub length-headers_of : (memory : List Granule) → length (headers_of layout memory) ≡ slot_count layout
  unfolding headers_of
  length-headers_of memory = length-map-range_with_len (λ s. header_at memory (slot_of layout s).start) 0 (slot_count layout)

  pub header_in-region_of : (memory : List Granule) (s : ℕ) → s < slot_count layout →
      header_in (region_of layout memory) s ≡ header_at memory (slot_of layout s).start
  unfolding headers_of
  header_in-region_of memory s within = grind (arith, get_or-map-range_with_len)

  -- headers are those of a memory if each one is
  headers_of-is : (memory : List Granule) (headers : List Header) → length headers ≡ slot_count layout →
      ((s : ℕ) → s < slot_count layout → slice_index_or headers s no_header ≡ header_at memory (slot_of layout s).start) →
      headers ≡ headers_of layout memory
  unfolding headers_of
  headers_of-is memory headers long is =
      fill_by_all (λ s. header_at memory (slot_of layout s).start) headers (slot_count layout) no_header long is

  headers_of-same : (memory new : List Granule) →
      ((s : ℕ) → s < slot_count layout → header_at new (slot_of layout s).start ≡ header_at memory (slot_of layout s).start) →
      headers_of layout new ≡ headers_of layout memory
  headers_of-same memory new same =
      headers_of-is memory (headers_of layout new) (length-headers_of new) (λ s within. header_in-region_of new s within ∙ same s within)

  pub start_is_header : (s : ℕ) → s < slot_count layout → is_header_granule layout (slot_of layout s).start ≡ true
  start_is_header s within = grind (arith, common_steps, list_any-from_Any, get_or_default, eq-eqb)

  -- tags are changed
  pub region_of-tagged : (first count tag : ℕ) (memory : List Granule) →
      region_of layout (tagged first count tag memory)
      ≡ record (region_of layout memory) { granules = tagged first count tag (without_headers layout memory) }
  region_of-tagged first count tag memory = grind (arith, header_at-tagged, headers_of-same, without_headers-tagged)

  -- bytes outside headers are written
  pub region_of-written : (i : ℕ) (new : List ℕ) (memory : List Granule) →
      ((s : ℕ) → s < slot_count layout →
      (i + length new ≤ 16 * (slot_of layout s).start) ⊎ (16 * (slot_of layout s).start + 16 ≤ i)) →
      region_of layout (written i new memory)
      ≡ record (region_of layout memory) { granules = written i new (without_headers layout memory) }
  region_of-written i new memory outside = grind (arith, header_at-written, headers_of-same, without_headers-written)

  -- the header of a slot becomes another
  region_of-rewritten : (memory new : List Granule) (s : ℕ) (header : Header) → s < slot_count layout →
      header_at new (slot_of layout s).start ≡ header →
      ((r : ℕ) → r < slot_count layout → r ≢ s → header_at new (slot_of layout r).start ≡ header_at memory (slot_of layout r).start) →
      without_headers layout new ≡ without_headers layout memory →
      region_of layout new ≡ with_slot_header (region_of layout memory) s header
  region_of-rewritten memory new s header within own others seen = λ i. record { headers = sym headers i; granules = seen i }
    where
      headers : slice_set (headers_of layout memory) s header ≡ headers_of layout new
      headers =
          headers_of-is new (slice_set (headers_of layout memory) s header)
          (length-set (headers_of layout memory) s header ∙ length-headers_of memory)
          (grind (arith, get_or-set_same, length-headers_of, get_or-set_other, header_in-region_of))

module _ (layout : Partition) (is : IsPartition layout) where
  start_inside : (s : ℕ) → s < slot_count layout → (slot_of layout s).start < layout.granules
  start_inside s within = let order = laws.in_order 1 layout is.table in omega (arith, order.inside s within, order.wide s within)

  starts_differ : (s r : ℕ) → s < slot_count layout → r < slot_count layout → r ≢ s → (slot_of layout r).start ≢ (slot_of layout s).start
  starts_differ s r in_s in_r other same =
      let order = laws.in_order 1 layout is.table in
      grind (arith, cases_order)

  -- no byte of a header is seen
  header_unseen : (memory : List Granule) (s : ℕ) (header : Header) → IsMemory memory → s < slot_count layout →
      without_headers layout (with_header memory (slot_of layout s).start header) ≡ without_headers layout memory
  unfolding with_header
  header_unseen memory s header memory_is within =
      without_headers-in_header layout (slot_of layout s).start (16 * (slot_of layout s).start)
      (to_le_bytes w64 (first_word header) ++ to_le_bytes w64 (second_word header)) memory memory_is (start_is_header layout s within)
      (omega arith) (omega arith)

  -- a header is written, and read
  pub region_of-read : (memory new : List Granule) (s : ℕ) (header : Header) → IsMemory memory → s < slot_count layout →
      new ≡ with_header memory (slot_of layout s).start header → header_at new (slot_of layout s).start ≡ header →
      region_of layout new ≡ with_slot_header (region_of layout memory) s header
  region_of-read memory new s header memory_is within written read =
      grind (arith, header_at-elsewhere, header_unseen, region_of-rewritten, starts_differ)

  pub region_of-header : (memory : List Granule) (s : ℕ) (header : Header) → IsMemory memory → length memory ≡ layout.granules →
      s < slot_count layout → FitsWords header →
      region_of layout (with_header memory (slot_of layout s).start header) ≡ with_slot_header (region_of layout memory) s header
  region_of-header memory s header memory_is long within fits = grind (arith, header_at-with_header, region_of-read, start_inside)

-- ---- a link is set

module _ (region : Region) {new : Region} (s : ℕ) (header : Header) (set : new ≡ with_slot_header region s header) where
  pub own_header : s < length region.headers → header_in new s ≡ header
  own_header within = ap (λ (x : Region). header_in x s) set ∙ get_or-set_same region.headers s header no_header within

  pub other_header : (r : ℕ) → r ≢ s → header_in new r ≡ header_in region r
  other_header r other = ap (λ (x : Region). header_in x r) set ∙ get_or-set_other region.headers s r header no_header other

  pub as_many_headers : length new.headers ≡ length region.headers
  as_many_headers = ap (λ (x : Region). length x.headers) set ∙ length-set region.headers s header

module _ (region : Region) {new : Region} (s next : ℕ) (set : new ≡ with_slot_link region s next) where
  pub own_link : s < length region.headers → next_in new s ≡ next
  own_link within = ap (λ (h : Header). h.next) (own_header region s (record (header_in region s) { next = next }) set within)

  pub other_link : (r : ℕ) → r ≢ s → next_in new r ≡ next_in region r
  other_link r other = ap (λ (h : Header). h.next) (other_header region s (record (header_in region s) { next = next }) set r other)
