-- A header that is written is read, and says how its slot stands.
use Rattle.std.proofs.Common.{⊎_elim, ◌≡◌, ◌⊎◌, ℕ, ◌+◌, ◌*◌, ◌%◌, ◌^◌, ◌<◌, ◌≤◌, length, refl, ap, ◌∙◌, arith, Some, None}
use Rattle.std.proofs.{Common.{Option}, lemmas.Bool.{cases_order, eq-eqb, eqb-true, both_ways}, lemmas.List.Elements.{All-from_recursion}}
use Rattle.std.proofs.lemmas.{List.Quantifiers.{position-Some}, Option.{slice_get-get_or, slice_get_within}}
use Rattle.std.specs.{Int.{w64, to_le_bytes}, Prelude.{◌==◌, All, slice_get, position, unwrap_or, List, ◌≢◌}}
use Rattle.machine_theory.specs.{Memory.{IsMemory, word_at, written, Granule, tagged}, declared.sizes.TheConstants.{GRANULE_BYTES}}
use Rattle.class_table.specs.{Layout.{Partition, slot_count, slot_of}, Sizes.{largest_counted}, Tables.{IsLegalTable}}
use Rattle.heap_theory.{proofs.ListSearch.{position-None}, specs.Sound.{IfDead, IsChunkTag, IsSoundHeap}}
use Rattle.heap_theory.specs.Header.{header_of, header_at, with_header, size_of, class_number, header_for, Header, FitsWords, Standing}
use Rattle.heap_theory.specs.Header.{code_of, standing_of, first_word, second_word}
use Rattle.heap_theory.specs.State.{State, slot_in, state_at, last_tag, chunk_granules_of, mark_of, Heap, IsSlot}
use Rattle.heap_theory.specs.State.State.{Fresh as NeverGiven, Live as Given, Dead}
use Rattle.heap_theory.proofs.TheoryLemmas as laws

-- ---- words

pub code_fits : (standing : Standing) → code_of standing < 4
code_fits x0 = grind arith

pub standing_of-code_of : (standing : Standing) → standing_of (code_of standing) ≡ standing
standing_of-code_of x0 = grind arith

pub header_of-words : (header : Header) → FitsWords header → header_of (first_word header) (second_word header) ≡ header
header_of-words header fits = grind (arith, code_fits, standing_of-code_of)

pub code_of-standing_of : (code : ℕ) → code < 4 → code_of (standing_of code) ≡ code
code_of-standing_of x0 below = grind arith

pub words-header_of : (first second : ℕ) → (first_word (header_of first second) ≡ first) × (second_word (header_of first second) ≡ second)
words-header_of first second = let code = code_of-standing_of (first % 2 ^ 2) (omega arith) in (omega arith, refl)

pub words_fit : (header : Header) → FitsWords header → (first_word header < 2 ^ 64) × (second_word header < 2 ^ 64)
words_fit header fits = let code = code_fits header.standing in (omega arith, fits.mark)

-- ---- in memory

bytes_fit : (n : ℕ) → All (λ b. b < 256) (to_le_bytes w64 n)
bytes_fit n = All-from_recursion (λ b. b < 256) (to_le_bytes w64 n)
    (omega arith, (omega arith, (omega arith, (omega arith, (omega arith, (omega arith, (omega arith, (omega arith, tt))))))))

pub with_header-words : (memory : List Granule) (g : ℕ) (header : Header) → with_header memory g header
    ≡ written (GRANULE_BYTES * g + 8) (to_le_bytes w64 (second_word header)) (written (GRANULE_BYTES * g) (to_le_bytes w64 (first_word header)) memory)
unfolding with_header
with_header-words memory g header = grind (arith, laws.in_parts)

pub header_at-with_header : (memory : List Granule) (g : ℕ) (header : Header) → IsMemory memory → g < length memory → FitsWords header →
    header_at (with_header memory g header) g ≡ header
unfolding header_at word_at
header_at-with_header memory g header is within fits =
    grind (
      arith,
      words_fit,
      laws.memory_written,
      bytes_fit,
      laws.written_length,
      with_header-words,
      laws.other_bytes,
      laws.word_read,
      header_of-words,
    )

-- bytes outside of a granule leave its header as it is
pub header_at-written : (i g : ℕ) (new : List ℕ) (memory : List Granule) →
    (i + length new ≤ GRANULE_BYTES * g) ⊎ (GRANULE_BYTES * g + GRANULE_BYTES ≤ i) → header_at (written i new memory) g ≡ header_at memory g
unfolding header_at word_at
header_at-written i g new memory out = grind (arith, laws.other_bytes, ⊎_elim)

pub header_at-tagged : (first count tag g : ℕ) (memory : List Granule) → header_at (tagged first count tag memory) g ≡ header_at memory g
unfolding header_at word_at
header_at-tagged first count tag g memory = grind (arith, laws.bytes_under_tags)

pub header_at-elsewhere : (memory : List Granule) (g k : ℕ) (header : Header) → k ≢ g → header_at (with_header memory g header) k
    ≡ header_at memory k
unfolding with_header
header_at-elsewhere memory g k header differs = grind (arith, cases_order, header_at-written)

-- ---- the headers of a heap

-- the class at its number
pub class_number-is : (layout : Partition) (s : ℕ) → s < slot_count layout → slice_get layout.classes (class_number layout s)
    ≡ Some (slot_of layout s).class
class_number-is layout s within = by (position (λ class. class == (slot_of layout s).class) layout.classes) refl
  where
    by : (o : Option ℕ) → position (λ class. class == (slot_of layout s).class) layout.classes ≡ o →
        slice_get layout.classes (unwrap_or o 0) ≡ Some (slot_of layout s).class
    by (Some number) was =
        let found = position-Some (λ class. class == (slot_of layout s).class) layout.classes number 0 was in
        slice_get-get_or layout.classes number 0 found.0 ∙ ap Some (eqb-true _ _ found.1)
    by None was =
        let listed = laws.classes_listed layout s within in
        grind (arith, position-None, both_ways, eq-eqb)

-- it is one of at most 32
pub class_number-few : (step : ℕ) (layout : Partition) (s : ℕ) → IsLegalTable step layout.classes → s < slot_count layout →
    class_number layout s < 32
class_number-few step layout s table within = grind (arith, slice_get_within, class_number-is)

-- a slot's size is at most the largest that is counted
pub size_of-most : (x : State) (class : ℕ) → chunk_granules_of x < class → class ≤ 1024 → size_of x ≤ largest_counted
size_of-most x0 class room most = grind arith

pub header_for-fits : (heap : Heap) (s next : ℕ) → IsSoundHeap heap → IsSlot heap s → next < 2 ^ 32 → heap.total < 2 ^ 64 →
    FitsWords (header_for heap s next)
unfolding header_for
header_for-fits h s next sound within link total = record {
  size =
      omega (
        arith,
        size_of-most (state_at h s) (slot_in h s).class (sound.tagged s within).room
            (laws.classes_small 1 h.layout s sound.partition.table within),
      );
  tag = tag_fits (state_at h s) (sound.tagged s within).chunk_tag (sound.tagged s within).is_chunk_tag;
  class = omega (arith, class_number-few 1 h.layout s sound.partition.table within);
  next = link;
  mark = mark_fits (state_at h s) (sound.marks s);
}
  where
    tag_fits : (x : State) (tag : ℕ) → IsChunkTag s x tag → last_tag x < 16
    tag_fits NeverGiven tag is = omega arith
    tag_fits (Given n t) tag is = is.0.below
    tag_fits (Dead n t m) tag is = is.0.below

    mark_fits : (x : State) → IfDead x (λ mark. mark < h.total) → mark_of x < 2 ^ 64
    mark_fits x0 is = grind arith
