-- Bytes that are read are below 256, and which bytes are read after a change.
use Rattle.std.proofs.Common.{◌≡◌, ℕ, ◌+◌, ◌-◌, ◌*◌, ◌/◌, ◌%◌, ◌<◌, ◌≤◌, ◌^◌, List, length, get_or, refl, sym, ap, ◌∙◌, arith, ◌⊎◌, All}
use Rattle.std.proofs.{Common.{slice_index}, lemmas.Bool.{cases_lt, cond_both}, lemmas.List.{get_or_past}, lemmas.List.Elements.{All-map}}
use Rattle.std.{proofs.lemmas.List.FromFn.{get_or-map-range_with_len, length-map-range_with_len, fill_by_all}, specs.Int.{w64, to_le_bytes}}
use Rattle.std.{proofs.lemmas.Nat.{from_le_bytes-to_le_bytes_8}, specs.List.{range_with_len}}
use Rattle.machine_theory.proofs.ChangeLaws.{length-bytes_after, byte-bytes_after, byte_after-inside, byte_after-outside}
use Rattle.machine_theory.proofs.MemoryLaws.{length-each_granule, granule_at-each_granule}
use Rattle.machine_theory.specs.Memory.{word_at, written, Granule, no_granule, IsMemory, granule_at, each_granule, tagged, byte_at}
use Rattle.machine_theory.specs.Memory.{bytes_at}

pub length-bytes_at : (memory : List Granule) (i len : ℕ) → length (bytes_at memory i len) ≡ len
unfolding bytes_at
length-bytes_at memory i len = length-map-range_with_len (byte_at memory) i len

pub get_or-bytes_at : (memory : List Granule) (i len k : ℕ) → k < len → get_or (bytes_at memory i len) k 0 ≡ byte_at memory (i + k)
unfolding bytes_at
get_or-bytes_at memory i len k within = get_or-map-range_with_len (byte_at memory) i len k (i + k) 0 within refl

-- bytes that agree one by one
pub bytes_at_agree : (memory memory' : List Granule) (i len : ℕ) → ((k : ℕ) → k < len → byte_at memory (i + k) ≡ byte_at memory' (i + k)) →
    bytes_at memory i len ≡ bytes_at memory' i len
bytes_at_agree memory memory' i len same =
    fill_by_all (λ k. byte_at memory' (i + k)) (bytes_at memory i len) len 0 (length-bytes_at memory i len)
    (λ k h. get_or-bytes_at memory i len k h ∙ same k h)
    ∙ sym (fill_by_all (λ k. byte_at memory' (i + k)) (bytes_at memory' i len) len 0 (length-bytes_at memory' i len)
    (λ k h. get_or-bytes_at memory' i len k h))

-- a byte of a memory whose granules a change makes
byte_at_changed : (change : ℕ → Granule → Granule) (memory : List Granule) (j : ℕ) → j / 16 < length memory →
    byte_at (each_granule change memory) j ≡ slice_index (change (j / 16) (granule_at memory (j / 16))).bytes (j % 16)
byte_at_changed change memory j h = ap (λ (x : Granule). slice_index x.bytes (j % 16)) (granule_at-each_granule change memory (j / 16) h)

byte_at_past : (memory : List Granule) (j : ℕ) → length memory ≤ j / 16 → byte_at memory j ≡ 0
byte_at_past memory j h = ap (λ (x : Granule). slice_index x.bytes (j % 16)) (get_or_past memory (j / 16) no_granule h)

-- a byte of a list of bytes, or 0 past its end
pub byte_below : (bytes : List ℕ) (k : ℕ) → All (λ b. b < 256) bytes → slice_index bytes k < 256
byte_below bytes k below = grind (arith, cases_lt, get_or_past)

pub bytes_at-below : (memory : List Granule) (i len : ℕ) → IsMemory memory → All (λ b. b < 256) (bytes_at memory i len)
unfolding bytes_at
bytes_at-below memory i len is =
    All-map (λ b. b < 256) (byte_at memory) (range_with_len i len)
    (grind (arith, byte_at_past))

-- a byte that a change leaves in its granule stays
byte_at_same : (change : ℕ → Granule → Granule) (memory : List Granule) (j : ℕ) →
    (j / 16 < length memory → slice_index (change (j / 16) (granule_at memory (j / 16))).bytes (j % 16) ≡ byte_at memory j) →
    byte_at (each_granule change memory) j ≡ byte_at memory j
byte_at_same change memory j same = grind (arith, cases_lt, byte_at_changed, byte_at_past, length-each_granule)

pub byte_at-tagged : (first count tag : ℕ) (memory : List Granule) (j : ℕ) → byte_at (tagged first count tag memory) j ≡ byte_at memory j
unfolding tagged
byte_at-tagged first count tag memory j = grind (arith, byte_at_same, cond_both)

pub bytes_under_tags : (first count tag j len : ℕ) (memory : List Granule) →
    bytes_at (tagged first count tag memory) j len ≡ bytes_at memory j len
bytes_under_tags first count tag j len memory = grind (arith, bytes_at_agree, byte_at-tagged)

pub byte_at-written_outside : (i : ℕ) (new : List ℕ) (memory : List Granule) (j : ℕ) → (j < i) ⊎ (i + length new ≤ j) →
    byte_at (written i new memory) j ≡ byte_at memory j
unfolding written
byte_at-written_outside i new memory j out = grind (arith, byte_at_same, cases_lt, byte-bytes_after, byte_after-outside, get_or_past, length-bytes_after)

pub other_bytes : (i j len : ℕ) (new : List ℕ) (memory : List Granule) → (j + len ≤ i) ⊎ (i + length new ≤ j) →
    bytes_at (written i new memory) j len ≡ bytes_at memory j len
other_bytes i j len new memory out = grind (arith, bytes_at_agree, byte_at-written_outside)

pub byte_at-written_inside : (i : ℕ) (new : List ℕ) (memory : List Granule) (j : ℕ) → IsMemory memory → j < 16 * length memory → i ≤ j →
    j < i + length new → byte_at (written i new memory) j ≡ get_or new (j - i) 0
unfolding written
byte_at-written_inside i new memory j is within from to = grind (arith, byte_at_changed, byte-bytes_after, byte_after-inside)

pub bytes_at-written_same : (i : ℕ) (new : List ℕ) (memory : List Granule) → IsMemory memory → i + length new ≤ 16 * length memory →
    bytes_at (written i new memory) i (length new) ≡ new
bytes_at-written_same i new memory is within =
    fill_by_all (λ k. get_or new k 0) (bytes_at (written i new memory) i (length new)) (length new) 0
    (length-bytes_at (written i new memory) i (length new))
    (grind (arith, get_or-bytes_at, byte_at-written_inside))
    ∙ sym (fill_by_all (λ k. get_or new k 0) new (length new) 0 refl (λ k h. refl))

pub word_at-written : (i w : ℕ) (memory : List Granule) → IsMemory memory → w < 2 ^ 64 → i + 8 ≤ 16 * length memory →
    word_at (written i (to_le_bytes w64 w) memory) i ≡ w
unfolding word_at
word_at-written i w memory is below within = grind (arith, bytes_at-written_same, from_le_bytes-to_le_bytes_8)
