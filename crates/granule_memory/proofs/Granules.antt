-- What the granules that lie in a list of bytes are.
use Rattle.std.proofs.Common.{◌≡◌, ℕ, ◌+◌, ◌-◌, ◌*◌, ◌<◌, ◌≤◌, List, [], ◌∷◌, map, length, drop, refl, sym, ap}
use Rattle.std.proofs.{Common.{subst, ◌∙◌, arith, slice_range, slice_index, slice_index_or}, lemmas.Grind.{same_number_lists}}
use Rattle.std.proofs.lemmas.{List.{length-take-le, length-drop, get_or-take, get_or-drop, get_or_past}, List.Elements.{All-take, All-drop}}
use Rattle.std.{proofs.lemmas.List.FromFn.{get_or-map-range_with_len, length-map-range_with_len}, specs.Int.{w64, from_le_bytes}}
use Rattle.std.specs.List.{range_with_len}
use Rattle.machine_theory.specs.Memory.{Granule, IsGranule, IsMemory, no_granule, granule_at, tag_at, byte_at, bytes_at, word_at}
use Rattle.granule_memory.specs.BytesOfGranules.{granule_in, granules_of, IsLaidOut}
use Rattle.raw_region.specs.Bytes as raw

pub granules_counted : (bytes : List ℕ) (count : ℕ) → length (granules_of bytes count) ≡ count
unfolding granules_of
granules_counted bytes count = length-map-range_with_len (granule_in bytes count) 0 count

pub granule_is : (bytes : List ℕ) (count g : ℕ) (d : Granule) → g < count →
    slice_index_or (granules_of bytes count) g d ≡ granule_in bytes count g
unfolding granules_of
granule_is bytes count g d inside = get_or-map-range_with_len (granule_in bytes count) 0 count g g d inside (omega arith)

pub granule_past : (bytes : List ℕ) (count g : ℕ) → count ≤ g → granule_at (granules_of bytes count) g ≡ no_granule
granule_past bytes count g past = get_or_past (granules_of bytes count) g no_granule (omega (arith, granules_counted bytes count))

pub tag_is : (bytes : List ℕ) (count g : ℕ) → g < count → tag_at (granules_of bytes count) g ≡ slice_index bytes (16 * count + g)
tag_is bytes count g inside = ap (λ (x : Granule). x.tag) (granule_is bytes count g no_granule inside)

-- a byte of a run
pub slice_range_byte : (xs : List ℕ) (i n k : ℕ) → k < n → slice_index (slice_range xs i (i + n)) k ≡ slice_index xs (i + k)
slice_range_byte xs i n k inside = grind (arith, get_or-take, get_or-drop)

pub slice_range_long : (xs : List ℕ) (i n : ℕ) → i + n ≤ length xs → length (slice_range xs i (i + n)) ≡ n
slice_range_long xs i n fits = length-take-le (i + n - i) (drop i xs) (omega (arith, length-drop i xs)) ∙ omega arith

pub byte_is : (bytes : List ℕ) (count i : ℕ) → i < 16 * count → byte_at (granules_of bytes count) i ≡ slice_index bytes i
byte_is bytes count i inside = grind (arith, granule_is, slice_range_byte)

pub bytes_are : (bytes : List ℕ) (count i n : ℕ) → length bytes ≡ 17 * count → i + n ≤ 16 * count →
    bytes_at (granules_of bytes count) i n ≡ slice_range bytes i (i + n)
unfolding bytes_at
bytes_are bytes count i n long fits =
    let memory = granules_of bytes count in
    let inside : i + n ≤ length bytes = omega arith in
    same_number_lists (map (byte_at memory) (range_with_len i n)) (slice_range bytes i (i + n))
    (length-map-range_with_len (byte_at memory) i n ∙ sym (slice_range_long bytes i n inside))
    (λ k h. let within : k < n = subst (λ (m : ℕ). k < m) (length-map-range_with_len (byte_at memory) i n) h in
    get_or-map-range_with_len (byte_at memory) i n k (i + k) 0 within refl ∙ byte_is bytes count (i + k) (omega arith)
    ∙ sym (slice_range_byte bytes i n k within))

pub word_is : (bytes : List ℕ) (count i : ℕ) → length bytes ≡ 17 * count → i + 8 ≤ 16 * count →
    word_at (granules_of bytes count) i ≡ raw.word_at bytes i
unfolding word_at raw.word_at
word_is bytes count i long fits = ap (from_le_bytes w64) (bytes_are bytes count i 8 long fits)

-- what is read where a run of one byte is known
pub byte_read : (memory : List Granule) (i byte : ℕ) → bytes_at memory i 1 ≡ byte ∷ [] → byte_at memory i ≡ byte
unfolding bytes_at
byte_read memory i byte run = ap (λ (bytes : List ℕ). slice_index bytes 0) run

pub granules_fit : (bytes : List ℕ) (count : ℕ) → IsLaidOut bytes count → IsMemory (granules_of bytes count)
granules_fit bytes count laid =
    let counted = granules_counted bytes count in let long = laid.long in let least = laid.least in let most = laid.most in
    record {
      least = omega arith;
      most = omega arith;
      granules = λ g d h.
          let inside : g < count = omega (arith, h) in
          let is_granule : IsGranule (granule_in bytes count g) = record {
            tag = laid.tags g inside;
            sixteen = slice_range_long bytes (16 * g) 16 (omega arith);
            bytes =
                All-take (λ byte. byte < 256) (16 * g + 16 - 16 * g) (drop (16 * g) bytes)
                (All-drop (λ byte. byte < 256) (16 * g) bytes laid.below);
          } in
          subst IsGranule (sym (granule_is bytes count g d inside)) is_granule;
    }
