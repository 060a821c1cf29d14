-- A run of bytes that is written into the list is written into the granules, and a run of one byte past them is the tag of a run of
-- granules.
use Rattle.std.proofs.Common.{◌≡◌, ℕ, zero, suc, ◌+◌, ◌-◌, ◌*◌, ◌<◌, ◌≤◌, ◌++◌, List, length, take, drop, refl, sym, ap, subst, ◌∙◌, lit<}
use Rattle.std.proofs.Common.{arith, inl, inr, ⊎_elim, if◌then◌else◌, slice_range, slice_index, ◌⊎◌, All, replicate}
use Rattle.std.proofs.lemmas.Bool.{cases_lt, cond-false, and_left, lt-leb}
use Rattle.std.proofs.lemmas.{Grind.{same_number_lists}, List.Elements.{All-nil, All-take, All-drop, All-append, All-replicate}}
use Rattle.std.proofs.lemmas.List.{length-append, length-take-le, length-drop, length-replicate, get_or-take, get_or-drop}
use Rattle.std.{proofs.lemmas.List.{get_or_append_left, get_or-append_right, get_or-replicate}, specs.Int.{bytes_low_first}}
use Rattle.std.proofs.lemmas.List.FromFn.{get_or-map-range_with_len, length-map-range_with_len, fill_by_all}
use Rattle.machine_theory.specs.Memory.{Granule, no_granule, granule_at, tag_at, bytes_at, each_granule, is_among, tagged, byte_after}
use Rattle.machine_theory.specs.Memory.{bytes_after, written, new_granule}
use Rattle.raw_region.specs.Bytes.{with_bytes}
use Rattle.granule_memory.proofs.Granules.{granules_counted, granule_is, tag_is, bytes_are, slice_range_byte, slice_range_long}
use Rattle.granule_memory.{proofs.SameBytes.{changes_bytes, changes_tags}, specs.BytesOfGranules.{granule_in, granules_of, IsLaidOut}}
use Rattle.granule_memory.specs.Changes.{ChangesOnlyBytes, ChangesOnlyTags}

abbrev Below : ℕ → Type 0
Below byte = byte < 256

pub bytes_below : (i k n : ℕ) → All Below (bytes_low_first i k n)
bytes_below i zero n = All-nil Below
bytes_below i (suc k) n = grind (arith, bytes_below (suc i) k n)

-- a byte of a list in which a run is written
byte-with_bytes : (xs new : List ℕ) (i k : ℕ) → i + length new ≤ length xs →
    slice_index (with_bytes xs i new) k ≡ byte_after i new k (slice_index xs k)
byte-with_bytes xs new i k fits = ⊎_elim before (λ from. ⊎_elim (inside from) after (cases_lt k (i + length new))) (cases_lt k i)
  where
    front : length (take i xs) ≡ i
    front = length-take-le i xs (omega arith)

    both : length (take i xs ++ new) ≡ i + length new
    both = length-append (take i xs) new ∙ ap (λ (n : ℕ). n + length new) front

    before : k < i → slice_index (with_bytes xs i new) k ≡ byte_after i new k (slice_index xs k)
    before low =
        get_or_append_left (take i xs ++ new) (drop (i + length new) xs) 0 k (omega (arith, both)) ∙
        get_or_append_left (take i xs) new 0 k (omega (arith, front)) ∙ get_or-take i xs k 0 low ∙
        sym (cond-false (is_among i (length new) k) (slice_index new (k - i)) (slice_index xs k) (and_left _ _ (lt-leb _ _ low)))

    inside : i ≤ k → k < i + length new → slice_index (with_bytes xs i new) k ≡ byte_after i new k (slice_index xs k)
    inside from to =
        get_or_append_left (take i xs ++ new) (drop (i + length new) xs) 0 k (omega (arith, both)) ∙
        get_or-append_right (take i xs) new i k 0 front from ∙
        sym (grind arith)

    after : i + length new ≤ k → slice_index (with_bytes xs i new) k ≡ byte_after i new k (slice_index xs k)
    after past =
        let back : i + length new + (k - (i + length new)) ≡ k = omega arith in
        grind (arith, get_or-append_right, both, get_or-drop)

-- the list xs, in which a run is written, becomes ys
module _ (xs ys : List ℕ) (i : ℕ) (run : List ℕ) (at : ys ≡ with_bytes xs i run) (within : i + length run ≤ length xs) where
  run_length : length ys ≡ length xs
  run_length = grind (arith, length-take-le, length-append, length-drop)

  run_byte : (k : ℕ) → slice_index ys k ≡ byte_after i run k (slice_index xs k)
  run_byte k = ap (λ (zs : List ℕ). slice_index zs k) at ∙ byte-with_bytes xs run i k within

  run_outside : (k : ℕ) → (k < i) ⊎ (i + length run ≤ k) → slice_index ys k ≡ slice_index xs k
  run_outside k out = grind (arith, run_byte)

  run_inside : (j : ℕ) → j < length run → slice_index ys (i + j) ≡ slice_index run j
  run_inside j inner = grind (arith, run_byte)

  run_below : All Below xs → All Below run → All Below ys
  run_below old new =
      subst (All Below) (sym at)
      (All-append Below (take i xs ++ run) (drop (i + length run) xs) (All-append Below (take i xs) run (All-take Below i xs old) new)
      (All-drop Below (i + length run) xs old))

granule_from : (tag tag' : ℕ) (bytes bytes' : List ℕ) → tag ≡ tag' → bytes ≡ bytes' →
    ◌≡◌ {A = Granule} (record { tag = tag; bytes = bytes }) (record { tag = tag'; bytes = bytes' })
granule_from tag tag' bytes bytes' same_tag same_bytes =
    ap (λ (t : ℕ). record { tag = t; bytes = bytes }) same_tag ∙ ap (λ (b : List ℕ). record { tag = tag'; bytes = b }) same_bytes

-- a list of granules that agrees with the change at each granule is the changed one
changed_is : (change : ℕ → Granule → Granule) (xs ys : List ℕ) (count : ℕ) →
    ((g : ℕ) → g < count → granule_in ys count g ≡ change g (granule_in xs count g))
    → granules_of ys count ≡ each_granule change (granules_of xs count)
unfolding each_granule
changed_is change xs ys count agrees =
    let memory = granules_of xs count in let counted = granules_counted xs count in
    fill_by_all (λ g. change g (granule_at memory g)) (granules_of ys count) (length memory) no_granule
    (granules_counted ys count ∙ sym counted)
    (grind (arith, granule_is))

-- the list xs, whose granules are the memory, becomes ys
module _ (xs ys : List ℕ) (count : ℕ) (memory : List Granule) (laid : IsLaidOut xs count) (view : granules_of xs count ≡ memory) where
  counted : length memory ≡ count
  counted = ap length (sym view) ∙ granules_counted xs count

  -- by a run that is written
  module _ (i : ℕ) (run : List ℕ) (at : ys ≡ with_bytes xs i run) (fits : i + length run ≤ 16 * length memory) where
    inside : i + length run ≤ 16 * count
    inside = omega (arith, counted)

    within : i + length run ≤ length xs
    within = let long = laid.long in omega (arith, inside)

    same_length : length ys ≡ length xs
    same_length = run_length xs ys i run at within

    outside : (k : ℕ) → (k < i) ⊎ (i + length run ≤ k) → slice_index ys k ≡ slice_index xs k
    outside = run_outside xs ys i run at within

    granule_written : (g : ℕ) → g < count →
        granule_in ys count g ≡ record (granule_in xs count g) { bytes = bytes_after i run g (granule_in xs count g).bytes }
    granule_written g below =
        let long = laid.long in let same_long = same_length in let ends = inside in
        let old = slice_range xs (16 * g) (16 * g + 16) in let new = slice_range ys (16 * g) (16 * g + 16) in
        let sixteen : length new ≡ 16 = slice_range_long ys (16 * g) 16 (omega arith) in
        let sixteen_old : length old ≡ 16 = slice_range_long xs (16 * g) 16 (omega arith) in
        let change : ℕ → ℕ = λ j. byte_after i run (16 * g + j) (slice_index old j) in
        granule_from _ _ _ _ (outside (16 * count + g) (inr (omega arith)))
        (same_number_lists new (bytes_after i run g old) (sixteen ∙ sym (length-map-range_with_len change 0 (length old) ∙ sixteen_old))
        (λ j h. let inner : j < 16 = subst (λ (n : ℕ). j < n) sixteen h in
        slice_range_byte ys (16 * g) 16 j inner ∙ run_byte xs ys i run at within (16 * g + j)
        ∙ ap (byte_after i run (16 * g + j)) (sym (slice_range_byte xs (16 * g) 16 j inner)) ∙
        sym (get_or-map-range_with_len change 0 (length old) j j 0 (subst (λ (n : ℕ). j < n) (sym sixteen_old) inner) (omega arith))))

    pub written_is : granules_of ys count ≡ written i run memory
    unfolding written
    written_is = grind (arith, changed_is, granule_written)

    pub written_reads : bytes_at (granules_of ys count) i (length run) ≡ run
    written_reads =
        let long = slice_range_long ys i (length run) (omega (arith, within, same_length)) in
        bytes_are ys count i (length run) (same_length ∙ laid.long) inside ∙
        same_number_lists (slice_range ys i (i + length run)) run long
        (λ j h. let inner : j < length run = subst (λ (n : ℕ). j < n) long h in
        slice_range_byte ys i (length run) j inner ∙ run_inside xs ys i run at within j inner)

    pub written_keeps : ChangesOnlyBytes memory (granules_of ys count) i (i + length run)
    written_keeps =
        subst (λ (old : List Granule). ChangesOnlyBytes old (granules_of ys count) i (i + length run)) view
        (changes_bytes xs ys count laid.long same_length i (i + length run) inside outside)

    pub written_fits : All Below run → IsLaidOut ys count
    written_fits below = grind (arith, same_length, run_below, outside, inside)

  -- by a run past the bytes, which are the tags of n granules from `first` on
  module _ (first n t place : ℕ) (lies : place ≡ 16 * length memory + first)
      (at : ys ≡ with_bytes xs place (replicate (place + n - place) t)) (fits : first + n ≤ length memory) where
    abbrev run : List ℕ
    run = replicate (place + n - place) t

    starts : place ≡ 16 * count + first
    starts = omega (arith, lies, counted)

    ends : first + n ≤ count
    ends = omega (arith, fits, counted)

    as_many : length run ≡ n
    as_many = omega (arith, length-replicate (place + n - place) t)

    in_list : place + length run ≤ length xs
    in_list = let long = laid.long in omega (arith, long, starts, ends, as_many)

    as_long : length ys ≡ length xs
    as_long = run_length xs ys place run at in_list

    there : (g : ℕ) → first ≤ g → g < first + n → slice_index ys (16 * count + g) ≡ t
    there g from to =
        let is : place + (g - first) ≡ 16 * count + g = omega (arith, starts) in
        sym (ap (λ (k : ℕ). slice_index ys k) is) ∙ run_inside xs ys place run at in_list (g - first) (omega (arith, as_many)) ∙
        get_or-replicate (place + n - place) (g - first) t 0 (omega arith)

    elsewhere : (k : ℕ) → (k < 16 * count + first) ⊎ (16 * count + (first + n) ≤ k) → slice_index ys k ≡ slice_index xs k
    elsewhere k out = grind (arith, run_outside, starts, as_many)

    other_tag : (h : ℕ) → (h < first) ⊎ (first + n ≤ h) → slice_index ys (16 * count + h) ≡ slice_index xs (16 * count + h)
    other_tag h out = elsewhere (16 * count + h) (⊎_elim (λ low. inl (omega arith)) (λ past. inr (omega arith)) out)

    same_range : (h : ℕ) → h < count → slice_range ys (16 * h) (16 * h + 16) ≡ slice_range xs (16 * h) (16 * h + 16)
    same_range h inner =
        let long = laid.long in let same_long = as_long in
        let sixteen = slice_range_long ys (16 * h) 16 (omega arith) in
        grind (arith, same_number_lists, slice_range_long, slice_range_byte, elsewhere)

    granule_tagged : (h : ℕ) → h < count →
        granule_in ys count h ≡ (if is_among first n h then record (granule_in xs count h) { tag = t } else granule_in xs count h)
    granule_tagged h inner = grind (arith, there, same_range, other_tag)

    pub tagged_is : granules_of ys count ≡ tagged first n t memory
    unfolding tagged
    tagged_is = grind (arith, changed_is, granule_tagged)

    pub tagged_reads : (g : ℕ) → first ≤ g → g < first + n → tag_at (granules_of ys count) g ≡ t
    tagged_reads g from to = tag_is ys count g (omega (arith, ends)) ∙ there g from to

    pub tagged_keeps : ChangesOnlyTags memory (granules_of ys count) first (first + n)
    tagged_keeps =
        subst (λ (old : List Granule). ChangesOnlyTags old (granules_of ys count) first (first + n)) view
        (changes_tags xs ys count laid.long as_long first (first + n) elsewhere)

    pub tagged_fits : t < 16 → IsLaidOut ys count
    tagged_fits small = record {
      long = as_long ∙ laid.long;
      least = laid.least;
      most = laid.most;
      below = run_below xs ys place run at in_list laid.below (All-replicate Below (place + n - place) t (omega arith));
      tags = grind (arith, old, there);
    }
      where
        old : (h : ℕ) → h < count → (h < first) ⊎ (first + n ≤ h) → slice_index ys (16 * count + h) < 16
        old h inner out = subst (λ (k : ℕ). k < 16) (sym (other_tag h out)) (laid.tags h inner)

-- ---- the tags of some granules, and then 0 as the tag of those after them

module _ (xs zs : List ℕ) (count : ℕ) (memory : List Granule) (laid : IsLaidOut xs count) (view : granules_of xs count ≡ memory)
    (first n rest t place : ℕ) (lies : place ≡ 16 * length memory + first)
    (at : zs
    ≡ with_bytes (with_bytes xs place (replicate (place + n - place) t)) (place + n) (replicate (place + n + rest - (place + n)) 0))
    (fits : first + n + rest ≤ length memory) (small : t < 16) where
  abbrev once : List ℕ
  once = with_bytes xs place (replicate (place + n - place) t)

  inner : first + n ≤ length memory
  inner = omega (arith, fits)

  once_is : granules_of once count ≡ tagged first n t memory
  once_is = tagged_is xs once count memory laid view first n t place lies refl inner

  once_fits : IsLaidOut once count
  once_fits = tagged_fits xs once count memory laid view first n t place lies refl inner small

  same_long : length (tagged first n t memory) ≡ length memory
  same_long = ap length (sym once_is) ∙ granules_counted once count ∙ sym (granules_counted xs count) ∙ ap length view

  second_lies : place + n ≡ 16 * length (tagged first n t memory) + (first + n)
  second_lies = omega (arith, lies, same_long)

  second_fits : first + n + rest ≤ length (tagged first n t memory)
  second_fits = omega (arith, fits, same_long)

  pub cleared_is : granules_of zs count ≡ tagged (first + n) rest 0 (tagged first n t memory)
  cleared_is = grind (arith, tagged_is, once_fits, second_lies)

  pub cleared_fits : IsLaidOut zs count
  cleared_fits =
      tagged_fits once zs count (tagged first n t memory) once_fits once_is (first + n) rest 0 (place + n) second_lies at second_fits
      (lit< tt)

-- ---- a list of zeros

repeated_range : (n from len v : ℕ) → from + len ≤ n → slice_range (replicate n v) from (from + len) ≡ replicate len v
repeated_range n from len v fits = grind (arith, slice_range_long, length-replicate, same_number_lists, slice_range_byte, get_or-replicate)

pub new_is : (count : ℕ) → granules_of (replicate (17 * count) 0) count ≡ replicate count new_granule
unfolding granules_of
new_is count =
    sym (fill_by_all (granule_in (replicate (17 * count) 0) count) (replicate count new_granule) count no_granule
    (length-replicate count new_granule)
    (grind (arith, get_or-replicate, repeated_range)))

pub new_fits : (count : ℕ) → 64 ≤ count → count ≤ 262144 → IsLaidOut (replicate (17 * count) 0) count
new_fits count least most = grind (arith, length-replicate, get_or-replicate)
