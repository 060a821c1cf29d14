-- What a change of a memory leaves: how long it is, and its tags.
use Rattle.std.proofs.{Common.{◌≡◌, ℕ, ◌+◌, ◌<◌, ◌≤◌, List, length, refl, ap, arith, ◌⊎◌}, lemmas.List.{get_or_past}}
use Rattle.std.proofs.lemmas.Bool.{cond-true, cond-false, cases_lt, and_from, and_left, and_right, lt-ltb, le-leb, le-ltb, lt-leb}
use Rattle.std.proofs.lemmas.List.FromFn.{get_or-map-range_with_len, length-map-range_with_len}
use Rattle.machine_theory.specs.Memory.{Granule, no_granule, granule_at, tag_at, each_granule, tagged, written, bytes_after}

pub length-each_granule : (change : ℕ → Granule → Granule) (memory : List Granule) → length (each_granule change memory) ≡ length memory
unfolding each_granule
length-each_granule change memory = length-map-range_with_len (λ g. change g (granule_at memory g)) 0 (length memory)

pub granule_at-each_granule : (change : ℕ → Granule → Granule) (memory : List Granule) (g : ℕ) → g < length memory →
    granule_at (each_granule change memory) g ≡ change g (granule_at memory g)
unfolding each_granule
granule_at-each_granule change memory g h = grind (arith, get_or-map-range_with_len)

pub tag_at_past : (memory : List Granule) (g : ℕ) → length memory ≤ g → tag_at memory g ≡ 0
tag_at_past memory g h = ap (λ (x : Granule). x.tag) (get_or_past memory g no_granule h)

-- a change that leaves the tag of granule g leaves it
tag_at_same : (change : ℕ → Granule → Granule) (memory : List Granule) (g : ℕ) → (change g (granule_at memory g)).tag ≡ tag_at memory g →
    tag_at (each_granule change memory) g ≡ tag_at memory g
tag_at_same change memory g e = grind (arith, cases_lt, granule_at-each_granule, tag_at_past, length-each_granule)

pub length-tagged : (first count tag : ℕ) (memory : List Granule) → length (tagged first count tag memory) ≡ length memory
unfolding tagged
length-tagged first count tag memory = length-each_granule _ memory

pub length-written : (i : ℕ) (new : List ℕ) (memory : List Granule) → length (written i new memory) ≡ length memory
unfolding written
length-written i new memory = length-each_granule _ memory

pub tag_under_bytes : (i g : ℕ) (new : List ℕ) (memory : List Granule) → tag_at (written i new memory) g ≡ tag_at memory g
unfolding written
tag_under_bytes i g new memory = tag_at_same (λ g granule. record granule { bytes = bytes_after i new g granule.bytes }) memory g refl

pub written_tag : (first count tag g : ℕ) (memory : List Granule) → first ≤ g → g < first + count → g < length memory →
    tag_at (tagged first count tag memory) g ≡ tag
unfolding tagged
written_tag first count tag g memory above below within = grind (arith, granule_at-each_granule, cond-true, and_from, le-leb, lt-ltb)

pub other_tag : (first count tag g : ℕ) (memory : List Granule) → (g < first) ⊎ (first + count ≤ g) →
    tag_at (tagged first count tag memory) g ≡ tag_at memory g
unfolding tagged
other_tag first count tag g memory outside = grind (arith, tag_at_same, cond-false, and_left, lt-leb, and_right, le-ltb)
