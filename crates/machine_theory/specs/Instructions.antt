-- The tag instructions, each named as in the Arm ARM DDI 0487, Memory Tagging Extension.
-- GCR_EL1.Exclude is always 1: a chosen tag is never 0, unless all other tags are excluded. Unmapped, and its order after Alignment, are
-- this project's own.
use Rattle.machine_theory.specs.{Access.{is_mapped}, Address.{logical_tag, place_of, with_tag, aligned, granule_of}, Machine.{Machine}}
use Rattle.machine_theory.specs.{Memory.{Granule, tag_at, tagged, written}, Seed.{next_offset, next_seed}, Tags.{choose_tag}}
use Rattle.machine_theory.specs.declared.fault.{Fault.{Fault}, Fault.TheVariants.{Unmapped, Alignment}}
use Rattle.machine_theory.specs.declared.sizes.TheConstants.{GRANULE_BYTES}
use Rattle.std.specs.Prelude.{ℕ, ◌+◌, ◌-◌, ◌*◌, ◌%◌, ◌^◌, ◌==◌, if◌then◌else◌, List, length, replicate, bit_or, Result, Ok, Err, Option}
use Rattle.std.specs.Prelude.{Some, None}

-- GCR_EL1.Exclude: tag 0
abbrev pub gcr_exclude : ℕ
gcr_exclude = 1

-- ---- IRG Xd, Xn, Xm: Xn with a random tag

-- the tag that is chosen from `tag` on, by the offset that the seed gives, among those that are neither excluded nor 0; 0 where all others
-- are excluded
unfoldable pub drawn_tag : ℕ → ℕ → ℕ → ℕ
drawn_tag tag seed exclude = choose_tag tag (next_offset seed) (bit_or exclude gcr_exclude)

-- the low sixteen bits of Xm exclude tags
abbrev pub irg_tag : Machine → ℕ → ℕ
irg_tag m xm = drawn_tag m.tag m.seed (xm % 2 ^ 16)

abbrev pub irg : Machine → ℕ → ℕ → ℕ
irg m xn xm = with_tag xn (irg_tag m xm)

-- the machine afterwards
abbrev pub after_irg : Machine → ℕ → Machine
after_irg m xm = record m { seed = next_seed m.seed; tag = irg_tag m xm }

-- ---- ADDG, SUBG Xd, Xn, u6, u4: Xn, moved u6 granules up or down, modulo 2 ^ 64; both choose its tag from Xn's on, by the offset u4

unfoldable pub addg : ℕ → ℕ → ℕ → ℕ
addg xn u6 u4 = with_tag ((xn + GRANULE_BYTES * u6) % 2 ^ 64) (choose_tag (logical_tag xn) u4 gcr_exclude)

unfoldable pub subg : ℕ → ℕ → ℕ → ℕ
subg xn u6 u4 = with_tag ((xn + (2 ^ 64 - GRANULE_BYTES * u6)) % 2 ^ 64) (choose_tag (logical_tag xn) u4 gcr_exclude)

-- ---- GMI Xd, Xn, Xm: the mask Xm that excludes Xn's tag too

unfoldable pub gmi : ℕ → ℕ → ℕ
gmi xn xm = bit_or xm (2 ^ logical_tag xn)

-- ---- LDG Xt, [Xn]: Xt with the tag of Xn's granule

unfoldable pub ldg : List Granule → ℕ → ℕ → Result ℕ Fault
ldg memory xt xn =
    if is_mapped (length memory) (aligned xn) GRANULE_BYTES then Ok (with_tag xt (tag_at memory (granule_of (place_of xn)))) else Err
    Unmapped

-- ---- STG, ST2G, STZG Xt, [Xn]: Xt's tag to granules from Xn on

-- the fault of a store of tags to `count` granules, or None where it succeeds
unfoldable pub tag_store_fault : List Granule → ℕ → ℕ → Option Fault
tag_store_fault memory count xn =
    if xn % GRANULE_BYTES == 0 then (if is_mapped (length memory) xn (GRANULE_BYTES * count) then None else Some Unmapped) else Some
    Alignment

-- the memory that STG leaves where it succeeds: one granule has the tag
abbrev pub stg : List Granule → ℕ → ℕ → List Granule
stg memory xt xn = tagged (granule_of (place_of xn)) 1 (logical_tag xt) memory

-- ST2G: two adjacent granules have it
abbrev pub st2g : List Granule → ℕ → ℕ → List Granule
st2g memory xt xn = tagged (granule_of (place_of xn)) 2 (logical_tag xt) memory

-- STZG: as STG, and the granule's bytes are 0
abbrev pub stzg : List Granule → ℕ → ℕ → List Granule
stzg memory xt xn = written (GRANULE_BYTES * granule_of (place_of xn)) (replicate GRANULE_BYTES 0) (stg memory xt xn)
