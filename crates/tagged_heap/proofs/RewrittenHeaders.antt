-- Headers of slots in a memory that changes.
use Rattle.std.proofs.{Common.{arith, ◌≡◌, ℕ, ◌<◌, List, length, slice_set}, lemmas.List.{get_or-set_same, get_or-set_other}}
use Rattle.machine_theory.specs.Memory.{Granule, IsMemory, tagged}
use Rattle.class_table.specs.Layout.{Partition, IsPartition, slot_of, slot_count}
use Rattle.chunk_header.specs.{HeaderWrite.{WritesHeader}, Links.{SetsLink}}
use Rattle.heap_theory.proofs.Regions.{length-headers_of, region_of-header, region_of-read, region_of-tagged}
use Rattle.heap_theory.specs.{Header.{Header, FitsWords, with_header}, Region.{header_in, headers_of, region_of}}
use Rattle.heap_theory.specs.State.{without_headers}
use Rattle.tagged_heap.specs.Representation.{IsRewritten}

-- one header of the region is another
pub as_rewritten : (layout : Partition) (old new : List Granule) (s : ℕ) (header : Header) (seen : List Granule) → s < slot_count layout →
    region_of layout new ≡ record { headers = slice_set (headers_of layout old) s header; granules = seen } →
    IsRewritten layout old new s header seen
as_rewritten layout old new s header seen within set = grind (arith, get_or-set_other, get_or-set_same, length-headers_of)

pub written_header : (layout : Partition) (m : List Granule) (s : ℕ) (header : Header) → IsMemory m → IsPartition layout →
    length m ≡ layout.granules → s < slot_count layout → FitsWords header →
    IsRewritten layout m (with_header m (slot_of layout s).start header) s header (without_headers layout m)
written_header layout m s header is partition long within fits =
    as_rewritten layout m (with_header m (slot_of layout s).start header) s header (without_headers layout m) within
    (region_of-header layout partition m s header is long within fits)

pub header_written : (layout : Partition) (old new : List Granule) (s n : ℕ) (header : Header) → IsPartition layout → IsMemory old →
    s < slot_count layout → WritesHeader old new (slot_of layout s).start n header →
    IsRewritten layout old new s header (without_headers layout old)
header_written layout old new s n header partition is within w =
    as_rewritten layout old new s header (without_headers layout old) within
    (region_of-read layout partition old new s header is within w.written w.read)

pub link_set : {layout : Partition} {old new : List Granule} {s next : ℕ} → SetsLink layout old new s next → s < slot_count layout →
    IsRewritten layout old new s (record (header_in (region_of layout old) s) { next = next }) (without_headers layout old)
link_set {layout} {old} {new} {s} {next} set within =
    as_rewritten layout old new s (record (header_in (region_of layout old) s) { next = next }) (without_headers layout old) within
    set.region

pub then_written : {layout : Partition} {a b c x y : List Granule} {s : ℕ} {one other : Header} → IsRewritten layout a b s one x →
    IsRewritten layout b c s other y → IsRewritten layout a c s other y
then_written first second = grind arith

pub then_tagged : {layout : Partition} {a b x : List Granule} {s : ℕ} {header : Header} → (first count tag : ℕ) →
    IsRewritten layout a b s header x → IsRewritten layout a (tagged first count tag b) s header (tagged first count tag x)
then_tagged {layout} {a} {b} {x} {s} {header} first count tag r =
    let same = region_of-tagged layout first count tag b in grind arith
