-- A `&` to a region is made of a borrow of it. It lends the bytes, and not the right to free them.
use mathlib.Core.Path.{refl}
use base.Fraction.{full_share}
use contract.BorrowLft.{⊑_static}
use denote.{Array.{Array, Array-row_laws}, Builtin.{u8}, Param.Laws.{Laws, of_field}, Param.Shared.{copy_shared}, RawPtr.{lies_at}}
use denote.{Shares.{Shares-less, Shares-Array}, Struct.Field.{RawPtr-field, usize-field, u8-field}}
use denote.Struct.{Laws.{RawPtr-copy, usize-copy, u8-laws, u8-copy}, Lending.{lent_at, lent_at_shr_laws, Lends-lies, Lends-first, of_Lends}}
use Rattle.std.specs.{Allocator.{array_of}, contracts.impls.GlobalAllocator.TheImpl.{ghosts}}
use Rattle.raw_region.proofs.region.RawRegion.TheLaw.Statement.{statement}
use Rattle.std.specs.contracts.alloc.Global as Heap
use Rattle.std.proofs.alloc.Global.TheLaws as heap
use Rattle.raw_region.specs.contracts.region.RawRegion.TheInside as C

byte_laws : Laws u8
byte_laws = of_field u8-field u8-laws refl (copy_shared u8-field u8-copy)

pub shares : statement
shares =
    of_Lends C.struct (C.the_codes Heap.the_row.coded) C.the_heap C.the_lent
    (λ d p. lent_at_shr_laws (Array u8 d.len) (Array-row_laws u8 byte_laws.shr_laws d.len) d.ptr d.bytes)
    (copy_shared RawPtr-field RawPtr-copy, (copy_shared usize-field usize-copy, (heap.the_field_shared, tt)))
    (λ M 𝓤 𝓛 d p.
    let l = C.the_row.lives in
    Lends-first 𝓛 (lies_at (Array u8 d.len) full_share d.ptr d.bytes) (ghosts.dealloc_token d.alloc (array_of u8 d.len) d.ptr)
    (lent_at (Array u8 d.len) d.ptr d.bytes) l
    (Lends-lies 𝓛 (Array u8 d.len) l d.ptr d.bytes
    (Shares-Array 𝓛 u8 tt d.len l (Shares-less 𝓛 u8 u8.lives l (⊑_static l) (byte_laws.shares 𝓛)) d.bytes)))
