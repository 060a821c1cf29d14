-- What a region owns and lends: its bytes from p on, and the right to free their block, which it does not lend.
use Rattle.std.specs.{Allocator.{array_of}, Borrow.{full_share, fsep, lent_at, u8, Array, Fml}, Global.{Global}, Prelude.{ℕ, List}}
use Rattle.std.specs.{Ptr.{lies_at, Ptr}, contracts.impls.GlobalAllocator.TheImpl.{ghosts}}
use base.Fml.{Lft}

abbrev pub region_owns : Global → Ptr → ℕ → List ℕ → Fml
region_owns alloc p len bytes = fsep (lies_at (Array u8 len) full_share p bytes) (ghosts.dealloc_token alloc (array_of u8 len) p)

abbrev pub region_lends : Ptr → ℕ → List ℕ → Lft → Fml
region_lends p len bytes = lent_at (Array u8 len) p bytes
