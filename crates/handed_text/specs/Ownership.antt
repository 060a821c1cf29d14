-- What a handle owns: the value that its pointer leads to, and the right to free that block; nothing if it has none. The right is the same
-- for each `Global`.
use Rattle.std.specs.{Box.Ownership.{box_owns}, Global.{Global}, Prelude.{Option, Some, None}}
use base.Fml.{Fml, ftrue}
use denote.{RattleType.{RattleType}, RawPtr.{Ptr}}
use Rattle.std_heap.specs.contracts.GlobalAllocator.TheImpl.{ghosts}

abbrev pub global : Global
global = record { memory = record { seal = tt } }

abbrev pub handle_owns : (T : RattleType) → Ptr → Option T.Denot → Fml
handle_owns T at None = ftrue
handle_owns T at (Some value) = box_owns (ghosts.dealloc_token global) T at value
