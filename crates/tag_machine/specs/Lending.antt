-- What a `&mut` into a machine's memory makes of the machine.
use Rattle.std.specs.{Borrow.{Lends, MutBor, Fml}, Prelude.{List}}
use Rattle.machine_theory.specs.{Machine.{Machine as State}, Memory.{Granule}}
use Rattle.granule_memory.specs.contracts.memory.Memory.{the_row as memory_row}
use Rattle.tag_machine.specs.contracts.machine.Machine.{the_row}

-- the machine ends with the memory that the reference last had, and with the same register
abbrev pub LendsMemory : MutBor State → MutBor (List Granule) → Fml
LendsMemory machine memory = Lends the_row memory_row machine memory (λ last. record machine.now { memory = last })
