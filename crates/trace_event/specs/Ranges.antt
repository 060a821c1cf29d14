-- The ranges of an event's numbers: those of each event that a trace spells, and that a replay takes.
use Rattle.std.specs.Prelude.{ℕ, ◌<◌, ◌≤◌, ◌^◌, ℤ, nat_abs}
use Rattle.trace_event.specs.declared.event.{Event.{Event}, Event.TheVariants.{Malloc, Calloc, Realloc, Free, Load, Store, Addg, Subg}}
use Rattle.trace_event.specs.declared.event.TheConstants.Event.{LAST_VARIABLE, LARGEST_REQUEST, LONGEST_ACCESS, FARTHEST_ACCESS}
use Rattle.trace_event.specs.declared.event.TheConstants.Event.{FARTHEST_MOVE, LARGEST_TAG_STEP}

abbrev pub IsVariable : ℕ → Type 0
IsVariable v = v ≤ LAST_VARIABLE

-- A request for a variable.
abbrev pub IsRequest : ℕ → ℕ → Type 0
IsRequest v n = IsVariable v × (n ≤ LARGEST_REQUEST)

-- An access of at least one byte, near a variable's address.
abbrev pub IsAccessOf : ℕ → ℤ → ℕ → Type 0
IsAccessOf v off len = IsVariable v × (nat_abs off ≤ FARTHEST_ACCESS) × (1 ≤ len) × (len ≤ LONGEST_ACCESS)

-- A variable that is set to another one's address, moved by granules and tags.
abbrev pub IsMove : ℕ → ℕ → ℕ → ℕ → Type 0
IsMove v w u6 u4 = IsVariable v × IsVariable w × (u6 ≤ FARTHEST_MOVE) × (u4 ≤ LARGEST_TAG_STEP)

abbrev pub IsInRange : Event → Type 0
IsInRange (Malloc v n) = IsRequest v n
IsInRange (Calloc v n) = IsRequest v n
IsInRange (Realloc v n) = IsRequest v n
IsInRange (Free v) = IsVariable v
IsInRange (Load v off len) = IsAccessOf v off len
IsInRange (Store v off len byte) = IsAccessOf v off len × (byte < 2 ^ 8)
IsInRange (Addg v w u6 u4) = IsMove v w u6 u4
IsInRange (Subg v w u6 u4) = IsMove v w u6 u4
