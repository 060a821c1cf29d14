-- What a `&mut [u8]` into a region makes of it: the region ends as the last bytes.
use Rattle.std.specs.{Borrow.{u8, Array, Fml, Lends, MutBor}, Prelude.{ℕ, List}}
use Rattle.raw_region.specs.contracts.region.RawRegion.{the_row}

abbrev pub LendsBytes : MutBor (List ℕ) → MutBor (List ℕ) → Fml
LendsBytes region slice = Lends the_row (Array u8 0) region slice (λ bytes. bytes)
