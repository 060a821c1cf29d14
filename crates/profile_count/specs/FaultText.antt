-- How a fault of a profile's line is shown: by its code and its name.
use Rattle.std.specs.Prelude.{ℕ, List, codes}
use Rattle.profile_count.specs.declared.fault.ProfileFault.{ProfileFault}
use Rattle.profile_count.specs.declared.fault.ProfileFault.TheVariants.{BadLine, NotAscending, CountOutOfRange}

abbrev pub shown_profile_fault : ProfileFault → List ℕ
shown_profile_fault BadLine = codes "30 BadLine"
shown_profile_fault NotAscending = codes "31 NotAscending"
shown_profile_fault CountOutOfRange = codes "32 CountOutOfRange"
