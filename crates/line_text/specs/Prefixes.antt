-- Lists that begin with another list.
use Rattle.std.specs.Prelude.{◌≡◌, List, ◌++◌}

-- The list is the prefix, perhaps with something after it.
pub record IsPrefix {A : Type 0} (prefix list : List A) : Type 0 where
  pub after : List A
  pub is : list ≡ prefix ++ after
