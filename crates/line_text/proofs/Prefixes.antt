-- Lists that begin with another list.
use Rattle.std.proofs.Common.{◌≡◌, List, [], sym, ◌∙◌, append_assoc, append-nil, arith}
use Rattle.line_text.specs.Prefixes.{IsPrefix}

-- A list is a prefix of an equal one,
pub equal_is_prefix : {A : Type 0} (a b : List A) → a ≡ b → IsPrefix a b
equal_is_prefix a b is = record { after = []; is = sym is ∙ sym (append-nil a) }

-- and a prefix of a prefix is one of the whole list.
pub prefix_of_prefix : {A : Type 0} (a b c : List A) → IsPrefix a b → IsPrefix b c → IsPrefix a c
prefix_of_prefix a b c first second = grind (arith, append_assoc)
