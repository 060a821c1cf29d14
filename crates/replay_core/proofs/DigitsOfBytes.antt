-- The digits of the first bytes are the first digits.
use Rattle.std.proofs.Common.{◌≡◌, ℕ, zero, suc, ◌+◌, ◌*◌, ◌≤◌, List, [], ◌∷◌, ◌++◌, ◌∙◌, length, take, refl, ap, arith}
use Rattle.std.{proofs.lemmas.List.{take-take}, specs.List.{flat_map}}
use Rattle.line_text.specs.Hexadecimal.{hex}
use Rattle.replay_core.proofs.Written.{written_to}

first_digits : (k : ℕ) (bytes : List ℕ) → take (2 * k) (flat_map hex bytes) ≡ flat_map hex (take k bytes)
first_digits zero bytes = refl
first_digits (suc k) [] = let two : 2 * suc k ≡ suc (suc (2 * k)) = omega arith in rw two refl
first_digits (suc k) (byte ∷ bytes) =
    let two : 2 * suc k ≡ suc (suc (2 * k)) = omega arith in rw two (ap (λ digits. hex byte ++ digits) (first_digits k bytes))

-- a text to the digits of `most` bytes is right to those of fewer
pub digits_to : (bytes text front : List ℕ) (at len most : ℕ) → length front ≡ at → len ≤ most →
    take (at + 2 * most) text ≡ front ++ flat_map hex (take most bytes) →
    take (at + 2 * len) text ≡ front ++ flat_map hex (take len bytes)
digits_to bytes text front at len most long fewer is =
    written_to text front (flat_map hex (take most bytes)) at (2 * len) (2 * most) long (omega (arith, fewer)) is
    ∙ ap (λ digits. front ++ digits) (first_digits len (take most bytes) ∙ ap (flat_map hex) (take-take len most bytes fewer))
