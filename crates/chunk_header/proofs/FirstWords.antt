-- The first word with another link, that of a released slot, and that of a slot in quarantine.
use Rattle.std.proofs.Common.{◌≡◌, ℕ, ◌+◌, ◌*◌, ◌/◌, ◌%◌, ◌^◌, arith}
use Rattle.heap_theory.proofs.HeaderWords.{code_fits, code_of-standing_of}
use Rattle.heap_theory.specs.{Header.{Header, Standing, code_of, first_word, header_of}, Header.Standing.{Freed, Quarantined}}

pub first_word-with_next : (first second next : ℕ) →
    first_word (record (header_of first second) { next = next }) ≡ first % 2 ^ 32 + 2 ^ 32 * next
first_word-with_next first second next = let code = code_of-standing_of (first % 2 ^ 2) (omega arith) in omega arith

pub first_word-freed : (first second next : ℕ) →
    first_word (record (header_of first second) { standing = Freed; next = next }) ≡ first % 2 ^ 32 / 2 ^ 2 * 2 ^ 2 + 3 + 2 ^ 32 * next
first_word-freed first second next = omega arith

pub first_word-quarantined : (first second : ℕ) →
    first_word (record (header_of first second) { standing = Quarantined; next = 0 }) ≡ first % 2 ^ 32 / 2 ^ 2 * 2 ^ 2 + 2
first_word-quarantined first second = omega arith

-- a header with another standing and link
abbrev pub relinked : (Standing → Standing) → ℕ → Header → Header
relinked standing next header = record header { standing = standing header.standing; next = next }

-- its first word is that of this header
pub header_of-relinked : (standing : Standing → Standing) (first second next : ℕ) →
    let header = relinked standing next (header_of first second) in header_of (first_word header) second ≡ header
header_of-relinked standing first second next =
    let header = relinked standing next (header_of first second) in
    let word = first_word header in
    let few = code_fits header.standing in
    let code_is : word % 2 ^ 2 ≡ code_of header.standing = omega arith in
    grind arith
