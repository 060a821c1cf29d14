-- The line of a name and numbers is read as these numbers, and no other line is.
use Rattle.std.proofs.Common.{◌≡◌, ℕ, ◌<◌, ◌^◌, Bool, true, not, ◌&&◌, List, [], ◌∷◌, length, map, Some, refl, arith, length-append, All}
use Rattle.std.proofs.lemmas.{Bool.{and_parts, not-true}, Grind.{common_steps}, List.Elements.{All-nil, All-cons, All-head, All-tail}}
use Rattle.std.{proofs.lemmas.Option.{same_Some}, proofs.lemmas.Slice.Eq.{bytes_eq-Decides}, specs.Fmt.{decimal}, specs.List.{list_all}}
use Rattle.line_text.{proofs.LawLemmas.{text_laws as laws}, specs.Lines.{words, IsFullLine, IsLine, IsWord, is_newline, is_space}}
use Rattle.line_text.specs.Numbers.{number_of}
use Rattle.class_table.specs.NamedLines.{named_line, numbers_in, numbers_of}

abbrev pub AreSmall : List ℕ → Type 0
AreSmall ns = All (λ n. n < 2 ^ 64) ns

-- ---- names

-- What can be a line's name.
pub record IsName (name : List ℕ) : Type 0 where
  pub line : IsLine name
  pub word : IsWord name
  pub some : 0 < length name

-- A byte that a name may have: no newline and no space.
abbrev pub is_plain : ℕ → Bool
is_plain b = not (is_newline b) && not (is_space b)

pub plain_name : (name : List ℕ) → list_all is_plain name ≡ true → 0 < length name → IsName name
plain_name name plain some = grind (arith, common_steps, not-true, and_parts)

-- ---- from numbers to the line

decimals-lines : (ns : List ℕ) → AreSmall ns → All IsLine (map decimal ns)
decimals-lines [] small = All-nil IsLine
decimals-lines (n ∷ ns) small =
    All-cons IsLine (decimal n) (map decimal ns) (laws.word n (All-head (λ n. n < 2 ^ 64) n ns small)).0
    (decimals-lines ns (All-tail (λ n. n < 2 ^ 64) n ns small))

decimals-words : (ns : List ℕ) → AreSmall ns → All IsWord (map decimal ns)
decimals-words [] small = All-nil IsWord
decimals-words (n ∷ ns) small =
    All-cons IsWord (decimal n) (map decimal ns) (laws.word n (All-head (λ n. n < 2 ^ 64) n ns small)).1
    (decimals-words ns (All-tail (λ n. n < 2 ^ 64) n ns small))

numbers_of-decimals : (ns : List ℕ) → AreSmall ns → numbers_of (map decimal ns) ≡ Some ns
unfolding numbers_of
numbers_of-decimals [] small = refl
numbers_of-decimals (n ∷ ns) small =
    rw (laws.read n (All-head (λ n. n < 2 ^ 64) n ns small), numbers_of-decimals ns (All-tail (λ n. n < 2 ^ 64) n ns small)) refl

-- The line is one,
pub named_line_is_line : (name ns : List ℕ) → IsName name → AreSmall ns → IsLine (named_line name ns)
named_line_is_line name ns is_name small =
    laws.makes_line (name ∷ map decimal ns) (All-cons IsLine name (map decimal ns) is_name.line (decimals-lines ns small))

pub named_line_is_full : (name ns : List ℕ) → IsName name → AreSmall ns → IsFullLine (named_line name ns)
named_line_is_full name ns is_name small = grind (arith, named_line_is_line, length-append)

-- and these are its words,
pub words_of_named_line : (name ns : List ℕ) → IsName name → AreSmall ns → words (named_line name ns) ≡ name ∷ map decimal ns
words_of_named_line name ns is_name small = grind (arith, laws, decimals-words)

-- which are read as the numbers.
pub named_numbers_are_read : (name ns : List ℕ) → IsName name → AreSmall ns → numbers_in name (named_line name ns) ≡ Some ns
named_numbers_are_read name ns is_name small = grind (arith, bytes_eq-Decides, words_of_named_line, numbers_of-decimals)

-- ---- from a line to its numbers

-- a first word that is a number, and others that are
first_number : (w : List ℕ) (ws : List (List ℕ)) (ns : List ℕ) → numbers_of (w ∷ ws) ≡ Some ns
    → (n : ℕ) × (others : List ℕ) × (number_of w ≡ Some n) × (numbers_of ws ≡ Some others) × (ns ≡ n ∷ others)
unfolding numbers_of
first_number w ws ns e = grind arith

-- words that are read as these numbers
decimals-numbers_of : (ws : List (List ℕ)) (ns : List ℕ) → numbers_of ws ≡ Some ns → AreSmall ns → ws ≡ map decimal ns
unfolding numbers_of
decimals-numbers_of [] ns e small = rw (← same_Some [] ns e) refl
decimals-numbers_of (w ∷ ws) ns e small =
    let first = first_number w ws ns e in
    let n = first.0 in
    let others = first.1 in
    let all : AreSmall (n ∷ others) = rw first.4 at small in
    let word : w ≡ decimal n = laws.spelled w n (All-head (λ n. n < 2 ^ 64) n others all) first.2 in
    let after : ws ≡ map decimal others = decimals-numbers_of ws others first.3 (All-tail (λ n. n < 2 ^ 64) n others all) in
    grind arith

-- A line that is read as these numbers is their line.
pub line_of_read_numbers : (name line ns : List ℕ) → numbers_in name line ≡ Some ns → AreSmall ns → line ≡ named_line name ns
line_of_read_numbers name line ns e small = grind (arith, laws, bytes_eq-Decides, decimals-numbers_of)
