-- The line of an entry: the entry is read from it, and from no other line.
use Rattle.std.proofs.Common.{◌≡◌, ℕ, ◌≤◌, ◌<◌, Bool, true, false, List, [], ◌∷◌, length, Option, Some, None, Ok, refl, sym, ap, ◌∙◌, arith}
use Rattle.std.proofs.{Common.{codes, ltb, length-append}, lemmas.Bool.{ltb-false, false_from_ne_true}}
use Rattle.std.{proofs.lemmas.List.Elements.{All-nil, All-cons}, proofs.lemmas.Slice.Eq.{bytes_eq-Decides}, specs.Fmt.{decimal}}
use Rattle.std.specs.Str.{bytes_eq}
use Rattle.line_text.{proofs.LawLemmas.{text_laws as laws}, specs.Lines.{words, line_of, IsLine, IsWord}, specs.Numbers.{number_of}}
use Rattle.tuner_theory.specs.Profiles.{greatest_count}
use Rattle.class_table.proofs.LawLemmas.{IsName, plain_name}
use Rattle.profile_count.specs.ProfileText.{IsNext, entry_of, counted, size_entry, numbers_entry}
use Rattle.profile_count.specs.declared.entry.{Entry.{Entry}, Entry.TheVariants.{Size, Large}}

abbrev pub entry_words : Entry → List (List ℕ)
entry_words (Size size count) = decimal size ∷ decimal count ∷ []
entry_words (Large count) = codes "large" ∷ decimal count ∷ []

abbrev pub entry_line : Entry → List ℕ
entry_line entry = line_of (entry_words entry)

-- ---- from an entry to its line

large_is_no_number : number_of (codes "large") ≡ None
unfolding number_of
large_is_no_number = refl

-- a word that spells a number is not `large`
pub number_is_not_large : (word : List ℕ) (n : ℕ) → number_of word ≡ Some n → bytes_eq word (codes "large") ≡ false
number_is_not_large word n is = grind (arith, false_from_ne_true, bytes_eq-Decides, large_is_no_number)

large_is_a_name : IsName (codes "large")
large_is_a_name = plain_name (codes "large") refl (omega arith)

-- two words make a line, and are its words
two_words : (a b : List ℕ) → IsLine a × IsWord a → IsLine b × IsWord b →
    IsLine (line_of (a ∷ b ∷ [])) × (words (line_of (a ∷ b ∷ [])) ≡ a ∷ b ∷ [])
two_words a b of_a of_b = (
  laws.makes_line (a ∷ b ∷ []) (All-cons IsLine a (b ∷ []) of_a.0 (All-cons IsLine b [] of_b.0 (All-nil IsLine))),
  laws.written_words a (b ∷ []) (All-cons IsWord a (b ∷ []) of_a.1 (All-cons IsWord b [] of_b.1 (All-nil IsWord))),
)

-- an entry's line is a line, and its words are the entry's
line_of_entry : (next : ℕ) (entry : Entry) → IsNext next 0 entry →
    IsLine (entry_line entry) × (words (entry_line entry) ≡ entry_words entry)
line_of_entry next (Size size count) is =
    two_words (decimal size) (decimal count) (laws.word size (omega (arith, is.2))) (laws.word count (omega (arith, is.4)))
line_of_entry next (Large count) is =
    let name = large_is_a_name in
    two_words (codes "large") (decimal count) (name.line, name.word) (laws.word count (omega (arith, is.2)))

-- An entry's line is one;
pub entry_line-is_line : (next : ℕ) (entry : Entry) → IsNext next 0 entry → IsLine (entry_line entry)
entry_line-is_line next entry is = (line_of_entry next entry is).0

-- the entry is read from it,
pub entry_of-line : (next : ℕ) (entry : Entry) → IsNext next 0 entry → entry_of next 0 (words (entry_line entry)) ≡ Ok entry
entry_of-line next entry is = grind (arith, line_of_entry, number_is_not_large, laws)

-- and it is not empty.
pub entry_line-some : (entry : Entry) → 0 < length (entry_line entry)
entry_line-some entry = grind (arith, length-append)

-- ---- from a line to the entry that is read from it

-- These two words are those of an entry that may come where no `large` line did.
record IsRead (next : ℕ) (first second : List ℕ) (entry : Entry) : Type 0 where
  may_come : IsNext next 0 entry
  spelled : first ∷ second ∷ [] ≡ entry_words entry

-- a count that is taken is in range
counted_parts : (entry : ℕ → Entry) (count : ℕ) (read : Entry) → counted entry count ≡ Ok read →
    (entry count ≡ read) × (1 ≤ count) × (count ≤ greatest_count)
counted_parts entry count read e = grind arith

-- two numbers in range
size_read : (next : ℕ) (first second : List ℕ) (size count : ℕ) (entry : Entry) → number_of first ≡ Some size →
    number_of second ≡ Some count
    → size_entry next size count ≡ Ok entry → IsRead next first second entry
size_read next first second size count entry is_size is_count e = grind (arith, counted_parts, ltb-false, laws)

-- two numbers, where they are
numbers_read : (next : ℕ) (first second : List ℕ) (o p : Option ℕ) (entry : Entry) → number_of first ≡ o → number_of second ≡ p
    → numbers_entry next o p ≡ Ok entry → IsRead next first second entry
numbers_read next first second None p entry is_size is_count e = absurd cc
numbers_read next first second (Some size) None entry is_size is_count e = absurd cc
numbers_read next first second (Some size) (Some count) entry is_size is_count e =
    size_read next first second size count entry is_size is_count e

-- two words of either kind
two_words_read : (next large : ℕ) (first second : List ℕ) (entry : Entry) → entry_of next large (first ∷ second ∷ []) ≡ Ok entry
    → (large ≡ 0) × IsRead next first second entry
two_words_read next large first second entry e = go (ltb 0 large) refl (bytes_eq first (codes "large")) refl
  where
    go : (ended : Bool) → ltb 0 large ≡ ended → (named : Bool) → bytes_eq first (codes "large") ≡ named →
        (large ≡ 0) × IsRead next first second entry
    go true f named g = let none = rw f at e in absurd cc
    go false f true g = grind (arith, bytes_eq-Decides, ltb-false, laws)
    go false f false g = (
      omega (arith, ltb-false 0 large f),
      numbers_read next first second (number_of first) (number_of second) entry refl refl (rw (f, g) at e),
    )

-- Words that are read as an entry are its words,
entry_words-read : (next large : ℕ) (ws : List (List ℕ)) (entry : Entry) → entry_of next large ws ≡ Ok entry
    → (large ≡ 0) × IsNext next 0 entry × (ws ≡ entry_words entry)
entry_words-read next large [] entry e = absurd cc
entry_words-read next large (first ∷ []) entry e = absurd cc
entry_words-read next large (first ∷ second ∷ third ∷ ws) entry e = absurd cc
entry_words-read next large (first ∷ second ∷ []) entry e =
    let read = two_words_read next large first second entry e in
    (read.0, read.1.may_come, read.1.spelled)

-- and a line is its line; no `large` line came before it.
pub entry_line-read : (next large : ℕ) (line : List ℕ) (entry : Entry) → entry_of next large (words line) ≡ Ok entry
    → (large ≡ 0) × IsNext next 0 entry × (line ≡ entry_line entry)
entry_line-read next large line entry e =
    let read = entry_words-read next large (words line) entry e in
    (read.0, read.1, sym (laws.line line) ∙ ap line_of read.2)
