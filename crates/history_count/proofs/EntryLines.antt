-- The line of an entry: the entry is read from it, and from no other line.
use Rattle.std.proofs.Common.{◌≡◌, ℕ, ◌≤◌, ◌<◌, ◌^◌, Bool, false, List, [], ◌∷◌, length, map, Option, Some, Ok, refl, sym, ◌∙◌, arith}
use Rattle.std.proofs.{Common.{codes}, lemmas.Bool.{leb-true}, lemmas.Slice.Eq.{bytes_eq-Decides}}
use Rattle.std.specs.Fmt.{decimal}
use Rattle.class_table.proofs.LawLemmas.{AreSmall, IsName, line_of_read_numbers, named_line_is_full, named_numbers_are_read, plain_name}
use Rattle.class_table.{proofs.LawLemmas.{words_of_named_line}, specs.NamedLines.{named_line, numbers_in, numbers_of}}
use Rattle.class_table.specs.Sizes.{largest_counted}
use Rattle.line_text.{proofs.LawLemmas.{text_laws as laws}, specs.Lines.{IsFullLine, words}, specs.Numbers.{number_of}}
use Rattle.profile_count.proofs.LawLemmas.{number_is_not_large}
use Rattle.history_count.{proofs.Entries.{IsGood, entry_with-good, few-from_all}, specs.declared.line.Subject.{Subject}}
use Rattle.history_count.specs.HistoryText.{Entry, entry_of, entry_with_numbers, subject_of}
use Rattle.history_count.specs.declared.line.Subject.TheVariants.{Large, Size}

abbrev pub first_word : Subject → List ℕ
first_word (Size size) = decimal size
first_word Large = codes "large"

abbrev pub entry_line : Entry → List ℕ
entry_line entry = named_line (first_word entry.subject) entry.counts

-- What a line may count.
abbrev pub IsSubject : Subject → Type 0
IsSubject (Size size) = size ≤ largest_counted
IsSubject Large = Unit {0}

pub record IsNext (count next : ℕ) (entry : Entry) : Type 0 where
  pub subject : IsSubject entry.subject
  pub good : IsGood count next entry

-- ---- from an entry to its line

decimal-some : (n : ℕ) → n < 2 ^ 64 → 0 < length (decimal n)
unfolding number_of
decimal-some n small = grind (arith, laws)

first_word-is_name : (subject : Subject) → IsSubject subject → IsName (first_word subject)
first_word-is_name (Size size) is =
    let small : size < 2 ^ 64 = omega (arith, is) in
    record { line = (laws.word size small).0; word = (laws.word size small).1; some = decimal-some size small }
first_word-is_name Large is = plain_name (codes "large") refl (omega arith)

counts-small : (count next : ℕ) (entry : Entry) → IsNext count next entry → AreSmall entry.counts
counts-small count next entry is = grind arith

-- the numbers of the words after a name
numbers_after : (name line : List ℕ) (ws : List (List ℕ)) → words line ≡ name ∷ ws → numbers_in name line ≡ numbers_of ws
numbers_after name line ws is = grind (arith, bytes_eq-Decides)

module _ (count next : ℕ) (entry : Entry) (is : IsNext count next entry) where
  name : IsName (first_word entry.subject)
  name = first_word-is_name entry.subject is.subject

  small : AreSmall entry.counts
  small = counts-small count next entry is

  -- An entry's line is one, and is not empty;
  pub entry_line-full : IsFullLine (entry_line entry)
  entry_line-full = named_line_is_full (first_word entry.subject) entry.counts name small

  -- the entry is read from it.
  pub entry_of-line : entry_of count next false (words (entry_line entry)) ≡ Ok entry
  entry_of-line =
      let first = first_word entry.subject in
      let ws = words_of_named_line first entry.counts name small in
      let numbers =
      sym (numbers_after first (entry_line entry) (map decimal entry.counts) ws)
      ∙ named_numbers_are_read first entry.counts name small in
      grind (arith, few-from_all, laws, number_is_not_large)

-- ---- from a line to the entry that is read from it

record IsFirst (first : List ℕ) (subject : Subject) : Type 0 where
  may_come : IsSubject subject
  spelled : first ≡ first_word subject

subject_read : (first : List ℕ) (subject : Subject) → subject_of first ≡ Some subject → IsFirst first subject
subject_read first subject e = grind (arith, bytes_eq-Decides, leb-true, laws.spelled)

-- A line that is read as an entry is its line; no `large` line came before it.
pub record IsReadEntry (count next : ℕ) (is_ended : Bool) (line : List ℕ) (entry : Entry) : Type 0 where
  pub open_still : is_ended ≡ false
  pub next_is : IsNext count next entry
  pub spelled : line ≡ entry_line entry

numbers-read : (count next : ℕ) (line first : List ℕ) (ws : List (List ℕ)) (subject : Subject) (counts : List ℕ) (entry : Entry) → words line ≡ first ∷ ws → subject_of first ≡ Some subject
    → numbers_of ws ≡ Some counts → entry_with_numbers count next (Some subject) (Some counts) ≡ Ok entry
    → IsReadEntry count next false line entry
numbers-read count next line first ws subject counts entry parts f g e =
    let good = entry_with-good count next subject counts entry e in
    let read = subject_read first subject f in
    grind (arith, numbers_after first line ws parts, counts-small count next entry, line_of_read_numbers first line counts)

pub entry_line-read : (count next : ℕ) (is_ended : Bool) (line : List ℕ) (entry : Entry)
    → entry_of count next is_ended (words line) ≡ Ok entry → IsReadEntry count next is_ended line entry
entry_line-read count next is_ended line entry e = go (words line) refl
  where
    go : (ws : List (List ℕ)) → words line ≡ ws → IsReadEntry count next is_ended line entry
    go [] parts = let none = rw parts at e in absurd cc
    go (first ∷ ws) parts = by_numbers (subject_of first) refl (numbers_of ws) refl
      where
        by_numbers : (o : Option Subject) → subject_of first ≡ o → (p : Option (List ℕ)) → numbers_of ws ≡ p
            → IsReadEntry count next is_ended line entry
        by_numbers (Some subject) f (Some counts) g = grind (arith, numbers-read count next line first ws subject counts entry parts f g)
        by_numbers o f p g = grind arith
