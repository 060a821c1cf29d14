-- Reading the numbers of a line, word by word.
use Rattle.std.proofs.Common.{◌≡◌, ℕ, ◌<◌, ◌≤◌, Bool, true, List, [], ◌∷◌, ◌++◌, length, Option, Some, None, option_map, drop, refl}
use Rattle.std.{proofs.Common.{slice_get, arith, leb, length-append, append_assoc, append-nil, option_and_then}, specs.List.{list_all}}
use Rattle.std.proofs.lemmas.{Bool.{and_left, and_right, lt-leb, le-leb}, List.Folds.{list_all-append}}
use Rattle.class_table.specs.{NamedLines.{numbers_of}, declared.sizes.TheConstants.{MOST_NEEDS}}
use Rattle.line_text.specs.{Numbers.{number_of, classified}, declared.number.Number.{Number}, declared.number.Number.TheVariants.{Value}}
use Rattle.potential_check.specs.SheetText.{fits, is_row, only_one, passing, row_of_words}

-- ---- what a word is

pub value_passes : (o : Option ℕ) (n : ℕ) → Value n ≡ classified o → passing fits o ≡ Some n
value_passes o n is = grind arith

pub no_value_passes : (o : Option ℕ) (read : Number) → read ≡ classified o → ((n : ℕ) → read ≡ Value n → ⊥) → passing fits o ≡ None
no_value_passes o read is also = grind arith

-- the word that was read as a number
pub record IsNextWord (old new : List (List ℕ)) (read : Number) : Type 0 where
  pub word : List ℕ
  pub parts : old ≡ word ∷ new
  pub says : read ≡ classified (number_of word)

pub next_word : (old new : List (List ℕ)) (read : Number) → Some read ≡ option_map (λ word. classified (number_of word)) (slice_get old 0) →
    new ≡ drop 1 old
    → IsNextWord old new read
next_word old new read is also = grind arith

abbrev no_read : Option Number
no_read = None

pub no_next_word : (old : List (List ℕ)) → no_read ≡ option_map (λ word. classified (number_of word)) (slice_get old 0) → old ≡ []
no_next_word [] none = refl
no_next_word (w ∷ ws) none = absurd cc

-- ---- a single number

abbrev pub only : List (List ℕ) → Option ℕ
only ws = passing fits (option_and_then only_one (numbers_of ws))

-- no words are no number alone,
pub only-none : only [] ≡ None
unfolding numbers_of
only-none = refl

-- and neither are two words or more;
pub only-more : (w x : List ℕ) (ws : List (List ℕ)) → only (w ∷ x ∷ ws) ≡ None
unfolding numbers_of
only-more w x ws = grind arith

-- one word is what it spells.
pub only-one : (w : List ℕ) → only (w ∷ []) ≡ passing fits (number_of w)
unfolding numbers_of
only-one w = grind arith

-- ---- what passed a test

pub passing-some : {A : Type 0} (test : A → Bool) (o : Option A) (x : A) → passing test o ≡ Some x → (o ≡ Some x) × (test x ≡ true)
passing-some test o x is = grind arith

-- ---- the numbers of a row, where some are read already

-- The row of which these numbers were read, and which goes on with these words.
abbrev pub row_on : List ℕ → List (List ℕ) → Option (List ℕ)
row_on front ws = passing is_row (option_map (λ ns. front ++ ns) (numbers_of ws))

pub record RowSoFar (all rest : List (List ℕ)) (front : List ℕ) : Type 0 where
  pub read : row_of_words all ≡ row_on front rest
  pub few : length front ≤ MOST_NEEDS
  pub small : list_all fits front ≡ true

-- a word that is no number of at most 64 bits
pub row_on-no_number : (front : List ℕ) (rest new : List (List ℕ)) (w : List ℕ) → rest ≡ w ∷ new → passing fits (number_of w) ≡ None →
    row_on front rest ≡ None
unfolding numbers_of
row_on-no_number front rest new w parts none = grind (arith, and_right, leb, list_all-append, option_map)

-- a word more than a row has room for
pub row_on-full : (front : List ℕ) (rest new : List (List ℕ)) (w : List ℕ) → rest ≡ w ∷ new → length front ≡ MOST_NEEDS →
    row_on front rest ≡ None
unfolding numbers_of
row_on-full front rest new w parts full = grind (arith, and_left, lt-leb, length-append, option_map)

-- a number more
pub row_on-more : (all rest new : List (List ℕ)) (w front : List ℕ) (n : ℕ) → RowSoFar all rest front → rest ≡ w ∷ new →
    passing fits (number_of w) ≡ Some n
    → length front < MOST_NEEDS → RowSoFar all new (front ++ n ∷ [])
unfolding numbers_of
row_on-more all rest new w front n so_far parts passes room = grind (arith, passing-some, length-append, list_all-append, option_map, append_assoc)

-- no word more
pub row_on-end : (all rest : List (List ℕ)) (front : List ℕ) → RowSoFar all rest front → rest ≡ [] → row_of_words all ≡ Some front
unfolding numbers_of
row_on-end all rest front so_far none = grind (arith, append-nil, le-leb)
