-- The numbers of the first line of a text, read from the front of the text.
use Rattle.std.proofs.Common.{◌≡◌, ℕ, ◌-◌, ◌^◌, ◌<◌, ◌∙◌, min, List, [], ◌∷◌, ◌++◌, append-nil, append_assoc, length, length-append, drop}
use Rattle.std.proofs.{Common.{refl, sym, ap, arith, Option, Some, slice_get}, lemmas.List.Elements.{All-append, All-cons, All-nil}}
use Rattle.std.{specs.Option.{option_map}}
use Rattle.line_text.proofs.Cuts.{line_alone, line_in_front_is_read, lines-nil, words_make_a_line, written_words_are_read}
use Rattle.line_text.{proofs.Digits.{none_equal}, proofs.LeadingDigits.{are_digits, short_is_number}, specs.Rows.{IsRow, IsRowSoFar, SpellNumbers}}
use Rattle.line_text.specs.{Lines.{lines, line_of, IsLine, IsWord}, Numbers.{leading_digits, leading_number_of, number_of}}

digits_are_a_word : (text : List ℕ) → IsWord (leading_digits text)
digits_are_a_word text = none_equal 32 (omega arith) (leading_digits text) (are_digits text)

digits_are_in_line : (text : List ℕ) → IsLine (leading_digits text)
digits_are_in_line text = none_equal 10 (omega arith) (leading_digits text) (are_digits text)

some_digits : (word : List ℕ) (n : ℕ) → number_of word ≡ Some n → 0 < length word
unfolding number_of
some_digits word n is = grind arith

-- one word more
line_of-more : (w : List ℕ) (ws : List (List ℕ)) (d : List ℕ) → line_of ((w ∷ ws) ++ d ∷ []) ≡ line_of (w ∷ ws) ++ 32 ∷ d
line_of-more w [] d = refl
line_of-more w (v ∷ ws) d = grind (arith, line_of-more v ws d, append_assoc)

SpellNumbers-more : (ws : List (List ℕ)) (xs : List ℕ) (word : List ℕ) (n x : ℕ) → SpellNumbers ws xs → number_of word ≡ Some n
    → x ≡ min n (2 ^ 32 - 1) → SpellNumbers (ws ++ word ∷ []) (xs ++ x ∷ [])
SpellNumbers-more [] [] word n x are is value = ((n, is, value), tt)
SpellNumbers-more (w ∷ ws) (y ∷ xs) word n x are is value = (are.0, SpellNumbers-more ws xs word n x are.1 is value)
SpellNumbers-more [] (y ∷ xs) word n x are is value = absurd are
SpellNumbers-more (w ∷ ws) [] word n x are is value = absurd are

pub row-first : (text rest : List ℕ) (n : ℕ) → Some n ≡ leading_number_of text → text ≡ leading_digits text ++ rest
    → IsRowSoFar text rest n []
row-first text rest n is cut = grind (arith, short_is_number, All-cons, digits_are_a_word, All-nil, digits_are_in_line, some_digits)

pub row-more : (text rest more after : List ℕ) (first : ℕ) (numbers : List ℕ) (n x : ℕ) → IsRowSoFar text rest first numbers
    → rest ≡ 32 ∷ more → Some n ≡ leading_number_of more → more ≡ leading_digits more ++ after → x ≡ min n (2 ^ 32 - 1)
    → IsRowSoFar text after first (numbers ++ x ∷ [])
row-more text rest more after first numbers n x row space is cut value =
    let d = leading_digits more in
    let line = line_of (row.word ∷ row.ws) in
    let tail : rest ≡ (32 ∷ d) ++ after = space ∙ ap (λ (t : List ℕ). 32 ∷ t) cut in
    record {
      word = row.word;
      ws = row.ws ++ d ∷ [];
      text_is = grind (arith, append_assoc, line_of-more);
      are_words = All-append IsWord (row.word ∷ row.ws) (d ∷ []) row.are_words
          (All-cons IsWord d [] (digits_are_a_word more) (All-nil _));
      are_lines = All-append IsLine (row.word ∷ row.ws) (d ∷ []) row.are_lines
          (All-cons IsLine d [] (digits_are_in_line more) (All-nil _));
      some = row.some;
      first_is = row.first_is;
      numbers_are = SpellNumbers-more row.ws numbers d n x row.numbers_are (short_is_number d n (sym is)) value;
    }

-- a number that was read, as it stands in its place
pub record IsPut (read : Option ℕ) (x : ℕ) : Type 0 where
  pub n : ℕ
  pub is : Some n ≡ read
  pub value : x ≡ min n (2 ^ 32 - 1)

pub is_put : (read : Option ℕ) (x : ℕ) → option_map (λ n. min n (2 ^ 32 - 1)) read ≡ Some x → IsPut read x
is_put read x e = grind arith

-- the row is a line
module _ (text rest : List ℕ) (first : ℕ) (numbers : List ℕ) (row : IsRowSoFar text rest first numbers) where
  abbrev line : List ℕ
  line = line_of (row.word ∷ row.ws)

  row-is : IsRow (Some line) first numbers
  row-is = rw (written_words_are_read row.word row.ws row.are_words) (row.first_is, row.numbers_are)

  in_line : IsLine line
  in_line = words_make_a_line (row.word ∷ row.ws) row.are_lines

  some_line : 0 < length line
  some_line = grind (arith, length-append)

  -- the last one, without its newline
  last-lines : rest ≡ [] → lines text ≡ line ∷ []
  last-lines none = grind (arith, append-nil, line_alone, some_line, in_line)

  pub row-last : rest ≡ [] → IsRow (slice_get (lines text) 0) first numbers
  row-last none = rw (last-lines none) row-is

  pub after-last : rest ≡ [] → lines rest ≡ drop 1 (lines text)
  after-last none = rw (none, last-lines none) (lines-nil [] refl)

  -- or one with it
  ended-lines : (more : List ℕ) → rest ≡ 10 ∷ more → lines text ≡ line ∷ lines more
  ended-lines more newline = grind (arith, line_in_front_is_read, in_line)

  pub row-ended : (more : List ℕ) → rest ≡ 10 ∷ more → IsRow (slice_get (lines text) 0) first numbers
  row-ended more newline = rw (ended-lines more newline) row-is

  pub after-ended : (more : List ℕ) → rest ≡ 10 ∷ more → lines more ≡ drop 1 (lines text)
  after-ended more newline = rw (ended-lines more newline) refl
