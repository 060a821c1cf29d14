-- The number that the first word of a line spells, and the number in front of the line.
use Rattle.std.proofs.Common.{◌≡◌, ◌≢◌, ℕ, ◌∙◌, List, [], ◌∷◌, ◌++◌, append-nil, length, drop, refl, sym, ap, arith, true, false, Option}
use Rattle.std.proofs.{Common.{Some, None, get_or, ◌<◌, option_and_then, slice_get, inl, inr, ◌⊎◌}, Math.Seq.{take-append_seam}}
use Rattle.std.proofs.lemmas.{Bool.{cases_Bool}, Bool.Decides.{nat_tests}, Grind.{common_steps}, List.{append_cancel_left}}
use Rattle.std.proofs.lemmas.List.{Folds.{prefix_len-append}, Splits.{slice_split_none, slice_split_at}}
use Rattle.std.specs.{Char.{is_ascii_digit}, List.{list_all, prefix_len}}
use Rattle.line_text.proofs.{Cuts.{line_is_its_words}, Digits.{none_equal}, LeadingDigits.{are_digits, all_digits_lead}}
use Rattle.line_text.specs.{Lines.{words, line_of, IsWord}, Numbers.{number_of, short_number_of, leading_digits, leading_number_of}}

pub not_digits : (word : List ℕ) → list_all is_ascii_digit word ≡ false → short_number_of word ≡ None
unfolding number_of
not_digits word other = rw other (grind (arith, nat_tests))

-- digits that end before a byte which is none are those in front
digits_before : (word after : List ℕ) → list_all is_ascii_digit word ≡ true → prefix_len is_ascii_digit after ≡ 0
    → leading_digits (word ++ after) ≡ word
digits_before word after all none = grind (arith, common_steps, prefix_len-append, all_digits_lead, nat_tests, take-append_seam)

-- a first word of digits is the digits in front of the line, and the end of the line or a space is after them
record IsFirstOf (word line : List ℕ) : Type 0 where
  pub after : List ℕ
  pub line_is : line ≡ word ++ after
  pub ends : (after ≡ []) ⊎ (slice_get after 0 ≡ Some 32)

first_of : (line word : List ℕ) (ws : List (List ℕ)) → words line ≡ word ∷ ws → IsFirstOf word line
first_of line word [] parts =
    record { after = []; line_is = sym (line_is_its_words line) ∙ ap line_of parts ∙ sym (append-nil word); ends = inl refl }
first_of line word (w ∷ ws) parts =
    record { after = 32 ∷ line_of (w ∷ ws); line_is = sym (line_is_its_words line) ∙ ap line_of parts; ends = inr refl }

no_digit_first : (after : List ℕ) → (after ≡ []) ⊎ (slice_get after 0 ≡ Some 32) → prefix_len is_ascii_digit after ≡ 0
no_digit_first [] ends = refl
no_digit_first (b ∷ after) (inl e) = absurd cc
no_digit_first (b ∷ after) (inr e) = let space : b ≡ 32 = cc in rw space refl

pub first_digits : (line word : List ℕ) (ws : List (List ℕ)) → words line ≡ word ∷ ws → list_all is_ascii_digit word ≡ true →
    leading_digits line ≡ word
first_digits line word ws parts all = grind (arith, first_of, digits_before, no_digit_first)

abbrev pub first_number_of : List ℕ → Option ℕ
first_number_of line = option_and_then short_number_of (slice_get (words line) 0)

-- where no number is in front of the line, its first word spells none,
pub no_first_number : (line : List ℕ) → leading_number_of line ≡ None → first_number_of line ≡ None
no_first_number line none = go (words line) refl
  where
    go : (ws : List (List ℕ)) → words line ≡ ws → option_and_then short_number_of (slice_get ws 0) ≡ None
    go [] parts = refl
    go (word ∷ ws) parts = grind (arith, cases_Bool, first_digits, not_digits)

no_space : (rest : List ℕ) → 0 < length rest → get_or rest 0 0 ≢ 32 → (rest ≡ []) ⊎ (slice_get rest 0 ≡ Some 32) → ⊥
no_space [] some other ends = absurd (omega (arith, some))
no_space (b ∷ rest) some other (inl e) = absurd cc
no_space (b ∷ rest) some other (inr e) = let space : b ≡ 32 = cc in other space

-- nor where a byte other than a space is after it;
pub no_word_end : (line after : List ℕ) → line ≡ leading_digits line ++ after → 0 < length after → get_or after 0 0 ≢ 32 →
    first_number_of line ≡ None
no_word_end line after cut some other = go (words line) refl
  where
    go : (ws : List (List ℕ)) → words line ≡ ws → option_and_then short_number_of (slice_get ws 0) ≡ None
    go [] parts = refl
    go (word ∷ ws) parts = grind (arith, cases_Bool, first_of, first_digits, append_cancel_left, no_space, not_digits)

-- else its digits are the first word.
are_a_word : (line : List ℕ) → IsWord (leading_digits line)
are_a_word line = none_equal 32 (omega arith) (leading_digits line) (are_digits line)

pub only_word : (line after : List ℕ) → line ≡ leading_digits line ++ after → length after ≡ 0 → words line ≡ leading_digits line ∷ []
unfolding words
only_word line after is also = grind (arith, common_steps, append-nil, slice_split_none, are_a_word)

pub word_before : (line after : List ℕ) → line ≡ leading_digits line ++ after → 0 < length after → get_or after 0 0 ≡ 32
    → words line ≡ leading_digits line ∷ words (drop 1 after)
unfolding words
word_before line after is also too = grind (arith, slice_split_at, are_a_word)
