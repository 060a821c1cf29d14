-- The two numbers of the first line of a text, read from the front of the text.
use Rattle.std.proofs.Common.{◌≡◌, ◌≢◌, ℕ, ◌<◌, ◌∙◌, false, cond, eqb-true, List, [], ◌∷◌, ◌++◌, length, get_or, drop, refl}
use Rattle.std.proofs.{Common.{sym, ap, arith, Option, Some, None, option_and_then, slice_get, inl, inr}, lemmas.Bool.{cases_Bool}}
use Rattle.std.{proofs.lemmas.List.Elements.{All-head, All-tail}, proofs.lemmas.List.Sums.{take_while-cons}, specs.Char.{is_ascii_digit}}
use Rattle.line_text.proofs.{FirstNumbers.{no_first_number, no_word_end, only_word, word_before, first_number_of}, Cuts.{line_is_its_words}}
use Rattle.line_text.{proofs.Digits.{none_equal}, proofs.LeadingDigits.{are_digits}, specs.Lines.{lines, words, line_of, is_newline}}
use Rattle.line_text.specs.{Lines.{is_space, IsLine}, Numbers.{short_number_of, leading_digits, leading_number_of}, Pairs.{short_pair_of}}

-- ---- the first line of a text and the text after it

abbrev pub front : List ℕ → List ℕ
front [] = []
front (b ∷ text) = cond (is_newline b) [] (b ∷ front text)

abbrev pub after : List ℕ → List ℕ
after [] = []
after (b ∷ text) = cond (is_newline b) text (after text)

lines-cons : (b : ℕ) (text : List ℕ) → lines (b ∷ text) ≡ front (b ∷ text) ∷ lines (after (b ∷ text))
unfolding lines
lines-cons b [] = grind arith
lines-cons b (d ∷ text) = grind (arith, lines-cons d text)

abbrev pub first_pair_of : List ℕ → Option (ℕ × ℕ)
first_pair_of text = option_and_then (λ line. short_pair_of (words line)) (slice_get (lines text) 0)

first_pair_is : (text : List ℕ) → first_pair_of text ≡ short_pair_of (words (front text))
unfolding lines words
first_pair_is [] = refl
first_pair_is (b ∷ text) = grind (arith, option_and_then, slice_get, lines-cons)

lines-after : (text : List ℕ) → lines (after text) ≡ drop 1 (lines text)
unfolding lines
lines-after [] = refl
lines-after (b ∷ text) = sym (ap (λ (ls : List (List ℕ)). drop 1 ls) (lines-cons b text))

front-append : (part text : List ℕ) → IsLine part → front (part ++ text) ≡ part ++ front text
front-append [] text all = refl
front-append (b ∷ part) text all =
    rw (All-head (λ x. is_newline x ≡ false) b part all)
    (ap (λ (t : List ℕ). b ∷ t) (front-append part text (All-tail (λ x. is_newline x ≡ false) b part all)))

after-append : (part text : List ℕ) → IsLine part → after (part ++ text) ≡ after text
after-append [] text all = refl
after-append (b ∷ part) text all =
    rw (All-head (λ x. is_newline x ≡ false) b part all) (after-append part text (All-tail (λ x. is_newline x ≡ false) b part all))

are_in_line : (text : List ℕ) → IsLine (leading_digits text)
are_in_line text = none_equal 10 (omega arith) (leading_digits text) (are_digits text)

-- the digits in front of a text are those in front of its first line
leading_digits-front : (text : List ℕ) → leading_digits (front text) ≡ leading_digits text
leading_digits-front [] = refl
leading_digits-front (b ∷ text) = elim (cases_Bool (is_newline b)) [
  | inl ends ↦ rw (eqb-true b 10 ends) refl
  | inr goes_on ↦
      rw goes_on
      (take_while-cons is_ascii_digit b (front text)
      ∙ ap (λ (t : List ℕ). cond (is_ascii_digit b) (b ∷ t) []) (leading_digits-front text)
      ∙ sym (take_while-cons is_ascii_digit b text))
]

-- what stands after the digits in the line
cut_line : (text tail : List ℕ) → text ≡ leading_digits text ++ tail → front text ≡ leading_digits (front text) ++ front tail
cut_line text tail cut = grind (arith, front-append, are_in_line, leading_digits-front)

no_number_in_front : (text : List ℕ) → leading_number_of text ≡ None → first_number_of (front text) ≡ None
no_number_in_front text none = no_first_number (front text) (ap short_number_of (leading_digits-front text) ∙ none)

-- ---- words that are no two numbers

first_is_none : (ws : List (List ℕ)) → option_and_then short_number_of (slice_get ws 0) ≡ None → short_pair_of ws ≡ None
first_is_none ws is = grind arith

second_is_none : (a : List ℕ) (ws : List (List ℕ)) → option_and_then short_number_of (slice_get ws 0) ≡ None → short_pair_of (a ∷ ws) ≡ None
second_is_none a ws is = grind arith

no_words : words [] ≢ []
unfolding words
no_words none = absurd cc

more_words : (a b line : List ℕ) → short_pair_of (a ∷ b ∷ words line) ≡ None
more_words a b line = go (words line) refl
  where
    go : (ws : List (List ℕ)) → words line ≡ ws → short_pair_of (a ∷ b ∷ ws) ≡ None
    go [] none = let empty : line ≡ [] = sym (line_is_its_words line) ∙ ap line_of none in absurd (no_words (ap words (sym empty) ∙ none))
    go (w ∷ ws) parts = refl

-- ---- the cases of a reader

pub no_first : (text : List ℕ) → leading_number_of text ≡ None → first_pair_of text ≡ None
no_first text none = first_pair_is text ∙ first_is_none (words (front text)) (no_number_in_front text none)

-- the byte after the digits is no space
pub no_space : (text tail : List ℕ) → text ≡ leading_digits text ++ tail → slice_get tail 0 ≢ Some 32 → first_pair_of text ≡ None
no_space text tail cut other = first_pair_is text ∙ go (front tail) refl
  where
    differs : (bs : List ℕ) → slice_get bs 0 ≢ Some 32 → 0 < length (front bs) → get_or (front bs) 0 0 ≢ 32
    differs [] ne some = absurd (omega (arith, some))
    differs (b ∷ bs) ne some = grind (arith, cases_Bool)

    go : (left : List ℕ) → front tail ≡ left → short_pair_of (words (front text)) ≡ None
    go [] none = ap short_pair_of (only_word (front text) (front tail) (cut_line text tail cut) (ap length none))
    go (b ∷ left) is =
        let some : 0 < length (front tail) = omega (arith, ap length is) in
        first_is_none (words (front text)) (no_word_end (front text) (front tail) (cut_line text tail cut) some (differs tail other some))

-- a space stands after the digits
words_after : (text more : List ℕ) → text ≡ leading_digits text ++ 32 ∷ more → words (front text) ≡ leading_digits text ∷ words (front more)
words_after text more cut =
    word_before (front text) (32 ∷ front more) (cut_line text (32 ∷ more) cut) (omega arith) refl
    ∙ ap (λ (ds : List ℕ). ds ∷ words (front more)) (leading_digits-front text)

pub no_second : (text more : List ℕ) → text ≡ leading_digits text ++ 32 ∷ more → leading_number_of more ≡ None → first_pair_of text ≡ None
no_second text more cut none = grind (arith, first_pair_is, words_after, second_is_none, no_number_in_front)

-- neither the end nor a newline stands after the second number
pub no_end : (text more tail : List ℕ) → text ≡ leading_digits text ++ 32 ∷ more → more ≡ leading_digits more ++ tail → 0 < length tail →
    slice_get tail 0 ≢ Some 10
    → first_pair_of text ≡ None
no_end text more tail cut cut_more some other = first_pair_is text ∙ ap short_pair_of (words_after text more cut) ∙ go tail refl
  where
    go : (bs : List ℕ) → tail ≡ bs → short_pair_of (leading_digits text ∷ words (front more)) ≡ None
    go [] none = absurd (omega (arith, some, ap length none))
    go (b ∷ bs) is = elim (cases_Bool (is_newline b)) [
      | inl ends ↦ absurd (other (rw is (ap Some (eqb-true b 10 ends))))
      | inr goes_on ↦
          let left : front tail ≡ b ∷ front bs = ap front is ∙ rw goes_on refl in
          let there : 0 < length (front tail) = omega (arith, ap length left) in
          let first : get_or (front tail) 0 0 ≡ b = ap (λ (t : List ℕ). get_or t 0 0) left in
          elim (cases_Bool (is_space b)) [
            | inl space ↦
                ap (λ (ws : List (List ℕ)). short_pair_of (leading_digits text ∷ ws))
                (word_before (front more) (front tail) (cut_line more tail cut_more) there (first ∙ eqb-true b 32 space))
                ∙ more_words (leading_digits text) (leading_digits (front more)) (drop 1 (front tail))
            | inr letter ↦
                second_is_none (leading_digits text) (words (front more))
                (no_word_end (front more) (front tail) (cut_line more tail cut_more) there
                (λ is_32. absurd (differs b (sym first ∙ is_32) letter)))
          ]
    ]
      where
        differs : (b : ℕ) → b ≡ 32 → is_space b ≡ false → ⊥
        differs b e ne = let f = rw e at ne in absurd cc

-- the line ends after the second number
pub pair_ends : (text more tail : List ℕ) (m n : ℕ) → text ≡ leading_digits text ++ 32 ∷ more → more ≡ leading_digits more ++ tail →
    front tail ≡ []
    → Some m ≡ leading_number_of text → Some n ≡ leading_number_of more → Some (m, n) ≡ first_pair_of text
pair_ends text more tail m n cut cut_more ends first second =
    let two : words (front text) ≡ leading_digits text ∷ leading_digits more ∷ [] =
    words_after text more cut
    ∙ ap (λ (ws : List (List ℕ)). leading_digits text ∷ ws)
    (only_word (front more) (front tail) (cut_line more tail cut_more) (ap length ends)
    ∙ ap (λ (ds : List ℕ). ds ∷ []) (leading_digits-front more)) in
    sym (first_pair_is text ∙ ap short_pair_of two ∙ rw (← first, ← second) refl)

pub after_pair : (text more tail : List ℕ) → text ≡ leading_digits text ++ 32 ∷ more → more ≡ leading_digits more ++ tail →
    lines (after tail) ≡ drop 1 (lines text)
after_pair text more tail cut cut_more =
    ap lines (grind (arith, after-append, are_in_line))
    ∙ lines-after text

-- where nothing is left, neither a line nor a text after it is
pub nothing_left : (text : List ℕ) → length text ≡ 0 → (front text ≡ []) × (lines text ≡ lines (after text))
nothing_left [] none = (refl, refl)
nothing_left (b ∷ text) none = absurd (omega (arith, none))
