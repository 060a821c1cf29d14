-- What a format of lines, words and numbers wants of them.
use Rattle.std.specs.{Fmt.{decimal}, Prelude.{◌≡◌, ℕ, ◌<◌, ◌^◌, List, ◌∷◌, Some, All}}
use Rattle.line_text.specs.{Lines.{lines, words, text_of, line_of, IsFullLine, IsLine, IsTextOf, IsWord}, Numbers.{number_of}}

pub record TextLaws : Type 0 where
  -- A text is its lines, the last of them with its newline or without. No line holds a newline.
  pub text : (text : List ℕ) → IsTextOf text (lines text)
  pub all_lines : (text : List ℕ) → All IsLine (lines text)
  -- Lines that are written as a text are its lines. If none is empty, the last newline may be missing.
  pub written_lines : (ls : List (List ℕ)) → All IsLine ls → lines (text_of ls) ≡ ls
  pub full_lines : (ls : List (List ℕ)) (text : List ℕ) → All IsFullLine ls → IsTextOf text ls → lines text ≡ ls
  -- A line is its words, with a space between each two. Words that are written as a line are its words.
  pub line : (line : List ℕ) → line_of (words line) ≡ line
  pub written_words : (w : List ℕ) (ws : List (List ℕ)) → All IsWord (w ∷ ws) → words (line_of (w ∷ ws)) ≡ w ∷ ws
  -- Words that hold no newline make a line.
  pub makes_line : (ws : List (List ℕ)) → All IsLine ws → IsLine (line_of ws)
  -- A number of at most 64 bits has one spelling, is read from it, and the spelling is a word of a line.
  pub spelled : (word : List ℕ) (n : ℕ) → n < 2 ^ 64 → number_of word ≡ Some n → word ≡ decimal n
  pub read : (n : ℕ) → n < 2 ^ 64 → number_of (decimal n) ≡ Some n
  pub word : (n : ℕ) → n < 2 ^ 64 → IsLine (decimal n) × IsWord (decimal n)
