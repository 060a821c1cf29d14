-- The lines of a text, and the words of a line.
use Rattle.std.specs.List.{onto_first, slice_split, flat_map, join_with_byte}
use Rattle.std.specs.Prelude.{◌≡◌, ◌<◌, ◌⊎◌, ℕ, Bool, length, List, [], ◌∷◌, ◌++◌, Option, Some, None, ◌==◌, if◌then◌else◌, All}

abbrev pub is_newline : ℕ → Bool
is_newline b = b == 10

abbrev pub is_space : ℕ → Bool
is_space b = b == 32

-- ---- reading

-- The lines of a text: a newline ends each, and may be missing at the last. Any other byte stands in front of the first line of the rest.
unfoldable pub lines : List ℕ → List (List ℕ)
lines [] = []
lines (b ∷ text) = if is_newline b then [] ∷ lines text else onto_first b (lines text)

-- The words of a line, cut at each space: one more than there are spaces, and some of them may be empty.
unfoldable pub words : List ℕ → List (List ℕ)
words line = slice_split is_space line

-- The words that are still to be read, of the line that they are cut from; none where all were read.
abbrev pub words_left : Option (List ℕ) → List (List ℕ)
words_left None = []
words_left (Some line) = words line

-- ---- writing

-- A line with its newline.
abbrev pub ended : List ℕ → List ℕ
ended line = line ++ 10 ∷ []

-- Lines, each with its newline.
abbrev pub text_of : List (List ℕ) → List ℕ
text_of ls = flat_map ended ls

-- The text of these lines. The newline of the last one may be missing.
abbrev pub IsTextOf : List ℕ → List (List ℕ) → Type 0
IsTextOf text ls = (text ≡ text_of ls) ⊎ (ended text ≡ text_of ls)

-- Words, with a space between each two.
abbrev pub line_of : List (List ℕ) → List ℕ
line_of ws = join_with_byte 32 ws

-- What can be a line: it holds no newline.
abbrev pub IsLine : List ℕ → Type 0
IsLine line = All (λ b. is_newline b ≡ Bool.false) line

-- A line that may end a text without its newline.
abbrev pub IsFullLine : List ℕ → Type 0
IsFullLine line = IsLine line × (0 < length line)

-- What can be a word: it holds no space.
abbrev pub IsWord : List ℕ → Type 0
IsWord word = All (λ b. is_space b ≡ Bool.false) word
