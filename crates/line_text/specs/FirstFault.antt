-- Readings that stop at the first fault; and the first faulty line of a text, where some texts spell a value and the others don't.
use Rattle.std.specs.Prelude.{◌≡◌, ℕ, suc, ◌-◌, ◌≤◌, List, length, take, Result, Ok, Err}
use Rattle.line_text.specs.Lines.{lines}

-- Goes on with what was read. The first fault decides.
infixl 10 ◌>>=◌
abbrev pub ◌>>=◌ : {A B E : Type 0} → Result A E → (A → Result B E) → Result B E
(Ok x) >>= rest = rest x
(Err fault) >>= rest = Err fault

-- The first faulty line of a text has this number, counted from 1; a missing line has the number after the last line.
pub record IsFirstFault {A : Type 0} (Spells : List ℕ → A → Type 0) (text : List ℕ) (number : ℕ) : Type 0 where
  pub some : 1 ≤ number
  pub within : number ≤ suc (length (lines text))
  -- Some text that spells a value has the same lines before this number,
  pub before : (other : List ℕ) × (value : A) × Spells other value
      × (take (number - 1) (lines other) ≡ take (number - 1) (lines text))
  -- and none has the same lines up to and including it; where that line is missing, none has just these lines.
  pub none : (other : List ℕ) (value : A) → Spells other value
      → take number (lines other) ≡ take number (lines text) → ⊥
