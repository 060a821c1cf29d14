-- What readers of lines return.
use Rattle.std.specs.Prelude.{◌≡◌, ℕ, List, [], ◌∷◌, take, Result, Ok, Err}
use Rattle.line_text.specs.LineSteps.{LineSteps}
use Rattle.line_text.specs.declared.line_reader.Stop.{Stop}
use Rattle.line_text.specs.declared.line_reader.Stop.TheVariants.{OutOfMemory, Fault}

-- What a reader made of a line that is its own, unless memory ran out. Its own lines after it are then those of what it is now.
abbrev pub Takes : {S V F : Type 0} → LineSteps S V F → (S → List (List ℕ) → List (List ℕ)) → S → List ℕ → S → List (List ℕ)
    → Result (Unit {0}) (Stop F) → Type 0
Takes steps own old line new rest (Ok done) = (steps.step old line ≡ Ok new) × (own old (line ∷ rest) ≡ line ∷ own new rest)
Takes steps own old line new rest (Err OutOfMemory) = Unit {0}
Takes steps own old line new rest (Err (Fault fault)) =
    (steps.step old line ≡ Err fault) × (take 1 (own old (line ∷ rest)) ≡ line ∷ [])

-- What was read of lines, unless memory ran out.
abbrev pub GivesLines : {V F : Type 0} → Result (V × List (List ℕ)) (Stop F × ℕ) → Result V (ℕ × F) → Type 0
GivesLines (Ok (value, rest)) read = read ≡ Ok value
GivesLines (Err (OutOfMemory, number)) read = Unit {0}
GivesLines (Err (Fault fault, number)) read = read ≡ Err (number, fault)
