-- What a reader of lines makes of the next line, or of the end.
use Rattle.std.proofs.Common.{◌≡◌, ℕ, ◌+◌, List, [], ◌∷◌, length, take, drop, Result, Ok, Err, refl, arith}
use Rattle.line_text.proofs.LineFaults.{line_faulty, line_missing, line_read, no_line}
use Rattle.line_text.specs.{LineSteps.{LineSteps, read_lines}, Stops.{GivesLines, Takes}, declared.line_reader.Stop.{Stop}}
use Rattle.line_text.specs.declared.line_reader.Stop.TheVariants.{OutOfMemory, Fault}

first_of : {A : Type 0} (x : A) (xs : List A) → take 1 xs ≡ x ∷ [] → (more : List A) × (xs ≡ x ∷ more)
first_of x xs is = (drop 1 xs, grind arith)

module _ {State Value F : Type 0} (steps : LineSteps State Value F) (own : State → List (List ℕ) → List (List ℕ)) where
  abbrev TakesFirst : State → List (List ℕ) → State → List (List ℕ) → Result (Unit {0}) (Stop F) → Type 0
  TakesFirst s ls new rest read = (line : List ℕ) × (ls ≡ line ∷ rest) × Takes steps own s line new rest read

  pub goes_on : (number : ℕ) (s new : State) (ls rest : List (List ℕ)) → TakesFirst s ls new rest (Ok tt)
      → (read_lines steps number s (own s ls) ≡ read_lines steps (number + 1) new (own new rest))
      × (drop (length (own s ls)) ls ≡ drop (length (own new rest)) rest)
  goes_on number s new ls rest takes =
      rw (takes.1, takes.2.1) (line_read steps number s new takes.0 (own new rest) takes.2.0, refl)

  pub stops : (number : ℕ) (s new : State) (ls rest : List (List ℕ)) (stop : Stop F) → TakesFirst s ls new rest (Err stop)
      → GivesLines (let r : Result (Value × List (List ℕ)) (Stop F × ℕ) = Err (stop, number) in r) (read_lines steps number s (own s ls))
  stops number s new ls rest OutOfMemory takes = tt
  stops number s new ls rest (Fault fault) takes =
      let own_lines = first_of takes.0 (own s (takes.0 ∷ rest)) takes.2.1 in
      rw (takes.1, own_lines.1) (line_faulty steps number s takes.0 own_lines.0 fault takes.2.0)

  pub ends : (number : ℕ) (s : State) (ls : List (List ℕ)) (value : Value) → ls ≡ [] → steps.finish s ≡ Ok value
      → read_lines steps number s ls ≡ Ok value
  ends number s ls value none is = rw none (no_line steps number s value is)

  pub misses : (number : ℕ) (s : State) (ls : List (List ℕ)) (fault : F) → ls ≡ [] → steps.finish s ≡ Err fault
      → read_lines steps number s ls ≡ Err (number, fault)
  misses number s ls fault none is = rw none (line_missing steps number s fault is)
