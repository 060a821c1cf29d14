-- Readings of a text line by line: the line at which one stops is the first fault of the text.
use Rattle.std.proofs.Common.{◌≡◌, ℕ, suc, ◌+◌, ◌-◌, ◌<◌, ◌≤◌, ◌⊎◌, List, [], ◌∷◌, ◌++◌, length, max, take, Option, Some, None, Result, Ok, Err, All, refl, sym}
use Rattle.std.proofs.{Common.{◌↔◌, ◌∙◌, ap, arith, inl, inr, add-one, add-zero}, lemmas.List.{length-take, take-append-le, take-take}}
use Rattle.std.specs.Option.{ok_or}
use Rattle.std.proofs.lemmas.{Bool.{cases_lt}, List.Elements.{All-append, All-cons, All-nil, All-take}}
use Rattle.line_text.proofs.{Cuts.{lines_are_lines}, FirstFaults.{one_first_fault}, FullLines.{written_lines_are_read}}
use Rattle.line_text.specs.{FirstFault.{◌>>=◌, IsFirstFault}, Lines.{IsLine, lines, text_of}, LineSteps.{LineSteps, read_lines}}

-- ---- lists that begin alike

-- the parts of a list that begins as another
record BeginsWith {A : Type 0} (x : A) (xs ys : List A) (k : ℕ) : Type 0 where
  rest : List A
  parts : ys ≡ x ∷ rest
  alike : take k xs ≡ take k rest

begins_with : {A : Type 0} (x : A) (xs ys : List A) (k : ℕ) → take (suc k) (x ∷ xs) ≡ take (suc k) ys → BeginsWith x xs ys k
begins_with x xs ys k is = grind arith

nothing_begins : {A : Type 0} (ys : List A) → take 1 [] ≡ take 1 ys → ys ≡ []
nothing_begins ys is = grind arith

-- ---- readings

module _ {State Value Fault : Type 0} (steps : LineSteps State Value Fault) where
  pub line_read : (number : ℕ) (s next : State) (line : List ℕ) (ls : List (List ℕ)) → steps.step s line ≡ Ok next
      → read_lines steps number s (line ∷ ls) ≡ read_lines steps (number + 1) next ls
  unfolding read_lines
  line_read number s next line ls is = rw (is, add-one) refl

  pub line_faulty : (number : ℕ) (s : State) (line : List ℕ) (ls : List (List ℕ)) (fault : Fault) → steps.step s line ≡ Err fault
      → read_lines steps number s (line ∷ ls) ≡ Err (number, fault)
  unfolding read_lines
  line_faulty number s line ls fault is = rw is refl

  pub no_line : (number : ℕ) (s : State) (value : Value) → steps.finish s ≡ Ok value → read_lines steps number s [] ≡ Ok value
  unfolding read_lines
  no_line number s value is = rw is refl

  pub line_missing : (number : ℕ) (s : State) (fault : Fault) → steps.finish s ≡ Err fault
      → read_lines steps number s [] ≡ Err (number, fault)
  unfolding read_lines
  line_missing number s fault is = rw is refl

  -- What is read has a property that the end has, and that one more line in front keeps.
  pub read_has : (Has : State → List (List ℕ) → Value → Type 0) → ((s : State) (value : Value) → steps.finish s ≡ Ok value → Has s [] value)
      → ((s next : State) (line : List ℕ) (ls : List (List ℕ)) (value : Value) → steps.step s line ≡ Ok next → Has next ls value
      → Has s (line ∷ ls) value)
      → (ls : List (List ℕ)) (number : ℕ) (s : State) (value : Value) → read_lines steps number s ls ≡ Ok value → Has s ls value
  unfolding read_lines
  read_has Has end more [] number s value e = grind arith
  read_has Has end more (line ∷ ls) number s value e = go (λ next. read_has Has end more ls (suc number) next value) (steps.step s line) refl
    where
      go : ((next : State) → read_lines steps (suc number) next ls ≡ Ok value → Has next ls value)
          → (read : Result State Fault) → steps.step s line ≡ read → Has s (line ∷ ls) value
      go others (Ok next) is = more s next line ls value is (others next (rw is at e))
      go others (Err fault) is = let none = rw is at e in absurd cc

  -- The line at place k is refused, or it is missing: the lines before it lead to a state, and it is refused whatever follows it.
  record IsFaultAt (number : ℕ) (s : State) (ls : List (List ℕ)) (fault : Fault) (k : ℕ) : Type 0 where
    within : k ≤ length ls
    reached : State
    before : (rest : List (List ℕ)) → read_lines steps number s (take k ls ++ rest) ≡ read_lines steps (number + k) reached rest
    missing : length ls ≤ k → steps.finish reached ≡ Err fault
    whatever_follows : (other : List (List ℕ)) → take (suc k) ls ≡ take (suc k) other
        → read_lines steps number s other ≡ Err (number + k, fault)

  same_refusal : (a b : ℕ × Fault) → (let r : Result Value (ℕ × Fault) = Err a in r) ≡ Err b → a ≡ b
  same_refusal a b e = cc

  read_or_refused : (value : Value) (fault : ℕ × Fault) → Ok value ≡ Err fault → ⊥
  read_or_refused value fault e = absurd cc

  faulty_first : (number : ℕ) (s : State) (line : List ℕ) (ls : List (List ℕ)) (fault : Fault) → steps.step s line ≡ Err fault
      → IsFaultAt number s (line ∷ ls) fault 0
  faulty_first number s line ls fault is = record {
    within = omega arith;
    reached = s;
    before = λ rest. ap (λ n. read_lines steps n s rest) (sym (add-zero number));
    missing = λ all. absurd (omega arith);
    whatever_follows = λ other alike. grind (arith, begins_with, add-zero, line_faulty);
  }

  faulty_end : (number : ℕ) (s : State) (fault : Fault) → steps.finish s ≡ Err fault → IsFaultAt number s [] fault 0
  faulty_end number s fault is = grind (arith, add-zero, nothing_begins, line_missing)

  faulty_later : (number : ℕ) (s next : State) (line : List ℕ) (ls : List (List ℕ)) (fault : Fault) (k : ℕ) → steps.step s line ≡ Ok next
      → IsFaultAt (number + 1) next ls fault k → IsFaultAt number s (line ∷ ls) fault (suc k)
  faulty_later number s next line ls fault k takes later = grind (arith, line_read)

  abbrev HasItsPlace : ℕ → State → List (List ℕ) → ℕ → Fault → Type 0
  HasItsPlace number s ls n fault = (k : ℕ) × (n ≡ number + k) × IsFaultAt number s ls fault k

  -- Where lines are refused, it is at a place of theirs, or at their end.
  refusal_has_its_place : (ls : List (List ℕ)) (number : ℕ) (s : State) (n : ℕ) (fault : Fault)
      → read_lines steps number s ls ≡ Err (n, fault) → HasItsPlace number s ls n fault
  refusal_has_its_place [] number s n fault e = go (steps.finish s) refl
    where
      go : (end : Result Value Fault) → steps.finish s ≡ end → HasItsPlace number s [] n fault
      go (Ok value) is = absurd (read_or_refused value (n, fault) (sym (no_line number s value is) ∙ e))
      go (Err other) is = grind (arith, same_refusal, line_missing, faulty_end)
  refusal_has_its_place (line ∷ ls) number s n fault e = go (refusal_has_its_place ls) (steps.step s line) refl
    where
      go : ((number : ℕ) (s : State) (n : ℕ) (fault : Fault) → read_lines steps number s ls ≡ Err (n, fault) → HasItsPlace number s ls n fault)
          → (read : Result State Fault) → steps.step s line ≡ read → HasItsPlace number s (line ∷ ls) n fault
      go others (Ok next) is =
          let later = others (number + 1) next n fault (sym (line_read number s next line ls is) ∙ e) in
          (suc later.0, omega (arith, later.1), faulty_later number s next line ls fault later.0 is later.2)
      go others (Err other) is = grind (arith, same_refusal, line_faulty, faulty_first)

  -- ---- where a text may end after any line

  abbrev pub MayEnd : State → Type 0
  MayEnd s = (value : Value) × (steps.finish s ≡ Ok value)

  -- The refused line is there. The lines before it lead to a value, where there are some, or where none are needed.
  record IsThere (number : ℕ) (s : State) (ls : List (List ℕ)) (n : ℕ) : Type 0 where
    place : ℕ
    is : n ≡ number + place
    within : place < length ls
    before : (0 < place) ⊎ MayEnd s → (value : Value) × (read_lines steps number s (take place ls) ≡ Ok value)

  module _ (ends : (s next : State) (line : List ℕ) → steps.step s line ≡ Ok next → MayEnd next) where
    refused_line : (ls : List (List ℕ)) (number : ℕ) (s : State) (n : ℕ) (fault : Fault) → read_lines steps number s ls ≡ Err (n, fault)
        → (0 < length ls) ⊎ MayEnd s → IsThere number s ls n
    refused_line [] number s n fault e (inl some) = absurd (omega arith)
    refused_line [] number s n fault e (inr end) = absurd (read_or_refused end.0 (n, fault) (sym (no_line number s end.0 end.1) ∙ e))
    refused_line (line ∷ ls) number s n fault e some = go (refused_line ls) (steps.step s line) refl
      where
        go : ((number : ℕ) (s : State) (n : ℕ) (fault : Fault) → read_lines steps number s ls ≡ Err (n, fault)
            → (0 < length ls) ⊎ MayEnd s → IsThere number s ls n)
            → (read : Result State Fault) → steps.step s line ≡ read → IsThere number s (line ∷ ls) n
        go others (Err other) is = grind (arith, same_refusal, line_faulty, no_line)
        go others (Ok next) is =
            let end = ends s next line is in
            let later = others (number + 1) next n fault (sym (line_read number s next line ls is) ∙ e) (inr end) in
            let before = later.before (inr end) in
            record {
              place = suc later.place;
              is = omega (arith, later.is);
              within = omega (arith, later.within);
              before = λ any. (before.0, line_read number s next line (take later.place ls) is ∙ before.1);
            }

  -- ---- the first fault of a text

  -- Some lines lead from a state to a value.
  pub record GoesOn (s : State) : Type 0 where
    pub rest : List (List ℕ)
    pub are_lines : All IsLine rest
    pub value : Value
    pub read : (n : ℕ) → read_lines steps n s rest ≡ Ok value

  -- With no line more, where the text may end.
  pub ended_goes_on : (s : State) → MayEnd s → GoesOn s
  ended_goes_on s end = record { rest = []; are_lines = All-nil IsLine; value = end.0; read = λ n. no_line n s end.0 end.1 }

  -- By one line more, after which it goes on.
  pub goes_on_by : (s next : State) (line : List ℕ) → IsLine line → steps.step s line ≡ Ok next → GoesOn next → GoesOn s
  goes_on_by s next line is_line is on = record {
    rest = line ∷ on.rest;
    are_lines = All-cons IsLine line on.rest is_line on.are_lines;
    value = on.value;
    read = λ n. line_read n s next line on.rest is ∙ on.read (n + 1);
  }

  -- a part of a text's lines, and other lines after them, are the lines of their text
  joined_lines : (k : ℕ) (text : List ℕ) (rest : List (List ℕ)) → All IsLine rest
      → lines (text_of (take k (lines text) ++ rest)) ≡ take k (lines text) ++ rest
  joined_lines k text rest are =
      written_lines_are_read (take k (lines text) ++ rest)
      (All-append IsLine (take k (lines text)) rest (All-take IsLine k (lines text) (lines_are_lines text)) are)

  -- The texts that spell a value are those that are read as it, and from each state some lines lead to a value.
  pub record IsFormat (start : State) (Spells : List ℕ → Value → Type 0) : Type 0 where
    pub spelled : (text : List ℕ) (value : Value) → read_lines steps 1 start (lines text) ≡ Ok value → Spells text value
    pub read : (text : List ℕ) (value : Value) → Spells text value → read_lines steps 1 start (lines text) ≡ Ok value
    pub goes_on : (s : State) → GoesOn s

  module _ (start : State) (Spells : List ℕ → Value → Type 0) (format : IsFormat start Spells) where
    abbrev pub IsRefusedAt : List ℕ → ℕ → Type 0
    IsRefusedAt text n = (fault : Fault) × (read_lines steps 1 start (lines text) ≡ Err (n, fault))

    -- The line of a refusal is the first fault,
    pub refusal_is_first_fault : (text : List ℕ) (n : ℕ) (fault : Fault) → read_lines steps 1 start (lines text) ≡ Err (n, fault)
        → IsFirstFault Spells text n
    refusal_is_first_fault text n fault refused =
        let at = refusal_has_its_place (lines text) 1 start n fault refused in
        let k = at.0 in
        let place : n ≡ suc k = omega (arith, at.1) in
        let front : n - 1 ≡ k = omega (arith, place) in
        let on = format.goes_on at.2.reached in
        let other = text_of (take k (lines text) ++ on.rest) in
        let is : lines other ≡ take k (lines text) ++ on.rest = joined_lines k text on.rest on.are_lines in
        let whole : length (take k (lines text)) ≡ k = omega (arith, length-take k (lines text), at.2.within) in
        let alike : take k (lines other) ≡ take k (lines text) =
        ap (take k) is ∙ take-append-le k (take k (lines text)) on.rest (omega (arith, whole)) ∙ take-take k k (lines text) (omega arith) in
        grind arith

    -- and the first fault is refused.
    pub refused_at_first_fault : (text : List ℕ) (n : ℕ) → IsRefusedAt text n ↔ IsFirstFault Spells text n
    refused_at_first_fault text n =
        (λ refused. refusal_is_first_fault text n refused.0 refused.1, λ first. go first (read_lines steps 1 start (lines text)) refl)
      where
        go : IsFirstFault Spells text n → (result : Result Value (ℕ × Fault)) → read_lines steps 1 start (lines text) ≡ result
            → IsRefusedAt text n
        go first (Ok value) is = absurd (first.none text value (format.spelled text value is) refl)
        go first (Err fault) is =
            let here = refusal_is_first_fault text fault.0 fault.1 is in
            let same = one_first_fault Spells text fault.0 n here first in
            (fault.1, is ∙ ap (λ m. Err (m, fault.1)) same)

    -- Where a text may end after any line, and has one or needs none, the refused line is there,
    module _ (ends : (s next : State) (line : List ℕ) → steps.step s line ≡ Ok next → MayEnd next) where
      pub refused_line_within : (text : List ℕ) (n : ℕ) → IsRefusedAt text n → (0 < length (lines text)) ⊎ MayEnd start
          → n ≤ length (lines text)
      refused_line_within text n refused some = grind (arith, refused_line)

      pub refused_line_within_or_first : (text : List ℕ) (n : ℕ) → IsRefusedAt text n → n ≤ max 1 (length (lines text))
      refused_line_within_or_first text n refused =
          elim (cases_lt 0 (length (lines text))) [
            | inl some ↦ omega (arith, refused_line_within text n refused (inl some))
            | inr none ↦ omega (arith, (refusal_is_first_fault text n refused.0 refused.1).within)
          ]

      -- and the lines before it alone spell a value.
      pub lines_before_refusal_spell : (text : List ℕ) (n : ℕ) → IsRefusedAt text n → (2 ≤ n) ⊎ MayEnd start
          → (value : Value) × Spells (text_of (take (n - 1) (lines text))) value
      lines_before_refusal_spell text n refused later = go later
        where
          by_place : IsThere 1 start (lines text) n → (0 < n - 1) ⊎ MayEnd start
              → (value : Value) × Spells (text_of (take (n - 1) (lines text))) value
          by_place there some =
              let front = take (n - 1) (lines text) in
              let are : lines (text_of front) ≡ front =
              written_lines_are_read front (All-take IsLine (n - 1) (lines text) (lines_are_lines text)) in
              grind arith

          go : (2 ≤ n) ⊎ MayEnd start → (value : Value) × Spells (text_of (take (n - 1) (lines text))) value
          go (inr end) = by_place (refused_line ends (lines text) 1 start n refused.0 refused.1 (inr end)) (inr end)
          go (inl later) =
              let within = (refusal_is_first_fault text n refused.0 refused.1).within in
              by_place (refused_line ends (lines text) 1 start n refused.0 refused.1 (inl (omega (arith, within)))) (inl (omega arith))

-- ---- texts whose first line is read by itself: before it nothing was read

module _ {State Value Fault : Type 0} (head : List ℕ → Result State Fault) (missing : Fault) (steps : LineSteps State Value Fault) where
  abbrev step_or_head : Option State → List ℕ → Result State Fault
  step_or_head None line = head line
  step_or_head (Some s) line = steps.step s line

  abbrev pub headed : LineSteps (Option State) Value Fault
  headed = record { step = λ s line. step_or_head s line >>= λ next. Ok (Some next); finish = λ s. ok_or s missing >>= steps.finish }

  pub read_after_head : (ls : List (List ℕ)) (number : ℕ) (s : State) → read_lines headed number (Some s) ls ≡ read_lines steps number s ls
  unfolding read_lines
  read_after_head [] number s = refl
  read_after_head (line ∷ ls) number s = grind (arith, read_after_head ls (suc number))

  -- Where the text may end after any line, it goes on from each state; before the first line by this one.
  module _ (ends : (s : State) → MayEnd steps s) where
    pub headed_ends : (s next : Option State) (line : List ℕ) → headed.step s line ≡ Ok next → MayEnd headed next
    headed_ends s next line is = go (step_or_head s line) refl
      where
        go : (read : Result State Fault) → step_or_head s line ≡ read → MayEnd headed next
        go (Ok reached) e = let same : Some reached ≡ next = (let both = rw e at is in cc) in rw (← same) (ends reached)
        go (Err fault) e = let none = rw e at is in absurd cc

    pub headed_goes_on : (line : List ℕ) (first : State) → IsLine line → head line ≡ Ok first → (s : Option State) → GoesOn headed s
    headed_goes_on line first is_line is (Some s) = ended_goes_on headed (Some s) (ends s)
    headed_goes_on line first is_line is None =
        goes_on_by headed None (Some first) line is_line (rw is refl) (ended_goes_on headed (Some first) (ends first))
