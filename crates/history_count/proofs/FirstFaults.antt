-- The line at which a text is refused as a history is its first fault.
use Rattle.std.proofs.Common.{◌≡◌, ℕ, ◌-◌, ◌≤◌, max, List, length, take, Option, None, Result, Ok, Err, ◌↔◌, refl, sym, ◌∙◌, arith}
use Rattle.std.{proofs.Common.{inl}, specs.Option.{ok_or, option_map}}
use Rattle.line_text.proofs.LawLemmas.{IsFormat, headed, headed_ends, headed_goes_on, lines_before_refusal_spell, read_after_head}
use Rattle.line_text.proofs.LawLemmas.{refused_at_first_fault, refused_line_within_or_first}
use Rattle.line_text.specs.{FirstFault.{IsFirstFault}, Lines.{lines, text_of, words}, LineSteps.{LineSteps, read_lines}}
use Rattle.history_count.proofs.{ReadIsSpelled.{history_is_spelled}}
use Rattle.history_count.{proofs.SpelledIsRead.{spelled_history_is_read, snapshots_line-full, snapshots_of-line}, specs.Histories.{History}}
use Rattle.history_count.specs.HistoryText.{IsRefusedAt, Reading, SpellsHistory, first_reading, history_of_lines}
use Rattle.history_count.specs.HistoryText.{history_steps, snapshots_line, snapshots_of}
use Rattle.history_count.specs.declared.fault.{HistoryFault.{HistoryFault}, HistoryFault.TheVariants.{BadSnapshots}}

-- ---- one reading of all lines

head : List ℕ → Result Reading HistoryFault
head line = ok_or (option_map first_reading (snapshots_of (words line))) BadSnapshots

steps : LineSteps (Option Reading) History HistoryFault
steps = headed head BadSnapshots history_steps

start : Option Reading
start = None

all_lines : (ls : List (List ℕ)) → history_of_lines ls ≡ read_lines steps 1 start ls
unfolding head steps start read_lines
all_lines ls = grind (arith, read_after_head)

-- A history may end after any line.
ends : (s next : Option Reading) (line : List ℕ) → steps.step s line ≡ Ok next → (h : History) × (steps.finish next ≡ Ok h)
unfolding steps
ends = headed_ends head BadSnapshots history_steps (λ r. (r.history, refl))

format : IsFormat steps start SpellsHistory
unfolding head steps
format = record {
  spelled = λ text h is. history_is_spelled text h (all_lines (lines text) ∙ is);
  read = λ text h spells. sym (all_lines (lines text)) ∙ spelled_history_is_read text h spells;
  goes_on = headed_goes_on head BadSnapshots history_steps (λ r. (r.history, refl)) (snapshots_line 1) (first_reading 1)
      (snapshots_line-full 1 (omega arith) (omega arith)).0 (rw (snapshots_of-line 1 (omega arith) (omega arith)) refl);
}

-- ---- the first fault

refused : (text : List ℕ) (n : ℕ) → IsRefusedAt n text → (fault : HistoryFault) × (read_lines steps 1 start (lines text) ≡ Err (n, fault))
refused text n is = (is.0, sym (all_lines (lines text)) ∙ is.1)

pub first_fault_is_refused : (text : List ℕ) (n : ℕ) → IsRefusedAt n text ↔ IsFirstFault SpellsHistory text n
first_fault_is_refused text n =
    let both = refused_at_first_fault steps start SpellsHistory format text n in grind (arith, all_lines)

-- The line of a fault is there, unless it is the first,
pub refused_line_is_there : (text : List ℕ) (n : ℕ) → IsRefusedAt n text → n ≤ max 1 (length (lines text))
refused_line_is_there text n is = refused_line_within_or_first steps start SpellsHistory format ends text n (refused text n is)

-- and the lines before it alone spell a history, where there are some.
pub lines_before_it_spell : (text : List ℕ) (n : ℕ) → 2 ≤ n → IsRefusedAt n text
    → (h : History) × SpellsHistory (text_of (take (n - 1) (lines text))) h
lines_before_it_spell text n later is =
    lines_before_refusal_spell steps start SpellsHistory format ends text n (refused text n is) (inl later)
