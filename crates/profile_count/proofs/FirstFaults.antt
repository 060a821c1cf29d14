-- The line at which a text is refused as a profile is its first fault.
use Rattle.std.proofs.Common.{ℕ, ◌-◌, ◌≤◌, List, length, take, ◌↔◌, refl, inr}
use Rattle.line_text.proofs.LawLemmas.{IsFormat, ended_goes_on, lines_before_refusal_spell, refused_at_first_fault, refused_line_within}
use Rattle.line_text.specs.{FirstFault.{IsFirstFault}, Lines.{lines, text_of}}
use Rattle.tuner_theory.specs.Profiles.{Profile}
use Rattle.profile_count.proofs.{ReadIsSpelled.{profile_is_spelled}, SpelledIsRead.{spelled_profile_is_read}}
use Rattle.profile_count.specs.ProfileText.{IsRefusedAt, SpellsProfile, nothing_read, profile_steps}

-- A profile may end after any line.
format : IsFormat profile_steps nothing_read SpellsProfile
format = record {
  spelled = profile_is_spelled;
  read = spelled_profile_is_read;
  goes_on = λ s. ended_goes_on profile_steps s (s.profile, refl);
}

-- The first fault of a text is always refused.
pub first_fault_is_refused : (text : List ℕ) (n : ℕ) → IsRefusedAt n text ↔ IsFirstFault SpellsProfile text n
first_fault_is_refused = refused_at_first_fault profile_steps nothing_read SpellsProfile format

-- Its line is there,
pub refused_line_is_there : (text : List ℕ) (n : ℕ) → IsRefusedAt n text → n ≤ length (lines text)
refused_line_is_there text n refused =
    refused_line_within profile_steps nothing_read SpellsProfile format (λ s next line is. (next.profile, refl)) text n refused
    (inr (nothing_read.profile, refl))

-- and the lines before it alone spell a profile.
pub lines_before_it_spell : (text : List ℕ) (n : ℕ) → IsRefusedAt n text
    → (p : Profile) × SpellsProfile (text_of (take (n - 1) (lines text))) p
lines_before_it_spell text n refused =
    lines_before_refusal_spell profile_steps nothing_read SpellsProfile format (λ s next line is. (next.profile, refl)) text n refused
    (inr (nothing_read.profile, refl))
