-- The options and the answers of `tune`: the sheet that is tuned for a profile.
use Rattle.std.specs.Prelude.{◌≡◌, ◌==◌, ℕ, List, Result}
use Rattle.class_tuner.specs.Tuned.{IsTuned}
use Rattle.potential_check.specs.SheetText.{sheet_text}
use Rattle.profile_count.specs.ProfileText.{profile_of}
use Rattle.tuner_theory.specs.{Profiles.{Profile as Counted}, Sheets.{Sheet}}
use Rattle.mte_engine.specs.{Outcome.{Answer}, Parts.{AnswersPart, profile_part}, declared.engine.Status.TheVariants.{Done}}
use Rattle.mte_engine.specs.declared.fault.InputFault.{InputFault}
pub use Rattle.tool_call.specs.Options.{AreTuneOptions}
use Rattle.tool_call.specs.declared.options.Options.{Options}

-- The sheet that is tuned for a profile by the options.
abbrev pub IsTunedBy : Options → Counted → Sheet → Type 0
IsTunedBy options profile sheet = IsTuned profile.counts options.step options.limit (options.largest_class == 1) sheet

-- Its text.
pub record IsTunedText (options : Options) (profile : Counted) (answer : Answer) : Type 0 where
  pub sheet : Sheet
  pub tuned : IsTunedBy options profile sheet
  pub written : answer ≡ record { text = sheet_text sheet; status = Done }

-- The whole text is a profile. The answer is the tuned sheet's text, or the profile's first fault.
abbrev pub tune_answers : Options → List ℕ → Result Answer InputFault → Type 0
tune_answers options text answer = AnswersPart (profile_part 0 (profile_of text)) (IsTunedText options) answer
