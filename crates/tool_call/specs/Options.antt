-- What the options have to be, and what the commands read.
use Rattle.std.specs.Prelude.{ℕ, ◌≤◌, All, Bool, true, false, ⊤}
use Rattle.class_table.specs.{Steps.{IsStep}, declared.table.TheConstants.{MOST_CLASSES}}
use Rattle.heap_theory.specs.declared.config.Config.{Config}
use Rattle.tool_call.specs.{OptionTable.{facts, number_of, options_of}, declared.call.Call.{Call}, declared.call.CommandName.{CommandName}}
use Rattle.tool_call.specs.declared.call.CommandName.TheVariants.{Score, Tune, Check, Footprint, Fit, CheckFit, Peaks, Profile, Replay, Run}
use Rattle.tool_call.specs.declared.options.{OptionName.{OptionName}, OptionName.TheVariants.{Step}, Options.{Options}}

-- What the number of an option has to be, beside being in its range.
abbrev pub Suits : OptionName → ℕ → Type 0
Suits Step n = IsStep n
Suits option n = ⊤

-- The option takes this number.
abbrev pub Takes : OptionName → ℕ → Type 0
Takes option n = ((facts option).least ≤ n) × (n ≤ (facts option).most) × Suits option n

-- Each option of the command has a number that it takes.
abbrev pub AreValid : CommandName → Options → Type 0
AreValid command options = All (λ option. Takes option (number_of option options)) (options_of command)

abbrev pub IsValid : Call → Type 0
IsValid call = AreValid call.command call.options

-- Whether the input is two texts: a class line, a sheet or a fit, and what comes after it in one text.
abbrev pub has_two_texts : CommandName → Bool
has_two_texts Score = true
has_two_texts Tune = false
has_two_texts Check = true
has_two_texts Footprint = true
has_two_texts Fit = false
has_two_texts CheckFit = true
has_two_texts Peaks = true
has_two_texts Profile = false
has_two_texts Replay = true
has_two_texts Run = false

-- The most classes of a table, 1 to 32, and the step.
pub record AreTuneOptions (limit step : ℕ) : Type 0 where
  pub some : 1 ≤ limit
  pub few : limit ≤ MOST_CLASSES
  pub is_step : IsStep step

-- The heap that the options set up.
abbrev pub config_of : Options → Config
config_of options = record { granules = options.granules; seed = options.seed; quarantine = options.quarantine }
