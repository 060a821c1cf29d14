-- The call that a caller from C passes.
use Rattle.std.specs.Prelude.{ℕ, List, [], ◌∷◌, slice_get, Option, option_map}
use Rattle.tool_call.specs.declared.call.{Call.{Call}, CommandName.{CommandName}}
use Rattle.tool_call.specs.declared.call.CommandName.TheVariants.{Score, Tune, Check, Footprint, Fit, CheckFit, Peaks, Profile, Replay, Run}
use Rattle.tool_call.specs.declared.options.Options.{Options}

-- The commands in the order of their numbers, from 0 on.
abbrev pub commands : List CommandName
commands = Score ∷ Tune ∷ Check ∷ Footprint ∷ Fit ∷ CheckFit ∷ Profile ∷ Replay ∷ Run ∷ Peaks ∷ []

-- The call of the command of this number, with these options.
abbrev pub call_numbered : Options → ℕ → Option Call
call_numbered options number = option_map (λ name. record { command = name; options = options }) (slice_get commands number)
