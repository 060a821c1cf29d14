-- The words that the program takes.
use Rattle.std.specs.Prelude.{◌≡◌, true, false, codes}
use Rattle.clap.specs.{Simple.{on_top}, Words.{App, Text, app_of, new_app, with_subcommand}, declared.builder.command.Command.{Command}}
use Rattle.clap.specs.declared.builder.command.Command.TheViews.{out-Command as fields_of}
use Rattle.command_words.specs.Options.{with_options}
use Rattle.tool_call.specs.declared.call.CommandName.{CommandName}
use Rattle.tool_call.specs.declared.call.CommandName.TheVariants.{Score, Tune, Check, Footprint, Fit, CheckFit, Peaks, Profile, Replay, Run}

abbrev pub name_of : CommandName → Text
name_of Score = codes "score"
name_of Tune = codes "tune"
name_of Check = codes "check"
name_of Footprint = codes "footprint"
name_of Fit = codes "fit"
name_of CheckFit = codes "check-fit"
name_of Peaks = codes "peaks"
name_of Profile = codes "profile"
name_of Replay = codes "replay"
name_of Run = codes "run"

-- The words of a command: its name and its options.
abbrev pub words_of : CommandName → App
words_of command = with_options command (new_app (name_of command))

-- The program: one of its commands has to be named.
abbrev pub top : App
top = on_top (λ s. record s { has_version = true; subcommand_required = true; arg_required_else_help = true }) (new_app (codes "mte_tool"))

-- The words `a` with a command.
abbrev pub with_command : App → CommandName → App
with_command a command = with_subcommand a (words_of command).top

-- The commands that read a profile, those that read a history, and those that read a trace.
abbrev pub with_table_commands : App → App
with_table_commands a = with_command (with_command (with_command a Score) Tune) Check

abbrev pub with_history_commands : App → App
with_history_commands a = with_command (with_command (with_command (with_command a Footprint) Fit) CheckFit) Peaks

abbrev pub with_trace_commands : App → App
with_trace_commands a = with_command (with_command (with_command a Profile) Replay) Run

abbrev pub program : App
program = with_trace_commands (with_history_commands (with_table_commands top))

-- A command without subcommands, with these words.
abbrev pub HasWords : Command → App → Type 0
HasWords command words = (app_of command ≡ words) × ((fields_of command).has_globals ≡ false)
