-- The call that words mean.
use Rattle.std.{proofs.Common.{◌≡◌, ◌∙◌, List, ap, codes, if◌then◌else◌, refl, subst, sym}, specs.Str.{bytes_eq}}
use Rattle.clap.specs.Words.{Row, Text}
use Rattle.command_words.specs.{AcceptedWords.{name_of}, Calls.{Names}, Options.{HasOptions}}
use Rattle.tool_call.specs.declared.{call.Call.{Call}, call.CommandName.{CommandName}, options.Options.{Options}}
use Rattle.tool_call.specs.declared.call.CommandName.TheVariants.{Score, Tune, Check, Footprint, Fit, CheckFit, Peaks, Profile, Replay, Run}

-- commands of one name are one
named : Text → CommandName
named name =
    if bytes_eq name (codes "score") then Score
    else if bytes_eq name (codes "tune") then Tune
    else if bytes_eq name (codes "check") then Check
    else if bytes_eq name (codes "footprint") then Footprint
    else if bytes_eq name (codes "fit") then Fit
    else if bytes_eq name (codes "check-fit") then CheckFit
    else if bytes_eq name (codes "peaks") then Peaks
    else if bytes_eq name (codes "profile") then Profile
    else if bytes_eq name (codes "replay") then Replay
    else Run

named_back : (command : CommandName) → named (name_of command) ≡ command
unfolding named
named_back Score = refl
named_back Tune = refl
named_back Check = refl
named_back Footprint = refl
named_back Fit = refl
named_back CheckFit = refl
named_back Peaks = refl
named_back Profile = refl
named_back Replay = refl
named_back Run = refl

pub same_command : (a b : CommandName) → name_of a ≡ name_of b → a ≡ b
same_command a b same = sym (named_back a) ∙ ap named same ∙ named_back b

-- a command is no call where its options are none
pub no_call : (name : Text) (command : CommandName) (rows : List Row) → name ≡ name_of command
    → ((options : Options) → HasOptions command rows options → ⊥) → (call : Call) → Names name rows call → ⊥
no_call name command rows is none call names =
    let same = same_command call.command command (sym names.named ∙ is) in
    none call.options (subst (λ (c : CommandName). HasOptions c rows call.options) same names.options)
