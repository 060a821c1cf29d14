-- The options, and which of them each command has. Written by scripts/tests/formats from scripts/mte_scripts/formats.py.
use Rattle.std.specs.Prelude.{ℕ, List, [], ◌∷◌, Option, Some, None, codes}
use Rattle.tool_call.specs.declared.{call.CommandName.{CommandName}, options.OptionName.{OptionName}, options.Options.{Options}}
use Rattle.tool_call.specs.declared.call.CommandName.TheVariants as command
use Rattle.tool_call.specs.declared.options.OptionName.TheVariants.{Limit, Step, LargestClass, Granules, Seed, Quarantine, Claim, FirstLines}

-- An option's name, the least and the greatest number that it takes, and its default; one without a default may not be left out.
pub record OptionFacts : Type 0 where
  pub name : List ℕ
  pub least : ℕ
  pub most : ℕ
  pub default : Option (List ℕ)

abbrev pub facts : OptionName → OptionFacts
facts Limit = record { name = codes "limit"; least = 1; most = 32; default = None }
facts Step = record { name = codes "step"; least = 1; most = 8; default = Some (codes "1") }
facts LargestClass = record { name = codes "largest-class"; least = 0; most = 1; default = Some (codes "0") }
facts Granules = record { name = codes "granules"; least = 64; most = 262144; default = Some (codes "65536") }
facts Seed = record { name = codes "seed"; least = 1; most = 65535; default = Some (codes "1") }
facts Quarantine = record { name = codes "quarantine"; least = 0; most = 4194304; default = Some (codes "65536") }
facts Claim = record { name = codes "claim"; least = 0; most = 1; default = Some (codes "0") }
facts FirstLines = record { name = codes "first-lines"; least = 0; most = 64; default = Some (codes "0") }

-- The number of an option.
abbrev pub number_of : OptionName → Options → ℕ
number_of Limit options = options.limit
number_of Step options = options.step
number_of LargestClass options = options.largest_class
number_of Granules options = options.granules
number_of Seed options = options.seed
number_of Quarantine options = options.quarantine
number_of Claim options = options.claim
number_of FirstLines options = options.first_lines

-- The options with another number for one of them.
abbrev pub with_number : Options → OptionName → ℕ → Options
with_number options Limit n = record options { limit = n }
with_number options Step n = record options { step = n }
with_number options LargestClass n = record options { largest_class = n }
with_number options Granules n = record options { granules = n }
with_number options Seed n = record options { seed = n }
with_number options Quarantine n = record options { quarantine = n }
with_number options Claim n = record options { claim = n }
with_number options FirstLines n = record options { first_lines = n }

-- All of them 0.
abbrev pub no_options : Options
no_options = record { granules = 0; quarantine = 0; seed = 0; limit = 0; step = 0; largest_class = 0; claim = 0; first_lines = 0 }

-- The options of a command, in the order in which the help lists them.
abbrev pub options_of : CommandName → List OptionName
options_of command.Score = FirstLines ∷ []
options_of command.Tune = Limit ∷ Step ∷ LargestClass ∷ []
options_of command.Check = Claim ∷ FirstLines ∷ []
options_of command.Footprint = FirstLines ∷ []
options_of command.Fit = Limit ∷ Step ∷ LargestClass ∷ []
options_of command.CheckFit = Claim ∷ FirstLines ∷ []
options_of command.Profile = []
options_of command.Replay = Granules ∷ Seed ∷ Quarantine ∷ []
options_of command.Run = Limit ∷ Step ∷ Granules ∷ Seed ∷ Quarantine ∷ []
options_of command.Peaks = FirstLines ∷ []
