-- How an option's fault is shown.
use Rattle.std.specs.Prelude.{ℕ, List, codes}
use Rattle.command_words.specs.declared.refusal.{OptionFault.{OptionFault}, OptionFault.TheVariants.{BadOption}}

abbrev pub shown_option_fault : OptionFault → List ℕ
shown_option_fault BadOption = codes "83 BadOption"
