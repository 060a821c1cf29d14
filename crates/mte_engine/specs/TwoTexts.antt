-- The answers of a command to two texts: a class line, a sheet or a fit, and nothing else; and a profile, or a timeline or a history. The
-- lines of a fault are counted in its own text.
use Rattle.std.specs.Prelude.{ℕ, List, Result}
use Rattle.mte_engine.specs.{Check.{check_on_answers}, CheckFitOver.{check_fit_on_answers}, Outcome.{Answer}, Parts.{AfterText}}
use Rattle.mte_engine.specs.{Score.{score_after}, TableCommands.{answers_after}, declared.fault.InputFault.{InputFault}}
use Rattle.mte_engine.specs.declared.two_texts.{BlocksCommand.{BlocksCommand}, BlocksCommand.TheVariants.{OfTable, CheckFit}}
use Rattle.mte_engine.specs.declared.two_texts.{ProfileCommand.{ProfileCommand}, ProfileCommand.TheVariants.{Score, Check}}
use Rattle.tool_call.specs.declared.options.Options.{Options}

abbrev pub answers_beside_profile : ProfileCommand → Options → List ℕ → List ℕ → Result Answer InputFault → Type 0
answers_beside_profile Score options = AfterText (score_after options)
answers_beside_profile Check options = check_on_answers options

abbrev pub answers_beside_blocks : BlocksCommand → Options → List ℕ → List ℕ → Result Answer InputFault → Type 0
answers_beside_blocks (OfTable command) options = AfterText (answers_after command options)
answers_beside_blocks CheckFit options = check_fit_on_answers options
