use Rattle.mte_engine.proofs.Headline.{headline}
use Rattle.mte_engine.proofs.laws.law_headline.Goals as goal

pub returns : goal.returns
returns c = headline
