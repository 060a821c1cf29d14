use Rattle.std.proofs.Common.{length}
use Rattle.heap_theory.{proofs.Linked.{IsLinked-once, IsLinked-one}, proofs.ListSearch.{few_below}, specs.Region.{next_in}}
use Rattle.class_lists.proofs.ListChanges.{shown_same}
use Rattle.class_lists.proofs.laws.law_lists.Goals as goal

pub returns-clause-one : goal.returns-clause-one
returns-clause-one c = λ region front list other shown too. IsLinked-one (next_in region) front list other shown.linked too.linked

pub returns-clause-once : goal.returns-clause-once
returns-clause-once c = λ region front list shown. IsLinked-once (next_in region) front list shown.linked

pub returns-clause-short : goal.returns-clause-short
returns-clause-short c = λ region front list shown.
    few_below (length region.headers) list shown.slots (IsLinked-once (next_in region) front list shown.linked)

pub returns-clause-stays : goal.returns-clause-stays
returns-clause-stays c = shown_same
