use Rattle.class_table.specs.Layout.{slot_count}
use Rattle.heap_theory.{proofs.ListSearch.{few_below}, specs.Region.{next_in}}
use Rattle.quarantine_core.proofs.{LawLemmas.{one_queue_is_shown}, TheoryLemmas.{each_once, links_stay}}
use Rattle.quarantine_core.proofs.laws.law_queue.Goals as goal

pub returns-clause-one : goal.returns-clause-one
returns-clause-one c = one_queue_is_shown

pub returns-clause-short : goal.returns-clause-short
returns-clause-short c = λ value layout region queue old.
    few_below (slot_count layout) queue old.slots (each_once (next_in region) value.front queue old.linked)

pub returns-clause-stays : goal.returns-clause-stays
returns-clause-stays c = λ value layout region new queue old same. record {
  slots = old.slots;
  linked = links_stay (next_in region) (next_in new) value.front queue same old.linked;
  back = old.back;
  back_start = old.back_start;
  held = old.held;
}
