use Rattle.tuner_theory.{proofs.LawLemmas.{waste-sum}, specs.Lists.{lists_of}, specs.Measures.{waste_on}, specs.Rows.{IsFilled}}
use Rattle.tuner_theory.specs.Spans.{places, span_waste}
use Rattle.class_tuner.proofs.Tunings.{made-tuned, read-later, read-legal, read-made}
use Rattle.class_tuner.proofs.tuning.tune_over.Goals as goal

pub certificate_of_rows-sheet-requires-clause-later : goal.certificate_of_rows-sheet-requires-clause-later
certificate_of_rows-sheet-requires-clause-later c =
    let counts = c.args.profile.now.counts in
    let filled : IsFilled (span_waste counts c.args.step) (places counts c.args.step) c.args.limit
    (lists_of c.in_ok-filled.filled.rows.items) (lists_of c.in_ok-filled.filled.ends.items) =
    rw (c.over-costs.ensures.spans, c.in_ok-spans.ensures.spans) at c.in_ok-filled.ensures.filled in
    let are = rw c.in_ok-spans.ensures.spans at c.in_ok-spans.ensures.valid.are_counts in
    rw (c.spans.ensures, c.in_ok-filled.ensures.kept, c.over-costs.ensures.spans, c.in_ok-spans.ensures.spans)
    (read-later (waste_on counts) (waste-sum counts) c.args.step c.args.limit c.args.forced _ _ c.requires.step are c.requires.some c.requires.few filled)

pub certificate_of_rows-sheet-requires-clause-legal : goal.certificate_of_rows-sheet-requires-clause-legal
certificate_of_rows-sheet-requires-clause-legal c =
    let counts = c.args.profile.now.counts in
    let filled : IsFilled (span_waste counts c.args.step) (places counts c.args.step) c.args.limit
    (lists_of c.in_ok-filled.filled.rows.items) (lists_of c.in_ok-filled.filled.ends.items) =
    rw (c.over-costs.ensures.spans, c.in_ok-spans.ensures.spans) at c.in_ok-filled.ensures.filled in
    let are = rw c.in_ok-spans.ensures.spans at c.in_ok-spans.ensures.valid.are_counts in
    rw (c.spans.ensures, c.in_ok-filled.ensures.kept, c.over-costs.ensures.spans, c.in_ok-spans.ensures.spans)
    (read-legal (waste_on counts) (waste-sum counts) c.args.step c.args.limit c.args.forced _ _ c.requires.step are c.requires.some c.requires.few filled)

pub returns-clause-tuned : goal.returns-clause-tuned
returns-clause-tuned c =
    let counts = c.args.profile.now.counts in
    let filled : IsFilled (span_waste counts c.args.step) (places counts c.args.step) c.args.limit
    (lists_of c.in_ok-filled.filled.rows.items) (lists_of c.in_ok-filled.filled.ends.items) =
    rw (c.over-costs.ensures.spans, c.in_ok-spans.ensures.spans) at c.in_ok-filled.ensures.filled in
    let are = rw c.in_ok-spans.ensures.spans at c.in_ok-spans.ensures.valid.are_counts in
    let read = rw (c.spans.ensures, c.in_ok-filled.ensures.kept, c.over-costs.ensures.spans, c.in_ok-spans.ensures.spans) at c.certificate_of_rows-sheet.ensures.read in
    rw (c.new-2.ensures, read)
    (made-tuned counts c.args.step c.args.limit c.args.forced _
    (read-made (waste_on counts) (waste-sum counts) c.args.step c.args.limit c.args.forced _ _ c.requires.step are c.requires.some c.requires.few filled))
