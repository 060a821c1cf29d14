use Rattle.class_tuner.proofs.Tunings.{made-fit, read-later, read-legal, read-made}
use Rattle.tuner_theory.proofs.{Footprint.{footprint_is_sum}, FootprintLawLemmas.{peaks_are_counts}, LawLemmas.{few_places}}
use Rattle.tuner_theory.{proofs.Served.{served_are_counts}, specs.Footprint.{footprint_between}, specs.Histories.{peaks}}
use Rattle.tuner_theory.specs.{Intervals.{span_cost}, Lists.{lists_of}, Measures.{footprint_on}, Rows.{IsFilled}, Served.{served}}
use Rattle.tuner_theory.specs.Spans.{places}
use Rattle.class_tuner.proofs.fits.history_fit.fit_over_sizes.Goals as goal

pub fill_places-requires-clause-places : goal.fill_places-requires-clause-places
fill_places-requires-clause-places c =
    rw (c.in_ok-costs.ensures.places, c.in_ok-spans.ensures.spans, c.requires.sizes)
    (few_places (served c.args.forced (peaks c.args.history.now.snapshots)) c.args.step c.requires.step
    (served_are_counts c.args.forced (peaks c.args.history.now.snapshots)
    (peaks_are_counts c.args.history.now.snapshots c.peaks-peaks.ensures.history.snapshots)))

pub certificate_of_rows-sheet-requires-clause-later : goal.certificate_of_rows-sheet-requires-clause-later
certificate_of_rows-sheet-requires-clause-later c =
    let snapshots = c.args.history.now.snapshots in
    let counts = served c.args.forced (peaks snapshots) in
    let filled : IsFilled (span_cost (footprint_between snapshots c.args.step) counts c.args.step) (places counts c.args.step) c.args.limit
    (lists_of c.in_ok-filled.filled.rows.items) (lists_of c.in_ok-filled.filled.ends.items) =
    rw (
      c.in_ok-costs.ensures.cost,
      c.in_ok-costs.ensures.places,
      c.in_ok-spans.ensures.spans,
      c.requires.sizes,
    ) at c.in_ok-filled.ensures.filled in
    let are = c.peaks-peaks.ensures.history.snapshots in
    rw (c.in_ok-spans.ensures.spans, c.requires.sizes)
    (read-later (footprint_on c.args.forced snapshots) (λ step pos. footprint_is_sum c.args.forced snapshots step pos are) c.args.step
    c.args.limit c.args.forced _ _ c.requires.step (served_are_counts c.args.forced (peaks snapshots) (peaks_are_counts snapshots are))
    c.requires.some c.requires.few filled)

pub certificate_of_rows-sheet-requires-clause-legal : goal.certificate_of_rows-sheet-requires-clause-legal
certificate_of_rows-sheet-requires-clause-legal c =
    let snapshots = c.args.history.now.snapshots in
    let counts = served c.args.forced (peaks snapshots) in
    let filled : IsFilled (span_cost (footprint_between snapshots c.args.step) counts c.args.step) (places counts c.args.step) c.args.limit
    (lists_of c.in_ok-filled.filled.rows.items) (lists_of c.in_ok-filled.filled.ends.items) =
    rw (
      c.in_ok-costs.ensures.cost,
      c.in_ok-costs.ensures.places,
      c.in_ok-spans.ensures.spans,
      c.requires.sizes,
    ) at c.in_ok-filled.ensures.filled in
    let are = c.peaks-peaks.ensures.history.snapshots in
    rw (c.in_ok-spans.ensures.spans, c.requires.sizes)
    (read-legal (footprint_on c.args.forced snapshots) (λ step pos. footprint_is_sum c.args.forced snapshots step pos are) c.args.step
    c.args.limit c.args.forced _ _ c.requires.step (served_are_counts c.args.forced (peaks snapshots) (peaks_are_counts snapshots are))
    c.requires.some c.requires.few filled)

pub returns-clause-fitted : goal.returns-clause-fitted
returns-clause-fitted c =
    let snapshots = c.args.history.now.snapshots in
    let counts = served c.args.forced (peaks snapshots) in
    let filled : IsFilled (span_cost (footprint_between snapshots c.args.step) counts c.args.step) (places counts c.args.step) c.args.limit
    (lists_of c.in_ok-filled.filled.rows.items) (lists_of c.in_ok-filled.filled.ends.items) =
    rw (
      c.in_ok-costs.ensures.cost,
      c.in_ok-costs.ensures.places,
      c.in_ok-spans.ensures.spans,
      c.requires.sizes,
    ) at c.in_ok-filled.ensures.filled in
    let are = c.peaks-peaks.ensures.history.snapshots in
    rw (c.new-3.ensures, rw (c.in_ok-spans.ensures.spans, c.requires.sizes) at c.certificate_of_rows-sheet.ensures.read)
    (made-fit c.args.forced snapshots c.args.step c.args.limit _ are
    (read-made (footprint_on c.args.forced snapshots) (λ step pos. footprint_is_sum c.args.forced snapshots step pos are) c.args.step
    c.args.limit c.args.forced _ _ c.requires.step (served_are_counts c.args.forced (peaks snapshots) (peaks_are_counts snapshots are))
    c.requires.some c.requires.few filled))
