use Rattle.std.proofs.{Common.{◌∙◌, sym, ap, Err, refl, rules}, lemmas.Result.{err_from_is_err_and}}
use Rattle.trace_reader.proofs.Ending.{failed_on_the_way, fed-failed, line_on_the_way, reached_on_the_way, state_failed}
use Rattle.trace_reader.proofs.{Ending.{unchanged_if_failed, unfinished_after, way_after_way}, Reaching.{IsPrefix-fed, came}}
use Rattle.trace_reader.specs.{Reached.{answer_of}, Reading.{Reading, fed}}
use Rattle.trace_reader.proofs.reader.TraceReader.feed_observed.Goals as goal

pub returns-in-Failed-clause-reached : goal.returns-in-Failed-clause-reached
returns-in-Failed-clause-reached g c =
    let i = c.self.inside in
    let old = c.args.self.now in
    let now =
    sym (fed-failed old c.in-Failed.error c.args.piece.now
    (state_failed old i.events i.lines i.rest.items i.status c.in-Failed.error c.self.view_is c.in-Failed.is)) in
    came old (fed old c.args.piece.now) old (Err c.in-Failed.error) now (search rules) (IsPrefix-fed old c.args.piece.now)

pub returns-in_err-end_line : goal.returns-in_err-end_line
returns-in_err-end_line g c =
    let old = c.args.self.now in
    let way = c.loop-line.invariant.way in
    let p = err_from_is_err_and c.from_residual.result c.from_residual.ensures.1 in
    let r =
    failed_on_the_way old c.loop-line.self c.end_line.new.self c.in_err-end_line.field-0.0 c.args.piece.now c.in-Some.line.now
    c.in-Some.after.now way.still_open c.in-Some.ensures.line (way.fed_is ∙ ap (fed c.loop-line.self) c.in-Some.ensures.cut) way.kept
    c.in_err-end_line.ensures.reached in
    let failed = unchanged_if_failed old c.end_line.new.self (search rules) in
    let unfinished = unfinished_after old c.end_line.new.self c.args.piece.now (Err c.in_err-end_line.field-0.0) c.requires r in
    rw (p.1, p.2) (search (r, failed, unfinished, c.in_err-end_line.ensures.seen, c.loop-line.invariant.seen))

pub take_events-requires : goal.take_events-requires
take_events-requires g c =
    let way =
    line_on_the_way c.args.self.now c.loop-line.self c.end_line.new.self c.args.piece.now c.loop-line.text.now c.in-Some.line.now
    c.in-Some.after.now c.loop-line.invariant.way c.in-Some.ensures.cut c.in-Some.ensures.line c.in_ok-end_line.ensures.reached in
    way.still_open

pub returns-in_err-text : goal.returns-in_err-text
returns-in_err-text g c =
    let old = c.args.self.now in
    let way =
    line_on_the_way old c.loop-line.self c.end_line.new.self c.args.piece.now c.loop-line.text.now c.in-Some.line.now c.in-Some.after.now
    c.loop-line.invariant.way c.in-Some.ensures.cut c.in-Some.ensures.line c.in_ok-end_line.ensures.reached in
    let p = err_from_is_err_and c.from_residual-in_err-text.result c.from_residual-in_err-text.ensures.1 in
    let r =
    reached_on_the_way old c.end_line.new.self c.take_events.new.self c.args.piece.now c.in-Some.after.now (Err c.in_err-text.field-0.0) way
    c.in_err-text.ensures.way in
    let failed = unchanged_if_failed old c.take_events.new.self (search rules) in
    let unfinished = unfinished_after old c.take_events.new.self c.args.piece.now (Err c.in_err-text.field-0.0) c.requires r in
    rw (p.1, p.2) (record {
      reached = r;
      failed = failed;
      unfinished = unfinished;
      seen = λ other saw. absurd (other (rw c.in_err-text.ensures.memory refl));
    })

pub loop-line-preserved : goal.loop-line-preserved
loop-line-preserved g c =
    let way =
    line_on_the_way c.args.self.now c.loop-line.self c.end_line.new.self c.args.piece.now c.loop-line.text.now c.in-Some.line.now
    c.in-Some.after.now c.loop-line.invariant.way c.in-Some.ensures.cut c.in-Some.ensures.line c.in_ok-end_line.ensures.reached in
    record {
      way = way_after_way c.args.self.now c.end_line.new.self c.take_events.new.self c.args.piece.now c.in-Some.after.now c.in_ok-text.text.now
          way c.in_ok-text.ensures.way;
      seen = λ saw. c.in_ok-text.ensures.seen (c.in_ok-end_line.ensures.seen (c.loop-line.invariant.seen saw));
    }

pub returns : goal.returns
returns g c =
    let old = c.args.self.now in
    let now = c.keep.ensures.reading ∙ sym c.loop-line.invariant.way.fed_is in
    let r =
    came old (fed old c.args.piece.now) c.keep.new.self c.keep.result now
    (c.keep.ensures.answer ∙ ap (λ (r : Reading). answer_of r.state) now) (IsPrefix-fed old c.args.piece.now) in
    let failed = unchanged_if_failed old c.keep.new.self (search rules) in
    let unfinished = unfinished_after old c.keep.new.self c.args.piece.now c.keep.result c.requires r in
    search (r, failed, unfinished, c.loop-line.invariant.seen, c.keep.ensures.events)
