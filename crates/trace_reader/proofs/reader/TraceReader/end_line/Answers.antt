use Rattle.std.proofs.{Common.{◌∙◌, [], Err, sym, ap}, lemmas.Result.{err_from_is_err_and}}
use Rattle.line_text.proofs.LawLemmas.{equal_is_prefix, prefix_of_prefix}
use Rattle.trace_reader.proofs.Ending.{IsPrefix-ended, is_open-kept, line_ended-kept, line_ended-long, reached_from}
use Rattle.trace_reader.{proofs.Reaching.{IsPrefix-fed, came}, specs.Reached.{answer_of}, specs.Reading.{Reading, fed, line_ended}}
use Rattle.trace_reader.proofs.reader.TraceReader.end_line.Goals as goal

pub returns-in_err-keep-clause-reached : goal.returns-in_err-keep-clause-reached
returns-in_err-keep-clause-reached g c =
    let old = c.args.self.now in
    let end = c.args.end.now in
    let error = c.in_err-keep.field-0.0 in
    let kept = c.in_err-keep.ensures.reading in
    let answer = c.in_err-keep.ensures.answer ∙ ap (λ (r : Reading). answer_of r.state) kept in
    let long = line_ended-long old end error c.requires.open c.requires.line answer in
    let p = err_from_is_err_and c.from_residual.result c.from_residual.ensures.1 in
    rw (p.1, p.2) (came old (line_ended old end) c.keep.new.self (Err error) (kept ∙ long)
    (answer ∙ ap (λ (r : Reading). answer_of r.state) long) (IsPrefix-ended old end))

pub judge_rest-requires : goal.judge_rest-requires
judge_rest-requires g c =
    let answer = c.in_ok-keep.ensures.answer ∙ ap (λ (r : Reading). answer_of r.state) c.in_ok-keep.ensures.reading in
    rw c.in_ok-keep.ensures.reading (is_open-kept c.args.self.now c.args.end.now c.requires.open c.requires.line answer)

pub returns-clause-reached : goal.returns-clause-reached
returns-clause-reached g c =
    let old = c.args.self.now in
    let end = c.args.end.now in
    let mid = c.keep.new.self in
    let kept = c.in_ok-keep.ensures.reading in
    let answer = c.in_ok-keep.ensures.answer ∙ ap (λ (r : Reading). answer_of r.state) kept in
    let same = ap (λ (r : Reading). line_ended r []) kept ∙ line_ended-kept old end c.requires.open c.requires.line answer in
    let front =
    prefix_of_prefix old.events (fed old end).events mid.events (IsPrefix-fed old end)
    (equal_is_prefix _ _ (sym (ap (λ (r : Reading). r.events) kept))) in
    reached_from old mid (line_ended mid []) (line_ended old end) c.judge_rest.new.self c.judge_rest.result same front c.judge_rest.ensures.reached
