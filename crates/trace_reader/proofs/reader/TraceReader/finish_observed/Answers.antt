use Rattle.std.proofs.{Common.{◌≡◌, ◌∙◌, Err, Ok, sym, ap, true, rules, arith}, lemmas.Result.{err_from_is_err_and}}
use Rattle.trace_reader.proofs.Ending.{finish_empty, finish_failed, finish_line, finished-failed, not_empty, state_failed}
use Rattle.trace_reader.{proofs.Reaching.{IsPrefix-finished, came}, specs.Reached.{HasReached}}
use Rattle.trace_reader.proofs.reader.TraceReader.finish_observed.Goals.{then-not-is_empty+in_ok-judge_rest, else-not-is_empty}
use Rattle.trace_reader.specs.{Reading.{Reading, finished, is_open}, Reading.State.{Finished}}
use Rattle.trace_reader.proofs.reader.TraceReader.finish_observed.Goals as goal

pub returns-in-Failed-clause-reached : goal.returns-in-Failed-clause-reached
returns-in-Failed-clause-reached g c =
    let i = c.self.inside in
    let old = c.args.self.now in
    let now =
    sym (finished-failed old c.in-Failed.error
    (state_failed old i.events i.lines i.rest.items i.status c.in-Failed.error c.self.view_is c.in-Failed.is)) in
    came old (finished old) old (Err c.in-Failed.error) now (search rules) (IsPrefix-finished old)

pub returns-in_err-judge_rest : goal.returns-in_err-judge_rest
returns-in_err-judge_rest g c =
    let old = c.args.self.now in
    let i = c.self.inside in
    let open_now : is_open old ≡ true = search rules in
    let some = not_empty i.rest.items c.is_empty.result c.is_empty.ensures (search rules) in
    let p = err_from_is_err_and c.from_residual.result c.from_residual.ensures.1 in
    let r =
    finish_failed old c.judge_rest.new.self i.events i.lines i.rest.items i.status c.in_err-judge_rest.field-0.0 c.self.view_is
    open_now some c.in_err-judge_rest.ensures.reached in
    grind arith

pub returns : goal.returns
returns g c =
    let old = c.args.self.now in
    let i = c.self.inside in
    let open_now : is_open old ≡ true = search rules in
    let new : Reading = record { events = c.self-2.inside.events; state = Finished } in
    let r : HasReached old (finished old) new (Ok tt) =
    elim c.if-not-is_empty.branch [
      | then-not-is_empty+in_ok-judge_rest w ↦ finish_line old w.judge_rest.new.self i.events i.lines i.rest.items i.status
          c.self-2.inside.events c.self.view_is open_now (not_empty i.rest.items c.is_empty.result c.is_empty.ensures (search rules))
          w.in_ok-judge_rest.ensures.reached (ap (λ (r : Reading). r.events) (c.self-2.view_is ∙ w.self-is))
      | else-not-is_empty w ↦ grind (arith, finish_empty)
    ] in
    grind arith
