use Rattle.byte_streams.specs.TextLeft.{text_left}
use Rattle.std.proofs.{Common.{◌≡◌, ap, ◌∙◌, List, ℕ, ◌++◌}, lemmas.Result.{err_from_is_err_and}}
use Rattle.profile_count.specs.ProfileText.{profile_text}
use Rattle.mte_engine.proofs.TracePieces.{profile_refused, profile_written}
use Rattle.mte_engine.proofs.profiling.profile_of_trace.Goals as goal

pub returns-in_err-end : goal.returns-in_err-end
returns-in_err-end c = λ bytes keeps.
    let error = err_from_is_err_and c.from_residual.result c.from_residual.ensures.1 in
    rw (error.1, error.2)
    (profile_refused bytes c.args.input.reader c.args.input.profile c.in_err-end.field-0.0 keeps c.in_err-end.ensures.ended)

pub returns : goal.returns
returns c = λ bytes keeps.
    let counted = rw c.in_ok-end.ensures.events at c.count_out.ensures.counted in
    let left : text_left c.new.result ≡ c.write.new.text.items = rw c.new.ensures.whole c.new.ensures.text in
    profile_written bytes c.args.input.reader c.args.input.profile c.count_out.new.profile
    (text_left c.new.result) keeps c.in_ok-end.ensures.ended counted
    (left ∙ c.in_ok-write.ensures.written
    ∙ ap (λ (before : List ℕ). before ++ profile_text c.count_out.new.profile) c.new-text.ensures.items)
