use Rattle.std.proofs.{Common.{◌≡◌, ◌++◌, List, ℕ, ap, ◌∙◌, append_assoc}, lemmas.List.{take-append-drop}}
use Rattle.byte_streams.proofs.input.append.Goals as goal

pub loop-rest-preserved : goal.loop-rest-preserved
loop-rest-preserved c =
    let text = c.loop-rest.text.items in
    let block = c.split_at.result.0.now in
    let later = c.split_at.result.1.now in
    let split : block ++ later ≡ c.loop-rest.rest.now =
    rw (c.split_at.ensures.front, c.split_at.ensures.back) (take-append-drop c.min.result c.loop-rest.rest.now) in
    rw c.in_ok-extend_from_slice.ensures.items
    (append_assoc text block later ∙ (ap (λ (more : List ℕ). text ++ more) split ∙ c.loop-rest.invariant))
