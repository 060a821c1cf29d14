use Rattle.std.proofs.{Common.{◌≤◌, ◌<◌, [], ◌∷◌, length, arith, ap, ◌∙◌}, lemmas.List.{length-append}}
use Rattle.replay_theory.specs.Losses.{requested_sizes}
use Rattle.profile_count.specs.Requests.{profile_of_sizes}
use Rattle.mte_engine.proofs.Counting.{length-requested_sizes, one_requested}
use Rattle.mte_engine.proofs.trace_counting.RequestsObserver.see.Goals as goal

pub returns : goal.returns
returns c = λ events saw few.
    let event = c.args.event.now in
    let fewer : length events ≤ 1000000 = omega (arith, length-append events (event ∷ []), few) in
    let short : length (requested_sizes events) < 1000000000 = omega (arith, length-requested_sizes events, fewer) in
    c.count.ensures (requested_sizes events) short (saw fewer) ∙ ap profile_of_sizes (one_requested [] events event)
