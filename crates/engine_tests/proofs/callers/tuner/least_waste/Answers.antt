use Rattle.std.proofs.Common.{ap, ◌∙◌}
use Rattle.profile_count.{proofs.LawLemmas.{added_requests_are_counted}, specs.Requests.{with_more}}
use Rattle.tuner_theory.specs.Profiles.{Profile}
use Rattle.engine_tests.proofs.callers.tuner.least_waste.Goals as goal

pub loop-n-init : goal.loop-n-init
loop-n-init c =
    ap (λ (p : Profile). with_more p c.args.sizes.now) c.in_ok-profile.ensures ∙ added_requests_are_counted c.args.sizes.now
