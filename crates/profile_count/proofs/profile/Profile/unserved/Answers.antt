use Rattle.std.proofs.Common.{◌≡◌, ◌∙◌, ap}
use Rattle.profile_count.{proofs.Unserved.{found, least, serving}, specs.Counts.{unserved_of}}
use Rattle.profile_count.proofs.profile.Profile.unserved.Goals as goal

is_least : (c : goal.After-first_unserved) → c.first_unserved.result ≡ unserved_of c.args.self.now.counts c.args.table.now
is_least c =
    c.first_unserved.ensures
    ∙ ap (λ counts. unserved_of counts c.args.table.now) (c.deref.ensures.value ∙ ap (λ p. p.counts) c.self.view_is)

pub returns-clause-found : goal.returns-clause-found
returns-clause-found c = found c.args.self.now.counts c.args.table.now c.first_unserved.result (is_least c)

pub returns-clause-least : goal.returns-clause-least
returns-clause-least c = least c.args.self.now.counts c.args.table.now c.first_unserved.result (is_least c)

pub returns-clause-none : goal.returns-clause-none
returns-clause-none c = serving c.args.self.now.counts c.args.table.now c.first_unserved.result (is_least c)
