use Rattle.std.proofs.Common.{◌≡◌, ◌↔◌, ◌<◌, ◌-◌, Option, List, ℕ, length, refl, arith, IsSome, IfSome, slice_index}
use Rattle.class_table.specs.Tables.{IsLeastServing, class_for, class_number_for}
use Rattle.history_count.proofs.TimelineLemmas.{Requests.{largest_serves}, Steps.{number_gives_none, number_serves}}
use Rattle.history_count.proofs.timelines.index.TimelineIndex.serves.Goals as goal

-- the number of a class says whether there is one
has_class : (classes : List ℕ) (n : ℕ) (o : Option ℕ) → o ≡ class_number_for classes n
    → IfSome o (λ number. (number < length classes) × IsLeastServing classes n (slice_index classes number)) → IsSome o ↔ IsSome (class_for classes n)
has_class classes n o is within = grind (arith, number_gives_none, number_serves)

pub returns-then-above-eq0 : goal.returns-then-above-eq0
returns-then-above-eq0 c =
    let i = c.self.inside in
    let events = i.events.now in
    let all = largest_serves events c.args.table.now (length events) i.requested.largest.above i.requested.largest.moment
    c.self.invariant.timeline refl c.self.invariant.requested_are.largest in
    rw (← c.self.view_is) (λ _. all.0 (λ some. absurd (omega (arith, some, c.if-above-eq0.true))), λ _. refl)

pub returns : goal.returns
returns c =
    let i = c.self.inside in
    let events = i.events.now in
    let above = i.requested.largest.above in
    let all = largest_serves events c.args.table.now (length events) above i.requested.largest.moment
    c.self.invariant.timeline refl c.self.invariant.requested_are.largest in
    let has = has_class c.args.table.now (above - 1) c.find.result (rw c.from.ensures at c.find.ensures.number)
    (rw c.from.ensures at c.find.ensures.least) in
    grind arith
