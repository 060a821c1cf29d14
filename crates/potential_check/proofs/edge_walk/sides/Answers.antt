use Rattle.std.proofs.Common.{◌+◌, ◌-◌, ◌*◌, ℕ, arith, ◌≡◌, ◌^◌, ◌<◌, ◌≤◌, List}
use Rattle.potential_check.{proofs.CertificateLemmas.LawLemmas.{payload_fits, span_balance}, specs.Certificates.Spanned.{Spanned}}
use Rattle.potential_check.specs.{EdgeWalk.{IsEnd, IsStart}, RowConditions.{edge_bound}, declared.edge_walk.End.{End}}
use Rattle.potential_check.specs.declared.edge_walk.Start.{Start}
use Rattle.potential_check.proofs.edge_walk.sides.Goals as goal

-- The two sides of an edge, with what is at hand of its two places.
record AreSides (s : Spanned) (before : List ℕ) (start : Start) (end : End) : Type 0 where
  pub product : end.payload * start.requests < 2 ^ 58
  pub bytes : start.bytes ≤ end.bytes
  pub bytes_fit : end.bytes < 2 ^ 58
  pub reach : end.reach ≡ edge_bound s before start.place end.place + (end.payload * start.requests + (end.bytes - start.bytes))

sides_are : (s : Spanned) (before row : List ℕ) (start : Start) (end : End) → start.place < end.place → IsStart s row start
    → IsEnd s before end → AreSides s before start end
sides_are s before row start end lt from to =
    let sums = span_balance s to.spanned start.place end.place lt to.within in
    grind (arith, payload_fits)

pub overflow_mul-more : goal.overflow_mul-more
overflow_mul-more c =
    omega (
      arith,
      (sides_are c.args.spans.now c.args.before.now c.args.row.now c.args.start c.args.end c.requires.order c.requires.start c.requires.end).product,
    )

pub overflow_sub-more : goal.overflow_sub-more
overflow_sub-more c =
    (sides_are c.args.spans.now c.args.before.now c.args.row.now c.args.start c.args.end c.requires.order c.requires.start c.requires.end).bytes

pub overflow_add-more : goal.overflow_add-more
overflow_add-more c =
    let are =
    sides_are c.args.spans.now c.args.before.now c.args.row.now c.args.start c.args.end c.requires.order c.requires.start c.requires.end in
    omega (arith, are.product, are.bytes_fit)

pub overflow_add-result : goal.overflow_add-result
overflow_add-result c =
    let are =
    sides_are c.args.spans.now c.args.before.now c.args.row.now c.args.start c.args.end c.requires.order c.requires.start c.requires.end in
    omega (arith, are.product, are.bytes_fit, c.requires.start.bounded)

pub returns : goal.returns
returns c = grind (arith, sides_are)
