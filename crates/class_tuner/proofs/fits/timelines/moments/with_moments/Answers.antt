use Rattle.std.proofs.{Common.{◌≤◌, All, inl, inr, arith}, lemmas.List.Elements.{All-contains}}
use Rattle.std.specs.{List.{Contains}, List.Sorted.{IsStrictlyIncreasing}}
use Rattle.class_tuner.proofs.FitLemmas.TimelineLemmas.Unions.{added-all, added-more}
use Rattle.class_tuner.proofs.fits.timelines.moments.with_moments.Goals as goal

pub loop-i-init : goal.loop-i-init
loop-i-init c =
    let start = c.in_ok-more.more.items in
    let most = c.args.most in
    let kept : c.args.kept ≤ most = All-contains (λ n. n ≤ most) c.args.numbers.items c.args.kept c.requires.numbers c.requires.kept in
    let left : All (λ n. n ≤ most) start × Contains start c.args.kept × IsStrictlyIncreasing start =
    elim c.in_ok-more.ensures.which [
      | inl is ↦ rw is (c.requires.numbers, c.requires.kept, c.requires.ascending)
      | inr is ↦ grind arith
    ] in
    grind arith

pub loop-i-preserved : goal.loop-i-preserved
loop-i-preserved c = record {
  within = c.in_ok-add_moment.ensures.within;
  kept = (c.in_ok-add_moment.ensures.union.each c.args.kept).1 (inl c.loop-i.invariant.kept);
  few = omega (arith, c.in_ok-add_moment.ensures.few, c.loop-i.invariant.few);
  added = added-more c.in_ok-more.more.items c.args.further.now c.loop-i.more.items c.add_moment.new.numbers.items c.loop-i.i
      (omega arith) c.loop-i.invariant.added c.in_ok-add_moment.ensures.union;
}

pub returns-clause-union : goal.returns-clause-union
returns-clause-union c =
    rw (← c.in_ok-more.ensures.left)
    (added-all c.in_ok-more.more.items c.args.further.now c.loop-i.more.items c.loop-i.i c.loop-i-test.false c.loop-i.invariant.added)
