use Rattle.std.proofs.Common.{◌≡◌, ◌==◌, ℕ, Bool, true, None, Option, arith, sym}
use Rattle.std.proofs.{lemmas.Bool.Decides.{nat_tests}}
use Rattle.line_text.specs.Numbers.{number_of}
use Rattle.potential_check.proofs.FootprintLemmas.TimelineLemmas.Moments.{read-all, read-faulty, read-more}
use Rattle.potential_check.{specs.Footprints.Timelines.MomentsLine.{moment_of}}
use Rattle.potential_check.proofs.footprints.timelines.moments_line.moments_of_words.Goals as goal

empty : (is : Bool) (n : ℕ) → is ≡ (n == 0) → is ≡ true → n ≡ 0
empty is n means holds = grind (arith, nat_tests)

abbrev no_number : Option ℕ
no_number = None

pub loop-next-init : goal.loop-next-init
loop-next-init c = grind arith

pub loop-next-preserved : goal.loop-next-preserved
loop-next-preserved c = grind (arith, read-more)

pub returns-in_default-moment_in : goal.returns-in_default-moment_in
returns-in_default-moment_in c =
    let none : no_number ≡ moment_of c.loop-next.next (number_of c.in-Some.word.now) = cc in
    sym (read-faulty c.args.words c.loop-next.words c.next.new.self c.loop-next.next c.loop-next.numbers.items c.in-Some.word.now
    c.loop-next.invariant.so_far c.in-Some.ensures.steps none)

pub returns-then-len-eq-MOST_SNAPSHOTS : goal.returns-then-len-eq-MOST_SNAPSHOTS
returns-then-len-eq-MOST_SNAPSHOTS c = grind arith

pub returns-then-is_empty : goal.returns-then-is_empty
returns-then-is_empty c = grind arith

pub returns : goal.returns
returns c = grind (arith, read-all)
