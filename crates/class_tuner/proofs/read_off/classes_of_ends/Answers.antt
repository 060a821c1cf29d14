use Rattle.std.proofs.Common.{◌-◌, ◌∷◌, [], ℕ, arith, ◌≡◌, suc, ◌<◌, ◌≤◌, List, ◌++◌, ap, sym, ◌∙◌, append_assoc}
use Rattle.std.proofs.lemmas.Bool.{cond-true, lt-ltb}
use Rattle.tuner_theory.specs.{Lists.{lists_of}, Rows.{number_at, table_of_ends}, Spans.{need_at, places}}
use Rattle.class_tuner.proofs.read_off.classes_of_ends.Goals.{then-place-places, else-place-places}
use Rattle.class_tuner.proofs.read_off.classes_of_ends.Goals as goal

-- A table that is read off class by class.
module _ (need : ℕ → ℕ) (ends : ℕ → ℕ → ℕ) (d : ℕ) where
  -- one class more: k is 1 more than the rows that are left
  read-more : (k left i end class : ℕ) (classes all : List ℕ) → k ≡ suc left → i < d → end ≡ ends k i → class ≡ need end
      → classes ++ table_of_ends need ends d k i ≡ all → (classes ++ class ∷ []) ++ table_of_ends need ends d left end ≡ all
  read-more k left i end class classes all next lt end_is class_is e = grind (arith, cond-true, lt-ltb, append_assoc)

  -- past the last place nothing more is read
  nothing : (k i : ℕ) → d ≤ i → table_of_ends need ends d k i ≡ []
  nothing k i is = grind arith

  read-past : (k left i : ℕ) (classes all : List ℕ) → d ≤ i → classes ++ table_of_ends need ends d k i ≡ all →
      classes ++ table_of_ends need ends d left i ≡ all
  read-past k left i classes all past e = ap (λ (rest : List ℕ). classes ++ rest) (nothing left i past ∙ sym (nothing k i past)) ∙ e

pub loop-done-preserved : goal.loop-done-preserved
loop-done-preserved c =
    let need = need_at c.args.spans.now.counts c.args.spans.now.step in
    let ends = number_at (lists_of c.args.ends.now) in
    let d = places c.args.spans.now.counts c.args.spans.now.step in
    elim c.if-place-places.branch [
      | then-place-places w ↦
          (let later = c.requires.later (c.args.limit - c.loop-done.done) c.loop-done.place (omega arith) (omega arith) (omega arith) in
          record {
            read =
                rw (w.classes-is, w.place-is, w.push.ensures.items)
                (read-more need ends d (c.args.limit - c.loop-done.done) _ c.loop-done.place _ _ _ _
                (omega arith) (omega arith) w.end_at-place.ensures w.need.ensures.need c.loop-done.invariant.read);
            within = omega (arith, w.place-is, w.end_at-place.ensures, later.1);
            few =
                grind arith;
          })
      | else-place-places w ↦ record {
        read =
            rw (w.classes-is, w.place-is)
            (read-past need ends d (c.args.limit - c.loop-done.done) _ c.loop-done.place _ _ (omega arith) c.loop-done.invariant.read);
        within = omega (arith, w.place-is, c.loop-done.invariant.within);
        few = rw w.classes-is (omega arith);
      }
    ]
