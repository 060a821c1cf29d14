use Rattle.std.proofs.Common.{◌≡◌, ℕ, ◌-◌, List, [], drop, ap, sym, subst, ◌∙◌, arith, slice_index, slice_get}
use Rattle.heap_theory.specs.Region.{region_of}
use Rattle.class_lists.{proofs.ListChanges.{shown_none}, specs.Lists.{ShowsList}}
use Rattle.class_lists.proofs.lists.ClassLists.pop_place.Goals as goal

pub returns-then-front-eq0-clause-popped : goal.returns-then-front-eq0-clause-popped
returns-then-front-eq0-clause-popped c = λ list shown.
    let region = region_of c.args.layout.now c.args.memory.now in
    let front = slice_index c.args.self.now c.args.number in
    let none : list ≡ [] = shown_none region front list (sym c.front-front.ensures ∙ c.if-front-eq0.true) shown in
    (ap (λ (slots : List ℕ). slice_get slots 0) (sym none), subst (ShowsList region front) (none ∙ ap (drop 1) (sym none)) shown)

pub slot_of_class-place-requires : goal.slot_of_class-place-requires
slot_of_class-place-requires c = c.requires.class (c.front-front.result - 1) (omega (arith, c.front-front.ensures, c.if-front-eq0.false))
