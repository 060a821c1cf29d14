use Rattle.std.proofs.Common.{◌≡◌, ℕ, ◌+◌, List, ◌∷◌, drop, get_or-set_same, ap, sym, subst, ◌∙◌, slice_index, slice_get}
use Rattle.heap_theory.specs.Region.{next_in, region_of}
use Rattle.class_lists.{proofs.ListChanges.{shown_beside, shown_first, shown_rest, first_not_in_rest}, specs.Lists.{ShowsList}}
use Rattle.class_lists.proofs.lists.ClassLists.take_first.Goals as goal

pub returns-clause-others : goal.returns-clause-others
returns-clause-others c = λ front list shown apart. shown_beside _ c.args.slot 0 front list c.unlink-next.ensures.link.region apart shown

pub returns-clause-popped : goal.returns-clause-popped
returns-clause-popped c = λ list shown.
    let old = region_of c.args.layout.now c.args.memory.now in
    let new = region_of c.args.layout.now c.unlink-next.new.memory in
    let front = slice_index c.args.self.now c.args.number in
    let slot = c.args.slot in
    let rest = drop 1 list in
    let is : front ≡ slot + 1 = c.requires.first.1 in
    let first : list ≡ slot ∷ rest = shown_first old front slot list is shown in
    let whole : ShowsList old (slot + 1) (slot ∷ rest) =
    subst (λ slots. ShowsList old (slot + 1) slots) first (subst (λ n. ShowsList old n list) is shown) in
    let left : ShowsList new (next_in old slot) rest =
    returns-clause-others c (next_in old slot) rest (shown_rest old slot rest whole) (first_not_in_rest old slot rest whole) in
    let front_is : slice_index c.set_front.new.self c.args.number ≡ next_in old slot =
    ap (λ (fronts : List ℕ). slice_index fronts c.args.number) c.set_front.ensures
    ∙ get_or-set_same c.args.self.now c.args.number c.unlink-next.result 0 c.requires.first.0
    ∙ c.unlink-next.ensures.was in
    (sym (ap (λ (slots : List ℕ). slice_get slots 0) first), subst (λ n. ShowsList new n rest) (sym front_is) left)
