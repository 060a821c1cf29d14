use Rattle.std.proofs.{Common.{◌≡◌, ◌-◌, ◌∙◌, ap, sym, get_or, slice_get, option_and_then}, lemmas.Bool.{leb-true}}
use Rattle.std.{proofs.lemmas.Option.{slice_get-get_or}, specs.Option.{option_map_or}}
use Rattle.class_table.{proofs.LeastClass.{least_at, number_gives_class}, specs.Layout.{Partition}, specs.Sizes.{loss_of}}
use Rattle.class_table.proofs.layout.Layout.loss.Goals as goal

pub overflow_sub-result : goal.overflow_sub-result
overflow_sub-result c =
    let classes : c.deref.result.now ≡ c.args.self.now.classes =
    c.deref.ensures.0 ∙ ap (λ (layout : Partition). layout.classes) c.self.view_is in
    let serving =
    (least_at 1 c.args.self.now.classes c.args.n c.in-Some.number (rw c.self.view_is at c.self.invariant.partition).table
    (sym c.in-Some.ensures.number)).1.serving in
    rw (c.payload_bytes.ensures, classes) (leb-true c.args.n _ serving)

pub returns-in-Some-clause-loss : goal.returns-in-Some-clause-loss
returns-in-Some-clause-loss c =
    let classes : c.deref.result.now ≡ c.args.self.now.classes =
    c.deref.ensures.0 ∙ ap (λ (layout : Partition). layout.classes) c.self.view_is in
    let class =
    number_gives_class c.args.n c.args.self.now.classes
    ∙ ap (option_and_then (slice_get c.args.self.now.classes)) (sym c.in-Some.ensures.number)
    ∙ slice_get-get_or c.args.self.now.classes c.in-Some.number 0 c.in-Some.ensures.within in
    ap (λ bytes. bytes - c.args.n) c.payload_bytes.ensures
    ∙ ap (λ classes. loss_of c.args.n (get_or classes c.in-Some.number 0)) classes
    ∙ sym (ap (λ class. option_map_or (loss_of c.args.n) class 0) class)

pub returns-in-None-clause-loss : goal.returns-in-None-clause-loss
returns-in-None-clause-loss c =
    sym (ap (λ class. option_map_or (loss_of c.args.n) class 0)
    (number_gives_class c.args.n c.args.self.now.classes
    ∙ ap (option_and_then (slice_get c.args.self.now.classes)) (sym c.in-None.ensures.number)))
