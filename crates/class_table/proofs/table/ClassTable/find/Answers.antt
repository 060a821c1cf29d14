use Rattle.std.proofs.Common.{◌≡◌, ◌∙◌, ap}
use Rattle.class_table.{proofs.LeastClass.{least_of, none_of}, specs.Tables.{class_number_for}}
use Rattle.class_table.proofs.table.ClassTable.find.Goals as goal

found : (c : goal.After-number_for) → c.number_for.result ≡ class_number_for c.args.self.now c.args.n
found c = c.number_for.ensures ∙ ap (λ classes. class_number_for classes c.args.n) (c.deref.ensures.0 ∙ c.self.view_is)

pub returns-clause-least : goal.returns-clause-least
returns-clause-least c = least_of 1 c.args.self.now c.args.n c.number_for.result (rw c.self.view_is at c.self.invariant) (found c)

pub returns-clause-none : goal.returns-clause-none
returns-clause-none c = none_of c.args.self.now c.args.n c.number_for.result (found c)
