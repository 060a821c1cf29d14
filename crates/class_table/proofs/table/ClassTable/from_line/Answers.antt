use Rattle.std.proofs.{Common.{◌≡◌, ap, subst, sym, ◌∙◌, true, false, codes}, lemmas.Bool.{not-true, not-false}}
use Rattle.std.specs.Str.{bytes_eq}
use Rattle.class_table.{proofs.Words.{other_name, named, table_of_words}, specs.ClassLine.{table_of_line}, specs.Faults.{Gives}}
use Rattle.class_table.proofs.table.ClassTable.from_line.Goals as goal

pub returns-in_default-clause-exact : goal.returns-in_default-clause-exact
unfolding table_of_line
returns-in_default-clause-exact c = ap table_of_words (sym c.words_in-words.ensures ∙ c.in_default.ensures.steps.0)

pub returns-then-ne-clause-exact : goal.returns-then-ne-clause-exact
unfolding table_of_line
returns-then-ne-clause-exact c =
    let other : bytes_eq c.in-Some.name.now (codes "classes") ≡ false = not-true _ (sym c.if-ne.ensures) in
    ap table_of_words (sym c.words_in-words.ensures ∙ c.in-Some.ensures.steps) ∙ other_name c.in-Some.name.now c.next.new.self other

pub returns-clause-exact : goal.returns-clause-exact
unfolding table_of_line
returns-clause-exact c =
    let same : bytes_eq c.in-Some.name.now (codes "classes") ≡ true = not-false _ (sym c.if-ne.ensures) in
    let read = ap table_of_words (sym c.words_in-words.ensures ∙ c.in-Some.ensures.steps) ∙ named c.in-Some.name.now c.next.new.self same in
    subst (Gives c.table_of_words.result) (sym read) c.table_of_words.ensures.exact
