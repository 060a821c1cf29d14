use Rattle.std.proofs.{Common.{[], ◌∷◌, codes}, lemmas.Result.{on_ok_weaker}}
use Rattle.class_table.specs.{ClassLine.{class_line}, NamedLines.{named_line}}
use Rattle.potential_check.{proofs.Appended.{head-appended}, specs.SheetText.{forced_lines, step_lines, word_of}}
use Rattle.potential_check.proofs.writing.append_head.Goals as goal

pub returns-clause-written : goal.returns-clause-written
returns-clause-written g c =
    let s = c.args.sheet.now in
    on_ok_weaker c.append_line.result
    (head-appended _ _ _ _ c.append_line.new.text.items (class_line s.table) (named_line (codes "limit") (s.limit ∷ []))
    (named_line (word_of c.args.cost) (s.cost ∷ [])) (step_lines s.step) (forced_lines s.forced) c.in_ok-append_table.ensures.written
    c.in_ok-append_limits.ensures.written c.in_ok-append_forced.ensures.written)
    (rw c.word.ensures at c.append_line.ensures.written)
