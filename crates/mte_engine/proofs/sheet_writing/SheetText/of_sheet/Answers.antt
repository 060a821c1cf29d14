use Rattle.std.proofs.{Common.{◌∙◌}, lemmas.Result.{IfOk-weaker}}
use Rattle.mte_engine.proofs.RowLines.{rows_after}
use Rattle.mte_engine.proofs.sheet_writing.SheetText.of_sheet.Goals as goal

pub returns : goal.returns
returns g c =
    let head = c.in_ok-write_sheet.ensures.written in
    let value = c.replace-rows.ensures.value in
    let after = c.replace-rows.ensures.after in
    let none = c.in_ok-head.ensures.items in
    let empty = c.new.ensures.items in
    let made = c.new-2.ensures in
    let sheet = c.args.sheet in
    let all = rows_after g.C.CostKind.kind sheet.table sheet.limit sheet.step sheet.forced sheet.cost sheet.rows in
    IfOk-weaker c.new-3.result _ _ (λ output e. e ∙ rw (head, none, value, after, made, empty) all) c.new-3.ensures
