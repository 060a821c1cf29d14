use Rattle.std.{proofs.Common.{sym, ap, ◌∙◌}, proofs.lemmas.List.{take_rest}, specs.Option.{option_map}}
use Rattle.line_text.{proofs.Cuts.{words_at, words_last, shorter}, specs.Lines.{words_left}}
use Rattle.line_text.proofs.words.WordsIterator.next.Goals as goal

pub returns-in_default : goal.returns-in_default
returns-in_default c =
    let line = c.in_ok-line.line.now in
    let steps =
    sym c.self.view_is ∙ ap (λ r. words_left (option_map (λ x. x.now) r)) c.in_ok-line.was ∙ words_last line c.in_default.ensures in
    record { steps = steps; goes = record { on = λ h. (tt, h, shorter _ _ _ steps); keeps = tt; rests = λ h. tt } }

pub returns : goal.returns
returns c =
    let line = c.in_ok-line.line.now in
    let end = c.in-Some.end in
    let steps =
    sym c.self.view_is ∙ ap (λ r. words_left (option_map (λ x. x.now) r)) c.in_ok-line.was ∙ words_at line end c.in-Some.ensures in
    record {
      steps = rw take_rest steps;
      goes = record { on = λ h. (tt, h, rw take_rest (shorter _ _ _ steps)); keeps = tt; rests = λ h. tt };
    }
