use Rattle.std.{proofs.Common.{◌≡◌, true, arith, sym, ◌∙◌, rules}, proofs.lemmas.Slice.Eq.{bytes_eq-Decides}, specs.Str.{bytes_eq}}
use Rattle.history_count.specs.Timelines.TimelineText.{head_line}
use Rattle.mte_engine.proofs.CountsInput.{keeps_begun}
use Rattle.mte_engine.proofs.counts_input.CountsInput.begin.Goals as goal

pub returns : goal.returns
returns c = λ bytes taken.
    let i = c.args.self.now in
    let line = c.in-Some.line.now in
    let same : bytes_eq line head_line ≡ true = search rules in
    let head : line ≡ head_line = grind (arith, bytes_eq-Decides) in
    keeps_begun i.is_timeline i.reader c.feed.new.self i.text.text.items bytes line c.in-Some.rest.now c.requires
    (sym c.deref.ensures.value ∙ c.in-Some.ensures.cut) head c.in_ok-feed.ensures taken
