use Rattle.std.proofs.Common.{◌≡◌, ◌<◌, ◌++◌, Some, arith, refl, subst, sym, ◌∙◌, false, length, length-append}
use Rattle.std.proofs.lemmas.List.Elements.{All-append}
use Rattle.line_text.specs.Lines.{is_newline}
use Rattle.history_count.{proofs.TimelineLemmas.Pieces.{fed_too_long, is_unfailed}, specs.Timelines.Pieces.{IsFed, Reading}}
use Rattle.history_count.specs.declared.timelines.fault.TimelineFault.TheVariants.{BadTimeline}
use Rattle.history_count.proofs.timelines.reader.TimelineReader.keep.Goals as goal

pub returns-then-bytes-len : goal.returns-then-bytes-len
returns-then-bytes-len c =
    let i = c.self.inside in
    let bytes = c.args.bytes.now in
    let old : Reading = record { events = i.events.items; fault = i.fault; rest = i.rest.items } in
    let new : Reading = record { events = i.events.items; fault = Some BadTimeline; rest = i.rest.items } in
    let Fed : Reading → Type 0 = λ r. IsFed r bytes new in
    let unfailed = is_unfailed i.fault (sym c.is_some.ensures ∙ c.if-is_some.false) in
    let line = All-append (λ b. is_newline b ≡ false) i.rest.items bytes c.self.invariant.2 c.requires in
    let long : 6 < length (i.rest.items ++ bytes) =
    omega (arith, c.if-bytes-len.true, c.len.ensures, c.self.invariant.3, length-append i.rest.items bytes) in
    subst Fed c.self.view_is (fed_too_long old new bytes line long unfailed refl refl)
