use Rattle.std.proofs.{Common.{◌<◌, ◌++◌, length, sym, ◌∙◌, arith}, lemmas.List.{length-append}}
use Rattle.trace_reader.proofs.Reaching.{extended, keeps, keeps_not, not_extended}
use Rattle.trace_reader.proofs.reader.TraceReader.keep.Goals as goal

pub returns-then-is_err-clause-reading : goal.returns-then-is_err-clause-reading
returns-then-is_err-clause-reading c =
    let i = c.self.inside in
    let fits_not =
    not_extended c.try_extend_from_slice.result _ (sym c.is_err.ensures.value ∙ c.if-is_err.true)
    c.try_extend_from_slice.ensures.variant in
    let long : 80 < length (i.rest.items ++ c.args.bytes.now) = grind (arith, length-append, fits_not) in
    keeps_not c.args.self.now c.fail.new.self i.events i.lines i.rest.items c.args.bytes.now i.status c.self.view_is c.requires.open
    c.requires.line long c.fail.ensures.failed

pub returns-clause-reading : goal.returns-clause-reading
returns-clause-reading c =
    let i = c.self.inside in
    let ok =
    extended c.try_extend_from_slice.result _ _ (sym c.is_err.ensures.value ∙ c.if-is_err.false) c.try_extend_from_slice.ensures.variant
    c.try_extend_from_slice.ensures.ok in
    keeps c.args.self.now i.events i.lines i.rest.items c.args.bytes.now c.try_extend_from_slice.new.self.items i.status
    c.self.view_is c.requires.open c.requires.line (omega (arith, length-append i.rest.items c.args.bytes.now, ok.0)) ok.1
