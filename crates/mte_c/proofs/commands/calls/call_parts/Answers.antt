use Rattle.std.proofs.Common.{◌++◌, refl}
use Rattle.handed_text.specs.Bytes.{bytes_of}
use Rattle.mte_c.proofs.CommandLemmas.HandedOut.{handed_out}
use Rattle.mte_c.proofs.commands.calls.call_parts.Goals as goal

pub returns-clause-answer : goal.returns-clause-answer
returns-clause-answer c =
    handed_out (c.args.first.items ++ c.args.input.now) c.hand_out.result (bytes_of c.hand_out.new.text) c.run_call-end.ensures
    (rw (c.new-source.ensures.first, c.new-source.ensures.second, c.deref.ensures.value) refl) c.new_sink-sink.ensures.text
    c.hand_out.ensures.answer
