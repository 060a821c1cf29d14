use Rattle.std.proofs.Common.{refl, append-nil}
use Rattle.handed_text.specs.Bytes.{bytes_of}
use Rattle.mte_c.proofs.CommandLemmas.HandedOut.{handed_out}
use Rattle.mte_c.proofs.commands.calls.call_texts.Goals as goal

pub returns-clause-answer : goal.returns-clause-answer
returns-clause-answer c =
    handed_out c.args.input.now c.hand_out.result (bytes_of c.hand_out.new.text) (rw c.deref.ensures.value at c.run_call_on-end.ensures)
    (rw (c.new-source.ensures.first, c.new-source.ensures.second, append-nil c.args.input.now) refl) c.new_sink-sink.ensures.text
    c.hand_out.ensures.answer
