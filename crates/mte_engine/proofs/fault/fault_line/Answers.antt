use Rattle.mte_engine.proofs.FaultNames.{pieces_of_line}
use Rattle.mte_engine.proofs.fault.fault_line.Goals as goal

pub returns : goal.returns
returns c =
    pieces_of_line c.args.fault c.push_str.new.self.bytes c.push_str-2.new.self.bytes c.push_line.new.text.bytes c.push_str-3.new.self.bytes
    c.name_of.result.now (rw c.new-text.ensures at c.push_str.ensures.bytes) c.push_str-2.ensures.bytes c.name_of.ensures.name
    (rw c.line_of.ensures at c.push_line.ensures.text) c.push_str-3.ensures.bytes
