use Rattle.std.proofs.Common.{map, string_bytes}
use Rattle.mte_tool.proofs.WordsRead.{end_of_read, valid_read}
use Rattle.mte_tool.proofs.running.run_call_of.Goals as goal

pub run_read-requires : goal.run_read-requires
run_read-requires g c = valid_read (map string_bytes c.args.words.now) c.read_call.result c.read_call.ensures

pub returns : goal.returns
returns g c =
    end_of_read (map string_bytes c.args.words.now) c.read_call.result c.run_read.result g.R.ByteSource.state g.W.ByteSink.state c.args.source.now
    c.run_read.new.source c.args.sink.now c.run_read.new.sink c.read_call.ensures c.run_read.ensures
