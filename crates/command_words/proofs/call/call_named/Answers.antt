use Rattle.clap.specs.Words.{found_of, rows_of}
use Rattle.command_words.proofs.Calls.{no_call}
use Rattle.command_words.proofs.call.call_named.Goals as goal

pub returns-in-Err : goal.returns-in-Err
returns-in-Err c = no_call c.args.name.now c.in-Some.command (rows_of (found_of c.args.words.now)) c.in-Some.ensures c.in-Err.ensures
