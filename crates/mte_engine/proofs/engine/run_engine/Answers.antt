use Rattle.std.proofs.{Common.{rules, ◌≡◌, ℕ, ◌≤◌, List, ◌++◌, length, Result, Ok, Err, arith, subst}}
use Rattle.std.proofs.lemmas.Result.{err_from_is_err_and}
use Rattle.byte_streams.specs.{Streams.{SinkState, SourceState}, Transfer.{HasEnded, HasGiven, HasTaken, most_input}}
use Rattle.mte_engine.specs.{Outcome.{Answer, AnswersGiven, Reports}, declared.engine.Status.{Status}}
use Rattle.mte_engine.specs.declared.fault.{InputFault.{InputFault}, ToolFault.TheVariants.{WriteFault}}
use Rattle.mte_engine.proofs.engine.run_engine.Goals as goal

-- From what the two loops did to what a call of an engine wrote.

-- an answer to all that a source gave
answers_given : (answers : List ℕ → Result Answer InputFault → Type 0) (source source' : SourceState) (input : List ℕ)
    (answer : Result Answer InputFault) → HasGiven source source' input → length input ≤ most_input → HasEnded source' → answers input answer
    → AnswersGiven answers source source' answer
answers_given answers source source' input answer gave short ended given = grind arith

-- a write failed: the sink took a prefix of the text of the answer
write_failed : (answers : List ℕ → Result Answer InputFault → Type 0) (source source' : SourceState) {W : Type 0} (state : W → SinkState)
    (sink sink' : W) (input text : List ℕ) (status : Status)
    (written rest : List ℕ) → length input ≤ most_input → HasGiven source source' input → HasEnded source'
    → answers input (Ok (record { text = text; status = status })) → text ≡ written ++ rest
    → HasTaken (state sink) (state sink') written → Reports answers source source' state sink sink' (Err WriteFault)
write_failed answers source source' state sink sink' input text status written rest short gave ended given parts taken =
    let prefix : answers input (Ok (record { text = written ++ rest; status = status })) =
    subst (λ (t : List ℕ). answers input (Ok (record { text = t; status = status }))) parts given in
    (written, rest, status, answers_given answers source source' input _ gave short ended prefix, taken)

pub returns-in_err-write_all : goal.returns-in_err-write_all
returns-in_err-write_all g c =
    let error = err_from_is_err_and c.from_residual-in_err-write_all.result c.from_residual-in_err-write_all.ensures.1 in
    let source = g.R.ByteSource.state in
    let sink = g.W.ByteSink.state in
    let read = c.in_ok-read_all.ensures.read in
    let written = c.in_err-write_all.ensures in
    let output = c.in_ok-output.output in
    rw (error.1, error.2) record {
      read_fault = search rules;
      write_fault = search rules;
      answer =
          write_failed (g.E.Engine.answers c.args.engine.now) (source c.args.source.now) (source c.read_all.new.source) sink c.args.sink.now
          c.write_all.new.sink read.0 (g.E.Output.Output.rest output) c.in_ok-output.status written.0 written.1 read.2 read.3 read.4
          (c.in_ok-output.ensures read.0 read.1) written.2 written.3;
      few_reads = search rules;
    }
