-- What was read of the words, and what comes of it.
use Rattle.std.proofs.Common.{◌≡◌, List, Result, Ok, Err, IfOk, MatchResult, subst, sym}
use Rattle.byte_streams.specs.Streams.{SinkState, SourceState}
use Rattle.clap.specs.Words.{Text}
use Rattle.command_words.specs.{Words.{AreRefused, Mean}, declared.refusal.Refusal.{Refusal}}
use Rattle.mte_engine.specs.{Calls.{answers_of}, Outcome.{Runs}}
use Rattle.mte_tool.{proofs.Calls.{call_is_valid}, specs.Calls.{MatchEnd}, specs.declared.running.CallEnd.{CallEnd}}
use Rattle.mte_tool.specs.declared.running.CallEnd.TheVariants.{Done, Failed, Refused}
use Rattle.tool_call.specs.{Options.{IsValid}, declared.call.Call.{Call}}

pub valid_read : (words : List Text) (read : Result Call Refusal) → MatchResult read (Mean words) (AreRefused words)
    → IfOk read (λ call. IsValid call)
valid_read words (Ok call) is = call_is_valid _ call is.1
valid_read words (Err refusal) is = tt

pub end_of_read : {R W : Type 0} (words : List Text) (read : Result Call Refusal) (end : CallEnd) (of_source : R → SourceState) (of_sink : W → SinkState)
    (source source' : R) (sink sink' : W) → MatchResult read (Mean words) (AreRefused words)
    → MatchResult read
    (λ call. MatchEnd end (λ result. Runs (answers_of call) (of_source source) (of_source source') of_sink sink sink' result) (λ refusal. ⊥))
    (λ refusal. (end ≡ Refused refusal) × (source' ≡ source) × (sink' ≡ sink))
    → MatchEnd end
    (λ result. (call : Call) × Mean words call × Runs (answers_of call) (of_source source) (of_source source') of_sink sink sink' result)
    (λ refusal. AreRefused words refusal × (source' ≡ source) × (sink' ≡ sink))
end_of_read words (Ok call) (Done status) of_source of_sink source source' sink sink' is has = (call, is, has)
end_of_read words (Ok call) (Failed fault) of_source of_sink source source' sink sink' is has = (call, is, has)
end_of_read words (Ok call) (Refused refusal) of_source of_sink source source' sink sink' is has = absurd has
end_of_read words (Err refusal) end of_source of_sink source source' sink sink' is has =
    subst (λ (e : CallEnd). MatchEnd e
    (λ result. (call : Call) × Mean words call × Runs (answers_of call) (of_source source) (of_source source') of_sink sink sink' result)
    (λ r. AreRefused words r × (source' ≡ source) × (sink' ≡ sink)))
    (sym has.0) (is, has.1, has.2)
