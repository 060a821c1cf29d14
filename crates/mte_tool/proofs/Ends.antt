-- How the program ends, by what its parts have done.
use Rattle.std.proofs.Common.{◌≡◌, ◌⊎◌, ◌<◌, ◌++◌, inl, inr, ℕ, Bool, MatchBool, true, false, List, [], length, Result, Ok, Err}
use Rattle.std.proofs.Common.{IsOk, arith, refl, subst, sym, ap, ◌∙◌, append_assoc, length-append}
use Rattle.byte_streams.specs.{Streams.{SinkState, SourceState}, Transfer.{HasTaken, HasWritten}, declared.streams.Failure.{Failure}}
use Rattle.clap.specs.{Words.{kind_of}, declared.error.Error.{Error}}
use Rattle.command_words.specs.declared.refusal.{Refusal.{Refusal}, Refusal.TheVariants.{OutOfMemory as NoMemory, Words, Options}}
use Rattle.mte_engine.specs.{Calls.{answers_of}, Outcome.{Runs}, declared.engine.Status.{Status}}
use Rattle.mte_engine.specs.declared.{fault.ToolFault.{ToolFault}}
use Rattle.mte_engine.specs.declared.fault.ToolFault.TheVariants.{OutOfMemory, Input, ReadFault, WriteFault}
use Rattle.mte_tool.specs.{Exit.{is_shown}, RefusedRun.{EndsWithout, IsShown, IsToldEnd, TellsSome}, declared.end.End.{End}}
use Rattle.mte_tool.specs.Told.{BeginsWith, IsSilent, IsWaitingAtMost, Tells, WasToldFault, waiting_line}
use Rattle.mte_tool.specs.WholeRun.{AreNew, Ends, HasRun, IsToldMistake}
use Rattle.mte_tool.specs.declared.end.End.TheVariants.{Refused, Ended}
use Rattle.tool_call.specs.declared.call.Call.{Call}

-- ---- a call ran

-- what the error stream was told of the end of a call
abbrev ToldOf : SinkState → Result Status ToolFault → Type 0
ToldOf errors (Ok status) = IsWaitingAtMost errors
ToldOf errors (Err fault) = WasToldFault errors fault

ends_by : {W : Type 0} (means : Call → Type 0) (refused : Refusal → Type 0) (call : Call) (s s' : SourceState) (state : W → SinkState) (sink sink' : W)
    (errors : SinkState) (result : Result Status ToolFault) → s.given ≡ [] → (state sink).written ≡ [] → means call
    → Runs (answers_of call) s s' state sink sink' result → ToldOf errors result
    → Ends means refused s' (state sink') errors (Ended result)
ends_by means refused call s s' state sink sink' errors (Ok status) new-s new-w is runs told = (grind arith, told)
ends_by means refused call s s' state sink sink' errors (Err OutOfMemory) new-s new-w is runs told = (grind arith, told)
ends_by means refused call s s' state sink sink' errors (Err (Input fault)) new-s new-w is runs told = (
  grind arith,
  grind arith,
  told,
)
ends_by means refused call s s' state sink sink' errors (Err ReadFault) new-s new-w is runs told = ((call, is), grind arith, told)
ends_by means refused call s s' state sink sink' errors (Err WriteFault) new-s new-w is runs told = (grind arith, told)

run_of_call : {W : Type 0} (means : Call → Type 0) (refused : Refusal → Type 0) (call : Call) (s s' : SourceState) (state : W → SinkState) (sink sink' : W)
    (first errors : SinkState) (result : Result Status ToolFault) → AreNew s (state sink) first → means call
    → Runs (answers_of call) s s' state sink sink' result → ToldOf errors result
    → HasRun means refused s' (state sink') errors (Ended result)
run_of_call means refused call s s' state sink sink' first errors result new is runs told = record {
  read_fault = grind arith;
  write_fault = grind arith;
  ends = ends_by means refused call s s' state sink sink' errors result new.given new.written is runs told;
}

pub run_done : {W : Type 0} (means : Call → Type 0) (refused : Refusal → Type 0) (call : Call) (s s' : SourceState) (state : W → SinkState) (sink sink' : W)
    (first errors : SinkState) (status : Status) → AreNew s (state sink) first → means call
    → Runs (answers_of call) s s' state sink sink' (Ok status) → IsWaitingAtMost errors
    → HasRun means refused s' (state sink') errors (Ended (Ok status))
run_done means refused call s s' state sink sink' first errors status new is runs waiting =
    run_of_call means refused call s s' state sink sink' first errors (Ok status) new is runs waiting

pub run_failed : {W : Type 0} (means : Call → Type 0) (refused : Refusal → Type 0) (call : Call) (s s' : SourceState) (state : W → SinkState) (sink sink' : W)
    (first old new : SinkState) (fault : ToolFault) (end : End) → AreNew s (state sink) first → means call
    → Runs (answers_of call) s s' state sink sink' (Err fault) → IsWaitingAtMost old → IsToldEnd fault old new end
    → HasRun means refused s' (state sink') new end
run_failed means refused call s s' state sink sink' first old new fault end are-new is runs waiting told =
    subst (λ (e : End). HasRun means refused s' (state sink') new e) (sym told.0)
    (run_of_call means refused call s s' state sink sink' first new (Err fault) are-new is runs (old, waiting, told.1))

-- ---- no call ran

-- the end is a fault, or the words are refused, or their text was shown
module _ {W : Type 0} (means : Call → Type 0) (refused : Refusal → Type 0) (s : SourceState) (state : W → SinkState) (sink sink' : W)
    (old new : SinkState) (end : End) (given : s.given ≡ []) (no-read : s.failed ≡ 0) (written : (state sink).written ≡ [])
    (no-write : (state sink).failed ≡ 0) (waiting : IsWaitingAtMost old) where
  no_memory : IsToldEnd OutOfMemory old new end → sink' ≡ sink → HasRun means refused s (state sink') new end
  no_memory told same =
      rw (told.0, same) record {
        read_fault = grind arith;
        write_fault = grind arith;
        ends = (written, (old, waiting, told.1));
      }

  mistaken : (why : Refusal) → refused why → IsToldMistake new why → end ≡ Refused → sink' ≡ sink
      → HasRun means refused s (state sink') new end
  mistaken why is told ends same =
      rw (ends, same) record {
        read_fault = grind arith;
        write_fault = grind arith;
        ends = (((why, is, told), given), written);
      }

  shown : (error : Error) (text : List ℕ) → refused (Words error) → is_shown (kind_of error) ≡ true → 0 < length text
      → IsShown text (state sink) (state sink') old new end → HasRun means refused s (state sink') new end
  shown error text is asks some (inl has) =
      rw (has.0, has.2) record {
        read_fault = grind arith;
        write_fault = grind arith;
        ends = (((Words error, is, asks), given), grind arith, waiting);
      }
  shown error text is asks some (inr has) =
      rw has.0.0 record {
        read_fault = grind arith;
        write_fault = grind arith;
        ends = (inl ((Words error, is, asks), given), (old, waiting, has.0.1));
      }

  by_words : (error : Error) (b : Bool) → is_shown (kind_of error) ≡ b → refused (Words error)
      → MatchBool b
      ((IsToldEnd OutOfMemory old new end × (sink' ≡ sink))
      ⊎ ((text : List ℕ) × (0 < length text) × IsShown text (state sink) (state sink') old new end))
      ((end ≡ Refused) × (sink' ≡ sink) × TellsSome old new)
      → HasRun means refused s (state sink') new end
  by_words error true asks is (inl has) = no_memory has.0 has.1
  by_words error true asks is (inr has) = shown error has.0 is asks has.1 has.2
  by_words error false asks is has =
      mistaken (Words error) is (asks, (has.2.0, has.2.1, (old, waiting, has.2.2))) has.0 has.1

pub run_without : {W : Type 0} (means : Call → Type 0) (refused : Refusal → Type 0) (s : SourceState) (state : W → SinkState) (sink sink' : W)
    (first old new : SinkState) (why : Refusal) (end : End) → AreNew s (state sink) first → refused why → IsWaitingAtMost old
    → EndsWithout why state sink sink' old new end → HasRun means refused s (state sink') new end
run_without means refused s state sink sink' first old new NoMemory end are is waiting has =
    no_memory means refused s state sink sink' old new end are.given are.no_read_failed are.written are.no_write_failed waiting has.0 has.1
run_without means refused s state sink sink' first old new (Options fault) end are is waiting has =
    mistaken means refused s state sink sink' old new end are.given are.no_read_failed are.written are.no_write_failed waiting (Options fault)
    is (old, waiting, has.2) has.0 has.1
run_without means refused s state sink sink' first old new (Words error) end are is waiting has =
    by_words means refused s state sink sink' old new end are.given are.no_read_failed are.written are.no_write_failed waiting error _ refl is
    has

pub silent_waits : (errors : SinkState) → IsSilent errors → IsWaitingAtMost errors
silent_waits errors silent = record {
  begins = (waiting_line, ap (λ (start : List ℕ). start ++ waiting_line) (sym silent.written));
  whole = λ none. inl silent.written;
}

-- a text was told, and then another
told_both : (first second : List ℕ) (old mid new : SinkState) → HasTaken old mid first → mid.failed ≡ old.failed → Tells second mid new
    → Tells (first ++ second) old new
told_both first second old mid new taken same tells = record {
  told = first ++ tells.told;
  written =
      tells.written ∙ ap (λ (before : List ℕ). before ++ tells.told) taken.all ∙ append_assoc old.written first tells.told;
  whole = both tells.whole;
}
  where
    both : ((tells.told ≡ second) × (new.failed ≡ mid.failed)) ⊎ (BeginsWith second tells.told × (mid.failed < new.failed))
        → ((first ++ tells.told ≡ first ++ second) × (new.failed ≡ old.failed))
        ⊎ (BeginsWith (first ++ second) (first ++ tells.told) × (old.failed < new.failed))
    both (inl whole) = inl (ap (λ (t : List ℕ). first ++ t) whole.0, whole.1 ∙ same)
    both (inr part) =
        inr (
          (part.0.0, ap (λ (t : List ℕ). first ++ t) part.0.1 ∙ sym (append_assoc first tells.told part.0.0)),
          omega (arith, same, part.1),
        )

pub told_after : (first second : List ℕ) (old mid new : SinkState) (result : Result (Unit {0}) Failure) → 0 < length first
    → HasWritten first old mid result → IsOk result → Tells second mid new → TellsSome old new
told_after first second old mid new (Ok done) some written ok tells =
    (first ++ second, omega (arith, length-append first second, some), told_both first second old mid new written.0 written.1 tells)
told_after first second old mid new (Err failure) some written ok tells = let bad : ⊥ = cc in absurd bad

pub new_after : {S W : Type 0} (of_source : S → SourceState) (source source' : S) (of_sink : W → SinkState) (sink sink' : W) (first : SinkState)
    → source' ≡ source → sink' ≡ sink → AreNew (of_source source) (of_sink sink) first → AreNew (of_source source') (of_sink sink') first
new_after {S} {W} of_source source source' of_sink sink sink' first same-source same-sink new =
    subst (λ (x : S). AreNew (of_source x) (of_sink sink') first) (sym same-source)
    (subst (λ (y : W). AreNew (of_source source) (of_sink y) first) (sym same-sink) new)
