-- What is handed out of a call of an engine, from bytes in memory to an empty sink, is its answer.
use Rattle.std.proofs.Common.{◌≡◌, ℕ, List, [], ◌++◌, Some, Result, Ok, Err, refl, ap, ◌∙◌, inl, inr}
use Rattle.byte_streams.specs.{Streams.{SourceState, sink_state}, declared.memory_streams.MemorySink.{MemorySink}}
use Rattle.mte_engine.{proofs.LawLemmas.{answers_all}, specs.Outcome.{Answer, AnswersInput, Reports, Runs}}
use Rattle.mte_engine.specs.declared.{engine.Status.{Status}, engine.Status.TheVariants.{Done, No}, fault.InputFault.{InputFault}}
use Rattle.mte_engine.specs.declared.fault.{ToolFault.{ToolFault}, ToolFault.TheVariants.{OutOfMemory, Input, ReadFault, WriteFault}}
use Rattle.mte_c.specs.{Commands.Answered.{HandsOut, IsAnswered}, declared.commands.call_end.CallEnd.{CallEnd}}
use Rattle.mte_c.specs.declared.commands.call_end.CallEnd.TheVariants.{OutOfMemory as RanOut}

-- memory ran out
ran_out : (answers : List ℕ → Result Answer InputFault → Type 0) (all : List ℕ) (ended : CallEnd) (text : List ℕ) → ended ≡ RanOut
    → text ≡ [] → IsAnswered answers all ended text
ran_out answers all ended text out none = rw out none

-- the text of an answer, with its status
answered : (answers : List ℕ → Result Answer InputFault → Type 0) (source source' : SourceState) (sink sink' : MemorySink) (all : List ℕ)
    (status : Status) → source.remaining ≡ Some all → sink.text.items ≡ []
    → Reports answers source source' (λ (s : MemorySink). sink_state (Some s.text.items) s.writes) sink sink' (Ok status)
    → AnswersInput answers all (Ok (record { text = sink'.text.items; status = status }))
answered answers source source' sink sink' all status knows empty ran =
    let same : sink'.text.items ≡ ran.0 = ran.2.known ∙ ap (λ (t : List ℕ). t ++ ran.0) empty in
    rw same (answers_all answers source source' all _ knows ran.1)

handed : (answers : List ℕ → Result Answer InputFault → Type 0) (source source' : SourceState) (sink sink' : MemorySink)
    (end : Result Status ToolFault) (all : List ℕ) (ended : CallEnd) (text : List ℕ) → source.remaining ≡ Some all → sink.text.items ≡ []
    → Reports answers source source' (λ (s : MemorySink). sink_state (Some s.text.items) s.writes) sink sink' end
    → HandsOut end sink'.text.items ended text → IsAnswered answers all ended text
handed answers source source' sink sink' (Ok Done) all ended text knows empty ran (inl out) =
    rw (out.0, out.1) (answered answers source source' sink sink' all Done knows empty ran)
handed answers source source' sink sink' (Ok Done) all ended text knows empty ran (inr out) = ran_out answers all ended text out.0 out.1
handed answers source source' sink sink' (Ok No) all ended text knows empty ran (inl out) =
    rw (out.0, out.1) (answered answers source source' sink sink' all No knows empty ran)
handed answers source source' sink sink' (Ok No) all ended text knows empty ran (inr out) = ran_out answers all ended text out.0 out.1
handed answers source source' sink sink' (Err (Input fault)) all ended text knows empty ran (inl out) =
    rw (out.0, out.1) (answers_all answers source source' all _ knows ran.0, refl)
handed answers source source' sink sink' (Err (Input fault)) all ended text knows empty ran (inr out) =
    ran_out answers all ended text out.0 out.1
handed answers source source' sink sink' (Err OutOfMemory) all ended text knows empty ran out = ran_out answers all ended text out.0 out.1
handed answers source source' sink sink' (Err ReadFault) all ended text knows empty ran out = ran_out answers all ended text out.0 out.1
handed answers source source' sink sink' (Err WriteFault) all ended text knows empty ran out = ran_out answers all ended text out.0 out.1

pub handed_out : {answers : List ℕ → Result Answer InputFault → Type 0} {source source' : SourceState} {sink sink' : MemorySink}
    {end : Result Status ToolFault} (all : List ℕ) (ended : CallEnd) (text : List ℕ)
    → Runs answers source source' (λ (s : MemorySink). sink_state (Some s.text.items) s.writes) sink sink' end
    → source.remaining ≡ Some all → sink.text.items ≡ [] → HandsOut end sink'.text.items ended text → IsAnswered answers all ended text
handed_out {answers = a} {source = s} {source' = s'} {sink = k} {sink' = k'} {end = e} all ended text ran knows empty out =
    handed a s s' k k' e all ended text knows empty ran.answer out
