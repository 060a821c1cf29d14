-- The types of the code, as the definitions see them.
use Rattle.std.specs.{Prelude.{◌≡◌, ℕ, ◌≤◌, List, length, take, true, Option, None, Result, is_some, ⊤}, Result.{result_map_both}}
use Rattle.replay_theory.specs.{Hardening.{AreNullOrTagged}, Replay.{Replay, Answer}, Totals.{Totals, loss_of_request}}
use Rattle.replay_theory.specs.Replay.Answer.{Silent, Loaded, NotMapped, TagFault, NoPointer, NotFreed}
use Rattle.heap_theory.specs.{State.{Heap}, declared.refusal.NullCause.{NullCause}}
use Rattle.replay_core.specs.declared.{access.TheConstants.{LONGEST_ACCESS}, answer.Answer.{Answer as TheAnswer}}
use Rattle.replay_core.specs.declared.answer.Answer.TheVariants.{Silent as ItIsSilent, Served as ItIsServed, NotResized as ItIsNotResized}
use Rattle.replay_core.specs.declared.answer.Answer.TheVariants.{Loaded as ItLoaded, NotMapped as ItIsNotMapped, TagFault as ItIsATagFault}
use Rattle.replay_core.specs.declared.answer.Answer.TheVariants.{NoPointer as ItHasNoPointer, NotFreed as ItIsNotFreed}
use Rattle.replay_core.specs.declared.{replay.TheConstants.{VARIABLES}, totals.Totals.{Totals as TheTotals}}

-- A result, with the buffer that holds the bytes of a load.
abbrev pub shown : List ℕ → TheAnswer → Answer
shown bytes ItIsSilent = Silent
shown bytes (ItIsServed loss) = Silent
shown bytes (ItLoaded len) = Loaded (take len bytes)
shown bytes ItIsNotMapped = NotMapped
shown bytes (ItIsATagFault granule memory_tag pointer_tag kind) = TagFault granule memory_tag pointer_tag kind
shown bytes (ItHasNoPointer cause) = NoPointer cause
shown bytes (ItIsNotFreed error) = NotFreed error
shown bytes (ItIsNotResized error) = NotFreed error

-- An answer says whether its event is a request, by the size of the request, and what is lost on one that is served.
abbrev pub TellsRequest : List ℕ → Option ℕ → TheAnswer → Type 0
TellsRequest classes size ItIsSilent = size ≡ None
TellsRequest classes size (ItIsServed loss) = (is_some size ≡ true) × (loss ≡ loss_of_request classes size)
TellsRequest classes size (ItLoaded len) = size ≡ None
TellsRequest classes size ItIsNotMapped = size ≡ None
TellsRequest classes size (ItIsATagFault granule memory_tag pointer_tag kind) = size ≡ None
TellsRequest classes size (ItHasNoPointer cause) = is_some size ≡ true
TellsRequest classes size (ItIsNotFreed error) = size ≡ None
TellsRequest classes size (ItIsNotResized error) = is_some size ≡ true

abbrev pub totals_in : TheTotals → Totals
totals_in t = record {
  events = t.events;
  requests = t.requests;
  null_large = t.null_large;
  null_no_class = t.null_no_class;
  null_exhausted = t.null_exhausted;
  faults_tag = t.faults_tag;
  faults_unmapped = t.faults_unmapped;
  refused_frees = t.refused_frees;
  loss = t.loss;
}

-- a heap with its variables
abbrev pub over : Heap → List ℕ → Replay
over heap variables = record { heap = heap; variables = variables }

-- The 1,024 variables of a trace.
pub record AreVariables (variables : List ℕ) : Type 0 where
  pub long : length variables ≡ VARIABLES
  pub tagged : AreNullOrTagged variables

-- The bytes that were loaded fit the buffer of 64 bytes.
abbrev pub FitsBuffer : TheAnswer → Type 0
FitsBuffer ItIsSilent = ⊤
FitsBuffer (ItIsServed loss) = ⊤
FitsBuffer (ItLoaded len) = len ≤ LONGEST_ACCESS
FitsBuffer ItIsNotMapped = ⊤
FitsBuffer (ItIsATagFault granule memory_tag pointer_tag kind) = ⊤
FitsBuffer (ItHasNoPointer cause) = ⊤
FitsBuffer (ItIsNotFreed error) = ⊤
FitsBuffer (ItIsNotResized error) = ⊤

-- The pointer of a request, which comes with the bytes that are lost on it.
abbrev pub pointer_in : Result (ℕ × ℕ) NullCause → Result ℕ NullCause
pointer_in given = result_map_both (λ pair. pair.0) (λ cause. cause) given
