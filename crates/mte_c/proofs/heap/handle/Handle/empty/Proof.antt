-- By the proof of all handles.
use Rattle.handed_text.proofs.LawLemmas.Handles.Empty.{empty}
use Rattle.mte_c.{proofs.HeapLemmas.AsHandle.{K}, specs.contracts.heap.handle.Handle.empty.Key.{name as #self}}
use Rattle.mte_c.proofs.heap.handle.Handle.empty.Code as code
use Rattle.mte_c.proofs.heap.handle.Handle.empty.Statement as stated

pub empty_spec : {M : Type 1} → stated.statement M
empty_spec 𝓤 𝓛 𝓜 𝓡 wired = empty K 𝓛 𝓜 𝓡 #self (code.unfolded 𝓤 𝓛.H 𝓜 𝓡 wired)
