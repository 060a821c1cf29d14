-- By the proof of all handles.
use Rattle.handed_text.proofs.LawLemmas.Handles.IntoParts.{into_parts}
use Rattle.mte_c.{proofs.HeapLemmas.AsHandle.{K}, specs.contracts.heap.handle.Handle.into_parts.Key.{name as #self}}
use Rattle.mte_c.proofs.heap.handle.Handle.into_parts.Code as code
use Rattle.mte_c.proofs.heap.handle.Handle.into_parts.Statement as stated

pub into_parts_spec : {M : Type 1} → stated.statement M
into_parts_spec 𝓤 𝓛 𝓜 𝓡 wired = into_parts K 𝓛 𝓜 𝓡 #self (code.unfolded 𝓤 𝓛.H 𝓜 𝓡 wired)
