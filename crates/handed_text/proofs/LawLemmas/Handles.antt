-- The hand proof of every handle that C holds: a structure of one raw pointer, with the value that it leads to as ghost data. An exported
-- function takes no structure with a type parameter, so each type that is handed out has a handle of its own. Each states what it is by a
-- `HandleOf`, and takes the proofs of its three functions from `Empty`, `OfParts` and `IntoParts`.
--     single X      X as a type of one machine value, which each type that has one is by computation
--     HandleOf      what a handle holds, with its laws; the handle's structure; the pointer and the value in it, and how it is made of them
--     Held, Handle, Parts      the rows of the value, of the handle, and of the parts of a box of the value, which is E
--     owns_made     what the handle of a pointer and a value owns
use mathlib.Core.{List.{List, [], ◌∷◌}, Path.{◌≡◌, sym}}
use mir.{Syntax.{Ty, impl, tnil, tcons, dnil, ty_ptr, ty_struct}, Val.{Val}}
use base.Fml.{Fml, fsep, fex}
use denote.{Exit.{under, hidden}, Param.{layout}, Param.Laws.{Laws}, RattleType.{RattleType, Valss}, RawPtr.{Ptr, RawPtr}}
use denote.{Signature.{Slot, plain}, Struct.Field.{RawPtr-field}, Struct.Owning.{Owning, shape, row}, Struct.Struct.{exits_of, within}}
use Rattle.std.proofs.Common.{Option}
use Rattle.std_alloc.proofs.BoxSteps.Form.{Bx}
use Rattle.std_heap.specs.contracts.GlobalAllocator.TheImpl.{ghosts, dict}
use Rattle.handed_text.specs.Ownership.{handle_owns}
use Rattle.std_heap.specs.contracts.Global as Heap
use Rattle.std_heap.proofs.Global.TheLaws as heap
use Rattle.handed_text.specs.contracts.parts.BoxParts as parts
pub mod Empty
pub mod IntoParts
pub mod OfParts

abbrev pub single : RattleType → RattleType
single X = record X { mir = layout X ∷ [] }

pub record HandleOf : Type 2 where
  pub held : RattleType
  pub laws : Laws (single held)
  pub type : Owning
  pub at : type.D → Ptr
  pub value : type.D → Option held.Denot
  pub make : Ptr → Option held.Denot → type.D
  pub at_made : (p : Ptr) (o : Option held.Denot) → at (make p o) ≡ p
  pub value_made : (p : Ptr) (o : Option held.Denot) → value (make p o) ≡ o

module _ (K : HandleOf) where
  abbrev pub X : Type 0
  X = (K.held).Denot

  abbrev pub Held : RattleType
  Held = single K.held

  abbrev pub E : Bx
  E = record {
    row = Held;
    laws = K.laws;
    al = record { row = Heap.the_row; laws = heap.the_row_laws; g = ghosts; d = dict; drops = impl [] tnil dnil };
  }

  abbrev pub the_type : Owning
  the_type = record {
    name = (K.type).name;
    args = [];
    types = [];
    parts = RawPtr-field ∷ [];
    D = (K.type).D;
    as_values = λ d. (K.at d, tt);
    coded = (K.type).coded;
    heap = λ d. handle_owns Held (K.at d) (K.value d);
    exit = λ k. hidden (under (λ d. (K.at d, tt)) (exits_of k (RawPtr ∷ [])));
    shr_at = (K.type).shr_at;
  }

  abbrev pub Handle : RattleType
  Handle = row the_type

  abbrev pub handle_ty : Ty
  handle_ty = ty_struct (K.type).name (tcons ty_ptr tnil)

  abbrev pub Parts : RattleType
  Parts = parts.the_row Held Heap.the_row ghosts

  abbrev pub FromParts : Slot 0
  FromParts = plain (λ _. Parts)

  abbrev pub FromHandle : Slot 0
  FromHandle = plain (λ _. Handle)

  abbrev pub FromGlobal : Slot 0
  FromGlobal = plain (λ _. Heap.the_row)

  -- what a handle owns, of its parts
  abbrev pub owns_parts : Ptr → Option X → List Val → Fml
  owns_parts p o vs = fsep (fex (Valss (RawPtr ∷ [])) (within (shape the_type) (p, tt) vs)) (handle_owns Held p o)

  pub owns_made : (p : Ptr) (o : Option X) (vs : List Val) → owns_parts p o vs ≡ Handle.own_val (K.make p o) vs
  owns_made p o vs = λ i. owns_parts (sym (K.at_made p o) i) (sym (K.value_made p o) i) vs
