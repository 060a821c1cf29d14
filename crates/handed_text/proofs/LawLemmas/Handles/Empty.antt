-- `empty` makes a handle that owns nothing.
use mathlib.Core.{List.{List, [], ◌∷◌}, Path.{◌≡◌, refl, subst}}
use seplogic.Ra.Ura.{Ura}
use mir.{Syntax.{Fn, Callee, aggregate, assign, int, local, place, return, seq, value_local, w64}, Val.{Val, vstruct, vnil, vcons}}
use base.{Fml.{Fml, ftrue}, Logic.{ent, emp, id⊢}}
use prog.{Model.{Model}, Wp.{WpFn, Closed}}
use types.{ByLocal.{alloc_all, pass_all, free_all, look_at, sets}, Logic.{Logic, sem}, Part.{agg}}
use types.Kit.{‵, raw, ◌⊛◌, ◌$◌, ◌∵◌, !, qed, move, keep, drop, use1, split, fjoin, fpack, feq_i, suffices, done}
use types.Run.{enter, returns, no_more, and_then, lit}
use contract.{Monad.{fact}, Running.{Running, MachineTables, tables}}
use denote.{RattleType.{Valss}, RawPtr.{RawPtr, null_ptr, ptr_val}, Signature.{plain}, Steps.{nothing}, Struct.Owning.{shape}}
use denote.{Struct.Struct.{within}, Triple.Clauses.{Ended, Clauses, closing}, Triple.Spec.{Meets}, Triple.Statement.{Contract}}
use denote.Triple.Walked.{says, Stays, walk_of, ends_at}
use Rattle.std.proofs.{Common.{Option, None, lit<}, raw_atomic.Walks.{proved_at}}
use Rattle.handed_text.proofs.LawLemmas.Handles.{HandleOf, X, the_type, Handle, owns_parts, owns_made, handle_ty}

module _ (K : HandleOf) where
  abbrev pub function : Fn
  function = record {
    lifetimes = 0;
    outlives = [];
    ty_params = [];
    givens = 0;
    params = 0;
    locals = local (handle_ty K) value_local ∷ [];
    body = seq (assign (place 0 []) (aggregate (int w64 0 ∷ []))) return;
  }

  abbrev pub ended : Ended
  ended = record {
    signature = record { lifetimes = 0; outlives = []; params = []; result = plain (λ _. Handle K) };
    kept = tt;
  }

  abbrev stayed : Stays (ended).signature.params (ended).kept
  stayed = tt

  module _ {M : Type 1} (𝓤 : Ura M) where
    abbrev pub clauses : Clauses 𝓤 ended
    clauses κs a = record { ghost = Unit {0}; requires = λ _. emp 𝓤; ensures = λ _ r _. fact 𝓤 (K.value r ≡ None) }

  module _ {M : Type 1} {𝓤 : Ura M} (𝓛 : Logic 𝓤) (𝓜 : Model 𝓤 𝓛.H) (𝓡 : Running 𝓤 𝓛.H 𝓜) where
    open 𝓛 use {H}

    abbrev 𝓣 : MachineTables 𝓤 H 𝓜
    𝓣 = tables 𝓤 H 𝓜 𝓡 𝓡.env

    abbrev W : Contract 𝓤
    W = walk_of 𝓛 ended stayed (clauses 𝓤)

    walk : (z : W.Ghost) → ent 𝓤 (W.pre z) (WpFn 𝓤 H 𝓣.C 𝓣.Λ function [] (W.post z))
    walk z =
        let none : Option (X K) = None in
        let w : Val = vstruct (vcons (ptr_val null_ptr) vnil) in
        qed 𝓛 ((‵ ftrue ⊛ ‵ ftrue) ∷ raw (emp 𝓤) ∷ []) ∵
        keep ! (0 ∷ []) $ split ! $ move ! (1 ∷ []) $ drop ! $
        enter ! 𝓣.C 𝓣.Λ function [] (W.post z) $ alloc_all ! (λ l. pass_all ! refl tt $
        sets ! (agg ! (and_then ! (lit ! tt) (no_more !))) refl (tt, (record { fits = lit< tt }, tt)) $
        nothing ! $ nothing ! $ feq_i ! (List Val) (ptr_val null_ptr ∷ []) (ptr_val null_ptr ∷ []) refl $ fjoin ! $
        feq_i ! (List Val) (w ∷ []) (w ∷ []) refl $ fjoin ! $
        fpack ! (Valss (RawPtr ∷ [])) (within (shape (the_type K)) (null_ptr, tt) (w ∷ [])) (ptr_val null_ptr ∷ [], tt) $ fjoin ! $
        use1 𝓛 (‵ ((Handle K).own_val (K.make null_ptr none) (w ∷ [])))
        (subst (λ (F : Fml). ent 𝓤 (sem 𝓛 (owns_parts K null_ptr none (w ∷ []))) (sem 𝓛 F))
        (owns_made K null_ptr none (w ∷ [])) (id⊢ 𝓤 _)) $
        returns ! (look_at ! 0 refl) $ free_all ! refl $
        suffices ! _ (ends_at 𝓛 ended stayed (clauses 𝓤) z w (K.make null_ptr none) tt tt) $ says ! (K.value_made null_ptr none) $
        nothing ! $ move ! (2 ∷ 0 ∷ 1 ∷ []) $ done !)

    pub empty : (k : Callee) → Closed 𝓤 H 𝓣.C 𝓣.Λ k function → Meets 𝓛 (ended).signature (𝓣.C k) (closing 𝓛 ended (clauses 𝓤))
    empty k closed = proved_at 𝓛 ended stayed (clauses 𝓤) 𝓜 𝓡 tt k function closed (λ z _. walk z)
