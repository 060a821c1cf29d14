-- `of_parts` moves a pointer, and what it leads to goes with it.
use mathlib.Core.{List.{List, [], ◌∷◌, ◌++◌}, Path.{◌≡◌, refl, sym, subst}}
use seplogic.Ra.Ura.{Ura}
use mir.Syntax.{Fn, Callee, aggregate, assign, copy, field, local, place, return, rv_opd, seq, ty_ptr, value_local}
use mir.Val.{Val, vptr, vstruct, vnil, vcons}
use base.{Fml.{Fml, ftrue, fsep}, Logic.{ent, emp, id⊢}}
use prog.{Model.{Model}, Wp.{WpFn, Closed}}
use types.{ByLocal.{alloc_all, pass_all, free_all, look_at, get, get_in, sets}, Logic.{Logic, sem}, Part.{whole, sub, agg}}
use types.Kit.{Item, ‵, raw, ◌⊛◌, ◌$◌, ◌∵◌, !, qed, by, keep, drop, use1, join, split, fsplit, fjoin, fpack, feq_i, suffices, done}
use types.Run.{stop, fld, no_more, and_then, of_opd, returns, enter}
use contract.{Monad.{fact}, Running.{Running, MachineTables, tables}}
use denote.{Exit.{yes}, Param.{layout}, RattleType.{Valss}, RawPtr.{RawPtr, block_ptr}, Signature.{plain}, Steps.{nothing}}
use denote.{Struct.Owning.{shape}, Struct.Struct.{within}, Triple.Clauses.{Ended, Clauses, closing}, Triple.Spec.{Meets}}
use denote.Triple.{Statement.{Contract}, Walked.{says, Stays, stay_dropped, walk_of, ends_at, Goes-dropped}}
use Rattle.std.proofs.{Common.{Option, Some}, raw_atomic.Walks.{proved_at}}
use Rattle.std_alloc.proofs.BoxSteps.{Form.{D, B, word, box_typed}, Steps.{box_out}}
use Rattle.handed_text.proofs.LawLemmas.Handles.{HandleOf, X, Held, E, the_type, Handle, Parts, FromParts, owns_parts, owns_made, handle_ty}
use Rattle.handed_text.specs.Ownership.{handle_owns}

module _ (K : HandleOf) where
  abbrev pub function : Fn
  function = record {
    lifetimes = 0;
    outlives = [];
    ty_params = [];
    givens = 0;
    params = 1;
    locals = local (handle_ty K) value_local ∷ local (layout (Parts K)) value_local ∷ local ty_ptr value_local
        ∷ local ty_ptr value_local ∷ [];
    body = seq (assign (place 2 []) (rv_opd (copy (place 1 (field 0 ∷ []))))) (seq (assign (place 3 []) (rv_opd (copy (place 2 []))))
        (seq (assign (place 0 []) (aggregate (copy (place 3 []) ∷ []))) return));
  }

  abbrev pub ended : Ended
  ended = record {
    signature = record { lifetimes = 0; outlives = []; params = FromParts K ∷ []; result = plain (λ _. Handle K) };
    kept = (yes, tt);
  }

  abbrev stayed : Stays (ended).signature.params (ended).kept
  stayed = (stay_dropped (FromParts K) yes, tt)

  module _ {M : Type 1} (𝓤 : Ura M) where
    abbrev pub clauses : Clauses 𝓤 ended
    clauses κs a = record { ghost = Unit {0}; requires = λ _. emp 𝓤; ensures = λ _ r _. fact 𝓤 (K.value r ≡ Some a.0.value) }

  module _ {M : Type 1} {𝓤 : Ura M} (𝓛 : Logic 𝓤) (𝓜 : Model 𝓤 𝓛.H) (𝓡 : Running 𝓤 𝓛.H 𝓜) where
    open 𝓛 use {H}

    abbrev 𝓣 : MachineTables 𝓤 H 𝓜
    𝓣 = tables 𝓤 H 𝓜 𝓡 𝓡.env

    abbrev W : Contract 𝓤
    W = walk_of 𝓛 ended stayed (clauses 𝓤)

    walk : (z : W.Ghost) → ent 𝓤 (W.pre z) (WpFn 𝓤 H 𝓣.C 𝓣.Λ function (z.0.4.0 ++ []) (W.post z))
    walk z =
        let Post = W.post z in
        let v : D (E K) = record { ptr = z.0.3.0.ptr; alloc = z.0.3.0.alloc; value = z.0.3.0.value } in
        qed 𝓛 ((‵ ftrue ⊛ ‵ (fsep ((B (E K)).own_val v z.0.4.0) ftrue)) ∷ raw (emp 𝓤) ∷ []) ∵ split ! $ drop ! $ fsplit ! $
        box_out (E K) ! v z.0.4.0 (λ b o hv e ws fa.
        let full : Option (X K) = Some v.value in
        let w : Val = vstruct (vcons (vptr b o) vnil) in
        fjoin ! $ use1 𝓛 (‵ (handle_owns (Held K) (block_ptr b o) full)) (id⊢ 𝓤 _) $ keep ! (0 ∷ []) $
        nothing ! $ feq_i ! (List Val) (vptr b o ∷ []) (vptr b o ∷ []) refl $ fjoin ! $
        feq_i ! (List Val) (w ∷ []) (w ∷ []) refl $ fjoin ! $
        fpack ! (Valss (RawPtr ∷ [])) (within (shape (the_type K)) (block_ptr b o, tt) (w ∷ [])) (vptr b o ∷ [], tt) $ fjoin ! $
        use1 𝓛 (‵ ((Handle K).own_val (K.make (block_ptr b o) full) (w ∷ [])))
        (subst (λ (F : Fml). ent 𝓤 (sem 𝓛 (owns_parts K (block_ptr b o) full (w ∷ []))) (sem 𝓛 F))
        (owns_made K (block_ptr b o) full (w ∷ [])) (id⊢ 𝓤 _)) $
        let Γ : List (Item 𝓤) = ‵ ((Handle K).own_val (K.make (block_ptr b o) full) (w ∷ [])) ∷ [] in
        by ! (subst (λ (us : List Val). ent 𝓤 (types.Kit.⋆ 𝓛 Γ) (WpFn 𝓤 H 𝓣.C 𝓣.Λ function (us ++ []) Post)) (sym ws)
        (qed 𝓛 Γ ∵ enter ! 𝓣.C 𝓣.Λ function (word (E K) hv b o ∷ []) _ $ alloc_all ! (λ ls. pass_all ! refl (box_typed (E K) hv b o fa, tt) $
        sets ! (of_opd ! (get_in ! (fld ! refl (stop !)) (sub ! 0 refl (whole !)))) refl (tt, tt) $
        sets ! (of_opd ! (get ! refl)) refl (tt, tt) $
        sets ! (agg ! (and_then ! (get ! refl) (no_more !))) refl (tt, (tt, tt)) $ returns ! (look_at ! 0 refl) $ free_all ! refl $
        suffices ! _ (ends_at 𝓛 ended stayed (clauses 𝓤) z w (K.make (block_ptr b o) full) (tt, tt) (tt, tt)) $
        says ! (K.value_made (block_ptr b o) full) $
        nothing ! $ nothing ! $ fjoin ! $ join ! $ nothing ! $ join ! $ done !))))

    pub of_parts : (k : Callee) → Closed 𝓤 H 𝓣.C 𝓣.Λ k function → Meets 𝓛 (ended).signature (𝓣.C k) (closing 𝓛 ended (clauses 𝓤))
    of_parts k closed = proved_at 𝓛 ended stayed (clauses 𝓤) 𝓜 𝓡 (Goes-dropped 𝓛 0 (FromParts K) yes (λ κs x f. refl), tt)
        k function closed (λ z _. walk z)
