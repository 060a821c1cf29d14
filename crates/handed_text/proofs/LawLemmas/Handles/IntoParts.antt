-- `into_parts` moves a pointer, and what it leads to goes with it.
use mathlib.Core.{List.{List, [], ◌∷◌, ◌++◌}, Path.{◌≡◌, refl, sym, subst}}
use seplogic.Ra.Ura.{Ura}
use mir.{Raw.{raw as bare}, Syntax.{Fn, Callee, aggregate, assign, copy, field, local, place, return, rv_opd, seq, ty_ptr, value_local}}
use mir.Val.{Val, vptr, vstruct, vnil, vcons, of_list}
use base.{Fml.{ftrue, fsep}, Logic.{ent, id⊢, fst∗, never}}
use prog.{Model.{Model}, Wp.{WpFn, Closed}}
use types.{ByLocal.{alloc_all, pass_all, free_all, look_at, get, get_in, sets}, Logic.{Logic, sem}, Part.{whole, sub, agg}}
use types.Kit.{done, Item, ‵, raw, ◌⊛◌, ◌$◌, ◌∵◌, !, qed, by, move, keep, drop, use1, join, split, fsplit, fjoin, fpick, feq_l, rewrite}
use types.{Kit.{suffices}, Run.{stop, fld, no_more, and_then, of_opd, returns, enter}}
use contract.{Monad.{fact}, Running.{Running, MachineTables, tables}}
use denote.{Exit.{yes}, Param.{layout}, RawPtr.{Ptr, block_ptr, null_ptr, ptr_val, in_a_block}, Signature.{plain}, Steps.{heard, nothing}}
use denote.Triple.{Clauses.{Ended, Clauses, closing}, Spec.{Meets}, Statement.{Contract}}
use denote.Triple.Walked.{says, Stays, stay_dropped, walk_of, ends_at, Goes-dropped}
use Rattle.std.proofs.{Common.{Option, Some, None, IsSome}, alloc.Calls.{token, handle_tells}, raw_atomic.Walks.{proved_at}}
use Rattle.std_alloc.{proofs.BoxSteps.Form.{D, P, R, τ, word, box_typed}, proofs.BoxSteps.Steps.{box_in}, specs.Box.Ownership.{box_owns}}
use Rattle.handed_text.proofs.LawLemmas.Handles.{HandleOf, X, Held, E, Handle, Parts, FromHandle, FromGlobal, handle_ty}
use Rattle.handed_text.specs.Ownership.{handle_owns}
use Rattle.std_heap.specs.contracts.Global as Heap

module _ (K : HandleOf) where
  abbrev pub function : Fn
  function = record {
    lifetimes = 0;
    outlives = [];
    ty_params = [];
    givens = 0;
    params = 2;
    locals = local (layout (Parts K)) value_local ∷ local (handle_ty K) value_local ∷ local (layout Heap.the_row) value_local
        ∷ local ty_ptr value_local ∷ local ty_ptr value_local ∷ [];
    body = seq (assign (place 3 []) (rv_opd (copy (place 1 (field 0 ∷ []))))) (seq (assign (place 4 []) (rv_opd (copy (place 3 []))))
        (seq (assign (place 0 []) (aggregate (copy (place 4 []) ∷ copy (place 2 []) ∷ []))) return));
  }

  abbrev pub ended : Ended
  ended = record {
    signature = record { lifetimes = 0; outlives = []; params = FromHandle K ∷ FromGlobal K ∷ []; result = plain (λ _. Parts K) };
    kept = (yes, (yes, tt));
  }

  some_of : (o : Option (X K)) → IsSome o → (x : X K) × (o ≡ Some x)
  some_of (Some x) is = (x, refl)
  some_of None is = absurd (let no : ⊥ = cc is in no)

  abbrev stayed : Stays (ended).signature.params (ended).kept
  stayed = (stay_dropped (FromHandle K) yes, (stay_dropped (FromGlobal K) yes, tt))

  module _ {M : Type 1} (𝓤 : Ura M) where
    abbrev pub clauses : Clauses 𝓤 ended
    clauses κs a = record {
      ghost = Unit {0};
      requires = λ _. fact 𝓤 (IsSome (K.value a.0));
      ensures = λ _ r _. fact 𝓤 (K.value a.0 ≡ Some r.value);
    }

  module _ {M : Type 1} {𝓤 : Ura M} (𝓛 : Logic 𝓤) (𝓜 : Model 𝓤 𝓛.H) (𝓡 : Running 𝓤 𝓛.H 𝓜) where
    open 𝓛 use {H}

    abbrev 𝓣 : MachineTables 𝓤 H 𝓜
    𝓣 = tables 𝓤 H 𝓜 𝓡 𝓡.env

    abbrev W : Contract 𝓤
    W = walk_of 𝓛 ended stayed (clauses 𝓤)

    walk : (z : W.Ghost) → ent 𝓤 (W.pre z) (WpFn 𝓤 H 𝓣.C 𝓣.Λ function (z.0.4.0 ++ (z.0.4.1.0 ++ [])) (W.post z))
    walk z =
        let Post = W.post z in
        let h : (Handle K).Denot = z.0.3.0 in let a = z.0.3.1.0 in
        qed 𝓛 ((‵ ftrue ⊛ ‵ (fsep ((Handle K).own_val h z.0.4.0) (fsep ((P (E K)).own_val a z.0.4.1.0) ftrue)))
        ∷ raw (fact 𝓤 (IsSome (K.value h))) ∷ []) ∵
        split ! $ drop ! $ move ! (1 ∷ []) $ heard ! (IsSome (K.value h)) (λ is.
        let full : (x : X K) × (K.value h ≡ Some x) = some_of (K.value h) is in
        fsplit ! $ fsplit ! $ fpick ! (λ vss. fsplit ! $ feq_l ! (λ ev. fsplit ! $ feq_l ! (λ ep. drop ! $
        rewrite ! 0 (λ (o : Option (X K)). ‵ (handle_owns (Held K) (K.at h) o)) full.1 refl $
        use1 𝓛 (‵ (box_owns (token (E K).al a) (R (E K)) (K.at h) full.0)) (id⊢ 𝓤 _) $
        in_a_block ! (K.at h) (λ p. box_owns (token (E K).al a) (R (E K)) p full.0)
        (fst∗ 𝓤 (never 𝓤) (sem 𝓛 (token (E K).al a (bare (τ (E K))) null_ptr))) (λ b o e.
        fsplit ! $ move ! (2 ∷ []) $ fsplit ! $ handle_tells (E K).al ! a z.0.4.1.0 (λ hw eh fw.
        -- [the handle; true; the value; the token]
        keep ! (2 ∷ 3 ∷ 0 ∷ []) $
        let v : D (E K) = record { ptr = block_ptr b o; alloc = a; value = full.0 } in
        let made : (Parts K).Denot = record { ptr = block_ptr b o; alloc = a; value = full.0 } in
        box_in (E K) ! v b o full.0 refl refl $ use1 𝓛 (‵ ((Parts K).own_val made (word (E K) hw b o ∷ []))) (id⊢ 𝓤 _) $
        let w : Val = vstruct (vcons (vptr b o) vnil) in
        let ws : z.0.4.0 ≡ w ∷ [] =
        subst (λ (p : Ptr). z.0.4.0 ≡ vstruct (of_list (ptr_val p ∷ [])) ∷ []) e
        (subst (λ (ps : List Val). z.0.4.0 ≡ vstruct (of_list (ps ++ [])) ∷ []) ep ev) in
        let Γ : List (Item 𝓤) = ‵ ((Parts K).own_val made (word (E K) hw b o ∷ [])) ∷ [] in
        by ! (subst (λ (us : List Val). ent 𝓤 (types.Kit.⋆ 𝓛 Γ) (WpFn 𝓤 H 𝓣.C 𝓣.Λ function (us ++ (z.0.4.1.0 ++ [])) Post)) (sym ws)
        (subst (λ (us : List Val). ent 𝓤 (types.Kit.⋆ 𝓛 Γ) (WpFn 𝓤 H 𝓣.C 𝓣.Λ function (w ∷ (us ++ [])) Post)) (sym eh)
        (qed 𝓛 Γ ∵ enter ! 𝓣.C 𝓣.Λ function (w ∷ hw ∷ []) _ $ alloc_all ! (λ ls. pass_all ! refl ((tt, (tt, tt)), (fw, tt)) $
        sets ! (of_opd ! (get_in ! (fld ! refl (stop !)) (sub ! 0 refl (whole !)))) refl (tt, tt) $
        sets ! (of_opd ! (get ! refl)) refl (tt, tt) $
        sets ! (agg ! (and_then ! (get ! refl) (and_then ! (get ! refl) (no_more !)))) refl (box_typed (E K) hw b o fw) $
        returns ! (look_at ! 0 refl) $ free_all ! refl $
        suffices ! _ (ends_at 𝓛 ended stayed (clauses 𝓤) z (word (E K) hw b o) made (tt, (tt, tt)) (tt, (tt, tt))) $ says ! full.1 $
        nothing ! $ nothing ! $ fjoin ! $ nothing ! $ fjoin ! $ join ! $ nothing ! $ join ! $ done !))))))))))

    pub into_parts : (k : Callee) → Closed 𝓤 H 𝓣.C 𝓣.Λ k function → Meets 𝓛 (ended).signature (𝓣.C k) (closing 𝓛 ended (clauses 𝓤))
    into_parts k closed = proved_at 𝓛 ended stayed (clauses 𝓤) 𝓜 𝓡
        (Goes-dropped 𝓛 0 (FromHandle K) yes (λ κs x f. refl), (Goes-dropped 𝓛 0 (FromGlobal K) yes (λ κs x f. refl), tt))
        k function closed (λ z _. walk z)
