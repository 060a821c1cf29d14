-- The two calls of the heap, `allocate` and `deallocate`, by a handle that lies in a local. Assumes `Logic`.
use Rattle.raw_region.proofs.Names.{◌≡◌, ℕ, ◌<◌, ◌^◌, List, [], ◌∷◌, refl, ap, w64, Fml, Ura, full_share, id⊢, ent, sep, emp, Logic, sem}
use Rattle.raw_region.proofs.Names.{SProp, Lft, Share, ftrue, fsep, fat, froom, flft, Val, vint, vptr, vunit, fact, fact_i, Goal, Soaks}
use Rattle.raw_region.proofs.Names.{Item, Seq, Step, step, ‵, raw, ◌⊛◌, some, later, ◌$◌, ◌∵◌, !, qed, done, move, keep, drop, use0, use1}
use Rattle.raw_region.proofs.Names.{use2, split, join, fjoin, fpick, fsplit, fpack, feq_i, feq_l, pick, await, rewrite, hidden_shr, part_at}
use Rattle.raw_region.proofs.Names.{cell_at, peeks, owned, nothing, only, shows, Is, unit, usize, uint_Makes, block_ptr, triple_of, Ty}
use base.{Fml.{flent, Incl-refl}, Logic.{ex, ex_i, guard, via}}
use contract.{BorrowLft.{⊑_static}, Monad.{Fun}}
use denote.{Bor.{Bor}, Memory.{part_of}, Triple.Statement.{Contract}}
use mir.{Syntax.{given as no_dict}, Val.{vstruct, vcons, vnil}}
use prog.{Memory.{Memory, size, align, capped}, Routine.{Routine}}
use types.{Kit.{mean, check, updating, now as at_once}, Tokens.{bor_new, lent_back, lft_new, lft_end}}
use Rattle.std.{proofs.Handle.{heap_val, heap_Tells}, proofs.alloc.Calls.{Al, Answer, Answered}, specs.Allocator.{block_if_ok}}
use Rattle.std.specs.{Global.{Global}, contracts.alloc.Global.{the_row, the_type}, contracts.impls.GlobalAllocator.TheImpl.{ghosts}}
use base.Share
use denote.Struct.Laws as LL
use Rattle.std.proofs.alloc.Calls as std
use Rattle.std.proofs.alloc.Global.TheLaws as laws
use Rattle.std.specs.contracts.impls.GlobalAllocator.allocate as AL
use Rattle.std.specs.contracts.impls.GlobalAllocator.deallocate as DE

module _ {M : Type 1} {𝓤 : Ura M} {𝓛 : Logic 𝓤} {K : Type 0} {Γ : List (Item 𝓤)} {G : Goal 𝓤 𝓛.H} where
  -- the handle in a local's cell is lent: [a `&` to it; the loan's token; the way back]
  pub lends_handle : K → Soaks G → (a : Global) (b o : ℕ)
      → ((n : ℕ) → Seq K 𝓛 (‵ (hidden_shr the_row (n ∷ []) a b o) ∷ ‵ (flft (n ∷ []) full_share) ∷ ‵
      (flent (n ∷ []) (part_at the_row full_share a b o)) ∷ Γ) G)
      → Seq K 𝓛 (‵ (fat full_share laws.mir b o heap_val) ∷ Γ) G
  unfolding part_of
  lends_handle t z a b o k =
      use1 𝓛 (‵ (cell_at full_share the_row.mir (heap_val ∷ []) b o)) (𝓛.laws.at_raw full_share laws.mir b o heap_val) $
      -- all that a handle owns is what its machine value is
      owned t the_row (Is the_row) (LL.makes the_type laws.the_plain 𝓛) a (heap_val ∷ [])
      ((vstruct (vcons vunit vnil) ∷ [], tt), (refl, (((vunit ∷ [], tt), (refl, (refl, tt))), tt))) $ move t (1 ∷ 0 ∷ []) $ fjoin t $
      fpack t (List Val) (λ us. fsep (cell_at full_share the_row.mir us b o) (the_row.own_val a us)) (heap_val ∷ []) $
      lft_new t z (λ n. let κ : Lft = n ∷ [] in move t (1 ∷ []) $ bor_new t z κ $ move t (0 ∷ 2 ∷ []) $
      use2 𝓛 (later (‵ (hidden_shr the_row κ a b o) ⊛ ‵ (flft κ full_share)))
      (laws.the_row_laws.shares 𝓛 a κ ((κ, full_share) ∷ []) b o (⊑_static _) (Incl-refl κ)) $ await t z $ split t $ k n)

  -- the loan is over: [the local's cell]
  pub takes_handle : K → Soaks G → (a : Global) (b o n : ℕ)
      → Step K 𝓛 (‵ (fat full_share laws.mir b o heap_val) ∷ Γ) G
      (‵ (flft (n ∷ []) full_share) ∷ ‵ (flent (n ∷ []) (part_at the_row full_share a b o)) ∷ Γ) G
  unfolding part_of
  takes_handle t z a b o n = step (λ k.
      lft_end t z $ lent_back t z $
      fpick t (λ us. fsplit t $ move t (1 ∷ []) $ peeks t the_row (Is the_row) (shows 𝓛 the_row) a us (λ is. drop t $
      rewrite t 0 (λ (vs : List Val). ‵ (cell_at full_share the_row.mir vs b o)) (heap_Tells a us is) refl $
      use1 𝓛 (‵ (fat full_share laws.mir b o heap_val)) (𝓛.laws.raw_at full_share laws.mir b o heap_val) $ k)))

-- the heap, as std's lemmas on any allocator take one
abbrev pub Z : Al
Z = record { row = the_row; laws = laws.the_row_laws; g = ghosts; d = no_dict 0; drops = no_dict 0 }

-- a call by a `&` to the handle a at hb, ho, whose lifetime κ has the token q, for a block of the type τ, which has s bytes and the
-- alignment al
module _ {M : Type 1} {𝓤 : Ura M} (𝓛 : Logic 𝓤) (at_mem : Memory → SProp 𝓤) (run : Routine → Fun 𝓤) (κ : Lft) (q : Share) (hb ho : ℕ)
    (a : Global) (s al : ℕ) (τ : Ty) where
  open 𝓛 use {H, A}

  abbrev IsFor : Type 0
  IsFor = (capped (size τ) ≡ s) × (capped (align τ) ≡ al)

  abbrev Handle : Fml
  Handle = hidden_shr the_row κ a hb ho

  -- what a call is given, by the other arguments and their machine values
  abbrev by_handle : {X W : Type 0} → X → W →
      ((Lft × Unit {0}) × (Share × Unit {0}) × Unit {0} × (Bor Global × X) × (List Val × W)) × Ty
  by_handle args words = (((κ, tt), (q, tt), tt, (record { ref_ptr = (hb, ho); now = a }, args), (vptr hb ho ∷ [], words)), τ)

  abbrev pub Allocates : Contract 𝓤
  Allocates = triple_of 𝓛 AL.signature (AL.spec 𝓛 at_mem run)

  abbrev pub allocates : Allocates.Ghost
  allocates = by_handle (s, (al, tt)) (vint w64 s ∷ [], (vint w64 al ∷ [], tt))

  pub allocate_goes : IsFor → s < 2 ^ 64 → al < 2 ^ 64 → ent 𝓤 (sep 𝓤 (sem 𝓛 Handle) (A.lft κ q)) (Allocates.pre allocates)
  allocate_goes is fs fa =
      qed 𝓛 (‵ Handle ∷ ‵ (flft κ q) ∷ []) ∵ use0 𝓛 (raw (fact 𝓤 IsFor)) (fact_i 𝓤 IsFor (emp 𝓤) is) $ move ! (1 ∷ 2 ∷ 0 ∷ []) $
      nothing ! $ owned ! usize _ (uint_Makes 𝓛 w64) al _ (refl, fa) $ fjoin ! $ owned ! usize _ (uint_Makes 𝓛 w64) s _ (refl, fs) $
      fjoin ! $
      move ! (1 ∷ []) $ feq_i ! (List Val) (vptr hb ho ∷ []) _ refl $ fjoin ! $ move ! (0 ∷ 1 ∷ []) $ fjoin ! $
      move ! (1 ∷ []) $ nothing ! $ move ! (1 ∷ 0 ∷ []) $ join ! $ move ! (0 ∷ 1 ∷ []) $ join ! $ join ! $ done !

  -- the call's answer r, with the block if there is one
  abbrev Rest : Answer.Denot → Item 𝓤
  Rest r =
      some (λ (ws : Unit {0} × (Unit {0} × (Unit {0} × Unit {0}))). ‵ (fsep ftrue (fsep ftrue (fsep ftrue ftrue))) ⊛ ‵
      (block_if_ok (ghosts.dealloc_token a) τ r))

  -- a call under a bound has the token in two halves, and leaves else the same; std's lemma says what that is
  abbrev Halved : Val → Answer.Denot → Item 𝓤
  Halved v r = ((‵ (flft κ (Share.left q)) ⊛ ‵ (flft κ (Share.right q)) ⊛ ‵ ftrue) ⊛ ‵ (Answer.own_val r (v ∷ []))) ⊛ Rest r

  bound : (v : Val) (r : Answer.Denot) → ent 𝓤 (mean 𝓛 (Halved v r)) (H.⇛ (sep 𝓤 (Answered Z 𝓛 at_mem run a τ v) (A.lft κ q)))
  bound v r =
      let some_answer : SProp 𝓤 = ex 𝓤 (λ x. mean 𝓛 (Halved v x)) in
      via 𝓤 (H.⇛ some_answer) (via 𝓤 some_answer (ex_i 𝓤 (λ x. mean 𝓛 (Halved v x)) r) (𝓛.laws.⇛_intro some_answer))
      (std.Takes-gives Z 𝓛 at_mem run κ q (hb, ho) a s al τ v)

  pub allocate_gives : (v : Val) → ent 𝓤 (Allocates.post allocates v) (H.⇛ (sep 𝓤 (Answered Z 𝓛 at_mem run a τ v) (A.lft κ q)))
  allocate_gives v =
      qed 𝓛 (raw (Allocates.post allocates v) ∷ []) ∵ updating ! $
      use1 𝓛 (later (some (λ (r : Answer.Denot). ((‵ (flft κ q) ⊛ ‵ ftrue) ⊛ ‵ (Answer.own_val r (v ∷ []))) ⊛ Rest r))) (id⊢ 𝓤 _) $
      await ! tt $ pick ! (λ r. split ! $ split ! $ split ! $
      use1 𝓛 (‵ (flft κ (Share.left q)) ⊛ ‵ (flft κ (Share.right q))) (𝓛.lfts.lft_split κ q) $ split ! $
      -- [the halves; nothing; the answer; the rest]
      move ! (1 ∷ 2 ∷ []) $ join ! $ move ! (1 ∷ 0 ∷ []) $ join ! $ join ! $ join ! $
      use1 𝓛 (later (raw (Answered Z 𝓛 at_mem run a τ v) ⊛ ‵ (flft κ q))) (bound v r) $ await ! tt $ at_once ! $ done !)

  -- a call that gives back the block at b, o
  module _ (b o : ℕ) where
    abbrev pub Deallocates : Contract 𝓤
    Deallocates = triple_of 𝓛 DE.signature (DE.spec 𝓛 at_mem run)

    abbrev pub deallocates : Deallocates.Ghost
    deallocates = by_handle (block_ptr b o, (s, (al, tt))) (vptr b o ∷ [], (vint w64 s ∷ [], (vint w64 al ∷ [], tt)))

    abbrev Deed : Fml
    Deed = ghosts.dealloc_token a τ (block_ptr b o)

    pub deallocate_goes : IsFor → s < 2 ^ 64 → al < 2 ^ 64 →
        ent 𝓤 (sep 𝓤 (H.room τ b o) (sep 𝓤 (sem 𝓛 Deed) (sep 𝓤 (sem 𝓛 Handle) (A.lft κ q)))) (Deallocates.pre deallocates)
    deallocate_goes is fs fa =
        qed 𝓛 (‵ (froom τ b o) ∷ ‵ Deed ∷ ‵ Handle ∷ ‵ (flft κ q) ∷ []) ∵ fjoin ! $
        use0 𝓛 (raw (fact 𝓤 IsFor)) (fact_i 𝓤 IsFor (emp 𝓤) is) $ join ! $
        nothing ! $ owned ! usize _ (uint_Makes 𝓛 w64) al _ (refl, fa) $ fjoin ! $ owned ! usize _ (uint_Makes 𝓛 w64) s _ (refl, fs) $
        fjoin ! $
        feq_i ! (List Val) (vptr b o ∷ []) _ refl $ fjoin ! $ move ! (2 ∷ []) $ feq_i ! (List Val) (vptr hb ho ∷ []) _ refl $ fjoin ! $
        move ! (0 ∷ 1 ∷ []) $ fjoin ! $
        move ! (2 ∷ []) $ nothing ! $ move ! (1 ∷ 0 ∷ []) $ join ! $ move ! (0 ∷ 1 ∷ []) $ join ! $ join ! $ done !

    pub deallocate_gives : (v : Val) → ent 𝓤 (Deallocates.post deallocates v) (H.⇛ (guard 𝓤 (v ≡ vunit) (A.lft κ q)))
    deallocate_gives v =
        qed 𝓛 (raw (Deallocates.post deallocates v) ∷ []) ∵ updating ! $
        use1 𝓛 (later (some (λ (r : Unit {0}). ((‵ (flft κ q) ⊛ ‵ ftrue) ⊛ ‵ (unit.own_val r (v ∷ [])))
        ⊛ some (λ (ws : Unit {0} × (Unit {0} × (Unit {0} × (Unit {0} × Unit {0})))). ‵
        (fsep ftrue (fsep ftrue (fsep ftrue (fsep ftrue ftrue)))) ⊛ ‵ ftrue)))) (id⊢ 𝓤 _) $ await ! tt $ pick ! (λ r.
        split ! $ split ! $ move ! (1 ∷ []) $ feq_l ! (λ told. split ! $ at_once ! $ check ! (ap only told) $ keep ! (0 ∷ []) $ done !))
