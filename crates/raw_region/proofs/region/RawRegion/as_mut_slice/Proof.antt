-- `as_mut_slice` lends the bytes, and the region follows them.
use Rattle.raw_region.proofs.{Fields.{R, Parts, Deed, parts_in, parts_out}, region.RawRegion.as_mut_slice.Statement.{statement}}
use Rattle.raw_region.proofs.Names.{◌≡◌, ℕ, ◌*◌, ◌<◌, ◌^◌, ◌∙◌, List, [], ◌∷◌, length, refl, sym, ap, arith, named, proved, full_share, Ura}
use Rattle.raw_region.proofs.Names.{Logic, sem, ent, sep, emp, ftrue, fsep, GName, Fml, flft, Val, fact, fact_i, tables, ‵, raw, ◌⊛◌, some}
use Rattle.raw_region.proofs.Names.{later, at_ret, ◌$◌, ◌∵◌, !, qed, by, done, move, keep, drop, use0, use1, split, split3, join, await}
use Rattle.raw_region.proofs.Names.{pick, rewrite, fsplit, fsplit3, fjoin, fpack, group, enter, of_opd, load, stop, fld, no_more, and_then}
use Rattle.raw_region.proofs.Names.{first, blocks, exec, returns, alloc_all, pass_all, free_all, look_at, get, through, sets, sets_last}
use Rattle.raw_region.proofs.Names.{env, agg, whole, sub, look_in, block_ptr, u8, Array, no, mut_vals, mut_Tells, owns, types_at, plain}
use Rattle.raw_region.proofs.Names.{nothing, cell_at, row, mem, leaves, Stays, walk_of, stay_dropped, opens}
use Rattle.raw_region.specs.declared.region.RawRegion.TheInside.{Inside}
use base.Logic.{id⊢}
use denote.{Follow.{follows}, FollowSlice.{Elements, lends_Elements}, Index.{whole_in, whole_out}, Memory.{part_of}, Signature.{mut_ref_to}}
use denote.{Slice.{MutSlice, slice_val}, Triple.Walked.{Goes-spent_ref}}
use types.SemTy.{cells}
use Rattle.raw_region.specs.contracts.region.RawRegion.as_mut_slice as f
use Rattle.raw_region.proofs.region.RawRegion.as_mut_slice.Code as code

abbrev stayed : Stays f.ended.signature.params f.ended.kept
stayed = (stay_dropped (mut_ref_to (0 ∷ []) tt (plain (λ _. R))) no, tt)

module _ {M : Type 1} {𝓤 : Ura M} (𝓛 : Logic 𝓤) (xs : List ℕ) (h : Inside) (us : List Val) (rb ro b o : ℕ) (long : h.len ≡ length xs)
    (at : h.ptr ≡ block_ptr b o) where
  -- what stays after while the bytes are lent
  abbrev Rest : Fml
  Rest = fsep (cell_at full_share R.mir us rb ro) (fsep (Deed h) (Parts h us))

  back : (ws : List ℕ) → length ws ≡ length xs →
      ent 𝓤 (sep 𝓤 (sem 𝓛 (cells (mem u8) ws b o)) (sem 𝓛 Rest)) (sem 𝓛 ((mem R).own_at ws rb ro))
  unfolding part_of
  back ws e =
      qed 𝓛 (‵ (cells (mem u8) ws b o) ∷ ‵ Rest ∷ []) ∵ use1 𝓛 (‵ (row u8 full_share ws b o)) (whole_out 𝓛 u8 ws b o) $ move ! (1 ∷ []) $
      fsplit3 ! $
      move ! (3 ∷ 1 ∷ 2 ∷ []) $ parts_in ! h ws (long ∙ sym e) us b o at $ move ! (1 ∷ 0 ∷ []) $ fjoin ! $
      fpack ! (List Val) (λ vs. fsep (cell_at full_share R.mir vs rb ro) (R.own_val ws vs)) us $ done !

pub as_mut_slice_spec : {M : Type 1} → statement M
as_mut_slice_spec 𝓤 𝓛 𝓜 𝓡 wired =
    let c = f.clauses 𝓛 𝓜.mem 𝓡.returns in let W = walk_of 𝓛 f.ended stayed c in let 𝓣 = tables 𝓤 𝓛.H 𝓜 𝓡 𝓡.env in
    proved 𝓛 f.ended stayed c 𝓜 𝓡 (Goes-spent_ref 𝓛 1 (0 ∷ []) tt (plain (λ _. R)), tt)
    f.Key.name code.function (code.unfolded 𝓤 𝓛.H 𝓜 𝓡 wired) (λ κs. (mut_vals, tt)) (λ κs. (mut_Tells (named 0) κs.0 R, tt))
    (λ κs qs bounds a _ are.
    let κ = κs.0 in let q = qs.0 in let rb = a.0.ref_ptr.0 in let ro = a.0.ref_ptr.1 in let xs = a.0.now in let γ = a.0.ghost_name in
    let y : W.Ghost = ((κs, qs, bounds, a, (mut_vals a.0, tt)), tt) in
    qed 𝓛 (((‵ (flft κ q) ⊛ ‵ ftrue) ⊛ ‵ (owns (types_at f.signature.params κs) a y.0.4)) ∷ ‵ ftrue ∷ []) ∵
    split ! $ split ! $ move ! (2 ∷ []) $ fsplit ! $ fsplit3 ! $ drop ! $ keep ! (0 ∷ 1 ∷ 3 ∷ []) $
    enter ! _ _ _ _ _ $ alloc_all ! (λ l. pass_all ! refl ((tt, tt), tt) $
    -- the region is opened to its parts, and the cell of its fields shows what they are
    opens ! tt R rb ro (λ us. move ! (1 ∷ []) $ parts_out ! xs us (λ h b o same e is.
    rewrite ! 3 (λ (ws : List Val). ‵ (cell_at full_share R.mir ws rb ro)) is refl $ move ! (0 ∷ 3 ∷ []) $
    let n = h.len in let least = h.in_range.0 in let most = h.in_range.1 in let fn : n < 2 ^ 64 = omega arith in
    let long : n ≡ length xs = h.counted ∙ ap length same in let roomy : length xs < 2 ^ 64 = omega arith in
    let fitting : length xs * 1 < 2 ^ 63 = omega arith in
    -- [the bytes; the region; the right to free; what the fields own; the open borrow]
    first ! $ blocks ! $
    sets ! (of_opd ! (load ! (through ! refl (fld ! refl (stop !))) (look_in ! 1 (sub ! 0 refl (whole !))))) refl (tt, tt) $
    sets ! (of_opd ! (load ! (through ! refl (fld ! refl (stop !))) (look_in ! 1 (sub ! 1 refl (whole !))))) refl (tt, record { fits = fn })
    $
    sets_last ! (agg ! (and_then ! (get ! refl) (and_then ! (get ! refl) (no_more !)))) refl (tt, (tt, (record { fits = fn }, tt))) $
    exec ! 𝓣.C 𝓣.Λ (env code.Mir.locals l) code.Mir.t-2 (at_ret _ (W.post y)) $
    sets ! (of_opd ! (get ! refl)) refl (tt, (tt, (record { fits = fn }, tt))) $
    rewrite ! 1 (λ (ws : List Val). ‵ (cell_at full_share R.mir ws rb ro)) (sym is) refl $
    use1 𝓛 (‵ (cells (mem u8) xs b o)) (whole_in 𝓛 u8 xs b o) $ move ! (2 ∷ 3 ∷ []) $ fjoin ! $ move ! (2 ∷ 0 ∷ []) $ fjoin ! $
    -- [what stays after; the bytes; the open borrow; obs; auth]
    move ! (2 ∷ 3 ∷ 4 ∷ 1 ∷ 0 ∷ []) $ group ! 5 $
    let Out =
    λ (γ' : GName). Elements 𝓛 R u8 (λ ws. ws) (named 0) κ q rb ro b o γ xs (roomy, fitting) (sem 𝓛 (Rest 𝓛 xs h us rb ro b o long e))
    (back 𝓛 xs h us rb ro b o long e) γ' in
    use1 𝓛 (later (some (λ (γ' : GName). raw (Out γ'))))
    (lends_Elements 𝓛 R u8 (λ ws. ws) (named 0) κ q rb ro b o γ xs (roomy, fitting) (sem 𝓛 (Rest 𝓛 xs h us rb ro b o long e))
    (back 𝓛 xs h us rb ro b o long e) (R.coded.code xs) (R.coded.code xs)) $ await ! tt $ pick ! (λ γ'.
    use1 𝓛 (‵ ((MutSlice (named 0) κ u8).own_val (record { ref_ptr = (b, o); ghost_name = γ'; now = xs })
    (slice_val (b, o) (length xs) ∷ [])) ⊛ ‵ (flft κ q) ⊛ ‵ (follows R (Array u8 0) γ γ' (λ ws. ws))) (id⊢ 𝓤 _) $ split3 ! $
    rewrite ! 0 (λ (k : ℕ). ‵
    ((MutSlice (named 0) κ u8).own_val (record { ref_ptr = (b, o); ghost_name = γ'; now = xs }) (slice_val (b, o) k ∷ []))) (sym long)
    refl $
    -- [the slice; the token; the region follows it]
    returns ! (look_at ! 0 refl) $ free_all ! refl $
    use0 𝓛 (raw (fact 𝓤 (xs ≡ xs))) (fact_i 𝓤 (xs ≡ xs) (emp 𝓤) refl) $ move ! (3 ∷ 0 ∷ []) $ join ! $ nothing ! $ nothing ! $ fjoin ! $
    move ! (3 ∷ []) $ nothing ! $ move ! (1 ∷ 0 ∷ []) $ join ! $
    move ! (0 ∷ 1 ∷ 3 ∷ 2 ∷ []) $
    by ! (leaves 𝓛 f.ended stayed c y (slice_val (b, o) n) (record { ref_ptr = (b, o); ghost_name = γ'; now = xs }) (tt, tt)
    (tt, tt)))))))
