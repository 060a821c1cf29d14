-- `drop` takes the region apart and gives the bytes back as room.
use Rattle.raw_region.proofs.Allocator.{lends_handle, takes_handle, Deallocates, deallocates, deallocate_goes, deallocate_gives}
use Rattle.raw_region.proofs.{Fields.{R, words, parts_out}, region.RawRegion.drop.Statement.{statement}}
use Rattle.raw_region.proofs.Names.{◌≡◌, ℕ, ◌<◌, ◌^◌, ◌++◌, List, [], ◌∷◌, length, refl, sym, ap, subst, ◌∙◌, lit<, arith, w8, ty_int}
use Rattle.raw_region.proofs.Names.{ty_array, proved_at, full_share, ftrue, froom, flft, Val, vunit, tables, ‵, raw, ◌⊛◌, given, later}
use Rattle.raw_region.proofs.Names.{prop, at_ret, ◌$◌, ◌∵◌, !, qed, done, move, keep, use1, split, join, fsplit, feq_i, learn, await}
use Rattle.raw_region.proofs.Names.{rewrite, regoal, suffices, group, enter, of_opd, lit, unit_lit, addr, stop, fld, no_more, and_then}
use Rattle.raw_region.proofs.Names.{first, blocks, exec, returns, alloc_all, pass_all, free_all, look_at, get, get_in, sets, lands_last}
use Rattle.raw_region.proofs.Names.{env, whole, sub, owns, types_at, plain, yes, Ptr, calls_at_last, alive, framed, nothing, Stays, walk_of}
use Rattle.raw_region.proofs.Names.{stay_dropped, Goes-dropped, ends_at, ◌*◌}
use lib.Dec.{T}
use mir.{Syntax.{ty_unit}, Val.{has_ty, WT}}
use prog.{Capped.{capped_is}, Wp.{WpFn}}
use types.{ByLocal.{take_at, give_at}, Run.{from}}
use denote.{Builtin.{u8}, RawPtr.Bytes.{bytes-room}}
use Rattle.std.{proofs.impls.GlobalAllocator.deallocate.Met.{met}, specs.Allocator.{array_of}}
use Rattle.std.specs.contracts.impls.GlobalAllocator.TheImpl.{ghosts}
use Rattle.raw_region.specs.contracts.region.RawRegion.drop as f
use Rattle.raw_region.proofs.region.RawRegion.drop.Code as code

abbrev stayed : Stays f.ended.signature.params f.ended.kept
stayed = (stay_dropped (plain (λ _. R)) yes, tt)

pub drop_spec : {M : Type 1} → statement M
drop_spec 𝓤 𝓛 𝓜 𝓡 wired =
    let c = f.clauses 𝓛 𝓜.mem 𝓡.returns in let W = walk_of 𝓛 f.ended stayed c in let 𝓣 = tables 𝓤 𝓛.H 𝓜 𝓡 𝓡.env in
    proved_at 𝓛 f.ended stayed c 𝓜 𝓡 (Goes-dropped 𝓛 0 (plain (λ _. R)) yes (λ κs x w. refl), tt)
    f.Key.name code.function (code.unfolded 𝓤 𝓛.H 𝓜 𝓡 wired) (λ z are.
    let xs = z.0.3.0 in let us = z.0.4.0 in let Post = W.post z in
    qed 𝓛 ((raw (alive 𝓛 f.signature z.0.0 z.0.1) ⊛ ‵ (owns (types_at f.signature.params z.0.0) z.0.3 z.0.4)) ∷ ‵ ftrue ∷ []) ∵
    split ! $ move ! (1 ∷ []) $ fsplit ! $ parts_out ! xs us (λ h b o same e is.
    let n = h.len in let most = h.in_range.1 in let fl : n < 2 ^ 64 = omega arith in
    -- [the bytes; the right to free them]
    keep ! (0 ∷ 1 ∷ []) $ regoal ! (λ (ws : List Val). prop (WpFn 𝓤 𝓛.H 𝓣.C 𝓣.Λ code.function (ws ++ []) Post)) is refl $
    enter ! 𝓣.C 𝓣.Λ code.function (words h b o) Post $
    alloc_all ! (λ l. pass_all ! refl ((tt, (tt, (record { fits = fl }, (((tt, tt), tt), tt)))), tt) $
    sets ! (of_opd ! (get_in ! (fld ! refl (stop !)) (sub ! 0 refl (whole !)))) refl (tt, tt) $
    sets ! (of_opd ! (get_in ! (fld ! refl (stop !)) (sub ! 1 refl (whole !)))) refl (tt, record { fits = fl }) $
    sets ! (of_opd ! (get_in ! (fld ! refl (stop !)) (sub ! 2 refl (whole !)))) refl (tt, ((tt, tt), tt)) $
    first ! $ blocks ! $
    sets ! (addr ! (from ! (stop !))) refl (tt, tt) $
    let long : length xs ≡ n = sym (h.counted ∙ ap length same) in let τ = array_of u8 n in
    use1 𝓛 (‵ (froom (ty_array (ty_int w8) (length xs)) b o)) (bytes-room 𝓛 xs b o) $
    rewrite ! 0 (λ (k : ℕ). ‵ (froom (ty_array (ty_int w8) k) b o)) long refl $
    rewrite ! 1 (λ (p : Ptr). ‵ (ghosts.dealloc_token h.alloc τ p)) e refl $
    take_at ! 4 $ lends_handle ! tt h.alloc (l 4) 0 (λ m.
    -- [a `&` to the handle; its token; the way back; room; the right to free]
    let D = Deallocates 𝓛 𝓜.mem 𝓡.returns (m ∷ []) full_share (l 4) 0 h.alloc n 1 τ b o in
    let y : D.Ghost = deallocates 𝓛 𝓜.mem 𝓡.returns (m ∷ []) full_share (l 4) 0 h.alloc n 1 τ b o in
    move ! (3 ∷ 4 ∷ 0 ∷ 1 ∷ 2 ∷ []) $ group ! 4 $
    use1 𝓛 (raw (D.pre y)) (deallocate_goes 𝓛 𝓜.mem 𝓡.returns (m ∷ []) full_share (l 4) 0 h.alloc n 1 τ b o
    (capped_is (n * 1) (omega arith) ∙ omega arith, refl) fl (lit< tt)) $
    calls_at_last ! (framed 𝓤 𝓛.H 𝓜 𝓣) D (met 𝓤 𝓛 𝓜 𝓡 (code.calls-std_heap::GlobalAllocator::deallocate 𝓡.env wired)) y
    (and_then ! (get ! refl) (and_then ! (get ! refl) (and_then ! (get ! refl) (and_then ! (lit ! tt) (no_more !))))) (λ v.
    use1 𝓛 (later (given (v ≡ vunit) (‵ (flft (m ∷ []) full_share))))
    (deallocate_gives 𝓛 𝓜.mem 𝓡.returns (m ∷ []) full_share (l 4) 0 h.alloc n 1 τ b o v) $ await ! tt $ learn ! (λ told.
    takes_handle ! tt h.alloc (l 4) 0 m $ give_at ! 4 $
    lands_last ! refl (subst (λ (u : Val). T (has_ty ty_unit u) × WT u) (sym told) (tt, tt)) $
    exec ! 𝓣.C 𝓣.Λ (env code.Mir.locals l) code.Mir.t-5 (at_ret _ Post) $
    sets ! (of_opd ! (unit_lit !)) refl (tt, tt) $ returns ! (look_at ! 0 refl) $ free_all ! refl $
    suffices ! _ (ends_at 𝓛 f.ended stayed c z vunit tt (tt, tt) (tt, tt)) $
    nothing ! $ feq_i ! (List Val) (vunit ∷ []) (vunit ∷ []) refl $ nothing ! $ nothing ! $ join ! $ nothing ! $ group ! 3 $ done !))))))
