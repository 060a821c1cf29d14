-- `new` asks the heap for the block, writes zeros into it, and makes the region of it.
use Rattle.raw_region.proofs.Allocator.{Z, lends_handle, takes_handle, Allocates, allocates, allocate_goes, allocate_gives}
use Rattle.raw_region.proofs.{Fields.{R, Parts, words, parts_in, parts_made}, region.RawRegion.new.Statement.{statement}}
use Rattle.raw_region.proofs.Names.{owned, uint_Makes, Is, fsep, ◌≡◌, ◌∙◌, ap, subst, lasts, ℕ, ◌<◌, ◌≤◌, ◌^◌, ◌*◌, List, [], ◌∷◌, length}
use Rattle.raw_region.proofs.Names.{replicate, refl, sym, lit<, arith, w64, proved, full_share, id⊢, emp, ftrue, flft, SProp, Val, vint}
use Rattle.raw_region.proofs.Names.{vptr, fact, fact_i, tables, ‵, raw, ◌⊛◌, some, later, at_ret, ◌$◌, ◌∵◌, !, qed, by, move, drop, use0}
use Rattle.raw_region.proofs.Names.{use1, use2, split, join, fsplit, fjoin, feq_i, feq_l, pick, await, enter, of_opd, lit, addr, stop, fld}
use Rattle.raw_region.proofs.Names.{no_more, and_then, first, blocks, exec, returns, alloc_all, pass_all, free_all, look_at, get, get_in}
use Rattle.raw_region.proofs.Names.{sets, sets_last, lands_as, lands_last, env, whole, agg, owns, types_at, plain, yes, block_ptr, lies_at}
use Rattle.raw_region.proofs.Names.{calls_at, calls_at_last, alive, framed, nothing, only, heard, triple_of, Array, row, u8, unit, usize}
use Rattle.raw_region.proofs.Names.{uint_vals, uint_Tells, Stays, walk_of, stay_dropped, Goes-dropped, leaves, after}
use Rattle.raw_region.specs.declared.region.RawRegion.TheInside.{Inside}
use base.Fml.{feq}
use denote.{RawPtr.{room_for}, RawPtr.Bytes.{bytes_apart}, Signature.{type_at}, Struct.Struct.{Struct, Struct-Makes}}
use lib.{Dec.{T}, ListN.{length-replicate}}
use mir.{Syntax.{ty_unit}, Val.{vstruct, vcons, vnil, has_ty, WT}}
use prog.{Capped.{capped_is}, Wp.{Wp, after_seq, at_return}}
use types.{ByLocal.{get_tag, take_at, give_at}, Kit.{any_q}, Match.{live, vrt, in_variant}, Run.{from, switches_on}}
use Rattle.std.proofs.{Handle.{heap_val, heap_Tells}, ResultValues.{ok_of, err_of}, VecSteps.Shapes.{arm_body}}
use Rattle.std.{proofs.alloc.Calls.{Answered, answers}, proofs.impls.GlobalAllocator.allocate.Met.{met}, specs.Allocator.{array_of}}
use Rattle.std.specs.Prelude.{Ok, Err}
use denote.Struct.Declared as Declared
use Rattle.std.specs.contracts.alloc.AllocError as AE
use Rattle.std.specs.contracts.alloc.Global as HP
use Rattle.raw_region.proofs.region.RawRegion.new.Code as code
use Rattle.raw_region.proofs.zeros.write_zeros.Met as written
use Rattle.raw_region.specs.contracts.region.RawRegion.new as f
use Rattle.raw_region.specs.contracts.zeros.write_zeros as g

abbrev stayed : Stays f.ended.signature.params f.ended.kept
stayed = (stay_dropped (plain (λ _. HP.the_row)) yes, (stay_dropped (plain (λ _. usize)) yes, tt))

pub new_spec : {M : Type 1} → statement M
new_spec 𝓤 𝓛 𝓜 𝓡 wired =
    let c = f.clauses 𝓛 𝓜.mem 𝓡.returns in let W = walk_of 𝓛 f.ended stayed c in let 𝓣 = tables 𝓤 𝓛.H 𝓜 𝓡 𝓡.env in
    proved 𝓛 f.ended stayed c 𝓜 𝓡
    (Goes-dropped 𝓛 0 (plain (λ _. HP.the_row)) yes (λ κs x w. refl), (Goes-dropped 𝓛 0 (plain (λ _. usize)) yes (λ κs x w. refl), tt))
    f.Key.name code.function (code.unfolded 𝓤 𝓛.H 𝓜 𝓡 wired)
    (λ κs. ((λ _. heap_val ∷ []), (uint_vals w64, tt))) (λ κs. (heap_Tells, (uint_Tells w64, tt))) (λ κs qs bounds a _ are.
    let h₀ = a.0 in let n = a.1.0 in let τ = array_of u8 n in
    let z : W.Ghost = ((κs, qs, bounds, a, (heap_val ∷ [], (uint_vals w64 n, tt))), tt) in let Post : Val → SProp 𝓤 = W.post z in
    let En = λ (l : ℕ → ℕ). env code.Mir.locals l in
    let Then =
    λ (l : ℕ → ℕ). any_q (after_seq 𝓤 𝓛.H (Wp 𝓤 𝓛.H 𝓣.C 𝓣.Λ (En l) code.Mir.t-5 (at_return 𝓤 𝓛.H (En l) Post))
    (at_return 𝓤 𝓛.H (En l) Post)) in
    let Out = type_at f.signature.result κs in
    qed 𝓛 ((raw (alive 𝓛 f.signature κs qs) ⊛ ‵ (owns (types_at f.signature.params κs) a z.0.4)) ∷ raw
    (fact 𝓤 ((1 ≤ n) × (n ≤ 2 ^ 30))) ∷ []) ∵
    move ! (1 ∷ []) $ heard ! ((1 ≤ n) × (n ≤ 2 ^ 30))
    (λ asked. let fits = asked.1 in let small : n < 2 ^ 63 = omega arith in let fn : n < 2 ^ 64 = omega arith in drop ! $
    enter ! 𝓣.C 𝓣.Λ code.function (heap_val ∷ vint w64 n ∷ []) Post $
    alloc_all ! (λ l. pass_all ! refl ((tt, ((tt, tt), tt)), ((tt, record { fits = fn }), tt)) $
    -- the heap is asked, by a `&` to the handle that is lent for the call
    sets ! (of_opd ! (get ! refl)) refl (tt, ((tt, tt), tt)) $
    sets ! (addr ! (from ! (stop !))) refl (tt, tt) $
    take_at ! 3 $ lends_handle ! tt h₀ (l 3) 0 (λ m.
    let A = Allocates 𝓛 𝓜.mem 𝓡.returns (m ∷ []) full_share (l 3) 0 h₀ n 1 τ in
    let y : A.Ghost = allocates 𝓛 𝓜.mem 𝓡.returns (m ∷ []) full_share (l 3) 0 h₀ n 1 τ in
    -- [a `&` to the handle; its token; the way back]
    use2 𝓛 (raw (A.pre y)) (allocate_goes 𝓛 𝓜.mem 𝓡.returns (m ∷ []) full_share (l 3) 0 h₀ n 1 τ
    (capped_is (n * 1) (omega arith) ∙ omega arith, refl) fn (lit< tt)) $
    calls_at ! (framed 𝓤 𝓛.H 𝓜 𝓣) A (met 𝓤 𝓛 𝓜 𝓡 (code.calls-std_heap::GlobalAllocator::allocate 𝓡.env wired)) y
    (and_then ! (get ! refl) (and_then ! (get ! refl) (and_then ! (lit ! tt) (no_more !)))) (λ v.
    use1 𝓛 (later (raw (Answered Z 𝓛 𝓜.mem 𝓡.returns h₀ τ v) ⊛ ‵ (flft (m ∷ []) full_share)))
    (allocate_gives 𝓛 𝓜.mem 𝓡.returns (m ∷ []) full_share (l 3) 0 h₀ n 1 τ v) $ await ! tt $ split ! $
    move ! (1 ∷ 2 ∷ []) $ takes_handle ! tt h₀ (l 3) 0 m $ give_at ! 3 $
    answers Z ! 𝓜.mem 𝓡.returns h₀ τ v
    -- it has a block at b, o
    (λ b o e. lands_as ! e refl (tt, (record { fits = lit< tt }, (tt, tt))) $
    first ! $ switches_on ! (get_tag ! (vrt ! refl (fld ! refl (stop !))) (whole !)) $
    exec ! 𝓣.C 𝓣.Λ (En l) (arm_body 0 code.Mir.s-4) (Then l) $
    sets ! (of_opd ! (get_in ! (vrt ! refl (fld ! refl (stop !))) (in_variant ! 0 0 refl refl (whole !)))) refl (tt, tt) $
    -- [room; the right to free it], and zeros are written into the room
    let G = triple_of 𝓛 g.signature (g.spec 𝓛 𝓜.mem 𝓡.returns) in
    let y₂ : G.Ghost = ((tt, tt, tt, (block_ptr b o, (n, tt)), (vptr b o ∷ [], (vint w64 n ∷ [], tt))), tt) in
    first ! $ blocks ! $
    use1 𝓛 (‵ (room_for τ (block_ptr b o))) (id⊢ 𝓤 _) $ nothing ! $ owned ! usize _ (uint_Makes 𝓛 w64) n _ (refl, fn) $ fjoin ! $
    feq_i ! (List Val) (vptr b o ∷ []) (vptr b o ∷ []) refl $ fjoin ! $ nothing ! $ join ! $ join ! $ use1 𝓛 (raw (G.pre y₂)) (id⊢ 𝓤 _) $
    calls_at_last ! (framed 𝓤 𝓛.H 𝓜 𝓣) G (written.met 𝓤 𝓛 𝓜 𝓡 (code.calls-raw_region::zeros::write_zeros 𝓡.env wired)) y₂
    (and_then ! (get ! refl) (and_then ! (get ! refl) (no_more !))) (λ u.
    use1 𝓛 (later (some (λ (r : Unit {0}). (‵ ftrue ⊛ ‵ (unit.own_val r (u ∷ []))) ⊛ some
    (λ (ws : Unit {0} × (Unit {0} × Unit {0})). ‵ (lasts g.ended tt y₂.0.3 ws) ⊛ ‵
    (lies_at (Array u8 n) full_share (block_ptr b o) (replicate n 0)))))) (id⊢ 𝓤 _) $
    await ! tt $ pick ! (λ r. split ! $ split ! $ drop ! $ feq_l ! (λ told. pick ! (λ ws. split ! $ drop ! $
    lands_last ! refl (subst (λ (w : Val). T (has_ty ty_unit w) × WT w) (sym (ap only told)) (tt, tt)) $
    exec ! 𝓣.C 𝓣.Λ (En l) (after 2 (arm_body 0 code.Mir.s-4)) (Then l) $
    sets ! (of_opd ! (get ! refl)) refl (tt, ((tt, tt), tt)) $
    sets ! (agg ! (and_then ! (get ! refl) (and_then ! (get ! refl) (and_then ! (get ! refl) (no_more !))))) refl
    (tt, (tt, (record { fits = fn }, (((tt, tt), tt), tt)))) $
    sets_last ! (agg ! (and_then ! (lit ! tt) (and_then ! (get ! refl) (no_more !)))) refl
    (tt, (record { fits = lit< tt }, ((tt, (record { fits = fn }, (((tt, tt), tt), tt))), tt))) $
    exec ! 𝓣.C 𝓣.Λ (En l) code.Mir.t-5 (at_ret (En l) Post) $
    sets ! (of_opd ! (get ! refl)) refl (tt, (record { fits = lit< tt }, ((tt, (record { fits = fn }, (((tt, tt), tt), tt))), tt))) $
    returns ! (look_at ! 0 refl) $ free_all ! refl $
    -- [the bytes; the right to free them], of which the region is made
    let xs : List ℕ = replicate n 0 in let long : n ≡ length xs = sym (length-replicate n 0) in
    let h : Inside = record { ptr = block_ptr b o; len = n; alloc = h₀; bytes = xs; counted = long; in_range = asked } in
    let w : Val = vstruct (vcons (vptr b o) (vcons (vint w64 n) (vcons heap_val vnil))) in
    use1 𝓛 (‵ (fsep (feq ℕ (length xs) n) (row u8 full_share xs b o))) (bytes_apart 𝓛 full_share n xs b o) $ fsplit ! $ drop ! $
    use0 𝓛 (‵ (Parts h (words h b o))) (parts_made 𝓛 h b o refl fn) $ move ! (1 ∷ 2 ∷ 0 ∷ []) $
    parts_in ! h xs long (words h b o) b o refl $
    use1 𝓛 (‵ (Out.own_val (Ok xs) (live 0 (vcons w vnil) ∷ []))) (ok_of 𝓛 R AE.the_row xs w) $
    use0 𝓛 (raw (fact 𝓤 (xs ≡ xs))) (fact_i 𝓤 (xs ≡ xs) (emp 𝓤) refl) $
    use0 𝓛 (raw (fact 𝓤 (length xs ≡ n))) (fact_i 𝓤 (length xs ≡ n) (emp 𝓤) (sym long)) $ join ! $ nothing ! $ nothing ! $ fjoin ! $
    nothing ! $ fjoin ! $ nothing ! $ move ! (0 ∷ 1 ∷ 3 ∷ 2 ∷ []) $
    by ! (leaves 𝓛 f.ended stayed c z (live 0 (vcons w vnil)) (Ok xs) (tt, (tt, tt)) (tt, (tt, tt))))))))
    -- it has none
    (λ e. lands_as ! e refl (tt, (record { fits = lit< tt }, (tt, tt))) $
    first ! $ switches_on ! (get_tag ! (vrt ! refl (fld ! refl (stop !))) (whole !)) $
    exec ! 𝓣.C 𝓣.Λ (En l) (arm_body 1 code.Mir.s-4) (Then l) $
    sets ! (of_opd ! (get_in ! (vrt ! refl (fld ! refl (stop !))) (in_variant ! 1 0 refl refl (whole !)))) refl (tt, tt) $
    sets_last ! (agg ! (and_then ! (lit ! tt) (and_then ! (get ! refl) (no_more !)))) refl (tt, (record { fits = lit< tt }, (tt, tt))) $
    exec ! 𝓣.C 𝓣.Λ (En l) code.Mir.t-5 (at_ret (En l) Post) $
    sets ! (of_opd ! (get ! refl)) refl (tt, (record { fits = lit< tt }, (tt, tt))) $
    returns ! (look_at ! 0 refl) $ free_all ! refl $
    owned ! (Struct (Declared.shape AE.the_type)) (Is (Struct (Declared.shape AE.the_type)))
    (Struct-Makes 𝓛 (Declared.shape AE.the_type) tt) tt (vstruct vnil ∷ []) (tt, (refl, tt)) $
    use1 𝓛 (‵ (Out.own_val (Err (record {})) (live 1 (vcons (vstruct vnil) vnil) ∷ []))) (err_of 𝓛 R AE.the_row (record {}) (vstruct vnil))
    $
    use0 𝓛 (raw (fact 𝓤 (Unit {0}))) (fact_i 𝓤 (Unit {0}) (emp 𝓤) tt) $ use0 𝓛 (raw (fact 𝓤 (Unit {0}))) (fact_i 𝓤 (Unit {0}) (emp 𝓤) tt) $
    join ! $ nothing ! $ nothing ! $ fjoin ! $ nothing ! $ fjoin ! $ nothing ! $ move ! (0 ∷ 1 ∷ 3 ∷ 2 ∷ []) $
    by ! (leaves 𝓛 f.ended stayed c z (live 1 (vcons (vstruct vnil) vnil)) (Err (record {})) (tt, (tt, tt)) (tt, (tt, tt)))))))))
