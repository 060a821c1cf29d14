-- `as_slice` reads the pointer and the length, and hands on the `&` to the bytes.
use Rattle.raw_region.proofs.{Fields.{R, sees, pointer_twice, length_twice}, region.RawRegion.as_slice.Statement.{statement}}
use Rattle.raw_region.proofs.Names.{◌≡◌, ℕ, ◌+◌, ◌*◌, ◌^◌, ◌<◌, ◌≤◌, ◌∙◌, List, [], ◌∷◌, length, refl, ap, arith, named, proved, emp, ftrue}
use Rattle.raw_region.proofs.Names.{flft, Val, fact, fact_i, tables, ‵, raw, ◌⊛◌, given, learn, at_ret, ◌$◌, ◌∵◌, !, qed, by, move, keep}
use Rattle.raw_region.proofs.Names.{use0, use1, split, join, fsplit, fjoin, drop, feq_i, flt_i, enter, of_opd, load, look, stop, fld}
use Rattle.raw_region.proofs.Names.{no_more, and_then, first, blocks, exec, returns, alloc_all, pass_all, free_all, look_at, get, through}
use Rattle.raw_region.proofs.Names.{sets, sets_last, env, agg, RefOf, yes, shr_vals, shr_Tells, owns, types_at, plain, nothing, leaves}
use Rattle.raw_region.proofs.Names.{Stays, walk_of, stay_dropped, Goes-dropped, u8, w8}
use borrow.Rule.ByKnown.{shr_slice_Learns}
use denote.{Known.{uint_known}, RawPtr.{block_of, count_of}, Slice.{ShrSlice, slice_val}}
use Rattle.std.proofs.{Common.{Bor, All}, Words.{pointer_in, pointer_out, word_in, word_out}}
use Rattle.raw_region.specs.contracts.region.RawRegion.as_slice as f
use Rattle.raw_region.proofs.region.RawRegion.as_slice.Code as code

abbrev stayed : Stays f.ended.signature.params f.ended.kept
stayed = (stay_dropped (RefOf (0 ∷ []) tt (plain (λ _. R)) (λ _. tt)) yes, tt)

pub as_slice_spec : {M : Type 1} → statement M
as_slice_spec 𝓤 𝓛 𝓜 𝓡 wired =
    let c = f.clauses 𝓛 𝓜.mem 𝓡.returns in let W = walk_of 𝓛 f.ended stayed c in let 𝓣 = tables 𝓤 𝓛.H 𝓜 𝓡 𝓡.env in
    proved 𝓛 f.ended stayed c 𝓜 𝓡 (Goes-dropped 𝓛 1 (RefOf (0 ∷ []) tt (plain (λ _. R)) (λ _. tt)) yes (λ κs x w. refl), tt)
    f.Key.name code.function (code.unfolded 𝓤 𝓛.H 𝓜 𝓡 wired) (λ κs. (shr_vals, tt)) (λ κs. (shr_Tells (named 0) κs.0 R, tt))
    (λ κs qs bounds a _ are.
    let κ = κs.0 in let q = qs.0 in let rb = a.0.ref_ptr.0 in let ro = a.0.ref_ptr.1 in let xs = a.0.now in
    let y : W.Ghost = ((κs, qs, bounds, a, (shr_vals a.0, tt)), tt) in
    qed 𝓛 (((‵ (flft κ q) ⊛ ‵ ftrue) ⊛ ‵ (owns (types_at f.signature.params κs) a y.0.4)) ∷ ‵ ftrue ∷ []) ∵
    split ! $ split ! $ move ! (2 ∷ []) $ fsplit ! $ fsplit ! $ drop ! $
    sees ! xs rb ro (λ h same somewhere. let n = h.len in let p = h.ptr in let b = block_of h.ptr in let o = count_of h.ptr in
    let long : n ≡ length xs = h.counted ∙ ap length same in let least = h.in_range.0 in let most = h.in_range.1 in
    let fits : n < 2 ^ 64 = omega arith in
    -- [a `&` to the pointer; a `&` to the length; a `&` to the bytes; the token]
    keep ! (0 ∷ 4 ∷ 1 ∷ 2 ∷ []) $
    enter ! _ _ _ _ _ $ alloc_all ! (λ l. pass_all ! refl ((tt, tt), tt) $ first ! $ blocks ! $
    pointer_in ! tt p somewhere rb (ro + 0) (pointer_twice 𝓛 κ rb (ro + 0) p) (λ q₁.
    sets ! (of_opd ! (load ! (through ! refl (fld ! refl (stop !))) (look ! 1 refl))) refl (tt, tt) $
    pointer_out ! tt p somewhere rb (ro + 0) $ move ! (2 ∷ 0 ∷ []) $
    word_in ! tt n rb (ro + 8) (length_twice 𝓛 κ rb (ro + 8) n) (λ q₂ _.
    sets ! (of_opd ! (load ! (through ! refl (fld ! refl (stop !))) (look ! 1 refl))) refl (tt, record { fits = fits }) $
    word_out ! tt n rb (ro + 8) fits $
    sets_last ! (agg ! (and_then ! (get ! refl) (and_then ! (get ! refl) (no_more !)))) refl (tt, (tt, (record { fits = fits }, tt))) $
    exec ! 𝓣.C 𝓣.Λ (env code.Mir.locals l) code.Mir.t-2 (at_ret _ (W.post y)) $
    sets ! (of_opd ! (get ! refl)) refl (tt, (tt, (record { fits = fits }, tt))) $
    returns ! (look_at ! 0 refl) $ free_all ! refl $
    -- [the token; the `&` to the length; the `&` to the pointer; the `&` to the bytes]
    nothing ! $ move ! (1 ∷ 0 ∷ []) $ join ! $ move ! (3 ∷ []) $
    let slice : Bor (List ℕ) = record { ref_ptr = (b, o); now = xs } in let v : Val = slice_val (b, o) n in
    flt_i ! (length xs * 1) (2 ^ 63) (omega arith) $ flt_i ! (length xs) (2 ^ 64) (omega arith) $ fjoin ! $
    feq_i ! (List Val) (v ∷ []) (slice_val (b, o) (length xs) ∷ []) (ap (λ (k : ℕ). slice_val (b, o) k ∷ []) long) $ fjoin ! $ fjoin ! $
    -- that its bytes are bytes
    let Bytes : Type 0 = All (λ (byte : ℕ). byte < 2 ^ 8) xs in let Range : Type 0 = (1 ≤ length xs) × (length xs ≤ 2 ^ 30) in
    use1 𝓛 (given Bytes (‵ ((ShrSlice (named 0) κ u8).own_val slice (v ∷ [])))) (shr_slice_Learns 𝓛 u8 (uint_known w8) (named 0) κ slice v)
    $ learn ! (λ bytes.
    use0 𝓛 (raw (fact 𝓤 Bytes)) (fact_i 𝓤 Bytes (emp 𝓤) bytes) $
    use0 𝓛 (raw (fact 𝓤 Range)) (fact_i 𝓤 Range (emp 𝓤) (omega arith, omega arith)) $ join ! $
    use0 𝓛 (raw (fact 𝓤 (xs ≡ xs))) (fact_i 𝓤 (xs ≡ xs) (emp 𝓤) refl) $ join ! $ nothing ! $ nothing ! $ fjoin ! $
    keep ! (3 ∷ 0 ∷ 2 ∷ 1 ∷ []) $
    by ! (leaves 𝓛 f.ended stayed c y v slice (tt, tt) (tt, tt))))))))
