-- `write_zeros` has the zeros written piece by piece. The rest is room.
use Rattle.raw_region.proofs.Names.{owned, uint_Makes, calls_at_last, framed, triple_of, await, later, some, pick, fsplit, feq_l}
use Rattle.raw_region.proofs.Names.{lands_last, unit, lasts, ftrue, nothing, only, subst, ◌≡◌, ℕ, ◌+◌, ◌-◌, ◌<◌, ◌≤◌, ◌++◌, List, [], ◌∷◌}
use Rattle.raw_region.proofs.Names.{length, replicate, refl, sym, ap, ◌∙◌, ◌^◌, lit<, arith, w8, w64, ty_int, ty_array, proved, full_share}
use Rattle.raw_region.proofs.Names.{id⊢, ent, sep, sem, Logic, Ura, SProp, froom, Val, vint, vptr, vunit, tables, Item, ‵, raw, ◌⊛◌, prop}
use Rattle.raw_region.proofs.Names.{at_ret, ◌$◌, ◌∵◌, !, qed, by, done, move, keep, drop, use1, use2, split, join, fjoin, feq_i, rewrite}
use Rattle.raw_region.proofs.Names.{regoal, suffices, group, enter, of_opd, lit, unit_lit, bin, first, blocks, branches, skips, exec}
use Rattle.raw_region.proofs.Names.{returns, alloc_all, pass_all, free_all, look_at, get, sets, sets_last, env, Array, u8, usize, yes}
use Rattle.raw_region.proofs.Names.{uint_vals, uint_Tells, row, Ptr, RawPtr, block_ptr, lies_at, in_a_block, plain, on_entry, Stays}
use Rattle.raw_region.proofs.Names.{walk_of, stay_dropped, Goes-dropped, ends_at, after, and_then, no_more}
use Rattle.raw_region.proofs.zeros.write_zeros.Statement.{statement}
use native.Mathlib.Nat.{add_comm, add-zero}
use lib.{Dec.{T, ltb→lt, nltb→le}, ListN.{length-replicate}, WfN.{lt-wf_rel}}
use base.{Fml.{feq, fsep}, Logic.{guard_i, via}}
use mir.{Syntax.{ty_unit, int_big, Width}, Val.{has_ty, Fits, WT}}
use prog.{Model.{Model}, Wired.{Wired}, Wp.{Env, Out, Wp, WpFn, Tables, at_return, after_block, after_seq, after_turn}}
use contract.Running.{tables_of, Running}
use types.{ByLocal.{holding, forget_but}, Kit.{Go, Sq, any_q, runs}, Run.{Opd, jumps, loops, again, Below}}
use denote.{RawPtr.{rawptr_vals, rawptr_Tells, room_for}, RawPtr.Bytes.{bytes_glue, bytes_whole, bytes_apart}, Triple.Statement.{Contract}}
use denote.RawPtr.Room.{room_cut, past, past_bytes}
use Rattle.std.{proofs.lemmas.List.{replicate-append-replicate}, specs.Allocator.{array_of}}
use mathlib.Core.WellFounded.InvImage
use Rattle.raw_region.specs.contracts.zeros.write_zeros as f
use Rattle.raw_region.specs.contracts.zeros.write_piece as g
use Rattle.raw_region.proofs.zeros.write_piece.Met as piece
use Rattle.raw_region.proofs.zeros.write_zeros.Code as code

abbrev stayed : Stays f.ended.signature.params f.ended.kept
stayed = (stay_dropped (plain (λ _. RawPtr)) yes, (stay_dropped (plain (λ _. usize)) yes, tt))

-- the bytes of a piece
abbrev piece_bytes : ℕ
piece_bytes = 2048

-- a constant above 1,023
big_lit : {M : Type 1} {𝓤 : Ura M} {𝓛 : Logic 𝓤} {Γ : List (Item 𝓤)} {E : Env 𝓤 𝓛.H} {w : Width} {k : ℕ} → Fits w k →
    Opd (Go {0}) 𝓛 Γ E (int_big w k) (vint w k)
big_lit {𝓤 = 𝓤} {w = w} {k = k} fits = record { go = λ Kt h. via 𝓤 (Kt (vint w k)) h (guard_i 𝓤 (Fits w k) (Kt (vint w k)) fits) }

more_zeros : (i k v : ℕ) → replicate i v ++ replicate k v ≡ replicate (i + k) v
more_zeros i k v = replicate-append-replicate i k v

module _ {M : Type 1} {𝓤 : Ura M} (𝓛 : Logic 𝓤) (𝓜 : Model 𝓤 𝓛.H) (𝓡 : Running 𝓤 𝓛.H 𝓜) (wired : Wired 𝓡.env code.code) (b o n : ℕ)
    (fn : n < 2 ^ 64) (Q : Val → SProp 𝓤) (ends : ent 𝓤 (sem 𝓛 (row u8 full_share (replicate n 0) b o)) (Q vunit)) where
  open 𝓛 use {H}

  abbrev 𝓣 : Tables 𝓤 𝓛.H
  𝓣 = tables_of 𝓤 𝓛.H 𝓜 (tables 𝓤 𝓛.H 𝓜 𝓡 𝓡.env)

  -- how many are written
  abbrev Moved : Type 0
  Moved = (i : ℕ) × (i ≤ n)

  abbrev Nearer : Moved → Moved → Type 0
  Nearer t u = n - t.0 < n - u.0

  abbrev Left : ℕ → Item 𝓤
  Left i = ‵ (froom (ty_array (ty_int w8) (n - i)) b (o + i))

  -- room for the rest is room for a piece and for the rest after it
  cuts : (i : ℕ) → piece_bytes < n - i →
      ent 𝓤 (H.room (ty_array (ty_int w8) (n - i)) b (o + i))
      (sep 𝓤 (H.room (ty_array (ty_int w8) piece_bytes) b (i + o)) (H.room (ty_array (ty_int w8) (n - (i + piece_bytes))) b (o + (i + piece_bytes))))
  cuts i lt =
      let e₁ : piece_bytes + (n - (i + piece_bytes)) ≡ n - i = omega arith in
      let e₂ : o + i ≡ i + o = add_comm o i in
      let e₃ : past (ty_int w8) piece_bytes (o + i) ≡ o + (i + piece_bytes) = past_bytes piece_bytes (o + i) ∙ omega arith in
      qed 𝓛 (‵ (froom (ty_array (ty_int w8) (n - i)) b (o + i)) ∷ []) ∵
      rewrite ! 0 (λ (k : ℕ). ‵ (froom (ty_array (ty_int w8) k) b (o + i))) (sym e₁) refl $
      use1 𝓛 (‵ (froom (ty_array (ty_int w8) piece_bytes) b (o + i)) ⊛ ‵ (froom (ty_array (ty_int w8) (n - (i + piece_bytes))) b (past (ty_int w8) piece_bytes (o + i))))
      (room_cut 𝓛 (ty_int w8) piece_bytes (n - (i + piece_bytes)) b (o + i)) $ split ! $
      rewrite ! 0 (λ (k : ℕ). ‵ (froom (ty_array (ty_int w8) piece_bytes) b k)) e₂ refl $
      rewrite ! 1 (λ (k : ℕ). ‵ (froom (ty_array (ty_int w8) (n - (i + piece_bytes))) b k)) e₃ refl $ done !

  -- the next bytes join those before them
  joins : (i k : ℕ) → ent 𝓤 (sep 𝓤 (sem 𝓛 (row u8 full_share (replicate i 0) b o)) (sem 𝓛 (row u8 full_share (replicate k 0) b (i + o))))
      (sem 𝓛 (row u8 full_share (replicate (i + k) 0) b o))
  joins i k =
      let e : i + o ≡ o + length (replicate i 0) = add_comm i o ∙ ap (λ (k : ℕ). o + k) (sym (length-replicate i 0)) in
      qed 𝓛 (‵ (row u8 full_share (replicate i 0) b o) ∷ ‵ (row u8 full_share (replicate k 0) b (i + o)) ∷ []) ∵
      rewrite ! 1 (λ (j : ℕ). ‵ (row u8 full_share (replicate k 0) b j)) e refl $
      use2 𝓛 (‵ (row u8 full_share (replicate i 0 ++ replicate k 0) b o)) (bytes_glue 𝓛 full_share (replicate i 0) (replicate k 0) b o) $
      rewrite ! 0 (λ (xs : List ℕ). ‵ (row u8 full_share xs b o)) (more_zeros i k 0) refl $ done !

  -- the call that writes the k bytes from d on
  abbrev G : Contract 𝓤
  G = triple_of 𝓛 g.signature (g.spec 𝓛 𝓜.mem 𝓡.returns)

  abbrev call_of : ℕ → ℕ → G.Ghost
  call_of k d = ((tt, tt, tt, (block_ptr b d, (k, tt)), (vptr b d ∷ [], (vint w64 k ∷ [], tt))), tt)

  -- what it hands back: the bytes, all zero
  abbrev Answered : ℕ → ℕ → Val → Item 𝓤
  Answered k d u =
      some (λ (r : Unit {0}). (‵ ftrue ⊛ ‵ (unit.own_val r (u ∷ []))) ⊛ some
      (λ (ws : Unit {0} × (Unit {0} × Unit {0})). ‵ (lasts g.ended tt (call_of k d).0.3 ws) ⊛ ‵
      (lies_at (Array u8 k) full_share (block_ptr b d) (replicate k 0))))

  asks : (k d : ℕ) → k < 2 ^ 64 → ent 𝓤 (H.room (ty_array (ty_int w8) k) b d) (G.pre (call_of k d))
  asks k d fits =
      qed 𝓛 (‵ (room_for (array_of u8 k) (block_ptr b d)) ∷ []) ∵ nothing ! $ owned ! usize _ (uint_Makes 𝓛 w64) k _ (refl, fits) $ fjoin ! $
      feq_i ! (List Val) (vptr b d ∷ []) (vptr b d ∷ []) refl $ fjoin ! $ nothing ! $ join ! $ join ! $ done !

  module _ (l : ℕ → ℕ) where
    abbrev En : Env 𝓤 H
    En = env code.Mir.locals l

    abbrev Now : Moved → List (Item 𝓤)
    Now t = ‵ (row u8 full_share (replicate t.0 0) b o) ∷ Left t.0 ∷ holding 𝓛 En ((1, vptr b o) ∷ (2, vint w64 n) ∷ (3, vint w64 t.0) ∷ [])

    abbrev Turned : Moved → Out → SProp 𝓤
    Turned t =
        after_turn 𝓤 H (Below 𝓛 Nearer Now t)
        (after_block 𝓤 H (after_seq 𝓤 H (Wp 𝓤 H 𝓣.C 𝓣.Λ En code.Mir.t-3 (at_return 𝓤 H En Q)) (at_return 𝓤 H En Q)))

    turns : (t : Moved) → Sq 𝓛 (Now t) (runs 𝓣.C 𝓣.Λ En code.Mir.turn-1 (any_q (Turned t)))
    unfolding after_turn tables_of
    turns t =
        let i : ℕ = t.0 in let le = t.1 in let fr : n - i < 2 ^ 64 = omega arith in
        sets ! (bin ! (get ! refl) (get ! refl) le) refl (tt, record { fits = fr }) $
        sets ! (bin ! (big_lit (record { fits = lit< tt })) (get ! refl) tt) refl (tt, tt) $ first ! $ branches ! (get ! refl)
        (λ less. let h : piece_bytes < n - i = ltb→lt piece_bytes (n - i) less in
        skips ! $ exec ! 𝓣.C 𝓣.Λ En (after 3 code.Mir.turn-1) (any_q (Turned t)) $
        first ! $ blocks ! $
        sets ! (bin ! (get ! refl) (get ! refl) tt) refl (tt, tt) $
        move ! (1 ∷ []) $
        use1 𝓛 (‵ (froom (ty_array (ty_int w8) piece_bytes) b (i + o)) ⊛ Left (i + piece_bytes)) (cuts i h) $ split ! $
        use1 𝓛 (raw (G.pre (call_of piece_bytes (i + o)))) (asks piece_bytes (i + o) (lit< tt)) $
        calls_at_last ! (framed 𝓤 𝓛.H 𝓜 (tables 𝓤 𝓛.H 𝓜 𝓡 𝓡.env)) G
        (piece.met 𝓤 𝓛 𝓜 𝓡 (code.calls-raw_region::zeros::write_piece 𝓡.env wired)) (call_of piece_bytes (i + o))
        (and_then ! (get ! refl) (and_then ! (big_lit (record { fits = lit< tt })) (no_more !))) (λ u.
        use1 𝓛 (later (Answered piece_bytes (i + o) u)) (id⊢ 𝓤 _) $
        await ! tt $ pick ! (λ r. split ! $ split ! $ drop ! $ feq_l ! (λ told. pick ! (λ ws. split ! $ drop ! $
        lands_last ! refl (subst (λ (w : Val). T (has_ty ty_unit w) × WT w) (sym (ap only told)) (tt, tt)) $
        exec ! 𝓣.C 𝓣.Λ En (after 4 code.Mir.turn-1) (any_q (Turned t)) $
        use1 𝓛 (‵ (fsep (feq ℕ (length {A = ℕ} (replicate piece_bytes 0)) piece_bytes) (row u8 full_share (replicate piece_bytes 0) b (i + o))))
        (bytes_apart 𝓛 full_share piece_bytes (replicate piece_bytes 0) b (i + o)) $ fsplit ! $ drop ! $
        let fi : i + 2048 < 2 ^ 64 = omega arith in
        sets_last ! (bin ! (get ! refl) (big_lit (record { fits = lit< tt })) (record { fits = fi })) refl (tt, record { fits = fi }) $
        move ! (2 ∷ 0 ∷ 1 ∷ []) $ use2 𝓛 (‵ (row u8 full_share (replicate (i + piece_bytes) 0) b o)) (joins i piece_bytes) $
        forget_but ! En (1 ∷ 2 ∷ 3 ∷ []) refl $
        again ! Nearer Now t (i + piece_bytes, omega arith) (omega arith))))))
        (λ over. let ge : n - i ≤ piece_bytes = nltb→le piece_bytes (n - i) over in let all : i + (n - i) ≡ n = omega arith in
        jumps ! $ exec ! 𝓣.C 𝓣.Λ En code.Mir.t-3 (at_ret En Q) $
        first ! $ blocks ! $
        sets ! (bin ! (get ! refl) (get ! refl) tt) refl (tt, tt) $
        sets ! (bin ! (get ! refl) (get ! refl) le) refl (tt, record { fits = fr }) $
        move ! (1 ∷ []) $
        rewrite ! 0 (λ (k : ℕ). ‵ (froom (ty_array (ty_int w8) (n - i)) b k)) (add_comm o i) refl $
        use1 𝓛 (raw (G.pre (call_of (n - i) (i + o)))) (asks (n - i) (i + o) fr) $
        calls_at_last ! (framed 𝓤 𝓛.H 𝓜 (tables 𝓤 𝓛.H 𝓜 𝓡 𝓡.env)) G
        (piece.met 𝓤 𝓛 𝓜 𝓡 (code.calls-raw_region::zeros::write_piece 𝓡.env wired)) (call_of (n - i) (i + o))
        (and_then ! (get ! refl) (and_then ! (get ! refl) (no_more !))) (λ u.
        use1 𝓛 (later (Answered (n - i) (i + o) u)) (id⊢ 𝓤 _) $
        await ! tt $ pick ! (λ r. split ! $ split ! $ drop ! $ feq_l ! (λ told. pick ! (λ ws. split ! $ drop ! $
        lands_last ! refl (subst (λ (w : Val). T (has_ty ty_unit w) × WT w) (sym (ap only told)) (tt, tt)) $
        exec ! 𝓣.C 𝓣.Λ En (after 1 code.Mir.t-3) (at_ret En Q) $
        use1 𝓛 (‵ (fsep (feq ℕ (length {A = ℕ} (replicate (n - i) 0)) (n - i)) (row u8 full_share (replicate (n - i) 0) b (i + o))))
        (bytes_apart 𝓛 full_share (n - i) (replicate (n - i) 0) b (i + o)) $ fsplit ! $ drop ! $
        move ! (1 ∷ 0 ∷ []) $ use2 𝓛 (‵ (row u8 full_share (replicate (i + (n - i)) 0) b o)) (joins i (n - i)) $
        rewrite ! 0 (λ (k : ℕ). ‵ (row u8 full_share (replicate k 0) b o)) all refl $
        sets ! (of_opd ! (unit_lit !)) refl (tt, tt) $ returns ! (look_at ! 0 refl) $ free_all ! refl $ keep ! (0 ∷ []) $ by ! ends)))))

  writes : ent 𝓤 (H.room (ty_array (ty_int w8) n) b o) (WpFn 𝓤 H 𝓣.C 𝓣.Λ code.function (vptr b o ∷ vint w64 n ∷ []) Q)
  writes =
      qed 𝓛 (‵ (froom (ty_array (ty_int w8) n) b o) ∷ []) ∵ enter ! 𝓣.C 𝓣.Λ code.function (vptr b o ∷ vint w64 n ∷ []) _ $
      alloc_all ! (λ l. pass_all ! refl ((tt, tt), ((tt, record { fits = fn }), tt)) $
      let all : n ≡ n - 0 = omega arith in
      rewrite ! 0 (λ (k : ℕ). ‵ (froom (ty_array (ty_int w8) n) b k)) (sym (add-zero o)) refl $
      rewrite ! 0 (λ (k : ℕ). ‵ (froom (ty_array (ty_int w8) k) b (o + 0))) all refl $ nothing ! $
      sets ! (of_opd ! (lit ! tt)) refl (tt, record { fits = lit< tt }) $
      first ! $ blocks ! $ loops ! 𝓣 Nearer (InvImage.wf (λ (t : Moved). n - t.0) lt-wf_rel.wf) (Now l) (turns l) (0, omega arith))

pub write_zeros_spec : {M : Type 1} → statement M
unfolding tables_of
write_zeros_spec 𝓤 𝓛 𝓜 𝓡 wired =
    let c = f.clauses 𝓛 𝓜.mem 𝓡.returns in let W = walk_of 𝓛 f.ended stayed c in let 𝓣 = tables_of 𝓤 𝓛.H 𝓜 (tables 𝓤 𝓛.H 𝓜 𝓡 𝓡.env) in
    proved 𝓛 f.ended stayed c 𝓜 𝓡
    (Goes-dropped 𝓛 0 (plain (λ _. RawPtr)) yes (λ κs x w. refl), (Goes-dropped 𝓛 0 (plain (λ _. usize)) yes (λ κs x w. refl), tt))
    f.Key.name code.function (code.unfolded 𝓤 𝓛.H 𝓜 𝓡 wired)
    (λ κs. (rawptr_vals, (uint_vals w64, tt))) (λ κs. (rawptr_Tells, (uint_Tells w64, tt))) (λ κs qs bounds a _ are.
    let n = a.1.0 in
    let y : Ptr → W.Ghost = λ p. ((κs, qs, bounds, (p, (n, tt)), (rawptr_vals p, (uint_vals w64 n, tt))), tt) in
    qed 𝓛 (raw (on_entry 𝓛 f.signature κs qs a (y a.0).0.4) ∷ ‵ (room_for (array_of u8 n) a.0) ∷ []) ∵ drop ! $
    in_a_block ! a.0 (λ p. room_for (array_of u8 n) p) (id⊢ 𝓤 _) (λ b o e.
    regoal ! (λ p. prop (WpFn 𝓤 𝓛.H 𝓣.C 𝓣.Λ code.function (rawptr_vals p ++ (vint w64 n ∷ [])) (W.post (y p)))) e refl $
    by ! (writes 𝓛 𝓜 𝓡 wired b o n are.1.0.1 (W.post (y (block_ptr b o)))
    (qed 𝓛 (‵ (row u8 full_share (replicate n 0) b o) ∷ []) ∵ suffices ! _
    (ends_at 𝓛 f.ended stayed c (y (block_ptr b o)) vunit tt (tt, (tt, tt)) (tt, (tt, tt))) $
    feq_i ! ℕ (length (replicate n 0)) n (length-replicate n 0) $ fjoin ! $
    use1 𝓛 (‵ (lies_at (Array u8 n) full_share (block_ptr b o) (replicate n 0))) (bytes_whole 𝓛 full_share n (replicate n 0) b o) $
    feq_i ! _ (vunit ∷ []) _ refl $ nothing ! $ nothing ! $ join ! $ nothing ! $ join ! $ nothing ! $ group ! 3 $ done !))))
