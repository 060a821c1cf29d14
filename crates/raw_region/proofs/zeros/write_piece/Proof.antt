-- `write_piece` writes the bytes from the first on. The rest is room.
use Rattle.raw_region.proofs.Names.{◌≡◌, ℕ, ◌+◌, ◌-◌, ◌<◌, ◌≤◌, ◌++◌, List, [], ◌∷◌, length, replicate, zero, suc, refl, sym, ap, ◌∙◌, ◌^◌}
use Rattle.raw_region.proofs.Names.{lit<, arith, w8, w64, ty_int, ty_array, proved, full_share, id⊢, ent, sep, sem, Logic, Ura, SProp, fat}
use Rattle.raw_region.proofs.Names.{froom, Val, vint, vptr, vunit, tables, Item, ‵, raw, ◌⊛◌, prop, at_ret, ◌$◌, ◌∵◌, !, qed, by, done}
use Rattle.raw_region.proofs.Names.{move, keep, drop, use1, use2, split, join, fjoin, feq_i, rewrite, regoal, suffices, group, enter}
use Rattle.raw_region.proofs.Names.{of_opd, lit, unit_lit, bin, init, stop, first, blocks, branches, skips, assigns_last, exec, returns}
use Rattle.raw_region.proofs.Names.{alloc_all, pass_all, free_all, look_at, get, through, sets, sets_last, env, Array, u8, usize, yes}
use Rattle.raw_region.proofs.Names.{uint_vals, uint_Tells, uint_in, row, part_at, Ptr, RawPtr, block_ptr, lies_at, in_a_block, plain}
use Rattle.raw_region.proofs.Names.{nothing, on_entry, Stays, walk_of, stay_dropped, Goes-dropped, ends_at, after}
use Rattle.raw_region.proofs.zeros.write_piece.Statement.{statement}
use native.Mathlib.Nat.{add_comm, add-zero}
use lib.{Dec.{ltb→lt, nltb→le}, ListN.{length-replicate}, WfN.{lt-wf_rel}}
use prog.Wp.{Env, Out, Wp, WpFn, Tables, at_return, after_block, after_seq, after_turn}
use contract.Running.{tables_of}
use types.{ByLocal.{holding, forget_but, take_at, give_at}, Kit.{Sq, any_q, runs}, Run.{jumps, loops, again, Below}}
use denote.{RawPtr.{rawptr_vals, rawptr_Tells, room_for}, RawPtr.Bytes.{bytes_glue, bytes_whole}}
use Rattle.std.specs.Allocator.{array_of}
use mathlib.Core.WellFounded.InvImage
use Rattle.raw_region.specs.contracts.zeros.write_piece as f
use Rattle.raw_region.proofs.zeros.write_piece.Code as code

abbrev stayed : Stays f.ended.signature.params f.ended.kept
stayed = (stay_dropped (plain (λ _. RawPtr)) yes, (stay_dropped (plain (λ _. usize)) yes, tt))

one_more : (i v : ℕ) → replicate i v ++ v ∷ [] ≡ replicate (suc i) v
one_more zero v = refl
one_more (suc i) v = ap (λ (xs : List ℕ). v ∷ xs) (one_more i v)

module _ {M : Type 1} {𝓤 : Ura M} (𝓛 : Logic 𝓤) (𝓣 : Tables 𝓤 𝓛.H) (b o n : ℕ) (fn : n < 2 ^ 64) (Q : Val → SProp 𝓤)
    (ends : ent 𝓤 (sem 𝓛 (row u8 full_share (replicate n 0) b o)) (Q vunit)) where
  open 𝓛 use {H}

  -- how many are written
  abbrev Moved : Type 0
  Moved = (i : ℕ) × (i ≤ n)

  abbrev Nearer : Moved → Moved → Type 0
  Nearer t u = n - t.0 < n - u.0

  abbrev Left : ℕ → Item 𝓤
  Left i = ‵ (froom (ty_array (ty_int w8) (n - i)) b (o + i))

  -- room for the rest is room for one byte and for the rest after it
  uncons : (i : ℕ) → i < n →
      ent 𝓤 (H.room (ty_array (ty_int w8) (n - i)) b (o + i))
      (sep 𝓤 (H.room (ty_int w8) b (i + o)) (H.room (ty_array (ty_int w8) (n - suc i)) b (o + suc i)))
  uncons i lt =
      let e₁ : suc (n - suc i) ≡ n - i = omega arith in
      let e₂ : o + i ≡ i + o = add_comm o i in
      let e₃ : o + i + 1 ≡ o + suc i = omega arith in
      qed 𝓛 (‵ (froom (ty_array (ty_int w8) (n - i)) b (o + i)) ∷ []) ∵
      rewrite ! 0 (λ (k : ℕ). ‵ (froom (ty_array (ty_int w8) k) b (o + i))) (sym e₁) refl $
      use1 𝓛 (‵ (froom (ty_int w8) b (o + i)) ⊛ ‵ (froom (ty_array (ty_int w8) (n - suc i)) b (o + i + 1)))
      (𝓛.laws.room_uncons (ty_int w8) (n - suc i) b (o + i)) $ split ! $
      rewrite ! 0 (λ (k : ℕ). ‵ (froom (ty_int w8) b k)) e₂ refl $
      rewrite ! 1 (λ (k : ℕ). ‵ (froom (ty_array (ty_int w8) (n - suc i)) b k)) e₃ refl $ done !

  -- the next byte joins those before it
  joins : (i : ℕ) → ent 𝓤 (sep 𝓤 (sem 𝓛 (row u8 full_share (replicate i 0) b o)) (H.at full_share (ty_int w8) b (i + o) (vint w8 0)))
      (sem 𝓛 (row u8 full_share (replicate (suc i) 0) b o))
  joins i =
      let e : i + o ≡ o + length (replicate i 0) = add_comm i o ∙ ap (λ (k : ℕ). o + k) (sym (length-replicate i 0)) in
      qed 𝓛 (‵ (row u8 full_share (replicate i 0) b o) ∷ ‵ (fat full_share (ty_int w8) b (i + o) (vint w8 0)) ∷ []) ∵
      move ! (1 ∷ []) $ use1 𝓛 (‵ (part_at u8 full_share 0 b (i + o))) (uint_in 𝓛 full_share w8 0 b (i + o)) $
      rewrite ! 0 (λ (k : ℕ). ‵ (part_at u8 full_share 0 b k)) e refl $ nothing ! $ move ! (1 ∷ 0 ∷ []) $ fjoin ! $ move ! (1 ∷ 0 ∷ []) $
      use2 𝓛 (‵ (row u8 full_share (replicate i 0 ++ 0 ∷ []) b o)) (bytes_glue 𝓛 full_share (replicate i 0) (0 ∷ []) b o) $
      rewrite ! 0 (λ (xs : List ℕ). ‵ (row u8 full_share xs b o)) (one_more i 0) refl $ done !

  module _ (l : ℕ → ℕ) where
    abbrev En : Env 𝓤 H
    En = env code.Mir.locals l

    abbrev Now : Moved → List (Item 𝓤)
    Now t = ‵ (row u8 full_share (replicate t.0 0) b o) ∷ Left t.0 ∷ holding 𝓛 En ((1, vptr b o) ∷ (2, vint w64 n) ∷ (3, vint w64 t.0) ∷ [])

    abbrev Turned : Moved → Out → SProp 𝓤
    Turned t =
        after_turn 𝓤 H (Below 𝓛 Nearer Now t)
        (after_block 𝓤 H (after_seq 𝓤 H (Wp 𝓤 H 𝓣.C 𝓣.Λ En code.Mir.t-3 (at_return 𝓤 H En Q)) (at_return 𝓤 H En Q)))

    turns : (t : Moved) → Sq 𝓛 (Now t) (runs 𝓣.C 𝓣.Λ En code.Mir.turn-1 (any_q (Turned t)))
    unfolding after_turn
    turns t =
        let i : ℕ = t.0 in let le = t.1 in
        sets ! (bin ! (get ! refl) (get ! refl) tt) refl (tt, tt) $ first ! $ branches ! (get ! refl)
        (λ less. let h : i < n = ltb→lt i n less in let fi : i + 1 < 2 ^ 64 = omega arith in
        skips ! $ exec ! 𝓣.C 𝓣.Λ En (after 2 code.Mir.turn-1) (any_q (Turned t)) $
        first ! $ blocks ! $
        sets ! (bin ! (get ! refl) (get ! refl) tt) refl (tt, tt) $
        move ! (1 ∷ []) $ use1 𝓛 (‵ (froom (ty_int w8) b (i + o)) ⊛ Left (suc i)) (uncons i h) $ split ! $
        -- [room for the byte; room for the rest; the bytes]
        assigns_last ! (of_opd ! (lit ! tt)) (through ! refl (stop !)) (init ! 0 refl (tt, record { fits = lit< tt })) $
        exec ! 𝓣.C 𝓣.Λ En (after 3 code.Mir.turn-1) (any_q (Turned t)) $
        sets_last ! (bin ! (get ! refl) (lit ! tt) (record { fits = fi })) refl (tt, record { fits = fi }) $
        move ! (2 ∷ 0 ∷ 1 ∷ []) $ use2 𝓛 (‵ (row u8 full_share (replicate (suc i) 0) b o)) (joins i) $
        forget_but ! En (1 ∷ 2 ∷ 3 ∷ []) refl $ take_at ! 3 $
        rewrite ! 0 (λ (k : ℕ). ‵ (fat full_share (ty_int w64) (l 3) zero (vint w64 k))) (omega arith) refl $ give_at ! 3 $
        again ! Nearer Now t (suc i, omega arith) (omega arith))
        (λ over. let ge = nltb→le i n over in let all : i ≡ n = omega arith in
        jumps ! $ exec ! 𝓣.C 𝓣.Λ En code.Mir.t-3 (at_ret En Q) $
        rewrite ! 0 (λ (k : ℕ). ‵ (row u8 full_share (replicate k 0) b o)) all refl $
        sets ! (of_opd ! (unit_lit !)) refl (tt, tt) $ returns ! (look_at ! 0 refl) $ free_all ! refl $ keep ! (0 ∷ []) $ by ! ends)

  writes : ent 𝓤 (H.room (ty_array (ty_int w8) n) b o) (WpFn 𝓤 H 𝓣.C 𝓣.Λ code.function (vptr b o ∷ vint w64 n ∷ []) Q)
  writes =
      qed 𝓛 (‵ (froom (ty_array (ty_int w8) n) b o) ∷ []) ∵ enter ! 𝓣.C 𝓣.Λ code.function (vptr b o ∷ vint w64 n ∷ []) _ $
      alloc_all ! (λ l. pass_all ! refl ((tt, tt), ((tt, record { fits = fn }), tt)) $
      let all : n ≡ n - 0 = omega arith in
      rewrite ! 0 (λ (k : ℕ). ‵ (froom (ty_array (ty_int w8) n) b k)) (sym (add-zero o)) refl $
      rewrite ! 0 (λ (k : ℕ). ‵ (froom (ty_array (ty_int w8) k) b (o + 0))) all refl $ nothing ! $
      sets ! (of_opd ! (lit ! tt)) refl (tt, record { fits = lit< tt }) $
      first ! $ blocks ! $ loops ! 𝓣 Nearer (InvImage.wf (λ (t : Moved). n - t.0) lt-wf_rel.wf) (Now l) (turns l) (0, omega arith))

pub write_piece_spec : {M : Type 1} → statement M
unfolding tables_of
write_piece_spec 𝓤 𝓛 𝓜 𝓡 wired =
    let c = f.clauses 𝓛 𝓜.mem 𝓡.returns in let W = walk_of 𝓛 f.ended stayed c in let 𝓣 = tables_of 𝓤 𝓛.H 𝓜 (tables 𝓤 𝓛.H 𝓜 𝓡 𝓡.env) in
    proved 𝓛 f.ended stayed c 𝓜 𝓡
    (Goes-dropped 𝓛 0 (plain (λ _. RawPtr)) yes (λ κs x w. refl), (Goes-dropped 𝓛 0 (plain (λ _. usize)) yes (λ κs x w. refl), tt))
    f.Key.name code.function (code.unfolded 𝓤 𝓛.H 𝓜 𝓡 wired)
    (λ κs. (rawptr_vals, (uint_vals w64, tt))) (λ κs. (rawptr_Tells, (uint_Tells w64, tt))) (λ κs qs bounds a _ are.
    let n = a.1.0 in
    let y : Ptr → W.Ghost = λ p. ((κs, qs, bounds, (p, (n, tt)), (rawptr_vals p, (uint_vals w64 n, tt))), tt) in
    qed 𝓛 (raw (on_entry 𝓛 f.signature κs qs a (y a.0).0.4) ∷ ‵ (room_for (array_of u8 n) a.0) ∷ []) ∵ drop ! $
    in_a_block ! a.0 (λ p. room_for (array_of u8 n) p) (id⊢ 𝓤 _) (λ b o e.
    regoal ! (λ p. prop (WpFn 𝓤 𝓛.H 𝓣.C 𝓣.Λ code.function (rawptr_vals p ++ (vint w64 n ∷ [])) (W.post (y p)))) e refl $
    by ! (writes 𝓛 𝓣 b o n are.1.0.1 (W.post (y (block_ptr b o)))
    (qed 𝓛 (‵ (row u8 full_share (replicate n 0) b o) ∷ []) ∵ suffices ! _
    (ends_at 𝓛 f.ended stayed c (y (block_ptr b o)) vunit tt (tt, (tt, tt)) (tt, (tt, tt))) $
    feq_i ! ℕ (length (replicate n 0)) n (length-replicate n 0) $ fjoin ! $
    use1 𝓛 (‵ (lies_at (Array u8 n) full_share (block_ptr b o) (replicate n 0))) (bytes_whole 𝓛 full_share n (replicate n 0) b o) $
    feq_i ! _ (vunit ∷ []) _ refl $ nothing ! $ nothing ! $ join ! $ nothing ! $ join ! $ nothing ! $ group ! 3 $ done !))))
