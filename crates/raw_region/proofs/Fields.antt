-- A region is its fields, its bytes and the right to free their block: seen after a `&`, opened after a `&mut`, and taken apart. Assumes
-- `Logic`.
use Rattle.raw_region.proofs.Names.{raw, fact, heard, ftrue, usize, ◌<◌, ◌^◌, w64, vint, vptr, vunit, emp, nothing, fpack, length, row}
use Rattle.raw_region.proofs.Names.{full_share, peeks, shows, lies_at, Fml, fsep, fjoin, ◌∙◌, sym, ap, subst, Val, Step, step, feq_i}
use Rattle.raw_region.proofs.Names.{part_at, ◌≡◌, ℕ, ◌+◌, List, [], ◌∷◌, refl, Ura, id⊢, Lft, fhide, Logic, sem, sep, Goal, Item, Seq, ‵}
use Rattle.raw_region.proofs.Names.{◌$◌, ◌∵◌, !, qed, done, move, drop, use1, fsplit, fpick, rewrite, Array, u8, elements_shared}
use Rattle.raw_region.proofs.Names.{hidden_shr, unhide, hide, RattleType, Ptr, RawPtr, block_ptr, in_a_block, ent, never}
use Rattle.raw_region.{proofs.region.RawRegion.TheInside.TheLaws.{lowers}, specs.declared.region.RawRegion.TheInside.{Inside}}
use base.Fml.{feq}
use denote.{Opens.{shr_dup}, Plain.{uint_row_laws}, RawPtr.{block_of, count_of, InBlock, ptr_row_laws}, Shadow.{makes_shadow}}
use denote.{RawPtr.Bytes.{bytes_apart, bytes_whole}, Struct.Lending.{in_block_says}, Struct.Owning.{shape, to}, Struct.Struct.{Struct}}
use mir.Val.{vstruct, vcons, vnil}
use Rattle.std.{proofs.Handle.{heap_val}, specs.Allocator.{array_of}, specs.contracts.impls.GlobalAllocator.TheImpl.{ghosts}}
use Rattle.raw_region.specs.contracts.region.RawRegion as seen
use Rattle.raw_region.specs.contracts.region.RawRegion.TheInside as inside

abbrev pub R : RattleType
R = seen.the_row

abbrev pub Fields : RattleType
Fields = Struct (shape inside.the_type)

-- the right to free the block
abbrev pub Deed : Inside → Fml
Deed h = ghosts.dealloc_token h.alloc (array_of u8 h.len) h.ptr

-- what the fields own, which is only facts
abbrev pub Parts : Inside → List Val → Fml
Parts h us = Fields.own_val (to inside.the_type h) us

-- the machine value of a region whose bytes lie at b, o
abbrev pub words : Inside → ℕ → ℕ → List Val
words h b o = lowers.lowered (record h { ptr = block_ptr b o }) ∷ []

-- a `&` to a field may be had twice
module _ {M : Type 1} {𝓤 : Ura M} (𝓛 : Logic 𝓤) (κ : Lft) (b o : ℕ) where
  pub pointer_twice : (p : Ptr) →
      ent 𝓤 (sem 𝓛 (hidden_shr RawPtr κ p b o)) (sep 𝓤 (sem 𝓛 (hidden_shr RawPtr κ p b o)) (sem 𝓛 (hidden_shr RawPtr κ p b o)))
  pointer_twice p = qed 𝓛 (‵ (hidden_shr RawPtr κ p b o) ∷ []) ∵ shr_dup ! RawPtr ptr_row_laws p b o κ $ done !

  pub length_twice : (n : ℕ) →
      ent 𝓤 (sem 𝓛 (hidden_shr usize κ n b o)) (sep 𝓤 (sem 𝓛 (hidden_shr usize κ n b o)) (sem 𝓛 (hidden_shr usize κ n b o)))
  length_twice n = qed 𝓛 (‵ (hidden_shr usize κ n b o) ∷ []) ∵ shr_dup ! usize (uint_row_laws w64) n b o κ $ done !

module _ {M : Type 1} {𝓤 : Ura M} {𝓛 : Logic 𝓤} {K : Type 0} {Γ : List (Item 𝓤)} {G : Goal 𝓤 𝓛.H} where
  -- what a `&` to a region shows: [a `&` to the pointer; a `&` to the length; a `&` to the bytes]
  pub sees : K → {κ : Lft} (xs : List ℕ) (rb ro : ℕ)
      → ((h : Inside) → h.bytes ≡ xs → InBlock h.ptr
      → Seq K 𝓛 (‵ (hidden_shr RawPtr κ h.ptr rb (ro + 0)) ∷ ‵ (hidden_shr usize κ h.len rb (ro + 8)) ∷ ‵
      (fhide (elements_shared u8 xs (block_of h.ptr) (count_of h.ptr) κ)) ∷ Γ) G)
      → Seq K 𝓛 (‵ (hidden_shr R κ xs rb ro) ∷ Γ) G
  sees t {κ} xs rb ro k =
      unhide t $ fpick t (λ x. let h : Inside = x.0 in fsplit t $ move t (1 ∷ []) $ drop t $ fsplit t $ move t (1 ∷ []) $
      -- [what is lent; a `&` to the fields]
      fsplit t $ use1 𝓛 (raw (fact 𝓤 (InBlock h.ptr))) (in_block_says 𝓛 h.ptr) $ heard t (InBlock h.ptr) (λ somewhere.
      fsplit t $ drop t $ hide t $
      rewrite t 0 (λ (ys : List ℕ). ‵ (fhide (elements_shared u8 ys (block_of h.ptr) (count_of h.ptr) κ))) x.1.0 refl $
      move t (1 ∷ []) $ fsplit t $ move t (1 ∷ []) $ drop t $ fsplit t $ hide t $ move t (1 ∷ []) $ fsplit t $ hide t $ move t (1 ∷ []) $
      drop t $
      move t (1 ∷ 0 ∷ []) $ k h x.1.0 somewhere))

  -- what a region owns: [the bytes; the right to free them; what the fields own]
  pub parts_out : K → (xs : List ℕ) (us : List Val)
      → ((h : Inside) (b o : ℕ) → h.bytes ≡ xs → h.ptr ≡ block_ptr b o → us ≡ words h b o →
      Seq K 𝓛 (‵ (row u8 full_share xs b o) ∷ ‵ (Deed h) ∷ ‵ (Parts h us) ∷ Γ) G)
      → Seq K 𝓛 (‵ (R.own_val xs us) ∷ Γ) G
  parts_out t xs us k =
      fpick t (λ x. let h : Inside = x.0 in fsplit t $ move t (1 ∷ []) $ drop t $
      peeks t inside.the_row _ (shows 𝓛 inside.the_row) h us (λ is. fsplit t $ move t (1 ∷ []) $ fsplit t $
      in_a_block t h.ptr (λ p. lies_at (Array u8 h.len) full_share p h.bytes) (id⊢ 𝓤 (never 𝓤)) (λ b o at.
      use1 𝓛 (‵ (fsep (feq ℕ (length h.bytes) h.len) (row u8 full_share h.bytes b o))) (bytes_apart 𝓛 full_share h.len h.bytes b o) $
      fsplit t $ drop t $
      rewrite t 0 (λ (ys : List ℕ). ‵ (row u8 full_share ys b o)) x.1.0 refl $
      k h b o x.1.0 at (lowers.val_is h us is ∙ ap (λ (p : Ptr). lowers.lowered (record h { ptr = p }) ∷ []) at))))

  -- they are put together, round other bytes
  pub parts_in : K → (h : Inside) (ys : List ℕ) → h.len ≡ length ys → (us : List Val) (b o : ℕ) → h.ptr ≡ block_ptr b o
      → Step K 𝓛 (‵ (R.own_val ys us) ∷ Γ) G (‵ (row u8 full_share ys b o) ∷ ‵ (Deed h) ∷ ‵ (Parts h us) ∷ Γ) G
  parts_in t h ys long us b o at = step (λ k.
      let new : Inside = record h { bytes = ys; counted = long } in
      feq_i t ℕ (length ys) h.len (sym long) $ fjoin t $
      use1 𝓛 (‵ (part_at (Array u8 h.len) full_share ys b o)) (bytes_whole 𝓛 full_share h.len ys b o) $
      rewrite t 0 (λ (p : Ptr). ‵ (lies_at (Array u8 h.len) full_share p ys)) (sym at) refl $ fjoin t $ move t (1 ∷ 0 ∷ []) $ fjoin t $
      nothing t $ move t (1 ∷ 0 ∷ []) $ fjoin t $
      fpack t ((x : Inside) × ((x.bytes ≡ ys) × Unit {0})) (λ x. fsep (inside.the_row.own_val x.0 us) ftrue) (new, (refl, tt)) $ k)

-- what the fields of a new region own
pub parts_made : {M : Type 1} {𝓤 : Ura M} (𝓛 : Logic 𝓤) (h : Inside) (b o : ℕ) → h.ptr ≡ block_ptr b o → h.len < 2 ^ 64 →
    ent 𝓤 (emp 𝓤) (sem 𝓛 (Parts h (words h b o)))
parts_made {𝓤 = 𝓤} 𝓛 h b o at fits =
    let owned : Ptr → Fml = λ p. Fields.own_val (to inside.the_type (record h { ptr = p })) (words h b o) in
    subst (λ (p : Ptr). ent 𝓤 (emp 𝓤) (sem 𝓛 (owned p))) (sym at)
    (makes_shadow 𝓛 (owned (block_ptr b o)) (λ vss. (tt, (tt, ((tt, tt), ((λ uss. (tt, ((λ tss. (tt, (tt, tt))), tt))), tt))))) (
      (vptr b o ∷ [], (vint w64 h.len ∷ [], (heap_val ∷ [], tt))),
      (
        refl,
        (
          refl,
          (
            (refl, fits),
            (((vstruct (vcons vunit vnil) ∷ [], tt), (refl, (((vunit ∷ [], tt), (refl, (refl, tt))), tt))), tt),
          ),
        ),
      ),
    ))
