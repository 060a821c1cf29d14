-- `and_failed` makes a value of no memory, with the ghost values that its clause names.
use Rattle.std.{proofs.Common.{◌+◌, [], ◌∷◌, refl}, specs.Borrow.{u8}}
use seplogic.Ra.Ura.{Ura}
use mir.{Syntax.{Fn, named}, Val.{Val, vptr}}
use base.Logic.{SProp, ent}
use prog.{Memory.{Memory}, Routine.{Routine}, Wp.{WpFn, Tables}}
use contract.{Monad.{Fun}, Running.{tables, tables_of}}
use sound.WpLaws.{WpFn-mono}
use types.{ByLocal.{alloc_all, pass_all, free_all, look_at, get, sets}, Logic.{Logic}, Part.{agg}, Run.{enter, returns, and_then, no_more}}
use types.Kit.{‵, raw, ◌⊛◌, ◌$◌, ◌∵◌, !, qed, move, keep, split, fjoin, suffices, done}
use denote.{Builtin.{RefOf}, Exit.{yes}, Laws.{Is}, RattleType.{owns}, Ref.{shr_vals, shr_Tells}, Signature.{plain, types_at}}
use denote.{Steps.{nothing, owned}, Struct.Laws.{makes}, Triple.Clauses.{Clauses, Ended, closing}, Triple.Entry.{alive}}
use denote.Triple.{Spec.{Meets, triple_of}, Table.{entered}}
use denote.Triple.Walked.{says, Stays, stay_dropped, walk_of, ends_at, walked, Goes-dropped, walk_Meets}
use Rattle.byte_streams.{proofs.HistoryWalks.{none, one, one_made}, specs.contracts.history.History.and_failed.Key.{name as #self}}
use Rattle.std.specs.contracts.marker.PhantomData as Mark
use Rattle.byte_streams.specs.contracts.history.History as History
use Rattle.byte_streams.specs.contracts.history.History.and_failed as F
use Rattle.byte_streams.proofs.history.History.and_failed.Statement as stated
use Rattle.byte_streams.proofs.history.History.and_failed.Code as code

abbrev function : Fn
function = code.function

abbrev ended : Ended
ended = F.ended

abbrev stayed : Stays ended.signature.params ended.kept
stayed = (stay_dropped (RefOf (0 ∷ []) tt (plain (λ _. History.the_row)) (λ _. tt)) yes, tt)

module _ {M : Type 1} {𝓤 : Ura M} (𝓛 : Logic 𝓤) (at_mem : Memory → SProp 𝓤) (run : Routine → Fun 𝓤) where
  open 𝓛 use {H}

  abbrev held : Clauses 𝓤 ended
  held = F.clauses 𝓛 at_mem run

  module _ (𝓣 : Tables 𝓤 H) where
    abbrev Bound : Type 0
    Bound = (walk_of 𝓛 ended stayed held).Ghost

    abbrev Goes : Bound → Type 1
    Goes y = ent 𝓤 ((walk_of 𝓛 ended stayed held).pre y) (WpFn 𝓤 H 𝓣.C 𝓣.Λ function ((walk_of 𝓛 ended stayed held).args y) ((walk_of 𝓛 ended stayed held).post y))

    abbrev spelled : Bound → Bound
    spelled z = ((z.0.0, z.0.1, z.0.2, z.0.3, (shr_vals z.0.3.0, tt)), z.1)

    walk : (z : Bound) → Goes (spelled z)
    walk z =
        let a = z.0.3 in
        let made : History.the_row.Denot = record { of = record {}; bytes = a.0.now.bytes; at_end = a.0.now.at_end; calls = a.0.now.calls + 1; failed = a.0.now.failed + 1 } in
        let Post : Val → SProp 𝓤 = (walk_of 𝓛 ended stayed held).post (spelled z) in
        qed 𝓛 ((raw (alive 𝓛 ended.signature z.0.0 z.0.1) ⊛ ‵ (owns (types_at ended.signature.params z.0.0) a (spelled z).0.4)) ∷ raw ((held z.0.0 a).requires z.1) ∷ []) ∵
        keep ! (0 ∷ []) $ split ! $ keep ! (0 ∷ []) $
        enter ! 𝓣.C 𝓣.Λ function (vptr a.0.ref_ptr.0 a.0.ref_ptr.1 ∷ []) Post $
        alloc_all ! (λ l. pass_all ! refl ((tt, tt), tt) $
        sets ! (agg ! (no_more !)) refl (tt, tt) $
        sets ! (agg ! (and_then ! (get ! refl) (no_more !))) refl (tt, (tt, tt)) $
        nothing ! $ owned ! (Mark.the_row u8) (Is (Mark.the_row u8)) (makes (Mark.the_type u8) tt 𝓛) (record {}) (none ∷ []) (tt, (refl, tt)) $
        one_made ! (Mark.the_row u8) (record {}) none $ fjoin ! $
        returns ! (look_at ! 0 refl) $ free_all ! refl $
        suffices ! _ (ends_at 𝓛 ended stayed held (spelled z) (one none) made (tt, tt) (tt, tt)) $ says ! (refl, refl, refl, refl) $
        nothing ! $ nothing ! $ fjoin ! $ move ! (2 ∷ 0 ∷ 1 ∷ []) $ done !)

    meets : Meets 𝓛 ended.signature (WpFn 𝓤 H 𝓣.C 𝓣.Λ function) (closing 𝓛 ended held)
    meets =
        walk_Meets 𝓛 ended stayed (
          Goes-dropped 𝓛 1 (RefOf (0 ∷ []) tt (plain (λ _. History.the_row)) (λ _. tt)) yes (λ κs x f. refl),
          tt,
        ) held (WpFn 𝓤 H 𝓣.C 𝓣.Λ function) (WpFn-mono 𝓤 H 𝓛.laws 𝓣 function)
        (walked 𝓛 ended stayed held (WpFn 𝓤 H 𝓣.C 𝓣.Λ function) (λ κs. (shr_vals, tt))
        (λ κs. (shr_Tells (named 0) κs.0 History.the_row, tt))
        (λ κs qs bounds a g are. walk ((κs, qs, bounds, a, (shr_vals a.0, tt)), g)))

pub and_failed_spec : {M : Type 1} → stated.statement M
unfolding tables_of
and_failed_spec 𝓤 𝓛 𝓜 𝓡 wired =
    let 𝓣 : Tables 𝓤 𝓛.H = tables_of 𝓤 𝓛.H 𝓜 (tables 𝓤 𝓛.H 𝓜 𝓡 𝓡.env) in
    entered 𝓤 𝓛.H (triple_of 𝓛 ended.signature (closing 𝓛 ended (held 𝓛 𝓜.mem 𝓡.returns))) 𝓣.C 𝓣.Λ #self function
    (code.unfolded 𝓤 𝓛.H 𝓜 𝓡 wired) (meets 𝓛 𝓜.mem 𝓡.returns 𝓣)
