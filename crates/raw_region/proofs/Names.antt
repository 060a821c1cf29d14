-- The names that the walks cite.
pub use Rattle.std.proofs.Common.{◌≡◌, ℕ, zero, suc, ◌+◌, ◌-◌, ◌*◌, ◌^◌, ◌<◌, ◌≤◌, List, [], ◌∷◌, ◌++◌, length, replicate, refl, sym, ap, subst, ◌∙◌, lit<, w8, w64, arith}
pub use Rattle.std.proofs.raw_atomic.Walks.{proved, proved_at, leaves}
pub use Rattle.std.proofs.VecSteps.Shapes.{after}
pub use seplogic.Ra.Ura.{Ura}
pub use base.Fraction.{full_share}
pub use base.Logic.{SProp, ent, sep, emp, id⊢, never}
pub use base.Fml.{Fml, Lft, GName, Share, ftrue, fsep, fat, froom, flft, fhide}
pub use mir.Syntax.{Ty, ty_int, ty_array, named}
pub use mir.Val.{Val, vunit, vint, vptr}
pub use types.Logic.{Logic, sem}
pub use contract.Monad.{fact, fact_i}
pub use contract.Running.{tables}
pub use types.Kit.{Goal, Soaks, Item, Seq, Step, step, ‵, raw, ◌⊛◌, some, given, later, prop, at_ret, ◌$◌, ◌∵◌, !, qed, by, done, move, keep, drop, use0, use1, use2, split, split3, join, fsplit, fsplit3, fjoin, fpick, fpack, feq_i, feq_l, flt_i, pick, await, learn, rewrite, regoal, suffices, group}
pub use types.Part.{whole, sub, look_in, agg}
pub use types.Run.{enter, of_opd, lit, unit_lit, bin, addr, load, look, init, stop, fld, no_more, and_then, assigns_last, first, blocks, branches, skips, exec, returns}
pub use types.ByLocal.{alloc_all, pass_all, free_all, look_at, get, get_in, through, sets, sets_last, lands_as, lands_last, env}
pub use denote.Array.{Array}
pub use denote.Builtin.{u8, usize, unit, RefOf}
pub use denote.Exit.{yes, no}
pub use denote.Index.{row}
pub use denote.Laws.{Is, shows}
pub use denote.Memory.{cell_at, part_at, mem, hidden_shr}
pub use denote.Opens.{unhide, hide}
pub use denote.Plain.{uint_in, uint_Makes, uint_vals, uint_Tells}
pub use denote.RattleType.{RattleType, owns}
pub use denote.RawPtr.{Ptr, RawPtr, block_ptr, lies_at, in_a_block}
pub use denote.Ref.{mut_vals, mut_Tells, shr_vals, shr_Tells}
pub use denote.Signature.{plain, types_at}
pub use denote.Slice.{elements_shared}
pub use denote.Steps.{nothing, owned, opens, heard, peeks, only}
pub use denote.Triple.Call.{calls_at, calls_at_last}
pub use denote.Triple.Clauses.{lasts}
pub use denote.Triple.Entry.{on_entry, alive}
pub use denote.Triple.Spec.{triple_of}
pub use denote.Triple.Table.{framed}
pub use denote.Triple.Walked.{Stays, walk_of, stay_dropped, Goes-dropped, ends_at}
