-- The names of the logic that the proofs by hand cite, in one place.
pub use Rattle.std.proofs.Common.{◌≡◌, ◌≢◌, ℕ, zero, suc, ◌+◌, ◌-◌, ◌%◌, ◌^◌, ◌<◌, ◌≤◌, ◌&&◌, T, eqb, List, [], ◌∷◌, ◌++◌, set, sym, refl, ap, ◌∙◌, subst, lit<, arith, eq-eqb, ne_eqb, w64, Option, Some, None}
pub use mathlib.Core.Bool.{Bool, true, false}
pub use mathlib.Core.Logic.{dite}
pub use native.Mathlib.Decide.{ℕ_discrete, dec_le}
pub use lib.ListN.{get_elem?}
pub use seplogic.Ra.Ura.{Ura}
pub use mir.Syntax.{a_type, named, dcons, dnil, ty_int}
pub use mir.Val.{Val, vunit, vint, vptr, vstruct, vcons, vnil, of_list, has_ty, WT}
pub use mir.MapTy.{inst_fn}
pub use base.Fraction.{full_share}
pub use base.FractionLaws.{Counts}
pub use base.Stored.{Gv, Coded}
pub use base.Logic.{SProp, ent, sep, wand, emp, ex, ex_i, all, all_e, guard, guard_i, upd, upd_i, never_e, id⊢, via, apply∗}
pub use base.Fml.{Lft, GName, Share, Incl, Incl-refl, Incl-trans, Fml, ftrue, ffalse, fsep, fex, feq, fwand, fupd, fdead, fauth, fobs, fbor, flft, finv, fhide}
pub use base.Before.{before}
pub use contract.BorrowLft.{◌⊑◌, ⊑_meet, meet_⊑_left, meet_⊑_right}
pub use contract.Monad.{fact as shown, fact_i, fact_use}
pub use contract.Running.{Running, tables}
pub use contract.Shared.{Lends-one}
pub use ghost.Rules.{Toks, span}
pub use prog.Atomic.{either}
pub use prog.Model.{Model}
pub use prog.Wp.{WpFn}
pub use types.Logic.{Logic, sem, lfts}
pub use types.Kit.{‵, raw, ◌⊛◌, some, given, later, mean, at_ret, ◌$◌, ◌∵◌, !, qed, by, move, keep, drop, split, split3, join, group, fsplit, fsplit3, fjoin, fjoin3, fpick, fpack, pick, learn, show, check, frame, each, assume, suffices, settle, use0, use1, use2, use3, await, updating, now, rewrite, feq_i, feq_l, flt_i, flt_l, done}
pub use types.Run.{stop, fld, hop, addr, lit, of_opd, no_more, and_then, first, blocks, exec, Calls-last, returns, enter}
pub use types.ByLocal.{alloc_all, pass_all, free_all, look_at, get, get_in, through, sets, sets_last, lands_last, is, env}
pub use types.Part.{agg, sub, whole, look_in}
pub use types.Tokens.{bor_open, obor_close, obor_alter, bor_fracture, name_new, one_token}
pub use types.Na.{out, out_once, before_dup, before_shorten, before-Incl}
pub use types.Owned.{basic, own_new}
pub use types.SemTy.{Body}
pub use denote.Exit.{yes, no}
pub use denote.RattleType.{RattleType, RowLaws, Valss, owns, Denots}
pub use denote.Signature.{types_at, plain, named_lft}
pub use denote.RawPtr.{Ptr, InBlock, block_ptr, null_ptr, ptr_val, block_of, count_of, at_block}
pub use denote.Steps.{nothing, peeks, heard, looks, shuts}
pub use denote.Opens.{Opens, unhide}
pub use denote.Laws.{Is, shows, Typed, Lawful}
pub use denote.Memory.{part_at, cell_at, hidden_shr, shared_of, mem}
pub use denote.Param.{param, layout, bounded}
pub use denote.Param.Laws.{Laws, param_laws}
pub use denote.Builtin.{RefOf, RefMutOf, u64}
pub use denote.Ref.{NamedLft, ShrRef, shr_vals, shr_Tells, mut_vals, mut_Tells}
pub use denote.Plain.{uint_vals, uint_Tells}
pub use denote.Shares.{Shares}
pub use denote.Sharing.{ShrLaws, ends, always}
pub use denote.SharingLaws.{contraction, shortens, some_shr_laws, beside_shr_laws, ends_shr_laws, always_shr_laws, said_shr_laws, within_shr_laws}
pub use denote.Struct.Lending.{Lends, Lends-false, lent_out}
pub use denote.Triple.Entry.{alive}
pub use denote.Triple.Walked.{Stays, stay_dropped, stay_ref, walk_of, Goes-dropped, Goes-ref}
pub use Rattle.core.specs.Sync.RawAtomic.{asks, word, always as whenever}
pub use Rattle.core.proofs.atomic.Steps.{tail}
pub use Rattle.core.proofs.mem.Param.{El, lawful, Good, one}
pub use Rattle.core.proofs.cell.Borrows.{by_one}
pub use Rattle.atomic_table.proofs.Walks.{proved, proved_at, leaves}
unfoldable pub use base.Fml.{fseps}
unfoldable pub use denote.Memory.{part_of}
