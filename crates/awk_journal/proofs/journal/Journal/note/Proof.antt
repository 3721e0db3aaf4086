-- The body is empty: the borrow is opened and closed again, at the log with the call in it. (A walk by hand, in the form of the
-- standard library's.)
use Rattle.std.proofs.Common.{List, [], ◌∷◌, refl}
use seplogic.Ra.Ura.{Ura}
use mir.Syntax.{named}
use mir.Val.{Val, vunit, vptr}
use base.Logic.{SProp, emp, via, fst∗, id⊢}
use base.Fml.{ftrue, flft}
use prog.Memory.{Memory}
use prog.Routine.{Routine}
use prog.Wp.{Calls, Loops, WpFn, Tables}
use types.Logic.{Logic}
use contract.Monad.{Fun}
use contract.Running.{tables, tables_of}
use types.Kit.{‵, ◌⊛◌, ◌$◌, ◌∵◌, !, qed, move, keep, drop, use1, split, join, fsplit, fsplit3, fjoin, fjoin3, feq_i, suffices, frame, done}
use types.Run.{unit_lit, of_opd, returns, enter}
use types.ByLocal.{alloc_all, pass_all, free_all, look_at, sets}
use sound.WpLaws.{WpFn-mono}
use denote.Exit.{yes}
use denote.RattleType.{owns}
use denote.Ref.{mut_vals, mut_Tells, shr_vals, shr_Tells}
use denote.Signature.{plain, named_lft, types_at}
use denote.Steps.{opens, closes}
use denote.Triple.Spec.{Meets, triple_of}
use denote.Triple.Table.{entered}
use denote.Triple.Walked.{says, Stays, stay_ref, stay_none_ref, AllGo, Goes-ref, Goes-none_ref, Walks, ends_at, walked, walk_Meets}
use Rattle.awk_world.specs.Log.{logged, failures_after}
use Rattle.awk_journal.specs.Calls.{noted}
use Rattle.awk_journal.specs.declared.call.Call.{Call}
use Rattle.awk_journal.specs.declared.journal.Journal.{Journal}
use Rattle.awk_journal.specs.contracts.journal.Journal as T
use Rattle.awk_journal.specs.contracts.call.Call as C
use Rattle.awk_journal.specs.contracts.journal.Journal.note.Key.{name as key}
use Rattle.awk_journal.specs.contracts.journal.Journal.note as f
use Rattle.awk_journal.proofs.journal.Journal.note.Statement as stated
use Rattle.awk_journal.proofs.journal.Journal.note.Code as code

abbrev stayed : Stays (f.ended).signature.params (f.ended).kept
stayed = (stay_ref (0 ∷ []) tt (plain (λ _. T.the_row)), (stay_none_ref (1 ∷ []) tt (plain (λ κs. C.the_row (named_lft 3 2 tt κs))) yes, tt))

module _ {M : Type 1} {𝓤 : Ura M} (𝓛 : Logic 𝓤) (at_mem : Memory → SProp 𝓤) (run : Routine → Fun 𝓤) where
  open 𝓛 use {H, A}

  abbrev left_by : Call → Journal → Journal
  left_by call h = record { log = logged (noted call) h.log; failures = failures_after (noted call) h.log h.failures }

  walks : (Cs : Calls 𝓤 H) (Λ : Loops 𝓤 H) → Walks 𝓛 f.ended stayed (WpFn 𝓤 H Cs Λ code.function) (f.clauses 𝓛 at_mem run)
  walks Cs Λ = walked 𝓛 f.ended stayed (f.clauses 𝓛 at_mem run) (WpFn 𝓤 H Cs Λ code.function) (λ κs. (mut_vals, (shr_vals, tt)))
      (λ κs. (mut_Tells (named 0) κs.0 T.the_row, (shr_Tells (named 1) κs.1.0 (C.the_row (named_lft 3 2 tt κs)), tt)))
      (λ κs qs bounds a none are.
      let b = a.0.ref_ptr.0 in let o = a.0.ref_ptr.1 in let left = left_by a.1.0.now a.0.now in
      let at : List Val × (List Val × Unit {0}) = (mut_vals a.0, (shr_vals a.1.0, tt)) in
      via 𝓤 _ (fst∗ 𝓤 _ (emp 𝓤)) (qed 𝓛 ((‵ (flft κs.0 qs.0) ⊛ (‵ (flft κs.1.0 qs.1.0) ⊛ (‵ (flft κs.1.1.0 qs.1.1.0) ⊛ ‵ ftrue))) ∷ ‵ (owns (types_at (f.signature).params κs) a at) ∷ []) ∵
      split ! $ move ! (2 ∷ []) $ fsplit ! $ fsplit3 ! $ drop ! $ move ! (0 ∷ 1 ∷ 3 ∷ []) $
      enter ! Cs Λ code.function _ _ $
      alloc_all ! (λ l. pass_all ! refl ((tt, tt), ((tt, tt), tt)) $
      opens ! tt T.the_row {h = a.0.now} b o (λ vs.
      sets ! (of_opd ! (unit_lit !)) refl (tt, tt) $
      move ! (1 ∷ []) $ use1 𝓛 (‵ ((T.the_row).own_val left vs)) (id⊢ 𝓤 _) $ move ! (1 ∷ 0 ∷ []) $ closes ! tt T.the_row left vs b o $
      returns ! (look_at ! 0 refl) $ free_all ! refl $
      keep ! (0 ∷ 1 ∷ 2 ∷ 3 ∷ 4 ∷ []) $
      suffices ! _ (ends_at 𝓛 f.ended stayed (f.clauses 𝓛 at_mem run) ((κs, qs, bounds, a, at), none) vunit tt (left, (tt, tt)) (tt, (tt, tt))) $ says ! (refl, refl) $
      move ! (2 ∷ 4 ∷ []) $ join ! $ frame ! $ feq_i ! (List Val) (vptr b o ∷ []) (vptr b o ∷ []) refl $ fjoin3 ! $ fjoin ! $
      feq_i ! (List Val) (vunit ∷ []) (vunit ∷ []) refl $ move ! (1 ∷ 0 ∷ []) $ done !))))

  goes : AllGo 𝓛 3 (f.signature).params (f.ended).kept stayed
  goes = (Goes-ref 𝓛 3 0 tt (plain (λ _. T.the_row)), (Goes-none_ref 𝓛 3 (1 ∷ []) tt (plain (λ κs. C.the_row (named_lft 3 2 tt κs))) yes, tt))

meets : {M : Type 1} {𝓤 : Ura M} (𝓛 : Logic 𝓤) (at_mem : Memory → SProp 𝓤) (run : Routine → Fun 𝓤) (𝓣 : Tables 𝓤 𝓛.H)
    → Meets 𝓛 f.signature (WpFn 𝓤 𝓛.H 𝓣.C 𝓣.Λ code.function) (f.spec 𝓛 at_mem run)
meets {𝓤 = 𝓤} 𝓛 at_mem run 𝓣 =
    walk_Meets 𝓛 f.ended stayed (goes 𝓛 at_mem run) (f.clauses 𝓛 at_mem run) (WpFn 𝓤 𝓛.H 𝓣.C 𝓣.Λ code.function)
    (WpFn-mono 𝓤 𝓛.H 𝓛.laws 𝓣 code.function) (walks 𝓛 at_mem run 𝓣.C 𝓣.Λ)

pub note_spec : {M : Type 1} → stated.statement M
unfolding tables_of
note_spec 𝓤 𝓛 𝓜 𝓡 wired =
    entered 𝓤 𝓛.H (triple_of 𝓛 f.signature (f.spec 𝓛 𝓜.mem 𝓡.returns))
    (tables 𝓤 𝓛.H 𝓜 𝓡 𝓡.env).C (tables 𝓤 𝓛.H 𝓜 𝓡 𝓡.env).Λ key code.function (code.unfolded 𝓤 𝓛.H 𝓜 𝓡 wired)
    (meets 𝓛 𝓜.mem 𝓡.returns (tables_of 𝓤 𝓛.H 𝓜 (tables 𝓤 𝓛.H 𝓜 𝓡 𝓡.env)))
