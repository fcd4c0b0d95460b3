-- What a note owns is copied out of a `&` to it, into a note that a `&mut` lends.
use Rattle.std.proofs.Common.{◌≡◌, ℕ, List, [], ◌∷◌, ◌++◌, refl, sym, subst}
use mir.Syntax.{a_type}
use mir.Val.{Val, vptr, vunit}
use mir.MapTy.{inst_fn}
use base.Logic.{SProp, ent, emp, id⊢, apply∗, all, all_e}
use base.Fml.{Lft, Share, ftrue, fsep, flft}
use prog.Wp.{WpFn}
use types.Logic.{sem}
use types.Kit.{‵, raw, ◌⊛◌, later, ◌$◌, ◌∵◌, !, qed, by, move, keep, drop, split, join, fsplit, fjoin, suffices, use0, use1, use2, await, feq_i}
use types.Run.{of_opd, unit_lit, returns, enter}
use types.ByLocal.{alloc_all, pass_all, free_all, look_at, sets}
use contract.Monad.{fact, fact_i}
use contract.Running.{tables}
use denote.Exit.{yes}
use denote.RattleType.{RattleType, owns}
use denote.Signature.{types_at, plain}
use denote.Builtin.{RefOf}
use denote.Steps.{nothing, looks, shuts}
use denote.Param.{param, layouts}
use denote.Triple.Walked.{Stays, stay_dropped, walk_of, Goes-dropped, stay_ref, Goes-ref}
use Rattle.once_cell.specs.Once.{noted}
use Rattle.std.proofs.raw_atomic.Walks.{proved_at, leaves}
use Rattle.once_cell.proofs.Notes as notes
use Rattle.once_cell.proofs.Notes.{Note}
use Rattle.gate_queue.proofs.NoteCopies.{note_opened}
use Rattle.gate_queue.specs.contracts.rule.copy_note.{ended, clauses}
use Rattle.gate_queue.specs.contracts.rule.copy_note.Key.{name as #self}
use Rattle.gate_queue.proofs.rule.copy_note.Statement.{statement}
use Rattle.gate_queue.proofs.rule.copy_note.Code as code

pub copy_note_spec : {M : Type 1} → statement M
copy_note_spec 𝓤 𝓛 𝓜 𝓡 wired T L =
    let H = 𝓛.H in let 𝓣 = tables 𝓤 H 𝓜 𝓡 𝓡.env in let R : RattleType = param 0 T in let En = ended T in let c = clauses T 𝓛 𝓜.mem 𝓡.returns in
    let inst = layouts (a_type ∷ []) (T, tt) in let fn = inst_fn inst code.function in
    let hs : Stays En.signature.params En.kept = (stay_ref (0 ∷ []) tt (plain (λ _. Note 𝓛 R)), (stay_dropped (RefOf (1 ∷ []) tt (plain (λ _. Note 𝓛 R)) (λ _. tt)) yes, tt)) in
    proved_at 𝓛 En hs c 𝓜 𝓡 (Goes-ref 𝓛 3 0 tt (plain (λ _. Note 𝓛 R)), (Goes-dropped 𝓛 3 (RefOf (1 ∷ []) tt (plain (λ _. Note 𝓛 R)) (λ _. tt)) yes (λ κs x f. refl), tt)) (#self inst) fn (code.unfolded 𝓤 H 𝓜 𝓡 wired (T, tt)) (λ z are.
    let κs = z.0.0 in let qs = z.0.1 in let Post : Val → SProp 𝓤 = (walk_of 𝓛 En hs c).post z in let Run : List Val → SProp 𝓤 = λ ws. WpFn 𝓤 H 𝓣.C 𝓣.Λ fn ws Post in
    let κ' : Lft = κs.0 in let q' : Share = qs.0 in let m = z.0.3.0 in let nb₀ : ℕ = m.ref_ptr.0 in let no₀ : ℕ = m.ref_ptr.1 in let ν₀ : ℕ = m.ghost_name in let old = m.now in
    let κ : Lft = κs.1.0 in let q : Share = qs.1.0 in let b : ℕ = z.0.3.1.0.ref_ptr.0 in let o : ℕ = z.0.3.1.0.ref_ptr.1 in let n = z.0.3.1.0.now in
    let Shuts = notes.Shuts 𝓛 R κ' q' nb₀ no₀ ν₀ in let Told : Type 0 = n ≡ n in
    qed 𝓛 (((‵ (flft κ' q') ⊛ ‵ (flft κ q) ⊛ ‵ (fsep (flft κs.1.1.0 qs.1.1.0) ftrue)) ⊛ ‵ (owns (types_at En.signature.params κs) z.0.3 z.0.4)) ∷ raw ((c κs z.0.3).requires z.1) ∷ []) ∵ split ! $ split ! $ move ! (2 ∷ []) $ fsplit ! $ fsplit ! $ move ! (2 ∷ []) $ fsplit ! $ fsplit ! $ move ! (6 ∷ []) $ split ! $ keep ! (3 ∷ 0 ∷ 6 ∷ 7 ∷ 1 ∷ []) $
    suffices ! (Run (vptr nb₀ no₀ ∷ vptr b o ∷ [])) (subst (λ (us : List Val). ent 𝓤 (Run (vptr nb₀ no₀ ∷ vptr b o ∷ [])) (Run us)) (sym (λ i. are.0.0 i ++ (are.1.0.0 i ++ []))) (id⊢ 𝓤 (Run (vptr nb₀ no₀ ∷ vptr b o ∷ [])))) $
    enter ! 𝓣.C 𝓣.Λ fn (vptr nb₀ no₀ ∷ vptr b o ∷ []) Post $ alloc_all ! (λ l. pass_all ! refl ((tt, tt), ((tt, tt), tt)) $
    -- [the `&`; its token; the `&mut`; its token; the other tokens]
    looks ! tt (Note 𝓛 R) (note_opened 𝓛 R) n b o (λ s vs. move ! (1 ∷ []) $ fsplit ! $ move ! (1 ∷ []) $ use1 𝓛 (‵ (noted R n.cell n.known) ⊛ ‵ (noted R n.cell n.known)) (notes.noted_twice 𝓛 R n.cell n.known) $ split ! $
    move ! (2 ∷ 0 ∷ []) $ fjoin ! $ move ! (2 ∷ 0 ∷ 3 ∷ []) $ shuts ! tt (Note 𝓛 R) s n vs b o $
    -- [the token; the copy; the `&`; the `&mut`; its token; the other tokens]
    move ! (3 ∷ 4 ∷ []) $ use2 𝓛 (later (‵ (noted R old.cell old.known) ⊛ raw (all 𝓤 Shuts))) (notes.note_opens 𝓛 R κ' q' nb₀ no₀ ν₀ old) $ await ! tt $ split ! $ drop ! $ use1 𝓛 (raw (Shuts n)) (all_e 𝓤 Shuts n) $
    move ! (2 ∷ 0 ∷ []) $ use2 𝓛 (later (‵ (notes.lent 𝓛 R κ' q' nb₀ no₀ ν₀ n) ⊛ ‵ (flft κ' q'))) (apply∗ 𝓤 (sem 𝓛 (noted R n.cell n.known)) _) $ await ! tt $ split ! $
    feq_i ! (List Val) z.0.4.0 (vptr nb₀ no₀ ∷ []) are.0.0 $ fjoin ! $ nothing ! $ nothing ! $ fjoin ! $ move ! (1 ∷ 0 ∷ []) $ fjoin ! $
    -- [what is left of the parameters; the token of the `&mut`; that of the `&`; the `&`; the other tokens]
    move ! (2 ∷ 4 ∷ []) $ join ! $ move ! (2 ∷ 0 ∷ []) $ join ! $
    sets ! (of_opd ! (unit_lit !)) refl (tt, tt) $ feq_i ! (List Val) (vunit ∷ []) (vunit ∷ []) refl $ use0 𝓛 (raw (fact 𝓤 Told)) (fact_i 𝓤 Told (emp 𝓤) refl) $
    returns ! (look_at ! 0 refl) $ free_all ! refl $ keep ! (2 ∷ 3 ∷ 1 ∷ 0 ∷ []) $ by ! (leaves 𝓛 En hs c z vunit tt (n, (tt, tt)) (tt, (tt, tt))))))
