-- A fact is said without its proof, so it may be said where it is known that there is one.
use Rattle.std.proofs.Common.{List, [], ◌∷◌, refl}
use Rattle.std.proofs.raw_atomic.Walks.{proved}
use mathlib.Core.Logic.{∥∥₁_elim}
use seplogic.Ra.Ura.{Ura}
use mir.Syntax.{a_type, dcons, dnil, named}
use mir.MapTy.{inst_fn}
use mir.Val.{Val, vunit, vptr}
use base.Logic.{SProp, ent}
use contract.Monad.{fact}
use contract.Running.{tables}
use types.Kit.{raw, ‵, keep, ◌⊛◌, ◌$◌, ◌∵◌, !, qed, move, drop, use1, split, join, fjoin, feq_i, suffices, done}
use types.Run.{of_opd, unit_lit, returns, enter}
use types.ByLocal.{alloc_all, pass_all, free_all, look_at, sets}
use denote.Exit.{yes}
use denote.Param.{param, bounded}
use denote.RattleType.{RattleType, owns}
use denote.Builtin.{RefOf}
use denote.Ref.{shr_vals, shr_Tells}
use denote.Signature.{plain, types_at}
use denote.Steps.{nothing, heard}
use denote.Triple.Entry.{alive}
use denote.Triple.Walked.{Stays, says, stay_dropped, walk_of, Goes-dropped, ends_at}
use Rattle.c_boards.specs.contracts.known.known as F
use Rattle.c_boards.specs.contracts.known.known.Key.{name as #self}
use Rattle.c_boards.proofs.known.known.Statement.{statement}
use Rattle.c_boards.proofs.known.known.Code as code

module _ {M : Type 1} (𝓤 : Ura M) where
  opened : (φ : Type 0) → ent 𝓤 (fact 𝓤 ∥ φ ∥₁) (fact 𝓤 φ)
  opened φ = record {
    apply = λ a k. ∥∥₁_elim k ((fact 𝓤 φ).holds_prop a) (λ t. ∥∥₁_elim t.0 ((fact 𝓤 φ).holds_prop a) (λ x. ∣ (x, t.1) ∣₁));
  }

pub known_spec : {M : Type 1} → statement M
known_spec 𝓤 𝓛 𝓜 𝓡 wired X LX g d dd met md =
    let 𝓣 = tables 𝓤 𝓛.H 𝓜 𝓡 𝓡.env in let En = F.ended X g d dd in let R : RattleType = param 0 X in
    let self = RefOf (0 ∷ []) tt (plain (λ _. R)) (λ _. tt) in
    let inst = bounded (a_type ∷ []) (X, tt) (dcons d (dcons dd dnil)) in let fn = inst_fn inst code.function in
    let hs : Stays En.signature.params En.kept = (stay_dropped self yes, tt) in let c = F.clauses X g d dd 𝓛 𝓜.mem 𝓡.returns in
    proved 𝓛 En hs c 𝓜 𝓡 (Goes-dropped 𝓛 2 self yes (λ κs x f. refl), tt) (#self inst) fn (code.unfolded 𝓤 𝓛.H 𝓜 𝓡 wired (X, tt) d dd)
    (λ κs. (shr_vals, tt)) (λ κs. (shr_Tells (named 0) κs.0 R, tt)) (λ κs qs bounds a gh are.
    let y : (walk_of 𝓛 En hs c).Ghost = ((κs, qs, bounds, a, (vptr a.0.ref_ptr.0 a.0.ref_ptr.1 ∷ [], tt)), gh) in
    let Post : Val → SProp 𝓤 = (walk_of 𝓛 En hs c).post y in
    let known : Type 0 = g.sits a.0.now in
    qed 𝓛 ((raw (alive 𝓛 En.signature κs qs) ⊛ ‵ (owns (types_at En.signature.params κs) a y.0.4)) ∷ raw
    (fact 𝓤 _) ∷ raw (fact 𝓤 ∥ known ∥₁) ∷ []) ∵
    keep ! (0 ∷ 2 ∷ []) $ split ! $ move ! (1 ∷ []) $ drop ! $ move ! (1 ∷ []) $
    use1 𝓛 (raw (fact 𝓤 known)) (opened 𝓤 known) $ heard ! known (λ x.
    enter ! 𝓣.C 𝓣.Λ fn (vptr a.0.ref_ptr.0 a.0.ref_ptr.1 ∷ []) Post $ alloc_all ! (λ l. pass_all ! refl ((tt, tt), tt) $
    sets ! (of_opd ! (unit_lit !)) refl (tt, tt) $
    returns ! (look_at ! 0 refl) $ free_all ! refl $
    suffices ! _ (ends_at 𝓛 En hs c y vunit tt (tt, tt) (tt, tt)) $ says ! x $
    feq_i ! (List Val) (vunit ∷ []) (vunit ∷ []) refl $ nothing ! $ nothing ! $ fjoin ! $ join ! $ move ! (1 ∷ 0 ∷ []) $ join ! $ done !)))
