-- `put` keeps the pointer, and what the box owned goes with it. Assumes `Logic`.
use Rattle.std.proofs.Common.{◌≡◌, ℕ, List, [], ◌∷◌, ◌++◌, refl, sym, subst, true, false}
use seplogic.Ra.Ura.{Ura}
use mir.Syntax.{Fn, Callee, seq, assign, place, rv_opd, copy, opd_unit, deref, field, return}
use mir.Syntax.{local, value_local, named, mut, ty_ref, ty_ptr, ty_unit}
use mir.Val.{Val, vptr, vunit}
use base.Fraction.{full_share}
use base.Logic.{SProp, ent}
use base.Fml.{Lft, GName, Share, ftrue, fsep, flft, fobs, fauth, fbor, fobor}
use prog.Model.{Model}
use prog.Wp.{WpFn, Closed}
use types.Logic.{Logic}
use types.SemTy.{Body}
use contract.Monad.{fact}
use contract.Running.{Running, tables}
use types.Kit.{Goal, Soaks, Seq, Item, ‵, raw, ◌⊛◌, ◌$◌, ◌∵◌, !, qed, by, move, keep, drop, join, split}
use types.Kit.{fsplit, fsplit3, fjoin, fjoin3, feq_i, rewrite, suffices, done}
use types.Part.{whole, sub, store_in}
use types.Run.{stop, fld, of_opd, unit_lit, assigns, returns, enter}
use types.ByLocal.{alloc_all, pass_all, free_all, look_at, get, get_in, through, sets}
use denote.Param.{layout}
use denote.RattleType.{RattleType}
use denote.Memory.{mem, cell_at}
use denote.RawPtr.{block_ptr}
use denote.Signature.{Slot, Signature, plain}
use denote.Builtin as Built
use denote.Builtin.{RefMutOf}
use denote.Exit.{yes}
use denote.Steps.{opens, closes, nothing, heard}
use denote.Triple.Clauses.{Ended, Clauses, closing}
use denote.Triple.Spec.{Meets}
use denote.Triple.Walked.{says, Stays, stay_dropped, stay_ref, walk_of, ends_at, Goes-dropped, Goes-ref}
use Rattle.std.proofs.raw_atomic.Walks.{proved_at}
use Rattle.std_heap.specs.contracts.Global as Heap
use Rattle.std_heap.specs.contracts.GlobalAllocator.TheImpl.{ghosts}
use Rattle.std_alloc.proofs.BoxSteps.Form.{D, B, word, box_typed}
use Rattle.std_alloc.proofs.BoxSteps.Steps.{box_out}
use Rattle.c_handles.specs.Loosely.{loosely}
use Rattle.c_handles.specs.contracts.parts.Parts as Parts
use Rattle.c_handles.proofs.AnyLoose.{Kind, S, E, L, at_word, held_ty, written_ty, loose_out, made_in}

module _ (J : Kind) {M : Type 1} {𝓤 : Ura M} {𝓛 : Logic 𝓤} {K : Type 0} {Γ : List (Item 𝓤)} {G : Goal 𝓤 𝓛.H} where
  empty_opens : K → Soaks G → {κ : Lft} {q : Share} {γ : GName} (d : J.own.D) (rb ro : ℕ) → J.full d ≡ false
      → Seq K 𝓛 (‵ (cell_at full_share (L J).mir (at_word (J.at d) ∷ []) rb ro)
      ∷ ‵ (fobor κ q (Body (mem (L J)) rb ro γ)) ∷ ‵ (fobs γ ((L J).coded.code d)) ∷ ‵ (fauth γ ((L J).coded.code d)) ∷ Γ) G
      → Seq K 𝓛 (‵ (fobs γ ((L J).coded.code d)) ∷ ‵ (fbor κ (Body (mem (L J)) rb ro γ)) ∷ ‵ (flft κ q) ∷ Γ) G
  empty_opens t z d rb ro empty k =
      opens t z (L J) {h = d} rb ro (λ vs. move t (1 ∷ []) $ loose_out J t d vs (λ ws. drop t $
      rewrite t 0 (λ (us : List Val). ‵ (cell_at full_share (L J).mir us rb ro)) ws refl $ k))

module _ (J : Kind) where
  abbrev Self : Slot 1
  Self = RefMutOf (0 ∷ []) tt (plain (λ _. L J)) (λ _. tt)

  abbrev From : RattleType
  From = Parts.the_row (S J) Heap.the_row ghosts

  abbrev signature : Signature
  signature = record { lifetimes = 1; outlives = []; params = Self ∷ plain (λ _. From) ∷ []; result = plain (λ _. Built.unit) }

  abbrev ended : Ended
  ended = record { signature = signature; kept = (yes, (yes, tt)) }

  abbrev fn : Fn
  fn = record {
    lifetimes = 1;
    outlives = [];
    ty_params = [];
    givens = 0;
    params = 2;
    locals = local ty_unit value_local ∷ local (ty_ref (named 0) mut (written_ty J)) value_local ∷ local (layout From) value_local
        ∷ local ty_ptr value_local ∷ local ty_ptr value_local ∷ [];
    body = seq (assign (place 3 []) (rv_opd (copy (place 2 (field 0 ∷ [])))))
        (seq (assign (place 4 []) (rv_opd (copy (place 3 []))))
        (seq (assign (place 1 (deref (held_ty J) ∷ field 0 ∷ [])) (rv_opd (copy (place 4 []))))
        (seq (assign (place 0 []) (rv_opd opd_unit)) return)));
  }

  abbrev stayed : Stays ended.signature.params ended.kept
  stayed = (stay_ref (0 ∷ []) tt (plain (λ _. L J)), (stay_dropped (plain (λ _. From)) yes, tt))

  module _ {M : Type 1} {𝓤 : Ura M} (𝓛 : Logic 𝓤) where
    abbrev clauses : Clauses 𝓤 ended
    clauses κs a = record {
      ghost = Unit {0};
      requires = λ g. fact 𝓤 (J.full a.0.now ≡ false);
      ensures = λ g r e. fact 𝓤 ((J.full e.0.now ≡ true) × (J.side e.0.now ≡ a.1.0.value));
    }

    pub put_any : (𝓜 : Model 𝓤 𝓛.H) (𝓡 : Running 𝓤 𝓛.H 𝓜) {k : Callee}
        → Closed 𝓤 𝓛.H (tables 𝓤 𝓛.H 𝓜 𝓡 𝓡.env).C (tables 𝓤 𝓛.H 𝓜 𝓡 𝓡.env).Λ k fn
        → Meets 𝓛 signature ((tables 𝓤 𝓛.H 𝓜 𝓡 𝓡.env).C k) (closing 𝓛 ended clauses)
    put_any 𝓜 𝓡 {k} closed =
        let 𝓣 = tables 𝓤 𝓛.H 𝓜 𝓡 𝓡.env in
        proved_at 𝓛 ended stayed clauses 𝓜 𝓡 (
          Goes-ref 𝓛 1 0 tt (plain (λ _. L J)),
          (Goes-dropped 𝓛 1 (plain (λ _. From)) yes (λ κs x f. refl), tt),
        ) k fn closed (λ y are.
        let κ : Lft = y.0.0.0 in let q : Share = y.0.1.0 in let self = y.0.3.0 in let p = y.0.3.1.0 in let d : J.own.D = self.now in
        let rb : ℕ = self.ref_ptr.0 in let ro : ℕ = self.ref_ptr.1 in let γ : GName = self.ghost_name in
        let us : List Val = y.0.4.0 in let ws : List Val = y.0.4.1.0 in
        let Post : Val → SProp 𝓤 = (walk_of 𝓛 ended stayed clauses).post y in
        let told : us ≡ vptr rb ro ∷ [] = are.0.0 in
        let v : D (E J) = record { ptr = p.ptr; alloc = p.alloc; value = p.value } in
        qed 𝓛 (((‵ (flft κ q) ⊛ ‵ ftrue) ⊛ ‵ (fsep (((Self.row y.0.0).own_val self us)) (fsep ((B (E J)).own_val v ws) ftrue)))
        ∷ raw (fact 𝓤 (J.full d ≡ false)) ∷ []) ∵
        move ! (1 ∷ []) $ heard ! (J.full d ≡ false) (λ empty. split ! $ move ! (1 ∷ []) $ fsplit ! $ move ! (1 ∷ []) $ fsplit ! $
        box_out (E J) ! v ws (λ b o hv e ew fa. fjoin ! $ move ! (3 ∷ 4 ∷ 0 ∷ []) $ fsplit3 ! $ drop ! $ move ! (2 ∷ []) $ split ! $
        keep ! (2 ∷ 3 ∷ 0 ∷ 4 ∷ []) $
        let x : J.row.Denot = p.value in let w : Val = word (E J) hv b o in
        let Γ : List (Item 𝓤) = ‵ (fobs γ ((L J).coded.code d)) ∷ ‵ (fbor κ (Body (mem (L J)) rb ro γ)) ∷ ‵ (flft κ q)
        ∷ ‵ (loosely (S J) true (block_ptr b o) x) ∷ [] in
        by ! (subst (λ (ts : List Val). ent 𝓤 (types.Kit.⋆ 𝓛 Γ) (WpFn 𝓤 𝓛.H 𝓣.C 𝓣.Λ fn (ts ++ (ws ++ [])) Post)) (sym told)
        (subst (λ (ts : List Val). ent 𝓤 (types.Kit.⋆ 𝓛 Γ) (WpFn 𝓤 𝓛.H 𝓣.C 𝓣.Λ fn (vptr rb ro ∷ (ts ++ [])) Post)) (sym ew)
        (qed 𝓛 Γ ∵ enter ! 𝓣.C 𝓣.Λ fn (vptr rb ro ∷ w ∷ []) Post $
        alloc_all ! (λ l. pass_all ! refl ((tt, tt), (box_typed (E J) hv b o fa, tt)) $ empty_opens J ! tt d rb ro empty (
        sets ! (of_opd ! (get_in ! (fld ! refl (stop !)) (sub ! 0 refl (whole !)))) refl (tt, tt) $
        sets ! (of_opd ! (get ! refl)) refl (tt, tt) $
        assigns ! (of_opd ! (get ! refl)) (through ! refl (fld ! refl (stop !))) (store_in ! 0 (sub ! 0 refl (whole !)) (tt, tt)) $
        sets ! (of_opd ! (unit_lit !)) refl (tt, tt) $
        let d' : J.own.D = J.loose (block_ptr b o) true x in
        move ! (4 ∷ []) $ made_in J ! (block_ptr b o) true x $ move ! (1 ∷ 0 ∷ []) $
        closes ! tt (L J) d' (at_word (block_ptr b o) ∷ []) rb ro $
        returns ! (look_at ! 0 refl) $ free_all ! refl $ keep ! (0 ∷ 1 ∷ 2 ∷ []) $
        suffices ! _ (ends_at 𝓛 ended stayed clauses y vunit tt (d', (tt, tt)) (tt, (tt, tt))) $
        says ! ((J.made (block_ptr b o) true x).1, (J.made (block_ptr b o) true x).2) $
        feq_i ! (List Val) us (vptr rb ro ∷ []) told $ fjoin3 ! $ nothing ! $ nothing ! $ fjoin ! $ move ! (1 ∷ 0 ∷ []) $ fjoin ! $
        feq_i ! (List Val) (vunit ∷ []) (vunit ∷ []) refl $ move ! (1 ∷ 0 ∷ []) $ join ! $
        nothing ! $ move ! (2 ∷ 0 ∷ []) $ join ! $ join ! $ done !))))))))
