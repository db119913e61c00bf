-- `take` leaves nothing, and what the box owned comes out with its pointer. Assumes `Logic`.
use Rattle.std.proofs.Common.{◌≡◌, ℕ, List, [], ◌∷◌, ◌++◌, refl, sym, subst, lit<, true, false}
use seplogic.Ra.Ura.{Ura}
use mir.Syntax.{Fn, Callee, seq, assign, place, rv_opd, copy, int, w64, aggregate, deref, field, return}
use mir.Syntax.{local, value_local, named, mut, ty_ref, ty_ptr}
use mir.Val.{Val, vptr}
use base.Logic.{SProp, ent, id⊢}
use base.Fml.{Lft, GName, Share, ftrue, fsep, flft, fobs, fbor}
use prog.Model.{Model}
use prog.Wp.{WpFn, Closed}
use types.Logic.{Logic}
use types.SemTy.{Body}
use contract.Monad.{fact}
use contract.Running.{Running, tables}
use types.Kit.{Item, ‵, raw, ◌⊛◌, ◌$◌, ◌∵◌, !, qed, by, move, keep, drop, use1, join, split}
use types.Kit.{fsplit, fsplit3, fjoin, fjoin3, feq_i, suffices, done}
use types.Part.{whole, sub, agg, look_in, store_in}
use types.Run.{stop, fld, load, lit, of_opd, no_more, and_then, assigns, returns, enter}
use types.ByLocal.{alloc_all, pass_all, free_all, look_at, get, through, sets}
use denote.Param.{layout}
use denote.RattleType.{RattleType}
use denote.Memory.{mem}
use denote.RawPtr.{block_ptr, null_ptr}
use denote.Signature.{Slot, Signature, plain}
use denote.Builtin.{RefMutOf}
use denote.Exit.{yes}
use denote.Steps.{closes, nothing, heard}
use denote.Triple.Clauses.{Ended, Clauses, closing}
use denote.Triple.Spec.{Meets}
use denote.Triple.Walked.{says, Stays, stay_dropped, stay_ref, walk_of, ends_at, Goes-dropped, Goes-ref}
use Rattle.std.proofs.alloc.Calls.{handle_tells}
use Rattle.std.proofs.raw_atomic.Walks.{proved_at}
use Rattle.std_heap.specs.contracts.Global as Heap
use Rattle.std_heap.specs.contracts.GlobalAllocator.TheImpl.{ghosts}
use Rattle.std_alloc.proofs.BoxSteps.Form.{D, P, word, box_typed}
use Rattle.std_alloc.proofs.BoxSteps.Steps.{box_in}
use Rattle.c_handles.specs.contracts.parts.Parts as Parts
use Rattle.c_handles.proofs.AnyLoose.{Kind, S, E, L, at_word, held_ty, written_ty, made_in}
use Rattle.c_handles.proofs.AnyLoose.Reach.{loose_opens}

module _ (J : Kind) where
  abbrev From : Slot 1
  From = RefMutOf (0 ∷ []) tt (plain (λ _. L J)) (λ _. tt)

  abbrev To : RattleType
  To = Parts.the_row (S J) Heap.the_row ghosts

  abbrev signature : Signature
  signature = record { lifetimes = 1; outlives = []; params = From ∷ plain (λ _. Heap.the_row) ∷ []; result = plain (λ _. To) }

  abbrev ended : Ended
  ended = record { signature = signature; kept = (yes, (yes, tt)) }

  abbrev fn : Fn
  fn = record {
    lifetimes = 1;
    outlives = [];
    ty_params = [];
    givens = 0;
    params = 2;
    locals = local (layout To) value_local ∷ local (ty_ref (named 0) mut (written_ty J)) value_local
        ∷ local (layout Heap.the_row) value_local ∷ local ty_ptr value_local ∷ local ty_ptr value_local ∷ [];
    body = seq (assign (place 3 []) (rv_opd (copy (place 1 (deref (held_ty J) ∷ field 0 ∷ [])))))
        (seq (assign (place 1 (deref (held_ty J) ∷ field 0 ∷ [])) (rv_opd (int w64 0)))
        (seq (assign (place 4 []) (rv_opd (copy (place 3 []))))
        (seq (assign (place 0 []) (aggregate (copy (place 4 []) ∷ copy (place 2 []) ∷ []))) return)));
  }

  abbrev stayed : Stays ended.signature.params ended.kept
  stayed = (stay_ref (0 ∷ []) tt (plain (λ _. L J)), (stay_dropped (plain (λ _. Heap.the_row)) yes, tt))

  module _ {M : Type 1} {𝓤 : Ura M} (𝓛 : Logic 𝓤) where
    abbrev clauses : Clauses 𝓤 ended
    clauses κs a = record {
      ghost = Unit {0};
      requires = λ g. fact 𝓤 (J.full a.0.now ≡ true);
      ensures = λ g r e. fact 𝓤 ((J.full e.0.now ≡ false) × (r.value ≡ J.side a.0.now));
    }

    pub take_any : (𝓜 : Model 𝓤 𝓛.H) (𝓡 : Running 𝓤 𝓛.H 𝓜) {k : Callee}
        → Closed 𝓤 𝓛.H (tables 𝓤 𝓛.H 𝓜 𝓡 𝓡.env).C (tables 𝓤 𝓛.H 𝓜 𝓡 𝓡.env).Λ k fn
        → Meets 𝓛 signature ((tables 𝓤 𝓛.H 𝓜 𝓡 𝓡.env).C k) (closing 𝓛 ended clauses)
    take_any 𝓜 𝓡 {k} closed =
        let 𝓣 = tables 𝓤 𝓛.H 𝓜 𝓡 𝓡.env in
        proved_at 𝓛 ended stayed clauses 𝓜 𝓡 (
          Goes-ref 𝓛 1 0 tt (plain (λ _. L J)),
          (Goes-dropped 𝓛 1 (plain (λ _. Heap.the_row)) yes (λ κs x f. refl), tt),
        ) k fn closed (λ y are.
        let κ : Lft = y.0.0.0 in let q : Share = y.0.1.0 in let self = y.0.3.0 in let a = y.0.3.1.0 in let d : J.own.D = self.now in
        let rb : ℕ = self.ref_ptr.0 in let ro : ℕ = self.ref_ptr.1 in let γ : GName = self.ghost_name in
        let us : List Val = y.0.4.0 in let ws : List Val = y.0.4.1.0 in
        let Post : Val → SProp 𝓤 = (walk_of 𝓛 ended stayed clauses).post y in
        let told : us ≡ vptr rb ro ∷ [] = are.0.0 in
        qed 𝓛 (((‵ (flft κ q) ⊛ ‵ ftrue) ⊛ ‵ (fsep (((From.row y.0.0).own_val self us)) (fsep (Heap.the_row.own_val a ws) ftrue)))
        ∷ raw (fact 𝓤 (J.full d ≡ true)) ∷ []) ∵
        move ! (1 ∷ []) $ heard ! (J.full d ≡ true) (λ full. split ! $ move ! (1 ∷ []) $ fsplit ! $ move ! (1 ∷ []) $ fsplit ! $
        handle_tells (E J).al ! a ws (λ hv eh fa. move ! (2 ∷ 3 ∷ 0 ∷ []) $ fsplit3 ! $ drop ! $ move ! (2 ∷ []) $ split ! $
        keep ! (2 ∷ 3 ∷ 0 ∷ 4 ∷ []) $
        let Γ : List (Item 𝓤) = ‵ (fobs γ ((L J).coded.code d)) ∷ ‵ (fbor κ (Body (mem (L J)) rb ro γ)) ∷ ‵ (flft κ q)
        ∷ ‵ ((P (E J)).own_val a (hv ∷ [])) ∷ [] in
        by ! (subst (λ (ts : List Val). ent 𝓤 (types.Kit.⋆ 𝓛 Γ) (WpFn 𝓤 𝓛.H 𝓣.C 𝓣.Λ fn (ts ++ (ws ++ [])) Post)) (sym told)
        (subst (λ (ts : List Val). ent 𝓤 (types.Kit.⋆ 𝓛 Γ) (WpFn 𝓤 𝓛.H 𝓣.C 𝓣.Λ fn (vptr rb ro ∷ (ts ++ [])) Post)) (sym eh)
        (qed 𝓛 Γ ∵ enter ! 𝓣.C 𝓣.Λ fn (vptr rb ro ∷ hv ∷ []) Post $
        alloc_all ! (λ l. pass_all ! refl ((tt, tt), (fa, tt)) $ loose_opens J ! tt d rb ro full (λ b o at_b.
        sets ! (of_opd ! (load ! (through ! refl (fld ! refl (stop !))) (look_in ! 2 (sub ! 0 refl (whole !))))) refl (tt, tt) $
        assigns ! (of_opd ! (lit ! tt)) (through ! refl (fld ! refl (stop !)))
        (store_in ! 2 (sub ! 0 refl (whole !)) (tt, record { fits = lit< tt })) $
        sets ! (of_opd ! (get ! refl)) refl (tt, tt) $
        sets ! (agg ! (and_then ! (get ! refl) (and_then ! (get ! refl) (no_more !)))) refl (box_typed (E J) hv b o fa) $
        let x : J.row.Denot = J.side d in let d' : J.own.D = J.loose null_ptr false x in let w : Val = word (E J) hv b o in
        nothing ! $ made_in J ! null_ptr false x $ move ! (3 ∷ 0 ∷ 4 ∷ 5 ∷ 6 ∷ []) $ closes ! tt (L J) d' (at_word null_ptr ∷ []) rb ro $
        move ! (3 ∷ 4 ∷ 5 ∷ []) $
        let v : D (E J) = record { ptr = block_ptr b o; alloc = a; value = x } in
        let made : To.Denot = record { ptr = block_ptr b o; alloc = a; value = x } in
        box_in (E J) ! v b o x refl refl $ use1 𝓛 (‵ (To.own_val made (w ∷ []))) (id⊢ 𝓤 _) $
        returns ! (look_at ! 0 refl) $ free_all ! refl $ keep ! (1 ∷ 2 ∷ 0 ∷ 3 ∷ []) $
        suffices ! _ (ends_at 𝓛 ended stayed clauses y w made (d', (tt, tt)) (tt, (tt, tt))) $
        says ! ((J.made null_ptr false x).1, refl) $
        feq_i ! (List Val) us (vptr rb ro ∷ []) told $ fjoin3 ! $ nothing ! $ nothing ! $ fjoin ! $ move ! (1 ∷ 0 ∷ []) $ fjoin ! $ join ! $
        nothing ! $ move ! (2 ∷ 0 ∷ []) $ join ! $ join ! $ done !))))))))
