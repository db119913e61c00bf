-- `reach` lends what lies in the box, and the loose side follows it. Assumes `Logic`.
use Rattle.std.proofs.Common.{◌≡◌, ℕ, List, [], ◌∷◌, refl, sym, subst, Bool, true}
use seplogic.Ra.Ura.{Ura}
use mir.Syntax.{Fn, Callee, seq, block, assign, place, rv_opd, copy, addr_of, deref, field, return}
use mir.Syntax.{local, value_local, named, erased, mut, ty_ref, ty_ptr}
use mir.Raw.{raw as bare}
use mir.Val.{Val, vptr}
use base.Fraction.{full_share}
use base.Logic.{SProp, ent, sep, never, fst∗}
use base.Stored.{Gv}
use base.Fml.{Lft, GName, Share, Fml, ftrue, fsep, flft, fobs, fauth, fbor, fobor}
use prog.Model.{Model}
use prog.Wp.{Closed}
use types.Logic.{Logic, sem}
use types.SemTy.{Body}
use contract.Monad.{fact}
use contract.Running.{Running, tables}
use types.Kit.{Goal, Soaks, Seq, Item, ‵, raw, ◌⊛◌, some, later, at_ret, ◌$◌, ◌∵◌, !, qed, by, move, keep, drop, use1, join, split, pick}
use types.Kit.{fsplit, fsplit3, fjoin, fpack, rewrite, suffices, frame, await, group, done}
use types.Part.{whole, sub, look_in}
use types.Run.{stop, fld, load, of_opd, first, blocks, exec, returns, enter, addr}
use types.ByLocal.{alloc_all, pass_all, free_all, look_at, get, through, sets, sets_last, env}
use denote.RattleType.{owns}
use denote.Memory.{part_at, mem, cell_at, part_of}
use denote.RawPtr.{Ptr, block_ptr, null_ptr, in_a_block}
use denote.Ref.{MutRef, mut_vals, mut_Tells}
use denote.Signature.{Slot, Signature, plain}
use denote.Builtin.{RefMutOf}
use denote.Param.{layout}
use denote.Exit.{no}
use denote.Follow.{follows, Part, lends_Part}
use denote.Steps.{opens, nothing, heard}
use denote.Triple.Clauses.{Ended, Clauses, closing}
use denote.Triple.Spec.{Meets}
use denote.Triple.Walked.{says, Stays, stay_dropped, walk_of, ends_at, Goes-spent_ref}
use Rattle.std.proofs.raw_atomic.Walks.{proved}
use Rattle.std.specs.Borrow.{Lends}
use Rattle.std_alloc.proofs.VecSteps.Shapes.{after}
use Rattle.std_alloc.proofs.BoxSteps.Form.{τ}
use Rattle.c_handles.specs.Loosely.{chunk, loosely}
use Rattle.c_handles.proofs.AnyLoose.{Kind, S, E, L, at_word, held_ty, written_ty, loose_out, made_in}

module _ (J : Kind) where
  abbrev with_side : J.own.D → J.row.Denot → J.own.D
  with_side d s = J.loose (J.at d) (J.full d) s

  abbrev From : Slot 1
  From = RefMutOf (0 ∷ []) tt (plain (λ _. L J)) (λ _. tt)

  abbrev signature : Signature
  signature = record { lifetimes = 1; outlives = []; params = From ∷ []; result = RefMutOf (0 ∷ []) tt (plain (λ _. (S J))) (λ _. tt) }

  abbrev ended : Ended
  ended = record { signature = signature; kept = (no, tt) }

  abbrev fn : Fn
  fn = record {
    lifetimes = 1;
    outlives = [];
    ty_params = [];
    givens = 0;
    params = 1;
    locals = local (ty_ref (named 0) mut J.written) value_local ∷ local (ty_ref (named 0) mut (written_ty J)) value_local
        ∷ local (ty_ref erased mut J.written) value_local ∷ local ty_ptr value_local ∷ local ty_ptr value_local ∷ [];
    body = seq (block (seq (assign (place 3 []) (rv_opd (copy (place 1 (deref (held_ty J) ∷ field 0 ∷ [])))))
        (seq (assign (place 4 []) (rv_opd (copy (place 3 [])))) (assign (place 2 []) (addr_of (place 4 (deref (layout J.row) ∷ [])))))))
        (seq (assign (place 0 []) (rv_opd (copy (place 2 [])))) return);
  }

  abbrev stayed : Stays ended.signature.params ended.kept
  stayed = (stay_dropped From no, tt)

  -- all of the loose side but the side
  abbrev Rest : ℕ → ℕ → ℕ → ℕ → Fml
  Rest rb ro b o = fsep (chunk (bare (τ (E J))) (block_ptr b o)) (cell_at full_share (L J).mir (at_word (block_ptr b o) ∷ []) rb ro)

  module _ {M : Type 1} {𝓤 : Ura M} {𝓛 : Logic 𝓤} {K : Type 0} {Γ : List (Item 𝓤)} {G : Goal 𝓤 𝓛.H} where
    pub loose_opens : K → Soaks G → {κ : Lft} {q : Share} {γ : GName} (d : J.own.D) (rb ro : ℕ) → J.full d ≡ true
        → ((b o : ℕ) → J.at d ≡ block_ptr b o
        → Seq K 𝓛 (‵ (part_at (S J) full_share (J.side d) b o) ∷ ‵ (chunk (bare (τ (E J))) (block_ptr b o))
        ∷ ‵ (cell_at full_share (L J).mir (at_word (block_ptr b o) ∷ []) rb ro)
        ∷ ‵ (fobor κ q (Body (mem (L J)) rb ro γ)) ∷ ‵ (fobs γ ((L J).coded.code d)) ∷ ‵ (fauth γ ((L J).coded.code d)) ∷ Γ) G)
        → Seq K 𝓛 (‵ (fobs γ ((L J).coded.code d)) ∷ ‵ (fbor κ (Body (mem (L J)) rb ro γ)) ∷ ‵ (flft κ q) ∷ Γ) G
    loose_opens t z d rb ro full k =
        opens t z (L J) {h = d} rb ro (λ vs. move t (1 ∷ []) $ loose_out J t d vs (λ ws.
        rewrite t 0 (λ (y : Bool). ‵ (loosely (S J) y (J.at d) (J.side d))) full refl $
        in_a_block t (J.at d) (λ p. loosely (S J) true p (J.side d)) (fst∗ 𝓤 (never 𝓤) (sem 𝓛 (chunk (bare (τ (E J))) null_ptr))) (λ b o e.
        fsplit t $
        let at : vs ≡ at_word (block_ptr b o) ∷ [] = subst (λ (p : Ptr). vs ≡ at_word p ∷ []) e ws in
        rewrite t 2 (λ (us : List Val). ‵ (cell_at full_share (L J).mir us rb ro)) at refl $ k b o e)))

  module _ {M : Type 1} {𝓤 : Ura M} (𝓛 : Logic 𝓤) (d : J.own.D) (rb ro b o : ℕ) where
    back : J.full d ≡ true → J.at d ≡ block_ptr b o → (w : J.row.Denot)
        → ent 𝓤 (sep 𝓤 (sem 𝓛 ((mem (S J)).own_at w b o)) (sem 𝓛 (Rest rb ro b o))) (sem 𝓛 ((mem (L J)).own_at (with_side d w) rb ro))
    unfolding part_of
    back full at_b w =
        qed 𝓛 (‵ (part_at (S J) full_share w b o) ∷ ‵ (Rest rb ro b o) ∷ []) ∵ move ! (1 ∷ []) $ fsplit ! $
        move ! (2 ∷ 0 ∷ []) $ fjoin ! $
        rewrite ! 0 (λ (p : Ptr). ‵ (loosely (S J) true p w)) (sym at_b) refl $
        rewrite ! 0 (λ (y : Bool). ‵ (loosely (S J) y (J.at d) w)) (sym full) refl $
        made_in J ! (J.at d) (J.full d) w $ move ! (1 ∷ []) $
        rewrite ! 0 (λ (p : Ptr). ‵ (cell_at full_share (L J).mir (at_word p ∷ []) rb ro)) (sym at_b) refl $ fjoin ! $
        fpack ! (List Val) (λ us. fsep (cell_at full_share (L J).mir us rb ro) ((L J).own_val (with_side d w) us)) (at_word (J.at d) ∷ []) $
        done !

  module _ {M : Type 1} {𝓤 : Ura M} (𝓛 : Logic 𝓤) where
    abbrev clauses : Clauses 𝓤 ended
    clauses κs a = record {
      ghost = Unit {0};
      requires = λ g. fact 𝓤 (J.full a.0.now ≡ true);
      ensures = λ g r e. sep 𝓤 (sem 𝓛 (Lends (L J) (S J) a.0 r (with_side a.0.now))) (fact 𝓤 (r.now ≡ J.side a.0.now));
    }

    pub reach_any : (𝓜 : Model 𝓤 𝓛.H) (𝓡 : Running 𝓤 𝓛.H 𝓜) {k : Callee}
        → Closed 𝓤 𝓛.H (tables 𝓤 𝓛.H 𝓜 𝓡 𝓡.env).C (tables 𝓤 𝓛.H 𝓜 𝓡 𝓡.env).Λ k fn
        → Meets 𝓛 signature ((tables 𝓤 𝓛.H 𝓜 𝓡 𝓡.env).C k) (closing 𝓛 ended clauses)
    reach_any 𝓜 𝓡 {k} closed =
        let 𝓣 = tables 𝓤 𝓛.H 𝓜 𝓡 𝓡.env in
        proved 𝓛 ended stayed clauses 𝓜 𝓡 (Goes-spent_ref 𝓛 1 (0 ∷ []) tt (plain (λ _. L J)), tt) k fn closed
        (λ κs. (mut_vals, tt)) (λ κs. (mut_Tells (named 0) κs.0 (L J), tt)) (λ κs qs bounds a g are.
        let κ : Lft = κs.0 in let q : Share = qs.0 in let d : J.own.D = a.0.now in
        let rb : ℕ = a.0.ref_ptr.0 in let ro : ℕ = a.0.ref_ptr.1 in let γ : GName = a.0.ghost_name in
        let y : (walk_of 𝓛 ended stayed clauses).Ghost = ((κs, qs, bounds, a, (vptr rb ro ∷ [], tt)), g) in
        let Post : Val → SProp 𝓤 = (walk_of 𝓛 ended stayed clauses).post y in
        let Lent : Item 𝓤 = ‵ (owns (MutRef (named 0) κ (L J) ∷ []) a (vptr rb ro ∷ [], tt)) in
        qed 𝓛 (((‵ (flft κ q) ⊛ ‵ ftrue) ⊛ Lent) ∷ raw (fact 𝓤 (J.full d ≡ true)) ∷ []) ∵
        move ! (1 ∷ []) $ heard ! (J.full d ≡ true) (λ full. split ! $
        enter ! 𝓣.C 𝓣.Λ fn (vptr rb ro ∷ []) Post $ alloc_all ! (λ l. pass_all ! refl ((tt, tt), tt) $ let En = env fn.locals l in
        move ! (1 ∷ []) $ fsplit ! $ fsplit3 ! $ drop ! $ move ! (3 ∷ []) $ split ! $ move ! (2 ∷ 3 ∷ 0 ∷ []) $
        loose_opens ! tt d rb ro full (λ b o at_b.
        first ! $ blocks ! $
        sets ! (of_opd ! (load ! (through ! refl (fld ! refl (stop !))) (look_in ! 2 (sub ! 0 refl (whole !))))) refl (tt, tt) $
        sets ! (of_opd ! (get ! refl)) refl (tt, tt) $
        sets_last ! (addr ! (through ! refl (stop !))) refl (tt, tt) $
        exec ! 𝓣.C 𝓣.Λ En (after 1 fn.body) (at_ret En Post) $ sets ! (of_opd ! (get ! refl)) refl (tt, tt) $
        move ! (1 ∷ 2 ∷ []) $ fjoin ! $ move ! (2 ∷ 3 ∷ 4 ∷ 1 ∷ 0 ∷ []) $ group ! 5 $
        let Else : SProp 𝓤 = sem 𝓛 (Rest rb ro b o) in let u : Gv = (L J).coded.code d in
        use1 𝓛 (later (some (λ (γ' : GName).
        raw (Part 𝓛 (L J) (S J) (with_side d) (named 0) κ q rb ro b o γ Else (back 𝓛 d rb ro b o full at_b) (J.side d) γ'))))
        (lends_Part 𝓛 (L J) (S J) (with_side d) (named 0) κ q rb ro b o γ Else (back 𝓛 d rb ro b o full at_b) u u (J.side d)) $
        await ! tt $ pick ! (λ γ'. returns ! (look_at ! 0 refl) $ free_all ! refl $ keep ! (0 ∷ []) $
        let r : (MutRef (named 0) κ (S J)).Denot = record { ref_ptr = (b, o); ghost_name = γ'; now = J.side d } in
        by ! (qed 𝓛 (‵ ((MutRef (named 0) κ (S J)).own_val r (vptr b o ∷ [])) ∷ ‵ (flft κ q)
        ∷ ‵ (follows (L J) (S J) γ γ' (with_side d)) ∷ []) ∵
        suffices ! _ (ends_at 𝓛 ended stayed clauses y (vptr b o) r (tt, tt) (tt, tt)) $
        nothing ! $ nothing ! $ fjoin ! $ join ! $ nothing ! $ move ! (2 ∷ 0 ∷ []) $ join ! $ join ! $ frame ! $ says ! refl $ done !))))))
