-- A loose side over the row of any side: what it owns, and the box that it was. Assumes `Logic`.
use Rattle.std.proofs.Common.{◌≡◌, ℕ, List, [], ◌∷◌, ◌++◌, refl, sym, subst, Bool}
use mir.Syntax.{impl, Ty, ty_ptr, ty_named, ty_struct, tnil, tcons, dnil}
use mir.Val.{Val, vstruct, vcons, vnil, of_list}
use types.Kit.{Item, Goal, Seq, Step, step, ‵, ◌$◌, drop, fsplit, fjoin, fpick, fpack, feq_i, feq_l, rewrite}
use types.Logic.{Logic}
use seplogic.Ra.Ura.{Ura}
use base.Fml.{Fml}
use denote.Exit.{under, hidden}
use denote.Param.{layout}
use denote.Param.Laws.{Laws}
use denote.RattleType.{RattleType, Valss}
use denote.Builtin.{RawPtr}
use denote.RawPtr.{Ptr, ptr_val}
use denote.Steps.{nothing}
use denote.Struct.Field.{RawPtr-field, rows}
use denote.Struct.Values.{intos}
use denote.Struct.Struct.{within, exits_of}
use denote.Struct.Owning as Owns
use denote.Struct.Owning.{Owning, shape}
use Rattle.std_alloc.proofs.BoxSteps.Form.{Bx}
use Rattle.std_heap.specs.contracts.Global as Heap
use Rattle.std_heap.specs.contracts.GlobalAllocator.TheImpl.{ghosts, dict}
use Rattle.std_heap.proofs.Global.TheLaws as heap
use Rattle.c_handles.specs.Loosely.{loosely}
pub mod Reach
pub mod Take
pub mod Put
pub mod Send

-- a row whose type is one machine value
abbrev pub whole : RattleType → RattleType
whole R = record {
  Denot = R.Denot;
  mir = layout R ∷ [];
  written = R.written;
  reaches = R.reaches;
  lives = R.lives;
  own_val = R.own_val;
  exit = R.exit;
  coded = R.coded;
  shr_at = R.shr_at;
}

-- A side and its loose side: the side's row with its laws, and its type where a reference leads to it; what the loose side's module says of
-- it, its parts, and that it is made of them.
pub record Kind : Type 2 where
  pub row : RattleType
  pub laws : Laws (whole row)
  pub written : Ty
  pub own : Owning
  pub at : own.D → Ptr
  pub full : own.D → Bool
  pub side : own.D → row.Denot
  pub loose : Ptr → Bool → row.Denot → own.D
  pub made : (p : Ptr) (y : Bool) (x : row.Denot) → (at (loose p y x) ≡ p) × (full (loose p y x) ≡ y) × (side (loose p y x) ≡ x)

abbrev pub at_word : Ptr → Val
at_word p = vstruct (vcons (ptr_val p) vnil)

module _ (J : Kind) where
  abbrev pub S : RattleType
  S = whole J.row

  -- a box of the side
  abbrev pub E : Bx
  E = record {
    row = S;
    laws = J.laws;
    al = record { row = Heap.the_row; laws = heap.the_row_laws; g = ghosts; d = dict; drops = impl [] tnil dnil };
  }

  abbrev pub owning : Owning
  owning = record {
    name = J.own.name;
    args = [];
    types = [];
    parts = RawPtr-field ∷ [];
    D = J.own.D;
    as_values = λ d. (J.at d, tt);
    coded = J.own.coded;
    heap = λ d. loosely S (J.full d) (J.at d) (J.side d);
    exit = λ k. hidden (under (λ d. intos (RawPtr-field ∷ []) (J.at d, tt)) (exits_of k (rows (RawPtr-field ∷ []))));
    shr_at = J.own.shr_at;
  }

  abbrev pub L : RattleType
  L = Owns.row owning

  -- the loose side's type, held and where a reference leads to it
  abbrev pub held_ty : Ty
  held_ty = ty_struct J.own.name (tcons ty_ptr tnil)

  abbrev pub written_ty : Ty
  written_ty = ty_named (J.own.name, []) tnil

  abbrev pub owned : J.own.D → Fml
  owned d = loosely S (J.full d) (J.at d) (J.side d)

module _ (J : Kind) {M : Type 1} {𝓤 : Ura M} {𝓛 : Logic 𝓤} {K : Type 0} {Γ : List (Item 𝓤)} {G : Goal 𝓤 𝓛.H} where
  pub loose_out : K → (d : J.own.D) (vs : List Val)
      → (vs ≡ at_word (J.at d) ∷ [] → Seq K 𝓛 (‵ (owned J d) ∷ Γ) G)
      → Seq K 𝓛 (‵ ((L J).own_val d vs) ∷ Γ) G
  loose_out t d vs k =
      fsplit t $ fpick t (λ vss. fsplit t $ feq_l t (λ ev. fsplit t $ feq_l t (λ ep. drop t $ k
      (subst (λ (ps : List Val). vs ≡ vstruct (of_list (ps ++ [])) ∷ []) ep ev))))

  pub loose_in : K → (d : J.own.D) → Step K 𝓛 (‵ ((L J).own_val d (at_word (J.at d) ∷ [])) ∷ Γ) G (‵ (owned J d) ∷ Γ) G
  loose_in t d = step (λ s.
      nothing t $ feq_i t (List Val) (ptr_val (J.at d) ∷ []) (ptr_val (J.at d) ∷ []) refl $ fjoin t $
      feq_i t (List Val) (at_word (J.at d) ∷ []) (at_word (J.at d) ∷ []) refl $ fjoin t $
      fpack t (Valss (RawPtr ∷ [])) (within (shape (owning J)) (J.at d, tt) (at_word (J.at d) ∷ [])) (ptr_val (J.at d) ∷ [], tt) $
      fjoin t $ s)

  -- the same of one that is made of its parts
  pub made_in : K → (p : Ptr) (y : Bool) (x : J.row.Denot)
      → Step K 𝓛 (‵ ((L J).own_val (J.loose p y x) (at_word p ∷ [])) ∷ Γ) G (‵ (loosely (S J) y p x) ∷ Γ) G
  made_in t p y x = step (λ s. let d = J.loose p y x in
      rewrite t 0 (λ (z : J.row.Denot). ‵ (loosely (S J) y p z)) (sym (J.made p y x).2) refl $
      rewrite t 0 (λ (q : Ptr). ‵ (loosely (S J) y q (J.side d))) (sym (J.made p y x).0) refl $
      rewrite t 0 (λ (z : Bool). ‵ (loosely (S J) z (J.at d) (J.side d))) (sym (J.made p y x).1) refl $
      loose_in t d $
      rewrite t 0 (λ (q : Ptr). ‵ ((L J).own_val d (at_word q ∷ []))) (J.made p y x).0 refl $ s)
