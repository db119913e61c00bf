-- What calls of a board's run know of each other: by the law of choices stamps rise along precedence, each record has its write, and of one
-- stamp there is one write, so one record.
use Rattle.std.proofs.Common.{◌≡◌, ℕ, ◌<◌, List, slice_get, Option, Some, refl, sym, ◌∙◌, ap, arith, subst, inl, inr}
use Rattle.std.specs.Prelude.{IsSomeAnd}
use Rattle.std.proofs.lemmas.Option.{same_Some}
use Rattle.history_core.specs.declared.history.Op.{Op}
use Rattle.history_core.specs.declared.history.Kind.TheVariants.{Write}
use Rattle.history_core.specs.Orders.{Precedes}
use Rattle.matrix_core.specs.declared.stamp.Stamp.{Stamp}
use Rattle.matrix_core.specs.declared.stamp.Stamped.{Stamped}
use Rattle.matrix_core.specs.Choices.{Choice, HasChoices, IsAtMost, IsChoiceOf, IsEarlier, IsIn}
use Rattle.matrix_core.specs.Stamps.{IsBelow, first_stamp}
use Rattle.matrix_core.proofs.choices.Rise.{have_writes, HasWrite, one_write_each, stamps_rise, tags_rise}
use Rattle.matrix_core.specs.Lines.{first_record}
use Rattle.board_history.specs.BoardRuns.{Called, Did, IsBoardRun}
use Rattle.board_history.specs.Histories.{ChoseFrom, IsOpOfCall, IsHistory}
use Rattle.board_history.proofs.Whole.{all_there, choices_there}

module _ {V : Type 0} where
  -- the choice of a call
  record Matches (ops : List (Op V)) (d : Choice V) (c : Called V) : Type 0 where
    op : Op V
    there : slice_get ops d.place ≡ Some op
    begins : op.starts ≡ c.begin
    ends : op.ends ≡ Some c.end
    kind : d.kind ≡ c.kind
    stamp : d.stamp ≡ c.chosen.stamp
    item : d.item ≡ c.chosen.item

  same_record : (a b : Stamped V) → a.stamp ≡ b.stamp → a.item ≡ b.item → a ≡ b
  same_record a b s i = ap (λ (z : Stamp × V). record { stamp = z.0; item = z.1 }) (λ k. (s k, i k))

  precedes : (a b : Op V) (end begin : ℕ) → a.ends ≡ Some end → b.starts ≡ begin → end < begin → Precedes a b
  precedes a b end begin e s l = subst (λ o. IsSomeAnd o (λ z. z < b.starts)) (sym e) (subst (λ z. end < z) (sym s) l)

module _ {V : Type 0} (width n limit : ℕ) (opening : V) (steps : List ℕ) (did : ℕ → Did V)
    (run : IsBoardRun width n limit (first_record opening) steps did) (ops : List (Op V)) (stamps : List (Option Stamp))
    (h : IsHistory n did ops stamps) (choices : List (Choice V)) (x : HasChoices opening limit ops stamps choices) where
  matches : (i k : ℕ) (c : Called V) (op : Op V) (stamp : Option Stamp) (d : Choice V) → slice_get (did i).calls k ≡ Some c → op.who ≡ i →
      IsOpOfCall n did op stamp k → slice_get ops d.place ≡ Some op → slice_get stamps d.place ≡ Some stamp → IsChoiceOf ops stamps d →
      Matches ops d c
  matches i k c op stamp d e who call at stamp_at is =
      let made : call.call ≡ c = same_Some call.call c (sym call.made ∙ ap (λ j. slice_get (did j).calls k) who ∙ e) in
      let same : is.op ≡ op = same_Some is.op op (sym is.there ∙ at) in
      record {
        op = op;
        there = at;
        begins = call.begins ∙ ap (λ z. z.begin) made;
        ends = call.ends ∙ ap (λ z. Some z.end) made;
        kind = sym is.same_kind ∙ ap (λ z. z.kind) same ∙ call.kind ∙ ap (λ z. z.kind) made;
        stamp = same_Some d.stamp c.chosen.stamp
            (same_Some (Some d.stamp) stamp (sym is.reported ∙ stamp_at) ∙ call.stamp ∙ ap (λ z. Some z.chosen.stamp) made);
        item = same_Some d.item c.chosen.item
            (sym (is.ended call.call.end (ap (λ z. z.ends) same ∙ call.ends)) ∙ ap (λ z. z.item) same ∙ call.item
            ∙ ap (λ z. Some z.chosen.item) made);
      }

  choice_of : (i k : ℕ) (c : Called V) → i < n → slice_get (did i).calls k ≡ Some c → (d : Choice V) × IsIn d choices × Matches ops d c
  choice_of i k c l e =
      let w = h.all i k c l e in
      let call : IsOpOfCall n did w.1 w.2 k = w.6 in
      let d = x.finished w.0 call.call.end w.1 w.3 call.ends in (
        d.0,
        d.1,
        matches i k c w.1 w.2 d.0 e w.5 call (ap (slice_get ops) d.2 ∙ w.3) (ap (slice_get stamps) d.2 ∙ w.4) (x.each d.0 d.1),
      )

  call_at : (d : Choice V) → IsIn d choices →
      (i : ℕ) × (k : ℕ) × (c : Called V) × (i < n) × (slice_get (did i).calls k ≡ Some c) × Matches ops d c
  call_at d m =
      let is = x.each d m in
      let w = h.each d.place is.op (Some d.stamp) is.there is.reported in
      let call : IsOpOfCall n did is.op (Some d.stamp) w.0 = w.1 in (
        is.op.who,
        w.0,
        call.call,
        call.who,
        call.made,
        matches is.op.who w.0 call.call is.op (Some d.stamp) d call.made refl call is.there is.reported is,
      )

  rise_by : (i j k m : ℕ) (c d : Called V) → i < n → j < n → slice_get (did i).calls k ≡ Some c → slice_get (did j).calls m ≡ Some d →
      c.end < d.begin → IsAtMost c.chosen.stamp d.chosen.stamp × (d.kind ≡ Write → IsBelow c.chosen.stamp d.chosen.stamp)
  rise_by i j k m c d li lj ec ed l =
      let a = choice_of i k c li ec in
      let b = choice_of j m d lj ed in
      let p : Matches ops a.0 c = a.2 in
      let q : Matches ops b.0 d = b.2 in
      let earlier : IsEarlier ops a.0 b.0 = (p.op, q.op, p.there, q.there, precedes p.op q.op c.end d.begin p.ends q.begins l) in
      let r = stamps_rise (IsEarlier ops) opening limit choices x.law a.0 b.0 a.1 b.1 earlier in (
        subst (λ (z : Stamp × Stamp). IsAtMost z.0 z.1) (λ k. (p.stamp k, q.stamp k)) r.0,
        λ w. subst (λ (z : Stamp × Stamp). IsBelow z.0 z.1) (λ k. (p.stamp k, q.stamp k)) (r.1 (q.kind ∙ w)),
      )

  -- no write has the opening's stamp
  no_first : (w : Choice V) → IsIn w choices → w.kind ≡ Write → w.stamp ≡ first_stamp → ⊥
  no_first w m k e =
      let tag : w.stamp.tag ≡ 0 = ap (λ (z : Stamp). z.tag) e in
      elim ((tags_rise (IsEarlier ops) opening limit choices x.law w m).1 k) [
        | inl one ↦ omega (arith, one, tag)
        | inr below ↦ let more = below.3 in omega (arith, more, tag)
      ]

  one_item : (s t : Stamp) (a b : V) → s ≡ t → HasWrite opening choices s a → HasWrite opening choices t b → a ≡ b
  one_item s t a b e (inl f) (inl g) = f.1 ∙ sym g.1
  one_item s t a b e (inl f) (inr w) = absurd (no_first w.0 w.1 w.2 (w.3 ∙ sym e ∙ f.0))
  one_item s t a b e (inr v) (inl g) = absurd (no_first v.0 v.1 v.2 (v.3 ∙ e ∙ g.0))
  one_item s t a b e (inr v) (inr w) =
      let same = one_write_each (IsEarlier ops) opening limit choices x.law v.0 w.0 v.1 w.1 v.2 w.2 (v.3 ∙ e ∙ sym w.3) in
      sym v.4 ∙ ap (λ (z : Choice V). z.item) same ∙ w.4

  agree_by : (i j k m : ℕ) (c d : Called V) → i < n → j < n → slice_get (did i).calls k ≡ Some c → slice_get (did j).calls m ≡ Some d →
      c.chosen.stamp ≡ d.chosen.stamp → c.chosen ≡ d.chosen
  agree_by i j k m c d li lj ec ed e =
      let a = choice_of i k c li ec in
      let b = choice_of j m d lj ed in
      let p : Matches ops a.0 c = a.2 in
      let q : Matches ops b.0 d = b.2 in
      let has = have_writes (IsEarlier ops) opening limit choices x.law in
      same_record c.chosen d.chosen e
      (sym p.item ∙ one_item a.0.stamp b.0.stamp a.0.item b.0.item (p.stamp ∙ e ∙ sym q.stamp) (has a.0 a.1) (has b.0 b.1) ∙ q.item)

  written_by : (i k : ℕ) (c : Called V) → i < n → slice_get (did i).calls k ≡ Some c → ChoseFrom n (first_record opening) did c
  written_by i k c l e =
      let a = choice_of i k c l e in
      let p : Matches ops a.0 c = a.2 in
      elim (have_writes (IsEarlier ops) opening limit choices x.law a.0 a.1) [
        | inl f ↦ inl (same_record c.chosen (first_record opening) (sym p.stamp ∙ f.0) (sym p.item ∙ f.1))
        | inr w ↦
            let v = call_at w.0 w.1 in
            let q : Matches ops w.0 v.2 = v.5 in
            inr (
              v.0,
              v.1,
              v.2,
              v.3,
              v.4,
              sym q.kind ∙ w.2,
              same_record c.chosen v.2.chosen (sym p.stamp ∙ sym w.3 ∙ q.stamp) (sym p.item ∙ sym w.4 ∙ q.item),
            )
      ]

module _ {V : Type 0} (width n limit : ℕ) (opening : V) (steps : List ℕ) (did : ℕ → Did V)
    (run : IsBoardRun width n limit (first_record opening) steps did) where
  pub calls_rise : (i j k m : ℕ) (c d : Called V) → i < n → j < n → slice_get (did i).calls k ≡ Some c →
      slice_get (did j).calls m ≡ Some d →
      c.end < d.begin → IsAtMost c.chosen.stamp d.chosen.stamp × (d.kind ≡ Write → IsBelow c.chosen.stamp d.chosen.stamp)
  calls_rise =
      let t = all_there width n limit opening steps did run in
      let x = choices_there width n limit opening steps did run t.0 t.1 t.3 in
      rise_by width n limit opening steps did run t.0 t.1 t.3 x.0 x.1

  pub calls_written : (i k : ℕ) (c : Called V) → i < n → slice_get (did i).calls k ≡ Some c → ChoseFrom n (first_record opening) did c
  calls_written =
      let t = all_there width n limit opening steps did run in
      let x = choices_there width n limit opening steps did run t.0 t.1 t.3 in
      written_by width n limit opening steps did run t.0 t.1 t.3 x.0 x.1

  -- of one stamp there is one record
  pub calls_agree : (i j k m : ℕ) (c d : Called V) → i < n → j < n → slice_get (did i).calls k ≡ Some c →
      slice_get (did j).calls m ≡ Some d →
      c.chosen.stamp ≡ d.chosen.stamp → c.chosen ≡ d.chosen
  calls_agree =
      let t = all_there width n limit opening steps did run in
      let x = choices_there width n limit opening steps did run t.0 t.1 t.3 in
      agree_by width n limit opening steps did run t.0 t.1 t.3 x.0 x.1
