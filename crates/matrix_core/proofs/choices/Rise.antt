-- What follows from the law of choices: by induction on the list, since what an operation saw was chosen before.
use Rattle.std.proofs.Common.{◌≡◌, ◌≢◌, ℕ, ◌+◌, ◌<◌, ◌≤◌, List, [], ◌∷◌, refl, sym, ◌∙◌, ap, subst, arith, ◌⊎◌, inl, inr}
use Rattle.history_core.specs.declared.history.Kind.{Kind}
use Rattle.history_core.specs.declared.history.Kind.TheVariants.{Write, Read, Refused}
use Rattle.matrix_core.specs.declared.stamp.Stamp.{Stamp}
use Rattle.matrix_core.specs.Choices.{AllChoose, Choice, Chooses, IsAtMost, ChoosesByKind, IsFrom, IsIn}
use Rattle.matrix_core.specs.ChoicesFollow.{HasOneWriteEach, HaveWrites, StampsRise, TagsRiseByOne}
use Rattle.matrix_core.specs.Stamps.{IsBelow, first_stamp}
use Rattle.matrix_core.proofs.choices.Stamps.{at_most_below, at_most_trans, below_itself, Fits}

module _ {R : Type 0} where
  -- what is chosen, by kind
  at_least : (limit : ℕ) (c : Choice R) (kind : Kind) (seen : Stamp) (item : R) →
      ChoosesByKind limit c kind seen item → IsAtMost seen c.stamp
  at_least limit c Write seen item h = let e : c.stamp.tag ≡ seen.tag + 1 = ap (λ s. s.tag) h.1 in inr (inl (omega arith))
  at_least limit c Read seen item h = inl (sym h.0)
  at_least limit c Refused seen item h = inl (sym h.1)

  above : (limit : ℕ) (c : Choice R) (kind : Kind) (seen : Stamp) (item : R) → ChoosesByKind limit c kind seen item →
      kind ≡ Write → IsBelow seen c.stamp
  above limit c Write seen item h w = let e : c.stamp.tag ≡ seen.tag + 1 = ap (λ s. s.tag) h.1 in inl (omega arith)
  above limit c Read seen item h w = cc
  above limit c Refused seen item h w = cc

  written_by : (limit : ℕ) (c : Choice R) (kind : Kind) (seen : Stamp) (item : R) → ChoosesByKind limit c kind seen item →
      kind ≡ Write → c.stamp.writer ≡ c.who
  written_by limit c Write seen item h w = ap (λ s. s.writer) h.1
  written_by limit c Read seen item h w = cc
  written_by limit c Refused seen item h w = cc

  chosen_fits : (limit : ℕ) (c : Choice R) (kind : Kind) (seen : Stamp) (item : R) → Fits seen → c.who < 18446744073709551616 →
      ChoosesByKind limit c kind seen item → Fits c.stamp
  chosen_fits limit c Write seen item f w h = let e : c.stamp.writer ≡ c.who = ap (λ s. s.writer) h.1 in omega arith
  chosen_fits limit c Read seen item f w h = let e : c.stamp.writer ≡ seen.writer = ap (λ s. s.writer) h.0 in omega arith
  chosen_fits limit c Refused seen item f w h = let e : c.stamp.writer ≡ seen.writer = ap (λ s. s.writer) h.1 in omega arith

  -- what is chosen is at least what was seen
  pub chosen_at_least : (limit : ℕ) (c : Choice R) (seen : Stamp) (item : R) →
      ChoosesByKind limit c c.kind seen item → IsAtMost seen c.stamp
  chosen_at_least limit c seen item h = at_least limit c c.kind seen item h

  from_fits : (opening : R) (past : List (Choice R)) (stamp : Stamp) (item : R) → ((c : Choice R) → IsIn c past → Fits c.stamp) →
      IsFrom opening past stamp item → Fits stamp
  from_fits opening past stamp item f (inl h) = let e : stamp.writer ≡ 0 = ap (λ s. s.writer) h.0 in omega arith
  from_fits opening past stamp item f (inr h) = subst Fits h.2 (f h.0 h.1)

module _ {R : Type 0} (Earlier : Choice R → Choice R → Type 0) (opening : R) (limit : ℕ) where
  -- the writers of the stamps fit
  pub all_fit : (choices : List (Choice R)) → AllChoose Earlier opening limit choices → (c : Choice R) → IsIn c choices → Fits c.stamp
  all_fit [] ok c m = absurd m
  all_fit (d ∷ past) ok c (inl here) =
      subst (λ (z : Choice R). Fits z.stamp) (sym here)
      (chosen_fits limit d d.kind ok.0.seen ok.0.seen_item (from_fits opening past ok.0.seen ok.0.seen_item (all_fit past ok.1) ok.0.from)
      ok.0.writer ok.0.chosen)
  all_fit (d ∷ past) ok c (inr there) = all_fit past ok.1 c there

  rise_to : (past : List (Choice R)) (c d : Choice R) → Chooses Earlier opening limit past d → IsIn c past → Earlier c d →
      IsAtMost c.stamp d.stamp × (d.kind ≡ Write → IsBelow c.stamp d.stamp)
  rise_to past c d o m e =
      let l : IsAtMost c.stamp o.seen = o.earlier c m e in (
        at_most_trans c.stamp o.seen d.stamp l (at_least limit d d.kind o.seen o.seen_item o.chosen),
        λ w. at_most_below c.stamp o.seen d.stamp l (above limit d d.kind o.seen o.seen_item o.chosen w),
      )

  pub stamps_rise : (choices : List (Choice R)) → AllChoose Earlier opening limit choices → StampsRise Earlier choices
  stamps_rise [] ok c d mc md e = absurd mc
  stamps_rise (x ∷ past) ok c d (inl ec) (inl ed) e = absurd (ok.0.interval (subst (λ z. Earlier x z) ed (subst (λ z. Earlier z d) ec e)))
  stamps_rise (x ∷ past) ok c d (inl ec) (inr md) e = absurd (ok.0.not_later d md (subst (λ z. Earlier z d) ec e))
  stamps_rise (x ∷ past) ok c d (inr mc) (inl ed) e =
      subst (λ (z : Choice R). IsAtMost c.stamp z.stamp × (z.kind ≡ Write → IsBelow c.stamp z.stamp)) (sym ed)
      (rise_to past c x ok.0 mc (subst (λ z. Earlier c z) ed e))
  stamps_rise (x ∷ past) ok c d (inr mc) (inr md) e = stamps_rise past ok.1 c d mc md e

  -- a write's stamp names its process
  pub writes_own : (choices : List (Choice R)) → AllChoose Earlier opening limit choices → (c : Choice R) → IsIn c choices →
      c.kind ≡ Write → c.stamp.writer ≡ c.who
  writes_own [] ok c m w = absurd m
  writes_own (x ∷ past) ok c (inl here) w =
      let P : Choice R → Type 0 = λ z. z.kind ≡ Write → z.stamp.writer ≡ z.who in
      subst P (sym here) (written_by limit x x.kind ok.0.seen ok.0.seen_item ok.0.chosen) w
  writes_own (x ∷ past) ok c (inr there) w = writes_own past ok.1 c there w

  -- a write's stamp is none of the writes before
  new_stamp : (past : List (Choice R)) (c d : Choice R) → AllChoose Earlier opening limit past → Chooses Earlier opening limit past c →
      IsIn d past → c.kind ≡ Write → d.kind ≡ Write → c.stamp ≢ d.stamp
  new_stamp past c d ok o m cw dw same =
      let a : c.stamp.writer ≡ c.who = written_by limit c c.kind o.seen o.seen_item o.chosen cw in
      let b : d.stamp.writer ≡ d.who = writes_own past ok d m dw in
      let s : c.stamp.writer ≡ d.stamp.writer = ap (λ z. z.writer) same in
      let l : IsAtMost d.stamp o.seen = o.own d m (omega arith) in
      let g : IsBelow d.stamp c.stamp = at_most_below d.stamp o.seen c.stamp l (above limit c c.kind o.seen o.seen_item o.chosen cw) in
      below_itself d.stamp (subst (λ z. IsBelow d.stamp z) same g)

  pub one_write_each : (choices : List (Choice R)) → AllChoose Earlier opening limit choices → HasOneWriteEach choices
  one_write_each [] ok c d mc md cw dw same = absurd mc
  one_write_each (x ∷ past) ok c d (inl ec) (inl ed) cw dw same = ec ∙ sym ed
  one_write_each (x ∷ past) ok c d (inl ec) (inr md) cw dw same =
      let xw : x.kind ≡ Write = sym (ap (λ z. z.kind) ec) ∙ cw in
      let xs : x.stamp ≡ d.stamp = sym (ap (λ z. z.stamp) ec) ∙ same in
      absurd (new_stamp past x d ok.1 ok.0 md xw dw xs)
  one_write_each (x ∷ past) ok c d (inr mc) (inl ed) cw dw same =
      let xw : x.kind ≡ Write = sym (ap (λ z. z.kind) ed) ∙ dw in
      let xs : x.stamp ≡ c.stamp = sym (ap (λ z. z.stamp) ed) ∙ sym same in
      absurd (new_stamp past x c ok.1 ok.0 mc xw cw xs)
  one_write_each (x ∷ past) ok c d (inr mc) (inr md) cw dw same = one_write_each past ok.1 c d mc md cw dw same

module _ {R : Type 0} where
  -- the record of a stamp: the opening, or a write's
  abbrev pub HasWrite : R → List (Choice R) → Stamp → R → Type 0
  HasWrite opening choices stamp item =
      ((stamp ≡ first_stamp) × (item ≡ opening))
      ⊎ ((w : Choice R) × IsIn w choices × (w.kind ≡ Write) × (w.stamp ≡ stamp) × (w.item ≡ item))

  has_more : (opening : R) (c : Choice R) (choices : List (Choice R)) (stamp : Stamp) (item : R) → HasWrite opening choices stamp item →
      HasWrite opening (c ∷ choices) stamp item
  has_more opening c choices stamp item (inl h) = inl h
  has_more opening c choices stamp item (inr h) = inr (h.0, inr h.1, h.2, h.3, h.4)

  has_same : (opening : R) (choices : List (Choice R)) (s t : Stamp) (x y : R) → s ≡ t → x ≡ y → HasWrite opening choices s x →
      HasWrite opening choices t y
  has_same opening choices s t x y es ex (inl h) = inl (sym es ∙ h.0, sym ex ∙ h.1)
  has_same opening choices s t x y es ex (inr h) = inr (h.0, h.1, h.2, h.3 ∙ es, h.4 ∙ ex)

  pub from_has : (opening : R) (choices : List (Choice R)) (stamp : Stamp) (item : R) → HaveWrites opening choices →
      IsFrom opening choices stamp item → HasWrite opening choices stamp item
  from_has opening choices stamp item have (inl h) = inl h
  from_has opening choices stamp item have (inr h) = has_same opening choices h.0.stamp stamp h.0.item item h.2 h.3 (have h.0 h.1)

  chosen_has : (opening : R) (limit : ℕ) (past : List (Choice R)) (c : Choice R) (kind : Kind) (seen : Stamp) (item : R) → c.kind ≡ kind →
      HasWrite opening past seen item → ChoosesByKind limit c kind seen item → HasWrite opening (c ∷ past) c.stamp c.item
  chosen_has opening limit past c Write seen item k has h = inr (c, inl refl, k, refl, refl)
  chosen_has opening limit past c Read seen item k has h =
      has_more opening c past c.stamp c.item (has_same opening past seen c.stamp item c.item (sym h.0) (sym h.1) has)
  chosen_has opening limit past c Refused seen item k has h =
      has_more opening c past c.stamp c.item (has_same opening past seen c.stamp item c.item (sym h.1) (sym h.2) has)

  -- what a choice says of the tags
  abbrev HasTagBelow : List (Choice R) → ℕ → Type 0
  HasTagBelow choices tag = (tag ≡ 1) ⊎ ((w : Choice R) × IsIn w choices × (w.kind ≡ Write) × (w.stamp.tag + 1 ≡ tag))

  abbrev HasTag : ℕ → List (Choice R) → Choice R → Type 0
  HasTag limit choices c = (c.kind ≡ Refused → limit ≤ c.stamp.tag) × (c.kind ≡ Write → HasTagBelow choices c.stamp.tag)

  tag_more : (c : Choice R) (choices : List (Choice R)) (tag : ℕ) → HasTagBelow choices tag → HasTagBelow (c ∷ choices) tag
  tag_more c choices tag (inl h) = inl h
  tag_more c choices tag (inr h) = inr (h.0, inr h.1, h.2, h.3)

  tag_after : (opening : R) (past : List (Choice R)) (seen : Stamp) (item : R) (tag : ℕ) → tag ≡ seen.tag + 1 →
      HasWrite opening past seen item → HasTagBelow past tag
  tag_after opening past seen item tag e (inl h) = let z : seen.tag ≡ 0 = ap (λ s. s.tag) h.0 in inl (omega arith)
  tag_after opening past seen item tag e (inr h) =
      let z : h.0.stamp.tag ≡ seen.tag = ap (λ s. s.tag) h.3 in
      inr (h.0, h.1, h.2, omega arith)

  chosen_tag : (opening : R) (limit : ℕ) (past : List (Choice R)) (c : Choice R) (kind : Kind) (seen : Stamp) (item : R) →
      HasWrite opening past seen item → ChoosesByKind limit c kind seen item →
      (kind ≡ Refused → limit ≤ c.stamp.tag) × (kind ≡ Write → HasTagBelow (c ∷ past) c.stamp.tag)
  chosen_tag opening limit past c Write seen item has h =
      (λ k. cc, λ w. tag_more c past c.stamp.tag (tag_after opening past seen item c.stamp.tag (ap (λ s. s.tag) h.1) has))
  chosen_tag opening limit past c Read seen item has h = (λ k. cc, λ w. cc)
  chosen_tag opening limit past c Refused seen item has h =
      (λ k. let e : c.stamp.tag ≡ seen.tag = ap (λ s. s.tag) h.1 in let l : limit ≤ seen.tag = h.0 in omega arith, λ w. cc)

module _ {R : Type 0} (Earlier : Choice R → Choice R → Type 0) (opening : R) (limit : ℕ) where
  pub have_writes : (choices : List (Choice R)) → AllChoose Earlier opening limit choices → HaveWrites opening choices
  have_writes [] ok c m = absurd m
  have_writes (x ∷ past) ok c (inl here) =
      subst (λ (z : Choice R). HasWrite opening (x ∷ past) z.stamp z.item) (sym here)
      (chosen_has opening limit past x x.kind ok.0.seen ok.0.seen_item refl
      (from_has opening past ok.0.seen ok.0.seen_item (have_writes past ok.1) ok.0.from) ok.0.chosen)
  have_writes (x ∷ past) ok c (inr there) = has_more opening x past c.stamp c.item (have_writes past ok.1 c there)

  pub tags_rise : (choices : List (Choice R)) → AllChoose Earlier opening limit choices → TagsRiseByOne limit choices
  tags_rise [] ok c m = absurd m
  tags_rise (x ∷ past) ok c (inl here) =
      subst (λ z. HasTag limit (x ∷ past) z) (sym here)
      (chosen_tag opening limit past x x.kind ok.0.seen ok.0.seen_item
      (from_has opening past ok.0.seen ok.0.seen_item (have_writes past ok.1) ok.0.from) ok.0.chosen)
  tags_rise (x ∷ past) ok c (inr there) =
      let h : HasTag limit past c = tags_rise past ok.1 c there in
      (h.0, λ w. tag_more x past c.stamp.tag (h.1 w))
