-- From the law of answers to the law of choices: what an operation saw is from the past, since its number is that of a choice
-- of the past; and not too old, since the stamps of one process never fall.
use Rattle.std.proofs.Common.{◌≡◌, ◌≢◌, ℕ, zero, suc, ◌+◌, ◌<◌, ◌≤◌, List, [], ◌∷◌, ◌++◌, length, slice_get, Option, None, Some, true}
use Rattle.std.proofs.Common.{false, nat_eq, refl, sym, subst, ◌∙◌, ap, arith, inl, inr}
use Rattle.std.specs.Prelude.{if◌then◌else◌}
use Rattle.std.specs.Option.{option_map}
use Rattle.std.proofs.lemmas.Bool.{cases_eq}
use Rattle.std.proofs.lemmas.Bool.Decides.{nat_tests}
use Rattle.std.proofs.lemmas.Option.{none-some, same_Some, slice_get_within}
use Rattle.matrix_core.specs.declared.stamp.Stamped.{Stamped}
use Rattle.matrix_core.specs.Lines.{first_record, other}
use Rattle.matrix_core.specs.Choices.{AllChoose, Choice, Chooses, IsAtMost, IsFrom, IsIn}
use Rattle.matrix_core.specs.Stamps.{greater, greatest}
use Rattle.matrix_core.specs.Gathering.{AllGather, choices_of, Gathers, IsCellAnswer, numbered, record_of}
use Rattle.matrix_core.proofs.lines.Others.{other_reached}
use Rattle.matrix_core.proofs.choices.Rise.{chosen_at_least}
use Rattle.matrix_core.proofs.choices.Stamps.{at_most_refl, at_most_trans, greater_first, greater_is, greater_second}
use Rattle.matrix_core.proofs.lists.Elements.{get_exists}
use Rattle.four_slot_core.proofs.Pushed.{get_cases, get_before, get_last}

some_mapped : {A B : Type 0} (f : A → B) (o : Option A) (x : B) → option_map f o ≡ Some x → (y : A) × (o ≡ Some y) × (f y ≡ x)
some_mapped f None x e = cc
some_mapped f (Some y) x e = (y, refl, cc)

module _ {R : Type 0} where
  -- the choices of a process after one more choice
  pub mine_more : (i : ℕ) (c : Choice R) (past : List (Choice R)) → c.who ≡ i → choices_of i (c ∷ past) ≡ choices_of i past ++ c ∷ []
  mine_more i c past e =
      let t : nat_eq c.who i ≡ true = grind (arith, nat_tests) in
      ap (λ b. if b then choices_of i past ++ c ∷ [] else choices_of i past) t

  pub mine_same : (i : ℕ) (c : Choice R) (past : List (Choice R)) → c.who ≢ i → choices_of i (c ∷ past) ≡ choices_of i past
  mine_same i c past e =
      let t : nat_eq c.who i ≡ false = grind (arith, nat_tests) in
      ap (λ b. if b then choices_of i past ++ c ∷ [] else choices_of i past) t

  -- each of them is a choice of this process
  pub mine_in : (i : ℕ) (past : List (Choice R)) (k : ℕ) (d : Choice R) → slice_get (choices_of i past) k ≡ Some d →
      IsIn d past × (d.who ≡ i)
  mine_in i [] k d h = absurd (none-some d h)
  mine_in i (c ∷ past) k d h = elim (cases_eq c.who i) [
    | inl e ↦ elim (get_cases (choices_of i past) c k d (ap (λ xs. slice_get xs k) (sym (mine_more i c past e)) ∙ h)) [
      | inl old ↦ let w = mine_in i past k d old in (inr w.0, w.1)
      | inr new ↦ (inl new.1, ap (λ (z : Choice R). z.who) new.1 ∙ e)
    ]
    | inr ne ↦ let w = mine_in i past k d (ap (λ xs. slice_get xs k) (sym (mine_same i c past ne)) ∙ h) in (inr w.0, w.1)
  ]

  -- and each choice of this process is one of them
  pub in_mine : (past : List (Choice R)) (d : Choice R) → IsIn d past → (k : ℕ) × (slice_get (choices_of d.who past) k ≡ Some d)
  in_mine [] d m = absurd m
  in_mine (c ∷ past) d (inl here) =
      let at : slice_get (choices_of d.who past ++ d ∷ []) (length (choices_of d.who past)) ≡ Some d =
      get_last (choices_of d.who past) d (length (choices_of d.who past)) refl in
      let w : c.who ≡ d.who = ap (λ (z : Choice R). z.who) (sym here) in (
        length (choices_of d.who past),
        ap (λ xs. slice_get xs (length (choices_of d.who past)))
            (mine_more d.who c past w ∙ ap (λ z. choices_of d.who past ++ z ∷ []) (sym here)) ∙ at,
      )
  in_mine (c ∷ past) d (inr there) =
      let w = in_mine past d there in
      elim (cases_eq c.who d.who) [
        | inl e ↦ (w.0, ap (λ xs. slice_get xs w.0) (mine_more d.who c past e) ∙ get_before (choices_of d.who past) c w.0 d w.1)
        | inr ne ↦ (w.0, ap (λ xs. slice_get xs w.0) (mine_same d.who c past ne) ∙ w.1)
      ]

module _ {R : Type 0} (Earlier : Choice R → Choice R → Type 0) (opening : R) (limit n : ℕ) where
  -- a new choice is at least each of its process's before
  above_own : (past : List (Choice R)) (c d : Choice R) → Chooses Earlier opening limit past c → IsIn d past → d.who ≡ c.who →
      IsAtMost d.stamp c.stamp
  above_own past c d o m w = at_most_trans d.stamp o.seen c.stamp (o.own d m w) (chosen_at_least limit c o.seen o.seen_item o.chosen)

  -- the stamps of one process never fall
  pub mine_rise : (i : ℕ) (past : List (Choice R)) → AllChoose Earlier opening limit past → (k m : ℕ) (d e : Choice R) →
      slice_get (choices_of i past) k ≡ Some d → slice_get (choices_of i past) m ≡ Some e → k ≤ m → IsAtMost d.stamp e.stamp
  mine_rise i [] ok k m d e hd he le = absurd (none-some d hd)
  mine_rise i (c ∷ past) ok k m d e hd he le = elim (cases_eq c.who i) [
    | inl w ↦
        let mine : List (Choice R) = choices_of i past in
        let is = mine_more i c past w in
        let hd' : slice_get (mine ++ c ∷ []) k ≡ Some d = ap (λ xs. slice_get xs k) (sym is) ∙ hd in
        let he' : slice_get (mine ++ c ∷ []) m ≡ Some e = ap (λ xs. slice_get xs m) (sym is) ∙ he in
        elim (get_cases mine c k d hd') [
          | inl od ↦ elim (get_cases mine c m e he') [
            | inl oe ↦ mine_rise i past ok.1 k m d e od oe le
            | inr ne ↦
                let in_past = mine_in i past k d od in
                subst (λ (z : Choice R). IsAtMost d.stamp z.stamp) (sym ne.1) (above_own past c d ok.0 in_past.0 (in_past.1 ∙ sym w))
          ]
          | inr nd ↦ elim (get_cases mine c m e he') [
            | inl oe ↦ let l : m < length mine = slice_get_within mine m e oe in let kl : k ≡ length mine = nd.0 in absurd (omega arith)
            | inr ne ↦ inl (ap (λ (z : Choice R). z.stamp) (nd.1 ∙ sym ne.1))
          ]
        ]
    | inr nw ↦
        let is = mine_same i c past nw in
        mine_rise i past ok.1 k m d e (ap (λ xs. slice_get xs k) (sym is) ∙ hd) (ap (λ xs. slice_get xs m) (sym is) ∙ he) le
  ]

  -- the record with a number is the opening or of a choice of the past
  numbered_from : (i : ℕ) (past : List (Choice R)) (number : ℕ) (x : Stamped R) → numbered opening (choices_of i past) number ≡ Some x →
      IsFrom opening past x.stamp x.item
  numbered_from i past zero x h =
      let e : first_record opening ≡ x = same_Some (first_record opening) x h in
      inl (ap (λ (z : Stamped R). z.stamp) (sym e), ap (λ (z : Stamped R). z.item) (sym e))
  numbered_from i past (suc k) x h =
      let w = some_mapped record_of (slice_get (choices_of i past) k) x h in
      inr (w.0, (mine_in i past k w.0 w.1).0, ap (λ (z : Stamped R). z.stamp) w.2, ap (λ (z : Stamped R). z.item) w.2)

  -- and it is at least each choice of its process with a smaller number
  numbered_above : (i : ℕ) (past : List (Choice R)) → AllChoose Earlier opening limit past → (number k : ℕ) (x : Stamped R) (d : Choice R) →
      numbered opening (choices_of i past) number ≡ Some x
      → slice_get (choices_of i past) k ≡ Some d → k < number → IsAtMost d.stamp x.stamp
  numbered_above i past ok zero k x d h at lt = absurd (omega arith)
  numbered_above i past ok (suc m) k x d h at lt =
      let w = some_mapped record_of (slice_get (choices_of i past) m) x h in
      let r : IsAtMost d.stamp w.0.stamp = mine_rise i past ok k m d w.0 at w.1 (omega arith) in
      subst (λ (z : Stamped R). IsAtMost d.stamp z.stamp) w.2 r

  -- what holds of each of several records holds of the greatest of them
  greatest_is : (P : Stamped R → Type 0) (own : Stamped R) (answers : List (Stamped R)) → P own →
      ((k : ℕ) (x : Stamped R) → slice_get answers k ≡ Some x → P x) → P (greatest own answers)
  greatest_is P own [] o each = o
  greatest_is P own (x ∷ xs) o each = greatest_is P (greater own x) xs
      (elim (greater_is own x) [ inl e ↦ subst P (sym e) o | inr e ↦ subst P (sym e) (each 0 x refl) ]) (λ k y h. each (suc k) y h)

  -- and it is at least each of them
  greatest_first : (own : Stamped R) (answers : List (Stamped R)) → IsAtMost own.stamp (greatest own answers).stamp
  greatest_first own [] = at_most_refl own.stamp
  greatest_first own (x ∷ xs) = at_most_trans own.stamp (greater own x).stamp (greatest (greater own x) xs).stamp (greater_first own x)
      (greatest_first (greater own x) xs)

  greatest_each : (own : Stamped R) (answers : List (Stamped R)) (k : ℕ) (x : Stamped R) → slice_get answers k ≡ Some x →
      IsAtMost x.stamp (greatest own answers).stamp
  greatest_each own [] k x h = absurd (none-some x h)
  greatest_each own (y ∷ ys) zero x h =
      let e : y ≡ x = same_Some y x h in
      subst (λ (z : Stamped R). IsAtMost z.stamp (greatest (greater own y) ys).stamp) e
      (at_most_trans y.stamp (greater own y).stamp (greatest (greater own y) ys).stamp (greater_second own y)
      (greatest_first (greater own y) ys))
  greatest_each own (y ∷ ys) (suc k) x h = greatest_each (greater own y) ys k x h

  -- the newest record of a process is at least each choice of it
  newest_above : (past : List (Choice R)) (c d : Choice R) (own : Stamped R) → AllChoose Earlier opening limit past →
      numbered opening (choices_of c.who past) (length (choices_of c.who past)) ≡ Some own
      → IsIn d past → d.who ≡ c.who → IsAtMost d.stamp own.stamp
  newest_above past c d own ok newest m w =
      let at = in_mine past d m in
      let at' : slice_get (choices_of c.who past) at.0 ≡ Some d = ap (λ i. slice_get (choices_of i past) at.0) (sym w) ∙ at.1 in
      numbered_above c.who past ok (length (choices_of c.who past)) at.0 own d newest at'
      (slice_get_within (choices_of c.who past) at.0 d at')

  gathers_chooses : (past : List (Choice R)) (c : Choice R) → n ≤ 18446744073709551616 → AllChoose Earlier opening limit past →
      ((d : Choice R) → IsIn d past → d.who < n) → Gathers Earlier opening limit n past c → Chooses Earlier opening limit past c
  gathers_chooses past c small ok inside g =
      let seen : Stamped R = greatest g.own g.answers in
      let own_above : (d : Choice R) → IsIn d past → d.who ≡ c.who → IsAtMost d.stamp seen.stamp = λ d m w.
      at_most_trans d.stamp g.own.stamp seen.stamp (newest_above past c d g.own ok g.newest m w) (greatest_first g.own g.answers) in
      record {
        seen = seen.stamp;
        seen_item = seen.item;
        from = greatest_is (λ x. IsFrom opening past x.stamp x.item) g.own g.answers
            (numbered_from c.who past (length (choices_of c.who past)) g.own g.newest)
            (λ k x h. let a = g.answered k x h in numbered_from (other c.who k) past a.number x a.source);
        own = own_above;
        earlier = λ d m e. elim (cases_eq d.who c.who) [
          | inl w ↦ own_above d m w
          | inr nw ↦
              let o = other_reached n c.who d.who g.inside (inside d m) nw in
              let le : length g.answers + 1 ≡ n = g.each in
              let x = get_exists g.answers o.0 (let l : o.0 + 1 < n = o.1 in omega arith) in
              let a : IsCellAnswer (λ d. Earlier d c) opening (choices_of (other c.who o.0) past) x.0 = g.answered o.0 x.0 x.1 in
              let at = in_mine past d m in
              let at' : slice_get (choices_of (other c.who o.0) past) at.0 ≡ Some d =
              ap (λ i. slice_get (choices_of i past) at.0) o.2 ∙ at.1 in
              let r : IsAtMost d.stamp x.0.stamp =
              numbered_above (other c.who o.0) past ok a.number at.0 x.0 d a.source at' (a.late at.0 d at' e) in
              at_most_trans d.stamp x.0.stamp seen.stamp r (greatest_each g.own g.answers o.0 x.0 x.1)
        ];
        chosen = g.chosen;
        not_later = g.not_later;
        interval = g.interval;
        writer = let l : c.who < n = g.inside in omega arith;
      }

  all_inside : (choices : List (Choice R)) → AllGather Earlier opening limit n choices → (d : Choice R) → IsIn d choices → d.who < n
  all_inside [] g d m = absurd m
  all_inside (c ∷ past) g d (inl here) = subst (λ (z : Choice R). z.who < n) (sym here) g.0.inside
  all_inside (c ∷ past) g d (inr there) = all_inside past g.1 d there

  -- the law of choices
  pub all_choose : n ≤ 18446744073709551616 → (choices : List (Choice R)) → AllGather Earlier opening limit n choices →
      AllChoose Earlier opening limit choices
  all_choose small [] g = tt
  all_choose small (c ∷ past) g =
      let ok : AllChoose Earlier opening limit past = all_choose small past g.1 in
      (gathers_chooses past c small ok (all_inside past g.1) g.0, ok)
