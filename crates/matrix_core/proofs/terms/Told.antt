-- The operations of a term so far, with what they chose, for steps of any number in an operation: one begins, goes on, chooses or
-- ends. What each chose is known from elsewhere; no cell and no board stands here.
use Rattle.std.proofs.Common.{◌≡◌, ◌≢◌, ℕ, ◌+◌, ◌*◌, ◌<◌, ◌≤◌, List, [], ◌∷◌, ◌++◌, length, slice_get, Option, None, Some}
use Rattle.std.proofs.Common.{refl, sym, subst, ◌∙◌, ap, arith, inl, inr}
use Rattle.std.proofs.lemmas.Bool.{cases_eq, cases_lt}
use Rattle.std.proofs.lemmas.List.{length_push}
use Rattle.std.proofs.Math.Nat.{mul-le-mul_left}
use Rattle.std.proofs.lemmas.Option.{none-some, same_Some}
use Rattle.history_core.specs.declared.history.Op.{Op}
use Rattle.history_core.specs.declared.history.Kind.{Kind}
use Rattle.history_core.specs.declared.history.Kind.TheVariants.{Write, Refused}
use Rattle.history_core.specs.Schedules.{access_at, Follows, IsOperation, IsPlayed, planned, Span, steps_of}
use Rattle.history_core.proofs.Places.{get_last, get_pushed_cases, get_stays}
use Rattle.history_core.proofs.Played.{after, later_operation, begins, finishes, goes_on, IsPlayedSoFar, IsReplaced, IsUnderWay}
use Rattle.history_core.proofs.Played.{operation_once, replaced, same_operation_number}
use Rattle.history_core.proofs.Positions.{position_below, position_exists, position_made, position_once, position_stays, steps_mine}
use Rattle.history_core.proofs.Positions.{steps_other}
use Rattle.matrix_core.specs.declared.stamp.Stamp.{Stamp}
use Rattle.matrix_core.specs.declared.stamp.Stamped.{Stamped}
use Rattle.matrix_core.proofs.choices.ByAccesses.{step_event, steps_up}

module _ {R : Type 0} (at : ℕ) (span : Span R) (ch : ℕ) (high : ch + 1 < span.accesses) (chosen : ℕ → ℕ → Stamped R)
    (kind : ℕ → ℕ → Kind) where
  abbrev a : ℕ
  a = span.accesses

  abbrev Begins : List ℕ → ℕ → Op R → Type 0
  Begins done k op = access_at at (after span done) op.who k 0 ≡ Some op.starts

  -- what is told of operation k of its process, which has chosen, at place p
  pub record IsToldOf (stamps : List (Option Stamp)) (p k : ℕ) (op : Op R) : Type 0 where
    pub stamp : slice_get stamps p ≡ Some (Some (chosen op.who k).stamp)
    pub same_kind : op.kind ≡ kind op.who k
    pub item : op.kind ≡ Write → op.item ≡ Some (chosen op.who k).item

  pub record IsTold (done : List ℕ) (ops : List (Op R)) (stamps : List (Option Stamp)) (place : ℕ → ℕ) : Type 0 where
    pub played : IsPlayedSoFar at span done ops place
    pub long : length stamps ≡ length ops
    pub untold : (p k : ℕ) (op : Op R) → slice_get ops p ≡ Some op → Begins done k op → steps_of op.who done ≤ k * a + ch →
        slice_get stamps p ≡ Some None
    pub told : (p k : ℕ) (op : Op R) → slice_get ops p ≡ Some op → Begins done k op →
        k * a + ch < steps_of op.who done → IsToldOf stamps p k op
    pub unrefused : (p k : ℕ) (op : Op R) → slice_get ops p ≡ Some op → Begins done k op →
        steps_of op.who done ≤ k * a + ch → op.kind ≢ Refused
    pub unfinished : (p : ℕ) (op : Op R) → slice_get ops p ≡ Some op → op.ends ≡ None → op.kind ≢ Write → op.item ≡ None
    pub ended : (p k end : ℕ) (op : Op R) → slice_get ops p ≡ Some op → Begins done k op → op.ends ≡ Some end →
        op.item ≡ Some (chosen op.who k).item

  pub nothing_told : (place : ℕ → ℕ) → IsPlayedSoFar at span [] [] place → IsTold [] [] [] place
  nothing_told place h = record {
    played = h;
    long = refl;
    untold = λ p k op e. absurd (none-some op e);
    told = λ p k op e. absurd (none-some op e);
    unrefused = λ p k op e. absurd (none-some op e);
    unfinished = λ p op e. absurd (none-some op e);
    ended = λ p k end op e. absurd (none-some op e);
  }

  -- an operation that stood before has the number that it had
  pub begins_before : (done : List ℕ) (s : ℕ) (ops : List (Op R)) (p k : ℕ) (op : Op R) → IsPlayed at (after span done) ops →
      slice_get ops p ≡ Some op → Begins (done ++ s ∷ []) k op → Begins done k op
  begins_before done s ops p k op played there b =
      let o = played.each p op there in
      let b0 : Begins (done ++ s ∷ []) o.0 op = position_stays at op.who s done (o.0 * a + 0) op.starts o.1.begins in
      let once : o.0 * a + 0 ≡ k * a + 0 = position_once at op.who (done ++ s ∷ []) (o.0 * a + 0) (k * a + 0) op.starts b0 b in
      let e : o.0 ≡ k = same_operation_number a o.0 k 0 0 once (omega arith) (omega arith) in
      subst (λ z. Begins done z op) e o.1.begins

  -- a step that is not a choice chooses for nobody
  chose_before : (done : List ℕ) (s m r who k : ℕ) → steps_of s done ≡ m * a + r → r < a → r ≢ ch →
      k * a + ch < steps_of who (done ++ s ∷ []) → k * a + ch < steps_of who done
  chose_before done s m r who k c l ne h = elim (cases_eq s who) [
    | inr other ↦ let e : steps_of who (done ++ s ∷ []) ≡ steps_of who done = steps_other who s done other in omega arith
    | inl mine ↦
        let e : steps_of who (done ++ s ∷ []) ≡ steps_of who done + 1 =
        ap (λ z. steps_of who (done ++ z ∷ [])) mine ∙ steps_mine who done in
        let c' : steps_of who done ≡ m * a + r = ap (λ z. steps_of z done) (sym mine) ∙ c in
        elim (cases_eq (k * a + ch) (m * a + r)) [
          | inr differ ↦ omega arith
          | inl now ↦
              let km : k ≡ m = same_operation_number a k m ch r now (omega arith) l in
              let mul : k * a ≡ m * a = ap (λ z. z * a) km in
              absurd (ne (omega arith))
        ]
  ]

  module _ (done : List ℕ) (ops : List (Op R)) (stamps : List (Option Stamp)) (place : ℕ → ℕ) (h : IsTold done ops stamps place) where
    -- a step that neither begins nor chooses nor ends
    pub told_goes_on : (s m r : ℕ) → steps_of s done ≡ m * a + r → 0 < r → r + 1 < a → r ≢ ch → IsTold (done ++ s ∷ []) ops stamps place
    told_goes_on s m r c pos l ne = record {
      played = goes_on at span done ops place s m r c pos l h.played;
      long = h.long;
      untold = λ p k op e b le. h.untold p k op e (begins_before done s ops p k op h.played.played e b) (let u = steps_up op.who s done in
          omega arith);
      told = λ p k op e b lt.
          h.told p k op e (begins_before done s ops p k op h.played.played e b) (chose_before done s m r op.who k c (omega arith) ne lt);
      ended = λ p k end op e b f. h.ended p k end op e (begins_before done s ops p k op h.played.played e b) f;
      unrefused =
          λ p k op e b le. h.unrefused p k op e (begins_before done s ops p k op h.played.played e b) (let u = steps_up op.who s done in
          omega arith);
      unfinished = h.unfinished;
    }

    -- an operation begins
    pub told_begins : 0 < ch → (next : ℕ → ℕ) (m : ℕ) (new : Op R) → steps_of new.who done ≡ m * a → new.starts ≡ at + length done →
        new.ends ≡ None → Follows (planned span new.who m) new → next new.who ≡ length ops → ((w : ℕ) → w ≢ new.who → next w ≡ place w) →
        new.kind ≢ Refused → (new.kind ≢ Write → new.item ≡ None)
        → IsTold (done ++ new.who ∷ []) (ops ++ new ∷ []) (stamps ++ None ∷ []) next
    told_begins low next m new c starts unfinished follows now others fresh bare =
        let s : ℕ = new.who in
        let c0 : steps_of s done ≡ m * a + 0 = omega arith in
        record {
          played = begins at span done ops place next m new (omega arith) c starts unfinished follows now others h.played;
          long = length_push stamps None ∙ ap (λ z. z + 1) h.long ∙ sym (length_push ops new);
          untold = λ p k op e b le. elim (get_pushed_cases ops new p op e) [
            | inl old ↦ get_stays stamps None None p
                (h.untold p k op old (begins_before done s ops p k op h.played.played old b) (let u = steps_up op.who s done in
                omega arith))
            | inr new_one ↦ get_last stamps None p (new_one.0 ∙ sym h.long)
          ];
          told = λ p k op e b lt. elim (get_pushed_cases ops new p op e) [
            | inl old ↦
                let t = h.told p k op old (begins_before done s ops p k op h.played.played old b)
                (chose_before done s m 0 op.who k c0 (omega arith) (λ z. omega arith) lt) in
                record { stamp = get_stays stamps (Some (chosen op.who k).stamp) None p t.stamp; same_kind = t.same_kind; item = t.item }
            | inr new_one ↦
                let w : op.who ≡ s = ap (λ (z : Op R). z.who) (sym new_one.1) in
                let st : steps_of op.who (done ++ s ∷ []) ≡ m * a + 1 =
                ap (λ z. steps_of z (done ++ s ∷ [])) w ∙ steps_mine s done ∙ ap (λ z. z + 1) c in
                let start_is : op.starts ≡ at + length done = ap (λ (z : Op R). z.starts) (sym new_one.1) ∙ starts in
                absurd (elim (cases_lt k m) [
                  | inr ge ↦ omega (arith, mul-le-mul_left a ge)
                  | inl less ↦
                      let g : k * a + a ≤ m * a = later_operation a k m less in
                      let x = position_exists at op.who done (k * a + 0)
                      (let q : steps_of op.who done ≡ m * a = ap (λ z. steps_of z done) w ∙ c in omega arith) in
                      let low_pos : x.0 < at + length done = position_below at op.who done (k * a + 0) x.0 x.1 in
                      let same_pos : x.0 ≡ op.starts =
                      same_Some x.0 op.starts (sym (position_stays at op.who s done (k * a + 0) x.0 x.1) ∙ b) in
                      omega arith
                ])
          ];
          ended = λ p k end op e b f. elim (get_pushed_cases ops new p op e) [
            | inl old ↦ h.ended p k end op old (begins_before done s ops p k op h.played.played old b) f
            | inr new_one ↦ absurd (none-some end (sym unfinished ∙ ap (λ (z : Op R). z.ends) new_one.1 ∙ f))
          ];
          unrefused = λ p k op e b le. elim (get_pushed_cases ops new p op e) [
            | inl old ↦ h.unrefused p k op old (begins_before done s ops p k op h.played.played old b) (let u = steps_up op.who s done in
                omega arith)
            | inr new_one ↦ (λ z. fresh (ap (λ (y : Op R). y.kind) new_one.1 ∙ z))
          ];
          unfinished = λ p op e f w. elim (get_pushed_cases ops new p op e) [
            | inl old ↦ h.unfinished p op old f w
            | inr new_one ↦ ap (λ (y : Op R). y.item) (sym new_one.1) ∙ bare (λ z. w (ap (λ (y : Op R). y.kind) (sym new_one.1) ∙ z))
          ];
        }

    -- an operation begins and chooses in one step
    pub told_begins_choosing : (next : ℕ → ℕ) (m : ℕ) (new : Op R) → ch ≡ 0 → steps_of new.who done ≡ m * a →
        new.starts ≡ at + length done → new.ends ≡ None → Follows (planned span new.who m) new → next new.who ≡ length ops →
        ((w : ℕ) → w ≢ new.who → next w ≡ place w)
        → new.kind ≡ kind new.who m → (new.kind ≡ Write → new.item ≡ Some (chosen new.who m).item) → (new.kind ≢ Write → new.item ≡ None)
        → IsTold (done ++ new.who ∷ []) (ops ++ new ∷ []) (stamps ++ Some (chosen new.who m).stamp ∷ []) next
    told_begins_choosing next m new first c starts unfinished follows now others same_kind item bare =
        let s : ℕ = new.who in
        let c0 : steps_of s done ≡ m * a + ch = omega arith in
        -- the new operation has the number m
        let number : (k : ℕ) → Begins (done ++ s ∷ []) k new → k ≡ m = λ k b.
        let here : access_at at (after span (done ++ s ∷ [])) s m 0 ≡ Some (at + length done) = step_now s m c in
        let once : k * a + 0 ≡ m * a + 0 =
        position_once at s (done ++ s ∷ []) (k * a + 0) (m * a + 0) new.starts b (here ∙ ap Some (sym starts)) in
        same_operation_number a k m 0 0 once (omega arith) (omega arith) in
        let st : steps_of s (done ++ s ∷ []) ≡ m * a + 1 = steps_mine s done ∙ ap (λ z. z + 1) c in
        -- another one, which stood before, has chosen before
        let early : (p k : ℕ) (op : Op R) → slice_get ops p ≡ Some op → Begins done k op → k * a + ch < steps_of op.who (done ++ s ∷ []) →
        k * a + ch < steps_of op.who done = λ p k op e b lt.
        elim (cases_eq op.who s) [
          | inr differ ↦
              let z : steps_of op.who (done ++ s ∷ []) ≡ steps_of op.who done = steps_other op.who s done (λ y. differ (sym y)) in
              omega arith
          | inl mine ↦
              let y : steps_of op.who done ≡ m * a = ap (λ z. steps_of z done) mine ∙ c in
              let begun : k * a + 0 < steps_of op.who done = position_made at op.who done (k * a + 0) op.starts b in
              omega arith
        ] in
        record {
          played = begins at span done ops place next m new (omega arith) c starts unfinished follows now others h.played;
          long = length_push stamps (Some (chosen s m).stamp) ∙ ap (λ z. z + 1) h.long ∙ sym (length_push ops new);
          untold = λ p k op e b le. elim (get_pushed_cases ops new p op e) [
            | inl old ↦ get_stays stamps None (Some (chosen s m).stamp) p
                (h.untold p k op old (begins_before done s ops p k op h.played.played old b) (let u = steps_up op.who s done in
                omega arith))
            | inr new_one ↦
                let w : op.who ≡ s = ap (λ (z : Op R). z.who) (sym new_one.1) in
                let km : k ≡ m = number k (subst (λ z. Begins (done ++ s ∷ []) k z) (sym new_one.1) b) in
                let mul : k * a ≡ m * a = ap (λ z. z * a) km in
                let so : steps_of op.who (done ++ s ∷ []) ≡ m * a + 1 = ap (λ z. steps_of z (done ++ s ∷ [])) w ∙ st in
                absurd (omega arith)
          ];
          told = λ p k op e b lt. elim (get_pushed_cases ops new p op e) [
            | inl old ↦
                let b0 = begins_before done s ops p k op h.played.played old b in
                let t = h.told p k op old b0 (early p k op old b0 lt) in
                record {
                  stamp = get_stays stamps (Some (chosen op.who k).stamp) (Some (chosen s m).stamp) p t.stamp;
                  same_kind = t.same_kind;
                  item = t.item;
                }
            | inr new_one ↦
                let km : k ≡ m = number k (subst (λ z. Begins (done ++ s ∷ []) k z) (sym new_one.1) b) in
                let x : IsToldOf (stamps ++ Some (chosen s m).stamp ∷ []) p m new = record {
                  stamp = get_last stamps (Some (chosen s m).stamp) p (new_one.0 ∙ sym h.long);
                  same_kind = same_kind;
                  item = item;
                } in
                subst (λ z. IsToldOf (stamps ++ Some (chosen s m).stamp ∷ []) p z op) (sym km)
                (subst (λ (z : Op R). IsToldOf (stamps ++ Some (chosen s m).stamp ∷ []) p m z) new_one.1 x)
          ];
          ended = λ p k end op e b f. elim (get_pushed_cases ops new p op e) [
            | inl old ↦ h.ended p k end op old (begins_before done s ops p k op h.played.played old b) f
            | inr new_one ↦ absurd (none-some end (sym unfinished ∙ ap (λ (z : Op R). z.ends) new_one.1 ∙ f))
          ];
          unrefused = λ p k op e b le. elim (get_pushed_cases ops new p op e) [
            | inl old ↦ h.unrefused p k op old (begins_before done s ops p k op h.played.played old b) (let u = steps_up op.who s done in
                omega arith)
            | inr new_one ↦
                let w : op.who ≡ s = ap (λ (z : Op R). z.who) (sym new_one.1) in
                let km : k ≡ m = number k (subst (λ z. Begins (done ++ s ∷ []) k z) (sym new_one.1) b) in
                let mul : k * a ≡ m * a = ap (λ z. z * a) km in
                let so : steps_of op.who (done ++ s ∷ []) ≡ m * a + 1 = ap (λ z. steps_of z (done ++ s ∷ [])) w ∙ st in
                absurd (omega arith)
          ];
          unfinished = λ p op e f w. elim (get_pushed_cases ops new p op e) [
            | inl old ↦ h.unfinished p op old f w
            | inr new_one ↦ ap (λ (y : Op R). y.item) (sym new_one.1) ∙ bare (λ z. w (ap (λ (y : Op R). y.kind) (sym new_one.1) ∙ z))
          ];
        }
      where
        step_now : (s m : ℕ) → steps_of s done ≡ m * a → access_at at (after span (done ++ s ∷ [])) s m 0 ≡ Some (at + length done)
        step_now s m c = step_event at (after span (done ++ s ∷ [])) done [] s m 0 refl (omega arith)

    -- the operation under way, which is replaced by `op'`
    module _ (s m r : ℕ) (c : steps_of s done ≡ m * a + r) (pos : 0 < r) (l : r < a) (new : List (Op R)) (op' : Op R)
        (is : IsReplaced ops new (place s) op') where
      pub way : IsUnderWay at (after span done) m s ops (place s)
      way = h.played.under_way s m r c pos l

      old_is : is.old ≡ way.op
      old_is = same_Some is.old way.op (sym is.was ∙ way.there)

      who_is : op'.who ≡ s
      who_is = is.same_who ∙ ap (λ (z : Op R). z.who) old_is ∙ way.actor

      -- its number is m
      number_now : (k : ℕ) → Begins (done ++ s ∷ []) k op' → k ≡ m
      number_now k b =
          let st : op'.starts ≡ way.op.starts = is.same_starts ∙ ap (λ (z : Op R). z.starts) old_is in
          let bm : access_at at (after span (done ++ s ∷ [])) op'.who m 0 ≡ Some op'.starts =
          position_stays at op'.who s done (m * a + 0) op'.starts
          (ap (λ z. access_at at (after span done) z m 0) (who_is ∙ sym way.actor) ∙ way.operation.begins ∙ ap Some (sym st)) in
          let once : k * a + 0 ≡ m * a + 0 = position_once at op'.who (done ++ s ∷ []) (k * a + 0) (m * a + 0) op'.starts b bm in
          same_operation_number a k m 0 0 once (omega arith) (omega arith)

      -- another operation is not number m of this process
      elsewhere : (p k : ℕ) (op : Op R) → slice_get ops p ≡ Some op → Begins done k op → op.who ≡ s → p ≢ place s → k ≢ m
      elsewhere p k op e b w ne km =
          let o = h.played.played.each p op e in
          let once : o.0 * a + 0 ≡ k * a + 0 = position_once at op.who done (o.0 * a + 0) (k * a + 0) op.starts o.1.begins b in
          let ok : o.0 ≡ k = same_operation_number a o.0 k 0 0 once (omega arith) (omega arith) in
          let im : IsOperation at (after span done) m op = subst (λ z. IsOperation at (after span done) z op) (ok ∙ km) o.1 in
          ne (operation_once at (after span done) ops p (place s) m op way.op h.played.played e way.there
          (w ∙ sym way.actor) im way.operation)

      old_at : (p : ℕ) (op : Op R) → p ≢ place s → slice_get new p ≡ Some op → slice_get ops p ≡ Some op
      old_at p op ne e = sym (is.elsewhere p ne) ∙ e

      new_at : (p : ℕ) (op : Op R) → p ≡ place s → slice_get new p ≡ Some op → op ≡ op'
      new_at p op e g = same_Some op op' (sym g ∙ ap (slice_get new) e ∙ is.here)

      -- it chooses
      pub told_chooses : (stamps' : List (Option Stamp)) → r ≡ ch → op'.ends ≡ None → Follows (planned span s m) op' →
          length stamps' ≡ length new → slice_get stamps' (place s) ≡ Some (Some (chosen s m).stamp)
          → ((q : ℕ) → q ≢ place s → slice_get stamps' q ≡ slice_get stamps q) → op'.kind ≡ kind s m →
          (op'.kind ≡ Write → op'.item ≡ Some (chosen s m).item) → (op'.kind ≢ Write → op'.item ≡ None) →
          IsTold (done ++ s ∷ []) new stamps' place
      told_chooses stamps' now unfinished follows long here others same_kind item bare =
          let played' : IsPlayedSoFar at span done new place =
          replaced at span done ops new place s m r op' c pos l is unfinished follows h.played in
          record {
            played = goes_on at span done new place s m r c pos (omega arith) played';
            long = long;
            untold = λ p k op e b le. elim (cases_eq p (place s)) [
              | inl q ↦
                  let o : op ≡ op' = new_at p op q e in
                  let km : k ≡ m = number_now k (subst (λ z. Begins (done ++ s ∷ []) k z) o b) in
                  let mul : k * a ≡ m * a = ap (λ z. z * a) km in
                  let st : steps_of op.who (done ++ s ∷ []) ≡ steps_of s done + 1 = ap (λ (z : Op R). steps_of z.who (done ++ s ∷ [])) o
                  ∙ ap (λ z. steps_of z (done ++ s ∷ [])) who_is ∙ steps_mine s done in
                  absurd (omega arith)
              | inr ne ↦
                  let e0 = old_at p op ne e in
                  others p ne ∙ h.untold p k op e0 (begins_before done s ops p k op h.played.played e0 b) (let u = steps_up op.who s done in
                  omega arith)
            ];
            told = λ p k op e b lt. elim (cases_eq p (place s)) [
              | inl q ↦
                  let o : op ≡ op' = new_at p op q e in
                  let km : k ≡ m = number_now k (subst (λ z. Begins (done ++ s ∷ []) k z) o b) in
                  let x : IsToldOf stamps' (place s) m op' = record {
                    stamp = here ∙ ap (λ z. Some (Some (chosen z m).stamp)) (sym who_is);
                    same_kind = same_kind ∙ ap (λ z. kind z m) (sym who_is);
                    item = λ w. item w ∙ ap (λ z. Some (chosen z m).item) (sym who_is);
                  } in
                  subst (λ z. IsToldOf stamps' z k op) (sym q) (subst (λ z. IsToldOf stamps' (place s) z op) (sym km)
                  (subst (λ (z : Op R). IsToldOf stamps' (place s) m z) (sym o) x))
              | inr ne ↦
                  let e0 = old_at p op ne e in
                  let b0 = begins_before done s ops p k op h.played.played e0 b in
                  let early : k * a + ch < steps_of op.who done = elim (cases_eq op.who s) [
                    | inr other ↦
                        let z : steps_of op.who (done ++ s ∷ []) ≡ steps_of op.who done = steps_other op.who s done (λ y. other (sym y)) in
                        omega arith
                    | inl mine ↦
                        let z : steps_of op.who (done ++ s ∷ []) ≡ steps_of s done + 1 =
                        ap (λ y. steps_of y (done ++ s ∷ [])) mine ∙ steps_mine s done in
                        let y : steps_of op.who done ≡ steps_of s done = ap (λ y. steps_of y done) mine in
                        elim (cases_eq (k * a + ch) (m * a + ch)) [
                          | inl eq ↦
                              absurd (elsewhere p k op e0 b0 mine ne (same_operation_number a k m ch ch eq (omega arith) (omega arith)))
                          | inr differ ↦ omega arith
                        ]
                  ] in
                  let t = h.told p k op e0 b0 early in
                  record { stamp = others p ne ∙ t.stamp; same_kind = t.same_kind; item = t.item }
            ];
            ended = λ p k end op e b f. elim (cases_eq p (place s)) [
              | inl q ↦ absurd (none-some end (sym unfinished ∙ ap (λ (z : Op R). z.ends) (sym (new_at p op q e)) ∙ f))
              | inr ne ↦ let e0 = old_at p op ne e in h.ended p k end op e0 (begins_before done s ops p k op h.played.played e0 b) f
            ];
            unrefused = λ p k op e b le. elim (cases_eq p (place s)) [
              | inl q ↦
                  let o : op ≡ op' = new_at p op q e in
                  let km : k ≡ m = number_now k (subst (λ z. Begins (done ++ s ∷ []) k z) o b) in
                  let mul : k * a ≡ m * a = ap (λ z. z * a) km in
                  let st : steps_of op.who (done ++ s ∷ []) ≡ steps_of s done + 1 = ap (λ (z : Op R). steps_of z.who (done ++ s ∷ [])) o
                  ∙ ap (λ z. steps_of z (done ++ s ∷ [])) who_is ∙ steps_mine s done in
                  absurd (omega arith)
              | inr ne ↦
                  let e0 = old_at p op ne e in
                  h.unrefused p k op e0 (begins_before done s ops p k op h.played.played e0 b) (let u = steps_up op.who s done in
                  omega arith)
            ];
            unfinished = λ p op e f w. elim (cases_eq p (place s)) [
              | inl q ↦ let o : op ≡ op' = new_at p op q e in ap (λ (y : Op R). y.item) o ∙ bare (λ z. w (ap (λ (y : Op R). y.kind) o ∙ z))
              | inr ne ↦ h.unfinished p op (old_at p op ne e) f w
            ];
          }

      -- it ends
      pub told_ends : r + 1 ≡ a → op'.ends ≡ Some (at + length done) → op'.kind ≡ way.op.kind →
          (op'.kind ≡ Write → op'.item ≡ way.op.item) → Follows (planned span s m) op' → length new ≡ length ops →
          op'.item ≡ Some (chosen s m).item → IsTold (done ++ s ∷ []) new stamps place
      told_ends full ends same_kind kept follows long item = record {
        played = finishes at span done ops new place s m op' (omega arith) (omega arith) is ends follows h.played;
        long = h.long ∙ sym long;
        untold = λ p k op e b le. elim (cases_eq p (place s)) [
          | inl q ↦
              let o : op ≡ op' = new_at p op q e in
              let km : k ≡ m = number_now k (subst (λ z. Begins (done ++ s ∷ []) k z) o b) in
              let mul : k * a ≡ m * a = ap (λ z. z * a) km in
              let st : steps_of op.who (done ++ s ∷ []) ≡ steps_of s done + 1 =
              ap (λ (z : Op R). steps_of z.who (done ++ s ∷ [])) o ∙ ap (λ z. steps_of z (done ++ s ∷ [])) who_is ∙ steps_mine s done in
              absurd (omega arith)
          | inr ne ↦
              let e0 = old_at p op ne e in
              h.untold p k op e0 (begins_before done s ops p k op h.played.played e0 b) (let u = steps_up op.who s done in omega arith)
        ];
        told = λ p k op e b lt. elim (cases_eq p (place s)) [
          | inl q ↦
              let o : op ≡ op' = new_at p op q e in
              let km : k ≡ m = number_now k (subst (λ z. Begins (done ++ s ∷ []) k z) o b) in
              let wa : way.op.who ≡ s = way.actor in
              let was : IsToldOf stamps (place s) m way.op = h.told (place s) m way.op way.there way.operation.begins
              (let y : steps_of way.op.who done ≡ steps_of s done = ap (λ z. steps_of z done) wa in omega arith) in
              let to_way : op'.who ≡ way.op.who = who_is ∙ sym wa in
              let x : IsToldOf stamps (place s) m op' = record {
                stamp = was.stamp ∙ ap (λ z. Some (Some (chosen z m).stamp)) (sym to_way);
                same_kind = same_kind ∙ was.same_kind ∙ ap (λ z. kind z m) (sym to_way);
                item = λ w. kept w ∙ was.item (sym same_kind ∙ w) ∙ ap (λ z. Some (chosen z m).item) (sym to_way);
              } in
              subst (λ z. IsToldOf stamps z k op) (sym q)
              (subst (λ z. IsToldOf stamps (place s) z op) (sym km) (subst (λ (z : Op R). IsToldOf stamps (place s) m z) (sym o) x))
          | inr ne ↦
              let e0 = old_at p op ne e in
              h.told p k op e0 (begins_before done s ops p k op h.played.played e0 b)
              (chose_before done s m r op.who k c l (λ z. omega arith) lt)
        ];
        ended = λ p k end op e b f. elim (cases_eq p (place s)) [
          | inl q ↦
              let o : op ≡ op' = new_at p op q e in
              let km : k ≡ m = number_now k (subst (λ z. Begins (done ++ s ∷ []) k z) o b) in
              ap (λ (z : Op R). z.item) o ∙ item ∙ ap (λ z. Some (chosen s z).item) (sym km)
              ∙ ap (λ z. Some (chosen z k).item) (sym (ap (λ (z : Op R). z.who) o ∙ who_is))
          | inr ne ↦ let e0 = old_at p op ne e in h.ended p k end op e0 (begins_before done s ops p k op h.played.played e0 b) f
        ];
        unrefused = λ p k op e b le. elim (cases_eq p (place s)) [
          | inl q ↦
              let o : op ≡ op' = new_at p op q e in
              let km : k ≡ m = number_now k (subst (λ z. Begins (done ++ s ∷ []) k z) o b) in
              let mul : k * a ≡ m * a = ap (λ z. z * a) km in
              let st : steps_of op.who (done ++ s ∷ []) ≡ steps_of s done + 1 =
              ap (λ (z : Op R). steps_of z.who (done ++ s ∷ [])) o ∙ ap (λ z. steps_of z (done ++ s ∷ [])) who_is ∙ steps_mine s done in
              absurd (omega arith)
          | inr ne ↦
              let e0 = old_at p op ne e in
              h.unrefused p k op e0 (begins_before done s ops p k op h.played.played e0 b) (let u = steps_up op.who s done in omega arith)
        ];
        unfinished = λ p op e f w. elim (cases_eq p (place s)) [
          | inl q ↦ absurd (none-some (at + length done) (sym f ∙ ap (λ (y : Op R). y.ends) (new_at p op q e) ∙ ends))
          | inr ne ↦ h.unfinished p op (old_at p op ne e) f w
        ];
      }
