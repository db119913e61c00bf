-- One call more: its accesses are the last of each list, and what was there before stays.
use Rattle.std.proofs.Common.{◌≡◌, ℕ, zero, suc, ◌+◌, ◌-◌, ◌*◌, ◌<◌, ◌≤◌, List, [], ◌∷◌, ◌++◌, length, slice_get, Some}
use Rattle.std.proofs.Common.{Bool, true, false, refl, sym, ◌∙◌, ap, subst, arith, inl, inr, add-mul}
use Rattle.std.proofs.lemmas.Bool.{cases_Bool, cases_lt}
use Rattle.std.proofs.lemmas.List.{length_push, length-append}
use Rattle.std.proofs.lemmas.Option.{none-some, slice_get_within}
use Rattle.history_core.proofs.Places.{get_after, get_before, get_last, get_pushed, get_pushed_cases}
use Rattle.history_core.proofs.Played.{later_operation}
use Rattle.matrix_core.specs.declared.stamp.Stamped.{Stamped}
use Rattle.matrix_core.specs.Choices.{ChoosesByKind}
use Rattle.matrix_core.specs.Stamps.{greatest}
use Rattle.matrix_core.specs.Lines.{other}
use Rattle.matrix_core.proofs.lists.Elements.{get_exists}
use Rattle.board_history.specs.Accesses.{HasDoneNothing, IsInterval, MakesCall}
use Rattle.board_history.specs.BoardRuns.{Answered, AreReads, AreWrites, Called, Did, IsProcess, own_before, records, Sees, steps_before}
use Rattle.board_history.specs.BoardRuns.{steps_of_call, told, Written}
use Rattle.board_history.proofs.Told.{column_steps, one_if, records_more, records_same, steps_next, steps_rise, steps_stay, told_next}
use Rattle.board_history.proofs.Told.{told_rises, told_stays}

-- what a process had before a call doesn't change with a later call
own_stays : {V : Type 0} (first : Stamped V) (calls : List (Called V)) (c : Called V) (k : ℕ) → k ≤ length calls →
    own_before first (calls ++ c ∷ []) k ≡ own_before first calls k
own_stays first [] c zero l = refl
own_stays first [] c (suc k) l = absurd (omega arith)
own_stays first (d ∷ calls) c zero l = refl
own_stays first (d ∷ calls) c (suc k) l = own_stays d.chosen calls c k (omega arith)

pub not_both : (b : Bool) → b ≡ true → b ≡ false → ⊥
not_both true t f = cc
not_both false t f = cc

-- an access of a call is within its steps
access_within : (width n access : ℕ) (tells finds : Bool) → (tells ≡ true → access < (n - 1) + (n - 1)) →
    (tells ≡ false → access < n - 1) → access * width + width ≤ steps_of_call width n tells finds
access_within width n access true finds l m =
    let r : access * width + width ≤ ((n - 1) + (n - 1)) * width = later_operation width access ((n - 1) + (n - 1)) (l refl) in
    let s : ((n - 1) + (n - 1)) * width ≡ (n - 1) * width + (n - 1) * width = add-mul (n - 1) (n - 1) width in
    omega arith
access_within width n access false finds l m =
    let r : access * width + width ≤ (n - 1) * width = later_operation width access (n - 1) (m refl) in
    let c : (n - 1) * width ≤ steps_of_call width n false finds = column_steps width n false finds in
    omega arith

module _ {V : Type 0} (width n : ℕ) (old new : Did V) (call : Called V) (steps : List ℕ) (calls : new.calls ≡ old.calls ++ call ∷ [])
    (times : new.times ≡ old.times ++ steps) (long : length old.times ≡ steps_before width n old.calls (length old.calls)) where
  count : length new.calls ≡ length old.calls + 1
  count = ap length calls ∙ length_push old.calls call

  before_same : (k : ℕ) → k ≤ length old.calls → steps_before width n new.calls k ≡ steps_before width n old.calls k
  before_same k l = ap (λ cs. steps_before width n cs k) calls ∙ steps_stay width n old.calls call k l

  told_same : (k : ℕ) → k ≤ length old.calls → told new.calls k ≡ told old.calls k
  told_same k l = ap (λ cs. told cs k) calls ∙ told_stays old.calls call k l

  -- a step of an earlier call stays where it is, and one of the last call follows
  earlier : (k at : ℕ) (c : Called V) → slice_get old.calls k ≡ Some c → at < steps_of_call width n c.tells c.finds →
      slice_get new.times (steps_before width n new.calls k + at) ≡ slice_get old.times (steps_before width n old.calls k + at)
  earlier k at c e la =
      let l : k < length old.calls = slice_get_within old.calls k c e in
      let next : steps_before width n old.calls (suc k) ≡ steps_before width n old.calls k + steps_of_call width n c.tells c.finds =
      steps_next width n old.calls k c e in
      let room : steps_before width n old.calls (suc k) ≤ steps_before width n old.calls (length old.calls) =
      steps_rise width n old.calls (suc k) (length old.calls) (omega arith) in
      ap (λ ts. slice_get ts (steps_before width n new.calls k + at)) times
      ∙ ap (λ z. slice_get (old.times ++ steps) (z + at)) (before_same k (omega arith))
      ∙ get_before old.times steps (steps_before width n old.calls k + at) (omega arith)

  last : (at : ℕ) → slice_get new.times (steps_before width n new.calls (length old.calls) + at) ≡ slice_get steps at
  last at = ap (λ ts. slice_get ts (steps_before width n new.calls (length old.calls) + at)) times
      ∙ ap (λ z. slice_get (old.times ++ steps) (z + at)) (before_same (length old.calls) (omega arith) ∙ sym long)
      ∙ get_after old.times steps at

  -- the accesses with this number, with those of one call more
  more_reads : (access : ℕ) (begins ends begins' ends' : List ℕ) → 0 < width → access < n - 1 → AreReads width n old access begins ends →
      IsInterval width steps access begins ends begins' ends' → AreReads width n new access begins' ends'
  more_reads access begins ends begins' ends' some within h is = record {
    begun = λ k l. begun k l;
    ended = λ k l. ended k l;
    all =
        let b : length begins' ≡ length begins + 1 = ap length is.begun ∙ length_push begins is.begin in
        let e : length ends' ≡ length ends + 1 = ap length is.ended ∙ length_push ends is.end in
        let c : length new.calls ≡ length old.calls + 1 = count in
        let x = h.all.0 in
        let y = h.all.1 in
        (omega arith, omega arith);
  }
    where
      room : (tells finds : Bool) → access * width + width ≤ steps_of_call width n tells finds
      room tells finds = access_within width n access tells finds (λ t. omega arith) (λ t. within)

      begun : (k : ℕ) → k < length new.calls →
          slice_get begins' k ≡ slice_get new.times (steps_before width n new.calls k + access * width)
      begun k l = elim (cases_lt k (length old.calls)) [
        | inl lt ↦
            let x = h.all.0 in
            let c = get_exists old.calls k lt in
            let r : access * width + width ≤ steps_of_call width n c.0.tells c.0.finds = room c.0.tells c.0.finds in
            ap (λ bs. slice_get bs k) is.begun ∙ get_pushed begins is.begin k (λ e. omega arith) ∙ h.begun k lt
            ∙ sym (earlier k (access * width) c.0 c.1 (omega arith))
        | inr ge ↦
            let x = h.all.0 in
            let same : k ≡ length old.calls = let c = count in omega arith in
            ap (λ bs. slice_get bs k) is.begun ∙ get_last begins is.begin k (omega arith) ∙ sym is.first ∙ sym (last (access * width))
            ∙ ap (λ m. slice_get new.times (steps_before width n new.calls m + access * width)) (sym same)
      ]

      ended : (k : ℕ) → k < length new.calls →
          slice_get ends' k ≡ slice_get new.times (steps_before width n new.calls k + (access * width + (width - 1)))
      ended k l = elim (cases_lt k (length old.calls)) [
        | inl lt ↦
            let x = h.all.1 in
            let c = get_exists old.calls k lt in
            let r : access * width + width ≤ steps_of_call width n c.0.tells c.0.finds = room c.0.tells c.0.finds in
            ap (λ bs. slice_get bs k) is.ended ∙ get_pushed ends is.end k (λ e. omega arith) ∙ h.ended k lt
            ∙ sym (earlier k (access * width + (width - 1)) c.0 c.1 (omega arith))
        | inr ge ↦
            let x = h.all.1 in
            let same : k ≡ length old.calls = let c = count in omega arith in
            ap (λ bs. slice_get bs k) is.ended ∙ get_last ends is.end k (omega arith) ∙ sym is.last
            ∙ sym (last (access * width + (width - 1)))
            ∙ ap (λ m. slice_get new.times (steps_before width n new.calls m + (access * width + (width - 1)))) (sym same)
      ]

  told_all : told new.calls (length new.calls) ≡ told old.calls (length old.calls) + one_if call.tells
  told_all =
      ap (told new.calls) (let c = count in let z : length new.calls ≡ suc (length old.calls) = omega arith in z)
      ∙ told_next new.calls (length old.calls) call (ap (λ cs. slice_get cs (length old.calls)) calls
      ∙ get_last old.calls call (length old.calls) refl)
      ∙ ap (λ z. z + one_if call.tells) (told_same (length old.calls) (omega arith))

  -- where the call tells, its writes are the last ones
  more_writes : (access : ℕ) (begins ends begins' ends' : List ℕ) → 0 < width → access < (n - 1) + (n - 1) → call.tells ≡ true →
      AreWrites width n old access begins ends → IsInterval width steps access begins ends begins' ends' →
      AreWrites width n new access begins' ends'
  more_writes access begins ends begins' ends' some within tells h is = record {
    begun = λ k c e t. elim (get_pushed_cases old.calls call k c (ap (λ cs. slice_get cs k) (sym calls) ∙ e)) [
      | inl was ↦
          let x = h.all.0 in
          let r : access * width + width ≤ steps_of_call width n c.tells c.finds = room c t in
          let below = told_below k c was t in
          ap (λ bs. slice_get bs (told new.calls k)) is.begun
          ∙ ap (slice_get (begins ++ is.begin ∷ [])) (told_same k (old_inside k c was))
          ∙ get_pushed begins is.begin (told old.calls k) (λ e. omega arith) ∙ h.begun k c was t
          ∙ sym (earlier k (access * width) c was (omega arith))
      | inr now ↦
          let x = h.all.0 in
          ap (λ bs. slice_get bs (told new.calls k)) is.begun
          ∙ get_last begins is.begin (told new.calls k) (ap (told new.calls) now.0 ∙ told_same (length old.calls) (omega arith) ∙ sym x)
          ∙ sym is.first ∙ sym (last (access * width))
          ∙ ap (λ m. slice_get new.times (steps_before width n new.calls m + access * width)) (sym now.0)
    ];
    ended = λ k c e t. elim (get_pushed_cases old.calls call k c (ap (λ cs. slice_get cs k) (sym calls) ∙ e)) [
      | inl was ↦
          let x = h.all.1 in
          let r : access * width + width ≤ steps_of_call width n c.tells c.finds = room c t in
          let below = told_below k c was t in
          ap (λ bs. slice_get bs (told new.calls k)) is.ended
          ∙ ap (slice_get (ends ++ is.end ∷ [])) (told_same k (old_inside k c was))
          ∙ get_pushed ends is.end (told old.calls k) (λ e. omega arith) ∙ h.ended k c was t
          ∙ sym (earlier k (access * width + (width - 1)) c was (omega arith))
      | inr now ↦
          let x = h.all.1 in
          ap (λ bs. slice_get bs (told new.calls k)) is.ended
          ∙ get_last ends is.end (told new.calls k) (ap (told new.calls) now.0 ∙ told_same (length old.calls) (omega arith) ∙ sym x)
          ∙ sym is.last ∙ sym (last (access * width + (width - 1)))
          ∙ ap (λ m. slice_get new.times (steps_before width n new.calls m + (access * width + (width - 1)))) (sym now.0)
    ];
    all =
        let b : length begins' ≡ length begins + 1 = ap length is.begun ∙ length_push begins is.begin in
        let e : length ends' ≡ length ends + 1 = ap length is.ended ∙ length_push ends is.end in
        let c : told new.calls (length new.calls) ≡ told old.calls (length old.calls) + 1 =
        told_all ∙ ap (λ t. told old.calls (length old.calls) + one_if t) tells in
        let x = h.all.0 in
        let y = h.all.1 in
        (omega arith, omega arith);
  }
    where
      room : (c : Called V) → c.tells ≡ true → access * width + width ≤ steps_of_call width n c.tells c.finds
      room c t = access_within width n access c.tells c.finds (λ u. within) (λ f. absurd (not_both c.tells t f))

      old_inside : (k : ℕ) (c : Called V) → slice_get old.calls k ≡ Some c → k ≤ length old.calls
      old_inside k c was = let l : k < length old.calls = slice_get_within old.calls k c was in omega arith

      told_below : (k : ℕ) (c : Called V) → slice_get old.calls k ≡ Some c → c.tells ≡ true →
          told old.calls k < told old.calls (length old.calls)
      told_below k c was t =
          let l : k < length old.calls = slice_get_within old.calls k c was in
          let next : told old.calls (suc k) ≡ told old.calls k + 1 = told_next old.calls k c was
          ∙ ap (λ b. told old.calls k + one_if b) t in
          let r : told old.calls (suc k) ≤ told old.calls (length old.calls) =
          told_rises old.calls (suc k) (length old.calls) (omega arith) in
          omega arith

  -- where it doesn't, they are those before
  same_writes : (access : ℕ) (begins ends begins' ends' : List ℕ) → 0 < width → access < (n - 1) + (n - 1) → call.tells ≡ false →
      AreWrites width n old access begins ends → begins' ≡ begins → ends' ≡ ends → AreWrites width n new access begins' ends'
  same_writes access begins ends begins' ends' some within silent h b e = record {
    begun = λ k c at t. elim (get_pushed_cases old.calls call k c (ap (λ cs. slice_get cs k) (sym calls) ∙ at)) [
      | inl was ↦
          let r : access * width + width ≤ steps_of_call width n c.tells c.finds = room c t in
          ap (λ bs. slice_get bs (told new.calls k)) b ∙ ap (slice_get begins) (told_same k (old_inside k c was)) ∙ h.begun k c was t
          ∙ sym (earlier k (access * width) c was (omega arith))
      | inr now ↦ absurd (not_both c.tells t (ap (λ (z : Called V). z.tells) (sym now.1) ∙ silent))
    ];
    ended = λ k c at t. elim (get_pushed_cases old.calls call k c (ap (λ cs. slice_get cs k) (sym calls) ∙ at)) [
      | inl was ↦
          let r : access * width + width ≤ steps_of_call width n c.tells c.finds = room c t in
          ap (λ bs. slice_get bs (told new.calls k)) e ∙ ap (slice_get ends) (told_same k (old_inside k c was)) ∙ h.ended k c was t
          ∙ sym (earlier k (access * width + (width - 1)) c was (omega arith))
      | inr now ↦ absurd (not_both c.tells t (ap (λ (z : Called V). z.tells) (sym now.1) ∙ silent))
    ];
    all =
        let c : told new.calls (length new.calls) ≡ told old.calls (length old.calls) + 0 =
        told_all ∙ ap (λ t. told old.calls (length old.calls) + one_if t) silent in
        let x = h.all.0 in
        let y = h.all.1 in
        let bl : length begins' ≡ length begins = ap length b in
        let el : length ends' ≡ length ends = ap length e in
        (omega arith, omega arith);
  }
    where
      room : (c : Called V) → c.tells ≡ true → access * width + width ≤ steps_of_call width n c.tells c.finds
      room c t = access_within width n access c.tells c.finds (λ u. within) (λ f. absurd (not_both c.tells t f))

      old_inside : (k : ℕ) (c : Called V) → slice_get old.calls k ≡ Some c → k ≤ length old.calls
      old_inside k c was = let l : k < length old.calls = slice_get_within old.calls k c was in omega arith

module _ {V : Type 0} (width n limit : ℕ) (first : Stamped V) (i : ℕ) where
  pub nothing_made : (did : Did V) → HasDoneNothing did → IsProcess width n limit first i did
  nothing_made did h = record {
    long = ap length h.times ∙ ap (λ cs. steps_before width n cs (length cs)) (sym h.calls);
    begun = λ k c e. absurd (none-some c (ap (λ cs. slice_get cs k) (sym h.calls) ∙ e));
    ended = λ k c e. absurd (none-some c (ap (λ cs. slice_get cs k) (sym h.calls) ∙ e));
    reads = λ e l. record {
      begun = λ k l. absurd (let z : length did.calls ≡ 0 = ap length h.calls in omega arith);
      ended = λ k l. absurd (let z : length did.calls ≡ 0 = ap length h.calls in omega arith);
      all = (
        ap (λ (r : Answered V). length r.begins) (h.reads (other i e)) ∙ ap length (sym h.calls),
        ap (λ (r : Answered V). length r.ends) (h.reads (other i e)) ∙ ap length (sym h.calls),
      );
    };
    answered = λ e l. ap (λ r. length r.items) (h.reads (other i e)) ∙ ap length (sym h.calls);
    writes = λ e l. record {
      begun = λ k c e t. absurd (none-some c (ap (λ cs. slice_get cs k) (sym h.calls) ∙ e));
      ended = λ k c e t. absurd (none-some c (ap (λ cs. slice_get cs k) (sym h.calls) ∙ e));
      all = (
        ap (λ (r : Written V). length r.begins) (h.writes (other i e)) ∙ ap (λ cs. told cs (length cs)) (sym h.calls),
        ap (λ (r : Written V). length r.ends) (h.writes (other i e)) ∙ ap (λ cs. told cs (length cs)) (sym h.calls),
      );
    };
    written = λ e l. ap (λ r. r.items) (h.writes (other i e)) ∙ ap records (sym h.calls);
    silent = λ k c e t f. absurd (none-some c (ap (λ cs. slice_get cs k) (sym h.calls) ∙ e));
    sees = λ k c e. absurd (none-some c (ap (λ cs. slice_get cs k) (sym h.calls) ∙ e));
    chooses = λ k place c e. absurd (none-some c (ap (λ cs. slice_get cs k) (sym h.calls) ∙ e));
  }

  pub call_made : (old new : Did V) (call : Called V) → 2 ≤ n → 0 < width → IsProcess width n limit first i old →
      MakesCall width n limit first i old new call → IsProcess width n limit first i new
  call_made old new call two some h m = record {
    long =
        let t : length new.times ≡ length old.times + length m.steps = ap length m.times ∙ length-append old.times m.steps in
        let c : length new.calls ≡ suc (length old.calls) = let x = counted in omega arith in
        let l = h.long in
        let z = m.long in
        let next : steps_before width n new.calls (suc (length old.calls))
        ≡ steps_before width n new.calls (length old.calls) + steps_of_call width n call.tells call.finds =
        steps_next width n new.calls (length old.calls) call at_last in
        let same : steps_before width n new.calls (length old.calls) ≡ steps_before width n old.calls (length old.calls) =
        before_same width n old new call m.steps m.calls m.times h.long (length old.calls) (omega arith) in
        let r : length new.times ≡ steps_before width n new.calls (suc (length old.calls)) = omega arith in
        r ∙ ap (steps_before width n new.calls) (sym c);
    begun = λ k c e. elim (get_pushed_cases old.calls call k c (ap (λ cs. slice_get cs k) (sym m.calls) ∙ e)) [
      | inl was ↦
          let z : steps_before width n new.calls k + 0 ≡ steps_before width n new.calls k = omega arith in
          let y : steps_before width n old.calls k + 0 ≡ steps_before width n old.calls k = omega arith in
          ap (slice_get new.times) (sym z) ∙ earlier width n old new call m.steps m.calls m.times h.long k 0 c was (least c.tells c.finds)
          ∙ ap (slice_get old.times) y ∙ h.begun k c was
      | inr now ↦
          let z : steps_before width n new.calls (length old.calls) ≡ steps_before width n new.calls (length old.calls) + 0 = omega arith in
          ap (λ z. slice_get new.times (steps_before width n new.calls z)) now.0 ∙ ap (slice_get new.times) z
          ∙ last width n old new call m.steps m.calls m.times h.long 0 ∙ m.begun ∙ ap (λ (z : Called V). Some z.begin) now.1
    ];
    ended = λ k c e. elim (get_pushed_cases old.calls call k c (ap (λ cs. slice_get cs k) (sym m.calls) ∙ e)) [
      | inl was ↦
          earlier width n old new call m.steps m.calls m.times h.long k (steps_of_call width n c.tells c.finds - 1) c was
          (let s : 0 < steps_of_call width n c.tells c.finds = least c.tells c.finds in omega arith)
          ∙ h.ended k c was
      | inr now ↦
          ap (λ z. slice_get new.times (steps_before width n new.calls z + (steps_of_call width n c.tells c.finds - 1))) now.0
          ∙ ap (λ (z : Called V). slice_get new.times
          (steps_before width n new.calls (length old.calls) + (steps_of_call width n z.tells z.finds - 1)))
          (sym now.1)
          ∙ last width n old new call m.steps m.calls m.times h.long (steps_of_call width n call.tells call.finds - 1) ∙ m.ended
          ∙ ap (λ (z : Called V). Some z.end) now.1
    ];
    reads = λ e l.
        let x = get_exists m.answers e (let z = m.each in omega arith) in
        let r = m.reads e x.0 x.1 in
        more_reads width n old new call m.steps m.calls m.times h.long e (old.reads (other i e)).begins (old.reads (other i e)).ends
        (new.reads (other i e)).begins (new.reads (other i e)).ends some (omega arith) (h.reads e l) r.interval;
    answered = λ e l.
        let x = get_exists m.answers e (let z = m.each in omega arith) in
        let r = m.reads e x.0 x.1 in
        ap length r.items ∙ length_push (old.reads (other i e)).items x.0 ∙ ap (λ c. c + 1) (h.answered e l) ∙ sym counted;
    writes = λ e l. elim (cases_Bool call.tells) [
      | inl tells ↦ more_writes width n old new call m.steps m.calls m.times h.long (n - 1 + e) (old.writes (other i e)).begins
          (old.writes (other i e)).ends (new.writes (other i e)).begins (new.writes (other i e)).ends some
          (omega arith) tells (h.writes e l)
          (m.writes e l tells).interval
      | inr silent ↦ same_writes width n old new call m.steps m.calls m.times h.long (n - 1 + e) (old.writes (other i e)).begins
          (old.writes (other i e)).ends (new.writes (other i e)).begins (new.writes (other i e)).ends some
          (omega arith) silent (h.writes e l)
          (ap (λ (w : Written V). w.begins) (m.unwritten e l silent)) (ap (λ (w : Written V). w.ends) (m.unwritten e l silent))
    ];
    written = λ e l. elim (cases_Bool call.tells) [
      | inl tells ↦ (m.writes e l tells).items ∙ ap (λ ys. ys ++ call.chosen ∷ []) (h.written e l) ∙ sym (records_more old.calls call tells)
          ∙ sym (ap records m.calls)
      | inr silent ↦ ap (λ (w : Written V). w.items) (m.unwritten e l silent)
          ∙ h.written e l ∙ sym (records_same old.calls call silent) ∙ sym (ap records m.calls)
    ];
    silent = λ k c e t f. elim (get_pushed_cases old.calls call k c (ap (λ cs. slice_get cs k) (sym m.calls) ∙ e)) [
      | inl was ↦ h.silent k c was t f ∙ sym (own_same k (let l : k < length old.calls = slice_get_within old.calls k c was in omega arith))
      | inr now ↦ ap (λ (z : Called V). z.chosen) (sym now.1) ∙ m.silent (ap (λ (z : Called V). z.tells) now.1 ∙ t)
          (ap (λ (z : Called V). z.finds) now.1 ∙ f)
          ∙ sym (own_same (length old.calls) (omega arith)) ∙ ap (own_before first new.calls) (sym now.0)
    ];
    sees = λ k c e. saw k c e;
    chooses = λ k place c e. elim (get_pushed_cases old.calls call k c (ap (λ cs. slice_get cs k) (sym m.calls) ∙ e)) [
      | inl was ↦ h.chooses k place c was
      | inr now ↦ subst (λ (c : Called V). ChoosesByKind limit
          (record { place = place; who = i; kind = c.kind; stamp = c.chosen.stamp; item = c.chosen.item }) c.kind c.seen.stamp c.seen.item)
          now.1 (m.chooses place)
    ];
  }
    where
      counted : length new.calls ≡ length old.calls + 1
      counted = ap length m.calls ∙ length_push old.calls call

      at_last : slice_get new.calls (length old.calls) ≡ Some call
      at_last = ap (λ cs. slice_get cs (length old.calls)) m.calls ∙ get_last old.calls call (length old.calls) refl

      least : (tells finds : Bool) → 0 < steps_of_call width n tells finds
      least tells finds =
          let a : 0 * width + width ≤ (n - 1) * width = later_operation width 0 (n - 1) (omega arith) in
          let b : (n - 1) * width ≤ steps_of_call width n tells finds = column_steps width n tells finds in
          omega arith

      own_same : (k : ℕ) → k ≤ length old.calls → own_before first new.calls k ≡ own_before first old.calls k
      own_same k l = ap (λ cs. own_before first cs k) m.calls ∙ own_stays first old.calls call k l

      answered : (k e : ℕ) (x answer : Stamped V) → slice_get (old.reads (other i e)).items k ≡ Some x →
          slice_get m.answers e ≡ Some answer →
          slice_get (new.reads (other i e)).items k ≡ Some x
      answered k e x answer was there =
          let r = m.reads e answer there in
          ap (λ ys. slice_get ys k) r.items
          ∙ get_pushed (old.reads (other i e)).items answer k (let l = slice_get_within (old.reads (other i e)).items k x was in
          λ z. omega arith) ∙ was

      saw : (k : ℕ) (c : Called V) → slice_get new.calls k ≡ Some c → Sees n first i new k c.seen
      saw k c e = elim (get_pushed_cases old.calls call k c (ap (λ cs. slice_get cs k) (sym m.calls) ∙ e)) [
        | inl was ↦
            let s = h.sees k c was in
            let lk : k < length old.calls = slice_get_within old.calls k c was in
            record {
              answers = s.answers;
              each = s.each;
              answered = λ e x there.
                  let le : e < length m.answers = let a = slice_get_within s.answers e x there in
                  let b = s.each in let d = m.each in omega arith in
                  let y = get_exists m.answers e le in
                  answered k e x y.0 (s.answered e x there) y.1;
              greatest = s.greatest ∙ ap (λ o. greatest o s.answers) (sym (own_same k (omega arith)));
            }
        | inr now ↦ record {
          answers = m.answers;
          each = m.each;
          answered = λ e x there.
              let r = m.reads e x there in
              let le : e + 1 < n = let a = slice_get_within m.answers e x there in let b = m.each in omega arith in
              ap (λ ys. slice_get ys k) r.items ∙ get_last (old.reads (other i e)).items x k (now.0 ∙ sym (h.answered e le));
          greatest = ap (λ (c : Called V). c.seen) (sym now.1) ∙ m.sees
              ∙ ap (λ o. greatest o m.answers) (sym (own_same k (let z = now.0 in omega arith) ∙ ap (own_before first old.calls) now.0));
        }
      ]
