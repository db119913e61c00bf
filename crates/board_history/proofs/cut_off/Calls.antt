-- A call that is cut off, behind calls that have all ended: what its process did is a process so far.
use Rattle.std.proofs.Common.{◌≡◌, ℕ, zero, suc, ◌+◌, ◌-◌, ◌*◌, ◌<◌, ◌≤◌, List, [], ◌∷◌, ◌++◌, length, slice_get, Option, None, Some}
use Rattle.std.proofs.Common.{Bool, true, false, refl, sym, ◌∙◌, ap, subst, arith, inl, inr, add-mul}
use Rattle.std.proofs.lemmas.Bool.{cases_lt}
use Rattle.std.proofs.lemmas.List.{length_push, length-append}
use Rattle.std.proofs.lemmas.Option.{slice_get_within}
use Rattle.history_core.proofs.Places.{get_after, get_before, get_last, get_pushed, get_pushed_cases}
use Rattle.history_core.proofs.Played.{later_operation}
use Rattle.matrix_core.specs.declared.stamp.Stamped.{Stamped}
use Rattle.matrix_core.specs.Choices.{ChoosesByKind}
use Rattle.matrix_core.specs.Stamps.{greatest}
use Rattle.matrix_core.specs.Lines.{other}
use Rattle.matrix_core.proofs.lists.Elements.{get_exists}
use Rattle.board_history.specs.Accesses.{IsInterval}
use Rattle.board_history.specs.BoardRuns.{AreReads, AreWrites, Called, Did, IsProcess, own_before, records, Sees, steps_before}
use Rattle.board_history.specs.BoardRuns.{steps_of_call, told, Written}
use Rattle.board_history.proofs.Growing.{not_both}
use Rattle.board_history.proofs.Told.{column_steps, one_if, records_more, steps_next, steps_rise, steps_stay, told_next}
use Rattle.board_history.proofs.Told.{told_rises, told_stays}
use Rattle.board_history.specs.CutOff.{if_there, IsPart, ReadsColumn, WritesRow}
use Rattle.board_history.specs.RunsSoFar.{AreReadsSoFar, AreWritesSoFar, IsProcessSoFar}

get_part : (xs : List ℕ) (o : Option ℕ) → slice_get (xs ++ if_there o) (length xs) ≡ o
get_part [] None = refl
get_part [] (Some t) = refl
get_part (x ∷ xs) o = get_part xs o

-- what a process had before a call doesn't change with a later call
own_stays : {V : Type 0} (first : Stamped V) (calls : List (Called V)) (c : Called V) (k : ℕ) → k ≤ length calls →
    own_before first (calls ++ c ∷ []) k ≡ own_before first calls k
own_stays first [] c zero l = refl
own_stays first [] c (suc k) l = absurd (omega arith)
own_stays first (d ∷ calls) c zero l = refl
own_stays first (d ∷ calls) c (suc k) l = own_stays d.chosen calls c k (omega arith)

-- an access of a call is within its steps
access_within : (width n access : ℕ) (tells finds : Bool) → (tells ≡ true → access < (n - 1) + (n - 1)) →
    (tells ≡ false → access < n - 1) → access * width + width ≤ steps_of_call width n tells finds
access_within width n access true finds l m =
    let r : access * width + width ≤ ((n - 1) + (n - 1)) * width = later_operation width access ((n - 1) + (n - 1)) (l refl) in
    let s : ((n - 1) + (n - 1)) * width ≡ (n - 1) * width + (n - 1) * width = add-mul (n - 1) (n - 1) width in
    omega arith
access_within width n access false finds l m =
    let r : access * width + width ≤ (n - 1) * width = later_operation width access (n - 1) (m refl) in
    let c : (n - 1) * width ≤ steps_of_call width n false finds = column_steps width n false finds in
    omega arith

module _ {V : Type 0} (width n : ℕ) (old new : Did V) (call : Called V) (steps : List ℕ) (calls : new.calls ≡ old.calls ++ call ∷ [])
    (times : new.times ≡ old.times ++ steps) (long : length old.times ≡ steps_before width n old.calls (length old.calls)) where
  count : length new.calls ≡ length old.calls + 1
  count = ap length calls ∙ length_push old.calls call

  before_same : (k : ℕ) → k ≤ length old.calls → steps_before width n new.calls k ≡ steps_before width n old.calls k
  before_same k l = ap (λ cs. steps_before width n cs k) calls ∙ steps_stay width n old.calls call k l

  told_same : (k : ℕ) → k ≤ length old.calls → told new.calls k ≡ told old.calls k
  told_same k l = ap (λ cs. told cs k) calls ∙ told_stays old.calls call k l

  -- a step of an earlier call stays where it is, and one of the last call follows
  earlier : (k at : ℕ) (c : Called V) → slice_get old.calls k ≡ Some c → at < steps_of_call width n c.tells c.finds →
      slice_get new.times (steps_before width n new.calls k + at) ≡ slice_get old.times (steps_before width n old.calls k + at)
  earlier k at c e la =
      let l : k < length old.calls = slice_get_within old.calls k c e in
      let next : steps_before width n old.calls (suc k) ≡ steps_before width n old.calls k + steps_of_call width n c.tells c.finds =
      steps_next width n old.calls k c e in
      let room : steps_before width n old.calls (suc k) ≤ steps_before width n old.calls (length old.calls) =
      steps_rise width n old.calls (suc k) (length old.calls) (omega arith) in
      ap (λ ts. slice_get ts (steps_before width n new.calls k + at)) times
      ∙ ap (λ z. slice_get (old.times ++ steps) (z + at)) (before_same k (omega arith))
      ∙ get_before old.times steps (steps_before width n old.calls k + at) (omega arith)

  last : (at : ℕ) → slice_get new.times (steps_before width n new.calls (length old.calls) + at) ≡ slice_get steps at
  last at = ap (λ ts. slice_get ts (steps_before width n new.calls (length old.calls) + at)) times
      ∙ ap (λ z. slice_get (old.times ++ steps) (z + at)) (before_same (length old.calls) (omega arith) ∙ sym long)
      ∙ get_after old.times steps at

  -- the accesses of the column, with those of the last call
  more_reads : (access : ℕ) (begins ends begins' ends' : List ℕ) → 0 < width → access < n - 1 → AreReads width n old access begins ends →
      IsInterval width steps access begins ends begins' ends' → AreReadsSoFar width n new access begins' ends'
  more_reads access begins ends begins' ends' some within h is = record {
    begun = λ k l. begun k l;
    ended = λ k l. ended k l;
  }
    where
      room : (tells finds : Bool) → access * width + width ≤ steps_of_call width n tells finds
      room tells finds = access_within width n access tells finds (λ t. omega arith) (λ t. within)

      begun : (k : ℕ) → k < length new.calls →
          slice_get begins' k ≡ slice_get new.times (steps_before width n new.calls k + access * width)
      begun k l = elim (cases_lt k (length old.calls)) [
        | inl lt ↦
            let x = h.all.0 in
            let c = get_exists old.calls k lt in
            let r : access * width + width ≤ steps_of_call width n c.0.tells c.0.finds = room c.0.tells c.0.finds in
            ap (λ bs. slice_get bs k) is.begun ∙ get_pushed begins is.begin k (λ e. omega arith) ∙ h.begun k lt
            ∙ sym (earlier k (access * width) c.0 c.1 (omega arith))
        | inr ge ↦
            let x = h.all.0 in
            let same : k ≡ length old.calls = let c = count in omega arith in
            ap (λ bs. slice_get bs k) is.begun ∙ get_last begins is.begin k (omega arith) ∙ sym is.first ∙ sym (last (access * width))
            ∙ ap (λ m. slice_get new.times (steps_before width n new.calls m + access * width)) (sym same)
      ]

      ended : (k : ℕ) → k < length new.calls →
          slice_get ends' k ≡ slice_get new.times (steps_before width n new.calls k + (access * width + (width - 1)))
      ended k l = elim (cases_lt k (length old.calls)) [
        | inl lt ↦
            let x = h.all.1 in
            let c = get_exists old.calls k lt in
            let r : access * width + width ≤ steps_of_call width n c.0.tells c.0.finds = room c.0.tells c.0.finds in
            ap (λ bs. slice_get bs k) is.ended ∙ get_pushed ends is.end k (λ e. omega arith) ∙ h.ended k lt
            ∙ sym (earlier k (access * width + (width - 1)) c.0 c.1 (omega arith))
        | inr ge ↦
            let x = h.all.1 in
            let same : k ≡ length old.calls = let c = count in omega arith in
            ap (λ bs. slice_get bs k) is.ended ∙ get_last ends is.end k (omega arith) ∙ sym is.last
            ∙ sym (last (access * width + (width - 1)))
            ∙ ap (λ m. slice_get new.times (steps_before width n new.calls m + (access * width + (width - 1)))) (sym same)
      ]

  -- the writes of the row, of which the last call's are the last
  more_writes : (access : ℕ) (begins ends begins' ends' : List ℕ) → 0 < width → access < (n - 1) + (n - 1) → call.tells ≡ true →
      AreWrites width n old access begins ends → IsPart width steps access begins ends begins' ends' →
      AreWritesSoFar width n new access begins' ends'
  more_writes access begins ends begins' ends' some within tells h is = record {
    begun = λ k c e t. elim (get_pushed_cases old.calls call k c (ap (λ cs. slice_get cs k) (sym calls) ∙ e)) [
      | inl was ↦
          let x = h.all.0 in
          let r : access * width + width ≤ steps_of_call width n c.tells c.finds = room c t in
          let below = told_below k c was t in
          ap (λ bs. slice_get bs (told new.calls k)) is.begun
          ∙ ap (slice_get (begins ++ if_there (slice_get steps (access * width)))) (told_same k (old_inside k c was))
          ∙ get_before begins (if_there (slice_get steps (access * width))) (told old.calls k) (omega arith) ∙ h.begun k c was t
          ∙ sym (earlier k (access * width) c was (omega arith))
      | inr now ↦
          let x = h.all.0 in
          ap (λ bs. slice_get bs (told new.calls k)) is.begun
          ∙ ap (slice_get (begins ++ if_there (slice_get steps (access * width))))
          (ap (told new.calls) now.0 ∙ told_same (length old.calls) (omega arith) ∙ sym x)
          ∙ get_part begins (slice_get steps (access * width)) ∙ sym (last (access * width))
          ∙ ap (λ m. slice_get new.times (steps_before width n new.calls m + access * width)) (sym now.0)
    ];
    ended = λ k c e t. elim (get_pushed_cases old.calls call k c (ap (λ cs. slice_get cs k) (sym calls) ∙ e)) [
      | inl was ↦
          let x = h.all.1 in
          let r : access * width + width ≤ steps_of_call width n c.tells c.finds = room c t in
          let below = told_below k c was t in
          ap (λ bs. slice_get bs (told new.calls k)) is.ended
          ∙ ap (slice_get (ends ++ if_there (slice_get steps (access * width + (width - 1))))) (told_same k (old_inside k c was))
          ∙ get_before ends (if_there (slice_get steps (access * width + (width - 1)))) (told old.calls k) (omega arith) ∙ h.ended k c was t
          ∙ sym (earlier k (access * width + (width - 1)) c was (omega arith))
      | inr now ↦
          let x = h.all.1 in
          ap (λ bs. slice_get bs (told new.calls k)) is.ended
          ∙ ap (slice_get (ends ++ if_there (slice_get steps (access * width + (width - 1)))))
          (ap (told new.calls) now.0 ∙ told_same (length old.calls) (omega arith) ∙ sym x)
          ∙ get_part ends (slice_get steps (access * width + (width - 1))) ∙ sym (last (access * width + (width - 1)))
          ∙ ap (λ m. slice_get new.times (steps_before width n new.calls m + (access * width + (width - 1)))) (sym now.0)
    ];
  }
    where
      room : (c : Called V) → c.tells ≡ true → access * width + width ≤ steps_of_call width n c.tells c.finds
      room c t = access_within width n access c.tells c.finds (λ u. within) (λ f. absurd (not_both c.tells t f))

      old_inside : (k : ℕ) (c : Called V) → slice_get old.calls k ≡ Some c → k ≤ length old.calls
      old_inside k c was = let l : k < length old.calls = slice_get_within old.calls k c was in omega arith

      told_below : (k : ℕ) (c : Called V) → slice_get old.calls k ≡ Some c → c.tells ≡ true →
          told old.calls k < told old.calls (length old.calls)
      told_below k c was t =
          let l : k < length old.calls = slice_get_within old.calls k c was in
          let next : told old.calls (suc k) ≡ told old.calls k + 1 = told_next old.calls k c was
          ∙ ap (λ b. told old.calls k + one_if b) t in
          let r : told old.calls (suc k) ≤ told old.calls (length old.calls) =
          told_rises old.calls (suc k) (length old.calls) (omega arith) in
          omega arith

module _ {V : Type 0} (width n limit : ℕ) (first : Stamped V) (i : ℕ) where
  pub row_begun : (old new : Did V) (call : Called V) → 2 ≤ n → 0 < width → IsProcess width n limit first i old →
      WritesRow width n limit first i old new call → IsProcessSoFar width n limit first i new
  row_begun old new call two some h m = record {
    long =
        let t : length new.times ≡ length old.times + length m.steps = ap length m.times ∙ length-append old.times m.steps in
        let c : length new.calls ≡ suc (length old.calls) = let x = counted in omega arith in
        let l = h.long in
        let z = m.few in
        let next : steps_before width n new.calls (suc (length old.calls))
        ≡ steps_before width n new.calls (length old.calls) + ((n - 1) * width + (n - 1) * width) =
        steps_next width n new.calls (length old.calls) call at_last
        ∙ ap (λ b. steps_before width n new.calls (length old.calls) + steps_of_call width n b call.finds) m.tells in
        let same : steps_before width n new.calls (length old.calls) ≡ steps_before width n old.calls (length old.calls) =
        before_same width n old new call m.steps m.calls m.times h.long (length old.calls) (omega arith) in
        let all : steps_before width n new.calls (length new.calls) ≡ steps_before width n new.calls (suc (length old.calls)) =
        ap (steps_before width n new.calls) c in
        omega arith;
    begun = λ k c e. elim (get_pushed_cases old.calls call k c (ap (λ cs. slice_get cs k) (sym m.calls) ∙ e)) [
      | inl was ↦
          let z : steps_before width n new.calls k + 0 ≡ steps_before width n new.calls k = omega arith in
          let y : steps_before width n old.calls k + 0 ≡ steps_before width n old.calls k = omega arith in
          ap (slice_get new.times) (sym z) ∙ earlier width n old new call m.steps m.calls m.times h.long k 0 c was (least c.tells c.finds)
          ∙ ap (slice_get old.times) y ∙ h.begun k c was
      | inr now ↦
          let z : steps_before width n new.calls (length old.calls) ≡ steps_before width n new.calls (length old.calls) + 0 = omega arith in
          ap (λ z. slice_get new.times (steps_before width n new.calls z)) now.0 ∙ ap (slice_get new.times) z
          ∙ last width n old new call m.steps m.calls m.times h.long 0 ∙ m.begun ∙ ap (λ (z : Called V). Some z.begin) now.1
    ];
    chose = λ k c e. chose k c e;
    reads = λ e l.
        let x = get_exists m.answers e (let z = m.each in omega arith) in
        let r = m.reads e x.0 x.1 in
        more_reads width n old new call m.steps m.calls m.times h.long e (old.reads (other i e)).begins (old.reads (other i e)).ends
        (new.reads (other i e)).begins (new.reads (other i e)).ends some (omega arith) (h.reads e l) r.interval;
    writes = λ e l. more_writes width n old new call m.steps m.calls m.times h.long (n - 1 + e) (old.writes (other i e)).begins
        (old.writes (other i e)).ends (new.writes (other i e)).begins (new.writes (other i e)).ends some
        (omega arith) m.tells (h.writes e l) (m.writes e l);
    written = λ e l x a at.
        ap (λ ys. slice_get ys x) (ap records m.calls ∙ records_more old.calls call m.tells
        ∙ ap (λ ys. ys ++ call.chosen ∷ []) (sym (h.written e l))) ∙ m.items e l x a at;
    silent = λ k c e t f. elim (get_pushed_cases old.calls call k c (ap (λ cs. slice_get cs k) (sym m.calls) ∙ e)) [
      | inl was ↦ h.silent k c was t f ∙ sym (own_same k (let l : k < length old.calls = slice_get_within old.calls k c was in omega arith))
      | inr now ↦ absurd (not_both call.tells m.tells (ap (λ (z : Called V). z.tells) now.1 ∙ t))
    ];
    sees = λ k c e. saw k c e;
    chooses = λ k place c e. elim (get_pushed_cases old.calls call k c (ap (λ cs. slice_get cs k) (sym m.calls) ∙ e)) [
      | inl was ↦ h.chooses k place c was
      | inr now ↦ subst (λ (c : Called V). ChoosesByKind limit
          (record { place = place; who = i; kind = c.kind; stamp = c.chosen.stamp; item = c.chosen.item }) c.kind c.seen.stamp c.seen.item)
          now.1 (m.chooses place)
    ];
  }
    where
      counted : length new.calls ≡ length old.calls + 1
      counted = ap length m.calls ∙ length_push old.calls call

      at_last : slice_get new.calls (length old.calls) ≡ Some call
      at_last = ap (λ cs. slice_get cs (length old.calls)) m.calls ∙ get_last old.calls call (length old.calls) refl

      least : (tells finds : Bool) → 0 < steps_of_call width n tells finds
      least tells finds =
          let a : 0 * width + width ≤ (n - 1) * width = later_operation width 0 (n - 1) (omega arith) in
          let b : (n - 1) * width ≤ steps_of_call width n tells finds = column_steps width n tells finds in
          omega arith

      own_same : (k : ℕ) → k ≤ length old.calls → own_before first new.calls k ≡ own_before first old.calls k
      own_same k l = ap (λ cs. own_before first cs k) m.calls ∙ own_stays first old.calls call k l

      answered : (k e : ℕ) (x answer : Stamped V) → slice_get (old.reads (other i e)).items k ≡ Some x →
          slice_get m.answers e ≡ Some answer →
          slice_get (new.reads (other i e)).items k ≡ Some x
      answered k e x answer was there =
          let r = m.reads e answer there in
          ap (λ ys. slice_get ys k) r.items
          ∙ get_pushed (old.reads (other i e)).items answer k (let l = slice_get_within (old.reads (other i e)).items k x was in
          λ z. omega arith) ∙ was

      saw : (k : ℕ) (c : Called V) → slice_get new.calls k ≡ Some c → Sees n first i new k c.seen
      saw k c e = elim (get_pushed_cases old.calls call k c (ap (λ cs. slice_get cs k) (sym m.calls) ∙ e)) [
        | inl was ↦
            let s = h.sees k c was in
            let lk : k < length old.calls = slice_get_within old.calls k c was in
            record {
              answers = s.answers;
              each = s.each;
              answered = λ e x there.
                  let le : e < length m.answers = let a = slice_get_within s.answers e x there in
                  let b = s.each in let d = m.each in omega arith in
                  let y = get_exists m.answers e le in
                  answered k e x y.0 (s.answered e x there) y.1;
              greatest = s.greatest ∙ ap (λ o. greatest o s.answers) (sym (own_same k (omega arith)));
            }
        | inr now ↦ record {
          answers = m.answers;
          each = m.each;
          answered = λ e x there.
              let r = m.reads e x there in
              let le : e + 1 < n = let a = slice_get_within m.answers e x there in let b = m.each in omega arith in
              ap (λ ys. slice_get ys k) r.items ∙ get_last (old.reads (other i e)).items x k (now.0 ∙ sym (h.answered e le));
          greatest = ap (λ (c : Called V). c.seen) (sym now.1) ∙ m.sees
              ∙ ap (λ o. greatest o m.answers) (sym (own_same k (let z = now.0 in omega arith) ∙ ap (own_before first old.calls) now.0));
        }
      ]

      chose : (k : ℕ) (c : Called V) → slice_get new.calls k ≡ Some c →
          (t : ℕ) × (slice_get new.times (steps_before width n new.calls k + ((n - 1) * width - 1)) ≡ Some t)
      chose k c e = elim (get_pushed_cases old.calls call k c (ap (λ cs. slice_get cs k) (sym m.calls) ∙ e)) [
        | inl was ↦
            let lk : k < length old.calls = slice_get_within old.calls k c was in
            let a : 0 * width + width ≤ (n - 1) * width = later_operation width 0 (n - 1) (omega arith) in
            let b : (n - 1) * width ≤ steps_of_call width n c.tells c.finds = column_steps width n c.tells c.finds in
            let next : steps_before width n old.calls (suc k) ≡ steps_before width n old.calls k + steps_of_call width n c.tells c.finds =
            steps_next width n old.calls k c was in
            let r : steps_before width n old.calls (suc k) ≤ steps_before width n old.calls (length old.calls) =
            steps_rise width n old.calls (suc k) (length old.calls) (omega arith) in
            let long = h.long in
            let t = get_exists old.times (steps_before width n old.calls k + ((n - 1) * width - 1)) (omega arith) in
            (t.0, earlier width n old new call m.steps m.calls m.times h.long k ((n - 1) * width - 1) c was (omega arith) ∙ t.1)
        | inr now ↦
            let a : 0 * width + width ≤ (n - 1) * width = later_operation width 0 (n - 1) (omega arith) in
            let enough = m.enough in
            let t = get_exists m.steps ((n - 1) * width - 1) (omega arith) in (
              t.0,
              ap (λ z. slice_get new.times (steps_before width n new.calls z + ((n - 1) * width - 1))) now.0
                  ∙ last width n old new call m.steps m.calls m.times h.long ((n - 1) * width - 1) ∙ t.1,
            )
      ]

  -- in its column
  pub column_begun : (old new : Did V) → 2 ≤ n → 0 < width → IsProcess width n limit first i old → ReadsColumn width n i old new →
      IsProcessSoFar width n limit first i new
  column_begun old new two some h m = record {
    long =
        let t : length new.times ≡ length old.times + length m.steps = ap length m.times ∙ length-append old.times m.steps in
        let l = h.long in
        let z = m.few in
        let all : steps_before width n new.calls (length new.calls) ≡ steps_before width n old.calls (length old.calls) =
        ap (λ cs. steps_before width n cs (length cs)) m.calls in
        omega arith;
    begun = λ k c e.
        let w = was k c e in
        let z : steps_before width n old.calls k + 0 ≡ steps_before width n old.calls k = omega arith in
        ap (slice_get new.times) (ap (λ cs. steps_before width n cs k) m.calls ∙ sym z) ∙ stays k 0 c w (least c.tells c.finds)
        ∙ ap (slice_get old.times) z ∙ h.begun k c w;
    chose = λ k c e.
        let w = was k c e in
        let lk : k < length old.calls = slice_get_within old.calls k c w in
        let a = least c.tells c.finds in
        let b : (n - 1) * width ≤ steps_of_call width n c.tells c.finds = column_steps width n c.tells c.finds in
        let d : 0 * width + width ≤ (n - 1) * width = later_operation width 0 (n - 1) (omega arith) in
        let next : steps_before width n old.calls (suc k) ≡ steps_before width n old.calls k + steps_of_call width n c.tells c.finds =
        steps_next width n old.calls k c w in
        let r : steps_before width n old.calls (suc k) ≤ steps_before width n old.calls (length old.calls) =
        steps_rise width n old.calls (suc k) (length old.calls) (omega arith) in
        let long = h.long in
        let t = get_exists old.times (steps_before width n old.calls k + ((n - 1) * width - 1)) (omega arith) in (
          t.0,
          ap (λ cs. slice_get new.times (steps_before width n cs k + ((n - 1) * width - 1))) m.calls
              ∙ stays k ((n - 1) * width - 1) c w (omega arith) ∙ t.1,
        );
    reads = λ e l. record { begun = λ k lk. read_begun e k l lk; ended = λ k lk. read_ended e k l lk };
    writes = λ e l. record {
      begun = λ k c at t.
          let w = was k c at in
          let r : (n - 1 + e) * width + width ≤ steps_of_call width n c.tells c.finds = write_room e c.tells c.finds l t in
          ap (λ (z : Written V). slice_get z.begins (told new.calls k)) (m.writes e l)
          ∙ ap (λ cs. slice_get (old.writes (other i e)).begins (told cs k)) m.calls ∙ (h.writes e l).begun k c w t
          ∙ sym (stays k ((n - 1 + e) * width) c w (omega arith))
          ∙ ap (λ cs. slice_get new.times (steps_before width n cs k + (n - 1 + e) * width)) (sym m.calls);
      ended = λ k c at t.
          let w = was k c at in
          let r : (n - 1 + e) * width + width ≤ steps_of_call width n c.tells c.finds = write_room e c.tells c.finds l t in
          ap (λ (z : Written V). slice_get z.ends (told new.calls k)) (m.writes e l)
          ∙ ap (λ cs. slice_get (old.writes (other i e)).ends (told cs k)) m.calls ∙ (h.writes e l).ended k c w t
          ∙ sym (stays k ((n - 1 + e) * width + (width - 1)) c w (omega arith))
          ∙ ap (λ cs. slice_get new.times (steps_before width n cs k + ((n - 1 + e) * width + (width - 1)))) (sym m.calls);
    };
    written = λ e l x a at.
        ap (λ ys. slice_get ys x) (ap records m.calls ∙ sym (h.written e l) ∙ ap (λ (z : Written V). z.items) (sym (m.writes e l))) ∙ at;
    silent = λ k c e t f. h.silent k c (was k c e) t f ∙ ap (λ cs. own_before first cs k) (sym m.calls);
    sees = λ k c e.
        let s = h.sees k c (was k c e) in
        record {
          answers = s.answers;
          each = s.each;
          answered = λ x answer at.
              m.answered x (let a = slice_get_within s.answers x answer at in let b = s.each in omega arith) k answer
              (s.answered x answer at);
          greatest = s.greatest ∙ ap (λ cs. greatest (own_before first cs k) s.answers) (sym m.calls);
        };
    chooses = λ k place c e. h.chooses k place c (was k c e);
  }
    where
      was : (k : ℕ) (c : Called V) → slice_get new.calls k ≡ Some c → slice_get old.calls k ≡ Some c
      was k c e = ap (λ cs. slice_get cs k) (sym m.calls) ∙ e

      least : (tells finds : Bool) → 0 < steps_of_call width n tells finds
      least tells finds =
          let a : 0 * width + width ≤ (n - 1) * width = later_operation width 0 (n - 1) (omega arith) in
          let b : (n - 1) * width ≤ steps_of_call width n tells finds = column_steps width n tells finds in
          omega arith

      write_room : (e : ℕ) (tells finds : Bool) → e + 1 < n → tells ≡ true →
          (n - 1 + e) * width + width ≤ steps_of_call width n tells finds
      write_room e tells finds l t = access_within width n (n - 1 + e) tells finds (λ u. omega arith) (λ f. absurd (not_both tells t f))

      stays : (k at : ℕ) (c : Called V) → slice_get old.calls k ≡ Some c → at < steps_of_call width n c.tells c.finds →
          slice_get new.times (steps_before width n old.calls k + at) ≡ slice_get old.times (steps_before width n old.calls k + at)
      stays k at c e la =
          let l : k < length old.calls = slice_get_within old.calls k c e in
          let next : steps_before width n old.calls (suc k) ≡ steps_before width n old.calls k + steps_of_call width n c.tells c.finds =
          steps_next width n old.calls k c e in
          let room : steps_before width n old.calls (suc k) ≤ steps_before width n old.calls (length old.calls) =
          steps_rise width n old.calls (suc k) (length old.calls) (omega arith) in
          let long = h.long in
          ap (λ ts. slice_get ts (steps_before width n old.calls k + at)) m.times
          ∙ get_before old.times m.steps (steps_before width n old.calls k + at) (omega arith)

      read_room : (e : ℕ) (tells finds : Bool) → e + 1 < n → e * width + width ≤ steps_of_call width n tells finds
      read_room e tells finds l =
          let a : e * width + width ≤ (n - 1) * width = later_operation width e (n - 1) (omega arith) in
          let b : (n - 1) * width ≤ steps_of_call width n tells finds = column_steps width n tells finds in
          omega arith

      read_begun : (e k : ℕ) → e + 1 < n → k < length new.calls →
          slice_get (new.reads (other i e)).begins k ≡ slice_get new.times (steps_before width n new.calls k + e * width)
      read_begun e k l lk =
          let count : length new.calls ≡ length old.calls = ap length m.calls in
          let lo : k < length old.calls = omega arith in
          let c = get_exists old.calls k lo in
          let a = (h.reads e l).all.0 in
          let r : e * width + width ≤ steps_of_call width n c.0.tells c.0.finds = read_room e c.0.tells c.0.finds l in
          ap (λ bs. slice_get bs k) (m.reads e l).begun
          ∙ get_before (old.reads (other i e)).begins (if_there (slice_get m.steps (e * width))) k (omega arith)
          ∙ (h.reads e l).begun k lo ∙ sym (stays k (e * width) c.0 c.1 (omega arith))
          ∙ ap (λ cs. slice_get new.times (steps_before width n cs k + e * width)) (sym m.calls)

      read_ended : (e k : ℕ) → e + 1 < n → k < length new.calls →
          slice_get (new.reads (other i e)).ends k ≡ slice_get new.times (steps_before width n new.calls k + (e * width + (width - 1)))
      read_ended e k l lk =
          let count : length new.calls ≡ length old.calls = ap length m.calls in
          let lo : k < length old.calls = omega arith in
          let c = get_exists old.calls k lo in
          let a = (h.reads e l).all.1 in
          let r : e * width + width ≤ steps_of_call width n c.0.tells c.0.finds = read_room e c.0.tells c.0.finds l in
          ap (λ bs. slice_get bs k) (m.reads e l).ended
          ∙ get_before (old.reads (other i e)).ends (if_there (slice_get m.steps (e * width + (width - 1)))) k (omega arith)
          ∙ (h.reads e l).ended k lo ∙ sym (stays k (e * width + (width - 1)) c.0 c.1 (omega arith))
          ∙ ap (λ cs. slice_get new.times (steps_before width n cs k + (e * width + (width - 1)))) (sym m.calls)
