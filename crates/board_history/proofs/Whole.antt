-- A run whose calls have all ended is a run so far, and its history is one so far, and the other way round: so what is proved of runs so
-- far holds of it.
use Rattle.std.proofs.Common.{◌≡◌, ◌⊎◌, ℕ, suc, ◌+◌, ◌-◌, ◌*◌, ◌<◌, ◌≤◌, List, [], ◌∷◌, length, slice_get, Option, Some}
use Rattle.std.proofs.Common.{sym, ◌∙◌, ap, subst, arith, inl, inr}
use Rattle.std.proofs.lemmas.Option.{same_Some, slice_get_within}
use Rattle.history_core.specs.declared.history.Op.{Op}
use Rattle.history_core.specs.Orders.{IsAtomicOrder, RefusesLawfully}
use Rattle.matrix_core.specs.declared.stamp.Stamp.{Stamp}
use Rattle.matrix_core.specs.Choices.{Choice, HasChoices, IsAtMost}
use Rattle.matrix_core.specs.Lines.{first_record}
use Rattle.matrix_core.specs.Listings.{IsInOrder}
use Rattle.matrix_core.proofs.lists.Elements.{get_exists}
use Rattle.board_history.specs.BoardRuns.{Called, Did, end_of, IsBoardRun, IsProcess, own_before, steps_before, steps_of_call}
use Rattle.board_history.specs.Histories.{IsOpOfCall, IsHistory}
use Rattle.board_history.specs.HistoriesSoFar.{IsOpOfCallSoFar, IsHistorySoFar, IsUnchosenCall}
use Rattle.board_history.specs.RunsSoFar.{IsBoardRunSoFar, IsProcessSoFar, unchosen_begin}
use Rattle.board_history.proofs.Atomic.{choices_there as choices_so_far, history_atomic as atomic_so_far, history_lawful as lawful_so_far}
use Rattle.board_history.proofs.Rising.{own_rises as rises_so_far}
use Rattle.board_history.proofs.There.{all_there as there_so_far}
use Rattle.board_history.proofs.Timed.{begin_once as once_so_far, in_turn as turns_so_far, lasts as lasts_so_far}
use Rattle.board_history.proofs.Told.{column_steps, line_some, steps_next, steps_rise}

module _ {V : Type 0} (width n limit : ℕ) (opening : V) (steps : List ℕ) (did : ℕ → Did V)
    (run : IsBoardRun width n limit (first_record opening) steps did) where
  -- a call has made its column
  chose : (i k : ℕ) (c : Called V) → i < n → slice_get (did i).calls k ≡ Some c →
      (t : ℕ) × (slice_get (did i).times (steps_before width n (did i).calls k + ((n - 1) * width - 1)) ≡ Some t)
  chose i k c l e =
      let lk : k < length (did i).calls = slice_get_within (did i).calls k c e in
      let a : (n - 1) * width ≤ steps_of_call width n c.tells c.finds = column_steps width n c.tells c.finds in
      let b : steps_before width n (did i).calls (suc k) ≡ steps_before width n (did i).calls k + steps_of_call width n c.tells c.finds =
      steps_next width n (did i).calls k c e in
      let d : steps_before width n (did i).calls (suc k) ≤ steps_before width n (did i).calls (length (did i).calls) =
      steps_rise width n (did i).calls (suc k) (length (did i).calls) (omega arith) in
      let long : length (did i).times ≡ steps_before width n (did i).calls (length (did i).calls) = (run.each i l).long in
      let p : 0 < (n - 1) * width = line_some width n run.size.0 run.size.2 in
      get_exists (did i).times (steps_before width n (did i).calls k + ((n - 1) * width - 1)) (omega arith)

  whole_process : (i : ℕ) → i < n → IsProcessSoFar width n limit (first_record opening) i (did i)
  whole_process i l =
      let p : IsProcess width n limit (first_record opening) i (did i) = run.each i l in
      record {
        long = let e = p.long in omega arith;
        begun = p.begun;
        chose = λ k c e. chose i k c l e;
        reads = λ e le. let r = p.reads e le in record { begun = r.begun; ended = r.ended };
        writes = λ e le. let w = p.writes e le in record { begun = w.begun; ended = w.ended };
        written = λ e le x a h. ap (λ ys. slice_get ys x) (sym (p.written e le)) ∙ h;
        silent = p.silent;
        sees = p.sees;
        chooses = p.chooses;
      }

  pub whole_run : IsBoardRunSoFar width n limit (first_record opening) steps did
  whole_run = record {
    size = run.size;
    within = run.within;
    scheduled = run.scheduled;
    each = whole_process;
    finds = run.finds;
    registers = run.registers;
  }

  -- a call has ended, and none hasn't chosen
  ended : (i k : ℕ) (c : Called V) → i < n → slice_get (did i).calls k ≡ Some c → end_of width n (did i) k c ≡ Some c.end
  ended i k c l e = (run.each i l).ended k c e

  none_unchosen : (i begin : ℕ) → i < n → unchosen_begin width n (did i) ≡ Some begin → ⊥
  none_unchosen i begin l e =
      let long = (run.each i l).long in
      let within = slice_get_within (did i).times (steps_before width n (did i).calls (length (did i).calls)) begin e in omega arith

  pub lasts : (i k : ℕ) (c : Called V) → i < n → slice_get (did i).calls k ≡ Some c → c.begin ≤ c.end
  lasts i k c l e = lasts_so_far width n limit opening steps did whole_run i k c.end c l e (ended i k c l e)

  pub in_turn : (i k m : ℕ) (c d : Called V) → i < n → slice_get (did i).calls k ≡ Some c → slice_get (did i).calls m ≡ Some d → k < m →
      c.end < d.begin
  in_turn i k m c d l ec ed lt =
      let t = turns_so_far width n limit opening steps did whole_run i k m c d l ec ed lt in
      subst (λ z. z < d.begin) (same_Some t.0 c.end (sym t.1 ∙ ended i k c l ec)) t.2

  pub begin_once : (i j k m : ℕ) (c d : Called V) → i < n → j < n → slice_get (did i).calls k ≡ Some c →
      slice_get (did j).calls m ≡ Some d → c.begin ≡ d.begin → (i ≡ j) × (k ≡ m)
  begin_once = once_so_far width n limit opening steps did whole_run

  pub own_rises : (i j more : ℕ) → i < n → j + more ≤ length (did i).calls →
      IsAtMost (own_before (first_record opening) (did i).calls j).stamp (own_before (first_record opening) (did i).calls (j + more)).stamp
  own_rises = rises_so_far width n limit opening steps did whole_run

  module _ (ops : List (Op V)) (stamps : List (Option Stamp)) where
    whole_call : (op : Op V) (stamp : Option Stamp) (k : ℕ) → IsOpOfCall n did op stamp k → IsOpOfCallSoFar width n did op stamp k
    whole_call op stamp k is = record {
      who = is.who;
      call = is.call;
      made = is.made;
      kind = is.kind;
      item = is.item;
      stamp = is.stamp;
      begins = is.begins;
      ends = is.ends ∙ sym (ended op.who k is.call is.who is.made);
    }

    pub whole_history : IsHistory n did ops stamps → IsHistorySoFar width n did ops stamps
    whole_history h = record {
      long = h.long;
      each = λ p op stamp e s. let c = h.each p op stamp e s in inl (c.0, whole_call op stamp c.0 c.1);
      all = λ i k c l e. let w = h.all i k c l e in (w.0, w.1, w.2, w.3, w.4, w.5, whole_call w.1 w.2 k w.6);
      unchosen = λ i begin l e. absurd (none_unchosen i begin l e);
      rising = h.rising;
    }

    call_whole : (op : Op V) (stamp : Option Stamp) (k : ℕ) → IsOpOfCallSoFar width n did op stamp k → IsOpOfCall n did op stamp k
    call_whole op stamp k is = record {
      who = is.who;
      call = is.call;
      made = is.made;
      kind = is.kind;
      item = is.item;
      stamp = is.stamp;
      begins = is.begins;
      ends = is.ends ∙ ended op.who k is.call is.who is.made;
    }

    each_whole : (op : Op V) (stamp : Option Stamp) →
        ((k : ℕ) × IsOpOfCallSoFar width n did op stamp k) ⊎ IsUnchosenCall width n did op stamp →
        (k : ℕ) × IsOpOfCall n did op stamp k
    each_whole op stamp (inl c) = (c.0, call_whole op stamp c.0 c.1)
    each_whole op stamp (inr u) = absurd (none_unchosen op.who op.starts u.who u.begins)

    pub history_whole : IsHistorySoFar width n did ops stamps → IsHistory n did ops stamps
    history_whole h = record {
      long = h.long;
      each = λ p op stamp e s. each_whole op stamp (h.each p op stamp e s);
      all = λ i k c l e. let w = h.all i k c l e in (w.0, w.1, w.2, w.3, w.4, w.5, call_whole w.1 w.2 k w.6);
      rising = h.rising;
    }

    pub choices_there : IsHistory n did ops stamps → (choices : List (Choice V)) × HasChoices opening limit ops stamps choices
    choices_there h = choices_so_far width n limit opening steps did whole_run ops stamps (whole_history h)

    pub history_atomic : IsHistory n did ops stamps → (order : List ℕ) → IsInOrder ops stamps order →
        IsAtomicOrder (λ x y. x ≡ y) opening ops order
    history_atomic h = atomic_so_far width n limit opening steps did whole_run ops stamps (whole_history h)

    pub history_lawful : IsHistory n did ops stamps → (order : List ℕ) → IsInOrder ops stamps order →
        RefusesLawfully (record { first = 0; limit = limit } ∷ []) ops order
    history_lawful h = lawful_so_far width n limit opening steps did whole_run ops stamps (whole_history h)

  pub all_there : (ops : List (Op V)) × (stamps : List (Option Stamp)) × (order : List ℕ) × IsHistory n did ops stamps
      × IsInOrder ops stamps order
  all_there =
      let t = there_so_far width n limit opening steps did whole_run in (t.0, t.1, t.2, history_whole t.0 t.1 t.3, t.4)
