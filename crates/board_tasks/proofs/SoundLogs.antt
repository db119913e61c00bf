-- Logs that keep a rule so far: one more entry that keeps it, and one more log.
use Rattle.std.proofs.Common.{◌≡◌, ℕ, ◌+◌, ◌<◌, List, [], ◌∷◌, ◌++◌, length, map, take, get_or, refl, sym, ◌∙◌, ap, subst, arith, Bool}
use Rattle.std.proofs.Common.{true, ◌⊎◌, inl, inr, ⊎_elim}
use Rattle.std.specs.Prelude.{slice_get, Some, IsTrue}
use Rattle.std.proofs.lemmas.Option.{same_Some, slice_get_within, get_or_from_slice_get}
use Rattle.std.proofs.lemmas.Bool.{cases_lt}
use Rattle.std.proofs.lemmas.List.{take_more, map-append}
use Rattle.matrix_core.specs.Stamps.{first_stamp}
use Rattle.matrix_core.specs.declared.stamp.Stamp.{Stamp}
use Rattle.cell_contract.specs.Running.{last_or}
use Rattle.board_tasks.specs.declared.lane.Entry.{Entry}
use Rattle.board_tasks.specs.Logs.{stamp_of}
use Rattle.board_tasks.specs.Origins.{KeptBefore, stamp_before, TasksKeep}

last_or-append : {A : Type 0} (d : A) (xs : List A) (a : A) → last_or d (xs ++ a ∷ []) ≡ a
last_or-append d [] a = refl
last_or-append d (x ∷ xs) a = last_or-append x xs a

-- the place below one more is below, or is it
below_more : (j k : ℕ) → j < k + 1 → (j < k) ⊎ (j ≡ k)
below_more j k l = elim (cases_lt j k) [ inl lt ↦ inl lt | inr le ↦ inr (omega arith) ]

-- after an entry its stamp is the one before
pub stamp_after : {V : Type 0} (log : List (Entry V)) (k : ℕ) (e : Entry V) → slice_get log k ≡ Some e
    → stamp_before log (k + 1) ≡ stamp_of e.reply
stamp_after log k e at =
    let f : Entry _ → Stamp = λ (d : Entry _). stamp_of d.reply in
    let taken : map f (take (k + 1) log) ≡ map f (take k log) ++ f e ∷ [] =
    rw (
      take_more log k e (slice_get_within log k e at),
      map-append f (take k log) (get_or log k e ∷ []),
      get_or_from_slice_get log k e e at,
    )
    refl in
    ap (last_or first_stamp) taken ∙ last_or-append first_stamp (map f (take k log)) (f e)

module _ {V : Type 0} (rule : ℕ → Stamp → Entry V → Bool) where
  -- the entries before this place keep the rule, and this is the stamp of the last of them
  pub record IsKeptSoFar (task : ℕ) (log : List (Entry V)) (place : ℕ) (before : Stamp) : Type 0 where
    pub stamp : before ≡ stamp_before log place
    pub kept : KeptBefore rule task log place

  pub kept_more : (task : ℕ) (log : List (Entry V)) (place : ℕ) (before : Stamp) (e : Entry V) → slice_get log place ≡ Some e
      → IsKeptSoFar task log place before
      → rule task before e ≡ true → IsKeptSoFar task log (place + 1) (stamp_of e.reply)
  kept_more task log place before e at h is = record {
    stamp = sym (stamp_after log place e at);
    kept = λ j d l p. ⊎_elim (λ (lt : j < place). h.kept j d lt p)
        (λ (same : j ≡ place).
        let there : Some e ≡ Some d = sym at ∙ subst (λ z. slice_get log z ≡ Some d) same p in
        rw (same, sym (same_Some e d there), sym h.stamp) is)
        (below_more j place l);
  }

  pub tasks_more : (logs : List (List (Entry V))) (task : ℕ) (log : List (Entry V)) → slice_get logs task ≡ Some log
      → TasksKeep rule logs task → KeptBefore rule task log (length log) → TasksKeep rule logs (task + 1)
  tasks_more logs task log at h kept t j other e l p q = ⊎_elim (λ (lt : t < task). h t j other e lt p q)
      (λ (same : t ≡ task).
      let there : Some log ≡ Some other = sym at ∙ subst (λ z. slice_get logs z ≡ Some other) same p in
      let is : log ≡ other = same_Some log other there in
      let here : slice_get log j ≡ Some e = rw is q in
      rw same (subst (λ z. IsTrue (rule task (stamp_before z j) e)) is (kept j e (slice_get_within log j e here) here)))
      (below_more t task l)
