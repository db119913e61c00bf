-- A pass with which no call was made: what its process did is what it did before.
use Rattle.std.proofs.Common.{◌≡◌, ◌≢◌, Bool, ℕ, ◌+◌, ◌-◌, ◌*◌, ◌<◌, ◌≤◌, List, length, map, slice_get}
use Rattle.std.specs.Prelude.{IsTrue, vec_capacity}
use Rattle.std.proofs.Common.{refl, sym, ◌∙◌, ap, subst, inl, inr}
use Rattle.std.proofs.lemmas.Bool.{cases_eq}
use Rattle.cell_contract.specs.declared.times.Known.{Known}
use Rattle.cell_contract.specs.Running.{last_or}
use Rattle.cell_contract.specs.declared.family.Family.{Ghosts as FamilyWords}
use Rattle.cell_contract.specs.declared.said.Said.{Said}
use Rattle.cell_contract.specs.declared.said.Found.{Found}
use Rattle.cell_contract.specs.Accesses.{IsHeardRead, KeepsEach, KeepsOthers, WriteAccesses}
use Rattle.matrix_core.specs.declared.stamp.Stamped.{Stamped}
use Rattle.matrix_core.specs.Stamps.{greatest}
use Rattle.matrix_core.specs.Lines.{other}
use Rattle.matrix_core.proofs.lines.Others.{other_differs}
use Rattle.board_history.specs.BoardRuns.{Answered, AreReads, AreWrites, Called, Did, end_among, IsProcess, own_before, records}
use Rattle.board_history.specs.BoardRuns.{steps_before, told}
use Rattle.board_live.specs.declared.board.Board.{Board}
use Rattle.board_live.specs.declared.board.Pass.{Pass}
use Rattle.board_live.specs.declared.record.Posted.{Posted}
use Rattle.board_live.specs.Passes.{answered_of, did_of, HasSame, IsPass, written_of}
use Rattle.board_live.specs.Plans.{KeepsItsWord}
use Rattle.board_live.specs.Records.{Rises, stamped}

-- the reads of a process are the same, but for what it was told
pub record AreSameReads {V : Type 0} (old new : Answered V) : Type 0 where
  pub items : new.items ≡ old.items
  pub begins : new.begins ≡ old.begins
  pub ends : new.ends ≡ old.ends

same_reads : {V : Type 0} (width n : ℕ) (old new : Did V) (access : ℕ) (begins ends begins' ends' : List ℕ) → new.times ≡ old.times →
    new.calls ≡ old.calls → begins' ≡ begins → ends' ≡ ends → AreReads width n old access begins ends →
    AreReads width n new access begins' ends'
same_reads {V} width n old new access begins ends begins' ends' times calls b e h = record {
  begun = λ k l. ap (λ xs. slice_get xs k) b ∙ h.begun k (subst (λ cs. k < length cs) calls l)
      ∙ ap (λ (z : List ℕ × List (Called V)). slice_get z.0 (steps_before width n z.1 k + access * width))
      (λ j. (sym times j, sym calls j));
  ended = λ k l. ap (λ xs. slice_get xs k) e ∙ h.ended k (subst (λ cs. k < length cs) calls l)
      ∙ ap (λ (z : List ℕ × List (Called V)). slice_get z.0 (steps_before width n z.1 k + (access * width + (width - 1))))
      (λ j. (sym times j, sym calls j));
  all = (ap length b ∙ h.all.0 ∙ ap length (sym calls), ap length e ∙ h.all.1 ∙ ap length (sym calls));
}

same_writes : {V : Type 0} (width n : ℕ) (old new : Did V) (access : ℕ) (begins ends begins' ends' : List ℕ) → new.times ≡ old.times →
    new.calls ≡ old.calls → begins' ≡ begins → ends' ≡ ends → AreWrites width n old access begins ends →
    AreWrites width n new access begins' ends'
same_writes {V} width n old new access begins ends begins' ends' times calls b e h = record {
  begun = λ k c at t. ap (λ (z : List ℕ × List (Called V)). slice_get z.0 (told z.1 k)) (λ j. (b j, calls j))
      ∙ h.begun k c (ap (λ cs. slice_get cs k) (sym calls) ∙ at) t
      ∙ ap (λ (z : List ℕ × List (Called V)). slice_get z.0 (steps_before width n z.1 k + access * width))
      (λ j. (sym times j, sym calls j));
  ended = λ k c at t. ap (λ (z : List ℕ × List (Called V)). slice_get z.0 (told z.1 k)) (λ j. (e j, calls j))
      ∙ h.ended k c (ap (λ cs. slice_get cs k) (sym calls) ∙ at) t
      ∙ ap (λ (z : List ℕ × List (Called V)). slice_get z.0 (steps_before width n z.1 k + (access * width + (width - 1))))
      (λ j. (sym times j, sym calls j));
  all = (
    ap length b ∙ h.all.0 ∙ ap (λ cs. told cs (length cs)) (sym calls),
    ap length e ∙ h.all.1 ∙ ap (λ cs. told cs (length cs)) (sym calls),
  );
}

pub same_process : {V : Type 0} (width n limit : ℕ) (first : Stamped V) (i : ℕ) (old new : Did V) → new.times ≡ old.times →
    new.calls ≡ old.calls → ((e : ℕ) → AreSameReads (old.reads (other i e)) (new.reads (other i e))) →
    ((e : ℕ) → new.writes (other i e) ≡ old.writes (other i e)) →
    IsProcess width n limit first i old → IsProcess width n limit first i new
same_process {V} width n limit first i old new times calls reads writes h = record {
  long = ap length times ∙ h.long ∙ ap (λ cs. steps_before width n cs (length cs)) (sym calls);
  begun = λ k c e. ap (λ (z : List ℕ × List (Called V)). slice_get z.0 (steps_before width n z.1 k)) (λ j. (times j, calls j))
      ∙ h.begun k c (ap (λ cs. slice_get cs k) (sym calls) ∙ e);
  ended = λ k c e. ap (λ (z : List ℕ × List (Called V)). end_among width n z.0 z.1 k c)
      (λ j. (times j, calls j))
      ∙ h.ended k c (ap (λ cs. slice_get cs k) (sym calls) ∙ e);
  reads = λ e l. same_reads width n old new e _ _ _ _ times calls (reads e).begins (reads e).ends (h.reads e l);
  answered = λ e l. ap length (reads e).items ∙ h.answered e l ∙ ap length (sym calls);
  writes = λ e l. same_writes width n old new (n - 1 + e) _ _ _ _ times calls (ap (λ w. w.begins) (writes e)) (ap (λ w. w.ends) (writes e))
      (h.writes e l);
  written = λ e l. ap (λ w. w.items) (writes e) ∙ h.written e l ∙ ap records (sym calls);
  silent = λ k c e t f. h.silent k c (ap (λ cs. slice_get cs k) (sym calls) ∙ e) t f ∙ ap (λ cs. own_before first cs k) (sym calls);
  sees = λ k c e.
      let s = h.sees k c (ap (λ cs. slice_get cs k) (sym calls) ∙ e) in
      record {
        answers = s.answers;
        each = s.each;
        answered = λ r x there. ap (λ ys. slice_get ys k) (reads r).items ∙ s.answered r x there;
        greatest = s.greatest ∙ ap (λ cs. greatest (own_before first cs k) s.answers) (sym calls);
      };
  chooses = λ k place c e. h.chooses k place c (ap (λ cs. slice_get cs k) (sym calls) ∙ e);
}

module _ {V F S T : Type 0} (words : FamilyWords F (Posted V) S T) (n limit process : ℕ) (first : Posted V) (calls : List (Called V)) where
  pub after_tell : (old new : S) → words.times new ≡ words.times old → KeepsEach (words.writes old) (words.writes new) →
      KeepsEach (words.reads old) (words.reads new) → IsProcess words.width n limit (stamped first) process (did_of words old calls) →
      IsProcess words.width n limit (stamped first) process (did_of words new calls)
  after_tell old new times writes reads h = same_process words.width n limit (stamped first) process (did_of words old calls)
      (did_of words new calls) times refl
      (λ e.
      let r = reads (other process e) in
      record {
        items = ap (λ r. map stamped r.answers) r;
        begins = ap (λ r. r.times.begins) r;
        ends = ap (λ r. r.times.ends) r;
      })
      (λ e. ap written_of (writes (other process e))) h

  -- the same steps and tags keep its word
  pub still_kept : (old new : S) → words.times new ≡ words.times old →
      (words.said new ≡ words.said old) × (words.found new ≡ words.found old) →
      KeepsItsWord words.width n process (words.times old) calls (words.said old) (words.found old) →
      KeepsItsWord words.width n process (words.times new) calls (words.said new) (words.found new)
  still_kept old new times tags w =
      subst (λ (z : List ℕ × List Said × List Found). KeepsItsWord words.width n process z.0 calls z.1 z.2)
      (λ k. (sym times k, sym tags.0 k, sym tags.1 k)) w

  pub after_learn : (old new : S) (sender : ℕ) (item : Posted V) (carried : Known (Posted V)) → words.times new ≡ words.times old →
      KeepsEach (words.writes old) (words.writes new) →
      (sender ≢ process → IsHeardRead (words.reads old sender) (words.reads new sender) item carried) →
      KeepsOthers sender (words.reads old) (words.reads new) →
      IsProcess words.width n limit (stamped first) process (did_of words old calls) →
      IsProcess words.width n limit (stamped first) process (did_of words new calls)
  after_learn old new sender item carried times writes heard others h = same_process words.width n limit (stamped first) process
      (did_of words old calls) (did_of words new calls) times refl (λ e. same e) (λ e. ap written_of (writes (other process e))) h
    where
      same : (e : ℕ) → AreSameReads (answered_of (words.reads old (other process e))) (answered_of (words.reads new (other process e)))
      same e = elim (cases_eq (other process e) sender) [
        | inl is ↦
            let x = heard (λ s. other_differs process e (is ∙ s)) in
            subst (λ j. AreSameReads (answered_of (words.reads old j)) (answered_of (words.reads new j))) (sym is) (record {
              items = ap (map stamped) x.answers;
              begins = x.begins;
              ends = x.ends;
            })
        | inr isnt ↦
            let r = others (other process e) isnt in
            record {
              items = ap (λ r. map stamped r.answers) r;
              begins = ap (λ r. r.times.begins) r;
              ends = ap (λ r. r.times.ends) r;
            }
      ]

module _ {V F S T : Type 0} (words : FamilyWords F (Posted V) S T) (obeys : V → Bool) (board : Board V F S T) where
  -- no call was made: it is a pass of the board still
  pub still : (old new : Pass V F S T) → IsPass words obeys board old → HasSame words board old new → new.room ≡ old.room →
      words.is_seat board.family new.seat → words.who new.seat ≡ words.who old.seat → IsPass words obeys board new
  still old new of same room seat who = record {
    size = of.size;
    some = of.some;
    processes = of.processes;
    opens = of.opens;
    limit = of.limit;
    first = of.first;
    inside = subst (λ z. z < board.processes) (sym same.process) of.inside;
    room = (
      λ e. subst (λ z. board.processes ≤ vec_capacity z) (sym room) (of.room.0 (ap (λ z. z + 1) (sym same.process) ∙ e)),
      ap (λ z. z.items) room ∙ of.room.1,
    );
    seat = seat;
    who = who ∙ of.who ∙ sym same.process;
    lawful = subst (λ z. IsTrue (obeys z.item)) (sym same.own) of.lawful;
    below = λ j l ne. subst (λ (z : WriteAccesses (Posted V) × Posted V). Rises (last_or board.first z.0.items) z.1)
        (λ k. (sym (same.writes j) k, sym same.own k)) (of.below j l (λ e. ne (e ∙ sym same.process)));
    last = λ t j l ne. ap (λ w. last_or board.first w.items) (same.writes j)
        ∙ of.last (sym same.told ∙ t) j l (λ e. ne (e ∙ sym same.process)) ∙ sym same.own;
    made = (of.made.0, same.made of.made.0 of.made.1);
  }
