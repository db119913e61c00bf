-- What one seat shows of all processes is a run of the board so far: each of them has made calls, of which the plan knows.
use Rattle.std.proofs.Common.{◌≡◌, ◌⊎◌, Bool, ℕ, ◌<◌, ◌≤◌, List, [], ◌∷◌, ◌++◌, slice_get, Some}
use Rattle.std.proofs.Common.{refl, sym, ◌∙◌, ap, subst, arith, inl, inr}
use Rattle.std.proofs.lemmas.Bool.{cases_eq, cases_lt}
use Rattle.std.proofs.lemmas.Option.{slice_get_within}
use Rattle.history_core.proofs.Places.{get_before}
use Rattle.cell_contract.specs.declared.family.Family.{Ghosts as FamilyWords}
use Rattle.cell_contract.specs.declared.said.Said.{Said}
use Rattle.cell_contract.specs.declared.said.Found.{Found}
use Rattle.cell_contract.specs.Accesses.{KeepsEach, ReadAccesses, WriteAccesses}
use Rattle.cell_contract.specs.Plans.{AreSoFar, Doings, doings}
use Rattle.matrix_core.specs.Lines.{first_record}
use Rattle.board_history.specs.BoardRuns.{Called, Did}
use Rattle.board_history.specs.RunsSoFar.{IsBoardRunSoFar, IsProcessSoFar}
use Rattle.board_history.proofs.There.{atomic_run}
use Rattle.board_live.specs.declared.board.Board.{Board}
use Rattle.board_live.specs.declared.board.Pass.{Pass}
use Rattle.board_live.specs.declared.record.Posted.{Posted}
use Rattle.board_live.specs.Passes.{did_of, HasMade, IsPass}
use Rattle.board_live.specs.Plans.{did_with, KeepsItsWord, MakesCalls}
use Rattle.board_live.specs.Records.{stamped}
use Rattle.board_live.specs.SoFar.{HasOrderSoFar, HaveAtomicOrderSoFar}
use Rattle.board_live.proofs.Plans.{whole_so_far}
use Rattle.board_live.proofs.Same.{same_process}
use Rattle.board_live.proofs.Whole.{stamped_register}
use Rattle.board_live.proofs.Words.{told_then, word_fewer}

module _ {V F S T : Type 0} (words : FamilyWords F (Posted V) S T) (obeys : V → Bool) (board : Board V F S T) (pass : Pass V F S T)
    (of : IsPass words obeys board pass) (calls : List (Called V)) (made : HasMade words board pass calls) where
  abbrev n : ℕ
  n = board.processes

  abbrev own : List Said → Doings (Posted V)
  own some = doings (words.times pass.seat) (words.writes pass.seat) (words.reads pass.seat) some (words.found pass.seat)

  mine : (some : List Said) (numbers : ℕ → List ℕ) →
      IsProcessSoFar words.width n board.limit (stamped board.first) pass.process (did_with calls numbers (own some))
  mine some numbers = whole_so_far words.width n board.limit pass.process board.first of.size.0 of.some calls numbers (own some)
      (same_process words.width n board.limit (stamped board.first) pass.process (did_of words pass.seat calls)
      (did_with calls numbers (own some)) refl refl (λ e. record { items = refl; begins = refl; ends = refl }) (λ e. refl) made.made)

  -- what is shown may be from before the last tag was said
  module _ (some : List Said) (part : (x : ℕ) (s : Said) → slice_get some x ≡ Some s → slice_get (words.said pass.seat) x ≡ Some s)
      (all : AreSoFar (MakesCalls board.first words.width n board.limit) board.first n pass.process (words.times pass.seat)
      (words.writes pass.seat) (words.reads pass.seat) some (words.found pass.seat)) where
    -- the calls of each process
    abbrev calls_by : (i : ℕ) → (i ≡ pass.process) ⊎ (i ≡ pass.process → ⊥) → (i < n) ⊎ (n ≤ i) → List (Called V)
    calls_by i (inl e) c = calls
    calls_by i (inr ne) (inl l) = (all.planned i l).0
    calls_by i (inr ne) (inr ge) = []

    abbrev calls_of : ℕ → List (Called V)
    calls_of i = calls_by i (cases_eq i pass.process) (cases_lt i n)

    abbrev did : ℕ → Did V
    did i = did_with (calls_of i) (λ j. all.numbers j i) (all.done i)

    made_by : (i : ℕ) (numbers : ℕ → List ℕ) (e : (i ≡ pass.process) ⊎ (i ≡ pass.process → ⊥)) (c : (i < n) ⊎ (n ≤ i)) → i < n →
        IsProcessSoFar words.width n board.limit (stamped board.first) i (did_with (calls_by i e c) numbers (all.done i))
    made_by i numbers (inl e) c l =
        subst (λ z. IsProcessSoFar words.width n board.limit (stamped board.first) z (did_with calls numbers (all.done z))) (sym e)
        (subst (λ (z : Doings (Posted V)). IsProcessSoFar words.width n board.limit (stamped board.first) pass.process
        (did_with calls numbers z)) (sym all.known) (mine some numbers))
    made_by i numbers (inr ne) (inl lt) l = (all.planned i lt).1 numbers
    made_by i numbers (inr ne) (inr ge) l = absurd (omega arith)

    abbrev KeepsAt : ℕ → List (Called V) → Type 0
    KeepsAt i cs = KeepsItsWord words.width n i (all.done i).times cs (all.done i).said (all.done i).found

    word_by : (i : ℕ) (e : (i ≡ pass.process) ⊎ (i ≡ pass.process → ⊥)) (c : (i < n) ⊎ (n ≤ i)) → i < n → KeepsAt i (calls_by i e c)
    word_by i (inl e) c l =
        subst (λ z. KeepsAt z calls) (sym e)
        (subst (λ (z : Doings (Posted V)). KeepsItsWord words.width n pass.process z.times calls z.said z.found) (sym all.known)
        (word_fewer words.width n pass.process (words.times pass.seat) calls some (words.said pass.seat) (words.found pass.seat) part
        made.word))
    word_by i (inr ne) (inl lt) l = (all.planned i lt).2
    word_by i (inr ne) (inr ge) l = absurd (omega arith)

    words_by : (i : ℕ) → i < n → KeepsAt i (did i).calls
    words_by i l = word_by i (cases_eq i pass.process) (cases_lt i n) l

    own_calls : (e : (pass.process ≡ pass.process) ⊎ (pass.process ≡ pass.process → ⊥)) (c : (pass.process < n) ⊎ (n ≤ pass.process)) →
        calls_by pass.process e c ≡ calls
    own_calls (inl e) c = refl
    own_calls (inr ne) c = absurd (ne refl)

    first_is : stamped board.first ≡ first_record board.first.item
    first_is = ap (λ s. record { stamp = s; item = board.first.item }) of.first

    run : IsBoardRunSoFar words.width n board.limit (stamped board.first) all.steps did
    run = record {
      size = (of.size.0, of.size.1, of.some);
      within = all.schedule;
      scheduled = all.made;
      each = λ i l. made_by i (λ j. all.numbers j i) (cases_eq i pass.process) (cases_lt i n) l;
      finds = λ i k end c l. told_then words.width n did i k end c (all.done i).said (all.done i).found (words_by i l) (λ x f e.
          let h = all.finds i x f l e in
          record { who = h.0; said = (all.done f.who).said; found = (all.done f.who).found; word = words_by f.who h.0; was = h.1 });
      registers = λ i j li lj ne. stamped_register board.first _ _ _ _ _ (all.registers i j li lj ne);
    }

    ordered : HasOrderSoFar words board pass calls
    ordered = record {
      steps = all.steps;
      did = did;
      own = ap (λ cs. did_with cs (λ j. all.numbers j pass.process) (all.done pass.process))
          (own_calls (cases_eq pass.process pass.process) (cases_lt pass.process n))
          ∙ (λ k. did_with calls (λ j. all.numbered j k) (all.known k));
      atomic = atomic_run words.width n board.limit board.first.item all.steps did
          (subst (λ z. IsBoardRunSoFar words.width n board.limit z all.steps did) first_is run);
    }

module _ {V F S T : Type 0} (words : FamilyWords F (Posted V) S T) (obeys : V → Bool) (board : Board V F S T) (pass : Pass V F S T)
    (of : IsPass words obeys board pass) where
  abbrev Shown : S → Posted V → ℕ → ℕ → ℕ → List Said → Type 0
  Shown seat opening n limit who some = AreSoFar (MakesCalls opening words.width n limit) opening n who (words.times seat)
      (words.writes seat) (words.reads seat) some (words.found seat)

  -- by the family's words
  ordered_by : (some : List Said) → ((x : ℕ) (s : Said) → slice_get some x ≡ Some s → slice_get (words.said pass.seat) x ≡ Some s) →
      Shown pass.seat (words.opening board.family) (words.processes board.family) (words.limit board.family) (words.who pass.seat) some →
      HaveAtomicOrderSoFar words board pass
  ordered_by some part all calls made = ordered words obeys board pass of calls made some part
      (subst (λ z. Shown pass.seat board.first board.processes board.limit z some) of.who
      (subst (λ z. Shown pass.seat board.first board.processes z (words.who pass.seat) some) of.limit
      (subst (λ z. Shown pass.seat board.first z (words.limit board.family) (words.who pass.seat) some) of.processes
      (subst (λ z. Shown pass.seat z (words.processes board.family) (words.limit board.family) (words.who pass.seat) some) of.opens all))))

  pub ordered_so_far : Shown pass.seat (words.opening board.family) (words.processes board.family) (words.limit board.family)
      (words.who pass.seat) (words.said pass.seat) → HaveAtomicOrderSoFar words board pass
  ordered_so_far all = ordered_by (words.said pass.seat) (λ x s e. e) all

  -- shown before the last tag was said
  pub ordered_before : (seat : S) (one : Said) → words.who pass.seat ≡ words.who seat →
      (words.clock pass.seat ≡ words.clock seat) × (words.times pass.seat ≡ words.times seat) × (words.found pass.seat ≡ words.found seat) →
      words.said pass.seat ≡ words.said seat ++ one ∷ [] →
      KeepsEach (words.writes seat) (words.writes pass.seat) × KeepsEach (words.reads seat) (words.reads pass.seat) →
      Shown seat (words.opening board.family) (words.processes board.family) (words.limit board.family) (words.who seat) (words.said seat) →
      HaveAtomicOrderSoFar words board pass
  ordered_before seat one who same said calls all = ordered_by (words.said seat)
      (λ x s e. ap (λ z. slice_get z x) said ∙ get_before (words.said seat) (one ∷ []) x (slice_get_within (words.said seat) x s e) ∙ e)
      (subst (λ (z : ℕ × List ℕ × (ℕ → WriteAccesses (Posted V)) × (ℕ → ReadAccesses (Posted V)) × List Found).
      AreSoFar (MakesCalls (words.opening board.family) words.width (words.processes board.family) (words.limit board.family))
      (words.opening board.family) (words.processes board.family) z.0 z.1 z.2 z.3 (words.said seat) z.4)
      (λ k. (sym who k, sym same.1 k, λ j. sym (calls.0 j) k, λ j. sym (calls.1 j) k, sym same.2 k)) all)
