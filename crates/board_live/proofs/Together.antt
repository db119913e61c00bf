-- What some seats show of all processes is a run of the board so far, in which the processes of their passes made the passes' calls.
use Rattle.std.proofs.Common.{◌≡◌, ◌⊎◌, Bool, ℕ, zero, suc, ◌<◌, ◌≤◌, List, [], ◌∷◌, length, map, slice_get, Some}
use Rattle.std.proofs.Common.{refl, sym, ◌∙◌, ap, subst, arith, inl, inr}
use Rattle.std.specs.Option.{option_map}
use Rattle.std.proofs.lemmas.Bool.{cases_eq, cases_lt}
use Rattle.std.proofs.lemmas.List.{length-map}
use Rattle.std.proofs.lemmas.Option.{none-some, same_Some, slice_get-map, slice_get_within}
use Rattle.cell_contract.specs.declared.family.Family.{Ghosts as FamilyWords}
use Rattle.cell_contract.specs.Ends.{Each}
use Rattle.cell_contract.specs.Plans.{AreSoFar, Doings, doings}
use Rattle.family_table.specs.Left.{AreSoFarWith}
use Rattle.matrix_core.specs.Lines.{first_record}
use Rattle.matrix_core.proofs.lists.Elements.{get_exists}
use Rattle.board_history.specs.BoardRuns.{Called, Did}
use Rattle.board_history.specs.RunsSoFar.{IsBoardRunSoFar, IsProcessSoFar}
use Rattle.board_history.proofs.There.{atomic_run}
use Rattle.board_live.specs.declared.board.Board.{Board}
use Rattle.board_live.specs.declared.board.Pass.{Pass}
use Rattle.board_live.specs.declared.record.Posted.{Posted}
use Rattle.board_live.specs.Left.{HasOrderWith, HaveAtomicOrderWith, HaveMade, SomePasses}
use Rattle.board_live.specs.Passes.{did_of, IsPass}
use Rattle.board_live.specs.Plans.{did_with, KeepsItsWord, MakesCalls}
use Rattle.board_live.specs.Records.{stamped}
use Rattle.board_live.proofs.Plans.{whole_so_far}
use Rattle.board_live.proofs.Same.{same_process}
use Rattle.board_live.proofs.Whole.{stamped_register}
use Rattle.board_live.proofs.Words.{told_then}

module _ {V F S T : Type 0} where
  -- the pass of a process, if it is among these
  record IsHere (passes : List (Pass V F S T)) (i : ℕ) : Type 0 where
    pub place : ℕ
    pub pass : Pass V F S T
    pub at : slice_get passes place ≡ Some pass
    pub is : pass.process ≡ i

  abbrev IsAway : List (Pass V F S T) → ℕ → Type 0
  IsAway passes i = (x : ℕ) (p : Pass V F S T) → slice_get passes x ≡ Some p → p.process ≡ i → ⊥

  away_more : (passes : List (Pass V F S T)) (q : Pass V F S T) (i : ℕ) → (q.process ≡ i → ⊥) → IsAway passes i →
      (x : ℕ) (p : Pass V F S T) → slice_get (q ∷ passes) x ≡ Some p → p.process ≡ i → ⊥
  away_more passes q i ne none zero p e same = ne (ap (λ (z : Pass V F S T). z.process) (same_Some q p e) ∙ same)
  away_more passes q i ne none (suc x) p e same = none x p e same

  here_more : (passes : List (Pass V F S T)) (q : Pass V F S T) (i : ℕ) → IsHere passes i → IsHere (q ∷ passes) i
  here_more passes q i h = record { place = suc h.place; pass = h.pass; at = h.at; is = h.is }

  here_or_away : (passes : List (Pass V F S T)) (i : ℕ) → IsHere passes i ⊎ IsAway passes i
  here_or_away [] i = inr (λ x p e same. none-some p e)
  here_or_away (q ∷ passes) i = elim (cases_eq q.process i) [
    | inl e ↦ inl (record { place = zero; pass = q; at = refl; is = e })
    | inr ne ↦ elim (here_or_away passes i) [
      | inl h ↦ inl (here_more passes q i h)
      | inr none ↦ inr (λ x p e same. away_more passes q i ne none x p e same)
    ]
  ]

module _ {V F S T : Type 0} (words : FamilyWords F (Posted V) S T) (obeys : V → Bool) (board : Board V F S T)
    (passes : List (Pass V F S T)) (some : 0 < length passes) (of : SomePasses words obeys board passes)
    (calls : ℕ → List (Called V)) (made : HaveMade words board passes calls) (one : S)
    (all : AreSoFar (MakesCalls board.first words.width board.processes board.limit) board.first board.processes (words.who one)
    (words.times one) (words.writes one) (words.reads one) (words.said one) (words.found one))
    (known : (x : ℕ) (p : Pass V F S T) → slice_get passes x ≡ Some p →
    all.done p.process ≡ doings (words.times p.seat) (words.writes p.seat) (words.reads p.seat) (words.said p.seat) (words.found p.seat))
    (numbers : (x i : ℕ) (p : Pass V F S T) → slice_get passes x ≡ Some p →
    all.numbers i p.process ≡ (words.reads p.seat i).numbers) where
  abbrev n : ℕ
  n = board.processes

  -- the calls of each process
  abbrev calls_by : (i : ℕ) → IsHere passes i ⊎ IsAway passes i → (i < n) ⊎ (n ≤ i) → List (Called V)
  calls_by i (inl h) c = calls i
  calls_by i (inr away) (inl l) = (all.planned i l).0
  calls_by i (inr away) (inr ge) = []

  abbrev calls_of : ℕ → List (Called V)
  calls_of i = calls_by i (here_or_away passes i) (cases_lt i n)

  abbrev did : ℕ → Did V
  did i = did_with (calls_of i) (λ j. all.numbers j i) (all.done i)

  mine : (x : ℕ) (p : Pass V F S T) → slice_get passes x ≡ Some p → (ns : ℕ → List ℕ) →
      IsProcessSoFar words.width n board.limit (stamped board.first) p.process
      (did_with (calls p.process) ns (all.done p.process))
  mine x p e ns =
      let own : Doings (Posted V) = doings (words.times p.seat) (words.writes p.seat) (words.reads p.seat) (words.said p.seat)
      (words.found p.seat) in
      subst (λ (z : Doings (Posted V)). IsProcessSoFar words.width n board.limit (stamped board.first) p.process
      (did_with (calls p.process) ns z)) (sym (known x p e))
      (whole_so_far words.width n board.limit p.process board.first (of x p e).size.0 (of x p e).some (calls p.process) ns own
      (same_process words.width n board.limit (stamped board.first) p.process (did_of words p.seat (calls p.process))
      (did_with (calls p.process) ns own) refl refl (λ k. record { items = refl; begins = refl; ends = refl }) (λ k. refl)
      (made x p e).made))

  made_by : (i : ℕ) (ns : ℕ → List ℕ) (h : IsHere passes i ⊎ IsAway passes i) (c : (i < n) ⊎ (n ≤ i)) → i < n →
      IsProcessSoFar words.width n board.limit (stamped board.first) i (did_with (calls_by i h c) ns (all.done i))
  made_by i ns (inl h) c l =
      subst (λ z. IsProcessSoFar words.width n board.limit (stamped board.first) z (did_with (calls z) ns (all.done z))) h.is
      (mine h.place h.pass h.at ns)
  made_by i ns (inr away) (inl lt) l = (all.planned i lt).1 ns
  made_by i ns (inr away) (inr ge) l = absurd (omega arith)

  abbrev KeepsAt : ℕ → List (Called V) → Type 0
  KeepsAt i cs = KeepsItsWord words.width n i (all.done i).times cs (all.done i).said (all.done i).found

  word_by : (i : ℕ) (h : IsHere passes i ⊎ IsAway passes i) (c : (i < n) ⊎ (n ≤ i)) → i < n → KeepsAt i (calls_by i h c)
  word_by i (inl h) c l =
      subst (λ z. KeepsAt z (calls z)) h.is
      (subst (λ (z : Doings (Posted V)). KeepsItsWord words.width n h.pass.process z.times (calls h.pass.process) z.said z.found)
      (sym (known h.place h.pass h.at)) (made h.place h.pass h.at).word)
  word_by i (inr away) (inl lt) l = (all.planned i lt).2
  word_by i (inr away) (inr ge) l = absurd (omega arith)

  words_by : (i : ℕ) → i < n → KeepsAt i (did i).calls
  words_by i l = word_by i (here_or_away passes i) (cases_lt i n) l

  own_calls : (x : ℕ) (p : Pass V F S T) → slice_get passes x ≡ Some p →
      (h : IsHere passes p.process ⊎ IsAway passes p.process) (c : (p.process < n) ⊎ (n ≤ p.process)) →
      calls_by p.process h c ≡ calls p.process
  own_calls x p e (inl h) c = refl
  own_calls x p e (inr away) c = absurd (away x p e refl)

  own_is : (x : ℕ) (p : Pass V F S T) → slice_get passes x ≡ Some p → did p.process ≡ did_of words p.seat (calls p.process)
  own_is x p e =
      ap (λ cs. did_with cs (λ j. all.numbers j p.process) (all.done p.process))
      (own_calls x p e (here_or_away passes p.process) (cases_lt p.process n))
      ∙ (λ k. did_with (calls p.process) (λ j. numbers x j p e k) (known x p e k))

  first_pass : (p : Pass V F S T) × IsPass words obeys board p
  first_pass = let x = get_exists passes 0 some in (x.0, of 0 x.0 x.1)

  first_is : stamped board.first ≡ first_record board.first.item
  first_is = ap (λ s. record { stamp = s; item = board.first.item }) first_pass.1.first

  run : IsBoardRunSoFar words.width n board.limit (stamped board.first) all.steps did
  run = record {
    size = (first_pass.1.size.0, first_pass.1.size.1, first_pass.1.some);
    within = all.schedule;
    scheduled = all.made;
    each = λ i l. made_by i (λ j. all.numbers j i) (here_or_away passes i) (cases_lt i n) l;
    finds = λ i k end c l. told_then words.width n did i k end c (all.done i).said (all.done i).found (words_by i l) (λ x f e.
        let h = all.finds i x f l e in
        record { who = h.0; said = (all.done f.who).said; found = (all.done f.who).found; word = words_by f.who h.0; was = h.1 });
    registers = λ i j li lj ne. stamped_register board.first _ _ _ _ _ (all.registers i j li lj ne);
  }

  ordered : HasOrderWith words board passes calls
  ordered = record {
    steps = all.steps;
    did = did;
    own = own_is;
    atomic = atomic_run words.width n board.limit board.first.item all.steps did
        (subst (λ z. IsBoardRunSoFar words.width n board.limit z all.steps did) first_is run);
  }

module _ {V F S T : Type 0} (words : FamilyWords F (Posted V) S T) (obeys : V → Bool) (board : Board V F S T)
    (passes : List (Pass V F S T)) (of : SomePasses words obeys board passes) (seats : List S)
    (are : seats ≡ map (λ p. p.seat) passes) where
  seat_at : (x : ℕ) (q : Pass V F S T) → slice_get passes x ≡ Some q → slice_get seats x ≡ Some q.seat
  seat_at x q e = ap (λ z. slice_get z x) are ∙ slice_get-map (λ (z : Pass V F S T). z.seat) passes x
      ∙ ap (option_map (λ (z : Pass V F S T). z.seat)) e

  pub each_seat : Each (λ i s. words.is_seat board.family s) seats
  each_seat x s e =
      let l : x < length passes = let a = slice_get_within seats x s e in
      let b : length seats ≡ length passes = ap length are ∙ length-map passes (λ p. p.seat) in omega arith in
      let p = get_exists passes x l in
      subst (λ z. words.is_seat board.family z) (same_Some p.0.seat s (sym (seat_at x p.0 p.1) ∙ e)) (of x p.0 p.1).seat

  abbrev IsShown : Posted V → ℕ → ℕ → Type 0
  IsShown opening n limit =
      AreSoFarWith (MakesCalls opening words.width n limit) opening n words.who words.times words.writes words.reads words.said
      words.found seats

  -- by the family's words
  pub ordered_with : 0 < length passes → IsShown (words.opening board.family) (words.processes board.family) (words.limit board.family) →
      HaveAtomicOrderWith words board passes
  ordered_with some shown calls made =
      let p = (of 0 _ (get_exists passes 0 some).1) in
      let h = subst (λ z. IsShown board.first board.processes z) p.limit
      (subst (λ z. IsShown board.first z (words.limit board.family)) p.processes
      (subst (λ z. IsShown z (words.processes board.family) (words.limit board.family)) p.opens shown)) in
      ordered words obeys board passes some of calls made h.one h.all
      (λ x q e. ap h.all.done (sym (of x q e).who) ∙ h.each x q.seat (seat_at x q e))
      (λ x i q e. ap (h.all.numbers i) (sym (of x q e).who) ∙ h.numbers x i q.seat (seat_at x q e))
