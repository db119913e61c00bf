-- The passes of a new board: each has the seat of its place, and nothing was done with it.
use Rattle.std.proofs.Common.{◌≡◌, Bool, ℕ, zero, suc, ◌+◌, ◌<◌, ◌≤◌, List, [], ◌∷◌, ◌++◌, length, reverse, slice_get, Some}
use Rattle.std.proofs.Common.{Global, true, inr, append-nil, refl, sym, ◌∙◌, ap, subst, arith, append_assoc}
use Rattle.std.specs.Prelude.{IsTrue, Vec, vec_capacity}
use Rattle.std.proofs.lemmas.List.{length_push, reverse-append}
use Rattle.std.proofs.lemmas.Option.{none-some, same_Some, slice_get_within}
use Rattle.cell_contract.specs.Running.{last_or}
use Rattle.cell_contract.specs.declared.family.Family.{Ghosts as FamilyWords}
use Rattle.cell_contract.specs.Accesses.{IsUnused}
use Rattle.cell_contract.specs.Ends.{Each}
use Rattle.matrix_core.specs.Stamps.{first_stamp}
use Rattle.board_history.proofs.Growing.{nothing_made}
use Rattle.board_live.specs.declared.board.Board.{Board}
use Rattle.board_live.specs.declared.board.Pass.{Pass}
use Rattle.board_live.specs.declared.record.Posted.{Posted}
use Rattle.board_live.specs.Deals.{IsNew}
use Rattle.board_live.specs.Passes.{answered_of, did_of, HasMade, IsPass, written_of}
use Rattle.board_live.specs.Records.{stamped}

-- the last of so many processes has room for the seats of all
abbrev pub IsRoom : {S : Type 0} → ℕ → ℕ → Vec S Global → Type 0
IsRoom n i room = (i + 1 ≡ n → n ≤ vec_capacity room) × (room.items ≡ [])

module _ {V F S T : Type 0} where
  abbrev pub pass_of : Posted V → ℕ → S → Vec S Global → Pass V F S T
  pass_of first i seat room = record { process = i; own = first; told = true; seat = seat; room = room }

  -- a pass for each seat, by rising number
  abbrev pub ArePasses : ℕ → Posted V → ℕ → List S → List (Pass V F S T) → Type 0
  ArePasses n first i [] [] = Unit {0}
  ArePasses n first i [] (p ∷ passes) = ⊥
  ArePasses n first i (s ∷ seats) [] = ⊥
  ArePasses n first i (s ∷ seats) (p ∷ passes) =
      ((room : Vec S Global) × IsRoom n i room × (p ≡ pass_of first i s room)) × ArePasses n first (i + 1) seats passes

  -- the passes of the last seats were made, the last one first
  pub record DealtFrom (n : ℕ) (first : Posted V) (all left : List S) (made : List (Pass V F S T)) : Type 0 where
    pub done : List S
    pub of : all ≡ left ++ done
    pub are : ArePasses n first (length left) done (reverse made)

  pub none_dealt : (n : ℕ) (first : Posted V) (all : List S) (made : List (Pass V F S T)) → made ≡ [] → DealtFrom n first all all made
  none_dealt n first all made e = record {
    done = [];
    of = sym (append-nil all);
    are = subst (λ z. ArePasses n first (length all) [] (reverse z)) (sym e) tt;
  }

  pub dealt_more : (n : ℕ) (first : Posted V) (all before left : List S) (made : List (Pass V F S T)) (process : ℕ) (seat : S)
      (room : Vec S Global) → DealtFrom n first all before made → before ≡ left ++ seat ∷ [] → process ≡ length left →
      IsRoom n process room → DealtFrom n first all left (made ++ pass_of first process seat room ∷ [])
  dealt_more n first all before left made process seat room h e place is = record {
    done = seat ∷ h.done;
    of = h.of ∙ ap (λ z. z ++ h.done) e ∙ append_assoc left (seat ∷ []) h.done;
    are = subst (λ m. ArePasses n first m (seat ∷ h.done) (reverse (made ++ pass_of first process seat room ∷ []))) place
        (subst (ArePasses n first process (seat ∷ h.done)) (sym (reverse-append made (pass_of first process seat room ∷ []))) (
          (room, is, refl),
          subst (λ m. ArePasses n first m h.done (reverse made))
              (ap length e ∙ length_push left seat ∙ ap (λ m. m + 1) (sym place)) h.are,
        ));
  }

  pub all_dealt : (n : ℕ) (first : Posted V) (all left : List S) (made : List (Pass V F S T)) → DealtFrom n first all left made →
      length left ≡ 0 → ArePasses n first 0 all (reverse made)
  all_dealt n first all [] made h e = subst (λ z. ArePasses n first 0 z (reverse made)) (sym h.of) h.are
  all_dealt n first all (x ∷ xs) made h e = absurd (omega (arith, e))

  -- the pass at a place has the seat at that place
  pub pass_there : (n : ℕ) (first : Posted V) (from : ℕ) (seats : List S) (passes : List (Pass V F S T)) (i : ℕ) (p : Pass V F S T) →
      ArePasses n first from seats passes → slice_get passes i ≡ Some p →
      (s : S) × (room : Vec S Global) × (slice_get seats i ≡ Some s) × IsRoom n (from + i) room × (p ≡ pass_of first (from + i) s room)
  pass_there n first from [] [] i p h at = absurd (none-some p at)
  pass_there n first from [] (q ∷ passes) i p h at = absurd h
  pass_there n first from (s ∷ seats) [] i p h at = absurd h
  pass_there n first from (s ∷ seats) (q ∷ passes) zero p h at =
      let same : from ≡ from + 0 = omega arith in (
        s,
        h.0.0,
        refl,
        subst (λ m. IsRoom n m h.0.0) same h.0.1,
        sym (same_Some q p at) ∙ h.0.2 ∙ ap (λ m. pass_of first m s h.0.0) same,
      )
  pass_there n first from (s ∷ seats) (q ∷ passes) (suc i) p h at =
      let x = pass_there n first (from + 1) seats passes i p h.1 at in
      let same : from + 1 + i ≡ from + suc i = omega arith in
      (x.0, x.1, x.2, subst (λ m. IsRoom n m x.1) same x.3, x.4 ∙ ap (λ m. pass_of first m x.0 x.1) same)

  pub dealt_length : (n : ℕ) (first : Posted V) (from : ℕ) (seats : List S) (passes : List (Pass V F S T)) →
      ArePasses n first from seats passes → length passes ≡ length seats
  dealt_length n first from [] [] h = refl
  dealt_length n first from [] (p ∷ passes) h = absurd h
  dealt_length n first from (s ∷ seats) [] h = absurd h
  dealt_length n first from (s ∷ seats) (p ∷ passes) h = ap suc (dealt_length n first (from + 1) seats passes h.1)

module _ {V F S T : Type 0} (words : FamilyWords F (Posted V) S T) (obeys : V → Bool) where
  pub is_new : (n limit : ℕ) (first : Posted V) (board : Board V F S T) (seats : List S) (passes : List (Pass V F S T)) →
      (2 ≤ n) × (n ≤ 16) → (1 ≤ limit) × (limit < 18446744073709551615) → first.stamp ≡ first_stamp → IsTrue (obeys first.item) →
      board.processes ≡ n → board.limit ≡ limit → board.first ≡ first →
      words.opening board.family ≡ first → words.processes board.family ≡ n → words.limit board.family ≡ limit → length seats ≡ n →
      Each (λ i s. words.is_seat board.family s × (words.who s ≡ i)) seats →
      Each (λ i s. IsUnused (words.clock s) (words.times s) (words.writes s) (words.reads s) (words.said s) (words.found s)) seats →
      ArePasses n first 0 seats passes → IsNew words obeys n limit first board passes
  is_new n limit first board seats passes size within stamp lawful count limited opened opens all limits long each unused are = record {
    size = (size.0, size.1);
    count = (count, dealt_length n first 0 seats passes are ∙ long);
    limited = limited;
    within = within;
    opened = opened;
    each = λ i p h. each_new i p h;
    told = λ i p h. ap (λ (z : Pass V F S T). z.told) (pass_there n first 0 seats passes i p are h).4;
  }
    where
      each_new : (i : ℕ) (p : Pass V F S T) → slice_get passes i ≡ Some p →
          IsPass words obeys board p × (p.process ≡ i) × (p.own ≡ first) × HasMade words board p []
      each_new i p h =
          let x = pass_there n first 0 seats passes i p are h in
          let place : 0 + i ≡ i = omega arith in
          let seat : S = x.0 in
          let e = each i seat x.2 in
          let u = unused i seat x.2 in
          let l : i < n = let z = slice_get_within seats i seat x.2 in omega arith in
          let room : IsRoom n i x.1 = subst (λ m. IsRoom n m x.1) place x.3 in
          let none_last : (j : ℕ) → last_or board.first (words.writes seat j).items ≡ first =
          λ j. ap (λ w. last_or board.first w.items) (u.2 j) ∙ opened in
          let made : HasMade words board (pass_of first i seat x.1) [] = record {
            made = nothing_made words.width board.processes board.limit (stamped board.first) i (did_of words seat []) (record {
              times = u.1;
              calls = refl;
              reads = λ j. ap answered_of (u.3 j);
              writes = λ j. ap written_of (u.2 j);
            });
            own = ap stamped (sym opened);
            word = record {
              says = λ x s e. absurd (none-some s (ap (λ z. slice_get z x) (sym u.4) ∙ e));
              finds = λ k end c e. absurd (none-some c e);
            };
          } in
          let is : IsPass words obeys board (pass_of first i seat x.1) = record {
            size = let z = count in (let a = size.0 in omega arith, let a = size.1 in omega arith);
            some = words.some_steps;
            processes = all ∙ sym count;
            opens = opens ∙ sym opened;
            limit = limits ∙ sym limited;
            first = ap (λ f. f.stamp) opened ∙ stamp;
            inside = let z = count in omega arith;
            room = (λ last. let a = room.0 (last ∙ count) in let z = count in omega arith, room.1);
            seat = e.0;
            who = e.1;
            lawful = lawful;
            below = λ j lj ne. inr (ap (λ (z : Posted V). z.stamp) (none_last j), ap (λ (z : Posted V). z.item) (none_last j));
            last = λ t j lj ne. none_last j;
            made = ([], made);
          } in
          subst (λ (q : Pass V F S T). IsPass words obeys board q × (q.process ≡ i) × (q.own ≡ first) × HasMade words board q [])
          (sym (x.4 ∙ ap (λ m. pass_of first m seat x.1) place)) (is, refl, refl, made)
