-- The calls of which the logs of some lanes tell, by the numbers of their processes.
use Rattle.std.proofs.Common.{◌≡◌, ◌≢◌, ◌⊎◌, Bool, true, ℕ, zero, suc, ◌<◌, List, [], ◌∷◌, length, map, slice_get, Some, refl, sym, ◌∙◌, ap}
use Rattle.std.proofs.Common.{arith, subst, inl, inr}
use Rattle.std.specs.Option.{option_map}
use Rattle.std.proofs.lemmas.Bool.{cases_eq}
use Rattle.std.proofs.lemmas.Option.{none-some, same_Some, slice_get-map, slice_get_within}
use Rattle.cell_contract.specs.declared.family.Family.{Ghosts as FamilyWords}
use Rattle.cell_contract.specs.Ends.{EachTwo}
use Rattle.matrix_core.specs.Lines.{first_record}
use Rattle.matrix_core.proofs.orders.Listing.{get_map_back}
use Rattle.board_history.specs.BoardRuns.{Called, Did, IsProcess}
use Rattle.board_history.specs.RunsSoFar.{IsBoardRunSoFar}
use Rattle.board_live.specs.declared.board.Board.{Board}
use Rattle.board_live.specs.declared.board.Pass.{Pass}
use Rattle.board_live.specs.declared.record.Posted.{Posted}
use Rattle.board_live.specs.Left.{HasOrderWith, HaveAtomicOrderWith, HaveMade, SomePasses}
use Rattle.board_live.specs.Passes.{did_of, HasMade, IsPass}
use Rattle.board_live.specs.Records.{stamped}
use Rattle.board_tasks.specs.declared.lane.Entry.{Entry}
use Rattle.board_tasks.specs.declared.lane.Lane.{Lane}
use Rattle.board_tasks.specs.Left.{AreAtomicLogsWith, AreLogsOfAll, SomeHaveWorked}
use Rattle.board_tasks.specs.Lost.{is_lost}
use Rattle.board_tasks.specs.Told.{AllHaveEnded, AreOfRunBeside}
use Rattle.board_tasks.specs.Worked.{EachTells, HasWorked}
use Rattle.board_tasks.proofs.Logged.{called}

abbrev pick : {A : Type 0} {i j : ℕ} → (i ≡ j) ⊎ (i ≡ j → ⊥) → A → A → A
pick (inl e) a b = a
pick (inr ne) a b = b

picked_first : {A : Type 0} {i : ℕ} (c : (i ≡ i) ⊎ (i ≡ i → ⊥)) (a b : A) → pick c a b ≡ a
picked_first (inl e) a b = refl
picked_first (inr ne) a b = absurd (ne refl)

picked_second : {A : Type 0} {i j : ℕ} (c : (i ≡ j) ⊎ (i ≡ j → ⊥)) (a b : A) → i ≢ j → pick c a b ≡ b
picked_second (inl e) a b ne = absurd (ne e)
picked_second (inr away) a b ne = refl

module _ {V F S T : Type 0} where
  -- the lane of a process, if it is among these
  record HasLane (lanes : List (Lane V F S T)) (i : ℕ) : Type 0 where
    pub place : ℕ
    pub lane : Lane V F S T
    pub at : slice_get lanes place ≡ Some lane
    pub is : lane.pass.process ≡ i

  abbrev HasNone : List (Lane V F S T) → ℕ → Type 0
  HasNone lanes i = (k : ℕ) (l : Lane V F S T) → slice_get lanes k ≡ Some l → l.pass.process ≢ i

  none_more : (lanes : List (Lane V F S T)) (m : Lane V F S T) (i : ℕ) → m.pass.process ≢ i → HasNone lanes i →
      (k : ℕ) (l : Lane V F S T) → slice_get (m ∷ lanes) k ≡ Some l → l.pass.process ≢ i
  none_more lanes m i ne none zero l e = λ same. ne (ap (λ (z : Lane V F S T). z.pass.process) (same_Some m l e) ∙ same)
  none_more lanes m i ne none (suc k) l e = none k l e

  lane_more : (lanes : List (Lane V F S T)) (m : Lane V F S T) (i : ℕ) → HasLane lanes i → HasLane (m ∷ lanes) i
  lane_more lanes m i h = record { place = suc h.place; lane = h.lane; at = h.at; is = h.is }

  lane_or_none : (lanes : List (Lane V F S T)) (i : ℕ) → HasLane lanes i ⊎ HasNone lanes i
  lane_or_none [] i = inr (λ k l e same. none-some l e)
  lane_or_none (m ∷ lanes) i = elim (cases_eq m.pass.process i) [
    | inl e ↦ inl (record { place = zero; lane = m; at = refl; is = e })
    | inr ne ↦ elim (lane_or_none lanes i) [
      | inl h ↦ inl (lane_more lanes m i h)
      | inr none ↦ inr (λ k l e. none_more lanes m i ne none k l e)
    ]
  ]

module _ {V F S T : Type 0} (family : FamilyWords F (Posted V) S T) (obeys : V → Bool) (board : Board V F S T) where
  abbrev Worked : List (Lane V F S T) → Type 0
  Worked ls = (k : ℕ) (l : Lane V F S T) → slice_get ls k ≡ Some l → HasWorked family obeys board l.pass.process l

  record Tells (l : Lane V F S T) (cs : List (Called V)) : Type 0 where
    pub told : EachTells l.log.items cs
    pub made : HasMade family board l.pass cs

  calls_of : (l : Lane V F S T) → HasWorked family obeys board l.pass.process l → (cs : List (Called V)) × Tells l cs
  calls_of l x =
      let w = called family obeys board x.old l.log.items l.pass [] x.calls x.fresh in
      (w.0, record { told = w.1; made = w.2 })

  -- those of the lane of this process
  abbrev calls_for : (ls : List (Lane V F S T)) → Worked ls → ℕ → List (Called V)
  calls_for [] worked i = []
  calls_for (l ∷ ls) worked i =
      pick (cases_eq l.pass.process i) (calls_of l (worked 0 l refl)).0 (calls_for ls (λ k m e. worked (suc k) m e) i)

  told_for : (ls : List (Lane V F S T)) (worked : Worked ls) → EachTwo (λ i j l m. l.pass.process ≢ m.pass.process) ls →
      (k : ℕ) (l : Lane V F S T) → slice_get ls k ≡ Some l → Tells l (calls_for ls worked l.pass.process)
  told_for [] worked apart k l e = absurd (none-some l e)
  told_for (m ∷ ls) worked apart zero l e =
      subst (λ (z : Lane V F S T). Tells z (calls_for (m ∷ ls) worked z.pass.process)) (same_Some m l e)
      (subst (Tells m) (sym (picked_first (cases_eq m.pass.process m.pass.process) (calls_of m (worked 0 m refl)).0
      (calls_for ls (λ k n f. worked (suc k) n f) m.pass.process))) (calls_of m (worked 0 m refl)).1)
  told_for (m ∷ ls) worked apart (suc k) l e =
      subst (Tells l) (sym (picked_second (cases_eq m.pass.process l.pass.process) (calls_of m (worked 0 m refl)).0
      (calls_for ls (λ j n f. worked (suc j) n f) l.pass.process) (apart zero (suc k) m l refl e
      (λ (s : zero ≡ suc k). omega (arith, s)))))
      (told_for ls (λ j n f. worked (suc j) n f)
      (λ i j a b at_a at_b away. apart (suc i) (suc j) a b at_a at_b (λ (s : suc i ≡ suc j). away (omega (arith, s)))) k l e)

  module _ (lanes : List (Lane V F S T)) (worked : SomeHaveWorked family obeys board lanes) where
    pub some_passes : SomePasses family obeys board (map (λ l. l.pass) lanes)
    some_passes x p at =
        let w = get_map_back (λ (l : Lane V F S T). l.pass) lanes x p at in
        subst (λ (q : Pass V F S T). IsPass family obeys board q) w.2 (worked.each x w.0 w.1).of

    abbrev calls_by : ℕ → List (Called V)
    calls_by = calls_for lanes worked.each

    tells_at : (k : ℕ) (l : Lane V F S T) → slice_get lanes k ≡ Some l → Tells l (calls_by l.pass.process)
    tells_at = told_for lanes worked.each worked.apart

    have_made : HaveMade family board (map (λ l. l.pass) lanes) calls_by
    have_made x p at =
        let w = get_map_back (λ (l : Lane V F S T). l.pass) lanes x p at in
        subst (λ (q : Pass V F S T). HasMade family board q (calls_by q.process)) w.2 (tells_at x w.0 w.1).made

    pub logs_with : HaveAtomicOrderWith family board (map (λ l. l.pass) lanes) → AreAtomicLogsWith family board lanes
    logs_with atomic = record { calls = calls_by; told = λ k l e. (tells_at k l e).told; run = atomic calls_by have_made }

    module _ (order : HasOrderWith family board (map (λ l. l.pass) lanes) calls_by) (lost : List Bool) (logs : List (List (Entry V)))
        (all : AreLogsOfAll board lanes lost logs) where
      -- the process of a lane has made its calls, which have ended, and its log tells of them
      abbrev IsTold : ℕ → List (Entry V) → Type 0
      IsTold i log = EachTells log (order.did i).calls × AllHaveEnded family.width (length logs) (order.did i)

      lane_tells : (k : ℕ) (l : Lane V F S T) → slice_get lanes k ≡ Some l → IsTold l.pass.process l.log.items
      lane_tells k l e =
          let t : Tells l (calls_by l.pass.process) = tells_at k l e in
          let own : order.did l.pass.process ≡ did_of family l.pass.seat (calls_by l.pass.process) =
          order.own k l.pass (slice_get-map (λ (z : Lane V F S T). z.pass) lanes k ∙ ap (option_map (λ (z : Lane V F S T). z.pass)) e) in
          let made : IsProcess family.width board.processes board.limit (stamped board.first) l.pass.process
          (did_of family l.pass.seat (calls_by l.pass.process)) = t.made.made in
          let ended : AllHaveEnded family.width board.processes (did_of family l.pass.seat (calls_by l.pass.process)) =
          λ m c at. (c.end, made.ended m c at) in
          subst (λ (d : Did V). EachTells l.log.items d.calls × AllHaveEnded family.width (length logs) d) (sym own)
          (t.told, subst (λ n. AllHaveEnded family.width n (did_of family l.pass.seat (calls_by l.pass.process))) (sym all.all) ended)

      log_tells : (i : ℕ) (log : List (Entry V)) → slice_get logs i ≡ Some log → IsTold i log ⊎ ((is_lost lost i ≡ true) × (log ≡ []))
      log_tells i log at = elim (lane_or_none lanes i) [
        | inl h ↦
            let same : h.lane.log.items ≡ log = same_Some h.lane.log.items log
            (sym (all.left h.place h.lane h.at) ∙ ap (slice_get logs) h.is ∙ at) in
            inl (subst (IsTold i) same (subst (λ z. IsTold z h.lane.log.items) h.is (lane_tells h.place h.lane h.at)))
        | inr none ↦
            let l : i < board.processes = (let a = slice_get_within logs i log at in let n = all.all in omega arith) in
            let gone = all.gone i l none in
            inr (gone.0, same_Some log [] (sym at ∙ gone.1))
      ]

      of_run : AreOfRunBeside board.first.item lost logs
      of_run = record {
        width = family.width;
        limit = board.limit;
        steps = order.steps;
        did = order.did;
        run = subst (λ n. IsBoardRunSoFar family.width n board.limit (first_record board.first.item) order.steps order.did) (sym all.all)
            order.atomic.run;
        each = log_tells;
      }

    pub logs_beside : HaveAtomicOrderWith family board (map (λ l. l.pass) lanes) → (lost : List Bool) (logs : List (List (Entry V))) →
        AreLogsOfAll board lanes lost logs → AreOfRunBeside board.first.item lost logs
    logs_beside atomic = of_run (atomic calls_by have_made)
