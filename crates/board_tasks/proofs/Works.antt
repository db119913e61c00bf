-- Lanes that were made of a new board's passes, and then run, have worked with fresh passes.
use Rattle.std.proofs.Common.{◌≡◌, Bool, ℕ, ◌+◌, ◌<◌, ◌≤◌, ◌++◌, List, [], ◌∷◌, length, get_or, refl, sym, ◌∙◌, ap, subst, arith, zero, suc}
use Rattle.std.specs.Prelude.{drop, slice_get, Some, take}
use Rattle.std.proofs.lemmas.List.{append-nil, take_all}
use Rattle.std.proofs.lemmas.Option.{slice_get_within, slice_get-get_or}
use Rattle.history_core.specs.declared.wish.Wish.{Wish}
use Rattle.cell_contract.specs.declared.family.Family.{Ghosts as FamilyWords}
use Rattle.board_live.specs.declared.board.Board.{Board}
use Rattle.board_live.specs.declared.board.Pass.{Pass}
use Rattle.board_live.specs.declared.record.Posted.{Posted}
use Rattle.board_live.specs.Deals.{IsNew}
use Rattle.board_live.specs.Passes.{HasMade}
use Rattle.board_tasks.specs.declared.lane.Entry.{Entry}
use Rattle.board_tasks.specs.declared.lane.Lane.{Lane}
use Rattle.board_tasks.specs.Jobs.{EachStep}
use Rattle.board_tasks.specs.Lanes.{AreLanes, IsNewLane}
use Rattle.board_tasks.specs.Tasks.{AreCalls, Ran}
use Rattle.board_tasks.specs.Worked.{HaveWorked}
use Rattle.board_tasks.proofs.LaneLists.{lane_at, lanes_length}

module _ {V F S T : Type 0} (family : FamilyWords F (Posted V) S T) (obeys : V → Bool) where
  same_process : (board : Board V F S T) (old new : Pass V F S T) (es : List (Entry V)) → AreCalls family obeys board old es new →
      new.process ≡ old.process
  same_process board old new [] h = ap (λ (p : Pass V F S T). p.process) (sym h)
  same_process board old new (e ∷ es) h = same_process board h.0 new es h.2 ∙ h.1.call.process

  pub have_worked : (may_call may_stop : ℕ → ℕ → Type 0) (n limit : ℕ) (first : Posted V) (board : Board V F S T)
      (passes : List (Pass V F S T))
      (scripts : List (List (Wish V))) (old new : List (Lane V F S T))
      → IsNew family obeys n limit first board passes → 0 < n → AreLanes obeys passes scripts old
      → EachStep (Ran family obeys may_call may_stop board) 0 old new → HaveWorked family obeys board new
  have_worked may_call may_stop n limit first board passes scripts old new made some are ran = record {
    all = ran.lengths ∙ lanes_length family obeys passes scripts old are ∙ made.count.1 ∙ sym made.count.0;
    some = subst (λ m. 0 < m) (sym (ran.lengths ∙ lanes_length family obeys passes scripts old are ∙ made.count.1)) some;
    each = λ k lane at.
        let l : Lane V F S T = get_or old k lane in
        let same : length new ≡ length old = ran.lengths in
        let in_new : k < length new = slice_get_within new k lane at in
        let at_old : slice_get old k ≡ Some l = slice_get-get_or old k lane (omega arith) in
        let w = lane_at family obeys passes scripts old are k l at_old in
        let is : IsNewLane obeys w.0 w.1 l = w.4 in
        let p = made.each k w.0 w.2 in
        let r : Ran family obeys may_call may_stop board (0 + k) l lane = ran.each k l lane at_old at in
        let calls : AreCalls family obeys board l.pass lane.log.items lane.pass =
        subst (λ z. AreCalls family obeys board l.pass z lane.pass) (sym (r.log ∙ ap (λ z. z ++ r.added) is.empty)) r.calls in
        record {
          old = l.pass;
          fresh = subst (λ z. HasMade family board z []) (sym is.has) p.3;
          of = r.of;
          process = same_process board l.pass lane.pass lane.log.items calls
              ∙ ap (λ (z : Pass V F S T). z.process) is.has ∙ p.1;
          calls = calls;
        };
  }

pub drop_past : {X : Type 0} (xs : List X) (n : ℕ) → length xs ≤ n → drop n xs ≡ []
drop_past [] zero h = refl
drop_past [] (suc n) h = refl
drop_past (x ∷ xs) zero h = absurd (omega arith)
drop_past (x ∷ xs) (suc n) h = drop_past xs n (omega arith)

-- what a vector holds whose slice was changed as a whole
pub changed_whole : {X : Type 0} (n : ℕ) (old before new now : List X) → n ≡ length old → before ≡ old → length new ≡ length before
    → now ≡ take n (new ++ drop (length new) old) → now ≡ new
changed_whole n old before new now count same lengths changed =
    let long : length new ≡ length old = lengths ∙ ap length same in
    let rest : new ++ drop (length new) old ≡ new = ap (λ z. new ++ z) (drop_past old (length new) (omega arith)) ∙ append-nil new in
    changed ∙ ap (take n) rest ∙ take_all n new (omega (arith, count, long))
