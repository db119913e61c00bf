-- The calls of which logs tell: each entry's call, with its interval, so that all of them were made with the lanes' passes.
use Rattle.std.proofs.Common.{◌≡◌, Bool, ℕ, ◌<◌, List, [], ◌∷◌, ◌++◌, map, slice_get, Option, Some, None, refl, sym, ◌∙◌, ap}
use Rattle.std.proofs.Common.{subst, append_assoc, append-nil}
use Rattle.std.proofs.lemmas.List.{length-map}
use Rattle.std.proofs.lemmas.Option.{same_Some}
use Rattle.history_core.specs.declared.wish.Wish.{Wish}
use Rattle.history_core.specs.declared.wish.Wish.TheVariants.{Write, Read}
use Rattle.cell_contract.specs.declared.family.Family.{Ghosts as FamilyWords}
use Rattle.matrix_core.proofs.orders.Listing.{get_map_back}
use Rattle.board_history.specs.BoardRuns.{Called}
use Rattle.board_live.specs.declared.board.Board.{Board}
use Rattle.board_live.specs.declared.board.Pass.{Pass}
use Rattle.board_live.specs.declared.record.Posted.{Posted}
use Rattle.board_live.specs.Ends.{AllPasses, HaveAtomicOrder}
use Rattle.board_live.specs.Passes.{HasMade, IsPass}
use Rattle.board_live.specs.Records.{stamped}
use Rattle.board_tasks.specs.declared.lane.Entry.{Entry}
use Rattle.board_tasks.specs.declared.lane.Lane.{Lane}
use Rattle.board_tasks.specs.declared.lane.Reply.{Reply}
use Rattle.board_tasks.specs.declared.lane.Reply.TheVariants.{Written, Seen, Ended}
use Rattle.board_tasks.specs.Tasks.{AreCalls, IsEntry, kind_by, Replies}
use Rattle.board_tasks.specs.Worked.{AreAtomicLogs, EachTells, HasChosenBy, HasWorked, HaveWorked}

has_by : {V : Type 0} (limit process : ℕ) (wish : Wish V) (seen chosen : Posted V) (reply : Reply V) →
    Replies limit process wish seen chosen reply → HasChosenBy wish reply (stamped chosen)
has_by limit process Read seen chosen (Written s) h = absurd h
has_by limit process Read seen chosen (Seen p) h = ap stamped (h.1 ∙ sym h.0)
has_by limit process Read seen chosen (Ended p) h = absurd h
has_by limit process (Write item) seen chosen (Written s) h = ap stamped h.2
has_by limit process (Write item) seen chosen (Seen p) h = absurd h
has_by limit process (Write item) seen chosen (Ended p) h = ap stamped (h.2 ∙ sym h.1)

module _ {V F S T : Type 0} (family : FamilyWords F (Posted V) S T) (obeys : V → Bool) (board : Board V F S T) where
  -- the calls of which a log's entries tell
  pub called : (old : Pass V F S T) (es : List (Entry V)) (new : Pass V F S T) (before : List (Called V)) →
      AreCalls family obeys board old es new → HasMade family board old before → (cs : List (Called V)) × EachTells es cs
      × HasMade family board new (before ++ cs)
  called old [] new before h made =
      ([], tt, subst (λ p. HasMade family board p (before ++ [])) h (subst (HasMade family board old) (sym (append-nil before)) made))
  called old (e ∷ es) new before h made =
      let p : Pass V F S T = h.0 in
      let entry : IsEntry family obeys board old e p = h.1 in
      let call = entry.call in
      let c : Called V = record {
        begin = call.begin;
        end = call.end;
        kind = kind_by e.reply;
        seen = stamped entry.seen;
        chosen = stamped p.own;
        tells = call.tells;
        finds = call.finds;
      } in
      let rest = called p es new (before ++ c ∷ []) h.2 (call.made before made) in (
        c ∷ rest.0,
        ((refl, has_by board.limit old.process e.wish entry.seen p.own e.reply entry.replies), rest.1),
        subst (HasMade family board new) (append_assoc before (c ∷ []) rest.0) rest.2,
      )

module _ {V F S T : Type 0} (family : FamilyWords F (Posted V) S T) (obeys : V → Bool) where
  module _ (board : Board V F S T) (lanes : List (Lane V F S T)) (worked : HaveWorked family obeys board lanes) where
    -- the pass at a place is that of the lane there
    lane_there : (i : ℕ) (p : Pass V F S T) → slice_get (map (λ l. l.pass) lanes) i ≡ Some p →
        (l : Lane V F S T) × (slice_get lanes i ≡ Some l) × (l.pass ≡ p)
    lane_there i p at = get_map_back (λ (l : Lane V F S T). l.pass) lanes i p at

    pub all_passes : AllPasses family obeys board (map (λ l. l.pass) lanes)
    all_passes = record {
      all = length-map lanes (λ l. l.pass) ∙ worked.all;
      some = subst (λ n. 0 < n) (sym (length-map lanes (λ l. l.pass))) worked.some;
      each = λ i p at.
          let w = lane_there i p at in
          let x : HasWorked family obeys board i w.0 = worked.each i w.0 w.1 in
          subst (λ (q : Pass V F S T). IsPass family obeys board q × (q.process ≡ i)) w.2 (x.of, x.process);
    }

    calls_of : (i : ℕ) (l : Lane V F S T) → slice_get lanes i ≡ Some l →
        (cs : List (Called V)) × EachTells l.log.items cs × HasMade family board l.pass ([] ++ cs)
    calls_of i l at =
        let x : HasWorked family obeys board i l = worked.each i l at in
        called family obeys board x.old l.log.items l.pass [] x.calls x.fresh

    calls_at : (i : ℕ) (o : Option (Lane V F S T)) → slice_get lanes i ≡ o → List (Called V)
    calls_at i (Some l) e = (calls_of i l e).0
    calls_at i None e = []

    told_at : (i : ℕ) (o : Option (Lane V F S T)) (e : slice_get lanes i ≡ o) (l : Lane V F S T) → o ≡ Some l →
        EachTells l.log.items (calls_at i o e) × HasMade family board l.pass (calls_at i o e)
    unfolding calls_at
    told_at i (Some m) e l s = subst (λ (z : Lane V F S T). EachTells z.log.items (calls_of i m e).0
        × HasMade family board z.pass (calls_of i m e).0) (same_Some m l s) ((calls_of i m e).1, (calls_of i m e).2)
    told_at i None e l s = cc

    pub logs_atomic : (last : Posted V) → HaveAtomicOrder family board (map (λ l. l.pass) lanes) last →
        AreAtomicLogs family board lanes last
    logs_atomic last atomic = record {
      calls = λ i. calls_at i (slice_get lanes i) refl;
      told = λ i l at. (told_at i (slice_get lanes i) refl l at).0;
      run = atomic (λ i. calls_at i (slice_get lanes i) refl) (λ i p at.
          let w = lane_there i p at in
          subst (λ q. HasMade family board q (calls_at i (slice_get lanes i) refl)) w.2 (told_at i (slice_get lanes i) refl w.0 w.1).1);
    }

-- the logs of lanes
pub items_of : {V F S T : Type 0} (ls : List (Lane V F S T)) → map (λ v. v.items) (map (λ l. l.log) ls) ≡ map (λ l. l.log.items) ls
items_of [] = refl
items_of (l ∷ ls) = ap (λ z. l.log.items ∷ z) (items_of ls)
