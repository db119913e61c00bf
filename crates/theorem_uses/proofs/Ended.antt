-- The calls of a run are operations of its history, which its order lists; so what an atomic order says of operations it says of calls.
use Rattle.std.proofs.Common.{◌≡◌, ◌≢◌, ℕ, zero, suc, ◌+◌, ◌<◌, ◌≤◌, true, false, List, [], ◌∷◌, length, slice_get, take, unwrap_or, Option}
use Rattle.std.proofs.Common.{None, Some}
use Rattle.std.proofs.Common.{refl, sym, ◌∙◌, ap, subst, ◌⊎◌, inl, inr, arith}
use Rattle.std.proofs.lemmas.Bool.{cases_eq, cases_order}
use Rattle.std.proofs.lemmas.Option.{none-some, same_Some, slice_get_within}
use Rattle.history_core.specs.declared.history.Op.{Op}
use Rattle.history_core.specs.declared.history.Kind.{Kind}
use Rattle.history_core.specs.declared.history.Kind.TheVariants.{Write, Read, Refused}
use Rattle.history_core.specs.Numbers.{StandsAt}
use Rattle.history_core.specs.Orders.{is_write, latest}
use Rattle.matrix_core.specs.declared.stamp.Stamp.{Stamp}
use Rattle.matrix_core.specs.Choices.{IsAtMost}
use Rattle.cell_contract.specs.declared.family.Family.{Ghosts as FamilyWords}
use Rattle.matrix_core.specs.Listings.{MayPrecede}
use Rattle.board_history.specs.BoardRuns.{Called, Did}
use Rattle.board_history.specs.Histories.{IsOpOfCall}
use Rattle.board_live.specs.declared.board.Board.{Board}
use Rattle.board_live.specs.declared.record.Posted.{Posted}
use Rattle.board_live.specs.Ends.{IsAtomicRun}
use Rattle.theorem_uses.specs.Boards.{EndsWithTheOnlyWrite, IsOnlyBoardWrite, ReadsTheOnlyWrite, RefusesNone, StampsRiseByTime}
use Rattle.theorem_uses.specs.Orders.{IsOnlyWrite as IsOnlyWriteAt}
use Rattle.theorem_uses.proofs.Latest.{is_there}
use Rattle.theorem_uses.proofs.Listed.{listed}
use Rattle.theorem_uses.proofs.Ordered.{cut, intervals, reads as read_at, waits}

differ : Write ≡ Read → ⊥
differ e = cc

-- the operation of a call, with its place
record Placed {V : Type 0} (ops : List (Op V)) (stamps : List (Option Stamp)) (i k : ℕ) (c : Called V) : Type 0 where
  pub place : ℕ
  pub op : Op V
  pub there : slice_get ops place ≡ Some op
  pub who : op.who ≡ i
  pub kind : op.kind ≡ c.kind
  pub item : op.item ≡ Some c.chosen.item
  pub stamp : slice_get stamps place ≡ Some (Some c.chosen.stamp)
  pub begins : op.starts ≡ c.begin
  pub ends : op.ends ≡ Some c.end

found : {A : Type 0} (xs : List A) (p : ℕ) → p < length xs → (x : A) × (slice_get xs p ≡ Some x)
found [] p l = absurd (omega arith)
found (x ∷ xs) zero l = (x, refl)
found (x ∷ xs) (suc p) l = found xs p (omega arith)

at_most : {V : Type 0} (s t : Stamp) (p q : ℕ) (a b : Op V) → MayPrecede s a p t b q → IsAtMost s t
at_most s t p q a b (inl below) = inr below
at_most s t p q a b (inr same) = inl same.0

module _ {V F S T : Type 0} (words : FamilyWords F (Posted V) S T) (board : Board V F S T) (did : ℕ → Did V) (last : Posted V)
    (run : IsAtomicRun words board did last) where
  placed : (i k : ℕ) (c : Called V) → i < board.processes → slice_get (did i).calls k ≡ Some c → Placed run.ops run.stamps i k c
  placed i k c l at =
      let h = run.history.all i k c l at in
      let is = h.6 in
      let same : is.call ≡ c = same_Some is.call c (sym is.made ∙ ap (λ z. slice_get (did z).calls k) h.5 ∙ at) in
      record {
        place = h.0;
        op = h.1;
        there = h.3;
        who = h.5;
        kind = is.kind ∙ ap (λ (z : Called V). z.kind) same;
        item = is.item ∙ ap (λ (z : Called V). Some z.chosen.item) same;
        stamp = h.4 ∙ ap Some (is.stamp ∙ ap (λ (z : Called V). Some z.chosen.stamp) same);
        begins = is.begins ∙ ap (λ (z : Called V). z.begin) same;
        ends = is.ends ∙ ap (λ (z : Called V). Some z.end) same;
      }

  -- each operation is a call
  of_call : (p : ℕ) (op : Op V) → slice_get run.ops p ≡ Some op →
      (stamp : Option Stamp) × (k : ℕ) × IsOpOfCall board.processes did op stamp k
  of_call p op at =
      let l : p < length run.stamps = let a = slice_get_within run.ops p op at in let b = run.history.long in omega (arith, a, b) in
      let s = found run.stamps p l in
      let c = run.history.each p op s.0 at s.1 in
      (s.0, c.0, c.1)

  -- an operation that is a write is that of the only write
  same_place : (i k : ℕ) (w : Called V) → IsOnlyBoardWrite board.processes did i k w → (x : Placed run.ops run.stamps i k w) →
      IsOnlyWriteAt run.ops x.place
  same_place i k w only x q op at kind =
      let c = of_call q op at in
      let is = c.2 in
      let known = only.only op.who c.1 is.call is.who is.made (sym is.kind ∙ kind) in
      let same : is.call ≡ w = same_Some is.call w (sym is.made ∙ ap (λ z. slice_get (did z).calls c.1) known.0
      ∙ ap (λ z. slice_get (did i).calls z) known.1 ∙ only.there) in
      let starts : op.starts ≡ x.op.starts = is.begins ∙ ap (λ (z : Called V). z.begin) same ∙ sym x.begins in
      no_two q x.place op x.op at x.there starts
    where
      no_two : (p q : ℕ) (a b : Op V) → slice_get run.ops p ≡ Some a → slice_get run.ops q ≡ Some b → a.starts ≡ b.starts → p ≡ q
      no_two p q a b at_p at_q e = elim (cases_order p q) [
        | inl same ↦ same
        | inr (inl below) ↦ absurd (let z = run.history.rising p q a b at_p at_q below in omega (arith, z, e))
        | inr (inr above) ↦ absurd (let z = run.history.rising q p b a at_q at_p above in omega (arith, z, e))
      ]

  stands : (i k : ℕ) (c : Called V) → (x : Placed run.ops run.stamps i k c) → (y : ℕ) × (slice_get run.order y ≡ Some x.place)
  stands i k c x = listed board.first.item run.ops run.order run.atomic x.place c.end x.op x.there x.ends

  apart : (i k j m : ℕ) (w r : Called V) → w.kind ≡ Write → r.kind ≡ Read → (x : Placed run.ops run.stamps i k w) →
      (y : Placed run.ops run.stamps j m r) → x.place ≢ y.place
  apart i k j m w r writes reads x y same =
      let one : x.op ≡ y.op = same_Some x.op y.op (sym x.there ∙ ap (slice_get run.ops) same ∙ y.there) in
      differ (sym writes ∙ sym x.kind ∙ ap (λ (z : Op V). z.kind) one ∙ y.kind ∙ reads)

  the_item : (a b : V) → Some a ≡ Some b → a ≡ b
  the_item a b e = same_Some a b e

  reads_it : (i k j m : ℕ) (w r : Called V) → IsOnlyBoardWrite board.processes did i k w → j < board.processes →
      slice_get (did j).calls m ≡ Some r → r.kind ≡ Read → w.end < r.begin → r.chosen.item ≡ w.chosen.item
  reads_it i k j m w r only l at reads later =
      let x = placed i k w only.inside only.there in
      let y = placed j m r l at in
      let at_x = stands i k w x in
      let at_y = stands j m r y in
      let starts : w.end < y.op.starts = let z = y.begins in omega (arith, z, later) in
      let before = intervals board.first.item run.ops run.order at_x.0 at_y.0
      x.place y.place w.end x.op y.op run.atomic at_x.1 at_y.1 x.there
      y.there (apart i k j m w r only.kind reads x y) x.ends starts in
      let has = read_at board.first.item run.ops run.order at_y.0 y.place y.op run.atomic at_y.1 y.there (y.kind ∙ reads) in
      let there = is_there board.first.item run.ops x.place at_x.0 x.op (take at_y.0 run.order) x.there (same_place i k w only x)
      (x.kind ∙ only.kind) (cut run.order at_x.0 at_y.0 x.place before at_x.1) in
      the_item r.chosen.item w.chosen.item (sym y.item ∙ has.1 ∙ sym has.2 ∙ there ∙ x.item)

  ends_with : (i k : ℕ) (w : Called V) → IsOnlyBoardWrite board.processes did i k w → last.item ≡ w.chosen.item
  ends_with i k w only =
      let x = placed i k w only.inside only.there in
      let at_x = stands i k w x in
      let there = is_there board.first.item run.ops x.place at_x.0 x.op run.order x.there
      (same_place i k w only x) (x.kind ∙ only.kind) at_x.1 in
      the_item last.item w.chosen.item (sym run.holds ∙ there ∙ x.item)

  no_writes : ((i k : ℕ) (c : Called V) → i < board.processes → slice_get (did i).calls k ≡ Some c → c.kind ≢ Write) →
      (q : ℕ) (op : Op V) → slice_get run.ops q ≡ Some op → op.kind ≢ Write
  no_writes none q op at writes =
      let c = of_call q op at in
      none op.who c.1 c.2.call c.2.who c.2.made (sym c.2.kind ∙ writes)

  refuses_none : (j m : ℕ) (c : Called V) → 0 < board.limit →
      ((i k : ℕ) (c : Called V) → i < board.processes → slice_get (did i).calls k ≡ Some c → c.kind ≢ Write) → j < board.processes →
      slice_get (did j).calls m ≡ Some c → c.kind ≢ Refused
  refuses_none j m c some none l at refused =
      let y = placed j m c l at in
      let at_y = stands j m c y in
      waits board.limit run.ops run.order at_y.0 y.place y.op some run.lawful (no_writes none) at_y.1 y.there (y.kind ∙ refused)

  stamps_rise : (i k j m : ℕ) (a b : Called V) → i < board.processes → j < board.processes → slice_get (did i).calls k ≡ Some a →
      slice_get (did j).calls m ≡ Some b → a.end < b.begin → IsAtMost a.chosen.stamp b.chosen.stamp
  stamps_rise i k j m a b li lj at_a at_b later =
      let x = placed i k a li at_a in
      let y = placed j m b lj at_b in
      let at_x = stands i k a x in
      let at_y = stands j m b y in
      elim (cases_eq x.place y.place) [
        | inl same ↦
            inl (ap (λ (z : Option Stamp). unwrap_or z a.chosen.stamp) (same_Some (Some a.chosen.stamp) (Some b.chosen.stamp)
            (sym x.stamp ∙ ap (slice_get run.stamps) same ∙ y.stamp)))
        | inr other ↦
            let starts : a.end < y.op.starts = let z = y.begins in omega (arith, z, later) in
            let before = intervals board.first.item run.ops run.order at_x.0 at_y.0 x.place y.place a.end x.op y.op run.atomic at_x.1 at_y.1
            x.there y.there other x.ends starts in
            at_most a.chosen.stamp b.chosen.stamp x.place y.place x.op y.op
            (run.by_stamp.sorted at_x.0 at_y.0 x.place y.place x.op y.op a.chosen.stamp b.chosen.stamp before
            (at_x.1, x.there) (at_y.1, y.there)
            x.stamp y.stamp)
      ]

module _ {V F S T : Type 0} (words : FamilyWords F (Posted V) S T) where
  pub reads_the_only : ReadsTheOnlyWrite words
  reads_the_only board did last i k j m w r run only l at reads later = reads_it words board did last run i k j m w r only l at reads later

  pub ends_with_the_only : EndsWithTheOnlyWrite words
  ends_with_the_only board did last i k w run only = ends_with words board did last run i k w only

  pub refuses_no_write : RefusesNone words
  refuses_no_write board did last j m c some run none l at = refuses_none words board did last run j m c some none l at

  pub stamps_go_up : StampsRiseByTime words
  stamps_go_up board did last i k j m a b run li lj at_a at_b later =
      stamps_rise words board did last run i k j m a b li lj at_a at_b later
