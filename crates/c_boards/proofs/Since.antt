-- What a read is, where its answer is older than a stamp and where it isn't.
use Rattle.std.proofs.Common.{◌≡◌, ℕ, refl, true, false, arith}
use Rattle.matrix_core.specs.Stamps.{is_below}
use Rattle.board_live.specs.declared.record.Posted.{Posted}
use Rattle.c_boards.specs.Marks.{stamp_of}
use Rattle.c_boards.specs.Places.{IsBoardRead, IsBoardReadSince, done, fresh, older, refused}
use Rattle.c_boards.specs.declared.mark.Mark.{Mark}
use Rattle.c_registers.specs.Handles.{Holding, LacksSide, ended, other, cut_off}

-- no side is lacking with the status of a call that was done
lacks_none : {live n : ℕ} → LacksSide live n → n ≡ 0 → ⊥
lacks_none (ended a) e = omega (arith, e)
lacks_none (other a b) e = omega (arith, e)
lacks_none (cut_off a) e = omega (arith, e)

module _ {D S W : Type 0}
    (code : ℕ) {place : S → D} {has_seen : S → S → Posted W → Type 0} {h k : Holding D} {item item' : W} {stamp stamp' : Mark}
    (least : Mark) where
  pub older_of : {n : ℕ} → IsBoardRead code place has_seen h k item item' stamp stamp' n → n ≡ 0
      → is_below (stamp_of stamp') (stamp_of least) ≡ true → IsBoardReadSince code place has_seen h k least item item' stamp stamp' 10
  older_of (done p q a b c) e t = older p q a b c t
  older_of (refused r i s) e t = absurd (lacks_none r.1 e)

  pub fresh_of : {n : ℕ} → IsBoardRead code place has_seen h k item item' stamp stamp' n
      → (n ≡ 0 → is_below (stamp_of stamp') (stamp_of least) ≡ false) →
      IsBoardReadSince code place has_seen h k least item item' stamp stamp' n
  fresh_of (done p q a b c) f = fresh p q a b c (f refl)
  fresh_of (refused r i s) f = refused r i s
