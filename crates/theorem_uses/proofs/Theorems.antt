-- Each part of a theorem is a part of its record.
use Rattle.std.proofs.Common.{◌≡◌, ◌≢◌, ℕ, ◌+◌, ◌<◌, ◌≤◌, List, [], ◌∷◌, ◌++◌, length, Result, Ok, Err, MatchResult, ◌⊎◌, inl, inr}
use Rattle.std.proofs.Common.{refl, sym, ◌∙◌, ap, subst, arith}
use Rattle.matrix_core.specs.declared.stamp.Stamp.{Stamp}
use Rattle.matrix_core.specs.Stamps.{IsBelow}
use Rattle.history_core.specs.declared.reason.Search.{Search}
use Rattle.history_core.specs.declared.reason.SearchError.{SearchError}
use Rattle.history_core.specs.Searches.{IsAnswered, IsFault}
use Rattle.cell_contract.specs.declared.cell.Calls.{Ghosts as CellWords}
use Rattle.cell_contract.specs.declared.family.Family.{Ghosts as FamilyWords}
use Rattle.board_live.specs.declared.record.Posted.{Posted}
use Rattle.theorem_uses.specs.Products.{BoardCalls, BoardCallStands, BoardShows, CellHeeds, CellIsEnded}
use Rattle.theorem_uses.specs.Products.{CellReads, CellWrites, GreatestIsThere}
use Rattle.theorem_uses.specs.Products.{SearchMissesNone, VerdictIsExact, WritesChoose}

not_below : (s : Stamp) → IsBelow s s → ⊥
not_below s (inl tag) = omega (arith, tag)
not_below s (inr writer) = let w = writer.1 in omega (arith, w)

module _ {R : Type 0} (Same : R → R → Type 0) where
  pub verdicts : VerdictIsExact Same
  verdicts opening terms ops order verdict search h =
      (h.exact, λ e. let l = h.accepts e in (l.0, l.1), λ atomic refuses. h.refuses (atomic, refuses))

  pub misses_none : SearchMissesNone Same
  misses_none opening terms ops order found verdict search reason h = (
    λ e. let l = h.finds found e in (l.0, l.1),
    λ e atomic refuses. h.misses_none reason found e (atomic, refuses),
    λ e. let r = h.reasons reason e in (r.0, r.1, r.2),
    λ answer e. subst (λ z. MatchResult z (IsAnswered Same opening terms ops) (IsFault Same opening terms ops)) e h.answers,
    λ error e. subst (λ z. MatchResult z (IsAnswered Same opening terms ops) (IsFault Same opening terms ops)) e h.answers,
  )

module _ {C T P G R : Type 0} (words : CellWords C T P G R) (fits : T → Type 0) (rises : T → T → Type 0) where
  pub writes : CellWrites words fits rises
  writes cell put get item answer h = (h.wrote, h.written, h.write_timed, h.write_accesses, h.ended)

  pub tells : CellHeeds words fits rises
  tells cell put get item answer h =
      let told : (words.put_times h.wrote).clock ≤ (words.get_times h.learnt).clock = h.heard.heard in
      let after : (words.get_times h.learnt).clock < h.read_timed.begin = h.read_timed.after in (
        h.wrote,
        h.read,
        h.read_timed.begin,
        h.read_timed.end,
        omega arith,
        h.read_timed.forwards,
        h.read_timed.begins ∙ ap (λ z. z ++ h.read_timed.begin ∷ []) h.heard.begins,
        h.read_timed.ends ∙ ap (λ z. z ++ h.read_timed.end ∷ []) h.heard.ends,
        h.written,
      )

  pub reads : CellReads words fits rises
  reads cell put get item answer h =
      (h.wrote, h.read, h.answers, h.read_accesses, h.lawful.0, h.lawful.1, h.lawful.2, h.so_far)

  pub ends : CellIsEnded words fits rises
  ends cell put get item answer h = (h.wrote, h.read, h.order)

module _ {V F S T : Type 0} (words : FamilyWords F (Posted V) S T) where
  pub board_calls : BoardCalls words
  board_calls board passes item read wrote h =
      (h.others, h.pass, h.between, h.after, h.seen, h.chosen, h.taken, h.reads, h.writes, h.chooses)

  pub call_stands : BoardCallStands words
  call_stands board kind old new seen chosen calls h made = let all = h.made calls made in
      (h.call, h.is.0, h.is.1, h.is.2, h.timed.0, h.timed.1, all, h.atomic (calls ++ h.call ∷ []) all)

  pub board_shows : BoardShows words
  board_shows board passes shown last h = (
    h.final,
    h.still,
    h.so_far.greatest,
    h.so_far.order,
    h.so_far.registers,
    h.ended.greatest,
    h.ended.order,
    h.ended.registers,
  )

  pub greatest_is : GreatestIsThere words
  greatest_is passes last h = (
    h.process,
    h.pass,
    h.there,
    h.own,
    λ j q less at same. not_below last.stamp (subst (λ z. IsBelow z last.stamp) same (h.earliest j q less at)),
  )

  pub chooses : WritesChoose words
  chooses limit process item seen chosen = (λ s h. (h.0, h.1, h.2), λ e h. (h.0, h.1, h.2))
