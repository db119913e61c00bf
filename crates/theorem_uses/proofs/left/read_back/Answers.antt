-- The read stands behind the write in the log, and entries that are no write or no read are no such ones.
use Rattle.std.proofs.Common.{◌≡◌, ℕ, ◌<◌, ◌≤◌, ◌∙◌, List, [], ◌∷◌, arith, ap, get_or, length, refl, slice_get, Some, sym}
use Rattle.std.proofs.lemmas.Option.{get_or_from_slice_get, none-some, slice_get-get_or}
use Rattle.theorem_uses.proofs.Stale.{stale_entries}
use Rattle.theorem_uses.proofs.left.read_back.Goals as goal

-- what is found at one of the first two places of the log
found : {A : Type 0} (lent log : List A) (place : ℕ) (there it : A) → lent ≡ log → 2 ≤ length lent → place < 2 →
    there ≡ get_or lent place there → there ≡ it → slice_get log place ≡ Some it
found lent log place there it same long l is e =
    ap (λ xs. slice_get xs place) (sym same) ∙ slice_get-get_or lent place there (omega arith) ∙ ap Some (sym is ∙ e)

has : {A : Type 0} (lent log : List A) (place : ℕ) (there it : A) → lent ≡ log → there ≡ get_or lent place there →
    slice_get log place ≡ Some it → there ≡ it
has lent log place there it same is e = is ∙ get_or_from_slice_get lent place it there (ap (λ xs. slice_get xs place) same ∙ e)

pub returns-clause-fresh : goal.returns-clause-fresh
returns-clause-fresh g c =
    let lane = c.args.lane.now in
    let same = c.log-log.ensures in
    let long = c.if-log-lt2.false in
    stale_entries g.F.Family c.args.board.now (lane ∷ []) 0 0 1 lane c.in_ok-stamp.stamp c.in_ok-stamp.item c.in_ok-posted.posted
    c.requires.logs refl c.requires.inside (omega arith)
    (found c.log-log.result.now lane.log.items 0 _ _ same long (omega arith) c.index-log-0.is c.in_ok-stamp.ensures.write)
    (found c.log-log.result.now lane.log.items 1 _ _ same long (omega arith) c.index-log-1.is c.in_ok-posted.ensures.read)

pub returns-in_err-stamp-clause-each : goal.returns-in_err-stamp-clause-each
returns-in_err-stamp-clause-each g c = λ stamp item posted more e.
    absurd (none-some (stamp, item) (sym c.in_err-stamp.was ∙ c.written.ensures.each stamp item
    (has c.log-log.result.now c.args.lane.now.log.items 0 _ _ c.log-log.ensures c.index-log-0.is (ap (λ es. slice_get es 0) e))))

pub returns-in_err-posted-clause-each : goal.returns-in_err-posted-clause-each
returns-in_err-posted-clause-each g c = λ stamp item posted more e.
    absurd (none-some posted (sym c.in_err-posted.was ∙ c.seen.ensures.each posted
    (has c.log-log.result.now c.args.lane.now.log.items 1 _ _ c.log-log.ensures c.index-log-1.is (ap (λ es. slice_get es 1) e))))
