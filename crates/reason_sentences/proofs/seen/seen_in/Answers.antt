-- The operation is one more, or none.
use Rattle.std.proofs.Common.{◌∙◌, ◌++◌, ◌∷◌, [], ℕ, Bool, Global, List, Vec, ap, append-nil, sym}
use Rattle.std.specs.Prelude.{if◌then◌else◌}
use Rattle.reason_sentences.proofs.SeenLemmas.{one_looked_at}
use Rattle.reason_sentences.proofs.seen.seen_in.Goals as goal
use Rattle.reason_sentences.proofs.seen.seen_in.Goals.{then-is_seen+in_ok-push, else-is_seen}

pub loop-place-preserved : goal.loop-place-preserved
loop-place-preserved c =
    let with : Bool → List ℕ = λ found. c.loop-place.seen.items ++ (if found then c.loop-place.place ∷ [] else []) in
    one_looked_at c.args.last c.args.end c.loop-place.place c.args.ops.now _ c.loop-place.seen.items
    c.if-is_seen.seen.items _ c.is_seen.result c.loop-place-test.true c.loop-place.invariant c.is_seen.ensures
    (elim c.if-is_seen.branch [
      | then-is_seen+in_ok-push w ↦ ap (λ (v : Vec ℕ Global). v.items) w.seen-is ∙ w.in_ok-push.ensures.items ∙ ap with (sym w.if-is_seen.true)
      | else-is_seen w ↦ ap (λ (v : Vec ℕ Global). v.items) w.seen-is ∙ sym (append-nil c.loop-place.seen.items)
          ∙ ap with (sym w.if-is_seen.false)
    ])
