-- By the last write to begin of those that had ended before the operation.
use Rattle.std.proofs.Common.{◌≡◌, ℕ, ◌+◌, List, slice_get, Option, Some, arith, sym, ◌∙◌, ap}
use Rattle.std.specs.Prelude.{unwrap_or}
use Rattle.history_core.specs.declared.history.Op.{Op}
use Rattle.reason_sentences.specs.Seen.{could_see, last_begin, seen_by, seen_from}
use Rattle.order_laws.proofs.SeenLemmas.{is_in_seen, seen, seen_is, visible}
use Rattle.order_laws.proofs.laws.seen_are_regular.Goals as goal

listed : (ops : List (Op ℕ)) (k end : ℕ) (read : Op ℕ) → slice_get ops k ≡ Some read → read.ends ≡ Some end →
    could_see ops k ≡ seen_from (last_begin read.starts 0 ops) end 0 ops
listed ops k end read at ends = ap (seen_by ops) at ∙ ap (λ z. seen_from (last_begin read.starts 0 ops) (unwrap_or z 0) 0 ops) ends

pub returns-clause-each : goal.returns-clause-each
returns-clause-each c ops k end read at ends i p e =
    let last = last_begin read.starts 0 ops in
    let w = seen_is last end 0 ops i p (ap (λ z. slice_get z i) (sym (listed ops k end read at ends)) ∙ e) in
    let same : p ≡ w.0 = let at = w.3 in omega (arith, at) in
    (w.1, ap (slice_get ops) same ∙ w.2, visible ops read end w.1 w.4)

pub returns-clause-all : goal.returns-clause-all
returns-clause-all c ops k end read at ends p write found is =
    let last = last_begin read.starts 0 ops in
    let w = is_in_seen last end 0 ops p write found (seen ops read end write is) in
    let same : 0 + p ≡ p = omega arith in
    (w.0, ap (λ z. slice_get z w.0) (listed ops k end read at ends) ∙ w.1 ∙ ap Some same)
