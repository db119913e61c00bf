-- One operation more of those that were looked at.
use Rattle.std.proofs.Common.{◌≡◌, ◌∙◌, ◌++◌, ◌+◌, ◌<◌, ◌∷◌, [], ℕ, Bool, List, ap, append_assoc, drop, get_or, length, sym}
use Rattle.std.specs.Prelude.{if◌then◌else◌}
use Rattle.std.proofs.lemmas.List.{at_drop_more}
use Rattle.history_core.specs.declared.history.Op.{Op}
use Rattle.reason_sentences.specs.Seen.{is_seen, seen_from}

pub one_looked_at : (last end place : ℕ) (ops : List (Op ℕ)) (d : Op ℕ) (seen new all : List ℕ) (b : Bool) → place < length ops
    → seen ++ seen_from last end place (drop place ops) ≡ all → b ≡ is_seen last end (get_or ops place d)
    → new ≡ seen ++ (if b then place ∷ [] else []) → new ++ seen_from last end (place + 1) (drop (place + 1) ops) ≡ all
one_looked_at last end place ops d seen new all b less before of grown =
    let rest : List ℕ = seen_from last end (place + 1) (drop (place + 1) ops) in
    let one : Bool → List ℕ = λ found. if found then place ∷ [] else [] in
    ap (λ (l : List ℕ). l ++ rest) grown ∙ append_assoc seen (one b) rest
    ∙ ap (λ (found : Bool). seen ++ (one found ++ rest)) of
    ∙ ap (λ (l : List ℕ). seen ++ l) (sym (at_drop_more (seen_from last end place) ops place d less)) ∙ before
