-- Logs and scripts that get one more.
use Rattle.std.proofs.Common.{◌≡◌, ℕ, ◌+◌, ◌<◌, List, [], ◌∷◌, ◌++◌, length, map, take, get_or, refl, sym}
use Rattle.std.proofs.Common.{◌∙◌, ap, arith, subst, true}
use Rattle.std.specs.Prelude.{All}
use Rattle.std.proofs.lemmas.List.{map-append, take_more}
use Rattle.std.proofs.lemmas.List.Elements.{All-push}
use Rattle.history_core.specs.declared.wish.Wish.{Wish}
use Rattle.history_core.specs.declared.wish.Wish.TheVariants.{Read}
use Rattle.board_tasks.specs.declared.lane.Entry.{Entry}
use Rattle.board_tasks.specs.Logs.{Obeys}
use Rattle.soak_rounds.specs.Scripts.{counted_in, Scripted}
use Rattle.soak_rounds.specs.Findings.{counted}

-- the sum of what is counted in logs, with one log more
counted_end : {X : Type 0} (of : List (Entry X) → ℕ) (sum : ℕ) (logs : List (List (Entry X))) (log : List (Entry X))
    → counted (counted_in of sum logs) (of log) ≡ counted_in of sum (logs ++ log ∷ [])
counted_end of sum [] log = refl
counted_end of sum (l ∷ logs) log = counted_end of (counted sum (of l)) logs log

pub counted_more : {X L : Type 0} (of : List (Entry X) → ℕ) (log_of : L → List (Entry X)) (lanes : List L) (k : ℕ) (lane : L)
    → k < length lanes → lane ≡ get_or lanes k lane
    → counted (counted_in of 0 (map log_of (take k lanes))) (of (log_of lane)) ≡ counted_in of 0 (map log_of (take (k + 1) lanes))
counted_more of log_of lanes k lane l at =
    counted_end of 0 (map log_of (take k lanes)) (log_of lane)
    ∙ sym (ap (counted_in of 0) (ap (map log_of) (take_more lanes k lane l)
    ∙ map-append log_of (take k lanes) (get_or lanes k lane ∷ [])
    ∙ ap (λ z. map log_of (take k lanes) ++ log_of z ∷ []) (sym at)))

-- wishes that obey a law that all records obey
pub none_lawful : {X : Type 0} → All (Obeys {V = X} (λ _. true)) []
none_lawful = λ k d l. absurd (omega arith)

pub both_lawful : {X : Type 0} (s : List (Wish X)) (w : Wish X) → All (Obeys (λ _. true)) s → Obeys (λ _. true) w
    → All (Obeys (λ _. true)) ((s ++ w ∷ []) ++ Read ∷ [])
both_lawful s w all is = All-push (Obeys (λ _. true)) (s ++ w ∷ []) Read (All-push (Obeys (λ _. true)) s w all is) refl

pub scripted_all : {X : Type 0} (words : X → List ℕ) (first step n m next : ℕ) (s : List (Wish X)) → n ≡ m
    → Scripted words first step n next s → Scripted words first step m next s
scripted_all words first step n m next s e h = subst (λ k. Scripted words first step k next s) e h

pub scripted_from : {X : Type 0} (words : X → List ℕ) (first first' step n next : ℕ) (s : List (Wish X)) → first ≡ first'
    → Scripted words first step n next s → Scripted words first' step n next s
scripted_from words first first' step n next s e h = subst (λ k. Scripted words k step n next s) e h
