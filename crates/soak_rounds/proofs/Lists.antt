-- Lists that get one more.
use Rattle.std.proofs.Common.{◌≡◌, ℕ, ◌+◌, List, [], ◌∷◌, ◌++◌, length-append, append_assoc, refl, ◌∙◌, ap, arith}
use Rattle.std.specs.Prelude.{Option}
use Rattle.soak_rounds.specs.declared.finding.Tally.{Tally}
use Rattle.soak_rounds.specs.Findings.{counted, last_read, no_tally, with_read, with_write}
use Rattle.soak_rounds.specs.Records.{AreOf, IsWholeRecord}
use Rattle.soak_rounds.specs.Rounds.{Adds, NotedReads, no_read, no_write, one_read, one_write, Wrote}

append_none : {A : Type 0} (xs : List A) → xs ≡ xs ++ []
append_none [] = refl
append_none (x ∷ xs) = ap (λ z. x ∷ z) (append_none xs)

module _ {X : Type 0} (words : X → List ℕ) where
  pub none_written : (last : ℕ) (xs : List X) → Adds (Wrote words last) 0 xs xs no_tally last
  none_written last xs = record { added = []; more = append_none xs; all = refl; of = no_write }

  pub none_read : (last : ℕ) (xs : List X) → Adds (NotedReads words last) 0 xs xs no_tally last
  none_read last xs = record { added = []; more = append_none xs; all = refl; of = no_read }

  pub one_more_written : (last k n : ℕ) (old now new : List X) (t : Tally) (x : X) → Adds (Wrote words last) k old now t n
      → new ≡ now ++ x ∷ [] → IsWholeRecord (words x) (counted n 1) → Adds (Wrote words last) (k + 1) old new (with_write t) (counted n 1)
  one_more_written last k n old now new t x h e is = record {
    added = h.added ++ x ∷ [];
    more = e ∙ ap (λ z. z ++ x ∷ []) h.more ∙ append_assoc old h.added (x ∷ []);
    all = let a = h.all in omega (arith, length-append h.added (x ∷ []));
    of = one_write h.added t n x h.of is;
  }

  pub one_more_read : (last k n : ℕ) (old now new : List X) (t : Tally) (x : X) (number : Option ℕ)
      → Adds (NotedReads words last) k old now t n → new ≡ now ++ x ∷ [] → AreOf (words x) number
      → Adds (NotedReads words last) (k + 1) old new (with_read t n number) (last_read n number)
  one_more_read last k n old now new t x number h e is = record {
    added = h.added ++ x ∷ [];
    more = e ∙ ap (λ z. z ++ x ∷ []) h.more ∙ append_assoc old h.added (x ∷ []);
    all = let a = h.all in omega (arith, length-append h.added (x ∷ []));
    of = one_read h.added t n x number h.of is;
  }
