-- What a run says of a write and of a read that began after it had ended.
use Rattle.std.proofs.Common.{◌≡◌, ℕ, zero, suc, ◌<◌, List, [], ◌∷◌, slice_get, Some, sym, ◌∙◌, ap, subst, ◌⊎◌, inl, inr, arith}
use Rattle.std.proofs.lemmas.Option.{none-some, same_Some}
use Rattle.history_core.specs.declared.history.Kind.TheVariants.{Read, Write}
use Rattle.matrix_core.specs.declared.stamp.Stamp.{Stamp}
use Rattle.matrix_core.specs.Choices.{IsAtMost}
use Rattle.matrix_core.specs.Stamps.{first_stamp, IsBelow}
use Rattle.matrix_core.specs.Lines.{first_record}
use Rattle.board_history.specs.BoardRuns.{Called, Did, IsBoardRun}
use Rattle.board_history.proofs.Later.{calls_agree, calls_rise, calls_written}

only : {V : Type 0} (calls : List (Called V)) (c : Called V) → calls ≡ c ∷ [] → slice_get calls 0 ≡ Some c
only calls c e = ap (λ cs. slice_get cs 0) e

pub not_first : (s : Stamp) → 0 < s.tag → IsAtMost s first_stamp → ⊥
not_first s l (inl e) = let z : s.tag ≡ 0 = ap (λ (z : Stamp). z.tag) e in omega arith
not_first s l (inr (inl b)) = omega arith
not_first s l (inr (inr b)) = let z : s.tag ≡ 0 = b.0 in omega arith

differ : Read ≡ Write → ⊥
differ e = cc

module _ {V : Type 0} (width n limit : ℕ) (opening : V) (steps : List ℕ) (did : ℕ → Did V)
    (run : IsBoardRun width n limit (first_record opening) steps did) (c d : Called V) where
  no_older : (i j : ℕ) → i < n → j < n → (did i).calls ≡ c ∷ [] → (did j).calls ≡ d ∷ [] → c.end < d.begin →
      IsAtMost c.chosen.stamp d.chosen.stamp
  no_older i j li lj a b l =
      (calls_rise width n limit opening steps did run i j 0 0 c d li lj (only (did i).calls c a) (only (did j).calls d b) l).0

  -- the later call has a greater stamp, or the very record
  pub heeds : (i j : ℕ) → i < n → j < n → (did i).calls ≡ c ∷ [] → (did j).calls ≡ d ∷ [] → c.end < d.begin →
      IsBelow c.chosen.stamp d.chosen.stamp ⊎ (c.chosen ≡ d.chosen)
  heeds i j li lj a b l = elim (no_older i j li lj a b l) [
    | inl same ↦ inr (calls_agree width n limit opening steps did run i j 0 0 c d li lj (only (did i).calls c a)
        (only (did j).calls d b) same)
    | inr below ↦ inl below
  ]

  one_of : (calls : List (Called V)) (m : ℕ) (w x : Called V) → calls ≡ x ∷ [] → slice_get calls m ≡ Some w → x ≡ w
  one_of calls zero w x e at = same_Some x w (ap (λ cs. slice_get cs 0) (sym e) ∙ at)
  one_of calls (suc m) w x e at = absurd (none-some w (ap (λ cs. slice_get cs (suc m)) (sym e) ∙ at))

  pub the_item : n ≡ 2 → (did 0).calls ≡ c ∷ [] → (did 1).calls ≡ d ∷ [] → c.end < d.begin → 0 < c.chosen.stamp.tag → d.kind ≡ Read →
      d.chosen ≡ c.chosen
  the_item two a b l tag read =
      elim (calls_written width n limit opening steps did run 1 0 d (omega (arith, two)) (only (did 1).calls d b)) [
        | inl f ↦ absurd (not_first c.chosen.stamp tag
            (subst (λ z. IsAtMost c.chosen.stamp z.stamp) f (no_older 0 1 (omega (arith, two)) (omega (arith, two)) a b l)))
        | inr w ↦ by w.0 w.1 w.2 w.3 w.4 w.5 w.6
      ]
    where
      by : (j m : ℕ) (w : Called V) → j < n → slice_get (did j).calls m ≡ Some w → w.kind ≡ Write → d.chosen ≡ w.chosen →
          d.chosen ≡ c.chosen
      by zero m w lj at k e = e ∙ ap (λ (z : Called V). z.chosen) (sym (one_of (did 0).calls m w c a at))
      by (suc zero) m w lj at k e =
          absurd (differ (sym read ∙ ap (λ (z : Called V). z.kind) (one_of (did 1).calls m w d b at) ∙ k))
      by (suc (suc j)) m w lj at k e = absurd (omega (arith, two))
