-- Clear and fresh look at the five events and the slot of each access alone, so accesses that agree there are clear and fresh alike.
use Rattle.std.proofs.Common.{◌≡◌, ℕ, Option, IsSome, sym, subst, ◌∙◌, arith, inl, inr}
use Rattle.four_slot_core.specs.Accesses.{Accesses, Agree, Fills, IsClear, IsFreshRead, IsSameSlot, IsSource}
use Rattle.history_core.specs.Registers.{IsBefore}

pub turned : {a b : Accesses} → Agree a b → Agree b a
turned h = record { at = λ k e l. sym (h.at k e l); slot = λ k. sym (h.slot k) }

before_as : (a b c d : Option ℕ) → a ≡ b → c ≡ d → IsBefore a c → IsBefore b d
before_as a b c d e f h = subst (λ x. IsBefore x d) e (subst (λ y. IsBefore a y) f h)

pub some_as : (a b : Option ℕ) → a ≡ b → IsSome a → IsSome b
some_as a b e h = subst IsSome e h

slot_as : (a b c d : Option ℕ) → a ≡ b → c ≡ d → IsSameSlot a c → IsSameSlot b d
slot_as a b c d e f h = (h.0, sym e ∙ h.1, sym f ∙ h.2)

module _ (w v r s : Accesses) (aw : Agree w v) (ar : Agree r s) where
  pub clear_as : IsClear w r → IsClear v s
  clear_as h k m slots writing reading =
      elim (h k m (slot_as (v.slot k) (w.slot k) (s.slot m) (r.slot m) (sym (aw.slot k)) (sym (ar.slot m)) slots) (some_as (v.at k 1)
      (w.at k 1) (sym (aw.at k 1 (omega arith))) writing) (some_as (s.at m 3) (r.at m 3) (sym (ar.at m 3 (omega arith))) reading)) [
        | inl b ↦ inl (before_as (w.at k 2) (v.at k 2) (r.at m 3) (s.at m 3) (aw.at k 2 (omega arith)) (ar.at m 3 (omega arith)) b)
        | inr b ↦ inr (before_as (r.at m 4) (s.at m 4) (w.at k 1) (v.at k 1) (ar.at m 4 (omega arith)) (aw.at k 1 (omega arith)) b)
      ]

  fills_as : (k m : ℕ) → Fills w r k m → Fills v s k m
  fills_as k m h = (
    slot_as (w.slot k) (v.slot k) (r.slot m) (s.slot m) (aw.slot k) (ar.slot m) h.0,
    before_as (w.at k 2) (v.at k 2) (r.at m 3) (s.at m 3) (aw.at k 2 (omega arith)) (ar.at m 3 (omega arith)) h.1,
  )

source_as : (w v r s : Accesses) → Agree w v → Agree r s → (m n : ℕ) → IsSource w r m n → IsSource v s m n
source_as w v r s aw ar m n h = record {
  above = λ k f. h.above k (fills_as v w s r (turned aw) (turned ar) k m f);
  filled = λ k e. fills_as w v r s aw ar k m (h.filled k e);
}

pub fresh_as : (w v r s : Accesses) → Agree w v → Agree r s → (m n : ℕ) → IsFreshRead w r m n → IsFreshRead v s m n
fresh_as w v r s aw ar m n h = record {
  source = source_as w v r s aw ar m n h.source;
  read_of = record {
    late = λ k b. h.read_of.late k
        (before_as (v.at k 4) (w.at k 4) (s.at m 0) (r.at m 0) (sym (aw.at k 4 (omega arith))) (sym (ar.at m 0 (omega arith))) b);
    begun = λ k e.
        before_as (w.at k 0) (v.at k 0) (r.at m 4) (s.at m 4) (aw.at k 0 (omega arith)) (ar.at m 4 (omega arith)) (h.read_of.begun k e);
  };
  reads = λ j i l x. h.reads j i l (source_as v w s r (turned aw) (turned ar) j i x);
}
