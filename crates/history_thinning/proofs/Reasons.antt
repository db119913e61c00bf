-- A reason of what was kept is one of the whole log, and where the whole log has one of some rule, so does what was kept.
use Rattle.std.proofs.Common.{◌≡◌, ℕ, ◌+◌, ◌<◌, ◌≤◌, Bool, true, List, length, get_or, slice_get, Option, None, Some, arith}
use Rattle.std.proofs.Common.{refl, sym, ◌∙◌, ap, subst, inl, inr, ◌⊎◌}
use Rattle.std.specs.Prelude.{IfSome, IsSome, is_some, ◌||◌}
use Rattle.std.proofs.lemmas.Bool.{cases_Bool, cases_order}
use Rattle.std.proofs.lemmas.Option.{same_Some, slice_get_within, slice_get-get_or}
use Rattle.history_core.specs.declared.history.Op.{Op}
use Rattle.history_core.specs.Orders.{is_write, Precedes}
use Rattle.history_core.proofs.Listed.{some_and_from, some_and_of}
use Rattle.history_core.specs.Reasons.{counts, IsCrossed, IsEarly, IsOfOpening, IsReason, IsStale, IsUnwritten, OfOneRecord, rule_of}
use Rattle.history_core.specs.Searches.{AreForwards, WritesOnce}
use Rattle.history_core.specs.declared.reason.Reason.{Reason}
use Rattle.history_core.specs.declared.reason.Reason.TheVariants.{Unwritten, Early, Stale, Crossed, Limit}
use Rattle.history_core.proofs.Atomic.{IsAlike, IsSearched, joined, opened, some_from, some_of, turned}
use Rattle.history_thinning.specs.Thinnings.{Equal, IsMate, IsThinned}

pub alike : IsAlike Equal
alike = record { itself = λ x. refl; turn = λ x y h. sym h; join = λ x y z h k. h ∙ k }

-- a log whose operations run forwards and whose writes are each of another record
pub searched : (log : List (Op ℕ)) → ((n : ℕ) → AreForwards log n) → ((n : ℕ) → WritesOnce Equal 0 log n) → IsSearched Equal 0 log
searched log forwards once = record {
  alike = alike;
  forwards = λ p end o at e.
      let P : Option ℕ → Type 0 = λ z. IfSome z (λ f. o.starts ≤ f) in
      subst P e (forwards (p + 1) p o (omega arith) at);
  once = λ p q a b ea eb ta tb one. elim (cases_order p q) [
    | inl s ↦ s
    | inr (inl l) ↦ absurd ((once (q + 1)).once p q (omega arith) (record {
      earlier = a;
      later = b;
      first_at = ea;
      second_at = eb;
      first_writes = ta;
      second_writes = tb;
      one = turned Equal alike a b one;
      less = l;
    }))
    | inr (inr l) ↦ absurd ((once (p + 1)).once q p (omega arith) (record {
      earlier = b;
      later = a;
      first_at = eb;
      second_at = ea;
      first_writes = tb;
      second_writes = ta;
      one = one;
      less = l;
    }))
  ];
  fresh = λ p a e t bad. (once (p + 1)).fresh p (omega arith)
      (some_and_from (λ (o : Op ℕ). (is_write o.kind ≡ true) × IsOfOpening Equal 0 o) (slice_get log p) a e (t, bad));
}

module _ (log kept : List (Op ℕ)) (places : List ℕ) (thin : IsThinned Equal log kept places) (known : IsSearched Equal 0 log) where
  -- the place of a kept operation
  pub place_of : (i : ℕ) (o : Op ℕ) → slice_get kept i ≡ Some o → (p : ℕ) × (slice_get places i ≡ Some p) × (slice_get log p ≡ Some o)
  place_of i o e =
      let l : i < length places = omega (arith, slice_get_within kept i o e, thin.long) in
      let at : slice_get places i ≡ Some (get_or places i 0) = slice_get-get_or places i 0 l in
      (get_or places i 0, at, thin.are i (get_or places i 0) o at e)

  pub kept_at : (i p : ℕ) (o : Op ℕ) → slice_get places i ≡ Some p → slice_get log p ≡ Some o → slice_get kept i ≡ Some o
  kept_at i p o e f =
      let l : i < length kept = omega (arith, slice_get_within places i p e, thin.long) in
      let at : slice_get kept i ≡ Some (get_or kept i o) = slice_get-get_or kept i o l in
      at ∙ sym (thin.are i p (get_or kept i o) e at) ∙ f

  -- a place stands once
  pub same_index : (i j p : ℕ) → slice_get places i ≡ Some p → slice_get places j ≡ Some p → i ≡ j
  same_index i j p e f = elim (cases_order i j) [
    | inl s ↦ s
    | inr (inl l) ↦ let r : p < p = thin.rise i j p p l e f in omega arith
    | inr (inr l) ↦ let r : p < p = thin.rise j i p p l f e in omega arith
  ]

  pub kept_known : IsSearched Equal 0 kept
  kept_known = record {
    alike = alike;
    forwards = λ i end o at e. let w = place_of i o at in known.forwards w.0 end o w.2 e;
    once = λ i j a b ea eb ta tb one.
        let v = place_of i a ea in
        let w = place_of j b eb in
        let s : v.0 ≡ w.0 = known.once v.0 w.0 a b v.2 w.2 ta tb one in
        same_index i j v.0 v.1 (w.1 ∙ ap Some (sym s));
    fresh = λ i a e t bad. let w = place_of i a e in known.fresh w.0 a w.2 t bad;
  }

  -- a kept write of the whole log
  pub write_kept : (p : ℕ) (o : Op ℕ) → slice_get log p ≡ Some o → is_write o.kind ≡ true →
      (i : ℕ) × (slice_get places i ≡ Some p) × (slice_get kept i ≡ Some o)
  write_kept p o e t = let w = thin.writes p o e t in (w.0, w.1, kept_at w.0 p o w.1 e)

  -- of the record of an operation that precedes another, one kept precedes one kept of that one's record
  pub pair : (p q : ℕ) (a b : Op ℕ) → slice_get log p ≡ Some a → slice_get log q ≡ Some b → counts b ≡ true → Precedes a b →
      (i : ℕ) × (j : ℕ) × (x : Op ℕ) × (y : Op ℕ) × IsMate Equal kept a i x × IsMate Equal kept b j y × IsSome x.ends
      × (counts y ≡ true) × Precedes x y
  pair p q a b ea eb count pre =
      let end = some_and_of (λ end. end < b.starts) a.ends pre in
      let v = thin.ends p end.0 a ea end.1 in
      let w = thin.begins q b eb count in
      let first = some_and_of (λ f. f ≤ end.0) v.1.ends v.3 in
      let le : first.0 ≤ end.0 = first.2 in
      let lt : end.0 < b.starts = end.2 in
      let up : b.starts ≤ w.1.starts = w.4 in
      let short : first.0 < w.1.starts = omega arith in (
        v.0,
        w.0,
        v.1,
        w.1,
        v.2,
        w.2,
        some_from v.1.ends first.0 first.1,
        w.3,
        some_and_from (λ end. end < w.1.starts) v.1.ends first.0 first.1 short,
      )

  -- a write precedes nothing of its own beginning
  not_itself : (i : ℕ) (o : Op ℕ) → slice_get kept i ≡ Some o → Precedes o o → ⊥
  not_itself i o e pre =
      let end = some_and_of (λ end. end < o.starts) o.ends pre in
      let w = place_of i o e in
      let f : o.starts ≤ end.0 = known.forwards w.0 end.0 o w.2 end.1 in
      let l : end.0 < o.starts = end.2 in
      omega arith

  -- ---- from the whole log to what was kept
  unwritten_kept : (read : ℕ) → IsUnwritten Equal 0 log read → (i : ℕ) × IsUnwritten Equal 0 kept i
  unwritten_kept read r =
      let end = some_of r.op.ends r.finished in
      let v = thin.ends read end.0 r.op r.at end.1 in
      let first = some_and_of (λ f. f ≤ end.0) v.1.ends v.3 in (
        v.0,
        record {
          op = v.1;
          at = v.2.at;
          finished = some_from v.1.ends first.0 first.1;
          opened = λ h. r.opened (opened Equal alike 0 r.op v.1 v.2.one h);
          written = λ w a e t one.
              let x = place_of w a e in
              r.written x.0 a x.2 t (joined Equal alike r.op v.1 a v.2.one one);
        },
      )

  -- a read that precedes its write
  pub early_kept : (p q : ℕ) (a b : Op ℕ) → slice_get log p ≡ Some a → slice_get log q ≡ Some b → is_write b.kind ≡ true →
      OfOneRecord Equal a b → Precedes a b → (i : ℕ) × (j : ℕ) × IsEarly Equal kept i j
  early_kept p q a b ea eb t one pre =
      let end = some_and_of (λ end. end < b.starts) a.ends pre in
      let v = thin.ends p end.0 a ea end.1 in
      let w = write_kept q b eb t in
      let first = some_and_of (λ f. f ≤ end.0) v.1.ends v.3 in
      let le : first.0 ≤ end.0 = first.2 in
      let lt : end.0 < b.starts = end.2 in
      let short : first.0 < b.starts = omega arith in
      let first_pre : Precedes v.1 b = some_and_from (λ end. end < b.starts) v.1.ends first.0 first.1 short in
      let mates : OfOneRecord Equal v.1 b = joined Equal alike v.1 a b (turned Equal alike a v.1 v.2.one) one in
      elim (cases_Bool (is_write v.1.kind)) [
        | inr f ↦ (
          v.0,
          w.0,
          record {
            op = v.1;
            source = b;
            at = v.2.at;
            source_at = w.2;
            answers = f;
            writes = t;
            one = mates;
            precedes = first_pre;
          },
        )
        | inl u ↦
            let s : v.0 ≡ w.0 = kept_known.once v.0 w.0 v.1 b v.2.at w.2 u t mates in
            let same : v.1 ≡ b = same_Some v.1 b (sym v.2.at ∙ ap (slice_get kept) s ∙ w.2) in
            let P : Op ℕ → Type 0 = λ z. Precedes z b in
            absurd (not_itself w.0 b w.2 (subst P same first_pre))
      ]

  -- what counts and is of the opening is finished
  pub opened_ends : (i : ℕ) (o : Op ℕ) → slice_get kept i ≡ Some o → counts o ≡ true → IsOfOpening Equal 0 o → IsSome o.ends
  opened_ends i o e count opens = elim (cases_Bool (is_some o.ends)) [
    | inl t ↦ t
    | inr f ↦
        let t : is_write o.kind ≡ true = subst (λ z. (z || is_write o.kind) ≡ true) f count in
        absurd (kept_known.fresh i o e t opens)
  ]

  ended_counts : (ends : Option ℕ) (b : Bool) → IsSome ends → (is_some ends || b) ≡ true
  ended_counts None b h = cc
  ended_counts (Some end) b h = refl

  stale_kept : (earlier read : ℕ) → IsStale Equal 0 log earlier read → (i : ℕ) × (j : ℕ) × IsStale Equal 0 kept i j
  stale_kept earlier read r =
      let count : counts r.op ≡ true = ended_counts r.op.ends (is_write r.op.kind) r.finished in
      let w = pair earlier read r.other r.op r.other_at r.at count r.precedes in
      let opens : IsOfOpening Equal 0 w.3 = opened Equal alike 0 w.3 r.op (turned Equal alike r.op w.3 w.5.one) r.opened in (
        w.0,
        w.1,
        record {
          other = w.2;
          op = w.3;
          other_at = w.4.at;
          at = w.5.at;
          finished = opened_ends w.1 w.3 w.5.at w.7 opens;
          opened = opens;
          another = λ h. r.another (opened Equal alike 0 r.other w.2 w.4.one h);
          precedes = w.8;
        },
      )

  crossed_kept : (a b c d : ℕ) → IsCrossed Equal 0 log a b c d → (i : ℕ) × (j : ℕ) × (k : ℕ) × (l : ℕ) × IsCrossed Equal 0 kept i j k l
  crossed_kept a b c d r =
      let v = pair a b r.op_a r.op_b r.at_a r.at_b r.counts_b r.first in
      let w = pair c d r.op_c r.op_d r.at_c r.at_d r.counts_d r.second in (
        v.0,
        v.1,
        w.0,
        w.1,
        record {
          op_a = v.2;
          op_b = v.3;
          op_c = w.2;
          op_d = w.3;
          at_a = v.4.at;
          at_b = v.5.at;
          at_c = w.4.at;
          at_d = w.5.at;
          counts_b = v.7;
          counts_d = w.7;
          first = v.8;
          second = w.8;
          one = joined Equal alike v.2 r.op_a w.3 (turned Equal alike r.op_a v.2 v.4.one) (joined Equal alike r.op_a r.op_d w.3 r.one
              w.5.one);
          other = joined Equal alike v.3 r.op_b w.2 (turned Equal alike r.op_b v.3 v.5.one)
              (joined Equal alike r.op_b r.op_c w.2 r.other w.4.one);
          apart = λ h. r.apart (joined Equal alike r.op_a v.2 r.op_b v.4.one
              (joined Equal alike v.2 v.3 r.op_b h (turned Equal alike r.op_b v.3 v.5.one)));
          one_opened = λ h. r.one_opened (opened Equal alike 0 r.op_a v.2 v.4.one h);
          other_opened = λ h. r.other_opened (opened Equal alike 0 r.op_b v.3 v.5.one h);
        },
      )

  -- a reason of the whole log, and one of what was kept, of its rule, or the last rule
  pub reason_kept : (limit : ℕ) (reason : Reason) → IsReason Equal 0 limit log reason →
      ((other : Reason) × IsReason Equal 0 limit kept other × (rule_of other ≡ rule_of reason)) ⊎ (rule_of reason ≡ 5)
  reason_kept limit (Unwritten read) h = let w = unwritten_kept read h in inl (Unwritten w.0, w.1, refl)
  reason_kept limit (Early read write) h =
      let w = early_kept read write h.op h.source h.at h.source_at h.writes h.one h.precedes in
      inl (Early w.0 w.1, w.2, refl)
  reason_kept limit (Stale earlier read) h = let w = stale_kept earlier read h in inl (Stale w.0 w.1, w.2, refl)
  reason_kept limit (Crossed a b c d) h = let w = crossed_kept a b c d h in inl (Crossed w.0 w.1 w.2 w.3, w.4, refl)
  reason_kept limit (Limit refused) h = inr refl

  pub rule_least : (limit : ℕ) (least : Reason) → ((other : Reason) → IsReason Equal 0 limit kept other → rule_of least ≤ rule_of other) →
      (other : Reason) → IsReason Equal 0 limit log other → rule_of least ≤ rule_of other
  rule_least limit least first other h = elim (reason_kept limit other h) [
    | inl w ↦ let l = first w.0 w.1 in let e : rule_of w.0 ≡ rule_of other = w.2 in omega arith
    | inr e ↦ let l = up_to_five least in omega arith
  ]
    where
      up_to_five : (reason : Reason) → rule_of reason ≤ 5
      up_to_five (Unwritten read) = omega arith
      up_to_five (Early read write) = omega arith
      up_to_five (Stale earlier read) = omega arith
      up_to_five (Crossed a b c d) = omega arith
      up_to_five (Limit refused) = omega arith
