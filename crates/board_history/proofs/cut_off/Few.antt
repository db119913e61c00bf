-- Processes that made one call or none, registers that were read once or never, and orders of two operations.
use Rattle.std.proofs.Common.{◌≡◌, ℕ, zero, suc, ◌+◌, ◌-◌, ◌*◌, ◌<◌, ◌≤◌, List, [], ◌∷◌, length, slice_get, Option, Some}
use Rattle.std.proofs.Common.{true, false, refl, sym, ◌∙◌, ap, subst, arith}
use Rattle.std.specs.Prelude.{if◌then◌else◌}
use Rattle.std.proofs.lemmas.Option.{none-some, same_Some}
use Rattle.history_core.specs.declared.history.Op.{Op}
use Rattle.history_core.specs.Numbers.{StandsAt}
use Rattle.history_core.specs.Registers.{intervals, IsBefore, IsReadOf}
use Rattle.matrix_core.specs.declared.stamp.Stamp.{Stamp}
use Rattle.matrix_core.specs.declared.stamp.Stamped.{Stamped}
use Rattle.matrix_core.specs.Choices.{ChoosesByKind}
use Rattle.matrix_core.specs.Stamps.{greatest}
use Rattle.matrix_core.specs.Lines.{other}
use Rattle.matrix_core.specs.Listings.{MayPrecede}
use Rattle.board_history.specs.BoardRuns.{Answered, Called, Did, FindWhatWasTold, IsRegister, own_before, Sees, steps_before}
use Rattle.board_history.specs.BoardRuns.{steps_of_call, told, Written}
use Rattle.board_history.specs.CutOffInstances.{answered}
use Rattle.board_history.specs.Instances.{zero_first}
use Rattle.board_history.specs.RunsSoFar.{IsProcessSoFar}
use Rattle.board_history.proofs.cut_off.Places.{each_at, EachAt}
use Rattle.board_history.proofs.Growing.{not_both}

module _ (width n i : ℕ) (times : List ℕ) (call : Called ℕ) (writes : ℕ → Written ℕ) (reads : ℕ → Answered ℕ) where
  abbrev did : Did ℕ
  did = record { times = times; calls = call ∷ []; writes = writes; reads = reads }

  -- what it did to process j, with access e of its column and of its row
  pub record IsPartOf (e j : ℕ) : Type 0 where
    pub read_begun : slice_get (reads j).begins 0 ≡ slice_get times (0 + e * width)
    pub read_ended : slice_get (reads j).ends 0 ≡ slice_get times (0 + (e * width + (width - 1)))
    pub write_begun : slice_get (writes j).begins 0 ≡ slice_get times (0 + (n - 1 + e) * width)
    pub write_ended : slice_get (writes j).ends 0 ≡ slice_get times (0 + ((n - 1 + e) * width + (width - 1)))
    pub written : EachAt (λ k x. slice_get (call.chosen ∷ []) k ≡ Some x) (writes j).items

  -- a process that made one call
  pub one_call : call.tells ≡ true → length times ≤ steps_of_call width n call.tells call.finds + 0 + (n - 1) * width →
      slice_get times 0 ≡ Some call.begin →
      (t : ℕ) × (slice_get times (0 + ((n - 1) * width - 1)) ≡ Some t) → ((e : ℕ) → e + 1 < n → IsPartOf e (other i e)) →
      (answers : List (Stamped ℕ)) → length answers + 1 ≡ n → EachAt (λ e x. slice_get (reads (other i e)).items 0 ≡ Some x) answers →
      call.seen ≡ greatest zero_first answers →
      ((place : ℕ) →
      ChoosesByKind 5 (record { place = place; who = i; kind = call.kind; stamp = call.chosen.stamp; item = call.chosen.item })
      call.kind call.seen.stamp call.seen.item) → IsProcessSoFar width n 5 zero_first i did
  one_call tells long begun chose parts answers each answered sees chooses = record {
    long = long;
    begun = each_at (λ k c. slice_get times (steps_before width n (call ∷ []) k) ≡ Some c.begin) (call ∷ []) (begun, tt);
    chose = each_at (λ k c. (t : ℕ) × (slice_get times (steps_before width n (call ∷ []) k + ((n - 1) * width - 1)) ≡ Some t)) (call ∷ [])
        (chose, tt);
    reads = λ e l. record { begun = λ k m. read_begun e l k m; ended = λ k m. read_ended e l k m };
    writes = λ e l. record {
      begun = λ k c h t. each_at (λ k c. slice_get (writes (other i e)).begins (told (call ∷ []) k)
          ≡ slice_get times (steps_before width n (call ∷ []) k + (n - 1 + e) * width)) (call ∷ []) ((parts e l).write_begun, tt) k c h;
      ended = λ k c h t. each_at (λ k c. slice_get (writes (other i e)).ends (told (call ∷ []) k)
          ≡ slice_get times (steps_before width n (call ∷ []) k + ((n - 1 + e) * width + (width - 1)))) (call ∷ [])
          ((parts e l).write_ended, tt) k c h;
    };
    written = λ e l x a h. ap (λ b. slice_get (if b then call.chosen ∷ [] else []) x) tells
        ∙ each_at (λ k x. slice_get (call.chosen ∷ []) k ≡ Some x) (writes (other i e)).items (parts e l).written x a h;
    silent = each_at (λ k c. c.tells ≡ false → c.finds ≡ false → c.chosen ≡ own_before zero_first (call ∷ []) k) (call ∷ [])
        ((λ f g. absurd (not_both call.tells tells f)), tt);
    sees = each_at (λ k c. Sees n zero_first i did k c.seen) (call ∷ []) (
      record {
        answers = answers;
        each = each;
        answered = each_at (λ e x. slice_get (reads (other i e)).items 0 ≡ Some x) answers answered;
        greatest = sees;
      },
      tt,
    );
    chooses = λ k place c h. each_at (λ k c. (place : ℕ) →
        ChoosesByKind 5 (record { place = place; who = i; kind = c.kind; stamp = c.chosen.stamp; item = c.chosen.item })
        c.kind c.seen.stamp c.seen.item) (call ∷ []) (chooses, tt) k c h place;
  }
    where
      read_begun : (e : ℕ) → e + 1 < n → (k : ℕ) → k < 1 →
          slice_get (reads (other i e)).begins k ≡ slice_get times (steps_before width n (call ∷ []) k + e * width)
      read_begun e l zero m = (parts e l).read_begun
      read_begun e l (suc k) m = absurd (omega arith)

      read_ended : (e : ℕ) → e + 1 < n → (k : ℕ) → k < 1 →
          slice_get (reads (other i e)).ends k ≡ slice_get times (steps_before width n (call ∷ []) k + (e * width + (width - 1)))
      read_ended e l zero m = (parts e l).read_ended
      read_ended e l (suc k) m = absurd (omega arith)

-- a process none of whose calls has chosen
pub none_chosen : (width n i : ℕ) (times : List ℕ) (writes : ℕ → Written ℕ) (reads : ℕ → Answered ℕ) → length times ≤ 0 + (n - 1) * width →
    ((j : ℕ) → (writes j).items ≡ []) →
    IsProcessSoFar width n 5 zero_first i (record { times = times; calls = []; writes = writes; reads = reads })
none_chosen width n i times writes reads long unwritten = record {
  long = long;
  begun = λ k c e. absurd (none-some c e);
  chose = λ k c e. absurd (none-some c e);
  reads = λ e l. record { begun = λ k m. absurd (omega arith); ended = λ k m. absurd (omega arith) };
  writes = λ e l. record { begun = λ k c h t. absurd (none-some c h); ended = λ k c h t. absurd (none-some c h) };
  written = λ e l x a h. ap (λ ys. slice_get ys x) (sym (unwritten (other i e))) ∙ h;
  silent = λ k c e t f. absurd (none-some c e);
  sees = λ k c e. absurd (none-some c e);
  chooses = λ k place c e. absurd (none-some c e);
}

-- calls of which none finds anything
pub none_find : (width n : ℕ) (run : ℕ → Did ℕ) →
    ((i k : ℕ) (c : Called ℕ) → slice_get (run i).calls k ≡ Some c → c.finds ≡ false) → FindWhatWasTold width n run
none_find width n run none i k end c l e t f g = absurd (not_both c.finds f (none i k c e))

-- a register that was never read, or whose read hasn't ended
pub not_read : (w : Written ℕ) (begins ends : List ℕ) →
    IsRegister zero_first w (record { items = []; numbers = []; begins = begins; ends = ends })
not_read w begins ends = record {
  source = λ m n x a b. absurd (none-some n a);
  read_of = λ m n a. absurd (none-some n a);
  numbered = refl;
}

none_before : (ends : List ℕ) (begin : ℕ) → EachAt (λ k t. begin ≤ t) ends → (k : ℕ) → IsBefore (slice_get ends k) (Some begin) → ⊥
none_before [] begin h k b = b
none_before (t ∷ ends) begin h zero b = let l : begin ≤ t = h.0 in let m : t < begin = b in omega arith
none_before (t ∷ ends) begin h (suc k) b = none_before ends begin h.1 k b

-- one that was read once, before any write to it had ended
pub read_first : (w : Written ℕ) (begin end : ℕ) → EachAt (λ k t. begin ≤ t) w.ends →
    IsRegister zero_first w (answered zero_first 0 begin end)
read_first w begin end late = record {
  source = λ m n x a b. each_at (λ m n. (x : Stamped ℕ) → slice_get (zero_first ∷ []) m ≡ Some x →
      slice_get (zero_first ∷ w.items) n ≡ Some x) (0 ∷ []) ((λ x e. e), tt) m n a x b;
  read_of = each_at (λ m n. IsReadOf (intervals w.begins w.ends) (intervals (begin ∷ []) (end ∷ [])) m n) (0 ∷ []) (
    record { late = λ k b. absurd (none_before w.ends begin late k b); begun = λ k e. absurd (omega arith) },
    tt,
  );
  numbered = refl;
}

-- two operations, of which both stand in the order
pub two_sorted : (ops : List (Op ℕ)) (stamps : List (Option Stamp)) (x y : ℕ) (a b : Op ℕ) (s t : Stamp) → slice_get ops x ≡ Some a →
    slice_get ops y ≡ Some b → slice_get stamps x ≡ Some (Some s) → slice_get stamps y ≡ Some (Some t) → MayPrecede s a x t b y →
    (i j p q : ℕ) (c d : Op ℕ) (u v : Stamp) → i < j → StandsAt ops (x ∷ y ∷ []) i p c → StandsAt ops (x ∷ y ∷ []) j q d →
    slice_get stamps p ≡ Some (Some u) → slice_get stamps q ≡ Some (Some v) → MayPrecede u c p v d q
two_sorted ops stamps x y a b s t ea eb es et h zero (suc zero) p q c d u v l cp dq up vq =
    let ep : x ≡ p = same_Some x p cp.0 in
    let eq : y ≡ q = same_Some y q dq.0 in
    let ec : a ≡ c = same_Some a c (sym ea ∙ ap (slice_get ops) ep ∙ cp.1) in
    let ed : b ≡ d = same_Some b d (sym eb ∙ ap (slice_get ops) eq ∙ dq.1) in
    let eu : s ≡ u = same_Some s u (same_Some (Some s) (Some u) (sym es ∙ ap (slice_get stamps) ep ∙ up)) in
    let ev : t ≡ v = same_Some t v (same_Some (Some t) (Some v) (sym et ∙ ap (slice_get stamps) eq ∙ vq)) in
    let P : Stamp × Op ℕ × ℕ × Stamp × Op ℕ × ℕ → Type 0 = λ z. MayPrecede z.0 z.1 z.2 z.3 z.4 z.5 in
    subst P (λ k. (eu k, ec k, ep k, ev k, ed k, eq k)) h
two_sorted ops stamps x y a b s t ea eb es et h zero (suc (suc j)) p q c d u v l cp dq up vq = absurd (none-some q dq.0)
two_sorted ops stamps x y a b s t ea eb es et h zero zero p q c d u v l cp dq up vq = absurd (omega arith)
two_sorted ops stamps x y a b s t ea eb es et h (suc i) zero p q c d u v l cp dq up vq = absurd (omega arith)
two_sorted ops stamps x y a b s t ea eb es et h (suc i) (suc zero) p q c d u v l cp dq up vq = absurd (omega arith)
two_sorted ops stamps x y a b s t ea eb es et h (suc i) (suc (suc j)) p q c d u v l cp dq up vq = absurd (none-some q dq.0)
