-- The instances, place by place.
use Rattle.std.proofs.Common.{◌≡◌, ℕ, zero, suc, ◌+◌, ◌<◌, true, List, [], ◌∷◌, refl, sym, ◌∙◌, ap, subst, arith, inl, inr}
use Rattle.std.proofs.Common.{slice_get, None, Some}
use Rattle.std.proofs.lemmas.Option.{none-some, same_Some}
use Rattle.history_core.specs.declared.history.Op.{Op}
use Rattle.history_core.specs.declared.history.Kind.TheVariants.{Write, Read}
use Rattle.history_core.specs.Orders.{is_write, ListsPlaces, ReadsLatest, ReadsRight}
use Rattle.history_core.specs.Reasons.{IsStale}
use Rattle.history_core.proofs.Listing.{listing_from, StandsOnce}
use Rattle.history_thinning.specs.Tasks.{KeepsTasks}
use Rattle.history_thinning.specs.Thinnings.{Equal}
use Rattle.history_coherence.specs.Coherent.{IsCoherentOrder}
use Rattle.history_coherence.specs.Incoherent.{IsAheadOfWrite, IsCircle, IsLink, LeadsTo}
use Rattle.history_coherence.specs.Instances.{again_log, ahead_log, crossed_log, link, op, stale_log}
use Rattle.history_coherence.specs.declared.coherence.Link.{Link}

-- ---- a stale read
places : ListsPlaces stale_log (1 ∷ 0 ∷ [])
places zero p e = let s : 1 ≡ p = same_Some 1 p e in omega arith
places (suc zero) p e = let s : 0 ≡ p = same_Some 0 p e in omega arith
places (suc (suc i)) p e = absurd (none-some p e)

once : StandsOnce (1 ∷ 0 ∷ [])
once zero zero p e f = refl
once zero (suc zero) p e f = let s : 1 ≡ p = same_Some 1 p e in let t : 0 ≡ p = same_Some 0 p f in omega arith
once (suc zero) zero p e f = let s : 0 ≡ p = same_Some 0 p e in let t : 1 ≡ p = same_Some 1 p f in omega arith
once (suc zero) (suc zero) p e f = refl
once (suc (suc i)) j p e f = absurd (none-some p e)
once i (suc (suc j)) p e f = absurd (none-some p f)

finished : (p end : ℕ) (o : Op ℕ) → slice_get stale_log p ≡ Some o → o.ends ≡ Some end →
    (i : ℕ) × (slice_get (1 ∷ 0 ∷ []) i ≡ Some p)
finished zero end o e f = (1, refl)
finished (suc zero) end o e f = (0, refl)
finished (suc (suc p)) end o e f = absurd (none-some o e)

unfinished : (p : ℕ) (o : Op ℕ) → slice_get stale_log p ≡ Some o → o.ends ≡ None → is_write o.kind ≡ true
unfinished zero o e f = absurd (none-some 2 (sym f ∙ sym (ap (λ (z : Op ℕ). z.ends) (same_Some (op 0 Write 1 2 1) o e))))
unfinished (suc zero) o e f = absurd (none-some 4 (sym f ∙ sym (ap (λ (z : Op ℕ). z.ends) (same_Some (op 1 Read 3 4 0) o e))))
unfinished (suc (suc p)) o e f = absurd (none-some o e)

tasks : KeepsTasks stale_log (1 ∷ 0 ∷ [])
tasks i j p q a b sa sb who l = by p q sa.1 sb.1 l
  where
    by : (p q : ℕ) → slice_get stale_log p ≡ Some a → slice_get stale_log q ≡ Some b → p < q → i < j
    by zero zero e f l = absurd (omega arith)
    by zero (suc zero) e f l =
        let s : 0 ≡ a.who = ap (λ (z : Op ℕ). z.who) (same_Some (op 0 Write 1 2 1) a e) in
        let t : 1 ≡ b.who = ap (λ (z : Op ℕ). z.who) (same_Some (op 1 Read 3 4 0) b f) in
        absurd (omega (arith, who))
    by (suc p) zero e f l = absurd (omega arith)
    by (suc zero) (suc zero) e f l = absurd (omega arith)
    by (suc (suc p)) (suc q) e f l = absurd (none-some a e)
    by p (suc (suc q)) e f l = absurd (none-some b f)

reading : ReadsLatest Equal 0 stale_log (1 ∷ 0 ∷ [])
reading zero o e =
    let P : Op ℕ → Type 0 = λ z. ReadsRight Equal z.kind z.item (Some 0) in
    subst P (same_Some (op 1 Read 3 4 0) o e) refl
reading (suc zero) o e =
    let P : Op ℕ → Type 0 = λ z. ReadsRight Equal z.kind z.item (Some 0) in
    subst P (same_Some (op 0 Write 1 2 1) o e) refl
reading (suc (suc i)) o e = absurd (none-some o e)

pub stale_coherent : IsCoherentOrder Equal 0 stale_log (1 ∷ 0 ∷ [])
stale_coherent = record {
  listing = listing_from stale_log (1 ∷ 0 ∷ []) places once finished (λ i p o s f. unfinished p o s.1 f);
  tasks = tasks;
  reading = reading;
}

pub stale_stale : IsStale Equal 0 stale_log 0 1
stale_stale = record {
  other = op 0 Write 1 2 1;
  op = op 1 Read 3 4 0;
  other_at = refl;
  at = refl;
  finished = refl;
  opened = refl;
  another = λ e. let z : 1 ≡ 0 = e in omega arith;
  precedes = let l : 2 < 3 = omega arith in l;
}

-- ---- crossed reads
crossed_first : IsLink Equal 0 crossed_log (link 2 3)
crossed_first = record {
  one = op 2 Read 3 4 1;
  other = op 2 Read 5 6 2;
  one_at = refl;
  other_at = refl;
  one_stands = inl refl;
  other_stands = inl refl;
  task = refl;
  before = omega arith;
  apart = λ e. let z : 1 ≡ 2 = e in omega arith;
}

crossed_second : IsLink Equal 0 crossed_log (link 4 5)
crossed_second = record {
  one = op 3 Read 3 4 2;
  other = op 3 Read 5 6 1;
  one_at = refl;
  other_at = refl;
  one_stands = inl refl;
  other_stands = inl refl;
  task = refl;
  before = omega arith;
  apart = λ e. let z : 2 ≡ 1 = e in omega arith;
}

crossed_on : LeadsTo Equal 0 crossed_log (link 2 3) (link 4 5)
crossed_on = record { last = op 2 Read 5 6 2; first = op 3 Read 3 4 2; last_at = refl; first_at = refl; joined = inl refl }

crossed_back : LeadsTo Equal 0 crossed_log (link 4 5) (link 2 3)
crossed_back = record { last = op 3 Read 5 6 1; first = op 2 Read 3 4 1; last_at = refl; first_at = refl; joined = inl refl }

crossed_each : (i : ℕ) (l : Link) → slice_get (link 2 3 ∷ link 4 5 ∷ []) i ≡ Some l → IsLink Equal 0 crossed_log l
crossed_each zero l e = let P : Link → Type 0 = λ z. IsLink Equal 0 crossed_log z in subst P (same_Some (link 2 3) l e) crossed_first
crossed_each (suc zero) l e = let P : Link → Type 0 = λ z. IsLink Equal 0 crossed_log z in subst P (same_Some (link 4 5) l e) crossed_second
crossed_each (suc (suc i)) l e = absurd (none-some l e)

leads_as : (log : List (Op ℕ)) (a b l m : Link) → Some a ≡ Some l → Some b ≡ Some m → LeadsTo Equal 0 log a b → LeadsTo Equal 0 log l m
leads_as log a b l m e f h =
    let P : Link → Link → Type 0 = λ y z. LeadsTo Equal 0 log y z in
    subst (λ y. P y m) (same_Some a l e) (subst (λ z. P a z) (same_Some b m f) h)

crossed_next : (i : ℕ) (l m : Link) → slice_get (link 2 3 ∷ link 4 5 ∷ []) i ≡ Some l →
    slice_get (link 2 3 ∷ link 4 5 ∷ []) (suc i) ≡ Some m → LeadsTo Equal 0 crossed_log l m
crossed_next zero l m e f = leads_as crossed_log (link 2 3) (link 4 5) l m e f crossed_on
crossed_next (suc i) l m e f = absurd (none-some m f)

pub crossed_circle : IsCircle Equal 0 crossed_log (link 2 3 ∷ link 4 5 ∷ [])
crossed_circle = record {
  some = omega arith;
  each = crossed_each;
  next = λ i l m e f. let s : i + 1 ≡ suc i = omega arith in
      crossed_next i l m e (ap (slice_get (link 2 3 ∷ link 4 5 ∷ [])) (sym s) ∙ f);
  closed = λ l m e f. leads_as crossed_log (link 4 5) (link 2 3) l m e f crossed_back;
}

-- ---- the opening again
again_link : IsLink Equal 0 again_log (link 1 2)
again_link = record {
  one = op 1 Read 3 4 1;
  other = op 1 Read 5 6 0;
  one_at = refl;
  other_at = refl;
  one_stands = inl refl;
  other_stands = inl refl;
  task = refl;
  before = omega arith;
  apart = λ e. let z : 1 ≡ 0 = e in omega arith;
}

again_each : (i : ℕ) (l : Link) → slice_get (link 1 2 ∷ []) i ≡ Some l → IsLink Equal 0 again_log l
again_each zero l e = let P : Link → Type 0 = λ z. IsLink Equal 0 again_log z in subst P (same_Some (link 1 2) l e) again_link
again_each (suc i) l e = absurd (none-some l e)

pub again_circle : IsCircle Equal 0 again_log (link 1 2 ∷ [])
again_circle = record {
  some = omega arith;
  each = again_each;
  next = λ i l m e f. let s : i + 1 ≡ suc i = omega arith in absurd (none-some m (ap (slice_get (link 1 2 ∷ [])) (sym s) ∙ f));
  closed = λ l m e f. leads_as again_log (link 1 2) (link 1 2) l m e f (record {
    last = op 1 Read 5 6 0;
    first = op 1 Read 3 4 1;
    last_at = refl;
    first_at = refl;
    joined = inr refl;
  });
}

pub ahead_ahead : IsAheadOfWrite Equal 0 ahead_log 0 1
ahead_ahead = record {
  op = op 0 Read 1 2 1;
  source = op 0 Write 3 4 1;
  at = refl;
  source_at = refl;
  finished = refl;
  answers = refl;
  writes = refl;
  one = refl;
  task = refl;
  before = omega arith;
}
