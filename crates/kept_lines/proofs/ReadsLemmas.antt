-- One more operation: a read gave a record that was read before, or a new one, or none.
use Rattle.std.proofs.Common.{◌≡◌, ℕ, ◌+◌, ◌<◌, Bool, true, false, List, [], ◌∷◌, ◌++◌, get_or, length, set, slice_get, Option, None, Some}
use Rattle.std.proofs.Common.{◌⊎◌, inl, inr}
use Rattle.std.proofs.Common.{◌∙◌, ap, length-append, refl, subst, sym}
use Rattle.std.specs.Prelude.{unwrap_or}
use Rattle.std.proofs.lemmas.Bool.{cases_eq}
use Rattle.std.proofs.lemmas.Option.{same_Some, slice_get-get_or}
use Rattle.history_core.specs.declared.history.Op.{Op}
use Rattle.history_core.proofs.Places.{get_last, get_pushed_cases, get_set_other, get_set_same, get_stays}
use Rattle.kept_lines.specs.Reads.{AreGiven, gave, GrowsUnread, KnowsReads, was_read}
use Rattle.kept_lines.specs.declared.reads.Reads.{Reads}

no_none : (n : ℕ) → None ≡ Some n → ⊥
no_none n h = cc

module _ (log : List (Op ℕ)) (op : Op ℕ) where
  given_still : (numbers : List ℕ) → AreGiven log numbers → ((n : ℕ) → gave op ≡ Some n → (i : ℕ) × (slice_get numbers i ≡ Some n))
      → AreGiven (log ++ op ∷ []) numbers
  given_still numbers are here = record {
    distinct = are.distinct;
    from = λ i n e. let w = are.from i n e in (w.0, w.1, get_stays log w.1 op w.0 w.2, w.3);
    all = λ p n o e g. elim (get_pushed_cases log op p o e) [
      | inl old ↦ are.all p n o old g
      | inr new ↦ here n (ap gave new.1 ∙ g)
    ];
  }

  pub none_given : (reads : Reads) → gave op ≡ None → KnowsReads log reads → KnowsReads (log ++ op ∷ []) reads
  none_given reads none knows = record {
    numbers = knows.numbers;
    are = given_still knows.numbers knows.are (λ n e. absurd (no_none n (sym none ∙ e)));
    seen = knows.seen;
    told = knows.told;
    long = knows.long;
  }

  pub given_again : (reads : Reads) (number : ℕ) → gave op ≡ Some number → slice_get reads.seen.items number ≡ Some true →
      KnowsReads log reads → KnowsReads (log ++ op ∷ []) reads
  given_again reads number is read knows = record {
    numbers = knows.numbers;
    are = given_still knows.numbers knows.are (λ n e.
        let same : number ≡ n = same_Some number n (sym is ∙ e) in
        knows.seen n (subst (λ m. slice_get reads.seen.items m ≡ Some true) same read));
    seen = knows.seen;
    told = knows.told;
    long = knows.long;
  }

  given_more : (numbers : List ℕ) (number : ℕ) → gave op ≡ Some number → AreGiven log numbers
      → ((i : ℕ) → slice_get numbers i ≡ Some number → ⊥) → AreGiven (log ++ op ∷ []) (numbers ++ number ∷ [])
  given_more numbers number is are fresh = record {
    distinct = λ i j n e f. elim (get_pushed_cases numbers number i n e) [
      | inl a ↦ elim (get_pushed_cases numbers number j n f) [
        | inl b ↦ are.distinct i j n a b
        | inr b ↦ absurd (fresh i (a ∙ ap Some (sym b.1)))
      ]
      | inr a ↦ elim (get_pushed_cases numbers number j n f) [
        | inl b ↦ absurd (fresh j (b ∙ ap Some (sym a.1)))
        | inr b ↦ a.0 ∙ sym b.0
      ]
    ];
    from = λ i n e. elim (get_pushed_cases numbers number i n e) [
      | inl a ↦ let w = are.from i n a in (w.0, w.1, get_stays log w.1 op w.0 w.2, w.3)
      | inr a ↦ (length log, op, get_last log op (length log) refl, is ∙ ap Some a.1)
    ];
    all = λ p n o e g. elim (get_pushed_cases log op p o e) [
      | inl old ↦ let w = are.all p n o old g in (w.0, get_stays numbers n number w.0 w.1)
      | inr new ↦
          let same : number ≡ n = same_Some number n (sym is ∙ ap gave new.1 ∙ g) in
          (length numbers, get_last numbers number (length numbers) refl ∙ ap Some same)
    ];
  }

  pub given_first : (reads new : Reads) (number : ℕ) (grown : List Bool) → gave op ≡ Some number
      → (slice_get reads.seen.items number ≡ Some true → ⊥) → GrowsUnread reads.seen.items grown → number < length grown
      → new.seen.items ≡ set grown number true → new.count ≡ reads.count + 1 → KnowsReads log reads → KnowsReads (log ++ op ∷ []) new
  given_first reads new number grown is fresh grows room set_is count_is knows = record {
    numbers = knows.numbers ++ number ∷ [];
    are = given_more knows.numbers number is knows.are (λ i e. fresh (knows.told i number e));
    seen = λ n e. elim (cases_eq n number) [
      | inl s ↦ (length knows.numbers, get_last knows.numbers number (length knows.numbers) refl ∙ ap Some (sym s))
      | inr ne ↦
          let at : slice_get grown n ≡ Some true = sym (ap (λ z. slice_get z n) set_is ∙ get_set_other grown number n true ne) ∙ e in
          let w = knows.seen n (before n at (grows.from n true at)) in (w.0, get_stays knows.numbers n number w.0 w.1)
    ];
    told = λ i n e. ap (λ z. slice_get z n) set_is ∙ elim (get_pushed_cases knows.numbers number i n e) [
      | inl a ↦ elim (cases_eq n number) [
        | inl s ↦ absurd (fresh (knows.told i number (a ∙ ap Some s)))
        | inr ne ↦ get_set_other grown number n true ne ∙ grows.stays n true (knows.told i n a)
      ]
      | inr a ↦ set_at n (sym a.1)
    ];
    long = count_is ∙ ap (λ k. k + 1) knows.long ∙ sym (length-append knows.numbers (number ∷ []));
  }
    where
      before : (n : ℕ) → slice_get grown n ≡ Some true → (slice_get reads.seen.items n ≡ Some true) ⊎ (true ≡ false)
          → slice_get reads.seen.items n ≡ Some true
      before n at (inl old) = old
      before n at (inr wrong) = cc

      set_at : (n : ℕ) → n ≡ number → slice_get (set grown number true) n ≡ Some true
      set_at n s =
          ap (slice_get (set grown number true)) s
          ∙ get_set_same grown number (get_or grown number false) true (slice_get-get_or grown number false room)

-- whether a record was read is what stands at its place
pub read_before : (seen : List Bool) (number : ℕ) → was_read seen number ≡ true → slice_get seen number ≡ Some true
read_before seen number test = by_cases (slice_get seen number) test
  where
    by_cases : (found : Option Bool) → unwrap_or found false ≡ true → found ≡ Some true
    by_cases None h = cc
    by_cases (Some b) h = ap Some h

pub not_before : (seen : List Bool) (number : ℕ) → was_read seen number ≡ false → slice_get seen number ≡ Some true → ⊥
not_before seen number test at =
    let e : true ≡ false = sym (ap (λ found. unwrap_or found false) at) ∙ test in cc

-- ---- room
pub grows_itself : (seen : List Bool) → GrowsUnread seen seen
grows_itself seen = record { stays = λ n b e. e; from = λ n b e. inl e }

pub grows_more : (old new : List Bool) → GrowsUnread old new → GrowsUnread old (new ++ false ∷ [])
grows_more old new h = record {
  stays = λ n b e. get_stays new b false n (h.stays n b e);
  from = λ n b e. elim (get_pushed_cases new false n b e) [ inl k ↦ h.from n b k | inr s ↦ inr (sym s.1) ];
}

pub grows_pushed : (old mid new : List Bool) → GrowsUnread old mid → new ≡ mid ++ false ∷ [] → GrowsUnread old new
grows_pushed old mid new h added = subst (GrowsUnread old) (sym added) (grows_more old mid h)

pub room_more : (old mid new : List Bool) (n : ℕ) → GrowsUnread old mid × (length mid ≡ n) → new ≡ mid ++ false ∷ []
    → GrowsUnread old new × (length new ≡ n + 1)
room_more old mid new n h added =
    (grows_pushed old mid new h.0 added, ap length added ∙ (length-append mid (false ∷ []) ∙ ap (λ k. k + 1) h.1))
