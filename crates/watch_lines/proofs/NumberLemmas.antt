-- Records get numbers, one after the other.
use Rattle.std.proofs.Common.{rules, tests, ◌≡◌, ◌≢◌, ℕ, zero, suc, ◌+◌, ◌<◌, List, [], ◌∷◌, ◌++◌, length, refl, ap, sym, ◌∙◌, subst, arith}
use Rattle.std.proofs.Common.{Bool, true, false, cond, Some, None, ◌⊎◌, inl, inr, slice_get}
use Rattle.std.specs.Prelude.{nat_eq}
use Rattle.std.specs.Bool.{Decides}
use Rattle.std.specs.Map.{update}
use Rattle.std.specs.Str.{bytes_eq}
use Rattle.std.proofs.lemmas.Bool.Decides.{nat_tests}
use Rattle.std.proofs.lemmas.Option.{none-some, same_Some, slice_get_within}
use Rattle.std.proofs.lemmas.Slice.Eq.{bytes_eq-Decides}
use Rattle.history_core.proofs.Places.{get_last, get_pushed_cases, get_stays}
use Rattle.object_registers.specs.declared.exchanging.Exchange.{Exchange}
use Rattle.object_registers.specs.declared.exchanging.Exchange.TheVariants.{Gets, Finds}
use Rattle.kept_lines.specs.Numberings.{AreDistinct}
use Rattle.read_exchange.specs.Exchanges.{exchange_seen, finds, gets, SaidExchange, what_seen}
use Rattle.read_exchange.specs.declared.line.ExchangeOp.{ExchangeOp}
use Rattle.exchanges_log.specs.ExchangeLogs.{MeansExchange, texts_of}
use Rattle.exchanges_log.specs.ExchangeNumbers.{GrowBy}
use Rattle.watch_lines.specs.Kept.{KeepsAll, GotNumber, IsKeptAlone, IsNext, Names, number_in}
use Rattle.watch_lines.specs.Namings.{AreKeptNumbers, AreNamed, exchange_by, GotNumbers, HaveNumbers, IsNamedExchange, IsNamedWhat, Naming}
use Rattle.watch_lines.specs.declared.records.Records.{Records}

-- ---- the records of a log grow

grow_none : (all : List (List ℕ)) → GrowBy all [] all
grow_none all = record { grows = λ n text at. at; met = λ n text at. inl at }

grow_known : (all : List (List ℕ)) (text : List ℕ) → GrowBy all (text ∷ []) all
grow_known all text = record { grows = λ n t at. at; met = λ n t at. inl at }

grow_one : (all : List (List ℕ)) (text : List ℕ) → GrowBy all (text ∷ []) (all ++ text ∷ [])
grow_one all text = record {
  grows = λ n t at. get_stays all t text n at;
  met = λ n t at. elim (get_pushed_cases all text n t at) [
    | inl old ↦ inl old
    | inr new ↦ inr (0, ap Some new.1)
  ];
}

-- first by some texts, then by one more
grow_more : (all mid after texts : List (List ℕ)) (text : List ℕ) → GrowBy all texts mid → GrowBy mid (text ∷ []) after →
    GrowBy all (texts ++ text ∷ []) after
grow_more all mid after texts text before now = record {
  grows = λ n t at. now.grows n t (before.grows n t at);
  met = λ n t at. elim (now.met n t at) [
    | inl old ↦ elim (before.met n t old) [
      | inl was ↦ inl was
      | inr among ↦ inr (among.0, get_stays texts t text among.0 among.1)
    ]
    | inr new ↦ inr (length texts, get_last texts text (length texts) refl ∙ ap Some (only new.0 t new.1))
  ];
}
  where
    only : (i : ℕ) (t : List ℕ) → slice_get (text ∷ []) i ≡ Some t → text ≡ t
    only zero t e = cc
    only (suc i) t e = cc

-- ---- the place of a record

same_text : (text other : List ℕ) → (text ≡ other) ⊎ (text ≢ other)
same_text text other = by_test (bytes_eq text other) (bytes_eq-Decides text other)
  where
    by_test : (b : Bool) → Decides b (text ≡ other) → (text ≡ other) ⊎ (text ≢ other)
    by_test true h = inl (search (rules, tests))
    by_test false h = inr (search (rules, tests))

abbrev HasPlace : List (List ℕ) → List ℕ → Type 0
HasPlace all text = (k : ℕ) × (slice_get all k ≡ Some text)

place_of : (all : List (List ℕ)) (text : List ℕ) → HasPlace all text ⊎ (HasPlace all text → ⊥)
place_of [] text = inr (λ h. (let at = h.1 in cc))
place_of (first ∷ all) text = elim (same_text first text) [
  | inl same ↦ inl (0, ap Some same)
  | inr other ↦ elim (place_of all text) [
    | inl there ↦ inl (suc there.0, there.1)
    | inr none ↦ inr (λ h. behind other none h.0 h.1)
  ]
]
  where
    behind : first ≢ text → (HasPlace all text → ⊥) → (k : ℕ) → slice_get (first ∷ all) k ≡ Some text → ⊥
    behind other none zero at = other (same_Some first text at)
    behind other none (suc k) at = none (k, at)

distinct_more : (all : List (List ℕ)) (text : List ℕ) → AreDistinct all → (HasPlace all text → ⊥) → AreDistinct (all ++ text ∷ [])
distinct_more all text distinct none t m n at_m at_n =
    elim (get_pushed_cases all text m t at_m) [
      | inl old ↦ elim (get_pushed_cases all text n t at_n) [
        | inl was ↦ distinct t m n old was
        | inr new ↦ absurd (none (m, old ∙ ap Some (sym new.1)))
      ]
      | inr last ↦ elim (get_pushed_cases all text n t at_n) [
        | inl was ↦ absurd (none (n, was ∙ ap Some (sym last.1)))
        | inr new ↦ last.0 ∙ sym new.0
      ]
    ]

-- ---- two numbers change places

swap : ℕ → ℕ → ℕ → ℕ
swap m n k = cond (nat_eq k m) n (cond (nat_eq k n) m k)

by_pair : (m n k : ℕ) → (k ≡ m) ⊎ ((k ≡ n) ⊎ ((k ≢ m) × (k ≢ n)))
by_pair m n k = by_tests (nat_eq k m) (nat_eq k n) refl refl
  where
    by_tests : (b c : Bool) → nat_eq k m ≡ b → nat_eq k n ≡ c → (k ≡ m) ⊎ ((k ≡ n) ⊎ ((k ≢ m) × (k ≢ n)))
    by_tests true c e g = inl (grind (arith, nat_tests))
    by_tests false true e g = inr (inl (grind (arith, nat_tests)))
    by_tests false false e g = inr (inr (grind (arith, nat_tests), grind (arith, nat_tests)))

swap_first : (m n : ℕ) → swap m n m ≡ n
unfolding swap
swap_first m n = by_test (nat_eq m m) refl
  where
    by_test : (b : Bool) → nat_eq m m ≡ b → cond b n (cond (nat_eq m n) m m) ≡ n
    by_test true e = refl
    by_test false e = absurd (let ne : m ≢ m = grind (arith, nat_tests) in ne refl)

swap_apart : (m n k : ℕ) → k ≢ m → k ≢ n → swap m n k ≡ k
unfolding swap
swap_apart m n k ne other = by_tests (nat_eq k m) (nat_eq k n) refl refl
  where
    by_tests : (b c : Bool) → nat_eq k m ≡ b → nat_eq k n ≡ c → cond b n (cond c m k) ≡ k
    by_tests true c e g = absurd (let is : k ≡ m = grind (arith, nat_tests) in ne is)
    by_tests false true e g = absurd (let is : k ≡ n = grind (arith, nat_tests) in other is)
    by_tests false false e g = refl

swap_second : (m n : ℕ) → swap m n n ≡ m
unfolding swap
swap_second m n = by_tests (nat_eq n m) (nat_eq n n) refl refl
  where
    by_tests : (b c : Bool) → nat_eq n m ≡ b → nat_eq n n ≡ c → cond b n (cond c m n) ≡ m
    by_tests true c e g = grind (arith, nat_tests)
    by_tests false true e g = refl
    by_tests false false e g = absurd (let ne : n ≢ n = grind (arith, nat_tests) in ne refl)

swap_twice : (m n k : ℕ) → swap m n (swap m n k) ≡ k
swap_twice m n k = elim (by_pair m n k) [
  | inl first ↦
      ap (λ (z : ℕ). swap m n (swap m n z)) first ∙ (ap (swap m n) (swap_first m n) ∙ (swap_second m n ∙ sym first))
  | inr others ↦ elim others [
    | inl second ↦
        ap (λ (z : ℕ). swap m n (swap m n z)) second ∙ (ap (swap m n) (swap_second m n) ∙ (swap_first m n ∙ sym second))
    | inr apart ↦ ap (swap m n) (swap_apart m n k apart.0 apart.1) ∙ swap_apart m n k apart.0 apart.1
  ]
]

swapped : Naming → ℕ → ℕ → Naming
swapped naming m n = record {
  to = λ k. swap m n (naming.to k);
  from = λ k. naming.from (swap m n k);
  back = λ k. ap naming.from (swap_twice m n (naming.to k)) ∙ naming.back k;
  forth = λ k. ap (swap m n) (naming.forth (swap m n k)) ∙ swap_twice m n k;
}

-- ---- one record gets its number

keeps_same : (kept : Records) → KeepsAll kept kept
keeps_same kept = record { more = omega arith; most = refl }

keeps_both : (old mid new : Records) → KeepsAll old mid → KeepsAll mid new → KeepsAll old new
keeps_both old mid new first last =
    let a = first.more in let b = last.more in record { more = omega (arith, a, b); most = last.most ∙ first.most }

module _ (all : List (List ℕ)) (naming : Naming) (old : Records) (kept : AreKeptNumbers all naming old) where
  named_known : (text : List ℕ) → AreNamed all naming old (text ∷ []) old
  named_known text = record {
    after = all;
    now = naming;
    grow = grow_known all text;
    kept = kept;
    stay = λ t n e. e;
    same = λ n is. refl;
    keeps = keeps_same old;
  }

  -- the next number is for the record that the log has or gets at this place
  named_next : (text : List ℕ) (n : ℕ) (new : Records) → IsNext old text n new → (after : List (List ℕ)) (k : ℕ) →
      GrowBy all (text ∷ []) after → slice_get after k ≡ Some text → AreDistinct after →
      ((t : List ℕ) (j : ℕ) → number_in old t ≡ Some j → naming.from j ≢ k) → AreNamed all naming old (text ∷ []) new
  unfolding swapped
  named_next text n new next after k grow at distinct apart = record {
    after = after;
    now = swapped naming n (naming.to k);
    grow = grow;
    kept = record {
      found = λ t j e. found t j (bytes_eq text t) (bytes_eq-Decides text t) (sym (next.numbers t) ∙ e);
      below = λ t j e. below t j (bytes_eq text t) (sym (next.numbers t) ∙ e);
      opening = (
        kept.opening.0,
        grow.grows 0 kept.opening.0 kept.opening.1,
        stay kept.opening.0 0 kept.opening.2,
      );
      distinct = distinct;
    };
    stay = stay;
    same = λ j is. same is.0 j is.1;
    keeps = next.keeps;
  }
    where
      same : (t : List ℕ) (j : ℕ) → number_in old t ≡ Some j → naming.from (swap n (naming.to k) j) ≡ naming.from j
      same t j e =
          let less = kept.below t j e in
          let is = next.is in
          let first : j ≢ n = λ s. omega (arith, less, is, s) in
          let second : j ≢ naming.to k = λ s. apart t j e (ap naming.from s ∙ naming.back k) in
          ap naming.from (swap_apart n (naming.to k) j first second)

      stays : (t : List ℕ) (j : ℕ) (b : Bool) → Decides b (text ≡ t) → number_in old t ≡ Some j →
          cond b (Some n) (number_in old t) ≡ Some j
      stays t j true d e =
          let is : text ≡ t = search (rules, tests) in
          let had : number_in old text ≡ Some j = subst (λ (z : List ℕ). number_in old z ≡ Some j) (sym is) e in
          absurd (none-some j (sym next.unknown ∙ had))
      stays t j false d e = e

      stay : (t : List ℕ) (j : ℕ) → number_in old t ≡ Some j → number_in new t ≡ Some j
      stay t j e = next.numbers t ∙ stays t j (bytes_eq text t) (bytes_eq-Decides text t) e

      found : (t : List ℕ) (j : ℕ) (b : Bool) → Decides b (text ≡ t) → cond b (Some n) (number_in old t) ≡ Some j →
          slice_get after (naming.from (swap n (naming.to k) j)) ≡ Some t
      found t j true d e =
          let is : text ≡ t = search (rules, tests) in
          let here : naming.from (swap n (naming.to k) j) ≡ k =
          ap (λ (z : ℕ). naming.from (swap n (naming.to k) z)) (sym (same_Some n j e))
          ∙ (ap naming.from (swap_first n (naming.to k)) ∙ naming.back k) in
          ap (slice_get after) here ∙ (at ∙ ap Some is)
      found t j false d e =
          ap (slice_get after) (same t j e) ∙ grow.grows (naming.from j) t (kept.found t j e)

      below : (t : List ℕ) (j : ℕ) (b : Bool) → cond b (Some n) (number_in old t) ≡ Some j → j < new.next
      below t j true e =
          let is = same_Some n j e in
          let was = next.is in
          let more = next.next in omega (arith, is, was, more)
      below t j false e =
          let less = kept.below t j e in
          let more = next.next in omega (arith, less, more)

  named_one : (text : List ℕ) (n : ℕ) (new : Records) → IsNext old text n new → AreNamed all naming old (text ∷ []) new
  named_one text n new next = elim (place_of all text) [
    | inl there ↦ named_next text n new next all there.0 (grow_known all text) there.1 kept.distinct (known_apart there.0 there.1)
    | inr none ↦ named_next text n new next (all ++ text ∷ []) (length all) (grow_one all text) (get_last all text (length all) refl)
        (distinct_more all text kept.distinct none) new_apart
  ]
    where
      known_apart : (k : ℕ) → slice_get all k ≡ Some text → (t : List ℕ) (j : ℕ) → number_in old t ≡ Some j → naming.from j ≢ k
      known_apart k at t j e s =
          let there : slice_get all k ≡ Some t = ap (slice_get all) (sym s) ∙ kept.found t j e in
          let same : t ≡ text = same_Some t text (sym there ∙ at) in
          none-some j (sym next.unknown ∙ subst (λ (z : List ℕ). number_in old z ≡ Some j) same e)

      new_apart : (t : List ℕ) (j : ℕ) → number_in old t ≡ Some j → naming.from j ≢ length all
      new_apart t j e s =
          let within = slice_get_within all (naming.from j) t (kept.found t j e) in omega (arith, within, s)

  got_one : (text : List ℕ) (n : ℕ) (new : Records) → GotNumber old text n new → GotNumbers all naming old (text ∷ []) (n ∷ []) new
  got_one text n new (inl had) =
      let P : Records → Type 0 = λ z. GotNumbers all naming old (text ∷ []) (n ∷ []) z in
      subst P (sym had.1) (record { named = named_known text; have = (had.0, tt) })
  got_one text n new (inr next) = record {
    named = named_one text n new next;
    have = (has (bytes_eq text text) (bytes_eq-Decides text text), tt);
  }
    where
      by_test : (b : Bool) → Decides b (text ≡ text) → cond b (Some n) (number_in old text) ≡ Some n
      by_test true d = refl
      by_test false d = absurd (let ne : text ≢ text = search (rules, tests) in ne refl)

      has : (b : Bool) → Decides b (text ≡ text) → number_in new text ≡ Some n
      has b d = next.numbers text ∙ by_test (bytes_eq text text) (bytes_eq-Decides text text)

-- a record gets the next number
pub next_number : (old new : Records) (text : List ℕ) → number_in old text ≡ None → new.next ≡ old.next + 1 →
    ((other : List ℕ) → number_in new other ≡ update bytes_eq (number_in old) text (Some old.next) other) → KeepsAll old new →
    GotNumber old text old.next new
next_number old new text unknown more updated keeps =
    inr (record { unknown = unknown; is = refl; next = more; numbers = updated; keeps = keeps })

-- the record is known by a text that fits
pub got_first : (all : List (List ℕ)) (naming : Naming) (text fitted : List ℕ) (n : ℕ) (old new : Records) → fitted ≡ text →
    GotNumber old fitted n new → AreKeptNumbers all naming old → GotNumbers all naming old (text ∷ []) (n ∷ []) new
got_first all naming text fitted n old new fit got kept =
    subst (λ (t : List ℕ). GotNumbers all naming old (t ∷ []) (n ∷ []) new) fit (got_one all naming old kept fitted n new got)

-- ---- and then another one

module _ (old mid new : Records) where
  have_still : ((text : List ℕ) (n : ℕ) → number_in mid text ≡ Some n → number_in new text ≡ Some n) →
      (texts : List (List ℕ)) (ns : List ℕ) → HaveNumbers mid texts ns → HaveNumbers new texts ns
  have_still stay [] [] have = tt
  have_still stay [] (n ∷ ns) have = have
  have_still stay (text ∷ texts) [] have = have
  have_still stay (text ∷ texts) (n ∷ ns) have = (stay text n have.0, have_still stay texts ns have.1)

have_behind : (kept : Records) (texts : List (List ℕ)) (ns : List ℕ) (text : List ℕ) (n : ℕ) → HaveNumbers kept texts ns →
    number_in kept text ≡ Some n → HaveNumbers kept (texts ++ text ∷ []) (ns ++ n ∷ [])
have_behind kept [] [] text n have at = (at, tt)
have_behind kept [] (m ∷ ns) text n have at = absurd have
have_behind kept (t ∷ texts) [] text n have at = absurd have
have_behind kept (t ∷ texts) (m ∷ ns) text n have at = (have.0, have_behind kept texts ns text n have.1 at)

pub got_next : (all : List (List ℕ)) (naming : Naming) (texts : List (List ℕ)) (ns : List ℕ) (text : List ℕ) (n : ℕ)
    (old mid new : Records) → GotNumbers all naming old texts ns mid →
    ((between : List (List ℕ)) (other : Naming) → AreKeptNumbers between other mid
    → GotNumbers between other mid (text ∷ []) (n ∷ []) new) →
    GotNumbers all naming old (texts ++ text ∷ []) (ns ++ n ∷ []) new
got_next all naming texts ns text n old mid new got more =
    let first = got.named in
    let last = more first.after first.now first.kept in
    record {
      named = record {
        after = last.named.after;
        now = last.named.now;
        grow = grow_more all first.after last.named.after texts text first.grow last.named.grow;
        kept = last.named.kept;
        stay = λ t j e. last.named.stay t j (first.stay t j e);
        same = λ j is. last.named.same j (is.0, first.stay is.0 j is.1) ∙ first.same j is;
        keeps = keeps_both old mid new first.keeps last.named.keeps;
      };
      have = have_behind new texts ns text n (have_still old mid new last.named.stay texts ns got.have) last.have.0;
    }

-- ---- what an operation does, once its records have their numbers

module _ (all : List (List ℕ)) (naming : Naming) (old new : Records) where
  -- the number of a text stands for it
  at_text : (after : List (List ℕ)) (now : Naming) → AreKeptNumbers after now new → (text : List ℕ) (n : ℕ) → number_in new text ≡ Some n →
      slice_get after (now.from n) ≡ Some text
  at_text after now kept text n e = kept.found text n e

  pub of_one : (text : List ℕ) (n : ℕ) (said : SaidExchange) (what : Exchange) → texts_of said ≡ text ∷ [] →
      ((after : List (List ℕ)) (f : ℕ → ℕ) → slice_get after (f n) ≡ Some text → MeansExchange after said (exchange_by f what)) →
      ((k : ℕ) → Names what k → k ≡ n) → GotNumbers all naming old (text ∷ []) (n ∷ []) new →
      IsNamedWhat all naming old said new what
  of_one text n said what texts means names got = record {
    named = subst (λ (ts : List (List ℕ)). AreNamed all naming old ts new) (sym texts) got.named;
    is = is;
    names = λ k e. (text, got.have.0 ∙ ap Some (sym (names k e)));
  }
    where
      is : MeansExchange (subst (λ (ts : List (List ℕ)). AreNamed all naming old ts new) (sym texts) got.named).after said
          (exchange_by (subst (λ (ts : List (List ℕ)). AreNamed all naming old ts new) (sym texts) got.named).now.from what)
      is =
          let named = subst (λ (ts : List (List ℕ)). AreNamed all naming old ts new) (sym texts) got.named in
          means named.after named.now.from (named.kept.found text n got.have.0)

  pub of_two : (from to : List ℕ) (m n : ℕ) (said : SaidExchange) (what : Exchange) → texts_of said ≡ from ∷ to ∷ [] →
      ((after : List (List ℕ)) (f : ℕ → ℕ) → slice_get after (f m) ≡ Some from → slice_get after (f n) ≡ Some to →
      MeansExchange after said (exchange_by f what)) →
      ((k : ℕ) → Names what k → (k ≡ m) ⊎ (k ≡ n)) → GotNumbers all naming old (from ∷ to ∷ []) (m ∷ n ∷ []) new →
      IsNamedWhat all naming old said new what
  of_two from to m n said what texts means names got =
      let named = subst (λ (ts : List (List ℕ)). AreNamed all naming old ts new) (sym texts) got.named in
      record {
        named = named;
        is = means named.after named.now.from (named.kept.found from m got.have.0) (named.kept.found to n got.have.1.0);
        names = λ k e. elim (names k e) [
          | inl first ↦ (from, got.have.0 ∙ ap Some (sym first))
          | inr second ↦ (to, got.have.1.0 ∙ ap Some (sym second))
        ];
      }

  pub of_three : (from to found : List ℕ) (m n k : ℕ) → GotNumbers all naming old (from ∷ to ∷ found ∷ []) (m ∷ n ∷ k ∷ []) new →
      IsNamedWhat all naming old (finds from to found) new (Finds m k)
  of_three from to found m n k got =
      let named = got.named in
      let f = named.now.from in
      record {
        named = named;
        is = (
          f m,
          f n,
          f k,
          named.kept.found from m got.have.0,
          named.kept.found to n got.have.1.0,
          named.kept.found found k got.have.1.1.0,
          refl,
        );
        names = λ j e. elim e [
          | inl first ↦ (from, got.have.0 ∙ ap Some (sym first))
          | inr last ↦ (found, got.have.1.1.0 ∙ ap Some (sym last))
        ];
      }

pub of_none : (all : List (List ℕ)) (naming : Naming) (kept : Records) → AreKeptNumbers all naming kept →
    IsNamedWhat all naming kept (gets None) kept (Gets 0)
of_none all naming kept are = record {
  named = record {
    after = all;
    now = naming;
    grow = grow_none all;
    kept = are;
    stay = λ t n e. e;
    same = λ n is. refl;
    keeps = keeps_same kept;
  };
  is = ap Gets (from_zero all naming kept are);
  names = λ n e. (are.opening.0, are.opening.2 ∙ ap Some (sym e));
}
  where
    from_zero : (all : List (List ℕ)) (naming : Naming) (kept : Records) → AreKeptNumbers all naming kept → naming.from 0 ≡ 0
    from_zero all naming kept are =
        are.distinct are.opening.0 (naming.from 0) 0 (are.found are.opening.0 0 are.opening.2) are.opening.1

-- and the operation
pub of_what : (all : List (List ℕ)) (naming : Naming) (old new : Records) (o : ExchangeOp) (what : Exchange) →
    IsNamedWhat all naming old (what_seen o.what) new what →
    IsNamedExchange all naming old (exchange_seen o) new (record { starts = o.begin; ends = o.end; maybe = o.maybe; what = what })
of_what all naming old new o what got = record {
  named = got.named;
  is = record { starts = refl; ends = refl; maybe = refl; what = got.is };
  names = got.names;
}

pub opening_stays : (all : List (List ℕ)) (naming : Naming) (kept : Records) → AreKeptNumbers all naming kept → naming.to 0 ≡ 0
opening_stays all naming kept are =
    let from_zero : naming.from 0 ≡ 0 =
    are.distinct are.opening.0 (naming.from 0) 0 (are.found are.opening.0 0 are.opening.2) are.opening.1 in
    ap naming.to (sym from_zero) ∙ naming.forth 0

-- ---- the opening alone

pub alone : (opening : List ℕ) (before : Records) (kept : Records) → ((text : List ℕ) → number_in before text ≡ None) →
    ((text : List ℕ) → number_in kept text ≡ update bytes_eq (number_in before) opening (Some 0) text) → kept.next ≡ 1 →
    IsKeptAlone opening kept
alone opening before kept none updated next = record {
  found = λ text n e. found text n (bytes_eq opening text) (bytes_eq-Decides opening text) (sym (updated text) ∙ e);
  known = updated opening ∙ known (bytes_eq opening opening) (bytes_eq-Decides opening opening);
  next = next;
}
  where
    found : (text : List ℕ) (n : ℕ) (b : Bool) → Decides b (opening ≡ text) → cond b (Some 0) (number_in before text) ≡ Some n →
        (text ≡ opening) × (n ≡ 0)
    found text n true d e = let is : opening ≡ text = search (rules, tests) in (sym is, sym (same_Some 0 n e))
    found text n false d e = absurd (none-some n (sym (none text) ∙ e))

    known : (b : Bool) → Decides b (opening ≡ opening) → cond b (Some 0) (number_in before opening) ≡ Some 0
    known true d = refl
    known false d = absurd (let ne : opening ≢ opening = search (rules, tests) in ne refl)

pub same_naming : Naming
same_naming = record { to = λ n. n; from = λ n. n; back = λ n. refl; forth = λ n. refl }

pub kept_alone : (opening : List ℕ) (kept : Records) → IsKeptAlone opening kept → AreKeptNumbers (opening ∷ []) same_naming kept
unfolding same_naming
kept_alone opening kept alone = record {
  found = λ text n e. (let is = alone.found text n e in ap (slice_get (opening ∷ [])) is.1 ∙ ap Some (sym is.0));
  below = λ text n e. (let is = alone.found text n e in let zero_is = is.1 in let next = alone.next in omega (arith, zero_is, next));
  opening = (opening, refl, alone.known);
  distinct = λ text m n at_m at_n. one m text at_m ∙ sym (one n text at_n);
}
  where
    one : (n : ℕ) (text : List ℕ) → slice_get (opening ∷ []) n ≡ Some text → n ≡ 0
    one zero text at = refl
    one (suc n) text at = cc
