-- What is left of a map where some of its values are kept, and sets to which numbers are added.
use Rattle.std.proofs.Common.{rules, tests, ◌≡◌, ◌≢◌, ℕ, ◌+◌, ◌<◌, ◌≤◌, List, [], length, refl, ap, sym, ◌∙◌, subst, arith}
use Rattle.std.proofs.Common.{Bool, true, false, cond, Option, Some, None, ◌⊎◌, inl, inr, slice_get}
use Rattle.std.specs.Prelude.{IsTrue, String, ◌↔◌}
use Rattle.std.specs.Bool.{Decides}
use Rattle.std.specs.List.{filter, list_any}
use Rattle.std.specs.Global.{Global}
use Rattle.std.specs.BTreeMap.{is_at, IsOrdered}
use Rattle.std.specs.BTreeSet.{BTreeSet, contains}
use Rattle.std.specs.Cmp.Lexicographic.{slice_cmp}
use Rattle.std.specs.Map.{keys_of, lookup}
use Rattle.std.proofs.Common.{Ordering, Less, Equal, Greater}
use Rattle.std.specs.Ordering.{is_eq, MatchOrdering, nat_cmp}
use Rattle.std.specs.Prelude.{string_bytes}
use Rattle.std.specs.Str.{bytes_eq}
use Rattle.std.specs.String.{string_cmp, string_cmp_total}
use Rattle.std.proofs.lemmas.Bool.{cases_lt}
use Rattle.std.proofs.lemmas.Cmp.{eq_by_cmp_equiv, ranked}
use Rattle.std.proofs.lemmas.Map.Entries.{lookup-filter-values, option_filter, place_from_lookup}
use Rattle.std.proofs.lemmas.Map.Keys.{IsDistinct-from_sorted}
use Rattle.std.proofs.lemmas.Map.Text.{is_eq-slice_cmp}
use Rattle.std.proofs.lemmas.Option.{none-some, same_Some, slice_get_within}
use Rattle.std.proofs.lemmas.Slice.Eq.{bytes_eq-Decides}
use Rattle.object_core.specs.declared.operation.Operation.{Operation}
use Rattle.object_watch.specs.declared.remainder.Remainder.{Remainder}
use Rattle.watch_lines.specs.Kept.{AddsTo, AreNaming, Forgets, IsHeldRecord, IsHeldIn, Names, number_in, RetainsOnly}
use Rattle.watch_lines.specs.declared.lined.Lined.{Lined}
use Rattle.watch_lines.specs.declared.lined.LinedRegister.{LinedRegister}
use Rattle.watch_lines.specs.declared.records.Records.{Records}

-- ---- a map of which some values are kept

filter_some : (test : ℕ → Bool) (found : Option ℕ) (n : ℕ) → option_filter test found ≡ Some n → (found ≡ Some n) × (test n ≡ true)
filter_some test None n e = absurd (none-some n e)
filter_some test (Some m) n e = by_test (test m) refl e
  where
    by_test : (b : Bool) → test m ≡ b → cond b (Some m) None ≡ Some n → (Some m ≡ Some n) × (test n ≡ true)
    by_test true is f = (f, ap test (sym (same_Some m n f)) ∙ is)
    by_test false is f = absurd (none-some n f)

text_of : (text : List ℕ) (key : String Global) → is_at (λ (k : String Global). slice_cmp nat_cmp text (string_bytes k)) key ≡ true →
    text ≡ string_bytes key
text_of text key e = by_test (bytes_eq text (string_bytes key)) (bytes_eq-Decides text (string_bytes key))
    (sym (is_eq-slice_cmp text (string_bytes key)) ∙ e)
  where
    by_test : (b : Bool) → Decides b (text ≡ string_bytes key) → b ≡ true → text ≡ string_bytes key
    by_test true d is = search (rules, tests)
    by_test false d is = cc

module _ (test : ℕ → Bool) (old new : Records) (left : new.numbers.entries ≡ filter (λ e. test e.1) old.numbers.entries)
    (ordered : IsOrdered string_cmp old.numbers) where
  at_key : (key : String Global) → number_in new (string_bytes key) ≡ option_filter test (number_in old (string_bytes key))
  at_key key =
      ap (lookup (is_at (string_cmp key))) left
      ∙ lookup-filter-values (eq_by_cmp_equiv string_cmp_total) test key old.numbers.entries
      (IsDistinct-from_sorted string_cmp (keys_of old.numbers.entries) ordered)

  pub retained : new.next ≡ old.next → RetainsOnly test old new
  retained next = record { stays = stays; was = λ text n e. (parts text n e).0; passes = λ text n e. (parts text n e).1; next = next }
    where
      stays : (text : List ℕ) (n : ℕ) → number_in old text ≡ Some n → IsTrue (test n) → number_in new text ≡ Some n
      stays text n e is =
          let x = place_from_lookup (is_at (λ (k : String Global). slice_cmp nat_cmp text (string_bytes k))) old.numbers.entries n e in
          let same : text ≡ string_bytes x.1 = text_of text x.1 x.3 in
          let P : List ℕ → Type 0 = λ t. number_in new t ≡ Some n in
          let had : number_in old (string_bytes x.1) ≡ Some n = subst (λ (t : List ℕ). number_in old t ≡ Some n) same e in
          subst P (sym same) (at_key x.1 ∙ (ap (option_filter test) had ∙ ap (λ (b : Bool). cond b (Some n) None) is))

      parts : (text : List ℕ) (n : ℕ) → number_in new text ≡ Some n → (number_in old text ≡ Some n) × (test n ≡ true)
      parts text n e =
          let x = place_from_lookup (is_at (λ (k : String Global). slice_cmp nat_cmp text (string_bytes k))) new.numbers.entries n e in
          let same : text ≡ string_bytes x.1 = text_of text x.1 x.3 in
          let P : List ℕ → Type 0 = λ t. (number_in old t ≡ Some n) × (test n ≡ true) in
          let has : number_in new (string_bytes x.1) ≡ Some n = subst (λ (t : List ℕ). number_in new t ≡ Some n) same e in
          subst P (sym same) (filter_some test (number_in old (string_bytes x.1)) n (sym (at_key x.1) ∙ has))

-- ---- a set to which numbers are added

test_of : (m n : ℕ) → ((is_eq (nat_cmp m n) ≡ true) × (n ≡ m)) ⊎ ((is_eq (nat_cmp m n) ≡ false) × (n ≢ m))
test_of m n = by_order (nat_cmp m n) (ranked m n (nat_cmp m n) refl)
  where
    by_order : (r : Ordering) → MatchOrdering r (m < n) (m ≡ n) (n < m) →
        ((is_eq r ≡ true) × (n ≡ m)) ⊎ ((is_eq r ≡ false) × (n ≢ m))
    by_order Less l = inr (refl, λ e. omega (arith, l, e))
    by_order Equal e = inl (refl, sym e)
    by_order Greater l = inr (refl, λ e. omega (arith, l, e))

pub adds_one : (old new : BTreeSet ℕ) (number : ℕ) →
    ((q : ℕ) → contains nat_cmp new q ≡ cond (is_at (nat_cmp number) q) true (contains nat_cmp old q)) →
    AddsTo old new (λ n. n ≡ number)
adds_one old new number updates = record { stay = stay; came = came; from = from }
  where
    stay : (n : ℕ) → IsTrue (contains nat_cmp old n) → IsTrue (contains nat_cmp new n)
    stay n is = updates n ∙ elim (test_of number n) [
      | inl here ↦ ap (λ (b : Bool). cond b true (contains nat_cmp old n)) here.0
      | inr apart ↦ ap (λ (b : Bool). cond b true (contains nat_cmp old n)) apart.0 ∙ is
    ]

    came : (n : ℕ) → n ≡ number → IsTrue (contains nat_cmp new n)
    came n e = elim (test_of number n) [
      | inl here ↦ updates n ∙ ap (λ (b : Bool). cond b true (contains nat_cmp old n)) here.0
      | inr apart ↦ absurd (apart.1 e)
    ]

    from : (n : ℕ) → IsTrue (contains nat_cmp new n) → IsTrue (contains nat_cmp old n) ⊎ (n ≡ number)
    from n is = elim (test_of number n) [
      | inl here ↦ inr here.1
      | inr apart ↦ inl (sym (ap (λ (b : Bool). cond b true (contains nat_cmp old n)) apart.0) ∙ (sym (updates n) ∙ is))
    ]

-- first these, then those
pub adds_both : (These Those All : ℕ → Type 0) (old mid new : BTreeSet ℕ) → ((n : ℕ) → All n → These n ⊎ Those n) →
    ((n : ℕ) → These n ⊎ Those n → All n) → AddsTo old mid These → AddsTo mid new Those → AddsTo old new All
adds_both These Those All old mid new parts whole first second = record {
  stay = λ n is. second.stay n (first.stay n is);
  came = λ n all. elim (parts n all) [
    | inl these ↦ second.stay n (first.came n these)
    | inr those ↦ second.came n those
  ];
  from = λ n is. elim (second.from n is) [
    | inl before ↦ elim (first.from n before) [
      | inl was ↦ inl was
      | inr these ↦ inr (whole n (inl these))
    ]
    | inr those ↦ inr (whole n (inr those))
  ];
}

pub adds_same : (These All : ℕ → Type 0) (old new : BTreeSet ℕ) → ((n : ℕ) → All n → These n) → ((n : ℕ) → These n → All n) →
    AddsTo old new These → AddsTo old new All
adds_same These All old new parts whole h = record {
  stay = h.stay;
  came = λ n all. h.came n (parts n all);
  from = λ n is. elim (h.from n is) [
    | inl was ↦ inl was
    | inr these ↦ inr (whole n these)
  ];
}

pub adds_none : (All : ℕ → Type 0) (old : BTreeSet ℕ) → ((n : ℕ) → All n → ⊥) → AddsTo old old All
adds_none All old none = record { stay = λ n is. is; came = λ n all. absurd (none n all); from = λ n is. inl is }

-- ---- those that the first operations name, and those of the first that is held

abbrev pub AreNamingBefore : List (Operation Lined) → ℕ → ℕ → Type 0
AreNamingBefore ops most n = (p : ℕ) × (o : Operation Lined) × (p < most) × (slice_get ops p ≡ Some o) × Names o.what.what n

abbrev pub IsHeldBefore : List (Remainder LinedRegister Lined) → ℕ → ℕ → Type 0
IsHeldBefore held most n =
    (i : ℕ) × (one : Remainder LinedRegister Lined) × (i < most) × (slice_get held i ≡ Some one) × IsHeldIn one n

pub naming_first : (ops : List (Operation Lined)) (old : BTreeSet ℕ) → AddsTo old old (AreNamingBefore ops 0)
naming_first ops old = adds_none (AreNamingBefore ops 0) old (λ n x. (let less = x.2 in omega (arith, less)))

pub naming_more : (ops : List (Operation Lined)) (most : ℕ) (o : Operation Lined) (old mid new : BTreeSet ℕ) →
    slice_get ops most ≡ Some o → AddsTo old mid (AreNamingBefore ops most) → AddsTo mid new (Names o.what.what) →
    AddsTo old new (AreNamingBefore ops (most + 1))
naming_more ops most o old mid new at =
    adds_both (AreNamingBefore ops most) (Names o.what.what) (AreNamingBefore ops (most + 1)) old mid new parts whole
  where
    parts : (n : ℕ) → AreNamingBefore ops (most + 1) n → AreNamingBefore ops most n ⊎ Names o.what.what n
    parts n (p, x, less, there, names) = elim (cases_lt p most) [
      | inl before ↦ inl (p, x, before, there, names)
      | inr le ↦
          let here : p ≡ most = omega (arith, less, le) in
          let same : x ≡ o = same_Some x o (sym there ∙ (ap (slice_get ops) here ∙ at)) in
          inr (subst (λ (z : Operation Lined). Names z.what.what n) same names)
    ]

    whole : (n : ℕ) → AreNamingBefore ops most n ⊎ Names o.what.what n → AreNamingBefore ops (most + 1) n
    whole n (inl (p, x, less, there, names)) = (p, x, omega (arith, less), there, names)
    whole n (inr names) = (most, o, omega arith, at, names)

pub naming_all : (ops : List (Operation Lined)) (most : ℕ) (old new : BTreeSet ℕ) → length ops ≤ most →
    AddsTo old new (AreNamingBefore ops most) → AddsTo old new (AreNaming ops)
naming_all ops most old new all =
    adds_same (AreNamingBefore ops most) (AreNaming ops) old new parts (λ n x. (x.1, (x.0, x.3), x.4))
  where
    parts : (n : ℕ) → AreNaming ops n → AreNamingBefore ops most n
    parts n (o, l, names) =
        let within = slice_get_within ops l.0 o l.1 in (l.0, o, omega (arith, within, all), l.1, names)

pub held_first : (held : List (Remainder LinedRegister Lined)) (old : BTreeSet ℕ) → AddsTo old old (IsHeldBefore held 0)
held_first held old = adds_none (IsHeldBefore held 0) old (λ n x. (let less = x.2 in omega (arith, less)))

pub held_more : (held : List (Remainder LinedRegister Lined)) (most : ℕ) (one : Remainder LinedRegister Lined)
    (old mid also new : BTreeSet ℕ) → slice_get held most ≡ Some one → AddsTo old mid (IsHeldBefore held most) →
    AddsTo mid also (λ n. n ≡ one.state.register.held) → AddsTo also new (AreNaming one.rest.items) →
    AddsTo old new (IsHeldBefore held (most + 1))
held_more held most one old mid also new at first state rest =
    adds_both (IsHeldBefore held most) (IsHeldIn one) (IsHeldBefore held (most + 1)) old mid new parts whole first
    (adds_both (λ n. n ≡ one.state.register.held) (AreNaming one.rest.items) (IsHeldIn one) mid also new (λ n is. is) (λ n is. is)
    state rest)
  where
    parts : (n : ℕ) → IsHeldBefore held (most + 1) n → IsHeldBefore held most n ⊎ IsHeldIn one n
    parts n (i, x, less, there, is) = elim (cases_lt i most) [
      | inl before ↦ inl (i, x, before, there, is)
      | inr le ↦
          let here : i ≡ most = omega (arith, less, le) in
          let same : x ≡ one = same_Some x one (sym there ∙ (ap (slice_get held) here ∙ at)) in
          inr (subst (λ (z : Remainder LinedRegister Lined). IsHeldIn z n) same is)
    ]

    whole : (n : ℕ) → IsHeldBefore held most n ⊎ IsHeldIn one n → IsHeldBefore held (most + 1) n
    whole n (inl (i, x, less, there, is)) = (i, x, omega (arith, less), there, is)
    whole n (inr is) = (most, one, omega arith, at, is)

pub held_all : (held : List (Remainder LinedRegister Lined)) (most : ℕ) (old new : BTreeSet ℕ) → length held ≤ most →
    AddsTo old new (IsHeldBefore held most) → AddsTo old new (IsHeldRecord held)
held_all held most old new all =
    adds_same (IsHeldBefore held most) (IsHeldRecord held) old new parts (λ n x. (x.0, x.1, x.3, x.4))
  where
    parts : (n : ℕ) → IsHeldRecord held n → IsHeldBefore held most n
    parts n (i, one, e, is) = let within = slice_get_within held i one e in (i, one, omega (arith, within, all), e, is)

-- ---- what is forgotten

pub forgets_none : (held : List (Remainder LinedRegister Lined)) (old new : Records) → new ≡ old →
    ¬ (old.most ≤ length old.numbers.entries) →
    Forgets held old new
forgets_none held old new same few =
    let P : Records → Type 0 = λ z. Forgets held old z in
    subst P (sym same) (record {
      stays = λ text n e is. e;
      was = λ text n e. e;
      few = λ many. absurd (few many);
      next = refl;
    })

pub forgets_some : (held : List (Remainder LinedRegister Lined)) (old new : Records) (most : ℕ) (some all : BTreeSet ℕ) →
    ((n : ℕ) → IsTrue (contains nat_cmp some n) ↔ IsHeldRecord held n) →
    ((q : ℕ) → contains nat_cmp all q ≡ cond (is_at (nat_cmp 0) q) true (contains nat_cmp some q)) →
    RetainsOnly (λ n. contains nat_cmp all n) old new → Forgets held old (record new { most = most })
forgets_some held old new most some all first updates retains = record {
  stays = λ text n e is. retains.stays text n e (elim is [
    | inl opening ↦ second.came n opening
    | inr held_there ↦ second.stay n ((first n).1 held_there)
  ]);
  was = retains.was;
  few = λ many n is. (elim (second.from n (retains.passes is.0 n is.1)) [
    | inl there ↦ inr ((first n).0 there)
    | inr opening ↦ inl opening
  ]);
  next = retains.next;
}
  where
    second : AddsTo some all (λ n. n ≡ 0)
    second = adds_one some all 0 updates

-- all that was added to nothing
pub only_added : (held : List (Remainder LinedRegister Lined)) (none some : BTreeSet ℕ) → none.keys ≡ []
    → AddsTo none some (IsHeldRecord held) →
    (n : ℕ) → IsTrue (contains nat_cmp some n) ↔ IsHeldRecord held n
only_added held none some empty h n = (
  λ is. elim (h.from n is) [
    | inl before ↦
        let clash : false ≡ true = ap (list_any (is_at (nat_cmp n))) (sym empty) ∙ before in cc
    | inr these ↦ these
  ],
  h.came n,
)
