-- One more text is linked, and a text is found by the links.
use Rattle.std.proofs.Common.{◌≡◌, ◌≢◌, ℕ, zero, suc, ◌+◌, ◌<◌, ◌≤◌, List, [], ◌∷◌, ◌++◌, length, refl, sym, ◌∙◌, ap, subst, arith}
use Rattle.std.proofs.Common.{inl, inr, slice_get, set, replicate, Some, length-append, length-set}
use Rattle.std.proofs.lemmas.Bool.{cases_eq, cases_lt}
use Rattle.std.proofs.lemmas.List.{length-replicate}
use Rattle.std.proofs.lemmas.Option.{none-some, same_Some, slice_get_within}
use Rattle.history_core.proofs.Places.{get_before, get_last, get_pushed_cases, get_set_other, get_set_same}
use Rattle.kept_lines.specs.declared.links.Links.{Links}
use Rattle.kept_lines.specs.inner.Linked.{AreLinked, bucket_of, IsBucketLink}

-- the link of a bucket that has no text yet, or of any with no text
link_none : (count bucket : ℕ) → IsBucketLink [] count bucket 0 0
link_none count bucket = record {
  within = omega arith;
  there = λ m text e at. cc;
  none = λ m text le l at b. omega arith;
}

all_zero : (n link : ℕ) (i : ℕ) → slice_get (replicate n 0) i ≡ Some link → link ≡ 0
all_zero zero link i e = absurd (none-some link e)
all_zero (suc n) link zero e = sym (same_Some 0 link e)
all_zero (suc n) link (suc i) e = all_zero n link i e

pub linked_none : (links : Links) (count : ℕ) → 0 < count → links.last.items ≡ replicate count 0 → links.before.items ≡ [] →
    AreLinked [] links
linked_none links count some last before = record {
  some = omega (arith, ap length last, length-replicate {A = ℕ} count 0);
  long = ap length before;
  last = λ bucket link at.
      let z : link ≡ 0 = all_zero count link bucket (sym (ap (λ (l : List ℕ). slice_get l bucket) last) ∙ at) in
      subst (λ (k : ℕ). IsBucketLink [] (length links.last.items) bucket 0 k) (sym z) (link_none (length links.last.items) bucket);
  before = λ n link text at here. cc;
}

module _ (texts : List (List ℕ)) (text : List ℕ) (count : ℕ) where
  -- a link stays where texts come behind it
  link_stays : (bucket n link : ℕ) → n ≤ length texts → IsBucketLink texts count bucket n link →
      IsBucketLink (texts ++ text ∷ []) count bucket n link
  link_stays bucket n link le is = record {
    within = is.within;
    there = λ m t e at.
        let w : link ≤ n = is.within in
        is.there m t e (sym (get_before texts (text ∷ []) m (omega arith)) ∙ at);
    none = λ m t le_m l at b. is.none m t le_m l (sym (get_before texts (text ∷ []) m (omega arith)) ∙ at) b;
  }

  -- the link of another bucket leads no further with the text behind
  link_other : (bucket link : ℕ) → bucket_of count text ≢ bucket → IsBucketLink texts count bucket (length texts) link →
      IsBucketLink (texts ++ text ∷ []) count bucket (length texts + 1) link
  link_other bucket link ne is =
      let stays = link_stays bucket (length texts) link (omega arith) is in
      record {
        within = let w : link ≤ length texts = is.within in omega arith;
        there = stays.there;
        none = λ m t le l at b. elim (cases_lt m (length texts)) [
          | inl lt ↦ stays.none m t le lt at b
          | inr ge ↦
              let e : m ≡ length texts = omega arith in
              let s : text ≡ t = same_Some text t (sym (get_last texts text m e) ∙ at) in
              ne (ap (bucket_of count) s ∙ b)
        ];
      }

  -- the link of its own bucket leads to the text
  link_own : IsBucketLink (texts ++ text ∷ []) count (bucket_of count text) (length texts + 1) (length texts + 1)
  link_own = record {
    within = omega arith;
    there = λ m t e at.
        let p : m ≡ length texts = omega arith in
        ap (bucket_of count) (sym (same_Some text t (sym (get_last texts text m p) ∙ at)));
    none = λ m t le l at b. omega arith;
  }

module _ (texts : List (List ℕ)) (old new : Links) (text : List ℕ) (link bucket : ℕ) (are : AreLinked texts old)
    (own : bucket ≡ bucket_of (length old.last.items) text)
    (next : link ≡ length old.before.items + 1) (last : new.last.items ≡ set old.last.items bucket link)
    (kept : ℕ) (there : slice_get old.last.items bucket ≡ Some kept)
    (before : new.before.items ≡ old.before.items ++ kept ∷ []) where
  same_count : length new.last.items ≡ length old.last.items
  same_count = ap length last ∙ length-set old.last.items bucket link

  link_is : link ≡ length texts + 1
  link_is = next ∙ ap (λ (n : ℕ). n + 1) are.long

  abbrev count : ℕ
  count = length old.last.items

  last_of : (b k : ℕ) → slice_get (set old.last.items bucket link) b ≡ Some k →
      IsBucketLink (texts ++ text ∷ []) count b (length texts + 1) k
  last_of b k at = elim (cases_eq b bucket) [
    | inl s ↦
        let e : link ≡ k = same_Some link k (sym (get_set_same old.last.items bucket kept link there)
        ∙ ap (slice_get (set old.last.items bucket link)) (sym s) ∙ at) in
        let q : bucket_of count text ≡ b = sym own ∙ sym s in
        let P : ℕ → ℕ → Type 0 = λ x y. IsBucketLink (texts ++ text ∷ []) count x (length texts + 1) y in
        subst (λ (y : ℕ). P b y) (sym link_is ∙ e) (subst (λ (x : ℕ). P x (length texts + 1)) q (link_own texts text count))
    | inr ne ↦ link_other texts text count b k (λ e. ne (sym e ∙ sym own)) (are.last b k
        (sym (get_set_other old.last.items bucket b link ne) ∙ at))
  ]

  before_of : (n k : ℕ) (t : List ℕ) → slice_get (old.before.items ++ kept ∷ []) n ≡ Some k →
      slice_get (texts ++ text ∷ []) n ≡ Some t → IsBucketLink (texts ++ text ∷ []) count (bucket_of count t) n k
  before_of n k t at here = elim (get_pushed_cases old.before.items kept n k at) [
    | inl old_at ↦
        let l : n < length texts = omega (arith, slice_get_within old.before.items n k old_at, are.long) in
        let t_at : slice_get texts n ≡ Some t = sym (get_before texts (text ∷ []) n l) ∙ here in
        link_stays texts text count (bucket_of count t) n k (omega arith) (are.before n k t old_at t_at)
    | inr is ↦
        let p : n ≡ length texts = is.0 ∙ are.long in
        let s : text ≡ t = same_Some text t (sym (get_last texts text n p) ∙ here) in
        let q : bucket ≡ bucket_of count t = own ∙ ap (bucket_of count) s in
        let link_old : IsBucketLink texts count bucket (length texts) kept =
        are.last bucket kept there in
        let P : ℕ → ℕ → ℕ → Type 0 = λ x y z. IsBucketLink (texts ++ text ∷ []) count x y z in
        subst (λ (z : ℕ). P (bucket_of count t) n z) is.1 (subst (λ (y : ℕ). P (bucket_of count t) y kept) (sym p)
        (subst (λ (x : ℕ). P x (length texts) kept) q
        (link_stays texts text count bucket (length texts) kept (omega arith) link_old)))
  ]

  pub linked_more : AreLinked (texts ++ text ∷ []) new
  linked_more =
      let more : length (texts ++ text ∷ []) ≡ length texts + 1 = length-append texts (text ∷ []) in
      let L : ℕ → List ℕ → ℕ → Type 0 = λ c l n. (b k : ℕ) → slice_get l b ≡ Some k → IsBucketLink (texts ++ text ∷ []) c b n k in
      let B : ℕ → List ℕ → Type 0 = λ c l. (n k : ℕ) (t : List ℕ) → slice_get l n ≡ Some k → slice_get (texts ++ text ∷ []) n ≡ Some t →
      IsBucketLink (texts ++ text ∷ []) c (bucket_of c t) n k in
      record {
        some = omega (arith, same_count, are.some);
        long = omega (arith, ap length before, length-append old.before.items (kept ∷ []), are.long, more);
        last = subst (λ (n : ℕ). L (length new.last.items) new.last.items n) (sym more)
            (subst (λ (l : List ℕ). L (length new.last.items) l (length texts + 1)) (sym last)
            (subst (λ (c : ℕ). L c (set old.last.items bucket link) (length texts + 1)) (sym same_count) last_of));
        before = subst (λ (l : List ℕ). B (length new.last.items) l) (sym before)
            (subst (λ (c : ℕ). B c (old.before.items ++ kept ∷ [])) (sym same_count) before_of);
      }

-- ---- the search
-- from here on backwards the text may stand, in its bucket, and nowhere else
pub record IsSought (texts : List (List ℕ)) (count : ℕ) (text : List ℕ) (link : ℕ) : Type 0 where
  pub within : link ≤ length texts
  pub there : (m : ℕ) (t : List ℕ) → link ≡ m + 1 → slice_get texts m ≡ Some t → bucket_of count t ≡ bucket_of count text
  pub none : (m : ℕ) → link ≤ m → slice_get texts m ≡ Some text → ⊥

pub sought_first : (texts : List (List ℕ)) (links : Links) (text : List ℕ) (link : ℕ) → AreLinked texts links →
    slice_get links.last.items (bucket_of (length links.last.items) text) ≡ Some link → IsSought texts (length links.last.items) text link
sought_first texts links text link are at =
    let is = are.last (bucket_of (length links.last.items) text) link at in
    record {
      within = is.within;
      there = is.there;
      none = λ m le here. is.none m text le (slice_get_within texts m text here) here refl;
    }

pub sought_next : (texts : List (List ℕ)) (links : Links) (text t : List ℕ) (link n next : ℕ) → AreLinked texts links →
    IsSought texts (length links.last.items) text link → link ≡ n + 1 → slice_get texts n ≡ Some t → t ≢ text →
    slice_get links.before.items n ≡ Some next → IsSought texts (length links.last.items) text next
sought_next texts links text t link n next are sought e here differ at =
    let count : ℕ = length links.last.items in
    let is = are.before n next t at here in
    let same : bucket_of count t ≡ bucket_of count text = sought.there n t e here in
    let within : next ≤ n = is.within in
    let l : n < length texts = slice_get_within texts n t here in
    record {
      within = omega arith;
      there = λ m u f at_u. is.there m u f at_u ∙ same;
      none = λ m le at_m. elim (cases_lt m n) [
        | inl lt ↦ is.none m text le lt at_m (sym same)
        | inr ge ↦ elim (cases_eq m n) [
          | inl s ↦ differ (same_Some t text (sym here ∙ ap (slice_get texts) (sym s) ∙ at_m))
          | inr ne ↦ sought.none m (omega arith) at_m
        ]
      ];
    }
