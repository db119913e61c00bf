-- The first write that is refused too early: what is found in a front stays found in a shorter one before it.
use Rattle.std.proofs.Common.{◌≡◌, ℕ, ◌+◌, ◌<◌, ◌≤◌, min, Bool, ◌&&◌, nat_lt, nat_le, List, length, take, drop, get_or, slice_get, Option}
use Rattle.std.proofs.Common.{None, Some, IfSome, arith, refl, sym, ◌∙◌, ap, subst, ◌⊎◌, inl, inr}
use Rattle.std.specs.List.{list_all}
use Rattle.std.proofs.lemmas.List.{take-take, take_all}
use Rattle.std.proofs.lemmas.Option.{slice_get_within, slice_get_read}
use Rattle.history_explain.specs.Breaks.{IsRefusedAt, IsRefusedEarly}
use Rattle.history_core.specs.Orders.{in_term, is_write_at, KeepsLimit, ListsPlaces, RefusesLawfully, writes_in}
use Rattle.history_check.specs.Ranges.{is_between}
use Rattle.history_explain.specs.inner.Searches.{end_of, entry_of, IsEarly}
use Rattle.history_explain.specs.declared.breaks.refusal.Early.{Early}
use Rattle.history_core.specs.declared.history.Kind.TheVariants.{Refused}
use Rattle.history_core.specs.declared.history.Op.{Op}
use Rattle.history_core.specs.declared.history.Term.{Term}
use Rattle.history_core.proofs.Counting.{count_agree}
use Rattle.history_explain.proofs.Fronts.{front_get, limit_front, places_of_front}
use Rattle.history_check.proofs.Limits.{CountsTo, TermsFrom, terms_start, terms_step}
use Rattle.history_core.proofs.Listed.{some_and_from}

module _ {R : Type 0} where
  -- the entries before n keep the limit
  pub counted_front : (first next limit : ℕ) (ops : List (Op R)) (order : List ℕ) (n writes : ℕ) →
      CountsTo first next limit ops order n writes → KeepsLimit (is_between first next) limit ops (take n order)
  counted_front first next limit ops order n writes c i p o e f k b =
      let w = front_get n order i p e in
      let h : limit ≤ writes_in (is_between first next) ops (take i order) = c.kept i p o w.0 w.1 f k b in
      let le : i ≤ n = omega (arith, w.0) in
      let a = ap (writes_in (is_between first next) ops) (take-take i n order le) in
      omega arith

  -- the places of the term at j
  term_places : (terms : List Term) (ops : List (Op R)) (order : List ℕ) (k j next : ℕ) (t : Term) → j + 1 ≡ k →
      TermsFrom terms ops order k next → (p : ℕ) → p < length ops → is_between t.first next p ≡ in_term t (drop (j + 1) terms) p
  term_places terms ops order k j next t jk h p l =
      let P : ℕ → Type 0 = λ n. list_all (λ u. nat_lt p u.first) (drop n terms) ≡ nat_lt p next in
      ap (λ b. nat_le t.first p && b) (sym (subst P (sym jk) (h.bound p l)))

  same_writes : (f g : ℕ → Bool) (ops : List (Op R)) (order : List ℕ) (n : ℕ) → ListsPlaces ops order →
      ((p : ℕ) → p < length ops → f p ≡ g p) → writes_in f ops (take n order) ≡ writes_in g ops (take n order)
  same_writes f g ops order n places same =
      count_agree (λ q. f q && is_write_at (slice_get ops q)) (λ q. g q && is_write_at (slice_get ops q)) (take n order)
      (λ j q ej. ap (λ x. x && is_write_at (slice_get ops q)) (same q (places j q (front_get n order j q ej).1)))

  -- what is early by the places of the term at j is refused early
  pub early_of_term : (terms : List Term) (ops : List (Op R)) (order front : List ℕ) (k j next : ℕ) (t : Term) (e : Early) →
      ListsPlaces ops order → j + 1 ≡ k → j < length terms → t ≡ get_or terms j t → TermsFrom terms ops front k next →
      IsEarly t.first next t.limit ops order e → IsRefusedAt terms ops order e.entry e.writes
  early_of_term terms ops order front k j next t e places jk l is h w = record {
    number = j;
    term = t;
    place = w.0;
    is_term = slice_get_read terms (length terms) j t refl l is;
    is_place = w.2;
    of_term = sym (term_places terms ops front k j next t jk h w.0 (places e.entry w.0 w.2)) ∙ w.5;
    refused = some_and_from (λ o. o.kind ≡ Refused) (slice_get ops w.0) w.1 w.3 w.4;
    counted = w.6 ∙ same_writes (is_between t.first next) (in_term t (drop (j + 1) terms)) ops order e.entry places
        (term_places terms ops front k j next t jk h);
    few = w.7;
  }

  -- the terms from k on are lawful before the entry that was found, and it was refused early
  pub record HasSearched (terms : List Term) (ops : List (Op R)) (order : List ℕ) (k next : ℕ) (found : Option Early) : Type 0 where
    pub lawful : TermsFrom terms ops (take (end_of (entry_of found) (length order)) order) k next
    pub within : IfSome found (λ e. e.entry ≤ length order)
    pub early : IfSome found (λ e. IsRefusedAt terms ops order e.entry e.writes)

  pub nothing_searched : (terms : List Term) (ops : List (Op R)) (order : List ℕ) →
      HasSearched terms ops order (length terms) (length ops) None
  nothing_searched terms ops order = record { lawful = terms_start terms ops (take (length order) order); within = tt; early = tt }

  shorter : (terms : List Term) (ops : List (Op R)) (order : List ℕ) (k next m n : ℕ) → m ≤ n → TermsFrom terms ops (take n order) k next →
      TermsFrom terms ops (take m order) k next
  shorter terms ops order k next m n le h = record {
    bound = h.bound;
    kept = λ j t kj e. limit_front (in_term t (drop (j + 1) terms)) t.limit ops order m n le (h.kept j t kj e);
  }

  within_of : (order : List ℕ) (ops : List (Op R)) (first next limit : ℕ) (found : Option Early) →
      IfSome found (λ e. IsEarly first next limit ops order e) → IfSome found (λ e. e.entry ≤ length order)
  within_of order ops first next limit None h = tt
  within_of order ops first next limit (Some e) h = omega (arith, slice_get_within order e.entry h.0 h.2)

  found_of : (terms : List Term) (ops : List (Op R)) (order front : List ℕ) (k j next : ℕ) (t : Term) (found : Option Early) →
      ListsPlaces ops order → j + 1 ≡ k → j < length terms → t ≡ get_or terms j t → TermsFrom terms ops front k next →
      IfSome found (λ e. IsEarly t.first next t.limit ops order e) → IfSome found (λ e. IsRefusedAt terms ops order e.entry e.writes)
  found_of terms ops order front k j next t None places jk l is h early = tt
  found_of terms ops order front k j next t (Some e) places jk l is h early =
      early_of_term terms ops order front k j next t e places jk l is h early

  -- one more term
  pub searched_more : (terms : List Term) (ops : List (Op R)) (order : List ℕ) (k j next : ℕ) (t : Term) (found more : Option Early)
      → ListsPlaces ops order → j + 1 ≡ k → j < length terms → t ≡ get_or terms j t → HasSearched terms ops order k next found
      → KeepsLimit (is_between t.first next) t.limit ops (take (end_of (entry_of more) (length order)) order)
      → (more ≡ found) ⊎ ((end_of (entry_of more) (length order) < end_of (entry_of found) (length order))
      × IfSome more (λ e. IsEarly t.first next t.limit ops order e))
      → HasSearched terms ops order j (min next t.first) more
  searched_more terms ops order k j next t found more places jk l is h kept early =
      let m : ℕ = end_of (entry_of more) (length order) in
      let n : ℕ = end_of (entry_of found) (length order) in
      let le : m ≤ n = elim early [
        | inl e ↦
            (let same : m ≡ n = ap (λ x. end_of (entry_of x) (length order)) e in omega arith)
        | inr w ↦ omega (arith, w.0)
      ] in
      let before : TermsFrom terms ops (take m order) k next = shorter terms ops order k next m n le h.lawful in
      let W : Option Early → Type 0 = λ x. IfSome x (λ e. e.entry ≤ length order) in
      let F : Option Early → Type 0 = λ x. IfSome x (λ e. IsRefusedAt terms ops order e.entry e.writes) in
      record {
        lawful = terms_step terms ops (take m order) k j next t (places_of_front ops order m places) jk l is before kept;
        within = elim early [ inl e ↦ subst W (sym e) h.within | inr w ↦ within_of order ops t.first next t.limit more w.1 ];
        early = elim early [
          | inl e ↦ subst F (sym e) h.early
          | inr w ↦
              found_of terms ops order (take n order) k j next t more places jk l is h.lawful w.1
        ];
      }

  -- all terms
  pub searched_all : (terms : List Term) (ops : List (Op R)) (order : List ℕ) (k next : ℕ) (found : Option Early) → k ≡ 0 →
      HasSearched terms ops order k next found →
      (found ≡ None → RefusesLawfully terms ops order) × IfSome found (λ e. IsRefusedEarly terms ops order e.entry e.writes)
  searched_all terms ops order k next None z h =
      let P : List ℕ → Type 0 = λ xs. RefusesLawfully terms ops xs in
      (λ e. subst P (take_all (length order) order (omega arith)) (λ j t at. h.lawful.kept j t (omega arith) at), tt)
  searched_all terms ops order k next (Some e) z h = (
    λ n. cc,
    record {
      early = h.early;
      before = λ j t at. h.lawful.kept j t (omega arith) at;
    },
  )
