-- Keys, their names, and the lines of each.
use Rattle.std.proofs.Common.{rules, tests, ◌≡◌, ℕ, List, [], ◌∷◌, ◌++◌, Option, None, Some, Bool, true, false, refl, ap, sym, ◌∙◌, arith}
use Rattle.std.proofs.Common.{zero, suc, length, slice_get, subst, ◌+◌, Result, Ok, Err}
use Rattle.std.specs.Prelude.{◌||◌, ◌==◌, if◌then◌else◌, option_map}
use Rattle.std.specs.Bool.{Decides}
use Rattle.std.specs.Str.{bytes_eq}
use Rattle.std.specs.List.{filter, list_any}
use Rattle.std.proofs.lemmas.List.Elements.{filter-append}
use Rattle.std.proofs.lemmas.List.Folds.{list_any-append}
use Rattle.std.proofs.lemmas.List.{append-nil}
use Rattle.std.proofs.lemmas.Slice.Eq.{bytes_eq-Decides}
use Rattle.history_core.specs.declared.history.Op.{Op}
use Rattle.read_document.specs.Refusals.{◌>>=◌}
use Rattle.read_document.specs.declared.refusal.DocError.{DocError}
use Rattle.read_document.specs.declared.refusal.DocError.TheVariants.{Law, Missing, Shape}
use Rattle.read_document.specs.declared.key.Key.TheVariants as key
use Rattle.read_line.specs.Lines.{done, LineEntry, entry_of, operation}
use Rattle.keys_log.specs.Keys.{is_met, is_of, key_on, keys_from, keys_in, lines_of_key, places_from, places_of_key, with_key}
use Rattle.lines_log.specs.Logs.{judged, judged_line, LineRule, same_key}
use Rattle.keys_log.specs.inner.KeyReadings.{AreOthers, name_of, names_of}

-- ---- keys

by_bytes : (a b : List ℕ) (t : Bool) → Decides t (a ≡ b) → t ≡ true → a ≡ b
by_bytes a b true d e = search (rules, tests)
by_bytes a b false d e = cc

by_itself : (a : List ℕ) (t : Bool) → Decides t (a ≡ a) → t ≡ true
by_itself a true d = refl
by_itself a false d = absurd (search (rules, tests))

pub same_is : (a b : Option (List ℕ)) → same_key a b ≡ true → a ≡ b
same_is None None e = refl
same_is None (Some b) e = cc
same_is (Some a) None e = cc
same_is (Some a) (Some b) e = ap Some (by_bytes a b (bytes_eq a b) (bytes_eq-Decides a b) e)

pub same_as_itself : (key : Option (List ℕ)) → same_key key key ≡ true
same_as_itself None = refl
same_as_itself (Some a) = by_itself a (bytes_eq a a) (bytes_eq-Decides a a)

name_is : (a b : Option (List ℕ)) → name_of a ≡ name_of b → a ≡ b
name_is None None e = refl
name_is None (Some b) e = cc
name_is (Some a) None e = cc
name_is (Some a) (Some b) e = ap Some cc

pub names_at : (keys : List (Option (List ℕ))) (i : ℕ) (key : Option (List ℕ)) → slice_get keys i ≡ Some key
    → slice_get (names_of keys) i ≡ Some (name_of key)
names_at [] i key h = cc
names_at (k ∷ ks) zero key h = ap (option_map name_of) h
names_at (k ∷ ks) (suc i) key h = names_at ks i key h

pub names_from : (keys : List (Option (List ℕ))) (i : ℕ) (key : Option (List ℕ)) → slice_get (names_of keys) i ≡ Some (name_of key)
    → slice_get keys i ≡ Some key
names_from [] i key h = cc
names_from (k ∷ ks) zero key h = ap Some (name_is k key cc)
names_from (k ∷ ks) (suc i) key h = names_from ks i key h

-- ---- which keys are met

pub met_at : (keys : List (Option (List ℕ))) (i : ℕ) (key : Option (List ℕ)) → slice_get keys i ≡ Some key → is_met keys key ≡ true
met_at [] i key h = cc
met_at (k ∷ ks) zero key h =
    let same : same_key key k ≡ true = subst (λ z. same_key key z ≡ true) (let e : key ≡ k = cc in e) (same_as_itself key) in
    ap (λ b. b || is_met ks key) same
met_at (k ∷ ks) (suc i) key h = either (same_key key k) (met_at ks i key h)
  where
    either : (b : Bool) → is_met ks key ≡ true → (b || is_met ks key) ≡ true
    either true e = refl
    either false e = e

pub met_where : (keys : List (Option (List ℕ))) (key : Option (List ℕ)) → is_met keys key ≡ true → (i : ℕ) × (slice_get keys i ≡ Some key)
met_where [] key h = cc
met_where (k ∷ ks) key h = here (same_key key k) refl h (λ e. met_where ks key e)
  where
    here : (b : Bool) → same_key key k ≡ b → (b || is_met ks key) ≡ true
        → (is_met ks key ≡ true → (i : ℕ) × (slice_get ks i ≡ Some key)) → (i : ℕ) × (slice_get (k ∷ ks) i ≡ Some key)
    here true same e behind = (0, ap Some (sym (same_is key k same)))
    here false other e behind = let found = behind e in (suc found.0, found.1)

pub with_met : (keys : List (Option (List ℕ))) (key : Option (List ℕ)) → is_met keys key ≡ true → with_key keys key ≡ keys
with_met keys key e = ap (λ b. if b then keys else keys ++ key ∷ []) e

pub with_new : (keys : List (Option (List ℕ))) (key : Option (List ℕ)) → is_met keys key ≡ false → with_key keys key ≡ keys ++ key ∷ []
with_new keys key e = ap (λ b. if b then keys else keys ++ key ∷ []) e

pub one_key_more : (keys : List (Option (List ℕ))) (lines : List (List ℕ)) (line : List ℕ) →
    keys_from keys (lines ++ line ∷ []) ≡ with_key (keys_from keys lines) (key_on line)
one_key_more keys [] line = refl
one_key_more keys (l ∷ ls) line = one_key_more (with_key keys (key_on l)) ls line

or_false : (a b : Bool) → (a || b) ≡ false → (a ≡ false) × (b ≡ false)
or_false true b e = cc
or_false false b e = (refl, e)

unmet_both : (keys : List (Option (List ℕ))) (other key : Option (List ℕ)) → is_met (with_key keys other) key ≡ false
    → (is_met keys key ≡ false) × (same_key key other ≡ false)
unmet_both keys other key h = by_met (is_met keys other) refl
  where
    by_same : (b : Bool) → same_key key other ≡ b → is_met keys other ≡ true → is_met keys key ≡ false → same_key key other ≡ false
    by_same false same met not_met = same
    by_same true same met not_met =
        let is : key ≡ other = same_is key other same in
        let clash : is_met keys key ≡ true = subst (λ z. is_met keys z ≡ true) (sym is) met in
        absurd (let no : true ≡ false = sym clash ∙ not_met in cc)

    by_met : (b : Bool) → is_met keys other ≡ b → (is_met keys key ≡ false) × (same_key key other ≡ false)
    by_met true met =
        let not_met : is_met keys key ≡ false = ap (λ ks. is_met ks key) (sym (with_met keys other met)) ∙ h in
        (not_met, by_same (same_key key other) refl met not_met)
    by_met false new =
        let both : (is_met keys key || list_any (same_key key) (other ∷ [])) ≡ false =
        sym (list_any-append (same_key key) keys (other ∷ [])) ∙ ap (λ ks. is_met ks key) (sym (with_new keys other new)) ∙ h in
        let apart = or_false (is_met keys key) (list_any (same_key key) (other ∷ [])) both in
        (apart.0, (or_false (same_key key other) false apart.1).0)

others_from : (keys : List (Option (List ℕ))) (lines : List (List ℕ)) (p : ℕ) (key : Option (List ℕ))
    → is_met (keys_from keys lines) key ≡ false
    → (is_met keys key ≡ false) × (lines_of_key key lines ≡ []) × (places_from key p lines ≡ [])
others_from keys [] p key h = (h, refl, refl)
others_from keys (l ∷ ls) p key h =
    let behind = others_from (with_key keys (key_on l)) ls (suc p) key h in
    let here = unmet_both keys (key_on l) key behind.0 in (
      here.0,
      ap (λ b. if b then l ∷ lines_of_key key ls else lines_of_key key ls) here.1 ∙ behind.1,
      ap (λ b. if b then p ∷ places_from key (suc p) ls else places_from key (suc p) ls) here.1 ∙ behind.2,
    )

-- of a key that isn't met there is no line
pub others : (first : Option (List ℕ)) (lines : List (List ℕ)) → AreOthers (keys_in first lines) lines
others first lines key h = let none = others_from (first ∷ []) lines 0 key h in (none.1, none.2)

-- ---- one line more

one_if : (key : Option (List ℕ)) (line : List ℕ) (b : Bool) → is_of key line ≡ b →
    filter (is_of key) (line ∷ []) ≡ (if b then line ∷ [] else [])
one_if key line b e = ap (λ z. if z then line ∷ [] else []) e

pub of_more : (key : Option (List ℕ)) (lines : List (List ℕ)) (line : List ℕ) → is_of key line ≡ true
    → lines_of_key key (lines ++ line ∷ []) ≡ lines_of_key key lines ++ line ∷ []
of_more key lines line e =
    filter-append (is_of key) lines (line ∷ []) ∙ ap (λ l. lines_of_key key lines ++ l) (one_if key line true e)

pub of_other : (key : Option (List ℕ)) (lines : List (List ℕ)) (line : List ℕ) → is_of key line ≡ false
    → lines_of_key key (lines ++ line ∷ []) ≡ lines_of_key key lines
of_other key lines line e =
    filter-append (is_of key) lines (line ∷ []) ∙ ap (λ l. lines_of_key key lines ++ l) (one_if key line false e)
    ∙ append-nil (lines_of_key key lines)

place_behind : (p : ℕ) (ls : List (List ℕ)) (l : List ℕ) → suc p + length ls ≡ p + length (l ∷ ls)
place_behind p ls l = omega arith

places_behind : (key : Option (List ℕ)) (p : ℕ) (lines : List (List ℕ)) (line : List ℕ) →
    places_from key p (lines ++ line ∷ []) ≡ places_from key p lines ++ (if is_of key line then (p + length lines) ∷ [] else [])
places_behind key p [] line = ap (λ (n : ℕ). if is_of key line then n ∷ [] else []) (let e : p ≡ p + 0 = omega arith in e)
places_behind key p (l ∷ ls) line = by_first (is_of key l) (places_behind key (suc p) ls line
    ∙ ap (λ (n : ℕ). places_from key (suc p) ls ++ (if is_of key line then n ∷ [] else [])) (place_behind p ls l))
  where
    by_first : (b : Bool) → places_from key (suc p) (ls ++ line ∷ [])
        ≡ places_from key (suc p) ls ++ (if is_of key line then (p + length (l ∷ ls)) ∷ [] else [])
        → (if b then p ∷ places_from key (suc p) (ls ++ line ∷ []) else places_from key (suc p) (ls ++ line ∷ []))
        ≡ (if b then p ∷ places_from key (suc p) ls else places_from key (suc p) ls)
        ++ (if is_of key line then (p + length (l ∷ ls)) ∷ [] else [])
    by_first true e = ap (λ (l : List ℕ). p ∷ l) e
    by_first false e = e

pub places_more : (key : Option (List ℕ)) (lines : List (List ℕ)) (line : List ℕ) → is_of key line ≡ true
    → places_of_key key (lines ++ line ∷ []) ≡ places_of_key key lines ++ length lines ∷ []
places_more key lines line e =
    places_behind key 0 lines line
    ∙ ap (λ b. places_of_key key lines ++ (if b then (0 + length lines) ∷ [] else [])) e
    ∙ ap (λ (n : ℕ). places_of_key key lines ++ n ∷ []) (let z : 0 + length lines ≡ length lines = omega arith in z)

pub places_other : (key : Option (List ℕ)) (lines : List (List ℕ)) (line : List ℕ) → is_of key line ≡ false
    → places_of_key key (lines ++ line ∷ []) ≡ places_of_key key lines
places_other key lines line e =
    places_behind key 0 lines line
    ∙ ap (λ b. places_of_key key lines ++ (if b then (0 + length lines) ∷ [] else [])) e ∙ append-nil (places_of_key key lines)

-- ---- what a line says, however many stand before it

any_count : (rule : LineRule) (c d : ℕ) (last at_end : Bool) (entry : Result LineEntry DocError) (o : Op (List ℕ))
    → (entry >>= judged rule c last) ≡ Ok (Some o) → (entry >>= judged rule d at_end) ≡ Ok (Some o)
any_count rule c d last at_end (Err why) o h = cc
any_count rule c d last at_end (Ok (operation said)) o h = h
any_count rule c d last at_end (Ok (done ops)) o h = absurd (never last (ops == c) h)
  where
    never : (at_last all : Bool)
        → (if at_last then (if all then Ok None else Err (Law key.Ops)) else Err (Shape key.Kind)) ≡ Ok (Some o) → ⊥
    never true true e = cc
    never true false e = cc
    never false all e = cc

pub judged_anywhere : (rule : LineRule) (c d : ℕ) (last at_end : Bool) (line : List ℕ) (o : Op (List ℕ))
    → judged_line rule c last line ≡ Ok (Some o) → judged_line rule d at_end line ≡ Ok (Some o)
judged_anywhere rule c d last at_end line o h = any_count rule c d last at_end (entry_of line) o h

any_rule : (rule other : LineRule) (c : ℕ) (last : Bool) (entry : Result LineEntry DocError)
    → (entry >>= judged rule c last) ≡ Ok None → (entry >>= judged other c last) ≡ Ok None
any_rule rule other c last (Err why) h = cc
any_rule rule other c last (Ok (done ops)) h = h
any_rule rule other c last (Ok (operation o)) h = absurd (never (same_key rule.key o.key) _ h)
  where
    never : (same allowed : Bool)
        → (if same then (if allowed then Ok (Some o.op) else Err (Missing key.Limit)) else Err (Law key.Key)) ≡ Ok None → ⊥
    never true true e = cc
    never true false e = cc
    never false allowed e = cc

-- the end is one by any key
pub ends_for_any : (rule other : LineRule) (c : ℕ) (last : Bool) (line : List ℕ)
    → judged_line rule c last line ≡ Ok None → judged_line other c last line ≡ Ok None
ends_for_any rule other c last line h = any_rule rule other c last (entry_of line) h
