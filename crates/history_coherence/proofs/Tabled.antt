-- The tables of a log say which operations have to stand, of which records and tasks.
use Rattle.std.proofs.Common.{◌≡◌, ℕ, ◌+◌, ◌<◌, Bool, true, false, List, length, map, refl, sym, ◌∙◌, ap, subst, arith}
use Rattle.std.proofs.Common.{◌⊎◌, inl, inr, slice_get, Option, None, Some, nat_eq}
use Rattle.std.specs.Prelude.{IsSome, is_some, not, unwrap_or, ◌&&◌, ◌||◌, if◌then◌else◌}
use Rattle.std.specs.Option.{option_and_then, option_map}
use Rattle.std.proofs.lemmas.Bool.{cases_Bool}
use Rattle.std.proofs.lemmas.Bool.Decides.{nat_tests}
use Rattle.std.proofs.lemmas.List.{length-map}
use Rattle.std.proofs.lemmas.Option.{slice_get_within, same_Some, slice_get-map, slice_get_cases, option_and_then_some}
use Rattle.history_core.specs.declared.history.Op.{Op}
use Rattle.history_core.specs.Orders.{is_write}
use Rattle.history_core.specs.Reasons.{IsUnwritten}
use Rattle.history_thinning.specs.Thinnings.{Equal}
use Rattle.history_coherence.specs.Incoherent.{HasToStand}
use Rattle.history_coherence.specs.inner.Keys.{AreKeys, AreMet, AreTasks, AreUpTo, finished_record, HaveSources, is_met}
use Rattle.history_coherence.specs.inner.Keys.{is_source, key_of, lacks_source, number_at, NumbersUpTo, task_of, written_record}
use Rattle.history_coherence.specs.inner.Sortings.{HaveKnownRecords}
use Rattle.history_coherence.proofs.Edges.{mapped_some, number_within}
use Rattle.history_coherence.proofs.Sound.{one_from, one_of, opening_of}

-- ---- a list of numbers, one for each operation
pub number_map : (f : Op ℕ → Option ℕ) (log : List (Op ℕ)) (p : ℕ) (o : Op ℕ) → slice_get log p ≡ Some o → number_at (map f log) p ≡ f o
number_map f log p o e =
    ap (option_and_then (λ n. n)) (slice_get-map f log p) ∙ ap (λ z. option_and_then (λ n. n) (option_map f z)) e

pub number_of : (f : Op ℕ → Option ℕ) (log : List (Op ℕ)) (p x : ℕ) → number_at (map f log) p ≡ Some x →
    (o : Op ℕ) × (slice_get log p ≡ Some o) × (f o ≡ Some x)
number_of f log p x h =
    let l : p < length log = let k = number_within (map f log) p x h in omega (arith, length-map log f) in
    elim (slice_get_cases log p).1 [
      | inl w ↦ (w.0, w.2, sym (number_map f log p w.0 w.2) ∙ h)
      | inr w ↦ absurd (omega (arith, w.0))
    ]

finished_has : (o : Op ℕ) (x : ℕ) → finished_record o ≡ Some x → IsSome o.ends × (o.item ≡ Some x)
finished_has o x h = by (is_some o.ends) refl h
  where
    by : (b : Bool) → is_some o.ends ≡ b → (if b then o.item else None) ≡ Some x → IsSome o.ends × (o.item ≡ Some x)
    by true t e = (t, e)
    by false t e = cc

pub written_has : (o : Op ℕ) (x : ℕ) → written_record o ≡ Some x → (is_write o.kind ≡ true) × (o.item ≡ Some x)
written_has o x h = by (is_write o.kind) refl h
  where
    by : (b : Bool) → is_write o.kind ≡ b → (if b then o.item else None) ≡ Some x → (is_write o.kind ≡ true) × (o.item ≡ Some x)
    by true t e = (t, e)
    by false t e = cc

finished_is : (o : Op ℕ) → IsSome o.ends → finished_record o ≡ o.item
finished_is o h = ap (λ b. if b then o.item else None) h

pub written_is : (o : Op ℕ) → is_write o.kind ≡ true → written_record o ≡ o.item
written_is o h = ap (λ b. if b then o.item else None) h

up_to_by : (f : Op ℕ → Option ℕ) (log : List (Op ℕ)) (greatest : ℕ) → ((o : Op ℕ) (x : ℕ) → f o ≡ Some x → o.item ≡ Some x) →
    AreUpTo log greatest → NumbersUpTo (map f log) greatest
up_to_by f log greatest has up p x e = let w = number_of f log p x e in up p x w.0 w.1 (has w.0 x w.2)

pub finished_up_to : (log : List (Op ℕ)) (greatest : ℕ) → AreUpTo log greatest → NumbersUpTo (map finished_record log) greatest
finished_up_to log greatest up = up_to_by finished_record log greatest (λ o x h. (finished_has o x h).1) up

pub written_up_to : (log : List (Op ℕ)) (greatest : ℕ) → AreUpTo log greatest → NumbersUpTo (map written_record log) greatest
written_up_to log greatest up = up_to_by written_record log greatest (λ o x h. (written_has o x h).1) up

-- ---- what is met
met_yes : (numbers : List (Option ℕ)) (n : ℕ) (met : List Bool) (x : ℕ) → AreMet numbers n met → is_met met x ≡ true →
    (p : ℕ) × (p < n) × (number_at numbers p ≡ Some x)
met_yes numbers n met x h t = by (slice_get met x) refl t
  where
    by : (found : Option Bool) → slice_get met x ≡ found → unwrap_or found false ≡ true → (p : ℕ) × (p < n) × (number_at numbers p ≡ Some x)
    by None e u = cc
    by (Some b) e u = h.yes x (e ∙ ap Some u)

met_no : (numbers : List (Option ℕ)) (n : ℕ) (met : List Bool) (x p : ℕ) → AreMet numbers n met → x < length met → p < n →
    number_at numbers p ≡ Some x → is_met met x ≡ true
met_no numbers n met x p h l k e = elim (slice_get_cases met x).1 [
  | inr w ↦ absurd (omega (arith, w.0))
  | inl w ↦ elim (cases_Bool w.0) [
    | inl t ↦ ap (λ (o : Option Bool). unwrap_or o false) w.2 ∙ t
    | inr f ↦ absurd (h.no x p (w.2 ∙ ap Some f) k e)
  ]
]

module _ (log : List (Op ℕ)) (asked : List Bool) (greatest : ℕ) (up : AreUpTo log greatest) (long : length asked ≡ greatest + 1)
    (met : AreMet (map finished_record log) (length (map finished_record log)) asked) where
  key_stands : (o : Op ℕ) (x : ℕ) → key_of asked o ≡ Some x → HasToStand Equal 0 log o × (o.item ≡ Some x)
  key_stands o x h = by (is_some o.ends) refl h
    where
      written : (y : ℕ) (b : Bool) → written_record o ≡ Some y → is_met asked y ≡ b → (if b then Some y else None) ≡ Some x →
          HasToStand Equal 0 log o × (o.item ≡ Some x)
      written y false e m s = cc
      written y true e m s =
          let w = written_has o y e in
          let q = met_yes (map finished_record log) (length (map finished_record log)) asked y met m in
          let b = number_of finished_record log q.0 y q.2 in
          let f = finished_has b.0 y b.2 in
          let k : y ≡ x = same_Some y x s in
          (inr (w.0, q.0, b.0, b.1, f.0, one_from b.0 o y f.1 w.1), w.1 ∙ ap Some k)

      by : (b : Bool) → is_some o.ends ≡ b →
          (if b then o.item else option_and_then (λ y. if is_met asked y then Some y else None) (written_record o)) ≡ Some x →
          HasToStand Equal 0 log o × (o.item ≡ Some x)
      by true t e = (inl t, e)
      by false t e = option_and_then_some (λ y. if is_met asked y then Some y else None) (written_record o) x e (λ y f g.
          written y (is_met asked y) f refl g)

  key_all : (o : Op ℕ) (x p : ℕ) → slice_get log p ≡ Some o → HasToStand Equal 0 log o → o.item ≡ Some x → key_of asked o ≡ Some x
  key_all o x p e h i = by (is_some o.ends) refl
    where
      other : (b : Bool) → is_some o.ends ≡ b →
          (if b then o.item else option_and_then (λ y. if is_met asked y then Some y else None) (written_record o)) ≡ key_of asked o
      other b t = ap (λ z. if z then o.item else option_and_then (λ y. if is_met asked y then Some y else None) (written_record o)) (sym t)

      by : (b : Bool) → is_some o.ends ≡ b → key_of asked o ≡ Some x
      by true t = sym (other true t) ∙ i
      by false t = elim h [
        | inl f ↦ let z : true ≡ false = sym f ∙ t in cc
        | inr w ↦
            let c = one_of w.2 o w.5 in
            let s : c.0 ≡ x = same_Some c.0 x (sym c.2 ∙ i) in
            let record_of : finished_record w.2 ≡ Some x = finished_is w.2 w.4 ∙ c.1 ∙ ap Some s in
            let l : x < length asked = let k = up p x o e i in omega arith in
            let at : number_at (map finished_record log) w.1 ≡ Some x = number_map finished_record log w.1 w.2 w.3 ∙ record_of in
            let k : w.1 < length (map finished_record log) = number_within (map finished_record log) w.1 x at in
            let m : is_met asked x ≡ true = met_no (map finished_record log) (length (map finished_record log)) asked x w.1 met l k at in
            sym (other false t) ∙ ap (option_and_then (λ y. if is_met asked y then Some y else None)) (written_is o w.0 ∙ i)
            ∙ ap (λ b. if b then Some x else None) m
      ]

  pub keys_up_to : NumbersUpTo (map (key_of asked) log) greatest
  keys_up_to = up_to_by (key_of asked) log greatest (λ o x h. (key_stands o x h).1) up

  pub are_keys : AreKeys log (map (key_of asked) log)
  are_keys = record {
    stands = λ p x o e h. key_stands o x (sym (number_map (key_of asked) log p o e) ∙ h);
    all = λ p x o e h i. number_map (key_of asked) log p o e ∙ key_all o x p e h i;
  }

  pub are_tasks : AreTasks log (map (key_of asked) log) (map (task_of asked) log)
  are_tasks = record {
    task = λ p x o e h. number_map (task_of asked) log p o e
        ∙ ap (option_map (λ (_ : ℕ). o.who)) (sym (number_map (key_of asked) log p o e) ∙ h);
    key = λ p t h.
        let w = number_of (task_of asked) log p t h in
        let k = mapped_some (λ (_ : ℕ). w.0.who) (key_of asked w.0) t w.2 in
        (w.0, k.0, w.1, k.2, number_map (key_of asked) log p w.0 w.1 ∙ k.1);
  }

-- ---- sources
no_lack : (written : List Bool) (o : Op ℕ) → lacks_source written o ≡ false → IsSome o.ends → is_source written o.item ≡ true
no_lack written o h f = by (is_source written o.item) (sym (ap (λ b. b && not (is_source written o.item)) f) ∙ h)
  where
    by : (b : Bool) → (true && not b) ≡ false → b ≡ true
    by true e = refl
    by false e = cc

source_item : (written : List Bool) (item : Option ℕ) → is_source written item ≡ true →
    (x : ℕ) × (item ≡ Some x) × ((x ≡ 0) ⊎ (is_met written x ≡ true))
source_item written None h = cc
source_item written (Some x) h = by (nat_eq x 0) refl h
  where
    by : (b : Bool) → nat_eq x 0 ≡ b → (b || is_met written x) ≡ true →
        (y : ℕ) × (Some x ≡ Some y) × ((y ≡ 0) ⊎ (is_met written y ≡ true))
    by true t e = (x, refl, inl (grind (arith, nat_tests)))
    by false t e = (x, refl, inr e)

pub have_keys : (log : List (Op ℕ)) (keys : List (Option ℕ)) (written : List Bool) → AreKeys log keys → length keys ≡ length log →
    AreMet (map written_record log) (length (map written_record log)) written → HaveSources log written → HaveKnownRecords log keys
have_keys log keys written are long met sources = record {
  finished = λ p o e f.
      let s = source_item written o.item (no_lack written o (sources p o (slice_get_within log p o e) e) f) in
      (s.0, are.all p s.0 o e (inl f) s.1);
  source = λ p x h.
      let l : p < length log = let k = number_within keys p x h in omega arith in
      elim (slice_get_cases log p).1 [
        | inr w ↦ absurd (omega (arith, w.0))
        | inl w ↦ by p x w.0 w.2 h (are.stands p x w.0 w.2 h)
      ];
}
  where
    by : (p x : ℕ) (o : Op ℕ) → slice_get log p ≡ Some o → number_at keys p ≡ Some x → HasToStand Equal 0 log o × (o.item ≡ Some x) →
        (x ≡ 0) ⊎ ((w : ℕ) × (a : Op ℕ) × (slice_get log w ≡ Some a) × (is_write a.kind ≡ true) × (number_at keys w ≡ Some x))
    by p x o e h k = elim k.0 [
      | inr v ↦ inr (p, o, e, v.0, h)
      | inl f ↦
          let s = source_item written o.item (no_lack written o (sources p o (slice_get_within log p o e) e) f) in
          let q : s.0 ≡ x = same_Some s.0 x (sym s.1 ∙ k.1) in
          elim s.2 [
            | inl z ↦ inl (sym q ∙ z)
            | inr m ↦
                let P : ℕ → Type 0 = λ n. is_met written n ≡ true in
                let w = met_yes (map written_record log) (length (map written_record log)) written x met (subst P q m) in
                let a = number_of written_record log w.0 x w.2 in
                let t = written_has a.0 x a.2 in
                inr (w.0, a.0, a.1, t.0, are.all w.0 x a.0 a.1 (inr (t.0, p, o, e, f, one_from o a.0 x k.1 t.1)) t.1)
          ]
    ]

-- a finished operation whose record is neither the opening nor written
pub is_unwritten : (log : List (Op ℕ)) (written : List Bool) (greatest p : ℕ) (o : Op ℕ) → AreUpTo log greatest →
    length written ≡ greatest + 1 → AreMet (map written_record log) (length (map written_record log)) written →
    slice_get log p ≡ Some o → lacks_source written o ≡ true → IsUnwritten Equal 0 log p
is_unwritten log written greatest p o up long met e h =
    let parts = both (is_some o.ends) (is_source written o.item) h in
    record {
      op = o;
      at = e;
      finished = parts.0;
      opened = λ z.
          let t : is_source written o.item ≡ true = ap (is_source written) (opening_of o z) in
          let f = parts.1 in
          cc;
      written = λ w a ea ta one.
          let c = one_of o a one in
          let l : c.0 < length written = let k = up p c.0 o e c.1 in omega arith in
          let at : number_at (map written_record log) w ≡ Some c.0 =
          number_map written_record log w a ea ∙ written_is a ta ∙ c.2 in
          let k : w < length (map written_record log) = number_within (map written_record log) w c.0 at in
          let m : is_met written c.0 ≡ true =
          met_no (map written_record log) (length (map written_record log)) written c.0 w met l k at in
          let t : is_source written o.item ≡ true =
          ap (is_source written) c.1 ∙ ap (λ b. nat_eq c.0 0 || b) m ∙ or_true (nat_eq c.0 0) in
          let f = parts.1 in
          cc;
    }
  where
    both : (a b : Bool) → (a && not b) ≡ true → (a ≡ true) × (b ≡ false)
    both true true h = cc
    both true false h = (refl, refl)
    both false b h = cc

    or_true : (b : Bool) → (b || true) ≡ true
    or_true true = refl
    or_true false = refl
