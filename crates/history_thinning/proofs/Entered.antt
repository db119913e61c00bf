-- One more operation of a log is entered, or is refused for the fault that a search of the log up to it would tell.
use Rattle.std.proofs.Common.{◌≡◌, ℕ, ◌+◌, ◌<◌, ◌≤◌, Bool, true, false, List, [], ◌∷◌, ◌++◌, length, set, slice_get, Option, None, Some}
use Rattle.std.proofs.Common.{refl, sym, ◌∙◌, ap, subst, inl, inr, arith}
use Rattle.std.specs.Prelude.{IfSome, is_some, IsSomeAnd, ◌||◌, nat_eq, if◌then◌else◌}
use Rattle.std.specs.Option.{option_and_then, option_map}
use Rattle.std.proofs.lemmas.Bool.{cases_eq}
use Rattle.std.proofs.lemmas.Bool.Decides.{nat_tests}
use Rattle.std.proofs.lemmas.Option.{same_Some, slice_get_within}
use Rattle.history_core.specs.declared.history.Op.{Op}
use Rattle.history_core.specs.declared.history.Kind.{Kind}
use Rattle.history_core.specs.declared.history.Kind.TheVariants.{Write, Read, Refused}
use Rattle.history_core.specs.Orders.{is_write}
use Rattle.history_core.proofs.Listed.{some_and_from, some_and_of}
use Rattle.history_core.proofs.Places.{get_before, get_last, get_pushed_cases, get_set_other, get_set_same, get_stays}
use Rattle.history_core.specs.Reasons.{counts, IsOfOpening}
use Rattle.history_core.specs.Searches.{AreForwards, IsOpeningWrite, IsWrittenTwice, WritesOnce}
use Rattle.history_core.specs.declared.reason.SearchError.{SearchError}
use Rattle.history_core.specs.declared.reason.SearchError.TheVariants.{Backwards, WritesOpening, WritesTwice}
use Rattle.history_core.proofs.Atomic.{of_one, of_opening, shares}
use Rattle.history_thinning.specs.declared.group.Placed.{Placed}
use Rattle.history_thinning.specs.Answers.{IsThinnedFault}
use Rattle.history_thinning.specs.Thinnings.{Equal}
use Rattle.history_thinning.specs.inner.Entering.{entry_fault, Grows, is_backwards, write_fault, write_place, written_number}
use Rattle.history_thinning.specs.inner.Kept.{AreKept, empty_group, Group, IsGroup, IsStoodFor, joined_group, StandsFor}
use Rattle.history_thinning.proofs.Joined.{group_stays, joined_is, stands_new, stands_still}

backwards_is : (starts : ℕ) (ends : Option ℕ) → is_backwards starts ends ≡ true → IsSomeAnd ends (λ end. end < starts)
backwards_is starts None h = cc
backwards_is starts (Some end) h = grind (arith, nat_tests)

forwards_is : (starts : ℕ) (ends : Option ℕ) → is_backwards starts ends ≡ false → IfSome ends (λ end. starts ≤ end)
forwards_is starts None h = tt
forwards_is starts (Some end) h = grind (arith, nat_tests)

number_of_write : (kind : Kind) (item : Option ℕ) (number : ℕ) → is_write kind ≡ true → item ≡ Some number →
    written_number kind item ≡ Some number
number_of_write Write item number t e = e
number_of_write Read item number t e = cc
number_of_write Refused item number t e = cc

write_of_number : (kind : Kind) (item : Option ℕ) (number : ℕ) → written_number kind item ≡ Some number →
    (is_write kind ≡ true) × (item ≡ Some number)
write_of_number Write item number e = (refl, e)
write_of_number Read item number e = cc
write_of_number Refused item number e = cc

pub counts_write : (ends : Option ℕ) (kind : Kind) → is_write kind ≡ true → (is_some ends || is_write kind) ≡ true
counts_write None kind t = t
counts_write (Some end) kind t = refl

same_number : (number : ℕ) → nat_eq number number ≡ true
same_number number = grind (arith, nat_tests)

is_nought : (number : ℕ) → nat_eq number 0 ≡ true → number ≡ 0
is_nought number h = grind (arith, nat_tests)

place_of_write : (groups : List Group) (number : ℕ) (group : Group) (m : Placed) → slice_get groups number ≡ Some group →
    group.write ≡ Some m → write_place groups number ≡ Some m.place
place_of_write groups number group m e w =
    ap (option_and_then (λ (g : Group). option_map (λ (x : Placed). x.place) g.write)) e ∙ ap (option_map (λ (x : Placed). x.place)) w

written_group : (write : Option Placed) (place : ℕ) → option_map (λ (x : Placed). x.place) write ≡ Some place →
    (m : Placed) × (write ≡ Some m) × (m.place ≡ place)
written_group None place h = cc
written_group (Some m) place h = (m, refl, same_Some m.place place h)

write_at_place : (groups : List Group) (number : ℕ) (found : Option Group) (place : ℕ) → slice_get groups number ≡ found →
    option_and_then (λ (g : Group). option_map (λ (x : Placed). x.place) g.write) found ≡ Some place →
    (group : Group) × (m : Placed) × (slice_get groups number ≡ Some group) × (group.write ≡ Some m) × (m.place ≡ place)
write_at_place groups number None place f h = cc
write_at_place groups number (Some group) place f h = let w = written_group group.write place h in (group, w.0, f, w.1, w.2)

module _ (log : List (Op ℕ)) (op : Op ℕ) where
  forwards_below : ((n : ℕ) → AreForwards log n) → AreForwards (log ++ op ∷ []) (length log)
  forwards_below old p o l e = old (length log) p o l (sym (get_before log (op ∷ []) p l) ∙ e)

  pub forwards_more : ((n : ℕ) → AreForwards log n) → is_backwards op.starts op.ends ≡ false → (n : ℕ) → AreForwards (log ++ op ∷ []) n
  forwards_more old f n p o l e = elim (get_pushed_cases log op p o e) [
    | inl h ↦ old (p + 1) p o (omega arith) h
    | inr s ↦ let P : Op ℕ → Type 0 = λ z. IfSome z.ends (λ end. z.starts ≤ end) in subst P s.1 (forwards_is op.starts op.ends f)
  ]

  fresh_below : ((n : ℕ) → WritesOnce Equal 0 log n) → (p : ℕ) → p < length log → IsOpeningWrite Equal 0 (log ++ op ∷ []) p → ⊥
  fresh_below once p l bad =
      let P : Option (Op ℕ) → Type 0 = λ z. IsSomeAnd z (λ (o : Op ℕ). (is_write o.kind ≡ true) × IsOfOpening Equal 0 o) in
      (once (length log)).fresh p l (subst P (get_before log (op ∷ []) p l) bad)

  twice_below : ((n : ℕ) → WritesOnce Equal 0 log n) → (p q : ℕ) → q < length log → IsWrittenTwice Equal (log ++ op ∷ []) p q → ⊥
  twice_below once p q l bad =
      let less : p < q = bad.less in
      (once (length log)).once p q l (record {
        earlier = bad.earlier;
        later = bad.later;
        first_at = sym (get_before log (op ∷ []) p (omega arith)) ∙ bad.first_at;
        second_at = sym (get_before log (op ∷ []) q l) ∙ bad.second_at;
        first_writes = bad.first_writes;
        second_writes = bad.second_writes;
        one = bad.one;
        less = bad.less;
      })

  once_below : ((n : ℕ) → WritesOnce Equal 0 log n) → WritesOnce Equal 0 (log ++ op ∷ []) (length log)
  once_below once = record { fresh = fresh_below once; once = twice_below once }

  module _ (groups : List Group) (kept : AreKept log groups) where
    -- the write of a record is kept
    kept_write : (p : ℕ) (o : Op ℕ) (number : ℕ) → slice_get log p ≡ Some o → is_write o.kind ≡ true → o.item ≡ Some number →
        write_place groups number ≡ Some p
    kept_write p o number e t i =
        let s = kept.all p o e (counts_write o.ends o.kind t) in
        let w = s.stands.write t in
        let same : s.number ≡ number = same_Some s.number number (sym s.item ∙ i) in
        subst (λ n. write_place groups n ≡ Some p) same (place_of_write groups s.number s.group w.0 s.at w.1 ∙ ap Some w.2)

    -- a write whose record is new
    abbrev IsNew : Type 0
    IsNew = (number : ℕ) → written_number op.kind op.item ≡ Some number → write_fault groups number (length log) ≡ None

    new_number : IsNew → (number : ℕ) → is_write op.kind ≡ true → op.item ≡ Some number →
        (nat_eq number 0 ≡ false) × (write_place groups number ≡ None)
    new_number fine number t i = by (nat_eq number 0) (write_place groups number) (fine number (number_of_write op.kind op.item number t i))
      where
        by : (b : Bool) (place : Option ℕ) →
            (if b then Some (WritesOpening (length log)) else option_map (λ first. WritesTwice first (length log)) place) ≡ None →
            (b ≡ false) × (place ≡ None)
        by true place h = cc
        by false None h = (refl, refl)
        by false (Some place) h = cc

    once_more : IsNew → (n : ℕ) → WritesOnce Equal 0 (log ++ op ∷ []) n
    once_more fine n = record {
      fresh = λ p l bad.
          let x = some_and_of (λ (o : Op ℕ). (is_write o.kind ≡ true) × IsOfOpening Equal 0 o) (slice_get (log ++ op ∷ []) p) bad in
          elim (get_pushed_cases log op p x.0 x.1) [
            | inl h ↦ fresh_below kept.once p (slice_get_within log p x.0 h) bad
            | inr s ↦
                let i = some_and_of (λ z. Equal z 0) x.0.item x.2.1 in
                let item : op.item ≡ Some 0 = ap (λ (o : Op ℕ). o.item) s.1 ∙ i.1 ∙ ap Some i.2 in
                let w = new_number fine 0 (ap (λ (o : Op ℕ). is_write o.kind) s.1 ∙ x.2.0) item in
                let t : nat_eq 0 0 ≡ true = same_number 0 in
                let f = w.0 in
                cc
          ];
      once = λ p q l bad. elim (get_pushed_cases log op q bad.later bad.second_at) [
        | inl h ↦ twice_below kept.once p q (slice_get_within log q bad.later h) bad
        | inr s ↦
            let less : p < q = bad.less in
            let i = shares Equal bad.later bad.earlier bad.one in
            let at : slice_get log p ≡ Some bad.earlier =
            sym (get_before log (op ∷ []) p (let e : q ≡ length log = s.0 in omega arith)) ∙ bad.first_at in
            let item : op.item ≡ Some i.x = ap (λ (o : Op ℕ). o.item) s.1 ∙ i.has_x in
            let w = new_number fine i.x (ap (λ (o : Op ℕ). is_write o.kind) s.1 ∙ bad.second_writes) item in
            let known : write_place groups i.x ≡ Some p =
            kept_write p bad.earlier i.x at bad.first_writes (i.has_y ∙ ap Some (sym i.same)) in
            let none = w.1 in
            cc
      ];
    }

    -- what the test of an operation says, where it finds nothing
    pub entry_fine : entry_fault groups op (length log) ≡ None → (is_backwards op.starts op.ends ≡ false) × IsNew
    entry_fine h = by (is_backwards op.starts op.ends) h
      where
        fine : (written : Option ℕ) → option_and_then (λ number. write_fault groups number (length log)) written ≡ None → (number : ℕ) →
            written ≡ Some number → write_fault groups number (length log) ≡ None
        fine None e number w = cc
        fine (Some x) e number w = subst (λ z. write_fault groups z (length log) ≡ None) (same_Some x number w) e

        by : (b : Bool) → (if b then Some (Backwards (length log))
            else option_and_then (λ number. write_fault groups number (length log)) (written_number op.kind op.item)) ≡ None →
            (b ≡ false) × IsNew
        by true e = cc
        by false e = (refl, fine (written_number op.kind op.item) e)

    -- an operation that doesn't count changes nothing
    pub skipped : entry_fault groups op (length log) ≡ None → counts op ≡ false → AreKept (log ++ op ∷ []) groups
    skipped none uncounted =
        let fine = entry_fine none in
        record {
          each = λ number group e. group_stays log op number group (kept.each number group e);
          all = λ p o e c. elim (get_pushed_cases log op p o e) [
            | inl h ↦ kept.all p o h c
            | inr s ↦ let t : counts op ≡ true = ap (λ (z : Op ℕ). counts z) s.1 ∙ c in cc
          ];
          forwards = forwards_more kept.forwards fine.0;
          once = once_more fine.1;
        }

    unwritten : IsNew → (number : ℕ) (group : Group) (write : Option Placed) → op.item ≡ Some number → slice_get groups number ≡ Some
        group →
        group.write ≡ write → is_write op.kind ≡ true → group.write ≡ None
    unwritten fine number group None i e w t = w
    unwritten fine number group (Some m) i e w t =
        let none = (new_number fine number t i).1 in
        let known : write_place groups number ≡ Some m.place = place_of_write groups number group m e w in
        cc

    -- empty groups more keep as much
    module _ (grown : List Group) (grows : Grows empty_group groups grown) where
      empty_is : (number : ℕ) (group : Group) → group ≡ empty_group → IsGroup log number group
      empty_is number group e =
          let none : IsGroup log number empty_group = record {
            write = λ m h. cc;
            first = λ m h. cc;
            last = λ m h. cc;
            refused = λ m h. cc;
          } in
          subst (λ g. IsGroup log number g) (sym e) none

      pub kept_grown : AreKept log grown
      kept_grown = record {
        each = λ number group e. elim (grows.from number group e) [
          | inl h ↦ kept.each number group h
          | inr s ↦ empty_is number group s
        ];
        all = λ p o e c.
            let s = kept.all p o e c in
            record { number = s.number; group = s.group; item = s.item; at = grows.stays s.number s.group s.at; stands = s.stands };
        forwards = kept.forwards;
        once = kept.once;
      }

      grown_unwritten : IsNew → (number : ℕ) (group : Group) → op.item ≡ Some number → slice_get grown number ≡ Some group →
          is_write op.kind ≡ true → group.write ≡ None
      grown_unwritten fine number group i e t = elim (grows.from number group e) [
        | inl h ↦ unwritten fine number group group.write i h refl t
        | inr s ↦ ap (λ (g : Group). g.write) s
      ]

      -- an operation that counts joins its group
      pub entered : entry_fault groups op (length log) ≡ None → (number : ℕ) (group : Group) → op.item ≡ Some number → counts op ≡ true →
          slice_get grown number ≡ Some group →
          AreKept (log ++ op ∷ []) (set grown number (joined_group group (record { op = op; place = length log })))
      entered none number group item counted at =
          let fine = entry_fine none in
          let old = kept_grown in
          let new : Group = joined_group group (record { op = op; place = length log }) in
          let there : slice_get (set grown number new) number ≡ Some new = get_set_same grown number group new at in
          record {
            each = λ k g e. elim (cases_eq k number) [
              | inl s ↦
                  let g_is : new ≡ g = same_Some new g (sym there ∙ ap (slice_get (set grown number new)) (sym s) ∙ e) in
                  let P : ℕ → Group → Type 0 = λ n z. IsGroup (log ++ op ∷ []) n z in
                  subst (λ z. P k z) g_is (subst (λ n. P n new) (sym s) (joined_is log op number item counted group (old.each number
                  group at)))
              | inr ne ↦ group_stays log op k g (old.each k g (sym (get_set_other grown number k new ne) ∙ e))
            ];
            all = λ p o e c. elim (get_pushed_cases log op p o e) [
              | inl h ↦
                  let s = old.all p o h c in
                  elim (cases_eq s.number number) [
                    | inl same ↦
                        let g_is : s.group ≡ group = same_Some s.group group (sym s.at ∙ ap (slice_get grown) same ∙ at) in
                        record {
                          number = number;
                          group = new;
                          item = s.item ∙ ap Some same;
                          at = there;
                          stands = stands_still log op group p o (grown_unwritten fine.1 number group item at)
                              (let P : Group → Type 0 = λ z. StandsFor z p o in subst P g_is s.stands);
                        }
                    | inr ne ↦ record {
                      number = s.number;
                      group = s.group;
                      item = s.item;
                      at = get_set_other grown number s.number new ne ∙ s.at;
                      stands = s.stands;
                    }
                  ]
              | inr s ↦
                  let P : ℕ → Op ℕ → Type 0 = λ n z. IsStoodFor (set grown number new) n z in
                  subst (λ n. P n o) (sym s.0) (subst (λ z. P (length log) z) s.1 (record {
                    number = number;
                    group = new;
                    item = item;
                    at = there;
                    stands = stands_new log op group;
                  }))
            ];
            forwards = forwards_more kept.forwards fine.0;
            once = once_more fine.1;
          }

    -- the fault of an operation is that of the log up to it
    pub faulted : (error : SearchError) → entry_fault groups op (length log) ≡ Some error → IsThinnedFault (log ++ op ∷ []) error
    faulted error h = by (is_backwards op.starts op.ends) refl h
      where
        here : slice_get (log ++ op ∷ []) (length log) ≡ Some op
        here = get_last log op (length log) refl

        backwards : is_backwards op.starts op.ends ≡ true → IsThinnedFault (log ++ op ∷ []) (Backwards (length log))
        backwards t limit = (
          some_and_from (λ (o : Op ℕ). IsSomeAnd o.ends (λ end. end < o.starts)) (slice_get (log ++ op ∷ []) (length log)) op here
              (backwards_is op.starts op.ends t),
          forwards_below kept.forwards,
        )

        opening : is_backwards op.starts op.ends ≡ false → (number : ℕ) → is_write op.kind ≡ true → op.item ≡ Some number →
            nat_eq number 0 ≡ true → IsThinnedFault (log ++ op ∷ []) (WritesOpening (length log))
        opening f number t i z limit = (
          some_and_from (λ (o : Op ℕ). (is_write o.kind ≡ true) × IsOfOpening Equal 0 o) (slice_get (log ++ op ∷ []) (length log)) op here
              (t, of_opening Equal 0 op number i (is_nought number z)),
          once_below kept.once,
          forwards_more kept.forwards f,
        )

        twice : is_backwards op.starts op.ends ≡ false → (number : ℕ) → is_write op.kind ≡ true → op.item ≡ Some number → (first : ℕ) →
            write_place groups number ≡ Some first → IsThinnedFault (log ++ op ∷ []) (WritesTwice first (length log))
        twice f number t i first e limit =
            let w = write_at_place groups number (slice_get groups number) first refl e in
            let k = (kept.each number w.0 w.2).write w.1 w.3 in
            let old : slice_get log first ≡ Some w.1.op = ap (slice_get log) (sym w.4) ∙ k.0.at in (
              record {
                earlier = w.1.op;
                later = op;
                first_at = get_stays log w.1.op op first old;
                second_at = here;
                first_writes = k.1;
                second_writes = t;
                one = of_one Equal op w.1.op number number i k.0.item refl;
                less = slice_get_within log first w.1.op old;
              },
              once_below kept.once,
              forwards_more kept.forwards f,
            )

        written : is_backwards op.starts op.ends ≡ false → (number : ℕ) → is_write op.kind ≡ true → op.item ≡ Some number → (b : Bool) →
            nat_eq number 0 ≡ b → (place : Option ℕ) → write_place groups number ≡ place →
            (if b then Some (WritesOpening (length log)) else option_map (λ first. WritesTwice first (length log)) place) ≡ Some error →
            IsThinnedFault (log ++ op ∷ []) error
        written f number t i true z place w e =
            subst (λ r. IsThinnedFault (log ++ op ∷ []) r) (same_Some (WritesOpening (length log)) error e) (opening f number t i z)
        written f number t i false z None w e = cc
        written f number t i false z (Some first) w e =
            subst (λ r. IsThinnedFault (log ++ op ∷ []) r) (same_Some (WritesTwice first (length log)) error e) (twice f number t i first w)

        writes : is_backwards op.starts op.ends ≡ false → (number : Option ℕ) → written_number op.kind op.item ≡ number →
            option_and_then (λ n. write_fault groups n (length log)) number ≡ Some error → IsThinnedFault (log ++ op ∷ []) error
        writes f None w e = cc
        writes f (Some number) w e =
            let k = write_of_number op.kind op.item number w in
            written f number k.0 k.1 (nat_eq number 0) refl (write_place groups number) refl e

        by : (b : Bool) → is_backwards op.starts op.ends ≡ b → (if b then Some (Backwards (length log))
            else option_and_then (λ n. write_fault groups n (length log)) (written_number op.kind op.item)) ≡ Some error →
            IsThinnedFault (log ++ op ∷ []) error
        by true t e = subst (λ r. IsThinnedFault (log ++ op ∷ []) r) (same_Some (Backwards (length log)) error e) (backwards t)
        by false f e = writes f (written_number op.kind op.item) refl e
