-- The operations of a schedule, read off its steps: one more step begins an operation, ends one, or neither, by its number on
-- its side; and no position changes that was there.
use Rattle.std.proofs.Common.{◌≡◌, ◌≢◌, ℕ, ◌+◌, ◌-◌, ◌*◌, ◌/◌, ◌%◌, ◌<◌, ◌≤◌, true, false, nat_eq, List, [], ◌∷◌, ◌++◌, length, map, take}
use Rattle.std.proofs.Common.{get_or, slice_get, Some, inl, inr, refl, sym, subst, ◌∙◌, ap, arith, append-nil}
use Rattle.std.specs.Prelude.{if◌then◌else◌, ◌&&◌}
use Rattle.std.specs.Option.{option_map}
use Rattle.std.proofs.lemmas.Bool.{cases_Bool, cases_eq}
use Rattle.std.proofs.lemmas.Bool.Decides.{nat_tests}
use Rattle.std.proofs.lemmas.List.{map-append, take_more, take-map, length_push, length-map, length-take-le}
use Rattle.std.proofs.lemmas.List.Sums.{count_by-le-length}
use Rattle.std.proofs.lemmas.Option.{slice_get_within, slice_get-get_or, slice_get-map}
use Rattle.history_core.specs.Schedules.{positions, steps_of, Overruns}
use Rattle.history_core.proofs.Places.{get_pushed, get_last, get_stays, get_pushed_cases}
use Rattle.history_core.proofs.Positions.{steps_mine, steps_other, position_below, position_new, position_same, position_stays}
use Rattle.history_core.proofs.Positions.{position_cases}
use Rattle.four_slot_core.specs.declared.schedule.Turn.{Turn}
use Rattle.four_slot_core.specs.declared.schedule.Turn.TheVariants.{Writer, Reader}
use Rattle.four_slot_play.specs.declared.player.steps.Made.{Made}
use Rattle.four_slot_play.specs.declared.player.steps.Started.{Started}
use Rattle.history_core.proofs.Overruns.{has_left, has_none_left}
use Rattle.four_slot_core.specs.Play.{actor, span_of}
use Rattle.four_slot_play.specs.inner.Parts.{plan_of, made_by, counted, started, begun_by, IsPartsOf, noted, makes, IsAccessesOf}
use Rattle.four_slot_play.specs.inner.Parts.{IsOperationsOf}
use Rattle.four_slot_core.proofs.events.Keeping.{and_parts}

-- the actors of the first steps
abbrev pub actors : ℕ → List Turn → List ℕ
actors n steps = map actor (take n steps)

pub actors_more : (n : ℕ) (steps : List Turn) (t : Turn) → n < length steps → t ≡ get_or steps n t →
    actors (n + 1) steps ≡ actors n steps ++ actor t ∷ []
actors_more n steps t l e = ap (map actor) (take_more steps n t l) ∙ map-append actor (take n steps) (get_or steps n t ∷ [])
    ∙ ap (λ u. actors n steps ++ actor u ∷ []) (sym e)

-- how many steps each side has made
pub record IsMade (done : List ℕ) (made : Made) : Type 0 where
  pub writer : made.writer ≡ steps_of 0 done
  pub reader : made.reader ≡ steps_of 1 done

pub made_more : (done : List ℕ) (made : Made) (t : Turn) → IsMade done made → IsMade (done ++ actor t ∷ []) (counted t made)
made_more done made Writer h = record {
  writer = let e = h.writer in omega (arith, steps_mine 0 done);
  reader = h.reader ∙ sym (steps_other 1 0 done (λ e. cc));
}
made_more done made Reader h = record {
  writer = h.writer ∙ sym (steps_other 0 1 done (λ e. cc));
  reader = let e = h.reader in omega (arith, steps_mine 1 done);
}

pub made_is : (done : List ℕ) (made : Made) (t : Turn) → IsMade done made → made_by t made ≡ steps_of (actor t) done
made_is done made Writer h = h.writer
made_is done made Reader h = h.reader

pub few_steps : (who : ℕ) (done : List ℕ) → steps_of who done ≤ length done
few_steps who done = count_by-le-length (λ s. nat_eq s who) done

pub same_actor : (a b : Turn) → actor a ≡ actor b → a ≡ b
same_actor Writer Writer e = refl
same_actor Writer Reader e = cc
same_actor Reader Writer e = cc
same_actor Reader Reader e = refl

-- the step that begins an operation
part_begun : (done : List ℕ) (parts : List Started) (t : Turn) (c : ℕ) → c ≡ steps_of (actor t) done → c % 5 ≡ 0 → IsPartsOf done parts →
    IsPartsOf (done ++ actor t ∷ []) (parts ++ started t (c / 5) (length done) ∷ [])
part_begun done parts t c count first h = record {
  each = λ p part at. elim (get_pushed_cases parts new p part at) [
    | inl old ↦ position_stays 0 (actor part.turn) (actor t) done (part.number * 5 + 0) part.starts (h.each p part old)
    | inr w ↦ subst (λ (z : Started). slice_get (positions 0 (actor z.turn) (done ++ actor t ∷ [])) (z.number * 5 + 0) ≡ Some z.starts) w.1
        (position_new 0 (actor t) done (c / 5 * 5 + 0) (omega arith) ∙ ap Some (omega arith))
  ];
  all = λ turn k begin at. elim (position_cases 0 (actor turn) (actor t) done (k * 5 + 0) begin at) [
    | inl old ↦ let w = h.all turn k begin old in (w.0, get_stays parts (started turn k begin) new w.0 w.1)
    | inr w ↦
        let turn_is : t ≡ turn = same_actor t turn w.0 in
        let number_is : c / 5 ≡ k =
        let e : steps_of (actor turn) done ≡ steps_of (actor t) done = ap (λ u. steps_of (actor u) done) (sym turn_is) in
        omega (arith, w.1) in
        let begin_is : length done ≡ begin = omega (arith, w.2) in (
          length parts,
          get_last parts new (length parts) refl ∙ ap (λ u. Some (started u (c / 5) (length done))) turn_is
              ∙ ap (λ n. Some (started turn n (length done))) number_is ∙ ap (λ n. Some (started turn k n)) begin_is,
        )
  ];
  rising = λ p q a b pa qb lt. elim (get_pushed_cases parts new q b qb) [
    | inl oldb ↦ elim (get_pushed_cases parts new p a pa) [
      | inl olda ↦ h.rising p q a b olda oldb lt
      | inr w ↦ absurd (omega (arith, w.0, slice_get_within parts q b oldb))
    ]
    | inr v ↦ elim (get_pushed_cases parts new p a pa) [
      | inl olda ↦
          let below = position_below 0 (actor a.turn) done (a.number * 5 + 0) a.starts (h.each p a olda) in
          let is : length done ≡ b.starts = ap (λ (z : Started). z.starts) v.1 in
          omega arith
      | inr w ↦ absurd (omega (arith, w.0, v.0))
    ]
  ];
}
  where
    new : Started
    new = started t (c / 5) (length done)

-- one that begins none
part_goes_on : (done : List ℕ) (parts : List Started) (t : Turn) (c : ℕ) → c ≡ steps_of (actor t) done → c % 5 ≢ 0 → IsPartsOf done parts →
    IsPartsOf (done ++ actor t ∷ []) parts
part_goes_on done parts t c count later h = record {
  each = λ p part at. position_stays 0 (actor part.turn) (actor t) done (part.number * 5 + 0) part.starts (h.each p part at);
  all = λ turn k begin at. elim (position_cases 0 (actor turn) (actor t) done (k * 5 + 0) begin at) [
    | inl old ↦ h.all turn k begin old
    | inr w ↦ absurd (later (let e : steps_of (actor turn) done ≡ steps_of (actor t) done = ap (λ u. steps_of u done) (sym w.0) in
        omega (arith, w.1)))
  ];
  rising = h.rising;
}

pub parts_more : (done : List ℕ) (parts : List Started) (t : Turn) (c n : ℕ) → c ≡ steps_of (actor t) done → n ≡ length done →
    IsPartsOf done parts → IsPartsOf (done ++ actor t ∷ []) (parts ++ begun_by t c n)
parts_more done parts t c n count now h = elim (cases_eq (c % 5) 0) [
  | inl first ↦
      let b : nat_eq (c % 5) 0 ≡ true = grind (arith, nat_tests) in
      let is : begun_by t c n ≡ started t (c / 5) (length done) ∷ [] =
      ap (λ v. if v then started t (c / 5) n ∷ [] else []) b ∙ ap (λ m. started t (c / 5) m ∷ []) now in
      subst (λ more. IsPartsOf (done ++ actor t ∷ []) (parts ++ more)) (sym is) (part_begun done parts t c count first h)
  | inr later ↦
      let b : nat_eq (c % 5) 0 ≡ false = grind (arith, nat_tests) in
      let is : parts ++ begun_by t c n ≡ parts = ap (λ v. parts ++ (if v then started t (c / 5) n ∷ [] else [])) b ∙ append-nil parts in
      subst (λ all. IsPartsOf (done ++ actor t ∷ []) all) (sym is) (part_goes_on done parts t c count later h)
]

pub no_parts : IsPartsOf [] []
no_parts = record { each = λ p part h. cc; all = λ turn k begin h. cc; rising = λ p q a b h. cc }

-- the step that makes this access
access_made : (who access : ℕ) (done all : List ℕ) → steps_of who done % 5 ≡ access → IsAccessesOf who access done all →
    IsAccessesOf who access (done ++ who ∷ []) (all ++ length done ∷ [])
access_made who access done all here h = record {
  each = λ k. elim (cases_eq k (length all)) [
    | inl e ↦
        let n : k * 5 + access ≡ steps_of who done = let l = h.long in let r = h.last in omega arith in
        get_last all (length done) k e ∙ sym (position_new 0 who done (k * 5 + access) n ∙ ap Some (omega arith))
    | inr ne ↦
        get_pushed all (length done) k ne ∙ h.each k ∙ sym (position_same 0 who who done (k * 5 + access) (λ _ e. ne (let l = h.long in
        let r = h.last in
        omega arith)))
  ];
  rest = h.rest;
  last = h.last;
  long = let l = h.long in let r = h.last in omega (arith, length_push all (length done), steps_mine who done);
}

-- one that doesn't
access_stays : (who access s : ℕ) (done all : List ℕ) → (s ≡ who → steps_of who done % 5 ≢ access) → IsAccessesOf who access done all →
    IsAccessesOf who access (done ++ s ∷ []) all
access_stays who access s done all ne h = record {
  each = λ k. h.each k ∙ sym (position_same 0 who s done (k * 5 + access) (λ e m. ne e (let r = h.last in omega arith)));
  rest = h.rest;
  last = h.last;
  long = elim (cases_eq s who) [
    | inl e ↦
        let n : steps_of who done % 5 ≢ access = ne e in
        let more : steps_of who (done ++ s ∷ []) ≡ steps_of who done + 1 =
        ap (λ u. steps_of who (done ++ u ∷ [])) e ∙ steps_mine who done in
        let l = h.long in
        let r = h.last in
        omega arith
    | inr d ↦ h.long ∙ ap (λ n. (n + h.rest) / 5) (sym (steps_other who s done d))
  ];
}

-- a step makes an access or not
makes_true : (turn : Turn) (c : ℕ) (side : Turn) (access : ℕ) → makes turn c side access ≡ true →
    (actor turn ≡ actor side) × (c % 5 ≡ access)
makes_true turn c side access h =
    let w = and_parts (nat_eq (actor turn) (actor side)) (nat_eq (c % 5) access) h in
    let same : actor turn ≡ actor side = let t = w.0 in grind (arith, nat_tests) in
    let here : c % 5 ≡ access = let t = w.1 in grind (arith, nat_tests) in
    (same, here)

makes_false : (turn : Turn) (c : ℕ) (side : Turn) (access : ℕ) → makes turn c side access ≡ false → actor turn ≡ actor side → c % 5 ≢ access
makes_false turn c side access h same here =
    let s : nat_eq (actor turn) (actor side) ≡ true = grind (arith, nat_tests) in
    let t : nat_eq (c % 5) access ≡ true = grind (arith, nat_tests) in
    let yes_it_does : makes turn c side access ≡ true = ap (λ b. b && nat_eq (c % 5) access) s ∙ t in
    cc

pub accesses_more : (turn side : Turn) (access : ℕ) (done all : List ℕ) (c n : ℕ) → c ≡ steps_of (actor turn) done → n ≡ length done →
    IsAccessesOf (actor side) access done all →
    IsAccessesOf (actor side) access (done ++ actor turn ∷ []) (all ++ noted (makes turn c side access) n)
accesses_more turn side access done all c n count now h = elim (cases_Bool (makes turn c side access)) [
  | inl t ↦
      let w = makes_true turn c side access t in
      let mine : steps_of (actor side) done ≡ c = sym (count ∙ ap (λ u. steps_of u done) w.0) in
      let made : IsAccessesOf (actor side) access (done ++ actor side ∷ []) (all ++ length done ∷ []) =
      access_made (actor side) access done all (ap (λ m. m % 5) mine ∙ w.1) h in
      let is : noted (makes turn c side access) n ≡ length done ∷ [] = ap (λ b. noted b n) t ∙ ap (λ m. m ∷ []) now in
      subst (λ more. IsAccessesOf (actor side) access (done ++ actor turn ∷ []) (all ++ more)) (sym is)
      (subst (λ u. IsAccessesOf (actor side) access (done ++ u ∷ []) (all ++ length done ∷ [])) (sym w.0) made)
  | inr f ↦
      let stays : IsAccessesOf (actor side) access (done ++ actor turn ∷ []) all = access_stays (actor side) access (actor turn) done all
      (λ e m. makes_false turn c side access f e (ap (λ k. k % 5) (count ∙ ap (λ u. steps_of u done) e) ∙ m)) h in
      let is : all ++ noted (makes turn c side access) n ≡ all = ap (λ b. all ++ noted b n) f ∙ append-nil all in
      subst (λ list. IsAccessesOf (actor side) access (done ++ actor turn ∷ []) list) (sym is) stays
]

pub no_accesses : (who access : ℕ) → access < 5 → IsAccessesOf who access [] []
no_accesses who access l = record {
  each = λ k. refl;
  rest = 4 - access;
  last = omega arith;
  long =
      let z : (0 + (4 - access)) / 5 ≡ 0 = omega arith in
      sym z;
}

-- what one more step says
pub operations_more : (turn : Turn) (done : List ℕ) (parts : List Started) (writer_ends reader_ends stores : List ℕ) (c n : ℕ) →
    c ≡ steps_of (actor turn) done → n ≡ length done → IsOperationsOf done parts writer_ends reader_ends stores →
    IsOperationsOf (done ++ actor turn ∷ []) (parts ++ begun_by turn c n) (writer_ends ++ noted (makes turn c Writer 4) n)
    (reader_ends ++ noted (makes turn c Reader 4) n) (stores ++ noted (makes turn c Writer 3) n)
operations_more turn done parts writer_ends reader_ends stores c n count now h = record {
  are_parts = parts_more done parts turn c n count now h.are_parts;
  are_writer_ends = accesses_more turn Writer 4 done writer_ends c n count now h.are_writer_ends;
  are_reader_ends = accesses_more turn Reader 4 done reader_ends c n count now h.are_reader_ends;
  are_stores = accesses_more turn Writer 3 done stores c n count now h.are_stores;
}

pub no_operations : IsOperationsOf [] [] [] [] []
no_operations = record {
  are_parts = no_parts;
  are_writer_ends = no_accesses 0 4 (omega arith);
  are_reader_ends = no_accesses 1 4 (omega arith);
  are_stores = no_accesses 0 3 (omega arith);
}

-- the number of positions before one
pub actors_long : (n : ℕ) (steps : List Turn) → n ≤ length steps → length (actors n steps) ≡ n
actors_long n steps le = length-map (take n steps) actor ∙ length-take-le n steps le

pub actor_at : (steps : List Turn) (n : ℕ) (t : Turn) → n < length steps → t ≡ get_or steps n t →
    slice_get (map actor steps) n ≡ Some (actor t)
actor_at steps n t l e = slice_get-map actor steps n ∙ ap (option_map actor) (slice_get-get_or steps n t l ∙ ap Some (sym e))

plan_at : {R : Type 0} (t : Turn) (steps : List Turn) (writes : List R) (reads : ℕ) →
    slice_get (span_of steps writes reads).plans (actor t) ≡ Some (plan_of t writes reads)
plan_at Writer steps writes reads = refl
plan_at Reader steps writes reads = refl

-- a step of a side that has made so many has no operation left, or has one
pub overruns_at : {R : Type 0} (steps : List Turn) (writes : List R) (reads n : ℕ) (t : Turn) → n < length steps → t ≡ get_or steps n t →
    length (plan_of t writes reads) ≤ steps_of (actor t) (actors n steps) / 5 → Overruns (span_of steps writes reads) n
overruns_at steps writes reads n t l e none =
    let before : steps_of (actor t) (take n (map actor steps)) ≡ steps_of (actor t) (actors n steps) =
    ap (steps_of (actor t)) (take-map actor n steps) in
    has_none_left (span_of steps writes reads) n (actor t) (plan_of t writes reads) (omega arith) (actor_at steps n t l e)
    (plan_at t steps writes reads) (omega arith)

pub left_at : {R : Type 0} (steps : List Turn) (writes : List R) (reads n : ℕ) (t : Turn) → n < length steps → t ≡ get_or steps n t →
    steps_of (actor t) (actors n steps) / 5 < length (plan_of t writes reads) → ¬ Overruns (span_of steps writes reads) n
left_at steps writes reads n t l e some =
    let before : steps_of (actor t) (take n (map actor steps)) ≡ steps_of (actor t) (actors n steps) =
    ap (steps_of (actor t)) (take-map actor n steps) in
    has_left (span_of steps writes reads) n (actor t) (plan_of t writes reads) (omega arith) (actor_at steps n t l e)
    (plan_at t steps writes reads) (omega arith)

-- past the steps there is none
pub none_past : {R : Type 0} (steps : List Turn) (writes : List R) (reads n : ℕ) → length steps ≤ n →
    ¬ Overruns (span_of steps writes reads) n
none_past steps writes reads n le h = absurd (omega (arith, slice_get_within (map actor steps) n h.0 h.1, length-map steps actor))
