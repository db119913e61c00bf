-- A step on one cell of a family keeps the family's rule, with acts in turn on the slots of its seat: at a time of its own in the schedule,
-- or outside the schedule.
use Rattle.std.proofs.Common.{◌≡◌, ◌≢◌, ℕ, ◌+◌, ◌*◌, ◌<◌, ◌≤◌, List, [], ◌∷◌, ◌++◌, map, length, set, refl, sym, ap, ◌∙◌, subst}
use Rattle.std.proofs.Common.{⊎_elim, arith, le_refl, le_trans, length-append, slice_get, Some}
use Rattle.std.proofs.lemmas.Bool.{cases_eq}
use mathlib.Core.Option.{some, none, Option}
use lib.ListN.{get_elem?}
use Rattle.history_core.specs.Schedules.{positions}
use Rattle.history_core.proofs.Positions.{positions_mine, positions_other}
use Rattle.history_core.proofs.Places.{get_pushed_cases}
use Rattle.atomic_table.specs.Table.{State, Me, Act, carried_after, homes_after, Valid, stepped}
use Rattle.atomic_table.proofs.Lists.{at_set, set_here}
use Rattle.cell_contract.specs.Acts.{ProperAll}
use Rattle.cell_contract.specs.Running.{held_slots}
use Rattle.family_table.specs.declared.notes.Process.{Process}
use Rattle.family_table.specs.declared.notes.Receipt.{Receipt}
use Rattle.family_table.specs.declared.notes.View.{View}
use Rattle.family_table.specs.declared.notes.View.TheVariants.{Has}
use Rattle.family_table.specs.Layouts.{Layout, IsLayout, gather, shift, shift_act, Inside, Distinct, Disjoint, Out}
use Rattle.family_table.specs.Family.{total, of_cell, knows, cell, holders, Shows, FamilyRule, StepTells}
use Rattle.family_table.proofs.Slices.{gather_set, gather_apart, get_set_here, get_set_else, set_long, map_set, map_same, set_front, within}
use Rattle.family_table.proofs.Steps.{count_of, shows_set}
use Rattle.family_table.proofs.Tags.{tags_kept, behind_cells}
use Rattle.family_table.proofs.Totals.{total_set, total_two}
use Rattle.family_triple.specs.Steps.{goes_on, alters}
use Rattle.family_triple.specs.Tables.{IsRotated}
use Rattle.family_triple.proofs.Acts.{carried_shift, valid_shift, homes_gather, homes_apart, homes_long, proper_shift, Effect, acts_effect}
use Rattle.family_triple.proofs.Turns.{turned_in, turned_distinct, turned_out}

map_long : {A B : Type 0} (f : A → B) (xs : List A) → length (map f xs) ≡ length xs
map_long f [] = refl
map_long f (x ∷ xs) = let h = map_long f xs in omega arith

-- what a cell's own rule allows of a step in this state, up to this time
abbrev pub Outcome : {S V : Type 0} → (ℕ → State S V → Type 0) → State S V → ℕ → ℕ → Me S V → ℕ → (Me S V → Type 0) → Type 0
Outcome {S} {V} Rule s t id me m then = (w : V) × (a : Act S) × ProperAll me.1 a × Valid s.homes me.1 a × Rule t (stepped s 0 m id me.1 w a)
    × then (w, carried_after me.1 a)

-- what the table then allows
abbrev pub Allowed : {S V : Type 0} → (State S V → Type 0) → State S V → ℕ → ℕ → Me S V → ℕ → (Me S V → Type 0) → Type 0
Allowed {S} {V} holds s id i me m then = (w : V) × (a : Act S) × Valid s.homes me.1 a × holds (stepped s i m id me.1 w a)
    × then (w, carried_after me.1 a)

-- what a step outside the schedule tells
abbrev pub TellsBeside : {S V : Type 0} → (ℕ → ℕ → ℕ) → ℕ → Process V → List (ℕ × S) → (Me S V → Type 0) → Me S (View V) → Type 0
TellsBeside {S} {V} slot k v behind then m = (w : V) × (c : List (ℕ × S)) × then (w, c)
    × (m.0 ≡ Has (alters v k w (held_slots m.1) ∷ [])) × (m.1 ≡ shift (slot k) c ++ behind)

module _ {S V : Type 0} (blank : V) (l : Layout) (is : IsLayout l) where
  -- the cell after the step, and another cell
  same_cell : (words : List ℕ) (homes : List (Option S)) (P : List (Process V)) (R : List (Receipt V)) (k i n who : ℕ) (u : Process V)
      (c behind : List (ℕ × S)) (w : V) (a : Act S) → l.words ≤ length words → length homes ≡ l.slots → k < l.cells → i < l.cell_words →
      who < length P → of_cell blank k u.parts ≡ w → Inside l.cell_slots c → ProperAll c a →
      Valid (gather (l.slot k) l.cell_slots none homes) c a →
      cell blank l k (set words (l.word k i) n) (homes_after homes (shift (l.slot k) c ++ behind) (shift_act (l.slot k) a)) (set P who u) R
      ≡ stepped (cell blank l k words homes P R) i n who c w a
  same_cell words homes P R k i n who u c behind w a long high lk li inside new in_cell proper valid =
      let F : Process V → V = λ (p : Process V). of_cell blank k p.parts in
      let told : List V = map (λ (r : Receipt V). of_cell blank k r.parts) R in
      let mapped : who < length (map F P) = let e = map_long F P in omega arith in
      let views : map F (set P who u) ++ told ≡ set (map F P ++ told) who w =
      ap (λ zs. zs ++ told) (map_set F P who u ∙ ap (set (map F P) who) new) ∙ sym (set_front (map F P) told who w mapped) in
      let at : l.word k i < length words = let b = is.word_in k i lk li in omega arith in
      let slots_at : (j : ℕ) → j < l.cell_slots → l.slot k j < length homes = λ j lj. let b = is.slot_in k j lk lj in omega arith in
      λ z. record {
        words = gather_set (l.word k) l.cell_words 0 words i n li at (λ x y lx ly e. (is.word_apart k x k y lx ly e).1) z;
        homes = homes_gather (l.slot k) l.cell_slots (λ x y lx ly e. (is.slot_apart k x k y lx ly e).1) homes c behind a slots_at
            in_cell proper valid z;
        views = views z;
      }

  other_cell : (words : List ℕ) (homes : List (Option S)) (P : List (Process V)) (R : List (Receipt V)) (k j i n who : ℕ) (v u : Process V)
      (c behind : List (ℕ × S)) (a : Act S) → length homes ≡ l.slots → k < l.cells → j ≢ k → i < l.cell_words → get_elem? P who ≡ some v →
      of_cell blank j u.parts ≡ of_cell blank j v.parts → Inside l.cell_slots c → ProperAll c a →
      Valid (gather (l.slot k) l.cell_slots none homes) c a →
      cell blank l j (set words (l.word k i) n) (homes_after homes (shift (l.slot k) c ++ behind) (shift_act (l.slot k) a)) (set P who u) R
      ≡ cell blank l j words homes P R
  other_cell words homes P R k j i n who v u c behind a high lk ne li there same in_cell proper valid =
      let F : Process V → V = λ (p : Process V). of_cell blank j p.parts in
      let told : List V = map (λ (r : Receipt V). of_cell blank j r.parts) R in
      let slots_at : (j : ℕ) → j < l.cell_slots → l.slot k j < length homes = λ j lj. let b = is.slot_in k j lk lj in omega arith in
      λ z. record {
        words = gather_apart (l.word j) l.cell_words 0 words (l.word k i) n (λ x lx e. ne (is.word_apart j x k i lx li e).0) z;
        homes = homes_apart (l.slot k) l.cell_slots (λ x y lx ly e. (is.slot_apart k x k y lx ly e).1) (l.slot j)
            (λ x y lx ly e. ne (is.slot_apart j x k y lx ly e).0) homes c behind a slots_at in_cell proper valid z;
        views = map_same F P who v u there same z ++ told;
      }

  module _ (Rule : ℕ → State S V → Type 0) (Plan : ℕ → Process V → Type 0)
      (later : (now t : ℕ) (s : State S V) → now ≤ t → Rule now s → Rule t s) (n : ℕ) where
    abbrev F : State S (View V) → Type 0
    F = FamilyRule blank l Rule Plan n

    -- the process knows more of one cell; its clock and its times, and the steps made, go on to these
    kept : (s : State S (View V)) (r : F s) (id k i m : ℕ) (v : Process V) (c behind : List (ℕ × S)) (w : V) (a : Act S)
        (t clock : ℕ) (times steps : List ℕ) → get_elem? s.views id ≡ some (Has (v ∷ [])) → i < l.cell_words → k < l.cells →
        k < length v.parts → Inside l.cell_slots c → IsRotated v.held (held_slots (shift (l.slot k) c ++ behind)) → r.now ≤ t → clock ≤ t →
        t ≡ length steps → ((x who : ℕ) → slice_get steps x ≡ Some who → who < n) → times ≡ positions 1 v.who steps →
        ((j : ℕ) → j ≢ v.who → positions 1 j steps ≡ positions 1 j r.steps) → ProperAll c a →
        Valid (gather (l.slot k) l.cell_slots none s.homes) c a →
        Rule t (stepped (cell blank l k s.words s.homes r.processes r.receipts) i m v.who c w a) →
        Plan v.who (goes_on v k w clock times (held_slots (shift (l.slot k) (carried_after c a) ++ behind))) →
        Valid s.homes (shift (l.slot k) c ++ behind) (shift_act (l.slot k) a)
        × F (stepped s (l.word k i) m id (shift (l.slot k) c ++ behind) (Has (goes_on v k w clock times
        (held_slots (shift (l.slot k) (carried_after c a) ++ behind)) ∷ [])) (shift_act (l.slot k) a))
    kept s r id k i m v c behind w a t clock times steps at li lk has inside turned on by long low made others proper fine rule plan =
        let who : ℕ = v.who in
        let place : ℕ → ℕ = l.slot k in
        let cs : List (ℕ × S) = shift place c ++ behind in
        let sa : Act S = shift_act place a in
        let there : get_elem? r.processes who ≡ some v = (r.shows id (Has (v ∷ [])) at).0 in
        let inside_list : who < length r.processes = within r.processes who v there in
        let lw : length s.words ≡ l.words + 8 * n = r.sized.0 in
        let lh : length s.homes ≡ l.slots = r.sized.1 in
        let slots_at : (j : ℕ) → j < l.cell_slots → place j < length s.homes = λ j lj. let b = is.slot_in k j lk lj in omega arith in
        let valid : Valid s.homes cs sa =
        valid_shift place l.cell_slots (λ x y lx ly e. (is.slot_apart k x k y lx ly e).1) s.homes c behind a slots_at inside proper fine in
        let homes' : List (Option S) = homes_after s.homes cs sa in
        let carried : List (ℕ × S) = shift place (carried_after c a) ++ behind in
        let u : Process V = goes_on v k w clock times (held_slots carried) in
        let P' : List (Process V) = set r.processes who u in
        let effect : Effect s.homes homes' (held_slots cs) u.held = subst (λ zs. Effect s.homes homes' (held_slots cs) (held_slots zs))
        (carried_shift place c behind a proper) (acts_effect s.homes cs sa (proper_shift place c behind a proper) valid) in
        let away = r.away who v there in
        let out : Out s.homes (held_slots cs) = turned_out s.homes v.held (held_slots cs) turned away.0 in
        let distinct : Distinct (held_slots cs) = turned_distinct v.held (held_slots cs) turned away.1 in
        let mine : Out homes' u.held × Distinct u.held = effect.mine out distinct in
        let theirs : (j : ℕ) (z : Process V) → j ≢ who → get_elem? r.processes j ≡ some z → Out homes' z.held × Disjoint u.held z.held =
        λ j z ne e. effect.others z.held (r.away j z e).0 out distinct
        (λ h x y. r.apart who j v z there e (λ q. ne (sym q)) h (turned_in v.held (held_slots cs) h turned x) y) in
        let own : of_cell blank k u.parts ≡ w = get_set_here v.parts k w blank has in (
          valid,
          record {
            now = t;
            processes = P';
            receipts = r.receipts;
            many = set_long r.processes who u ∙ r.many;
            sized = (set_long s.words (l.word k i) m ∙ r.sized.0, homes_long s.homes cs sa ∙ r.sized.1);
            cells = λ j lj. ⊎_elim
                (λ (e : j ≡ k). subst (λ z. Rule t (cell blank l z (set s.words (l.word k i) m) homes' P' r.receipts)) (sym e)
                (subst (Rule t) (sym (same_cell s.words s.homes r.processes r.receipts k i m who u c behind w a (omega arith) lh lk li
                inside_list own
                inside proper fine)) rule))
                (λ (ne : j ≢ k). subst (Rule t)
                (sym (other_cell s.words s.homes r.processes r.receipts k j i m who v u c behind a lh lk ne li there
                (get_set_else v.parts k j w blank ne) inside proper fine))
                (later r.now t (cell blank l j s.words s.homes r.processes r.receipts)
                on (r.cells j lj)))
                (cases_eq j k);
            numbered = λ j z e. ⊎_elim
                (λ (b : (j ≡ who) × (u ≡ z)). ap (λ (q : Process V). q.who) (sym b.1) ∙ sym b.0)
                (λ (b : (j ≢ who) × (get_elem? r.processes j ≡ some z)). r.numbered j z b.1)
                (at_set r.processes who j u z e);
            clocks = λ j z e. ⊎_elim
                (λ (b : (j ≡ who) × (u ≡ z)). subst (λ (q : Process V). q.clock ≤ t) b.1 by)
                (λ (b : (j ≢ who) × (get_elem? r.processes j ≡ some z)). le_trans (r.clocks j z b.1) on)
                (at_set r.processes who j u z e);
            told = λ p h. le_trans (r.told p h) on;
            steps = steps;
            long = long;
            within = low;
            made = λ j z e. ⊎_elim
                (λ (b : (j ≡ who) × (u ≡ z)). ap (λ (q : Process V). q.times) (sym b.1) ∙ (made ∙ ap (λ q. positions 1 q steps) (sym b.0)))
                (λ (b : (j ≢ who) × (get_elem? r.processes j ≡ some z)). r.made j z b.1 ∙ sym (others j b.0))
                (at_set r.processes who j u z e);
            away = λ j z e. ⊎_elim
                (λ (b : (j ≡ who) × (u ≡ z)). subst (λ (q : Process V). Out homes' q.held × Distinct q.held) b.1 mine)
                (λ (b : (j ≢ who) × (get_elem? r.processes j ≡ some z)). ((theirs j z b.0 b.1).0, (r.away j z b.1).1))
                (at_set r.processes who j u z e);
            apart = λ i' j y z d e ne. ⊎_elim
                (λ (a' : (i' ≡ who) × (u ≡ y)). ⊎_elim
                (λ (b : (j ≡ who) × (u ≡ z)). absurd (ne (a'.0 ∙ sym b.0)))
                (λ (b : (j ≢ who) × (get_elem? r.processes j ≡ some z)).
                subst (λ (q : Process V). Disjoint q.held z.held) a'.1 (theirs j z b.0 b.1).1)
                (at_set r.processes who j u z e))
                (λ (a' : (i' ≢ who) × (get_elem? r.processes i' ≡ some y)). ⊎_elim
                (λ (b : (j ≡ who) × (u ≡ z)).
                subst (λ (q : Process V). Disjoint y.held q.held) b.1 (λ h p q. (theirs i' y a'.0 a'.1).1 h q p))
                (λ (b : (j ≢ who) × (get_elem? r.processes j ≡ some z)). r.apart i' j y z a'.1 b.1 ne)
                (at_set r.processes who j u z e))
                (at_set r.processes who i' u y d);
            shows = λ j y e. ⊎_elim
                (λ (b : (j ≡ id) × (Has (u ∷ []) ≡ y)). subst (Shows P' r.receipts) b.1 (set_here r.processes who u inside_list, tt))
                (λ (b : (j ≢ id) × (get_elem? s.views j ≡ some y)).
                let two = total_two (holders who) s.views id j (Has (v ∷ [])) y at b.1 (λ h. b.0 (sym h)) in
                let one = count_of who v refl in
                let most : total (holders who) s.views ≤ 1 = r.once who in
                let none_there : holders who y ≡ 0 = omega arith in
                shows_set r.processes r.receipts who u y none_there (r.shows j y b.1))
                (at_set s.views id j (Has (u ∷ [])) y e);
            once = λ z.
                let e = total_set (holders z) s.views id (Has (v ∷ [])) (Has (u ∷ [])) at in
                let most : total (holders z) s.views ≤ 1 = r.once z in
                let g : total (holders z) (set s.views id (Has (u ∷ []))) ≤ 1 = omega arith in
                g;
            tags = tags_kept l r.now t s.words (set s.words (l.word k i) m) r.processes who v u on there refl refl
                (λ j lj. behind_cells is k i j s.words m lk li) r.tags;
            planned = λ j z e. ⊎_elim
                (λ (b : (j ≡ who) × (u ≡ z)). subst (λ (q : ℕ × Process V). Plan q.0 q.1) (λ h. (sym b.0 h, b.1 h)) plan)
                (λ (b : (j ≢ who) × (get_elem? r.processes j ≡ some z)). r.planned j z b.1)
                (at_set r.processes who j u z e);
          },
        )

    -- *A step of the schedule*: its time is the one after all before, and the process then keeps to its plan
    pub steps_at : (s : State S (View V)) (r : F s) (id k m : ℕ) (v : Process V) (c behind : List (ℕ × S)) (then : ℕ → Me S V → Type 0) →
        get_elem? s.views id ≡ some (Has (v ∷ [])) → 0 < l.cell_words → k < l.cells →
        k < length v.parts → Inside l.cell_slots c → IsRotated v.held (held_slots (shift (l.slot k) c ++ behind)) →
        Outcome Rule (cell blank l k s.words s.homes r.processes r.receipts) (r.now + 1) v.who (of_cell blank k v.parts, c) m
        (then (r.now + 1)) →
        ((w : V) (d : List (ℕ × S)) → v.clock < r.now + 1 → then (r.now + 1) (w, d) → Plan v.who v →
        Plan v.who (knows blank v k w (r.now + 1) (held_slots (shift (l.slot k) d ++ behind)))) →
        Allowed F s id (l.word k 0) (Has (v ∷ []), shift (l.slot k) c ++ behind) m
        (StepTells blank l.slot k v [] behind (λ t _ x. then t x) 0)
    steps_at s r id k m v c behind then at li lk has inside turned x goes =
        let t : ℕ = r.now + 1 in
        let who : ℕ = v.who in
        let there : get_elem? r.processes who ≡ some v = (r.shows id (Has (v ∷ [])) at).0 in
        let inside_list : who < length r.processes = within r.processes who v there in
        let many : length r.processes ≡ n = r.many in
        let long : r.now ≡ length r.steps = r.long in
        let by : v.clock ≤ r.now = r.clocks who v there in
        let more = length-append r.steps (who ∷ []) in
        let carried : List (ℕ × S) = shift (l.slot k) (carried_after c x.1) ++ behind in
        let y = kept s r id k 0 m v c behind x.0 x.1 t t (v.times ++ t ∷ []) (r.steps ++ who ∷ []) at li lk has inside turned (omega arith)
        (le_refl t) (let d : t ≡ length (r.steps ++ who ∷ []) = omega arith in d)
        (λ y z e. ⊎_elim
        (λ (b : slice_get r.steps y ≡ Some z). r.within y z b)
        (λ (b : (y ≡ length r.steps) × (who ≡ z)). subst (λ q. q < n) b.1 (let g : who < n = omega arith in g))
        (get_pushed_cases r.steps who y z e))
        (ap (λ zs. zs ++ t ∷ []) (r.made who v there)
        ∙ (ap (λ z. positions 1 who r.steps ++ z ∷ []) (let d : t ≡ 1 + length r.steps = omega arith in d)
        ∙ sym (positions_mine 1 who r.steps)))
        (λ j ne. positions_other 1 j who r.steps (λ h. ne (sym h))) x.2 x.3 x.4
        (goes x.0 (carried_after c x.1) (let d : v.clock < t = omega arith in d) x.5 (r.planned who v there)) in
        let carried_is = carried_shift (l.slot k) c behind x.1 x.2 in (
          Has (knows blank v k x.0 t (held_slots carried) ∷ []),
          shift_act (l.slot k) x.1,
          y.0,
          y.1,
          (
            t,
            x.0,
            carried_after c x.1,
            (let d : v.clock < t = omega arith in d),
            x.5,
            ap (λ cs. Has (knows blank v k x.0 t (held_slots cs) ∷ [])) (sym carried_is),
            carried_is,
          ),
        )

    -- *A step outside the schedule*
    pub steps_beside : (s : State S (View V)) (r : F s) (id k m : ℕ) (v : Process V) (c behind : List (ℕ × S)) (then : Me S V → Type 0) →
        get_elem? s.views id ≡ some (Has (v ∷ [])) → 0 < l.cell_words → k < l.cells →
        k < length v.parts → Inside l.cell_slots c → IsRotated v.held (held_slots (shift (l.slot k) c ++ behind)) →
        Outcome Rule (cell blank l k s.words s.homes r.processes r.receipts) r.now v.who (of_cell blank k v.parts, c) m then →
        ((w : V) (d : List (ℕ × S)) → then (w, d) → Plan v.who v →
        Plan v.who (alters v k w (held_slots (shift (l.slot k) d ++ behind)))) →
        Allowed F s id (l.word k 0) (Has (v ∷ []), shift (l.slot k) c ++ behind) m (TellsBeside l.slot k v behind then)
    steps_beside s r id k m v c behind then at li lk has inside turned x goes =
        let there : get_elem? r.processes v.who ≡ some v = (r.shows id (Has (v ∷ [])) at).0 in
        let carried : List (ℕ × S) = shift (l.slot k) (carried_after c x.1) ++ behind in
        let y = kept s r id k 0 m v c behind x.0 x.1 r.now v.clock v.times r.steps at li lk has inside turned (le_refl r.now)
        (r.clocks v.who v there) r.long r.within (r.made v.who v there) (λ j ne. refl) x.2 x.3 x.4
        (goes x.0 (carried_after c x.1) x.5 (r.planned v.who v there)) in
        let carried_is = carried_shift (l.slot k) c behind x.1 x.2 in (
          Has (alters v k x.0 (held_slots carried) ∷ []),
          shift_act (l.slot k) x.1,
          y.0,
          y.1,
          (
            x.0,
            carried_after c x.1,
            x.5,
            ap (λ cs. Has (alters v k x.0 (held_slots cs) ∷ [])) (sym carried_is),
            carried_is,
          ),
        )
