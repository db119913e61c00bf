-- A step on one cell of a family keeps the family's rule: the cell's own step keeps its rule, at a time later than all before, and each
-- other cell is as it was, at a later time.
use Rattle.std.proofs.Common.{◌≡◌, ◌≢◌, ℕ, ◌+◌, ◌*◌, ◌<◌, ◌≤◌, List, [], ◌∷◌, ◌++◌, map, length, get_or, set, refl, sym, ap, ◌∙◌, subst}
use Rattle.std.proofs.Common.{⊎_elim, arith, le_refl, length-append, nat_eq, true, Bool, slice_get, Some, cond}
use Rattle.std.proofs.lemmas.List.{map-append}
use Rattle.history_core.specs.Schedules.{positions}
use Rattle.history_core.proofs.Positions.{positions_mine, positions_other}
use Rattle.history_core.proofs.Places.{get_pushed_cases}
use Rattle.std.proofs.lemmas.Bool.{cases_eq}
use Rattle.std.proofs.lemmas.Bool.Decides.{nat_tests}
use mathlib.Core.Option.{some, none, Option}
use lib.ListN.{get_elem?}
use Rattle.atomic_table.specs.Table.{State, Me, Act, carried_after, homes_after, Valid, stepped, Allows}
use Rattle.atomic_table.proofs.Lists.{at_set, at_map, at_longer, set_here, set_else}
use Rattle.cell_contract.specs.Acts.{Proper}
use Rattle.cell_contract.specs.Running.{held_slots}
use Rattle.family_table.specs.declared.notes.Process.{Process}
use Rattle.family_table.specs.declared.notes.Receipt.{Receipt}
use Rattle.family_table.specs.declared.notes.View.{View}
use Rattle.family_table.specs.declared.notes.View.TheVariants.{Told, Has}
use Rattle.family_table.specs.Layouts.{Layout, IsLayout, gather, shift, shift_act, Inside, around, Distinct, Disjoint, Out}
use Rattle.family_table.specs.Family.{total, of_cell, knows, cell, holders, Shows, FamilyRule, CellAllows, StepTells}
use Rattle.family_table.proofs.Slices.{gather_get, gather_set, gather_apart, get_set_here, get_set_else, set_long, map_set, map_same}
use Rattle.family_table.proofs.Slices.{set_front}
use Rattle.family_table.proofs.Slices.{within, distinct_front, in_front}
use Rattle.family_table.proofs.Acts.{carried_shift, valid_shift, homes_gather, homes_apart, around_carried, around_homes, around_valid}
use Rattle.family_table.proofs.Acts.{all_avoid, proper_shift, homes_long}
use Rattle.family_table.proofs.Held.{Effect, act_effect}
use Rattle.family_table.proofs.Totals.{total_set, total_two}
use Rattle.family_table.proofs.Tags.{tags_kept, behind_cells}

same_number : (n : ℕ) → nat_eq n n ≡ true
same_number n = grind (arith, nat_tests)

module _ {V : Type 0} where
  pub count_of : (who : ℕ) (p : Process V) → p.who ≡ who → cond {A = ℕ} (nat_eq p.who who) 1 0 ≡ 1
  count_of who p e = ap (λ (z : ℕ). cond {A = ℕ} (nat_eq z who) 1 0) e ∙ ap (λ (b : Bool). cond {A = ℕ} b 1 0) (same_number who)

  -- a view that doesn't have what this process knows stays, whatever it goes on to know
  pub shows_set : (P : List (Process V)) (R : List (Receipt V)) (who : ℕ) (u : Process V) (x : View V) → holders who x ≡ 0 →
      Shows P R x → Shows (set P who u) R x
  shows_set P R who u (Told r) z h = h
  shows_set P R who u (Has []) z h = tt
  shows_set P R who u (Has (p ∷ ps)) z h =
      let here : p.who ≢ who = λ e. let one = count_of who p e in absurd (omega arith) in
      let more : holders who (Has ps) ≡ 0 = omega arith in
      (set_else P who p.who u here ∙ h.0, shows_set P R who u (Has ps) more h.1)

module _ {S V : Type 0} (blank : V) (l : Layout) (is : IsLayout l) where
  -- the cell after the step
  same_cell : (words : List ℕ) (homes : List (Option S)) (P : List (Process V)) (R : List (Receipt V)) (k i n who : ℕ) (u : Process V)
      (c behind : List (ℕ × S)) (w : V) (a : Act S) → l.words ≤ length words → length homes ≡ l.slots → k < l.cells → i < l.cell_words →
      who < length P → of_cell blank k u.parts ≡ w → Inside l.cell_slots c → Proper c a →
      Valid (gather (l.slot k) l.cell_slots none homes) c a →
      cell blank l k (set words (l.word k i) n) (homes_after homes (shift (l.slot k) c ++ behind) (shift_act (l.slot k) a)) (set P who u) R
      ≡ stepped (cell blank l k words homes P R) i n who c w a
  same_cell words homes P R k i n who u c behind w a long high lk li inside new in_cell proper valid =
      let F : Process V → V = λ (p : Process V). of_cell blank k p.parts in
      let told : List V = map (λ (r : Receipt V). of_cell blank k r.parts) R in
      let mapped : who < length (map F P) = let e = map_long F P in omega arith in
      let views : map F (set P who u) ++ told ≡ set (map F P ++ told) who w =
      ap (λ zs. zs ++ told) (map_set F P who u ∙ ap (set (map F P) who) new) ∙ sym (set_front (map F P) told who w mapped) in
      let at : l.word k i < length words = let b = is.word_in k i lk li in omega arith in
      let slots_at : (j : ℕ) → j < l.cell_slots → l.slot k j < length homes = λ j lj. let b = is.slot_in k j lk lj in omega arith in
      λ z. record {
        words = gather_set (l.word k) l.cell_words 0 words i n li at (λ x y lx ly e. (is.word_apart k x k y lx ly e).1) z;
        homes = homes_gather (l.slot k) l.cell_slots homes c behind a slots_at (λ x y lx ly e. (is.slot_apart k x k y lx ly e).1)
            in_cell proper valid z;
        views = views z;
      } where
        map_long : {A B : Type 0} (f : A → B) (xs : List A) → length (map f xs) ≡ length xs
        map_long f [] = refl
        map_long f (x ∷ xs) = let h = map_long f xs in omega arith

  -- and another cell
  other_cell : (words : List ℕ) (homes : List (Option S)) (P : List (Process V)) (R : List (Receipt V)) (k j i n who : ℕ) (v u : Process V)
      (c behind : List (ℕ × S)) (a : Act S) → j ≢ k → i < l.cell_words → get_elem? P who ≡ some v →
      of_cell blank j u.parts ≡ of_cell blank j v.parts → Inside l.cell_slots c → Proper c a →
      Valid (gather (l.slot k) l.cell_slots none homes) c a →
      cell blank l j (set words (l.word k i) n) (homes_after homes (shift (l.slot k) c ++ behind) (shift_act (l.slot k) a)) (set P who u) R
      ≡ cell blank l j words homes P R
  other_cell words homes P R k j i n who v u c behind a ne li there same in_cell proper valid =
      let F : Process V → V = λ (p : Process V). of_cell blank j p.parts in
      let told : List V = map (λ (r : Receipt V). of_cell blank j r.parts) R in
      λ z. record {
        words = gather_apart (l.word j) l.cell_words 0 words (l.word k i) n (λ x lx e. ne (is.word_apart j x k i lx li e).0) z;
        homes = homes_apart (l.slot k) (l.slot j) l.cell_slots homes c behind a (λ x y lx ly e. ne (is.slot_apart j x k y lx ly e).0)
            in_cell proper valid z;
        views = map_same F P who v u there same z ++ told;
      }

  module _ (Rule : ℕ → State S V → Type 0) (Plan : ℕ → Process V → Type 0)
      (later : (now t : ℕ) (s : State S V) → now ≤ t → Rule now s → Rule t s) (n : ℕ) where
    -- *A step of a family*: where a cell's own rule allows a step at any later time, and the process then keeps to its plan, the family's
    -- rule allows it at the cell's words, whatever other slots the process has
    pub family_allows : (slots id k i : ℕ) (v : Process V) (before c behind : List (ℕ × S)) (f : ℕ → ℕ)
        (then : ℕ → ℕ → Me S V → Type 0) → i < l.cell_words → k < l.cells → k < length v.parts → Inside l.cell_slots c →
        v.held ≡ held_slots (before ++ (shift (l.slot k) c ++ behind)) →
        CellAllows Rule v.who (of_cell blank k v.parts, c) i f then →
        ((t m : ℕ) (w : V) (d : List (ℕ × S)) → v.clock < t → then t m (w, d) → Plan v.who v →
        Plan v.who (knows blank v k w t (held_slots (before ++ (shift (l.slot k) d ++ behind))))) →
        Allows (FamilyRule blank l Rule Plan n) slots id (Has (v ∷ []), before ++ (shift (l.slot k) c ++ behind)) (l.word k i) f
        (StepTells blank l.slot k v before behind then)
    family_allows slots id k i v before c behind f then li lk has inside held allowed goes s r _ at _ =
        let t : ℕ = r.now + 1 in
        let who : ℕ = v.who in
        let place : ℕ → ℕ = l.slot k in
        let rest : List (ℕ × S) = shift place c ++ behind in
        let there : get_elem? r.processes who ≡ some v = (r.shows id (Has (v ∷ [])) at).0 in
        let inside_list : who < length r.processes = within r.processes who v there in
        let mine : State S V = cell blank l k s.words s.homes r.processes r.receipts in
        let F : Process V → V = λ (p : Process V). of_cell blank k p.parts in
        let told : List V = map (λ (p : Receipt V). of_cell blank k p.parts) r.receipts in
        let x = allowed r.now t (omega arith) mine (r.cells k lk)
        (at_longer (map F r.processes) told who (F v) (at_map F r.processes who v there)) in
        let w : V = x.0 in
        let a : Act S = x.1 in
        let sa : Act S = shift_act place a in
        let found : get_or mine.words i 0 ≡ get_or s.words (l.word k i) 0 = gather_get (l.word k) l.cell_words i 0 s.words li in
        let m : ℕ = f (get_or s.words (l.word k i) 0) in
        let valid : Valid s.homes rest sa = valid_shift place l.cell_slots s.homes c behind a x.2 x.3 in
        let slots_are : v.held ≡ held_slots before ++ held_slots rest = held ∙ map-append (λ (y : ℕ × S). y.0) before rest in
        let away = r.away who v there in
        let parted = distinct_front (held_slots before) (held_slots rest) (subst Distinct slots_are away.1) in
        let out : Out s.homes (held_slots before) =
        λ h j. subst (λ zs. Out s.homes zs) slots_are away.0 h (in_front (held_slots before) (held_slots rest) h j) in
        let avoid = all_avoid s.homes before rest sa (proper_shift place c behind a x.2) valid out parted.1 in
        let homes_are : homes_after s.homes (before ++ rest) (around before sa) ≡ homes_after s.homes rest sa =
        around_homes s.homes before rest sa out parted.0 avoid in
        let homes' : List (Option S) = homes_after s.homes rest sa in
        let carried : List (ℕ × S) = before ++ (shift place (carried_after c a) ++ behind) in
        let carried_is : carried_after (before ++ rest) (around before sa) ≡ carried =
        around_carried before rest sa ∙ ap (λ zs. before ++ zs) (carried_shift place c behind a x.2) in
        let u : Process V = knows blank v k w t (held_slots carried) in
        let P' : List (Process V) = set r.processes who u in
        let effect : Effect s.homes homes' v.held u.held =
        subst (λ zs. Effect s.homes homes' zs (held_slots carried)) (sym held) (act_effect place s.homes before c behind a x.2 valid) in
        let known : v.clock ≤ r.now = r.clocks who v there in
        let lw : length s.words ≡ l.words + 8 * n = r.sized.0 in
        let lh : length s.homes ≡ l.slots = r.sized.1 in
        let many : length r.processes ≡ n = r.many in
        let made' : u.times ≡ positions 1 who (r.steps ++ who ∷ []) =
        ap (λ zs. zs ++ t ∷ []) (r.made who v there)
        ∙ (ap (λ z. positions 1 who r.steps ++ z ∷ [])
        (let e : r.now ≡ length r.steps = r.long in let d : t ≡ 1 + length r.steps = omega arith in d)
        ∙ sym (positions_mine 1 who r.steps)) in
        let step : State S V = stepped mine i m who c w a in
        let kept : Rule t step = subst (λ z. Rule t (stepped mine i (f z) who c w a)) found x.4 in
        let own : of_cell blank k u.parts ≡ w = get_set_here v.parts k w blank has in
        let rule : FamilyRule blank l Rule Plan n (record {
          words = set s.words (l.word k i) m;
          homes = homes';
          views = set s.views id (Has (u ∷ []));
        }) = record {
          now = t;
          processes = P';
          receipts = r.receipts;
          many = set_long r.processes who u ∙ r.many;
          sized = (set_long s.words (l.word k i) m ∙ r.sized.0, homes_long s.homes rest sa ∙ r.sized.1);
          cells = λ j lj. ⊎_elim
              (λ (e : j ≡ k). subst (λ z. Rule t (cell blank l z (set s.words (l.word k i) m) homes' P' r.receipts)) (sym e)
              (subst (Rule t) (sym (same_cell s.words s.homes r.processes r.receipts k i m who u c behind w a (omega arith) lh lk li
              inside_list own
              inside x.2 x.3)) kept))
              (λ (ne : j ≢ k). subst (Rule t) (sym (other_cell s.words s.homes r.processes r.receipts k j i m who v u c behind a ne li there
              (get_set_else v.parts k j w blank ne) inside x.2 x.3)) (later r.now t (cell blank l j s.words s.homes r.processes r.receipts)
              (omega arith) (r.cells j lj)))
              (cases_eq j k);
          numbered = λ j z e. ⊎_elim
              (λ (b : (j ≡ who) × (u ≡ z)). ap (λ (q : Process V). q.who) (sym b.1) ∙ sym b.0)
              (λ (b : (j ≢ who) × (get_elem? r.processes j ≡ some z)). r.numbered j z b.1)
              (at_set r.processes who j u z e);
          clocks = λ j z e. ⊎_elim
              (λ (b : (j ≡ who) × (u ≡ z)). subst (λ (q : Process V). q.clock ≤ t) b.1 (le_refl t))
              (λ (b : (j ≢ who) × (get_elem? r.processes j ≡ some z)). let d : z.clock ≤ r.now = r.clocks j z b.1 in
              let g : z.clock ≤ t = omega arith in g)
              (at_set r.processes who j u z e);
          told = λ p h. let d : p.clock ≤ r.now = r.told p h in let g : p.clock ≤ t = omega arith in g;
          steps = r.steps ++ who ∷ [];
          long = let e : r.now ≡ length r.steps = r.long in
              let g = length-append r.steps (who ∷ []) in
              let d : t ≡ length (r.steps ++ who ∷ []) = omega arith in
              d;
          within = λ y z e. ⊎_elim
              (λ (b : slice_get r.steps y ≡ Some z). r.within y z b)
              (λ (b : (y ≡ length r.steps) × (who ≡ z)). subst (λ q. q < n) b.1 (let g : who < n = omega arith in g))
              (get_pushed_cases r.steps who y z e);
          made = λ j z e. ⊎_elim
              (λ (b : (j ≡ who) × (u ≡ z)). ap (λ (q : Process V). q.times) (sym b.1)
              ∙ (made' ∙ ap (λ q. positions 1 q (r.steps ++ who ∷ [])) (sym b.0)))
              (λ (b : (j ≢ who) × (get_elem? r.processes j ≡ some z)). r.made j z b.1
              ∙ sym (positions_other 1 j who r.steps (λ h. b.0 (sym h))))
              (at_set r.processes who j u z e);
          away = λ j z e. ⊎_elim
              (λ (b : (j ≡ who) × (u ≡ z)). subst (λ (q : Process V). Out homes' q.held × Distinct q.held) b.1 (effect.mine away.0 away.1))
              (λ (b : (j ≢ who) × (get_elem? r.processes j ≡ some z)).
              let o = r.away j z b.1 in
              ((effect.others z.held o.0 away.0 (r.apart who j v z there b.1 (λ h. b.0 (sym h)))).0, o.1))
              (at_set r.processes who j u z e);
          apart = λ i' j y z d e ne. ⊎_elim
              (λ (a' : (i' ≡ who) × (u ≡ y)). ⊎_elim
              (λ (b : (j ≡ who) × (u ≡ z)). absurd (ne (a'.0 ∙ sym b.0)))
              (λ (b : (j ≢ who) × (get_elem? r.processes j ≡ some z)).
              subst (λ (q : Process V). Disjoint q.held z.held) a'.1
              (effect.others z.held (r.away j z b.1).0 away.0 (r.apart who j v z there b.1 (λ h. b.0 (sym h)))).1)
              (at_set r.processes who j u z e))
              (λ (a' : (i' ≢ who) × (get_elem? r.processes i' ≡ some y)). ⊎_elim
              (λ (b : (j ≡ who) × (u ≡ z)).
              subst (λ (q : Process V). Disjoint y.held q.held) b.1
              (λ h p q. (effect.others y.held (r.away i' y a'.1).0 away.0 (r.apart who i' v y there a'.1 (λ h. a'.0 (sym h)))).1 h q p))
              (λ (b : (j ≢ who) × (get_elem? r.processes j ≡ some z)). r.apart i' j y z a'.1 b.1 ne)
              (at_set r.processes who j u z e))
              (at_set r.processes who i' u y d);
          shows = λ j y e. ⊎_elim
              (λ (b : (j ≡ id) × (Has (u ∷ []) ≡ y)). subst (Shows P' r.receipts) b.1 (set_here r.processes who u inside_list, tt))
              (λ (b : (j ≢ id) × (get_elem? s.views j ≡ some y)).
              let two = total_two (holders who) s.views id j (Has (v ∷ [])) y at b.1 (λ h. b.0 (sym h)) in
              let one = count_of who v refl in
              let most : total (holders who) s.views ≤ 1 = r.once who in
              let none_there : holders who y ≡ 0 = omega arith in
              shows_set r.processes r.receipts who u y none_there (r.shows j y b.1))
              (at_set s.views id j (Has (u ∷ [])) y e);
          once = λ z.
              let e = total_set (holders z) s.views id (Has (v ∷ [])) (Has (u ∷ [])) at in
              let most : total (holders z) s.views ≤ 1 = r.once z in
              let g : total (holders z) (set s.views id (Has (u ∷ []))) ≤ 1 = omega arith in
              g;
          tags = tags_kept l r.now t s.words (set s.words (l.word k i) m) r.processes who v u (omega arith) there refl refl
              (λ j lj. behind_cells is k i j s.words m lk li) r.tags;
          planned = λ j z e. ⊎_elim
              (λ (b : (j ≡ who) × (u ≡ z)). subst (λ (q : ℕ × Process V). Plan q.0 q.1) (λ h. (sym b.0 h, b.1 h))
              (goes t (get_or mine.words i 0) w (carried_after c a) (let d : v.clock < t = omega arith in d) x.5 (r.planned who v there)))
              (λ (b : (j ≢ who) × (get_elem? r.processes j ≡ some z)). r.planned j z b.1)
              (at_set r.processes who j u z e);
        } in (
          Has (u ∷ []),
          around before sa,
          around_valid s.homes before rest sa out parted.0 avoid valid,
          subst (λ hs. FamilyRule blank l Rule Plan n (record {
            words = set s.words (l.word k i) m;
            homes = hs;
            views = set s.views id (Has (u ∷ []));
          })) (sym homes_are) rule,
          (
            t,
            w,
            carried_after c a,
            (let d : v.clock < t = omega arith in d),
            subst (λ z. then t z (w, carried_after c a)) found x.5,
            ap (λ cs. Has (knows blank v k w t (held_slots cs) ∷ [])) (sym carried_is),
            carried_is,
          ),
        )
