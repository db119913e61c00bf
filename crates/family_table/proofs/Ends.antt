-- What the last state of a family shows of the processes that a seat has: one schedule, and each register's calls.
use Rattle.std.proofs.Common.{◌≡◌, ℕ, ◌<◌, length, arith, List, [], ◌∷◌, map, refl, sym, ap, ◌∙◌, subst, slice_index}
use mathlib.Core.Option.{some, some-injective}
use lib.ListN.{get_elem?}
use Rattle.atomic_table.specs.Table.{State, Me, Step, Allows, keeps, Final, Seen, stepped}
use Rattle.atomic_table.proofs.Lists.{at_map, at_longer, set_here}
use Rattle.family_table.specs.declared.notes.Process.{Process}
use Rattle.family_table.specs.declared.notes.Receipt.{Receipt}
use Rattle.family_table.specs.declared.notes.View.{View}
use Rattle.family_table.specs.declared.notes.View.TheVariants.{Has}
use Rattle.cell_contract.specs.Ends.{WasSaid}
use Rattle.family_table.specs.Ends.{AllDone, AllSoFar, CellEnds, shows, shows_all, shows_behind}
use Rattle.family_table.specs.Family.{of_cell, cell, Shows, FamilyRule}
use Rattle.family_table.specs.Layouts.{Layout}
use Rattle.family_table.proofs.Seats.{each_at}
use Rattle.family_table.proofs.Slices.{same_one, set_found, set_there, within}

module _ {T V : Type 0} (blank : V) (layout : ℕ → Layout) (Rule : T → ℕ → State T V → Type 0) (done : T → V → V → Type 0)
    (ends : (o : T) → CellEnds (Rule o) (done o)) (o : T) (n : ℕ) (Plan : ℕ → Process V → Type 0) where
  abbrev F : State T (View V) → Type 0
  F s = FamilyRule blank (layout n) (Rule o) Plan n s

  abbrev Ended : List (Process V) → Type 0
  Ended ps = AllDone blank (layout n) (done o) n ps

  family_shows : (id : ℕ) (x : View V) (ps : List (Process V)) (s : State T (View V)) → F s → get_elem? s.views id ≡ some x → x ≡ Has ps →
      Ended ps
  family_shows id x ps s r seen is =
      let known = subst (Shows r.processes r.receipts) is (r.shows id x seen) in
      let at : (a : ℕ) (p : Process V) → get_elem? ps a ≡ some p → get_elem? r.processes p.who ≡ some p =
      λ a p e. each_at (λ (q : Process V). get_elem? r.processes q.who ≡ some q) ps a p known e in
      record {
        steps = r.steps;
        within = r.within;
        made = λ a p e. r.made p.who p (at a p e);
        finds = λ a y p f e h. let was = r.tags.finds p.who y p f (at a p e) h in
            let inside : f.who < length r.processes = within r.processes f.who was.0 was.1 in
            let many : length r.processes ≡ n = r.many in (
              omega arith,
              λ b q d same. subst (λ (z : Process V). WasSaid z.said f)
                  (some-injective was.0 q (sym was.1 ∙ (ap (get_elem? r.processes) (sym same) ∙ at b q d))) was.2,
            );
        cells = λ a b p q d e k lk.
            let c : State T V = cell blank (layout n) k s.words s.homes r.processes r.receipts in
            let told : List V = map (λ (z : Receipt V). of_cell blank k z.parts) r.receipts in
            let G : Process V → V = λ (z : Process V). of_cell blank k z.parts in
            let view : (a' : ℕ) (z : Process V) → get_elem? ps a' ≡ some z → get_elem? c.views z.who ≡ some (G z) =
            λ a' z h. at_longer (map G r.processes) told z.who (G z) (at_map G r.processes z.who z (at a' z h)) in
            ends o r.now c p.who q.who (G p) (G q) (r.cells k lk) (view a p d) (view b q e);
      }

  pub family_ends : (id : ℕ) (x : View V) (ps : List (Process V)) (ws : List ℕ) (xs : List T) → x ≡ Has ps → Final (Seen F id x) ws xs →
      Ended ps
  family_ends id x ps ws xs is f = family_shows id x ps f.0 f.1.0 f.1.1 is

  -- a load that keeps the view may show it
  pub shows_ok : (slots id word : ℕ) (me : Me T (View V)) (st : Step T) →
      Allows F slots id me word (λ z. z) (shows blank layout done (o ∷ []) n st me)
  shows_ok slots id word me st = λ s r long at low. (
    me.0,
    keeps,
    record {},
    subst (λ (z : List ℕ × List (View V)). F (record { words = z.0; homes = s.homes; views = z.1 }))
        (λ i. (sym (set_found s.words word 0) i, sym (set_there s.views id me.0 at) i)) r,
    (refl, λ o' ps e is. subst (λ z. AllDone blank (layout n) (done z) n ps) (same_one o o' e) (family_shows id me.0 ps s r at is)),
  )

  -- all processes of a state, among which are those of a seat
  family_shows_all : (id : ℕ) (ps : List (Process V)) (s : State T (View V)) → F s → get_elem? s.views id ≡ some (Has ps) →
      AllSoFar blank (layout n) (done o) Plan n ps
  family_shows_all id ps s r seen =
      let known = r.shows id (Has ps) seen in
      record {
        steps = r.steps;
        within = r.within;
        processes = r.processes;
        many = r.many;
        numbered = r.numbered;
        made = r.made;
        planned = r.planned;
        finds = r.tags.finds;
        cells = λ i j k v w d e lk.
            let c : State T V = cell blank (layout n) k s.words s.homes r.processes r.receipts in
            let told : List V = map (λ (z : Receipt V). of_cell blank k z.parts) r.receipts in
            let G : Process V → V = λ (z : Process V). of_cell blank k z.parts in
            let view : (a : ℕ) (z : Process V) → get_elem? r.processes a ≡ some z → get_elem? c.views a ≡ some (G z) =
            λ a z h. at_longer (map G r.processes) told a (G z) (at_map G r.processes a z h) in
            ends o r.now c i j (G v) (G w) (r.cells k lk) (view i v d) (view j w e);
        among = λ a p e. each_at (λ (q : Process V). get_elem? r.processes q.who ≡ some q) ps a p known e;
      }

  -- a load that keeps the view may show them
  pub shows_all_ok : (plan : T → ℕ → ℕ → ℕ → Process V → Type 0) (limit : ℕ) → Plan ≡ plan o limit n → (slots id word : ℕ)
      (me : Me T (View V)) (st : Step T) →
      Allows F slots id me word (λ z. z) (shows_all blank layout done plan (o ∷ []) n limit st me)
  shows_all_ok plan limit of_plan slots id word me st = λ s r long at low. (
    me.0,
    keeps,
    record {},
    subst (λ (z : List ℕ × List (View V)). F (record { words = z.0; homes = s.homes; views = z.1 }))
        (λ i. (sym (set_found s.words word 0) i, sym (set_there s.views id me.0 at) i)) r,
    (
      refl,
      λ o' ps e is. subst (λ z. AllSoFar blank (layout n) (done z) (plan z limit n) n ps) (same_one o o' e)
          (subst (λ z. AllSoFar blank (layout n) (done o) z n ps) of_plan
          (family_shows_all id ps s r (at ∙ ap some is))),
    ),
  )

  -- a step that the rule allows may show them too, as they are behind it
  pub showing_ok : (plan : T → ℕ → ℕ → ℕ → Process V → Type 0) (limit : ℕ) → Plan ≡ plan o limit n → (slots id word : ℕ)
      (me : Me T (View V)) (f : ℕ → ℕ) (told : ℕ → Me T (View V) → Type 0) → Allows F slots id me word f told →
      Allows F slots id me word f (λ m u. told m u × shows_behind blank layout done plan (o ∷ []) n limit u)
  showing_ok plan limit of_plan slots id word me f told allowed = λ s r long at low.
      let x = allowed s r long at low in
      let here = set_here s.views id x.0 (within s.views id me.0 at) in (
        x.0,
        x.1,
        x.2,
        x.3,
        (
          x.4,
          λ o' ps e is. subst (λ z. AllSoFar blank (layout n) (done z) (plan z limit n) n ps) (same_one o o' e)
              (subst (λ z. AllSoFar blank (layout n) (done o) z n ps) of_plan
              (family_shows_all id ps (stepped s word (f (slice_index s.words word)) id me.1 x.0 x.1) x.3 (here ∙ ap some is))),
        ),
      )
