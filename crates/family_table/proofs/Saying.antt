-- A process says a tag, or looks whether another one has said it: the family's rule allows both, since each cell is as it was, at a time
-- that is no earlier.
use Rattle.std.proofs.Common.{◌≡◌, ◌≢◌, ◌⊎◌, ℕ, zero, suc, ◌+◌, ◌*◌, ◌<◌, ◌≤◌, List, [], ◌∷◌, ◌++◌, map, length, get_or, set, refl}
use Rattle.std.proofs.Common.{sym, ap, ◌∙◌, subst, ⊎_elim, inl, inr, arith, le_refl, le_trans, length-append, slice_get, Some, append-nil}
use Rattle.std.proofs.lemmas.Bool.{cases_eq, cases_lt}
use Rattle.std.proofs.lemmas.Option.{none-some, same_Some}
use mathlib.Core.Option.{Option, some, none}
use lib.ListN.{get_elem?}
use Rattle.history_core.specs.Schedules.{positions}
use Rattle.history_core.proofs.Positions.{positions_mine, positions_other}
use Rattle.history_core.proofs.Places.{get_pushed_cases}
use Rattle.atomic_table.specs.Table.{State, Act, Allows, Valid, carried_after, keeps, stepped, step}
use Rattle.atomic_table.proofs.Lists.{at_set, set_here}
use Rattle.cell_contract.specs.Ends.{WasSaid}
use Rattle.cell_contract.specs.declared.said.Said.{Said}
use Rattle.cell_contract.specs.declared.said.Found.{Found}
use Rattle.family_table.specs.declared.notes.Process.{Process}
use Rattle.family_table.specs.declared.notes.Receipt.{Receipt}
use Rattle.family_table.specs.declared.notes.View.{View}
use Rattle.family_table.specs.declared.notes.View.TheVariants.{Has}
use Rattle.family_table.specs.Ends.{Finds, looks, says}
use Rattle.family_table.specs.Family.{total, of_cell, cell, holders, Shows, FamilyRule, AreSaid, last_said, says_by, finds_by}
use Rattle.family_table.specs.Layouts.{Layout, IsLayout, said_at, gather, Disjoint, Out, Distinct}
use Rattle.family_table.proofs.Numbered.{some_at}
use Rattle.family_table.proofs.Slices.{get_set_here, get_set_else, map_same, same_one, set_found, set_long, set_there, within}
use Rattle.family_table.proofs.Steps.{count_of, shows_set}
use Rattle.family_table.proofs.Tags.{last_more, last_there, tags_grow}
use Rattle.family_table.proofs.Totals.{total_set, total_two}

gather_same : (f : ℕ → ℕ) (n : ℕ) (d : ℕ) (xs ys : List ℕ) → ((i : ℕ) → i < n → get_or xs (f i) d ≡ get_or ys (f i) d) →
    gather f n d xs ≡ gather f n d ys
gather_same f zero d xs ys e = refl
gather_same f (suc n) d xs ys e = λ z. e zero (omega arith) z ∷ gather_same (λ i. f (suc i)) n d xs ys (λ i l. e (suc i) (omega arith)) z

only : {A : Type 0} (x z : A) (y : ℕ) → slice_get (x ∷ []) y ≡ Some z → x ≡ z
only x z zero e = same_Some x z e
only x z (suc y) e = absurd (none-some z e)

first_of : {V : Type 0} → Process V → View V → Process V
first_of d (Has (p ∷ ps)) = p
first_of d w = d

only_one : {V : Type 0} (p q : Process V) → Has (p ∷ []) ≡ Has (q ∷ []) → p ≡ q
unfolding first_of
only_one p q e = ap (first_of p) e

module _ {S V : Type 0} (blank : V) (l : Layout) (is : IsLayout l) (Rule : ℕ → State S V → Type 0) (Plan : ℕ → Process V → Type 0)
    (later : (now t : ℕ) (s : State S V) → now ≤ t → Rule now s → Rule t s) (n : ℕ) where
  abbrev F : State S (View V) → Type 0
  F = FamilyRule blank l Rule Plan n

  -- One process goes on by no cell's word: to this clock, in a schedule that names no other one more
  goes_on : (s : State S (View V)) (r : F s) (id t : ℕ) (v u : Process V) (words : List ℕ) (steps : List ℕ) →
      get_elem? s.views id ≡ some (Has (v ∷ [])) → u.who ≡ v.who → u.parts ≡ v.parts → u.held ≡ v.held → r.now ≤ t → u.clock ≤ t →
      t ≡ length steps → ((x who : ℕ) → slice_get steps x ≡ Some who → who < n) → u.times ≡ positions 1 v.who steps →
      ((j : ℕ) → j ≢ v.who → positions 1 j steps ≡ positions 1 j r.steps) → length words ≡ length s.words →
      ((i : ℕ) → i < l.words → get_or words i 0 ≡ get_or s.words i 0) → AreSaid l t words (set r.processes v.who u) → Plan v.who u →
      F (record { words = words; homes = s.homes; views = set s.views id (Has (u ∷ [])) })
  goes_on s r id t v u words steps at named parts held le clock long inside times others sized below tags plan =
      let who : ℕ = v.who in
      let there : get_elem? r.processes who ≡ some v = (r.shows id (Has (v ∷ [])) at).0 in
      let inside_list : who < length r.processes = within r.processes who v there in
      let P' : List (Process V) = set r.processes who u in
      record {
        now = t;
        processes = P';
        receipts = r.receipts;
        many = set_long r.processes who u ∙ r.many;
        sized = (sized ∙ r.sized.0, r.sized.1);
        cells = λ k lk.
            let G : Process V → V = λ (p : Process V). of_cell blank k p.parts in
            let told : List V = map (λ (p : Receipt V). of_cell blank k p.parts) r.receipts in
            let same : cell blank l k words s.homes P' r.receipts ≡ cell blank l k s.words s.homes r.processes r.receipts =
            λ z. record {
              words = gather_same (l.word k) l.cell_words 0 words s.words (λ i li. below (l.word k i) (is.word_in k i lk li)) z;
              homes = gather (l.slot k) l.cell_slots none s.homes;
              views = map_same G r.processes who v u there (ap (of_cell blank k) parts) z ++ told;
            } in
            subst (Rule t) (sym same) (later r.now t (cell blank l k s.words s.homes r.processes r.receipts) le (r.cells k lk));
        numbered = λ j z e. ⊎_elim
            (λ (b : (j ≡ who) × (u ≡ z)). ap (λ (q : Process V). q.who) (sym b.1) ∙ (named ∙ sym b.0))
            (λ (b : (j ≢ who) × (get_elem? r.processes j ≡ some z)). r.numbered j z b.1)
            (at_set r.processes who j u z e);
        clocks = λ j z e. ⊎_elim
            (λ (b : (j ≡ who) × (u ≡ z)). subst (λ (q : Process V). q.clock ≤ t) b.1 clock)
            (λ (b : (j ≢ who) × (get_elem? r.processes j ≡ some z)). le_trans (r.clocks j z b.1) le)
            (at_set r.processes who j u z e);
        told = λ p h. le_trans (r.told p h) le;
        steps = steps;
        long = long;
        within = inside;
        made = λ j z e. ⊎_elim
            (λ (b : (j ≡ who) × (u ≡ z)). ap (λ (q : Process V). q.times) (sym b.1)
            ∙ (times ∙ ap (λ q. positions 1 q steps) (sym b.0)))
            (λ (b : (j ≢ who) × (get_elem? r.processes j ≡ some z)). r.made j z b.1 ∙ sym (others j b.0))
            (at_set r.processes who j u z e);
        away = λ j z e. ⊎_elim
            (λ (b : (j ≡ who) × (u ≡ z)). subst (λ (q : Process V). Out s.homes q.held × Distinct q.held) b.1
            (subst (λ hs. Out s.homes hs × Distinct hs) (sym held) (r.away who v there)))
            (λ (b : (j ≢ who) × (get_elem? r.processes j ≡ some z)). r.away j z b.1)
            (at_set r.processes who j u z e);
        apart = λ i j y z d e ne. ⊎_elim
            (λ (a : (i ≡ who) × (u ≡ y)). ⊎_elim
            (λ (b : (j ≡ who) × (u ≡ z)). absurd (ne (a.0 ∙ sym b.0)))
            (λ (b : (j ≢ who) × (get_elem? r.processes j ≡ some z)).
            subst (λ (q : Process V). Disjoint q.held z.held) a.1
            (subst (λ hs. Disjoint hs z.held) (sym held) (r.apart who j v z there b.1 (λ h. b.0 (sym h)))))
            (at_set r.processes who j u z e))
            (λ (a : (i ≢ who) × (get_elem? r.processes i ≡ some y)). ⊎_elim
            (λ (b : (j ≡ who) × (u ≡ z)).
            subst (λ (q : Process V). Disjoint y.held q.held) b.1
            (subst (λ hs. Disjoint y.held hs) (sym held) (r.apart i who y v a.1 there a.0)))
            (λ (b : (j ≢ who) × (get_elem? r.processes j ≡ some z)). r.apart i j y z a.1 b.1 ne)
            (at_set r.processes who j u z e))
            (at_set r.processes who i u y d);
        shows = λ j y e. ⊎_elim
            (λ (b : (j ≡ id) × (Has (u ∷ []) ≡ y)). subst (Shows P' r.receipts) b.1
            (ap (get_elem? P') named ∙ set_here r.processes who u inside_list, tt))
            (λ (b : (j ≢ id) × (get_elem? s.views j ≡ some y)).
            let two = total_two (holders who) s.views id j (Has (v ∷ [])) y at b.1 (λ h. b.0 (sym h)) in
            let one = count_of who v refl in
            let most : total (holders who) s.views ≤ 1 = r.once who in
            let none_there : holders who y ≡ 0 = omega arith in
            shows_set r.processes r.receipts who u y none_there (r.shows j y b.1))
            (at_set s.views id j (Has (u ∷ [])) y e);
        once = λ z.
            let e = total_set (holders z) s.views id (Has (v ∷ [])) (Has (u ∷ [])) at in
            let most : total (holders z) s.views ≤ 1 = r.once z in
            let same : holders z (Has (u ∷ [])) ≡ holders z (Has (v ∷ [])) = ap (λ w. holders z (Has (record v { who = w } ∷ []))) named in
            let g : total (holders z) (set s.views id (Has (u ∷ []))) ≤ 1 = omega arith in
            g;
        tags = tags;
        planned = λ j z e. ⊎_elim
            (λ (b : (j ≡ who) × (u ≡ z)). subst (λ (q : ℕ × Process V). Plan q.0 q.1) (λ h. (sym b.0 h, b.1 h)) plan)
            (λ (b : (j ≢ who) × (get_elem? r.processes j ≡ some z)). r.planned j z b.1)
            (at_set r.processes who j u z e);
      }

  -- *A tag is said*: a store in the word of its process, outside the schedule
  pub says_ok : (slots id word : ℕ) (v : Process V) (cs : List (ℕ × S)) (tag : ℕ) → word ≡ said_at l v.who → v.who < n →
      (Plan v.who v → Plan v.who (says_by v tag)) →
      Allows F slots id (Has (v ∷ []), cs) word (λ _. tag) (λ _. says (step slots word tag 0 none) (Has (v ∷ []), cs) tag)
  says_ok slots id word v cs tag is_word inside goes s r long at low =
      let who : ℕ = v.who in
      let there : get_elem? r.processes who ≡ some v = (r.shows id (Has (v ∷ [])) at).0 in
      let size : length s.words ≡ l.words + 8 * n = r.sized.0 in
      let room : word < length s.words = let e : word ≡ said_at l v.who = is_word in omega arith in
      let words' : List ℕ = set s.words word tag in
      let new : Said = record { tag = tag; time = v.clock } in
      let u : Process V = says_by v tag in
      let clock : v.clock ≤ r.now = r.clocks who v there in (
        Has (u ∷ []),
        keeps,
        tt,
        goes_on s r id r.now v u words' r.steps at refl refl refl (le_refl r.now) clock r.long r.within (r.made who v there)
            (λ j ne. refl) (set_long s.words word tag)
            (λ i li. get_set_else s.words word i tag 0 (λ e. let b : word ≡ said_at l v.who = is_word in omega arith))
            (tags_grow l r.now r.now s.words words' r.processes who v u (new ∷ []) [] (le_refl r.now) there refl (sym (append-nil v.found))
            (λ y z e. subst (λ (q : Said). q.time ≤ r.now) (only new z y e) clock)
            (λ x f e. absurd (none-some f e))
            (ap (λ z. get_or words' z 0) (sym is_word) ∙ (get_set_here s.words word tag 0 room ∙ sym (last_more v.said new)))
            (λ j ne lj. get_set_else s.words word (said_at l j) tag 0
            (λ e. let a : said_at l j ≡ word = e in let b : word ≡ said_at l v.who = is_word in ne (omega arith)))
            r.tags)
            (goes (r.planned who v there)),
        λ w e. λ i. (Has (says_by (only_one v w e i) tag ∷ []), cs),
      )

  abbrev Looked : (s : State S (View V)) → ℕ → ℕ → ℕ → ℕ → ℕ → Process V → List (ℕ × S) → Type 0
  Looked s slots id word from tag v cs = (w : View V) × (a : Act S) × Valid s.homes cs a
      × F (stepped s word (get_or s.words word 0) id cs w a)
      × looks from tag (step slots word 0 0 none) (Has (v ∷ []), cs) (get_or s.words word 0) (w, carried_after cs a)

  -- nothing is found, and nothing changes
  looks_on : (s : State S (View V)) (r : F s) (slots id word from tag : ℕ) (v : Process V) (cs : List (ℕ × S)) →
      get_elem? s.views id ≡ some (Has (v ∷ [])) → (get_or s.words word 0 < tag) ⊎ (get_or s.words word 0 ≡ 0) →
      Looked s slots id word from tag v cs
  looks_on s r slots id word from tag v cs at short = (
    Has (v ∷ []),
    keeps,
    tt,
    subst (λ (z : List ℕ × List (View V)). F (record { words = z.0; homes = s.homes; views = z.1 }))
        (λ i. (sym (set_found s.words word 0) i, sym (set_there s.views id (Has (v ∷ [])) at) i)) r,
    (λ w e. (
      (λ there_is high. absurd (⊎_elim
          (λ (a : get_or s.words word 0 < tag). let b : tag ≤ get_or s.words word 0 = high in omega arith)
          (λ (a : get_or s.words word 0 ≡ 0). let b : 0 < get_or s.words word 0 = there_is in omega arith) short)),
      λ _. refl,
    )),
  )

  -- it is found: a step of the schedule
  looks_at : (s : State S (View V)) (r : F s) (slots id word from tag : ℕ) (v : Process V) (cs : List (ℕ × S)) →
      get_elem? s.views id ≡ some (Has (v ∷ [])) → word ≡ said_at l from → from < n →
      ((t : ℕ) → Plan v.who v → Plan v.who (finds_by v from tag t)) →
      0 < get_or s.words word 0 → tag ≤ get_or s.words word 0 → Looked s slots id word from tag v cs
  looks_at s r slots id word from tag v cs at is_word inside goes there_is high =
      let who : ℕ = v.who in
      let m : ℕ = get_or s.words word 0 in
      let t : ℕ = r.now + 1 in
      let there : get_elem? r.processes who ≡ some v = (r.shows id (Has (v ∷ [])) at).0 in
      let many : length r.processes ≡ n = r.many in
      let long : r.now ≡ length r.steps = r.long in
      let clock : v.clock ≤ r.now = r.clocks who v there in
      let inside_list : who < length r.processes = within r.processes who v there in
      let more = length-append r.steps (who ∷ []) in
      let steps : List ℕ = r.steps ++ who ∷ [] in
      let f : Found = record { who = from; tag = tag; time = t } in
      let u : Process V = finds_by v from tag t in
      let other = some_at r.processes from (omega arith) in
      let was = last_there other.0.said m (ap (λ z. get_or s.words z 0) is_word ∙ r.tags.last from other.0 other.1) there_is in
      let early : was.1.time ≤ r.now = r.tags.early from was.0 other.0 was.1 other.1 was.2 in
      let said : WasSaid other.0.said f = (
        was.0,
        was.1,
        was.2,
        (let e : was.1.tag ≡ m = was.3 in omega arith),
        (let z : was.1.time < t = omega arith in z),
      ) in
      let rule : F (record { words = s.words; homes = s.homes; views = set s.views id (Has (u ∷ [])) }) =
      goes_on s r id t v u s.words steps at refl refl refl (omega arith) (le_refl t) (let d : t ≡ length steps = omega arith in d)
      (λ y z e. ⊎_elim
      (λ (b : slice_get r.steps y ≡ Some z). r.within y z b)
      (λ (b : (y ≡ length r.steps) × (who ≡ z)). subst (λ q. q < n) b.1 (let g : who < n = omega arith in g))
      (get_pushed_cases r.steps who y z e))
      (ap (λ zs. zs ++ t ∷ []) (r.made who v there)
      ∙ (ap (λ z. positions 1 who r.steps ++ z ∷ []) (let d : t ≡ 1 + length r.steps = omega arith in d)
      ∙ sym (positions_mine 1 who r.steps)))
      (λ j ne. positions_other 1 j who r.steps (λ h. ne (sym h))) refl (λ i li. refl)
      (tags_grow l r.now t s.words s.words r.processes who v u [] (f ∷ []) (omega arith) there (sym (append-nil v.said)) refl
      (λ y z e. absurd (none-some z e))
      (λ x g e. subst (λ (q : Found). (w : Process V) × (get_elem? r.processes q.who ≡ some w) × WasSaid w.said q) (only f g x e)
      (other.0, other.1, said))
      (r.tags.last who v there) (λ j ne lj. refl) r.tags)
      (goes t (r.planned who v there)) in (
        Has (u ∷ []),
        keeps,
        tt,
        subst (λ zs. F (record { words = zs; homes = s.homes; views = set s.views id (Has (u ∷ [])) })) (sym (set_found s.words word 0))
            rule,
        (λ w e. (
          (λ _ _. (
            t,
            subst (λ (q : Process V). q.clock < t) (only_one v w e) (let z : v.clock < t = omega arith in z),
            λ i. (Has (finds_by (only_one v w e i) from tag t ∷ []), cs),
          )),
          λ short. absurd (⊎_elim
              (λ (a : get_or s.words word 0 < tag). omega arith)
              (λ (a : get_or s.words word 0 ≡ 0). omega arith) short),
        )),
      )

  -- *A look*: a load of another process's word
  pub looks_ok : (slots id word from tag : ℕ) (v : Process V) (cs : List (ℕ × S)) → word ≡ said_at l from → from < n →
      ((t : ℕ) → Plan v.who v → Plan v.who (finds_by v from tag t)) →
      Allows F slots id (Has (v ∷ []), cs) word (λ z. z) (looks from tag (step slots word 0 0 none) (Has (v ∷ []), cs))
  looks_ok slots id word from tag v cs is_word inside goes s r long at low = ⊎_elim
      (λ (a : get_or s.words word 0 < tag). looks_on s r slots id word from tag v cs at (inl a))
      (λ (a : tag ≤ get_or s.words word 0). ⊎_elim
      (λ (b : get_or s.words word 0 ≡ 0). looks_on s r slots id word from tag v cs at (inr b))
      (λ (b : get_or s.words word 0 ≢ 0).
      looks_at s r slots id word from tag v cs at is_word inside goes (omega (arith, b)) a)
      (cases_eq (get_or s.words word 0) 0))
      (cases_lt (get_or s.words word 0) tag)
