-- Receipts in a family: what one cell allows each time, in all cells at once.
use Rattle.std.proofs.Common.{◌≡◌, ◌≢◌, ◌⊎◌, ℕ, zero, suc, ◌+◌, ◌<◌, ◌≤◌, max, List, [], ◌∷◌, ◌++◌, map, length, set, refl, sym, ap, ◌∙◌}
use Rattle.std.proofs.Common.{subst}
use Rattle.std.proofs.Common.{⊎_elim, inl, inr, arith, le_refl}
use Rattle.std.proofs.lemmas.List.{map-append}
use mathlib.Core.Option.{some}
use lib.ListN.{get_elem?}
use Rattle.atomic_table.specs.Table.{State, Splits, Joins}
use Rattle.atomic_table.proofs.Lists.{at_set, at_snoc, at_map, at_longer, set_here, set_again}
use Rattle.family_table.specs.declared.notes.Process.{Process}
use Rattle.family_table.specs.declared.notes.Receipt.{Receipt}
use Rattle.family_table.specs.declared.notes.View.{View}
use Rattle.family_table.specs.declared.notes.View.TheVariants.{Told, Has}
use Rattle.family_table.specs.Layouts.{Layout, IsInCell, Disjoint, Out, Distinct}
use Rattle.family_table.specs.Family.{total, of_cell, cell, holders, Shows, FamilyRule, heard_parts, receipt_of, heard_by, CellTells}
use Rattle.family_table.specs.Family.{CellHears}
use Rattle.family_table.proofs.Slices.{within, map_set, set_front, set_long, in_front}
use Rattle.family_table.proofs.Steps.{count_of, shows_set}
use Rattle.family_table.proofs.Tags.{tags_kept}
use Rattle.family_table.proofs.Totals.{total_set, total_snoc, total_two}

module _ {A : Type 0} where
  in_snoc : (xs : List A) (y x : A) → IsInCell x (xs ++ y ∷ []) → IsInCell x xs ⊎ (x ≡ y)
  in_snoc [] y x (inl e) = inr e
  in_snoc [] y x (inr h) = absurd h
  in_snoc (z ∷ xs) y x (inl e) = inl (inl e)
  in_snoc (z ∷ xs) y x (inr h) = ⊎_elim (λ (k : IsInCell x xs). inl (inr k)) (λ (e : x ≡ y). inr e) (in_snoc xs y x h)

  in_last : (xs : List A) (x : A) → IsInCell x (xs ++ x ∷ [])
  in_last [] x = inl refl
  in_last (y ∷ xs) x = inr (in_last xs x)

  place_of : (xs : List A) (x : A) → IsInCell x xs → (i : ℕ) × (get_elem? xs i ≡ some x)
  place_of [] x h = absurd h
  place_of (y ∷ ys) x (inl e) = (zero, ap some (sym e))
  place_of (y ∷ ys) x (inr h) = let t = place_of ys x h in (suc t.0, t.1)

  at_behind : (xs ys : List A) (i : ℕ) → get_elem? (xs ++ ys) (length xs + i) ≡ get_elem? ys i
  at_behind [] ys i = ap (get_elem? ys) (omega arith)
  at_behind (x ∷ xs) ys i =
      ap (get_elem? (x ∷ (xs ++ ys))) (let e : suc (length xs) + i ≡ suc (length xs + i) = omega arith in e) ∙ at_behind xs ys i

  map_long : {B : Type 0} (f : A → B) (xs : List A) → length (map f xs) ≡ length xs
  map_long f [] = refl
  map_long f (x ∷ xs) = ap suc (map_long f xs)

  snoc_behind : (xs ys : List A) (z : A) → xs ++ (ys ++ z ∷ []) ≡ (xs ++ ys) ++ z ∷ []
  snoc_behind [] ys z = refl
  snoc_behind (x ∷ xs) ys z = ap (λ zs. x ∷ zs) (snoc_behind xs ys z)

module _ {V : Type 0} (blank : V) (receipt : V → V) (hears : V → V → V) (plain : receipt blank ≡ blank) (deaf : (v : V) → hears v blank ≡ v)
    (mute : (w : V) → hears blank w ≡ blank) where
  pub receipt_cell : (k : ℕ) (vs : List V) → of_cell blank k (map receipt vs) ≡ receipt (of_cell blank k vs)
  receipt_cell k [] = sym plain
  receipt_cell zero (v ∷ vs) = refl
  receipt_cell (suc k) (v ∷ vs) = receipt_cell k vs

  pub heard_cell : (k : ℕ) (vs ws : List V) → of_cell blank k (heard_parts hears vs ws) ≡ hears (of_cell blank k vs) (of_cell blank k ws)
  heard_cell k [] ws = sym (mute (of_cell blank k ws))
  heard_cell k (v ∷ vs) [] = sym (deaf (of_cell blank k (v ∷ vs)))
  heard_cell zero (v ∷ vs) (w ∷ ws) = refl
  heard_cell (suc k) (v ∷ vs) (w ∷ ws) = heard_cell k vs ws

  module _ {S : Type 0} (l : Layout) (Rule : ℕ → State S V → Type 0) (Plan : ℕ → Process V → Type 0) (Idle : V → Type 0) (n : ℕ) where
    abbrev F : State S (View V) → Type 0
    F = FamilyRule blank l Rule Plan n

    pub family_tells : CellTells Rule Idle receipt → (id : ℕ) (v : Process V) → ((k : ℕ) → Idle (of_cell blank k v.parts)) →
        Splits F id (Has (v ∷ [])) (Has (v ∷ [])) (Told (receipt_of receipt v))
    family_tells tells id v idle s r at =
        let p : Receipt V = receipt_of receipt v in
        let there : get_elem? r.processes v.who ≡ some v = (r.shows id (Has (v ∷ [])) at).0 in
        let views : s.views ++ Told p ∷ [] ≡ set s.views id (Has (v ∷ [])) ++ Told p ∷ [] =
        ap (λ zs. zs ++ Told p ∷ []) (sym (set_again s.views id (Has (v ∷ [])) at)) in
        let rule : F (record { words = s.words; homes = s.homes; views = s.views ++ Told p ∷ [] }) = record {
          now = r.now;
          processes = r.processes;
          receipts = r.receipts ++ p ∷ [];
          many = r.many;
          sized = r.sized;
          cells = λ k lk.
              let P : List V = map (λ (q : Process V). of_cell blank k q.parts) r.processes in
              let R : List V = map (λ (q : Receipt V). of_cell blank k q.parts) r.receipts in
              let old : State S V = cell blank l k s.words s.homes r.processes r.receipts in
              let told = tells r.now old v.who (of_cell blank k v.parts) (r.cells k lk)
              (at_longer P R v.who _ (at_map (λ (q : Process V). of_cell blank k q.parts) r.processes v.who v there)) (idle k) in
              let same : (P ++ R) ++ receipt (of_cell blank k v.parts) ∷ []
              ≡ P ++ map (λ (q : Receipt V). of_cell blank k q.parts) (r.receipts ++ p ∷ []) =
              ap (λ z. (P ++ R) ++ z ∷ []) (sym (receipt_cell k v.parts))
              ∙ (sym (snoc_behind P R (of_cell blank k p.parts))
              ∙ ap (λ zs. P ++ zs) (sym (map-append (λ (q : Receipt V). of_cell blank k q.parts) r.receipts (p ∷ [])))) in
              subst (λ vs. Rule r.now (record { words = old.words; homes = old.homes; views = vs })) same told;
          numbered = r.numbered;
          clocks = r.clocks;
          told = λ q h. ⊎_elim (λ (k : IsInCell q r.receipts). r.told q k)
              (λ (e : q ≡ p). subst (λ (z : Receipt V). z.clock ≤ r.now) (sym e) (r.clocks v.who v there)) (in_snoc r.receipts p q h);
          steps = r.steps;
          long = r.long;
          within = r.within;
          made = r.made;
          away = r.away;
          apart = r.apart;
          tags = r.tags;
          planned = r.planned;
          shows = λ j x e. ⊎_elim (λ (h : get_elem? s.views j ≡ some x). more r.processes r.receipts p x (r.shows j x h))
              (λ (h : Told p ≡ x). subst (Shows r.processes (r.receipts ++ p ∷ [])) h (in_last r.receipts p))
              (at_snoc s.views (Told p) x j e);
          once = λ who. let a = total_snoc (holders who) s.views (Told p) in let most : total (holders who) s.views ≤ 1 = r.once who in
              let g : total (holders who) (s.views ++ Told p ∷ []) ≤ 1 = omega arith in
              g;
        } in
        subst (λ vs. F (record { words = s.words; homes = s.homes; views = vs })) views rule where
          more : (P : List (Process V)) (R : List (Receipt V)) (p : Receipt V) (x : View V) → Shows P R x → Shows P (R ++ p ∷ []) x
          more P R p (Told q) h = in_front R (p ∷ []) q h
          more P R p (Has qs) h = h

    -- a receipt is told once more: its view stands twice, and nothing else changes
    pub family_repeats : (id : ℕ) (p : Receipt V) → Splits F id (Told p) (Told p) (Told p)
    family_repeats id p s r at =
        let views : s.views ++ Told p ∷ [] ≡ set s.views id (Told p) ++ Told p ∷ [] =
        ap (λ zs. zs ++ Told p ∷ []) (sym (set_again s.views id (Told p) at)) in
        let rule : F (record { words = s.words; homes = s.homes; views = s.views ++ Told p ∷ [] }) = record {
          now = r.now;
          processes = r.processes;
          receipts = r.receipts;
          many = r.many;
          sized = r.sized;
          cells = r.cells;
          numbered = r.numbered;
          clocks = r.clocks;
          told = r.told;
          steps = r.steps;
          long = r.long;
          within = r.within;
          made = r.made;
          away = r.away;
          apart = r.apart;
          tags = r.tags;
          planned = r.planned;
          shows = λ j x e. ⊎_elim (λ (h : get_elem? s.views j ≡ some x). r.shows j x h)
              (λ (h : Told p ≡ x). subst (Shows r.processes r.receipts) h (r.shows id (Told p) at)) (at_snoc s.views (Told p) x j e);
          once = λ who. let a = total_snoc (holders who) s.views (Told p) in let most : total (holders who) s.views ≤ 1 = r.once who in
              let g : total (holders who) (s.views ++ Told p ∷ []) ≤ 1 = omega arith in
              g;
        } in
        subst (λ vs. F (record { words = s.words; homes = s.homes; views = vs })) views rule

    pub family_learns : CellHears Rule Idle hears →
        ((i : ℕ) (v : Process V) (p : Receipt V) → Plan i v → Plan i (heard_by hears v p)) →
        (id other : ℕ) (v : Process V) (p : Receipt V) →
        ((k : ℕ) → Idle (of_cell blank k v.parts)) → Joins F id (Has (v ∷ [])) other (Told p) (Has (heard_by hears v p ∷ [])) (Has [])
    family_learns heard stays id other v p idle s r at apart there =
        let u : Process V = heard_by hears v p in
        let who : ℕ = v.who in
        let mine : get_elem? r.processes who ≡ some v = (r.shows id (Has (v ∷ [])) at).0 in
        let at_other : get_elem? s.views other ≡ some (Told p) = ⊎_elim (λ (h : (other ≡ id) × (Has (u ∷ []) ≡ Told p)). absurd (apart h.0))
        (λ (h : (other ≢ id) × (get_elem? s.views other ≡ some (Told p))). h.1) (at_set s.views id other (Has (u ∷ [])) (Told p) there) in
        let named : IsInCell p r.receipts = r.shows other (Told p) at_other in
        let place = place_of r.receipts p named in
        let inside : who < length r.processes = within r.processes who v mine in
        let vs : List (View V) = set (set s.views id (Has (u ∷ []))) other (Has []) in
        record {
          now = r.now;
          processes = set r.processes who u;
          receipts = r.receipts;
          many = set_long r.processes who u ∙ r.many;
          sized = r.sized;
          cells = λ k lk.
              let G : Process V → V = λ (q : Process V). of_cell blank k q.parts in
              let H : Receipt V → V = λ (q : Receipt V). of_cell blank k q.parts in
              let P : List V = map G r.processes in
              let R : List V = map H r.receipts in
              let old : State S V = cell blank l k s.words s.homes r.processes r.receipts in
              let long : length P ≡ length r.processes = map_long G r.processes in
              let at_it : get_elem? (P ++ R) (length P + place.0) ≡ some (H p) =
              at_behind P R place.0 ∙ at_map H r.receipts place.0 p place.1 in
              let told = heard r.now old who (length P + place.0) (G v) (H p) (r.cells k lk)
              (at_longer P R who (G v) (at_map G r.processes who v mine)) at_it (λ e. absurd (omega arith)) (idle k) in
              let same : set (P ++ R) who (hears (G v) (H p)) ≡ map G (set r.processes who u) ++ R =
              set_front P R who (hears (G v) (H p)) (omega arith)
              ∙ ap (λ zs. zs ++ R) (ap (set P who) (sym (heard_cell k v.parts p.parts)) ∙ sym (map_set G r.processes who u)) in
              subst (λ zs. Rule r.now (record { words = old.words; homes = old.homes; views = zs })) same told;
          numbered = λ j z e. ⊎_elim
              (λ (b : (j ≡ who) × (u ≡ z)). ap (λ (q : Process V). q.who) (sym b.1) ∙ sym b.0)
              (λ (b : (j ≢ who) × (get_elem? r.processes j ≡ some z)). r.numbered j z b.1)
              (at_set r.processes who j u z e);
          clocks = λ j z e. ⊎_elim
              (λ (b : (j ≡ who) × (u ≡ z)). subst (λ (q : Process V). q.clock ≤ r.now) b.1
              (let a : v.clock ≤ r.now = r.clocks who v mine in let d : p.clock ≤ r.now = r.told p named in
              max_by v.clock p.clock r.now a d))
              (λ (b : (j ≢ who) × (get_elem? r.processes j ≡ some z)). r.clocks j z b.1)
              (at_set r.processes who j u z e);
          told = r.told;
          tags = tags_kept l r.now r.now s.words s.words r.processes who v u (le_refl r.now) mine refl refl (λ j lj. refl) r.tags;
          planned = λ j z e. ⊎_elim
              (λ (b : (j ≡ who) × (u ≡ z)). subst (λ (q : ℕ × Process V). Plan q.0 q.1) (λ h. (sym b.0 h, b.1 h))
              (stays who v p (r.planned who v mine)))
              (λ (b : (j ≢ who) × (get_elem? r.processes j ≡ some z)). r.planned j z b.1)
              (at_set r.processes who j u z e);
          steps = r.steps;
          long = r.long;
          within = r.within;
          made = λ j z e. let b = as_before r.processes who v u j z refl refl mine e in b.1 ∙ r.made j b.0 b.3;
          away = λ j z e. let b = as_before r.processes who v u j z refl refl mine e in
              subst (λ zs. Out s.homes zs × Distinct zs) (sym b.2) (r.away j b.0 b.3);
          apart = λ i j y z d e ne.
              let a = as_before r.processes who v u i y refl refl mine d in
              let b = as_before r.processes who v u j z refl refl mine e in
              subst (λ (zs : List ℕ × List ℕ). Disjoint zs.0 zs.1) (λ h. (sym a.2 h, sym b.2 h)) (r.apart i j a.0 b.0 a.3 b.3 ne);
          shows = λ j x e. ⊎_elim (λ (b : (j ≡ other) × (Has [] ≡ x)). subst (Shows (set r.processes who u) r.receipts) b.1 tt)
              (λ (b : (j ≢ other) × (get_elem? (set s.views id (Has (u ∷ []))) j ≡ some x)). ⊎_elim
              (λ (d : (j ≡ id) × (Has (u ∷ []) ≡ x)). subst (Shows (set r.processes who u) r.receipts) d.1
              (set_here r.processes who u inside, tt))
              (λ (d : (j ≢ id) × (get_elem? s.views j ≡ some x)).
              let two = total_two (holders who) s.views id j (Has (v ∷ [])) x at d.1 (λ h. d.0 (sym h)) in
              let one = count_of who v refl in
              let most : total (holders who) s.views ≤ 1 = r.once who in
              let none_there : holders who x ≡ 0 = omega arith in
              shows_set r.processes r.receipts who u x none_there (r.shows j x d.1))
              (at_set s.views id j (Has (u ∷ [])) x b.1))
              (at_set (set s.views id (Has (u ∷ []))) other j (Has []) x e);
          once = λ z.
              let a = total_set (holders z) s.views id (Has (v ∷ [])) (Has (u ∷ [])) at in
              let b = total_set (holders z) (set s.views id (Has (u ∷ []))) other (Told p) (Has []) there in
              let most : total (holders z) s.views ≤ 1 = r.once z in
              let g : total (holders z) vs ≤ 1 = omega arith in
              g;
        } where
          max_by : (a b c : ℕ) → a ≤ c → b ≤ c → max a b ≤ c
          max_by a b c x y = grind arith

          as_before : (P : List (Process V)) (who : ℕ) (v u : Process V) (j : ℕ) (z : Process V) → u.times ≡ v.times → u.held ≡ v.held →
              get_elem? P who ≡ some v → get_elem? (set P who u) j ≡ some z
              → (y : Process V) × (z.times ≡ y.times) × (z.held ≡ y.held) × (get_elem? P j ≡ some y)
          as_before P who v u j z t h mine e = ⊎_elim
              (λ (b : (j ≡ who) × (u ≡ z)). (
                v,
                ap (λ (q : Process V). q.times) (sym b.1) ∙ t,
                ap (λ (q : Process V). q.held) (sym b.1) ∙ h,
                ap (get_elem? P) b.0 ∙ mine,
              ))
              (λ (b : (j ≢ who) × (get_elem? P j ≡ some z)). (z, refl, refl, b.1))
              (at_set P who j u z e)

pub heard_long : {V : Type 0} (hears : V → V → V) (vs ws : List V) → length (heard_parts hears vs ws) ≡ length vs
heard_long hears [] ws = refl
heard_long hears (v ∷ vs) [] = refl
heard_long hears (v ∷ vs) (w ∷ ws) = ap suc (heard_long hears vs ws)
