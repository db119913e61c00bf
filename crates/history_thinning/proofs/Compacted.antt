-- Rows are moved down, one after the other, where they are of use: the groups stay.
use Rattle.std.proofs.Common.{◌≡◌, ◌≢◌, ℕ, zero, suc, ◌+◌, ◌<◌, ◌≤◌, Bool, true, false, List, [], ◌∷◌, length, set, slice_get, take}
use Rattle.std.proofs.Common.{Option, None, Some, refl, sym, ◌∙◌, ap, subst, ◌⊎◌, inl, inr, arith}
use Rattle.std.specs.Prelude.{if◌then◌else◌, nat_eq, ◌||◌}
use Rattle.std.specs.Option.{option_and_then, option_map}
use Rattle.std.proofs.lemmas.Bool.{cases_eq}
use Rattle.std.proofs.lemmas.Bool.Decides.{nat_tests}
use Rattle.std.proofs.lemmas.List.{length-set, length-take-le}
use Rattle.std.proofs.lemmas.Option.{none-some, same_Some, slice_get-map, slice_get_past, slice_get_within}
use Rattle.history_core.specs.declared.history.Op.{Op}
use Rattle.history_core.proofs.Counts.{front_get}
use Rattle.history_core.proofs.JoinedPlaces.{taken}
use Rattle.history_core.proofs.Places.{get_set_other, get_set_same}
use Rattle.history_thinning.specs.declared.group.Placed.{Placed}
use Rattle.history_thinning.specs.declared.group.Roles.{Roles}
use Rattle.history_thinning.specs.inner.Compacting.{has_role, if_used, item_at, moved_index, moved_roles, Settles, user_of}
use Rattle.history_thinning.specs.inner.Kept.{AreThinned, Group, group_at, groups_at, IsGroup, IsIndex, nowhere, placed_at}
use Rattle.history_thinning.specs.inner.Kept.{placed_of}
use Rattle.history_thinning.proofs.RowLemmas.{Alike, alike_kept, group_is, group_path, placed_is}

same_number : (number : ℕ) → nat_eq number number ≡ true
same_number number = grind (arith, nat_tests)

other_number : (a b : ℕ) → a ≢ b → nat_eq a b ≡ false
other_number a b ne = grind (arith, nat_tests)

-- of n rows those below `to` are settled, and those from `from` on are still to come
abbrev pub IsLive : ℕ → ℕ → ℕ → Type 0
IsLive from to i = (i < to) ⊎ (from ≤ i)

abbrev pub IsPart : ℕ → ℕ → ℕ → ℕ → Type 0
IsPart n from to index = (index < to) ⊎ (((from ≤ index) × (index < n)) ⊎ (index ≡ nowhere))

pub record AreParts (n from to : ℕ) (own : Roles) : Type 0 where
  pub write : IsPart n from to own.write
  pub first : IsPart n from to own.first
  pub last : IsPart n from to own.last
  pub refused : IsPart n from to own.refused

pub record IsPartly (log : List (Op ℕ)) (groups : List Group) (n from to : ℕ) (ops : List (Op ℕ)) (places : List ℕ) (roles : List Roles)
    : Type 0 where
  pub ops_long : length ops ≡ n
  pub places_long : length places ≡ n
  pub few : n ≤ nowhere
  pub down : to ≤ from
  pub are : (i p : ℕ) (o : Op ℕ) → slice_get places i ≡ Some p → slice_get ops i ≡ Some o → slice_get log p ≡ Some o
  pub rise : (i j p q : ℕ) → i < j → IsLive from to i → IsLive from to j → slice_get places i ≡ Some p → slice_get places j ≡ Some q → p < q
  pub within : (m : ℕ) (own : Roles) → slice_get roles m ≡ Some own → AreParts n from to own
  pub each : (m : ℕ) (group : Group) → slice_get groups m ≡ Some group → IsGroup log m group
  pub alike : Alike (groups_at ops places roles) groups

pub partly_first : (log ops : List (Op ℕ)) (places : List ℕ) (roles : List Roles) → AreThinned log ops places roles →
    IsPartly log (groups_at ops places roles) (length ops) 0 0 ops places roles
partly_first log ops places roles h = record {
  ops_long = refl;
  places_long = h.rows.long;
  few = h.rows.few;
  down = omega arith;
  are = h.rows.are;
  rise = λ i j p q l li lj. h.rows.rise i j p q l;
  within = λ m own e.
      let w = h.within m own e in
      record {
        write = part own.write w.write;
        first = part own.first w.first;
        last = part own.last w.last;
        refused = part own.refused w.refused;
      };
  each = h.kept.each;
  alike = λ m. refl;
}
  where
    part : (k : ℕ) → (k < length ops) ⊎ (k ≡ nowhere) → IsPart (length ops) 0 0 k
    part k (inl l) = inr (inl (omega arith, l))
    part k (inr s) = inr (inr s)

-- one of the roles is this index
abbrev Names : Roles → ℕ → Type 0
Names own k = (own.write ≡ k) ⊎ ((own.first ≡ k) ⊎ ((own.last ≡ k) ⊎ (own.refused ≡ k)))

any : (a b c d : Bool) → (a ≡ true) ⊎ ((b ≡ true) ⊎ ((c ≡ true) ⊎ (d ≡ true))) → (a || b || c || d) ≡ true
any true b c d h = refl
any false true c d h = refl
any false false true d h = refl
any false false false true h = refl
any false false false false (inl e) = cc
any false false false false (inr (inl e)) = cc
any false false false false (inr (inr (inl e))) = cc
any false false false false (inr (inr (inr e))) = cc

equals : (a k : ℕ) → a ≡ k → nat_eq a k ≡ true
equals a k e = ap (λ z. nat_eq z k) e ∙ same_number k

names_is : (w f l r k : ℕ) → (w ≡ k) ⊎ ((f ≡ k) ⊎ ((l ≡ k) ⊎ (r ≡ k))) →
    (nat_eq w k || nat_eq f k || nat_eq l k || nat_eq r k) ≡ true
names_is w f l r k (inl e) = any (nat_eq w k) (nat_eq f k) (nat_eq l k) (nat_eq r k) (inl (equals w k e))
names_is w f l r k (inr (inl e)) = any (nat_eq w k) (nat_eq f k) (nat_eq l k) (nat_eq r k) (inr (inl (equals f k e)))
names_is w f l r k (inr (inr (inl e))) = any (nat_eq w k) (nat_eq f k) (nat_eq l k) (nat_eq r k) (inr (inr (inl (equals l k e))))
names_is w f l r k (inr (inr (inr e))) = any (nat_eq w k) (nat_eq f k) (nat_eq l k) (nat_eq r k) (inr (inr (inr (equals r k e))))

if_used_is : (found : Option Roles) (number index k : ℕ) → if_used found number index ≡ Some k →
    (own : Roles) × (found ≡ Some own) × (number ≡ k)
if_used_is None number index k h = cc
if_used_is (Some own) number index k h = by (has_role own index) h
  where
    by : (b : Bool) → (if b then Some number else None) ≡ Some k → (x : Roles) × (Some own ≡ Some x) × (number ≡ k)
    by true e = (own, refl, same_Some number k e)
    by false e = cc

pub some_at : {X : Type 0} (xs : List X) (k : ℕ) → k < length xs → (x : X) × (slice_get xs k ≡ Some x)
some_at [] k l = absurd (omega arith)
some_at (x ∷ xs) zero l = (x, refl)
some_at (x ∷ xs) (suc k) l = some_at xs k (omega arith)

module _ (log : List (Op ℕ)) (groups : List Group) (n from to : ℕ) (ops : List (Op ℕ)) (places : List ℕ) (roles : List Roles)
    (h : IsPartly log groups n from to ops places roles) (inside : from < n) (o : Op ℕ) (p : ℕ) (at_op : slice_get ops from ≡ Some o)
    (at_place : slice_get places from ≡ Some p)
  where
    abbrev row : Placed
    row = record { op = o; place = p }

    row_at : placed_at ops places from ≡ Some row
    row_at = placed_is ops places from p o at_op at_place

    -- whose row it is
    owner : (m : ℕ) (own : Roles) → slice_get roles m ≡ Some own → Names own from → o.item ≡ Some m
    owner m own e names = by names
      where
        group : IsGroup log m (group_at ops places own)
        group = h.each m (group_at ops places own) (sym (h.alike m) ∙ group_is ops places roles m own e)

        is : (k : ℕ) → k ≡ from → placed_at ops places k ≡ Some row
        is k s = ap (placed_at ops places) s ∙ row_at

        by : Names own from → o.item ≡ Some m
        by (inl s) = (group.write row (is own.write s)).0.item
        by (inr (inl s)) = (group.first row (is own.first s)).0.item
        by (inr (inr (inl s))) = (group.last row (is own.last s)).item
        by (inr (inr (inr s))) = (group.refused row (is own.refused s)).0.item

    user_is : (m : ℕ) (own : Roles) → slice_get roles m ≡ Some own → Names own from → user_of ops roles from ≡ Some m
    user_is m own e names =
        ap (λ z. option_and_then (λ number. if_used (slice_get roles number) number from) (option_and_then (λ (x : Op ℕ). x.item) z)) at_op
        ∙ ap (option_and_then (λ number. if_used (slice_get roles number) number from)) (owner m own e names)
        ∙ ap (λ z. if_used z m from) e
        ∙ ap (λ b. if b then Some m else None) (names_is own.write own.first own.last own.refused from names)

    -- an index that isn't the row's
    part_later : (next k : ℕ) → to ≤ next → IsPart n from to k → k ≢ from → IsPart n (from + 1) next k
    part_later next k up (inl l) ne = inl (omega arith)
    part_later next k up (inr (inl w)) ne = let a : from ≤ k = w.0 in inr (inl (omega arith, w.1))
    part_later next k up (inr (inr s)) ne = inr (inr s)

    parts_later : (next : ℕ) (own : Roles) → to ≤ next → AreParts n from to own → (Names own from → ⊥) → AreParts n (from + 1) next own
    parts_later next own up w none = record {
      write = part_later next own.write up w.write (λ e. none (inl e));
      first = part_later next own.first up w.first (λ e. none (inr (inl e)));
      last = part_later next own.last up w.last (λ e. none (inr (inr (inl e))));
      refused = part_later next own.refused up w.refused (λ e. none (inr (inr (inr e))));
    }

    live_old : (i : ℕ) → IsLive (from + 1) to i → IsLive from to i
    live_old i (inl l) = inl l
    live_old i (inr l) = inr (omega arith)

    -- a row that nobody needs
    pub partly_none : user_of ops roles from ≡ None → IsPartly log groups n (from + 1) to ops places roles
    partly_none none = record {
      ops_long = h.ops_long;
      places_long = h.places_long;
      few = h.few;
      down = let d = h.down in omega arith;
      are = h.are;
      rise = λ i j a b l li lj. h.rise i j a b l (live_old i li) (live_old j lj);
      within = λ m own e. parts_later to own (omega arith) (h.within m own e)
          (λ names. absurd (none-some m (sym none ∙ user_is m own e names)));
      each = h.each;
      alike = h.alike;
    }

    module _ (number : ℕ) (mine : Roles) (used : user_of ops roles from ≡ Some number) (at : slice_get roles number ≡ Some mine) where
      abbrev new_ops : List (Op ℕ)
      new_ops = set ops to o

      abbrev new_places : List ℕ
      new_places = set places to p

      abbrev new_roles : List Roles
      new_roles = set roles number (moved_roles from to mine)

      there : to < length ops
      there = let d = h.down in omega (arith, h.ops_long, inside)

      there_too : to < length places
      there_too = let d = h.down in omega (arith, h.places_long, inside)

      op_there : slice_get new_ops to ≡ Some o
      op_there = let w = some_at ops to there in get_set_same ops to w.0 o w.1

      place_there : slice_get new_places to ≡ Some p
      place_there = let w = some_at places to there_too in get_set_same places to w.0 p w.1

      apart : (k : ℕ) → IsPart n from to k → k ≢ from → k ≢ to
      apart k (inl l) ne e = absurd (omega arith)
      apart k (inr (inl w)) ne e = let a : from ≤ k = w.0 in let d = h.down in absurd (ne (omega arith))
      apart k (inr (inr s)) ne e = let d = h.down in let f = h.few in absurd (omega (arith, inside))

      stays : (k : ℕ) → IsPart n from to k → k ≢ from → placed_at new_ops new_places k ≡ placed_at ops places k
      stays k w ne =
          ap (λ z. placed_of z (slice_get new_places k)) (get_set_other ops to k o (apart k w ne))
          ∙ ap (placed_of (slice_get ops k)) (get_set_other places to k p (apart k w ne))

      moved_is : (k : ℕ) → k ≡ from → moved_index from to k ≡ to
      moved_is k e = ap (λ z. if nat_eq z from then to else z) e ∙ ap (λ b. if b then to else from) (same_number from)

      not_moved : (k : ℕ) → k ≢ from → moved_index from to k ≡ k
      not_moved k ne = ap (λ b. if b then to else k) (other_number k from ne)

      moved_same : (k : ℕ) → IsPart n from to k → placed_at new_ops new_places (moved_index from to k) ≡ placed_at ops places k
      moved_same k w = elim (cases_eq k from) [
        | inl e ↦
            ap (placed_at new_ops new_places) (moved_is k e) ∙ placed_is new_ops new_places to p o op_there place_there ∙ sym row_at
            ∙ ap (placed_at ops places) (sym e)
        | inr ne ↦ ap (placed_at new_ops new_places) (not_moved k ne) ∙ stays k w ne
      ]

      moved_part : (k : ℕ) → IsPart n from to k → IsPart n (from + 1) (to + 1) (moved_index from to k)
      moved_part k w = elim (cases_eq k from) [
        | inl e ↦ inl (let s : moved_index from to k ≡ to = moved_is k e in omega arith)
        | inr ne ↦ subst (λ z. IsPart n (from + 1) (to + 1) z) (sym (not_moved k ne)) (part_later (to + 1) k (omega arith) w ne)
      ]

      -- another record has no role there
      others_none : (m : ℕ) (own : Roles) → m ≢ number → slice_get roles m ≡ Some own → Names own from → ⊥
      others_none m own ne e names = ne (same_Some m number (sym (user_is m own e names) ∙ used))

      within_next : (m : ℕ) (own : Roles) → slice_get new_roles m ≡ Some own → AreParts n (from + 1) (to + 1) own
      within_next m own e = elim (cases_eq m number) [
        | inl s ↦
            let w = h.within number mine at in
            let is : moved_roles from to mine ≡ own =
            same_Some (moved_roles from to mine) own
            (sym (get_set_same roles number mine (moved_roles from to mine) at) ∙ ap (slice_get new_roles) (sym s) ∙ e) in
            let moved : AreParts n (from + 1) (to + 1) (moved_roles from to mine) = record {
              write = moved_part mine.write w.write;
              first = moved_part mine.first w.first;
              last = moved_part mine.last w.last;
              refused = moved_part mine.refused w.refused;
            } in
            subst (λ z. AreParts n (from + 1) (to + 1) z) is moved
        | inr ne ↦
            let old : slice_get roles m ≡ Some own = sym (get_set_other roles number m (moved_roles from to mine) ne) ∙ e in
            parts_later (to + 1) own (omega arith) (h.within m own old) (others_none m own ne old)
      ]

      group_moved : group_at new_ops new_places (moved_roles from to mine) ≡ group_at ops places mine
      group_moved =
          let w = h.within number mine at in
          group_path (group_at new_ops new_places (moved_roles from to mine)) (group_at ops places mine) (moved_same mine.write w.write)
          (moved_same mine.first w.first) (moved_same mine.last w.last) (moved_same mine.refused w.refused)

      group_stays : (m : ℕ) (own : Roles) → m ≢ number → slice_get roles m ≡ Some own →
          group_at new_ops new_places own ≡ group_at ops places own
      group_stays m own ne e =
          let w = h.within m own e in
          let none = others_none m own ne e in
          group_path (group_at new_ops new_places own) (group_at ops places own)
          (stays own.write w.write (λ s. none (inl s)))
          (stays own.first w.first (λ s. none (inr (inl s))))
          (stays own.last w.last (λ s. none (inr (inr (inl s)))))
          (stays own.refused w.refused (λ s. none (inr (inr (inr s)))))

      others : (m : ℕ) → m ≢ number → (found : Option Roles) → slice_get roles m ≡ found →
          option_map (group_at new_ops new_places) found ≡ option_map (group_at ops places) found
      others m ne None e = refl
      others m ne (Some own) e = ap Some (group_stays m own ne e)

      alike_next : Alike (groups_at new_ops new_places new_roles) (groups_at ops places roles)
      alike_next m = elim (cases_eq m number) [
        | inl s ↦
            ap (slice_get (groups_at new_ops new_places new_roles)) s
            ∙ group_is new_ops new_places new_roles number (moved_roles from to mine)
            (get_set_same roles number mine (moved_roles from to mine) at)
            ∙ ap Some group_moved ∙ sym (group_is ops places roles number mine at)
            ∙ ap (slice_get (groups_at ops places roles)) (sym s)
        | inr ne ↦
            slice_get-map (group_at new_ops new_places) new_roles m
            ∙ ap (option_map (group_at new_ops new_places)) (get_set_other roles number m (moved_roles from to mine) ne)
            ∙ others m ne (slice_get roles m) refl ∙ sym (slice_get-map (group_at ops places) roles m)
      ]

      -- where a row that is still of use stood
      abbrev Stood : ℕ → ℕ → Type 0
      Stood i a = (k : ℕ) × IsLive from to k × (slice_get places k ≡ Some a) × (((i ≡ to) × (k ≡ from)) ⊎ ((i ≢ to) × (k ≡ i)))

      live_before : (i : ℕ) → i ≢ to → IsLive (from + 1) (to + 1) i → IsLive from to i
      live_before i ne (inl l) = inl (omega arith)
      live_before i ne (inr l) = inr (omega arith)

      stood : (i a : ℕ) → IsLive (from + 1) (to + 1) i → slice_get new_places i ≡ Some a → Stood i a
      stood i a live e = elim (cases_eq i to) [
        | inl s ↦
            let is : p ≡ a = same_Some p a (sym place_there ∙ ap (slice_get new_places) (sym s) ∙ e) in
            (from, inr (omega arith), at_place ∙ ap Some is, inl (s, refl))
        | inr ne ↦ (i, live_before i ne live, sym (get_set_other places to i p ne) ∙ e, inr (ne, refl))
      ]

      in_turn : (i j a b : ℕ) → i < j → IsLive (from + 1) (to + 1) j → (k l : ℕ) → ((i ≡ to) × (k ≡ from)) ⊎ ((i ≢ to) × (k ≡ i)) →
          ((j ≡ to) × (l ≡ from)) ⊎ ((j ≢ to) × (l ≡ j)) → k < l
      in_turn i j a b up live k l (inl x) (inl y) = let e = x.0 in let f = y.0 in absurd (omega arith)
      in_turn i j a b up (inl low) k l (inl x) (inr y) = let e = x.0 in absurd (omega arith)
      in_turn i j a b up (inr high) k l (inl x) (inr y) = let e = x.1 in let f = y.1 in omega arith
      in_turn i j a b up live k l (inr x) (inl y) =
          let e = x.1 in let f = y.1 in let g = y.0 in let d = h.down in omega arith
      in_turn i j a b up live k l (inr x) (inr y) = let e = x.1 in let f = y.1 in omega arith

      pub partly_some : IsPartly log groups n (from + 1) (to + 1) new_ops new_places new_roles
      partly_some = record {
        ops_long = length-set ops to o ∙ h.ops_long;
        places_long = length-set places to p ∙ h.places_long;
        few = h.few;
        down = let d = h.down in omega arith;
        are = λ i a x e f. elim (cases_eq i to) [
          | inl s ↦
              let place_is : p ≡ a = same_Some p a (sym place_there ∙ ap (slice_get new_places) (sym s) ∙ e) in
              let op_is : o ≡ x = same_Some o x (sym op_there ∙ ap (slice_get new_ops) (sym s) ∙ f) in
              ap (slice_get log) (sym place_is) ∙ h.are from p o at_place at_op ∙ ap Some op_is
          | inr ne ↦ h.are i a x (sym (get_set_other places to i p ne) ∙ e) (sym (get_set_other ops to i o ne) ∙ f)
        ];
        rise = λ i j a b up li lj e f.
            let x = stood i a li e in
            let y = stood j b lj f in
            h.rise x.0 y.0 a b (in_turn i j a b up lj x.0 y.0 x.3 y.3) x.1 y.1 x.2 y.2;
        within = within_next;
        each = h.each;
        alike = λ m. alike_next m ∙ h.alike m;
      }

module _ (log : List (Op ℕ)) (groups : List Group) (n from to : ℕ) (ops : List (Op ℕ)) (places : List ℕ) (roles : List Roles)
    (h : IsPartly log groups n from to ops places roles) (inside : from < n) (new_ops : List (Op ℕ)) (new_places : List ℕ)
    (new_roles : List Roles) (used : ℕ) (settles : Settles from to ops places roles new_ops new_places new_roles used)
  where
    abbrev Next : List (Op ℕ) → List ℕ → List Roles → ℕ → Type 0
    Next xs ps rs k = IsPartly log groups n (from + 1) k xs ps rs

    the_op : (x : Op ℕ) × (slice_get ops from ≡ Some x)
    the_op = some_at ops from (omega (arith, h.ops_long, inside))

    the_place : (x : ℕ) × (slice_get places from ≡ Some x)
    the_place = some_at places from (omega (arith, h.places_long, inside))

    -- whose roles they are
    mine_of : (number : ℕ) → user_of ops roles from ≡ Some number → (own : Roles) × (slice_get roles number ≡ Some own)
    mine_of number e = by (item_at ops from) e
      where
        by : (item : Option ℕ) → option_and_then (λ m. if_used (slice_get roles m) m from) item ≡ Some number →
            (own : Roles) × (slice_get roles number ≡ Some own)
        by None f = cc
        by (Some m) f = let w = if_used_is (slice_get roles m) m from number f in (w.0, ap (slice_get roles) (sym w.2) ∙ w.1)

    by_user : (user : Option ℕ) → user_of ops roles from ≡ user → Next new_ops new_places new_roles used
    by_user None e =
        let s = settles.none e in
        let old = partly_none log groups n from to ops places roles h inside the_op.0 the_place.0 the_op.1 the_place.1 e in
        subst (λ z. Next z new_places new_roles used) (sym s.0) (subst (λ z. Next ops z new_roles used) (sym s.1)
        (subst (λ z. Next ops places z used) (sym s.2) (subst (λ z. Next ops places roles z) (sym s.3) old)))
    by_user (Some number) e =
        let s = settles.some number e in
        let m = mine_of number e in
        let next = partly_some log groups n from to ops places roles h inside the_op.0 the_place.0 the_op.1 the_place.1 number m.0 e m.1 in
        let xs : List (Op ℕ) = set ops to the_op.0 in
        let ps : List ℕ = set places to the_place.0 in
        let rs : List Roles = set roles number (moved_roles from to m.0) in
        subst (λ z. Next z new_places new_roles used) (sym (s.0.ops_are the_op.0 the_op.1))
        (subst (λ z. Next xs z new_roles used) (sym (s.0.places_are the_place.0 the_place.1))
        (subst (λ z. Next xs ps z used) (sym (s.0.roles_are m.0 m.1)) (subst (λ z. Next xs ps rs z) (sym s.1) next)))

    pub partly_next : IsPartly log groups n (from + 1) used new_ops new_places new_roles
    partly_next = by_user (user_of ops roles from) refl

-- the rows of use alone
module _ (log : List (Op ℕ)) (old_ops : List (Op ℕ)) (old_places : List ℕ) (old_roles : List Roles)
    (known : AreThinned log old_ops old_places old_roles) (n to : ℕ) (ops : List (Op ℕ)) (places : List ℕ) (roles : List Roles)
    (h : IsPartly log (groups_at old_ops old_places old_roles) n n to ops places roles)
  where
    abbrev few_ops : List (Op ℕ)
    few_ops = take to ops

    abbrev few_places : List ℕ
    few_places = take to places

    ops_count : length few_ops ≡ to
    ops_count = length-take-le to ops (let d = h.down in omega (arith, h.ops_long))

    places_count : length few_places ≡ to
    places_count = length-take-le to places (let d = h.down in omega (arith, h.places_long))

    live : (i a : ℕ) → slice_get few_places i ≡ Some a → IsLive n to i
    live i a e = inl (omega (arith, slice_get_within few_places i a e, places_count))

    stays_few : (k : ℕ) → IsPart n n to k → placed_at few_ops few_places k ≡ placed_at ops places k
    stays_few k (inl l) =
        let d = h.down in
        let x = some_at ops k (omega (arith, h.ops_long)) in
        let y = some_at places k (omega (arith, h.places_long)) in
        placed_is few_ops few_places k y.0 x.0 (front_get ops to k x.0 l x.1) (front_get places to k y.0 l y.1)
        ∙ sym (placed_is ops places k y.0 x.0 x.1 y.1)
    stays_few k (inr (inl w)) = let a = w.0 in let b = w.1 in absurd (omega arith)
    stays_few k (inr (inr s)) =
        let d = h.down in
        let f = h.few in
        ap (λ z. placed_of z (slice_get few_places k)) (slice_get_past few_ops k (omega (arith, ops_count)))
        ∙ sym (ap (λ z. placed_of z (slice_get places k)) (slice_get_past ops k (omega (arith, h.ops_long))))

    index : (k : ℕ) → IsPart n n to k → IsIndex (length few_ops) k
    index k (inl l) = inl (omega (arith, ops_count))
    index k (inr (inl w)) = let a = w.0 in let b = w.1 in absurd (omega arith)
    index k (inr (inr s)) = inr s

    group_few : (m : ℕ) (found : Option Roles) → slice_get roles m ≡ found →
        option_map (group_at ops places) found ≡ option_map (group_at few_ops few_places) found
    group_few m None e = refl
    group_few m (Some own) e =
        let w = h.within m own e in
        ap Some (group_path (group_at ops places own) (group_at few_ops few_places own) (sym (stays_few own.write w.write))
        (sym (stays_few own.first w.first)) (sym (stays_few own.last w.last)) (sym (stays_few own.refused w.refused)))

    pub thinned_few : AreThinned log few_ops few_places roles
    thinned_few = record {
      rows = record {
        long = places_count ∙ sym ops_count;
        few = let d = h.down in let f = h.few in omega (arith, ops_count);
        are = λ i p o e f. h.are i p o (taken to places i p e) (taken to ops i o f);
        rise = λ i j p q l e f. h.rise i j p q l (live i p e) (live j q f) (taken to places i p e) (taken to places j q f);
      };
      within = λ m own e.
          let w = h.within m own e in record {
            write = index own.write w.write;
            first = index own.first w.first;
            last = index own.last w.last;
            refused = index own.refused w.refused;
          };
      kept = alike_kept log (groups_at old_ops old_places old_roles) (groups_at few_ops few_places roles)
          (λ m. sym (h.alike m) ∙ slice_get-map (group_at ops places) roles m ∙ group_few m (slice_get roles m) refl
          ∙ sym (slice_get-map (group_at few_ops few_places) roles m)) known.kept;
    }

-- how many rows there are then, and how many of them are settled
pub settled : (from to : ℕ) (ops : List (Op ℕ)) (places : List ℕ) (roles : List Roles) (new_ops : List (Op ℕ)) (new_places : List ℕ)
    (new_roles : List Roles) (used : ℕ) → Settles from to ops places roles new_ops new_places new_roles used → from < length ops →
    from < length places → to ≤ from → (length new_ops ≡ length ops) × (length new_places ≡ length places) × (used ≤ from + 1)
settled from to ops places roles new_ops new_places new_roles used h lo lp down = by (user_of ops roles from) refl
  where
    the_op : (x : Op ℕ) × (slice_get ops from ≡ Some x)
    the_op = some_at ops from lo

    the_place : (x : ℕ) × (slice_get places from ≡ Some x)
    the_place = some_at places from lp

    by : (user : Option ℕ) → user_of ops roles from ≡ user →
        (length new_ops ≡ length ops) × (length new_places ≡ length places) × (used ≤ from + 1)
    by None e = let s = h.none e in let k : used ≡ to = s.3 in (ap length s.0, ap length s.1, omega (arith, down, k))
    by (Some number) e =
        let s = h.some number e in
        let k : used ≡ to + 1 = s.1 in (
          ap length (s.0.ops_are the_op.0 the_op.1) ∙ length-set ops to the_op.0,
          ap length (s.0.places_are the_place.0 the_place.1) ∙ length-set places to the_place.0,
          omega (arith, down, k),
        )
