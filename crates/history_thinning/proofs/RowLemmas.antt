-- The groups that rows and roles stand for: with one more row, and with an operation that joins its record.
use Rattle.std.proofs.Common.{◌≡◌, ◌≢◌, ℕ, ◌+◌, ◌<◌, ◌≤◌, Bool, true, false, List, [], ◌∷◌, ◌++◌, length, get_or, set, slice_get}
use Rattle.std.proofs.Common.{Option, None, Some, refl, sym, ◌∙◌, ap, subst, ◌⊎◌, inl, inr, arith}
use Rattle.std.specs.Prelude.{if◌then◌else◌, nat_eq}
use Rattle.std.specs.Option.{option_and_then, option_map}
use Rattle.std.proofs.lemmas.Bool.{cases_eq}
use Rattle.std.proofs.lemmas.List.{length-append}
use Rattle.std.proofs.lemmas.Option.{same_Some, slice_get-get_or, slice_get-map, slice_get_cases, slice_get_past, slice_get_within}
use Rattle.history_core.specs.declared.history.Kind.{Kind}
use Rattle.history_core.specs.declared.history.Kind.TheVariants.{Write, Read, Refused}
use Rattle.history_core.specs.declared.history.Op.{Op}
use Rattle.history_core.specs.declared.reason.SearchError.TheVariants.{Backwards, WritesOpening, WritesTwice}
use Rattle.history_core.specs.Orders.{is_write}
use Rattle.history_core.proofs.Places.{get_last, get_pushed, get_pushed_cases, get_set_other, get_set_same, get_stays}
use Rattle.history_thinning.specs.declared.group.Placed.{Placed}
use Rattle.history_thinning.specs.declared.group.Roles.{Roles}
use Rattle.history_thinning.specs.inner.Entering.{begins_last, empty_roles, end_at, ends_first, entry_fault, Grows, is_backwards}
use Rattle.history_thinning.specs.inner.Entering.{is_refused, joined_roles, row_fault, row_write_fault, row_write_place, start_at}
use Rattle.history_thinning.specs.inner.Entering.{write_fault, write_place, written_number}
use Rattle.history_thinning.specs.inner.Kept.{AreKept, AreRows, AreWithin, earlier_end, empty_group, end_of, first_of, Group, group_at}
use Rattle.history_thinning.specs.inner.Kept.{groups_at, IsIndex, joined_group, later_begin, latest_refused, latest_write, nowhere}
use Rattle.history_thinning.specs.inner.Kept.{placed_at, placed_of}

-- the same groups, one by one
abbrev pub Alike : List Group → List Group → Type 0
Alike a b = (number : ℕ) → slice_get a number ≡ slice_get b number

pub alike_kept : (log : List (Op ℕ)) (a b : List Group) → Alike a b → AreKept log a → AreKept log b
alike_kept log a b same kept = record {
  each = λ number group e. kept.each number group (same number ∙ e);
  all = λ p o e c.
      let s = kept.all p o e c in
      record { number = s.number; group = s.group; item = s.item; at = sym (same s.number) ∙ s.at; stands = s.stands };
  forwards = kept.forwards;
  once = kept.once;
}

pub group_path : (a b : Group) → a.write ≡ b.write → a.first ≡ b.first → a.last ≡ b.last → a.refused ≡ b.refused → a ≡ b
group_path a b w f l r = λ i. record { write = w i; first = f i; last = l i; refused = r i }

-- the group of a record
pub group_is : (ops : List (Op ℕ)) (places : List ℕ) (roles : List Roles) (number : ℕ) (own : Roles) → slice_get roles number ≡ Some own →
    slice_get (groups_at ops places roles) number ≡ Some (group_at ops places own)
group_is ops places roles number own e =
    slice_get-map (group_at ops places) roles number ∙ ap (option_map (group_at ops places)) e

own_of : {A B : Type 0} (f : A → B) (found : Option A) (y : B) → option_map f found ≡ Some y → (x : A) × (found ≡ Some x) × (f x ≡ y)
own_of f None y h = cc
own_of f (Some x) y h = (x, refl, same_Some (f x) y h)

-- the roles of a group
pub roles_of : (ops : List (Op ℕ)) (places : List ℕ) (roles : List Roles) (number : ℕ) (group : Group) →
    slice_get (groups_at ops places roles) number ≡ Some group →
    (own : Roles) × (slice_get roles number ≡ Some own) × (group_at ops places own ≡ group)
roles_of ops places roles number group e =
    own_of (group_at ops places) (slice_get roles number) group (sym (slice_get-map (group_at ops places) roles number) ∙ e)

none_placed : (ops : List (Op ℕ)) (places : List ℕ) (k : ℕ) → length ops ≤ k → placed_at ops places k ≡ None
none_placed ops places k l = ap (λ z. placed_of z (slice_get places k)) (slice_get_past ops k l)

pub placed_is : (ops : List (Op ℕ)) (places : List ℕ) (k p : ℕ) (o : Op ℕ) → slice_get ops k ≡ Some o → slice_get places k ≡ Some p →
    placed_at ops places k ≡ Some (record { op = o; place = p })
placed_is ops places k p o eo ep = ap (λ z. placed_of z (slice_get places k)) eo ∙ ap (placed_of (Some o)) ep

both : (found : Option (Op ℕ)) (place : Option ℕ) (m : Placed) → placed_of found place ≡ Some m →
    (found ≡ Some m.op) × (place ≡ Some m.place)
both None place m h = cc
both (Some o) None m h = cc
both (Some o) (Some p) m h =
    let e = same_Some (record { op = o; place = p }) m h in
    (ap (λ (z : Placed). Some z.op) e, ap (λ (z : Placed). Some z.place) e)

pub row_of : (ops : List (Op ℕ)) (places : List ℕ) (k : ℕ) (m : Placed) → placed_at ops places k ≡ Some m →
    (slice_get ops k ≡ Some m.op) × (slice_get places k ≡ Some m.place)
row_of ops places k m h = both (slice_get ops k) (slice_get places k) m h

-- ---- what the code reads of a row
module _ (ops : List (Op ℕ)) (places : List ℕ) (long : length places ≡ length ops) where
  row_cases : (k : ℕ) → ((o : Op ℕ) × (p : ℕ) × (slice_get ops k ≡ Some o) × (slice_get places k ≡ Some p))
      ⊎ ((slice_get ops k ≡ None) × (slice_get places k ≡ None))
  row_cases k = elim (slice_get_cases ops k).1 [
    | inl w ↦ let l : k < length ops = w.1 in (inl (w.0, get_or places k 0, w.2, slice_get-get_or places k 0 (omega (arith, long))))
    | inr w ↦ let l : length ops ≤ k = w.0 in (inr (w.1, slice_get_past places k (omega (arith, long))))
  ]

  place_seen : (k : ℕ) → slice_get places k ≡ option_map (λ (m : Placed). m.place) (placed_at ops places k)
  place_seen k = elim (row_cases k) [
    | inl w ↦ w.3 ∙ sym (ap (option_map (λ (m : Placed). m.place)) (placed_is ops places k w.1 w.0 w.2 w.3))
    | inr w ↦ w.1 ∙ sym (ap (λ z. option_map (λ (m : Placed). m.place) (placed_of z (slice_get places k))) w.0)
  ]

  end_seen : (k : ℕ) → end_at ops k ≡ end_of (placed_at ops places k)
  end_seen k = elim (row_cases k) [
    | inl w ↦ ap (option_and_then (λ (o : Op ℕ). o.ends)) w.2 ∙ sym (ap end_of (placed_is ops places k w.1 w.0 w.2 w.3))
    | inr w ↦ ap (option_and_then (λ (o : Op ℕ). o.ends)) w.0 ∙ sym (ap (λ z. end_of (placed_of z (slice_get places k))) w.0)
  ]

  start_seen : (k : ℕ) → start_at ops k ≡ option_map (λ (m : Placed). m.op.starts) (placed_at ops places k)
  start_seen k = elim (row_cases k) [
    | inl w ↦
        ap (option_map (λ (o : Op ℕ). o.starts)) w.2
        ∙ sym (ap (option_map (λ (m : Placed). m.op.starts)) (placed_is ops places k w.1 w.0 w.2 w.3))
    | inr w ↦
        ap (option_map (λ (o : Op ℕ). o.starts)) w.0
        ∙ sym (ap (λ z. option_map (λ (m : Placed). m.op.starts) (placed_of z (slice_get places k))) w.0)
  ]

  module _ (roles : List Roles) where
    write_seen : (number : ℕ) → row_write_place places roles number ≡ write_place (groups_at ops places roles) number
    write_seen number =
        by (slice_get roles number) ∙ ap (option_and_then (λ (g : Group). option_map (λ (m : Placed). m.place) g.write))
        (sym (slice_get-map (group_at ops places) roles number))
      where
        by : (found : Option Roles) → option_and_then (λ (own : Roles). slice_get places own.write) found
            ≡ option_and_then (λ (g : Group). option_map (λ (m : Placed). m.place) g.write) (option_map (group_at ops places) found)
        by None = refl
        by (Some own) = place_seen own.write

    written_seen : (place : ℕ) (number : Option ℕ) → option_and_then (λ n. row_write_fault places roles n place) number
        ≡ option_and_then (λ n. write_fault (groups_at ops places roles) n place) number
    written_seen place None = refl
    written_seen place (Some number) =
        ap (λ z. if nat_eq number 0 then Some (WritesOpening place) else option_map (λ first. WritesTwice first place) z)
        (write_seen number)

    pub fault_seen : (o : Op ℕ) (place : ℕ) → row_fault places roles o place ≡ entry_fault (groups_at ops places roles) o place
    fault_seen o place =
        ap (λ z. if is_backwards o.starts o.ends then Some (Backwards place) else z) (written_seen place (written_number o.kind o.item))

-- ---- one more operation in its group
write_if : (kept : Option Placed) (placed : Placed) (kind : Kind) →
    latest_write kept placed kind ≡ (if is_write kind then Some placed else kept)
write_if kept placed Write = refl
write_if kept placed Read = refl
write_if kept placed Refused = refl

refused_if : (kept : Option Placed) (placed : Placed) (kind : Kind) →
    latest_refused kept placed kind ≡ (if is_refused kind then Some placed else kept)
refused_if kept placed Write = refl
refused_if kept placed Read = refl
refused_if kept placed Refused = refl

first_if : (kept : Option Placed) (placed : Placed) (ends : Option ℕ) →
    earlier_end kept placed ends ≡ (if ends_first ends (end_of kept) then Some placed else kept)
first_if kept placed None = refl
first_if kept placed (Some end) = by (end_of kept)
  where
    by : (least : Option ℕ) → first_of kept placed least end ≡ (if ends_first (Some end) least then Some placed else kept)
    by None = refl
    by (Some least) = refl

last_if : (kept : Option Placed) (placed : Placed) → later_begin kept placed
    ≡ (if begins_last placed.op.starts (option_map (λ (m : Placed). m.op.starts) kept) then Some placed else kept)
last_if None placed = refl
last_if (Some m) placed = refl

module _ (ops : List (Op ℕ)) (places : List ℕ) (long : length places ≡ length ops) (few : length ops < nowhere) (op : Op ℕ) (place : ℕ)
  where
    abbrev new_ops : List (Op ℕ)
    new_ops = ops ++ op ∷ []

    abbrev new_places : List ℕ
    new_places = places ++ place ∷ []

    abbrev placed : Placed
    placed = record { op = op; place = place }

    is_old : (k : ℕ) → IsIndex (length ops) k → k ≢ length ops
    is_old k (inl l) e = absurd (omega arith)
    is_old k (inr s) e = absurd (omega (arith, few))

    stays_at : (k : ℕ) → IsIndex (length ops) k → placed_at new_ops new_places k ≡ placed_at ops places k
    stays_at k w =
        ap (λ z. placed_of z (slice_get new_places k)) (get_pushed ops op k (is_old k w))
        ∙ ap (placed_of (slice_get ops k)) (get_pushed places place k (λ e. is_old k w (e ∙ long)))

    new_at : placed_at new_ops new_places (length ops) ≡ Some placed
    new_at = placed_is new_ops new_places (length ops) place op (get_last ops op (length ops) refl) (get_last places place (length ops)
        (sym long))

    chosen : (b : Bool) (k : ℕ) → IsIndex (length ops) k →
        placed_at new_ops new_places (if b then length ops else k) ≡ (if b then Some placed else placed_at ops places k)
    chosen true k w = new_at
    chosen false k w = stays_at k w

    pub group_stays_at : (own : Roles) → AreWithin (length ops) own → group_at new_ops new_places own ≡ group_at ops places own
    group_stays_at own w =
        group_path (group_at new_ops new_places own) (group_at ops places own) (stays_at own.write w.write) (stays_at own.first w.first)
        (stays_at own.last w.last) (stays_at own.refused w.refused)

    pub joined_at : (own : Roles) → AreWithin (length ops) own →
        group_at new_ops new_places (joined_roles ops own op (length ops)) ≡ joined_group (group_at ops places own) placed
    joined_at own w =
        group_path (group_at new_ops new_places (joined_roles ops own op (length ops))) (joined_group (group_at ops places own) placed)
        (chosen (is_write op.kind) own.write w.write ∙ sym (write_if (placed_at ops places own.write) placed op.kind))
        (chosen (ends_first op.ends (end_at ops own.first)) own.first w.first
        ∙ ap (λ z. if ends_first op.ends z then Some placed else placed_at ops places own.first) (end_seen ops places long own.first)
        ∙ sym (first_if (placed_at ops places own.first) placed op.ends))
        (chosen (begins_last op.starts (start_at ops own.last)) own.last w.last
        ∙ ap (λ z. if begins_last op.starts z then Some placed else placed_at ops places own.last) (start_seen ops places long own.last)
        ∙ sym (last_if (placed_at ops places own.last) placed))
        (chosen (is_refused op.kind) own.refused w.refused ∙ sym (refused_if (placed_at ops places own.refused) placed op.kind))

    chosen_within : (b : Bool) (k : ℕ) → IsIndex (length ops) k → IsIndex (length new_ops) (if b then length ops else k)
    chosen_within true k w = inl (omega (arith, length-append ops (op ∷ [])))
    chosen_within false k (inl l) = inl (omega (arith, length-append ops (op ∷ [])))
    chosen_within false k (inr s) = inr s

    still_within : (own : Roles) → AreWithin (length ops) own → AreWithin (length new_ops) own
    still_within own w = record {
      write = chosen_within false own.write w.write;
      first = chosen_within false own.first w.first;
      last = chosen_within false own.last w.last;
      refused = chosen_within false own.refused w.refused;
    }

    joined_within : (own : Roles) → AreWithin (length ops) own → AreWithin (length new_ops) (joined_roles ops own op (length ops))
    joined_within own w = record {
      write = chosen_within (is_write op.kind) own.write w.write;
      first = chosen_within (ends_first op.ends (end_at ops own.first)) own.first w.first;
      last = chosen_within (begins_last op.starts (start_at ops own.last)) own.last w.last;
      refused = chosen_within (is_refused op.kind) own.refused w.refused;
    }

    module _ (roles : List Roles) (within : (m : ℕ) (own : Roles) → slice_get roles m ≡ Some own → AreWithin (length ops) own) (number : ℕ)
        (own : Roles) (at : slice_get roles number ≡ Some own) where
      abbrev new_own : Roles
      new_own = joined_roles ops own op (length ops)

      pub within_more : (m : ℕ) (x : Roles) → slice_get (set roles number new_own) m ≡ Some x → AreWithin (length new_ops) x
      within_more m x e = elim (cases_eq m number) [
        | inl s ↦
            let is : new_own ≡ x = same_Some new_own x
            (sym (get_set_same roles number own new_own at) ∙ ap (slice_get (set roles number new_own)) (sym s) ∙ e) in
            subst (λ z. AreWithin (length new_ops) z) is (joined_within own (within number own at))
        | inr ne ↦ still_within x (within m x (sym (get_set_other roles number m new_own ne) ∙ e))
      ]

      others : (m : ℕ) (found : Option Roles) → slice_get roles m ≡ found →
          option_map (group_at ops places) found ≡ option_map (group_at new_ops new_places) found
      others m None e = refl
      others m (Some x) e = ap Some (sym (group_stays_at x (within m x e)))

      pub groups_more : Alike (set (groups_at ops places roles) number (joined_group (group_at ops places own) placed))
          (groups_at new_ops new_places (set roles number new_own))
      groups_more m = elim (cases_eq m number) [
        | inl s ↦
            let old = groups_at ops places roles in
            let new = joined_group (group_at ops places own) placed in
            ap (slice_get (set old number new)) s
            ∙ get_set_same old number (group_at ops places own) new (group_is ops places roles number own at)
            ∙ ap Some (sym (joined_at own (within number own at)))
            ∙ sym (group_is new_ops new_places (set roles number new_own) number new_own (get_set_same roles number own new_own at))
            ∙ ap (slice_get (groups_at new_ops new_places (set roles number new_own))) (sym s)
        | inr ne ↦
            get_set_other (groups_at ops places roles) number m (joined_group (group_at ops places own) placed) ne
            ∙ slice_get-map (group_at ops places) roles m ∙ others m (slice_get roles m) refl
            ∙ ap (option_map (group_at new_ops new_places)) (sym (get_set_other roles number m new_own ne))
            ∙ sym (slice_get-map (group_at new_ops new_places) (set roles number new_own) m)
      ]

-- ---- empty roles more
module _ (ops : List (Op ℕ)) (places : List ℕ) (few : length ops ≤ nowhere) (roles grown : List Roles)
    (grows : Grows empty_roles roles grown) where
  empty_at : group_at ops places empty_roles ≡ empty_group
  empty_at = let e = none_placed ops places nowhere few in group_path (group_at ops places empty_roles) empty_group e e e e

  pub groups_grow : Grows empty_group (groups_at ops places roles) (groups_at ops places grown)
  groups_grow = record {
    stays = λ number group e.
        let w = roles_of ops places roles number group e in
        group_is ops places grown number w.0 (grows.stays number w.0 w.1) ∙ ap Some w.2;
    from = λ number group e.
        let w = roles_of ops places grown number group e in
        elim (grows.from number w.0 w.1) [
          | inl h ↦ inl (group_is ops places roles number w.0 h ∙ ap Some w.2)
          | inr s ↦ inr (sym w.2 ∙ ap (group_at ops places) s ∙ empty_at)
        ];
  }

  pub within_grown : ((m : ℕ) (own : Roles) → slice_get roles m ≡ Some own → AreWithin (length ops) own) →
      (m : ℕ) (own : Roles) → slice_get grown m ≡ Some own → AreWithin (length ops) own
  within_grown within m own e = elim (grows.from m own e) [
    | inl h ↦ within m own h
    | inr s ↦
        let none : AreWithin (length ops) empty_roles =
        record { write = inr refl; first = inr refl; last = inr refl; refused = inr refl } in
        subst (λ z. AreWithin (length ops) z) (sym s) none
  ]

-- ---- rows of a longer log
module _ (log : List (Op ℕ)) (op : Op ℕ) (ops : List (Op ℕ)) (places : List ℕ) (h : AreRows log ops places) where
  pub rows_longer : AreRows (log ++ op ∷ []) ops places
  rows_longer = record {
    long = h.long;
    few = h.few;
    are = λ i p o e f. get_stays log o op p (h.are i p o e f);
    rise = h.rise;
  }

  below : (i p : ℕ) → slice_get places i ≡ Some p → p < length log
  below i p e =
      let long = h.long in
      let l = slice_get_within places i p e in
      slice_get_within log p (get_or ops i op) (h.are i p (get_or ops i op) e (slice_get-get_or ops i op (omega arith)))

  pub rows_more : length ops < nowhere → AreRows (log ++ op ∷ []) (ops ++ op ∷ []) (places ++ length log ∷ [])
  rows_more few = record {
    long = length-append places (length log ∷ []) ∙ ap (λ k. k + 1) h.long ∙ sym (length-append ops (op ∷ []));
    few = omega (arith, length-append ops (op ∷ []));
    are = λ i p o e f. elim (get_pushed_cases places (length log) i p e) [
      | inl old ↦ elim (get_pushed_cases ops op i o f) [
        | inl g ↦ get_stays log o op p (h.are i p o old g)
        | inr s ↦ absurd (omega (arith, slice_get_within places i p old, h.long, s.0))
      ]
      | inr s ↦ elim (get_pushed_cases ops op i o f) [
        | inl g ↦ absurd (omega (arith, slice_get_within ops i o g, h.long, s.0))
        | inr r ↦ get_last log op p (sym s.1) ∙ ap Some r.1
      ]
    ];
    rise = λ i j p q l e f. elim (get_pushed_cases places (length log) j q f) [
      | inl old ↦ elim (get_pushed_cases places (length log) i p e) [
        | inl g ↦ h.rise i j p q l g old
        | inr s ↦ absurd (omega (arith, slice_get_within places j q old, s.0))
      ]
      | inr s ↦ elim (get_pushed_cases places (length log) i p e) [
        | inl g ↦ let b : p < length log = below i p g in let q_is : length log ≡ q = s.1 in omega arith
        | inr r ↦ absurd (omega (arith, r.0, s.0))
      ]
    ];
  }
