-- Each step keeps what a walk is, and leaves less to be done.
use Rattle.std.proofs.Common.{◌≡◌, ◌≢◌, ℕ, ◌+◌, ◌-◌, ◌<◌, Bool, true, false, List, [], ◌∷◌, ◌++◌, length, take, refl, sym, ◌∙◌, ap}
use Rattle.std.proofs.Common.{subst, arith, inl, inr, slice_get, set, get_or, Option, None, Some, length-set, nat_eq}
use Rattle.std.specs.Prelude.{if◌then◌else◌}
use Rattle.std.specs.List.{sum_by}
use Rattle.std.proofs.lemmas.Bool.{cases_Bool, cases_eq, cases_order}
use Rattle.std.proofs.lemmas.Bool.Decides.{nat_tests}
use Rattle.std.proofs.lemmas.List.Sums.{sum_by-set}
use Rattle.std.proofs.lemmas.Option.{slice_get_within, same_Some, slice_get_cases, get_or_from_slice_get}
use Rattle.history_core.proofs.Counts.{front_get, get_front}
use Rattle.history_core.proofs.Places.{get_last, get_pushed_cases, get_set_other, get_stays}
use Rattle.history_coherence.specs.declared.edge.Edge.{Edge}
use Rattle.history_coherence.specs.declared.walk.Mark.{Mark}
use Rattle.history_coherence.specs.declared.walk.Mark.TheVariants.{New, Open, Placed}
use Rattle.history_coherence.specs.declared.walk.Turn.{Turn}
use Rattle.history_coherence.specs.declared.walk.Turn.TheVariants.{Place, Pass, Enter, Meet}
use Rattle.history_coherence.specs.inner.Keys.{edge_at, IsPrevious, number_at}
use Rattle.history_coherence.specs.inner.Walks.{AreFurther, IsReachedFrom, HasMet, IsBeyond, IsEdgeSettled, IsEdgeSettledBelow, IsWalk}
use Rattle.history_coherence.specs.inner.Walks.{is_new, left_at_cursor, left_at_mark, MovesTo, turn_along, turn_by, turn_of}
use Rattle.history_coherence.proofs.Edges.{is_edge, number_from, number_other, number_set, number_within, set_cases, set_here}

-- ---- marks move on
moves_itself : (m : Mark) → MovesTo m m
moves_itself New = tt
moves_itself Open = tt
moves_itself (Placed rank) = refl

moves_on : (a b c : Mark) → MovesTo a b → MovesTo b c → MovesTo a c
moves_on New b c h k = tt
moves_on Open New c h k = absurd h
moves_on Open Open c h k = k
moves_on Open (Placed rank) c h k = let P : Mark → Type 0 = λ z. MovesTo Open z in subst P (sym k) tt
moves_on (Placed rank) b c h k =
    let P : Mark → Type 0 = λ z. MovesTo z c in
    subst P h k

pub further_itself : (marks : List Mark) → AreFurther marks marks
further_itself marks = record { long = refl; moved = λ x mark e. (mark, e, moves_itself mark) }

pub further_on : (a b c : List Mark) → AreFurther a b → AreFurther b c → AreFurther a c
further_on a b c h k = record {
  long = k.long ∙ h.long;
  moved = λ x mark e.
      let u = h.moved x mark e in
      let v = k.moved x u.0 u.1 in
      (v.0, v.1, moves_on mark u.0 v.0 u.2 v.2);
}

pub further_set : (marks : List Mark) (y : ℕ) (old new : Mark) → slice_get marks y ≡ Some old → MovesTo old new →
    AreFurther marks (set marks y new)
further_set marks y old new at moves = record {
  long = length-set marks y new;
  moved = λ x mark e. elim (cases_eq x y) [
    | inr ne ↦ (mark, get_set_other marks y x new ne ∙ e, moves_itself mark)
    | inl s ↦
        let q : old ≡ mark = same_Some old mark (sym at ∙ ap (slice_get marks) (sym s) ∙ e) in
        let P : Mark → Type 0 = λ z. MovesTo z new in
        (new, ap (slice_get (set marks y new)) s ∙ set_here marks y new (slice_get_within marks y old at), subst P q moves)
  ];
}

-- a placed one stays placed where another is changed
other_placed : (marks : List Mark) (x y rank : ℕ) (old new : Mark) → slice_get marks y ≡ Some old → slice_get marks x ≡ Some (Placed rank) →
    ((r : ℕ) → old ≡ Placed r → ⊥) → (x ≢ y) × (slice_get (set marks y new) x ≡ Some (Placed rank))
other_placed marks x y rank old new at placed other =
    let ne : x ≢ y = λ s. other rank (same_Some old (Placed rank) (sym at ∙ ap (slice_get marks) (sym s) ∙ placed)) in
    (ne, get_set_other marks y x new ne ∙ placed)

new_not_placed : (r : ℕ) → New ≡ Placed r → ⊥
new_not_placed r e = cc

open_not_placed : (r : ℕ) → Open ≡ Placed r → ⊥
open_not_placed r e = cc

settled_on : (marks : List Mark) (y : ℕ) (old new : Mark) (e : Edge) → slice_get marks y ≡ Some old → ((r : ℕ) → old ≡ Placed r → ⊥) →
    IsEdgeSettled marks e → IsEdgeSettled (set marks y new) e
settled_on marks y old new e at other h = elim h [
  | inl s ↦ inl s
  | inr w ↦ inr (w.0, (other_placed marks e.from y w.0 old new at w.1 other).1)
]

below_on : (marks : List Mark) (y bound : ℕ) (old new : Mark) (e : Edge) → slice_get marks y ≡ Some old → ((r : ℕ) → old ≡ Placed r → ⊥) →
    IsEdgeSettledBelow marks bound e → IsEdgeSettledBelow (set marks y new) bound e
below_on marks y bound old new e at other h = elim h [
  | inl s ↦ inl s
  | inr w ↦ inr (w.0, (other_placed marks e.from y w.0 old new at w.1 other).1, w.2)
]

module _ (keys earlier : List (Option ℕ)) (marks : List Mark) (cursors : List (Option ℕ)) (path placed : List ℕ)
    (walk : IsWalk keys earlier marks cursors path placed) where
  -- ---- what a turn says
  abbrev Comes : Option ℕ → ℕ → Mark → Type 0
  Comes cursor y mark = (q : ℕ) × (e : Edge) × (cursor ≡ Some q) × (edge_at keys earlier q ≡ Some e) × (e.from ≡ y) × (e.from ≢ e.to)
      × (slice_get marks y ≡ Some mark)

  abbrev Passes : Option ℕ → ℕ → Type 0
  Passes cursor q = (cursor ≡ Some q) × ((e : Edge) → edge_at keys earlier q ≡ Some e → IsEdgeSettled marks e)

  -- the meaning of each turn
  abbrev Means : Option ℕ → Turn → Type 0
  Means cursor Place = cursor ≡ None
  Means cursor (Pass q) = Passes cursor q
  Means cursor (Enter y) = Comes cursor y New
  Means cursor (Meet y) = Comes cursor y Open

  means_by : (c : ℕ) (e : Edge) (mark : Option Mark) → edge_at keys earlier c ≡ Some e → e.from ≢ e.to → slice_get marks e.from ≡ mark →
      Means (Some c) (turn_by c e.from mark)
  means_by c e None at ne m =
      let i = is_edge keys earlier c e at in
      let l : e.from < length marks = walk.keyed e.link.earlier e.from i.from in
      elim (slice_get_cases marks e.from).1 [
        | inl w ↦ let z : Some w.0 ≡ None = sym w.2 ∙ m in cc
        | inr w ↦ absurd (omega (arith, w.0))
      ]
  means_by c e (Some New) at ne m = (c, e, refl, at, refl, ne, m)
  means_by c e (Some Open) at ne m = (c, e, refl, at, refl, ne, m)
  means_by c e (Some (Placed rank)) at ne m = (
    refl,
    λ f g.
        let s : e ≡ f = same_Some e f (sym at ∙ g) in
        let P : Edge → Type 0 = λ z. IsEdgeSettled marks z in
        subst P s (inr (rank, m)),
  )

  means_along : (c : ℕ) (found : Option Edge) → edge_at keys earlier c ≡ found → Means (Some c) (turn_along marks c found)
  means_along c None at = (refl, λ f g. let z : None ≡ Some f = sym at ∙ g in cc)
  means_along c (Some e) at = elim (cases_Bool (nat_eq e.from e.to)) [
    | inl t ↦
        let same : e.from ≡ e.to = grind (arith, nat_tests) in
        let P : Bool → Type 0 = λ b. Means (Some c) (if b then Pass c else turn_by c e.from (slice_get marks e.from)) in
        subst P (sym t) (
          refl,
          λ f g.
              let s : e ≡ f = same_Some e f (sym at ∙ g) in
              let Q : Edge → Type 0 = λ z. IsEdgeSettled marks z in
              subst Q s (inl same),
        )
    | inr f ↦
        let ne : e.from ≢ e.to = grind (arith, nat_tests) in
        let P : Bool → Type 0 = λ b. Means (Some c) (if b then Pass c else turn_by c e.from (slice_get marks e.from)) in
        subst P (sym f) (means_by c e (slice_get marks e.from) at ne refl)
  ]

  pub means : (cursor : Option ℕ) → Means cursor (turn_of keys earlier marks cursor)
  means None = refl
  means (Some c) = means_along c (edge_at keys earlier c) refl

  pub meant : (x : ℕ) (seen : List Mark) (taken : Option ℕ) (t : Turn) → seen ≡ marks → taken ≡ number_at cursors x →
      t ≡ turn_of keys earlier seen taken → Means (number_at cursors x) t
  meant x seen taken t s e h =
      let P : Turn → Type 0 = λ z. Means (number_at cursors x) z in
      subst P (sym (h ∙ ap (λ z. turn_of keys earlier z taken) s ∙ ap (turn_of keys earlier marks) e)) (means (number_at cursors x))

  -- ---- one more is open
  pub enter_keeps : (y : ℕ) → slice_get marks y ≡ Some New →
      ((i x : ℕ) → slice_get path i ≡ Some x → i + 1 ≡ length path → IsReachedFrom keys earlier cursors x y) →
      IsWalk keys earlier (set marks y Open) cursors (path ++ y ∷ []) placed
  enter_keeps y at reached =
      let l : y < length marks = slice_get_within marks y New at in
      record {
        long = walk.long ∙ sym (length-set marks y Open);
        keyed = λ q x e. let k = walk.keyed q x e in omega (arith, length-set marks y Open);
        opening = (other_placed marks 0 y 0 New Open at walk.opening new_not_placed).1;
        at_cursor = walk.at_cursor;
        passed = λ x q e lx b f g. settled_on marks y New Open e at new_not_placed
            (walk.passed x q e (let s = length-set marks y Open in omega arith) b f g);
        below = λ x rank q e m f g. elim (set_cases marks y x Open (Placed rank) m l) [
          | inl w ↦ absurd (open_not_placed rank w.1)
          | inr w ↦ below_on marks y rank New Open e at new_not_placed (walk.below x rank q e w.1 f g)
        ];
        ranked = λ x rank m. elim (set_cases marks y x Open (Placed rank) m l) [
          | inl w ↦ absurd (open_not_placed rank w.1)
          | inr w ↦ walk.ranked x rank w.1
        ];
        on_path = λ i x p. elim (get_pushed_cases path y i x p) [
          | inl old ↦
              let o = walk.on_path i x old in
              let ne : x ≢ y = λ s. let z : Open ≡ New = same_Some Open New (sym o ∙ ap (slice_get marks) s ∙ at) in cc in
              get_set_other marks y x Open ne ∙ o
          | inr new ↦ ap (slice_get (set marks y Open)) (sym new.1) ∙ set_here marks y Open l
        ];
        all_open = λ x m. elim (set_cases marks y x Open Open m l) [
          | inl w ↦ (length path, get_last path y (length path) refl ∙ ap Some (sym w.0))
          | inr w ↦ let i = walk.all_open x w.1 in (i.0, get_stays path x y i.0 i.1)
        ];
        once = λ i j x p q. elim (get_pushed_cases path y i x p) [
          | inl a ↦ elim (get_pushed_cases path y j x q) [
            | inl b ↦ walk.once i j x a b
            | inr b ↦
                let o = walk.on_path i x a in
                let z : Open ≡ New = same_Some Open New (sym o ∙ ap (slice_get marks) (sym b.1) ∙ at) in
                cc
          ]
          | inr a ↦ elim (get_pushed_cases path y j x q) [
            | inl b ↦
                let o = walk.on_path j x b in
                let z : Open ≡ New = same_Some Open New (sym o ∙ ap (slice_get marks) (sym a.1) ∙ at) in
                cc
            | inr b ↦ a.0 ∙ sym b.0
          ]
        ];
        next = λ i x z p q. elim (get_pushed_cases path y (i + 1) z q) [
          | inl b ↦ elim (get_pushed_cases path y i x p) [
            | inl a ↦ walk.next i x z a b
            | inr a ↦ let k = slice_get_within path (i + 1) z b in let e = a.0 in absurd (omega arith)
          ]
          | inr b ↦ elim (get_pushed_cases path y i x p) [
            | inl a ↦
                let P : ℕ → Type 0 = λ n. IsReachedFrom keys earlier cursors x n in
                subst P b.1 (reached i x a b.0)
            | inr a ↦ let e = a.0 in let f = b.0 in absurd (omega arith)
          ]
        ];
      }

  module _ (x : ℕ) (top : slice_get path (length path - 1) ≡ Some x) where
    is_open : slice_get marks x ≡ Some Open
    is_open = walk.on_path (length path - 1) x top

    -- another place of the path has another record
    other_than : (i z : ℕ) → slice_get path i ≡ Some z → i < length path - 1 → z ≢ x
    other_than i z e l s =
        let k : i ≡ length path - 1 = walk.once i (length path - 1) x (e ∙ ap Some s) top in
        omega arith

    -- ---- the last one is placed
    pub place_keeps : number_at cursors x ≡ None →
        IsWalk keys earlier (set marks x (Placed (length placed))) cursors (take (length path - 1) path) (placed ++ x ∷ [])
    place_keeps none =
        let n : ℕ = length placed in
        let at = is_open in
        let l : x < length marks = slice_get_within marks x Open at in
        record {
          long = walk.long ∙ sym (length-set marks x (Placed n));
          keyed = λ q z e. let k = walk.keyed q z e in omega (arith, length-set marks x (Placed n));
          opening = (other_placed marks 0 x 0 Open (Placed n) at walk.opening open_not_placed).1;
          at_cursor = walk.at_cursor;
          passed = λ z q e lz b f g. settled_on marks x Open (Placed n) e at open_not_placed
              (walk.passed z q e (let s = length-set marks x (Placed n) in omega arith) b f g);
          below = λ z rank q e m f g. elim (set_cases marks x z (Placed n) (Placed rank) m l) [
            | inl w ↦
                let same : n ≡ rank = cc in
                let P : Option ℕ → Type 0 = λ c. IsBeyond c q in
                elim (walk.passed x q e l (subst P (sym none) tt) f (g ∙ w.0)) [
                  | inl s ↦ inl s
                  | inr v ↦
                      let k : v.0 < n = slice_get_within placed v.0 e.from (walk.ranked e.from v.0 v.1) in
                      inr (v.0, (other_placed marks e.from x v.0 Open (Placed n) at v.1 open_not_placed).1, omega arith)
                ]
            | inr w ↦ below_on marks x rank Open (Placed n) e at open_not_placed (walk.below z rank q e w.1 f g)
          ];
          ranked = λ z rank m. elim (set_cases marks x z (Placed n) (Placed rank) m l) [
            | inl w ↦ let same : n ≡ rank = cc in get_last placed x rank (sym same) ∙ ap Some (sym w.0)
            | inr w ↦ get_stays placed z x rank (walk.ranked z rank w.1)
          ];
          on_path = λ i z p.
              let w = get_front path (length path - 1) i z p in
              get_set_other marks x z (Placed n) (other_than i z w.1 w.0) ∙ walk.on_path i z w.1;
          all_open = λ z m. elim (set_cases marks x z (Placed n) Open m l) [
            | inl w ↦ absurd (open_not_placed n (sym w.1))
            | inr w ↦
                let i = walk.all_open z w.1 in
                let k : i.0 < length path = slice_get_within path i.0 z i.1 in
                elim (cases_eq i.0 (length path - 1)) [
                  | inr ne ↦ (i.0, front_get path (length path - 1) i.0 z (omega arith) i.1)
                  | inl s ↦ absurd (w.0 (same_Some z x (sym i.1 ∙ ap (slice_get path) s ∙ top)))
                ]
          ];
          once = λ i j z p q. walk.once i j z (get_front path (length path - 1) i z p).1 (get_front path (length path - 1) j z q).1;
          next = λ i z y p q. walk.next i z y (get_front path (length path - 1) i z p).1 (get_front path (length path - 1) (i + 1) y q).1;
        }

    -- ---- the cursor goes on
    pub pass_keeps : (q : ℕ) (c : Option ℕ) → number_at cursors x ≡ Some q →
        ((e : Edge) → edge_at keys earlier q ≡ Some e → IsEdgeSettled marks e) →
        IsPrevious keys q x c → IsWalk keys earlier marks (set cursors x c) path placed
    pass_keeps q c at settled previous =
        let lc : x < length cursors = number_within cursors x q at in
        record {
          long = length-set cursors x c ∙ walk.long;
          keyed = walk.keyed;
          opening = walk.opening;
          at_cursor = λ z r e. elim (cases_eq z x) [
            | inr ne ↦ walk.at_cursor z r (sym (number_other cursors x z c ne) ∙ e)
            | inl s ↦
                let k : c ≡ Some r = sym (number_set cursors x c lc) ∙ ap (number_at (set cursors x c)) (sym s) ∙ e in
                let P : Option ℕ → Type 0 = λ o. IsPrevious keys q x o in
                (subst P k previous).1 ∙ ap Some (sym s)
          ];
          passed = λ z r e lz b f g. elim (cases_eq z x) [
            | inr ne ↦
                let P : Option ℕ → Type 0 = λ o. IsBeyond o r in
                walk.passed z r e lz (subst P (number_other cursors x z c ne) b) f g
            | inl s ↦
                let P : Option ℕ → Type 0 = λ o. IsBeyond o r in
                let k : number_at (set cursors x c) z ≡ c = ap (number_at (set cursors x c)) s ∙ number_set cursors x c lc in
                let key : number_at keys r ≡ Some x = (is_edge keys earlier r e f).to ∙ ap Some (g ∙ s) in
                elim (cases_order r q) [
                  | inl same ↦ settled e (ap (edge_at keys earlier) (sym same) ∙ f)
                  | inr (inl less) ↦ absurd (none_between c r previous (subst P k b) less key)
                  | inr (inr more) ↦ walk.passed x r e (let ll = walk.long in omega arith) (subst P (sym at) more) f (g ∙ s)
                ]
          ];
          below = walk.below;
          ranked = walk.ranked;
          on_path = walk.on_path;
          all_open = walk.all_open;
          once = walk.once;
          next = λ i z y p r.
              let w = walk.next i z y p r in
              let less : i < length path - 1 = let k = slice_get_within path (i + 1) y r in omega arith in
              (w.0, w.1, number_other cursors x z c (other_than i z p less) ∙ w.2, w.3, w.4, w.5);
        }
      where
        none_between : (o : Option ℕ) (r : ℕ) → IsPrevious keys q x o → IsBeyond o r → r < q → number_at keys r ≡ Some x → ⊥
        none_between None r h b l k = h r l k
        none_between (Some m) r h b l k = h.2 r b l k

    -- ---- the circle
    pub meets : (y : ℕ) → Comes (number_at cursors x) y Open → HasMet keys earlier cursors path y
    meets y h =
        let i = walk.all_open y h.6 in
        record { last = x; last_at = top; comes = (h.0, h.1, h.2, h.3, h.4, h.5); place = i.0; met_at = i.1 }

    pub comes_last : (y : ℕ) → Comes (number_at cursors x) y New → (i z : ℕ) → slice_get path i ≡ Some z → i + 1 ≡ length path →
        IsReachedFrom keys earlier cursors z y
    comes_last y h i z e l =
        let s : i ≡ length path - 1 = omega arith in
        let q : x ≡ z = same_Some x z (sym top ∙ ap (slice_get path) (sym s) ∙ e) in
        let P : ℕ → Type 0 = λ n. IsReachedFrom keys earlier cursors n y in
        subst P q (h.0, h.1, h.2, h.3, h.4, h.5)

-- ---- how much is left
pub less_mark : (marks : List Mark) (y : ℕ) (old new : Mark) → slice_get marks y ≡ Some old → left_at_mark new < left_at_mark old →
    sum_by left_at_mark (set marks y new) < sum_by left_at_mark marks
less_mark marks y old new at less =
    let s = sum_by-set left_at_mark marks y new old (slice_get_within marks y old at) in
    let g : left_at_mark (get_or marks y old) ≡ left_at_mark old = ap left_at_mark (get_or_from_slice_get marks y old old at) in
    omega arith

pub less_cursor : (keys cursors : List (Option ℕ)) (x q : ℕ) (c : Option ℕ) → number_at cursors x ≡ Some q → IsPrevious keys q x c →
    sum_by left_at_cursor (set cursors x c) < sum_by left_at_cursor cursors
less_cursor keys cursors x q c at previous =
    let e = number_from cursors x q at in
    let s = sum_by-set left_at_cursor cursors x c (Some q) (slice_get_within cursors x (Some q) e) in
    let g : left_at_cursor (get_or cursors x (Some q)) ≡ q + 1 = ap left_at_cursor (get_or_from_slice_get cursors x (Some q) (Some q) e) in
    let l = by c previous in
    omega arith
  where
    by : (o : Option ℕ) → IsPrevious keys q x o → left_at_cursor o < q + 1
    by None h = omega arith
    by (Some r) h = let l = h.0 in omega arith

-- ---- what a walk with an empty path leaves
module _ (keys earlier : List (Option ℕ)) (marks : List Mark) (cursors : List (Option ℕ)) (path placed : List ℕ)
    (walk : IsWalk keys earlier marks cursors path placed) (empty : path ≡ []) where
  abbrev pub HasRank : ℕ → Type 0
  HasRank x = (rank : ℕ) × (slice_get marks x ≡ Some (Placed rank))

  none_open : (x : ℕ) → slice_get marks x ≡ Some Open → ⊥
  none_open x e =
      let i = walk.all_open x e in
      let z : None ≡ Some x = sym (ap (λ (p : List ℕ). slice_get p i.0) empty) ∙ i.1 in
      cc

  has_rank_by : (x : ℕ) (mark : Mark) → slice_get marks x ≡ Some mark → is_new (Some mark) ≡ false → HasRank x
  has_rank_by x New e f = cc
  has_rank_by x Open e f = absurd (none_open x e)
  has_rank_by x (Placed rank) e f = (rank, e)

  pub has_rank : (x : ℕ) → x < length marks → is_new (slice_get marks x) ≡ false → HasRank x
  has_rank x l f = elim (slice_get_cases marks x).1 [
    | inl w ↦ has_rank_by x w.0 w.2 (ap is_new (sym w.2) ∙ f)
    | inr w ↦ absurd (omega (arith, w.0))
  ]

  -- what was open before has been placed
  pub rank_after : (old : List Mark) (x : ℕ) → AreFurther old marks → slice_get old x ≡ Some Open → HasRank x
  rank_after old x further e =
      let w = further.moved x Open e in
      has_rank_by x w.0 w.1 (by w.0 w.2)
    where
      by : (m : Mark) → MovesTo Open m → is_new (Some m) ≡ false
      by New h = absurd h
      by Open h = refl
      by (Placed rank) h = refl

  pub rank_stays : (old : List Mark) (x rank : ℕ) → AreFurther old marks → slice_get old x ≡ Some (Placed rank) → HasRank x
  rank_stays old x rank further e =
      let w = further.moved x (Placed rank) e in
      (rank, w.1 ∙ ap Some w.2)

pub entered_further : (marks : List Mark) (x : ℕ) → is_new (slice_get marks x) ≡ true → AreFurther marks (set marks x Open)
entered_further marks x t = elim (slice_get_cases marks x).1 [
  | inl w ↦ by w.0 w.2 (ap is_new (sym w.2) ∙ t)
  | inr w ↦ let z : false ≡ true = sym (ap is_new w.1) ∙ t in cc
]
  where
    by : (m : Mark) → slice_get marks x ≡ Some m → is_new (Some m) ≡ true → AreFurther marks (set marks x Open)
    by New e h = further_set marks x New Open e tt
    by Open e h = cc
    by (Placed rank) e h = cc

pub new_by : (marks : List Mark) (x : ℕ) → is_new (slice_get marks x) ≡ true → slice_get marks x ≡ Some New
new_by marks x t = by (slice_get marks x) refl t
  where
    by : (m : Option Mark) → slice_get marks x ≡ m → is_new m ≡ true → slice_get marks x ≡ Some New
    by None e h = cc
    by (Some New) e h = e
    by (Some Open) e h = cc
    by (Some (Placed rank)) e h = cc
