-- A walk from each record back along the edges, which numbers the records or finds a circle: depth-first search, after
-- R. Tarjan, Depth-First Search and Linear Graph Algorithms, SIAM J. Computing 1, 1972. Only private functions cite
-- this, which is this project's own.
use Rattle.std.specs.Prelude.{◌≡◌, ◌≢◌, ◌⊎◌, ℕ, ◌+◌, ◌-◌, ◌<◌, Bool, true, false, List, [], ◌∷◌, ◌++◌, length, set}
use Rattle.std.specs.Prelude.{slice_get, take}
use Rattle.std.specs.List.{sum_by}
use Rattle.std.specs.Option.{option_and_then, option_map}
use Rattle.std.specs.Prelude.{Option, None, Some, nat_eq, if◌then◌else◌}
use Rattle.history_coherence.specs.declared.coherence.Link.{Link}
use Rattle.history_coherence.specs.declared.edge.Edge.{Edge}
use Rattle.history_coherence.specs.declared.edge.Tables.{Tables}
use Rattle.history_coherence.specs.declared.walk.Walk.{Walk}
use Rattle.history_coherence.specs.declared.walk.Mark.{Mark}
use Rattle.history_coherence.specs.declared.walk.Mark.TheVariants.{New, Open, Placed}
use Rattle.history_coherence.specs.declared.walk.Turn.{Turn}
use Rattle.history_coherence.specs.declared.walk.Turn.TheVariants.{Place, Pass, Enter, Meet}
use Rattle.history_coherence.specs.inner.Keys.{edge_at, number_at}

-- what is to be done at a record whose cursor stands so
abbrev pub turn_by : ℕ → ℕ → Option Mark → Turn
turn_by q from None = Pass q
turn_by q from (Some New) = Enter from
turn_by q from (Some Open) = Meet from
turn_by q from (Some (Placed rank)) = Pass q

abbrev pub turn_along : List Mark → ℕ → Option Edge → Turn
turn_along marks q None = Pass q
turn_along marks q (Some e) = if nat_eq e.from e.to then Pass q else turn_by q e.from (slice_get marks e.from)

abbrev pub turn_of : List (Option ℕ) → List (Option ℕ) → List Mark → Option ℕ → Turn
turn_of keys earlier marks None = Place
turn_of keys earlier marks (Some q) = turn_along marks q (edge_at keys earlier q)

-- the cursor of a record has gone past a place
abbrev pub IsBeyond : Option ℕ → ℕ → Type 0
IsBeyond None q = Unit {0}
IsBeyond (Some c) q = c < q

-- an edge within one record, or from a placed one
abbrev pub IsEdgeSettled : List Mark → Edge → Type 0
IsEdgeSettled marks e = (e.from ≡ e.to) ⊎ ((rank : ℕ) × (slice_get marks e.from ≡ Some (Placed rank)))

abbrev pub IsEdgeSettledBelow : List Mark → ℕ → Edge → Type 0
IsEdgeSettledBelow marks bound e =
    (e.from ≡ e.to) ⊎ ((rank : ℕ) × (slice_get marks e.from ≡ Some (Placed rank)) × (rank < bound))

module _ (keys earlier : List (Option ℕ)) where
  -- the edge at the cursor of a record comes from another one
  abbrev pub IsReachedFrom : List (Option ℕ) → ℕ → ℕ → Type 0
  IsReachedFrom cursors x y = (q : ℕ) × (e : Edge) × (number_at cursors x ≡ Some q) × (edge_at keys earlier q ≡ Some e)
      × (e.from ≡ y) × (e.from ≢ e.to)

  -- a walk: of each placed record all edges come from records placed before it; the open ones stand on a path, of which
  -- each comes from the next; and what the cursors have passed is settled
  pub record IsWalk (marks : List Mark) (cursors : List (Option ℕ)) (path placed : List ℕ) : Type 0 where
    pub long : length cursors ≡ length marks
    pub keyed : (q x : ℕ) → number_at keys q ≡ Some x → x < length marks
    pub opening : slice_get marks 0 ≡ Some (Placed 0)
    pub at_cursor : (x q : ℕ) → number_at cursors x ≡ Some q → number_at keys q ≡ Some x
    pub passed : (x q : ℕ) (e : Edge) → x < length marks → IsBeyond (number_at cursors x) q →
        edge_at keys earlier q ≡ Some e → e.to ≡ x → IsEdgeSettled marks e
    pub below : (x rank q : ℕ) (e : Edge) → slice_get marks x ≡ Some (Placed rank) → edge_at keys earlier q ≡ Some e →
        e.to ≡ x → IsEdgeSettledBelow marks rank e
    pub ranked : (x rank : ℕ) → slice_get marks x ≡ Some (Placed rank) → slice_get placed rank ≡ Some x
    pub on_path : (i x : ℕ) → slice_get path i ≡ Some x → slice_get marks x ≡ Some Open
    pub all_open : (x : ℕ) → slice_get marks x ≡ Some Open → (i : ℕ) × (slice_get path i ≡ Some x)
    pub once : (i j x : ℕ) → slice_get path i ≡ Some x → slice_get path j ≡ Some x → i ≡ j
    pub next : (i x y : ℕ) → slice_get path i ≡ Some x → slice_get path (i + 1) ≡ Some y → IsReachedFrom cursors x y

  -- the last record on the path comes from one on it
  pub record HasMet (cursors : List (Option ℕ)) (path : List ℕ) (met : ℕ) : Type 0 where
    pub last : ℕ
    pub last_at : slice_get path (length path - 1) ≡ Some last
    pub comes : IsReachedFrom cursors last met
    pub place : ℕ
    pub met_at : slice_get path place ≡ Some met

  -- a link along an edge between two records
  pub record IsAlong (link : Link) : Type 0 where
    pub edge : Edge
    pub at : edge_at keys earlier link.later ≡ Some edge
    pub from : edge.link.earlier ≡ link.earlier
    pub apart : edge.from ≢ edge.to

  -- links one after the other, from this record to that one
  pub record IsTrail (links : List Link) (from to : ℕ) : Type 0 where
    pub some : 0 < length links
    pub each : (i : ℕ) (link : Link) → slice_get links i ≡ Some link → IsAlong link
    pub next : (i : ℕ) (link next : Link) → slice_get links i ≡ Some link → slice_get links (i + 1) ≡ Some next →
        number_at keys link.later ≡ number_at keys next.earlier
    pub first : (link : Link) → slice_get links 0 ≡ Some link → number_at keys link.earlier ≡ Some from
    pub last : (link : Link) → slice_get links (length links - 1) ≡ Some link → number_at keys link.later ≡ Some to

  -- every record is placed, and each edge between two comes from the one that was placed before
  abbrev pub ArePlaced : List Mark → List ℕ → Type 0
  ArePlaced marks placed = (cursors : List (Option ℕ)) × IsWalk marks cursors [] placed
      × ((x : ℕ) → x < length marks → (rank : ℕ) × (slice_get marks x ≡ Some (Placed rank)))

-- a mark may become another
abbrev pub MovesTo : Mark → Mark → Type 0
MovesTo New mark = Unit {0}
MovesTo Open New = ⊥
MovesTo Open Open = Unit {0}
MovesTo Open (Placed rank) = Unit {0}
MovesTo (Placed rank) mark = mark ≡ Placed rank

pub record AreFurther (old new : List Mark) : Type 0 where
  pub long : length new ≡ length old
  pub moved : (x : ℕ) (mark : Mark) → slice_get old x ≡ Some mark →
      (now : Mark) × (slice_get new x ≡ Some now) × MovesTo mark now

abbrev pub is_new : Option Mark → Bool
is_new None = false
is_new (Some New) = true
is_new (Some Open) = false
is_new (Some (Placed rank)) = false

abbrev pub link_at : List (Option ℕ) → List (Option ℕ) → List (Option ℕ) → ℕ → Option Link
link_at keys earlier cursors x =
    option_and_then (λ q. option_map (λ (e : Edge). e.link) (edge_at keys earlier q)) (number_at cursors x)

-- how much is left to be done
abbrev pub left_at_mark : Mark → ℕ
left_at_mark New = 2
left_at_mark Open = 1
left_at_mark (Placed rank) = 0

abbrev pub left_at_cursor : Option ℕ → ℕ
left_at_cursor None = 0
left_at_cursor (Some q) = q + 1

abbrev pub left_of : Walk → ℕ
left_of walk = sum_by left_at_mark walk.marks.items + sum_by left_at_cursor walk.cursors.items

abbrev pub IsWalking : Tables → Walk → Type 0
IsWalking tables walk =
    IsWalk tables.keys.items tables.earlier.items walk.marks.items walk.cursors.items walk.path.items walk.placed.items

abbrev pub HasMetOn : Tables → Walk → ℕ → Type 0
HasMetOn tables walk met = HasMet tables.keys.items tables.earlier.items walk.cursors.items walk.path.items met

abbrev pub AreAllPlaced : Tables → Walk → Type 0
AreAllPlaced tables walk = ArePlaced tables.keys.items tables.earlier.items walk.marks.items walk.placed.items

-- one record more is open, or is placed, or the cursor of one has gone on
pub record HasEntered (old new : Walk) (x : ℕ) : Type 0 where
  pub marks : new.marks.items ≡ set old.marks.items x Open
  pub cursors : new.cursors.items ≡ old.cursors.items
  pub path : new.path.items ≡ old.path.items ++ x ∷ []
  pub placed : new.placed.items ≡ old.placed.items

pub record HasPlaced (old new : Walk) (x : ℕ) : Type 0 where
  pub marks : new.marks.items ≡ set old.marks.items x (Placed (length old.placed.items))
  pub cursors : new.cursors.items ≡ old.cursors.items
  pub path : new.path.items ≡ take (length old.path.items - 1) old.path.items
  pub placed : new.placed.items ≡ old.placed.items ++ x ∷ []

pub record HasPassed (old new : Walk) (x : ℕ) (cursor : Option ℕ) : Type 0 where
  pub marks : new.marks.items ≡ old.marks.items
  pub cursors : new.cursors.items ≡ set old.cursors.items x cursor
  pub path : new.path.items ≡ old.path.items
  pub placed : new.placed.items ≡ old.placed.items
