-- What comes of a walk. Only private functions cite this, which is this project's own.
use Rattle.std.specs.Prelude.{◌≡◌, ◌⊎◌, ℕ, true, List, slice_get, Option, None, Some, IsSome, option_to_list}
use Rattle.std.specs.Option.{option_map}
use Rattle.history_core.specs.declared.history.Op.{Op}
use Rattle.history_core.specs.Orders.{is_write}
use Rattle.history_coherence.specs.declared.coherence.Coherence.{Coherence}
use Rattle.history_coherence.specs.declared.coherence.Coherence.TheVariants.{Incoherent}
use Rattle.history_coherence.specs.declared.coherence.Incoherence.{Incoherence}
use Rattle.history_coherence.specs.declared.coherence.Incoherence.TheVariants.{Ahead, Circle as CircleOf}
use Rattle.history_coherence.specs.declared.coherence.Link.{Link}
use Rattle.history_coherence.specs.declared.edge.Edge.{Edge}
use Rattle.history_coherence.specs.declared.edge.Tables.{Tables}
use Rattle.history_coherence.specs.declared.order.Sorting.{Sorting}
use Rattle.history_coherence.specs.declared.order.Sorting.TheVariants.{Circle, Order}
use Rattle.history_coherence.specs.declared.walk.Mark.{Mark}
use Rattle.history_coherence.specs.inner.Keys.{edge_at, number_at}
use Rattle.history_coherence.specs.inner.Ranks.{IsRanked}
use Rattle.history_coherence.specs.inner.Walks.{ArePlaced, IsTrail}

-- an order by the ranks of records that are all placed, or links from a record to itself
abbrev pub IsSorting : List (Op ℕ) → Tables → Sorting → Type 0
IsSorting log tables (Order order) = (marks : List Mark) × (placed : List ℕ)
    × ArePlaced tables.keys.items tables.earlier.items marks placed
    × IsRanked log tables.keys.items marks order.items
IsSorting log tables (Circle links) = (met : ℕ) × IsTrail tables.keys.items tables.earlier.items links.items met met

-- each finished operation has a record, which is the opening or that of a write
pub record HaveKnownRecords (log : List (Op ℕ)) (keys : List (Option ℕ)) : Type 0 where
  pub finished : (p : ℕ) (o : Op ℕ) → slice_get log p ≡ Some o → IsSome o.ends → (x : ℕ) × (number_at keys p ≡ Some x)
  pub source : (p x : ℕ) → number_at keys p ≡ Some x → (x ≡ 0) ⊎ ((w : ℕ) × (a : Op ℕ) × (slice_get log w ≡ Some a)
      × (is_write a.kind ≡ true) × (number_at keys w ≡ Some x))

abbrev pub links_at : Tables → ℕ → List Link
links_at tables q =
    option_to_list (option_map (λ (e : Edge). e.link) (edge_at tables.keys.items tables.earlier.items q))

abbrev pub earlier_of : ℕ → Option Edge → ℕ
earlier_of write None = write
earlier_of write (Some e) = e.link.earlier

abbrev pub ahead_at : Tables → ℕ → Incoherence
ahead_at tables write = Ahead (earlier_of write (edge_at tables.keys.items tables.earlier.items write)) write

abbrev pub circle_of : List Link → Coherence
circle_of links = Incoherent (CircleOf links)
