-- Why a log is not coherent, where each record is written once and none is the opening: after P. Gibbons and E. Korach,
-- Testing Shared Memories, SIAM J. Computing 26, 1997, for reads that name their writes. The rules are this project's
-- own. Places are those of the operations in the log.
use Rattle.std.specs.Prelude.{◌≡◌, ◌⊎◌, ℕ, ◌+◌, ◌-◌, ◌<◌, true, false, List, length, slice_get, Some, IsSome}
use Rattle.history_core.specs.declared.history.Op.{Op}
use Rattle.history_core.specs.Orders.{is_write}
use Rattle.history_core.specs.Reasons.{IsOfOpening, IsUnwritten, OfOneRecord}
use Rattle.history_coherence.specs.declared.coherence.Incoherence.{Incoherence}
use Rattle.history_coherence.specs.declared.coherence.Incoherence.TheVariants.{Unwritten, Ahead, Circle}
use Rattle.history_coherence.specs.declared.coherence.Link.{Link}

module _ {R : Type 0} (Same : R → R → Type 0) (opening : R) (log : List (Op R)) where
  -- an operation has to stand in an order: it is finished, or a write of a record that a finished operation has
  abbrev pub HasToStand : Op R → Type 0
  HasToStand o = IsSome o.ends ⊎ ((is_write o.kind ≡ true) × (q : ℕ) × (b : Op R) × (slice_get log q ≡ Some b)
      × IsSome b.ends × OfOneRecord Same b o)

  -- a finished read or refused write, and the write of its record, which the same task begins only later
  pub record IsAheadOfWrite (read write : ℕ) : Type 0 where
    pub op : Op R
    pub source : Op R
    pub at : slice_get log read ≡ Some op
    pub source_at : slice_get log write ≡ Some source
    pub finished : IsSome op.ends
    pub answers : is_write op.kind ≡ false
    pub writes : is_write source.kind ≡ true
    pub one : OfOneRecord Same op source
    pub task : op.who ≡ source.who
    pub before : read < write

  -- a link: two operations of one task that have to stand, of two records. So the record of the earlier one is written
  -- before that of the later one
  pub record IsLink (link : Link) : Type 0 where
    pub one : Op R
    pub other : Op R
    pub one_at : slice_get log link.earlier ≡ Some one
    pub other_at : slice_get log link.later ≡ Some other
    pub one_stands : HasToStand one
    pub other_stands : HasToStand other
    pub task : one.who ≡ other.who
    pub before : link.earlier < link.later
    pub apart : ¬ OfOneRecord Same one other

  -- a link leads to another: it ends with the record with which the other begins, or with the opening, before which no
  -- record is written
  pub record LeadsTo (link next : Link) : Type 0 where
    pub last : Op R
    pub first : Op R
    pub last_at : slice_get log link.later ≡ Some last
    pub first_at : slice_get log next.earlier ≡ Some first
    pub joined : OfOneRecord Same last first ⊎ IsOfOpening Same opening last

  -- links in a circle: each leads to the next, and the last to the first
  pub record IsCircle (links : List Link) : Type 0 where
    pub some : 0 < length links
    pub each : (i : ℕ) (link : Link) → slice_get links i ≡ Some link → IsLink link
    pub next : (i : ℕ) (link next : Link) → slice_get links i ≡ Some link → slice_get links (i + 1) ≡ Some next →
        LeadsTo link next
    pub closed : (link next : Link) → slice_get links (length links - 1) ≡ Some link → slice_get links 0 ≡ Some next →
        LeadsTo link next

  -- a reason is one by its rule
  abbrev pub IsIncoherence : Incoherence → Type 0
  IsIncoherence (Unwritten read) = IsUnwritten Same opening log read
  IsIncoherence (Ahead read write) = IsAheadOfWrite read write
  IsIncoherence (Circle links) = IsCircle links
