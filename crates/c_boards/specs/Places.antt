-- What the calls on boards do to handles (this project's definitions).
use Rattle.std.specs.Prelude.{◌≡◌, ◌≢◌, ℕ, true, false, List, length, slice_get, Some}
use Rattle.std.specs.Global.{Box}
use Rattle.matrix_core.specs.declared.stamp.Stamp.{Stamp}
use Rattle.matrix_core.specs.Stamps.{is_below}
use Rattle.board_live.specs.declared.record.Posted.{Posted}
use Rattle.c_registers.specs.Handles.{Holding, Has, IsLacking}
use Rattle.c_boards.specs.Marks.{stamp_of}
use Rattle.c_boards.specs.Opens.{MayHave, MayEnd}
use Rattle.c_boards.specs.declared.mark.Mark.{Mark}

abbrev pub shown : {W : Type 0} → Mark → W → Posted W
shown m w = record { stamp = stamp_of m; item = w }

module _ {D : Type 0} (code : ℕ) where
  -- a write at a place, and its status: what the handle has, and the stamp, before and after
  pub data IsBoardWrite {S W : Type 0} (place : S → D) (has_posted : S → S → W → Stamp → Type 0)
      (is_refused : S → S → Type 0) (h k : Holding D) (item : W) (stamp stamp' : Mark) : ℕ → Type 0 where
    done : (p q : S) → Has code h (place p) → Has code k (place q) → has_posted p q item (stamp_of stamp') →
        IsBoardWrite place has_posted is_refused h k item stamp stamp' 0
    at_limit : (p q : S) → Has code h (place p) → Has code k (place q) → is_refused p q → stamp' ≡ stamp →
        IsBoardWrite place has_posted is_refused h k item stamp stamp' 4
    refused : {n : ℕ} → IsLacking code h k n → stamp' ≡ stamp →
        IsBoardWrite place has_posted is_refused h k item stamp stamp' n

  -- a read at a place, and its status: what the handle has, the record and the stamp, before and after
  pub data IsBoardRead {S W : Type 0} (place : S → D) (has_seen : S → S → Posted W → Type 0)
      (h k : Holding D) (item item' : W) (stamp stamp' : Mark) : ℕ → Type 0 where
    done : (p q : S) → Has code h (place p) → Has code k (place q) → has_seen p q (shown stamp' item') →
        IsBoardRead place has_seen h k item item' stamp stamp' 0
    refused : {n : ℕ} → IsLacking code h k n → item' ≡ item → stamp' ≡ stamp →
        IsBoardRead place has_seen h k item item' stamp stamp' n

  -- a read that says by its status whether the answer is older than this stamp
  pub data IsBoardReadSince {S W : Type 0} (place : S → D) (has_seen : S → S → Posted W → Type 0)
      (h k : Holding D) (least : Mark) (item item' : W) (stamp stamp' : Mark) : ℕ → Type 0 where
    fresh : (p q : S) → Has code h (place p) → Has code k (place q) → has_seen p q (shown stamp' item') →
        is_below (stamp_of stamp') (stamp_of least) ≡ false →
        IsBoardReadSince place has_seen h k least item item' stamp stamp' 0
    older : (p q : S) → Has code h (place p) → Has code k (place q) → has_seen p q (shown stamp' item') →
        is_below (stamp_of stamp') (stamp_of least) ≡ true →
        IsBoardReadSince place has_seen h k least item item' stamp stamp' 10
    refused : {n : ℕ} → IsLacking code h k n → item' ≡ item → stamp' ≡ stamp →
        IsBoardReadSince place has_seen h k least item item' stamp stamp' n

-- what the calls of a make see of handles: whether one is live, and its side
module _ {H D : Type 0} (live : H → ℕ) (side : H → D) where
  -- no handle has a side
  abbrev pub NoneLive : List H → Type 0
  NoneLive hs = (k : ℕ) (h : H) → slice_get hs k ≡ Some h → live h ≡ 0

  -- one of the handles has a side
  abbrev pub SomeLive : List H → Type 0
  SomeLive hs = (k : ℕ) × (h : H) × (slice_get hs k ≡ Some h) × (live h ≢ 0)

  -- each handle has the side of the box that stands where it stands, of the type with this number
  abbrev pub HaveBoxed : ℕ → List (Box D) → List H → Type 0
  HaveBoxed code bs hs = (length hs ≡ length bs)
      × ((k : ℕ) (b : Box D) (h : H) → slice_get bs k ≡ Some b → slice_get hs k ≡ Some h →
      (live h ≡ code) × (side h ≡ b.value))

  -- each handle has the place that stands where it stands
  abbrev pub HaveAll : {S : Type 0} → ℕ → (S → D) → List S → List H → Type 0
  HaveAll {S = S} code place ss hs = (length hs ≡ length ss)
      × ((k : ℕ) (s : S) (h : H) → slice_get ss k ≡ Some s → slice_get hs k ≡ Some h →
      (live h ≡ code) × (side h ≡ place s))

  -- a call that makes a board with a place for each handle, and its status: the handles before and after
  pub data IsBoardMake {S W : Type 0} (code : ℕ) (place : S → D) (is_made : ℕ → ℕ → W → List S → Type 0) (limit : ℕ)
      (hs ks : List H) (first : W) : ℕ → Type 0 where
    done : (ss : List S) → NoneLive hs → is_made (length hs) limit first ss → HaveAll code place ss ks →
        IsBoardMake code place is_made limit hs ks first 0
    no_memory : NoneLive hs → ks ≡ hs → MayHave (length hs) → MayEnd limit →
        IsBoardMake code place is_made limit hs ks first 1
    in_use : SomeLive hs → ks ≡ hs → IsBoardMake code place is_made limit hs ks first 2
    processes : NoneLive hs → ks ≡ hs → (MayHave (length hs) → ⊥) → IsBoardMake code place is_made limit hs ks first 8
    limits : NoneLive hs → ks ≡ hs → MayHave (length hs) → (MayEnd limit → ⊥) →
        IsBoardMake code place is_made limit hs ks first 9
