-- What the picture of a document shows (this project's own): its history and order, or those that its player made of
-- it, or of a log the order that was found; with its points and with what breaks it, or why there is none.
use Rattle.std.specs.Prelude.{◌≡◌, ◌==◌, ◌&&◌, ◌⊎◌, IsTrue, List, ℕ, [], IfSome, Option, None, Some}
use Rattle.four_slot_core.specs.declared.schedule.CellReport.{CellReport}
use Rattle.four_slot_core.specs.declared.schedule.CellSchedule.{CellSchedule}
use Rattle.history_core.specs.declared.reason.Search.{Search}
use Rattle.history_core.specs.declared.reason.Search.TheVariants.{Order, Unlawful}
use Rattle.history_explain.specs.Breaks.{IsFirstBreak, verdict_of}
use Rattle.history_core.specs.Orders.{IsVerdict}
use Rattle.history_explain.specs.Points.{AreEarliest, HasPoints}
use Rattle.history_core.specs.declared.band.Band.{Band}
use Rattle.history_explain.specs.declared.breaks.Break.{Break}
use Rattle.history_core.specs.declared.history.History.{History}
use Rattle.history_core.specs.declared.history.Op.{Op}
use Rattle.matrix_core.specs.declared.schedule.MatrixReport.{MatrixReport}
use Rattle.matrix_core.specs.declared.schedule.BoardReport.{BoardReport}
use Rattle.matrix_core.specs.declared.schedule.BoardSchedule.{BoardSchedule}
use Rattle.matrix_core.specs.declared.stamp.Stamp.{Stamp}
use Rattle.picture_shapes.specs.declared.shape.lanes.Lanes.{Lanes}
use Rattle.picture_shapes.specs.declared.shape.lanes.Lanes.TheVariants.{Actors, Cell}
use Rattle.print_picture.specs.Picture.{board_lanes}
use Rattle.print_picture.specs.declared.scene.Finding.{Finding}
use Rattle.print_picture.specs.declared.scene.Finding.TheVariants.{Lawful, Broken, NoOrder}
use Rattle.print_picture.specs.declared.scene.Scene.{Scene}
use Rattle.picture_answers.specs.Moments.{AreMoments, ranked_history}
use Rattle.picture_shapes.specs.Visits.{board_visits, cell_visits}
use Rattle.picture_shapes.specs.declared.visit.Visit.{Visit}

-- two records are the same where their three numbers are
abbrev pub AreSame : Band → Band → Type 0
AreSame x y = IsTrue ((x.lo == y.lo) && ((x.now == y.now) && (x.hi == y.hi)))

-- the points of an order: the earliest, where it has some
abbrev pub ArePointsOf : List (Op Band) → List ℕ → List ℕ → Type 0
ArePointsOf ops order points = AreEarliest ops order points ⊎ ((¬ HasPoints ops order) × (points ≡ []))

-- a history with an order of it and its points, and what is said of it; these stamps, lines, lanes and slot accesses;
-- and the moments of which its times are the ranks, or none where they are moments
pub record IsSceneOf (history : History Band) (moments order : List ℕ) (finding : Finding)
    (stamps : List (Option Stamp)) (lines : List ℕ) (lanes : Lanes) (visits : List Visit) (scene : Scene) :
    Type 0 where
  pub history_is : scene.history ≡ history
  pub moments_are : scene.moments ≡ moments
  pub order_is : scene.order ≡ order
  pub points_are : ArePointsOf history.ops order scene.points
  pub finding_is : scene.finding ≡ finding
  pub stamps_are : scene.stamps ≡ stamps
  pub lines_are : scene.lines ≡ lines
  pub lanes_are : scene.lanes ≡ lanes
  pub visits_are : scene.visits ≡ visits

-- a history without stamps and slots, each moment of which is its rank, with these lines
pub record IsPlainSceneOf (history : History Band) (lines : List ℕ) (order : List ℕ) (finding : Finding)
    (scene : Scene) : Type 0 where
  pub moments : List ℕ
  pub are : AreMoments history.ops moments
  pub shown : IsSceneOf (ranked_history moments history) moments order finding [] lines Actors [] scene

abbrev pub finding_of : Option Break → Finding
finding_of None = Lawful
finding_of (Some broken) = Broken broken

-- of a check what breaks the order, if something does
pub record ShowsCheck (history : History Band) (order : List ℕ) (scene : Scene) : Type 0 where
  pub broken : Option Break
  pub shown : IsPlainSceneOf history [] order (finding_of broken) scene
  pub rule : IsVerdict AreSame history.opening history.terms history.ops order (verdict_of broken)
  pub first : IfSome broken (IsFirstBreak AreSame history.opening history.terms history.ops order)

-- of a log the order that was found, or no order and the reason
abbrev pub ShowsLog : History Band → List ℕ → Search → Scene → Type 0
ShowsLog log lines (Order order) scene = IsPlainSceneOf log lines order Lawful scene
ShowsLog log lines (Unlawful reason) scene = IsPlainSceneOf log lines [] (NoOrder reason) scene

abbrev pub ShowsCell : CellSchedule Band → CellReport Band → Scene → Type 0
ShowsCell schedule report scene =
    IsSceneOf report.history [] report.order Lawful [] [] Cell
    (cell_visits schedule report.history.ops report.slots) scene

abbrev pub ShowsMatrix : MatrixReport Band → Scene → Type 0
ShowsMatrix report scene = IsSceneOf report.history [] report.order Lawful report.stamps [] Actors [] scene

-- of a board also its cells, where they fit
abbrev pub ShowsBoard : BoardSchedule Band → BoardReport Band → Scene → Type 0
ShowsBoard schedule report scene =
    IsSceneOf report.history [] report.order Lawful report.stamps [] (board_lanes schedule.terms)
    (board_visits schedule.terms report.history.terms report.history.ops report.slots) scene
