-- One lane more, and one moment more on the axis.
use Rattle.std.proofs.Common.{◌≡◌, ℕ, ◌+◌, ◌++◌, List, add-one, ap}
use Rattle.print_picture.specs.Picture.{lanes_text, tick_at, ticks_text}
use Rattle.picture_shapes.specs.Shapes.{lane_text}
use Rattle.picture_shapes.specs.declared.scale.Scale.{Scale}
use Rattle.picture_shapes.specs.declared.shape.lanes.Lanes.{Lanes}
use Rattle.picture_shapes.proofs.Rows.{row}

pub lane_step : (lanes : Lanes) (far n : ℕ) (start before after : List ℕ) → before ≡ start ++ lanes_text lanes far n
    → after ≡ before ++ lane_text lanes far n → after ≡ start ++ lanes_text lanes far (n + 1)
lane_step lanes far n start before after so_far pushed =
    let next = ap (lanes_text lanes far) (add-one n) in
    row start (lanes_text lanes far n) (lane_text lanes far n) before after (lanes_text lanes far (n + 1)) next so_far pushed

pub tick_step : (moments : List ℕ) (s : Scale) (high n : ℕ) (start before after : List ℕ) → before ≡ start ++ ticks_text moments s high n
    → after ≡ before ++ tick_at moments s high n → after ≡ start ++ ticks_text moments s high (n + 1)
tick_step moments s high n start before after so_far pushed =
    let next = ap (ticks_text moments s high) (add-one n) in
    row start (ticks_text moments s high n) (tick_at moments s high n) before after (ticks_text moments s high (n + 1)) next so_far pushed
