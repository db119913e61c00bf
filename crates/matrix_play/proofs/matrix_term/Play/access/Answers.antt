-- The fields that the code changes are those of the kind of access.
use Rattle.std.proofs.Common.{rules, arith, ◌≡◌, ◌≢◌, ◌∙◌, sym, ap, ◌+◌, ◌*◌, ◌<◌, refl, length}
use Rattle.std.specs.Prelude.{slice_get, Some}
use Rattle.std.proofs.lemmas.Option.{slice_get_read, get_or_from_slice_get}
use Rattle.matrix_core.specs.declared.progress.Progress.{Progress}
use Rattle.matrix_play.specs.declared.matrix_term.Seat.{Seat}
use Rattle.matrix_play.specs.MatrixEvents.{size}
use Rattle.matrix_play.specs.inner.MatrixPlays.{MatrixPlaying, accesses, place_of, first_seat}
use Rattle.matrix_play.proofs.matrices.Accesses.{last_access}
use Rattle.matrix_play.proofs.matrices.Steps.{access_chooses, access_finishes, access_moves}
use Rattle.matrix_play.proofs.matrix_term.Play.access.Goals as goal

pub returns-then-done-n : goal.returns-then-done-n
returns-then-done-n g c =
    let run : MatrixPlaying g.row.R.Denot = record {
      matrix = c.self.inside.core;
      now = c.self.inside.now;
      seats = c.self.inside.seats.items;
      ops = c.self.inside.ops.items;
      stamps = c.self.inside.stamps.items;
    } in
    let line : Progress g.row.R.Denot = c.line.result.now in
    let q : length run.seats ≡ size run.matrix = rw (← c.self.view_is) at c.requires.processes in
    let len : c.len-n.result ≡ length run.seats = search rules in
    let n : c.len-n.result ≡ size run.matrix = len ∙ q in
    let who : c.args.who < length run.seats = rw (← c.self.view_is) at c.requires.inside in
    let seat : slice_get run.seats c.args.who ≡ Some c.index.result.now =
    slice_get_read run.seats _ c.args.who _ refl who c.index.ensures in
    let p : c.index.result.now.place ≡ place_of run c.args.who =
    sym (ap (λ (z : Seat). z.place) (get_or_from_slice_get run.seats c.args.who c.index.result.now first_seat seat)) in
    let inside : place_of run c.args.who < length run.ops = rw (← c.self.view_is) at c.requires.place in
    let lt : c.index.result.now.place < length run.ops = omega arith in
    let here : slice_get run.ops c.index.result.now.place ≡ Some c.index-then-done-n.result.now =
    slice_get_read run.ops _ c.index.result.now.place _ refl lt c.index-then-done-n.ensures in
    let o : slice_get run.ops (place_of run c.args.who) ≡ Some c.index-then-done-n.result.now = rw p at here in
    let l : length run.stamps ≡ length run.ops = rw (← c.self.view_is) at c.requires.stamps in
    let e = access_chooses run c.args.who c.args.wish line c.step.new.self c.line-line.result.now c.index-then-done-n.result.now
    c.step.ensures.matrix (c.if-done-n.true ∙ n) c.line-line.ensures.at o l in (
      line,
      ap (λ (z : MatrixPlaying g.row.R.Denot). slice_get z.matrix.lines c.args.who) (sym c.self.view_is) ∙ c.line.ensures.at,
      rw (p, c.chose.ensures) (sym e ∙ ap (λ (z : MatrixPlaying g.row.R.Denot). accesses z c.args.who c.args.wish line) c.self.view_is),
    )

pub returns-then-done-n-2 : goal.returns-then-done-n-2
returns-then-done-n-2 g c =
    let run : MatrixPlaying g.row.R.Denot = record {
      matrix = c.self.inside.core;
      now = c.self.inside.now;
      seats = c.self.inside.seats.items;
      ops = c.self.inside.ops.items;
      stamps = c.self.inside.stamps.items;
    } in
    let line : Progress g.row.R.Denot = c.line.result.now in
    let q : length run.seats ≡ size run.matrix = rw (← c.self.view_is) at c.requires.processes in
    let len : c.len-n.result ≡ length run.seats = search rules in
    let n : c.len-n.result ≡ size run.matrix = len ∙ q in
    let who : c.args.who < length run.seats = rw (← c.self.view_is) at c.requires.inside in
    let seat : slice_get run.seats c.args.who ≡ Some c.index.result.now =
    slice_get_read run.seats _ c.args.who _ refl who c.index.ensures in
    let p : c.index.result.now.place ≡ place_of run c.args.who =
    sym (ap (λ (z : Seat). z.place) (get_or_from_slice_get run.seats c.args.who c.index.result.now first_seat seat)) in
    let inside : place_of run c.args.who < length run.ops = rw (← c.self.view_is) at c.requires.place in
    let lt : c.index.result.now.place < length run.ops = omega arith in
    let here : slice_get run.ops c.index.result.now.place ≡ Some c.index-then-done-n-2.result.now =
    slice_get_read run.ops _ c.index.result.now.place _ refl lt c.index-then-done-n-2.ensures in
    let o : slice_get run.ops (place_of run c.args.who) ≡ Some c.index-then-done-n-2.result.now = rw p at here in
    let no : line.done + 2 ≢ size run.matrix = λ h. c.if-done-n.false (h ∙ sym n) in
    let yes : line.done + 3 ≡ 2 * size run.matrix = c.if-done-n-2.true ∙ ap (λ k. 2 * k) n in
    let out = last_access run.matrix c.step.new.self c.args.who c.args.wish line c.line-then-done-n-2.result.now c.line.ensures.matrix
    c.step.ensures.matrix c.line.ensures.at yes c.line-then-done-n-2.ensures.at in
    let e =
    access_finishes run c.args.who c.args.wish line c.step.new.self c.index-then-done-n-2.result.now c.step.ensures.matrix no yes o in (
      line,
      ap (λ (z : MatrixPlaying g.row.R.Denot). slice_get z.matrix.lines c.args.who) (sym c.self.view_is) ∙ c.line.ensures.at,
      rw (p, c.ended.ensures, out)
          (sym e ∙ ap (λ (z : MatrixPlaying g.row.R.Denot). accesses z c.args.who c.args.wish line) c.self.view_is),
    )

pub returns-else-done-n-2 : goal.returns-else-done-n-2
returns-else-done-n-2 g c =
    let run : MatrixPlaying g.row.R.Denot = record {
      matrix = c.self.inside.core;
      now = c.self.inside.now;
      seats = c.self.inside.seats.items;
      ops = c.self.inside.ops.items;
      stamps = c.self.inside.stamps.items;
    } in
    let line : Progress g.row.R.Denot = c.line.result.now in
    let q : length run.seats ≡ size run.matrix = rw (← c.self.view_is) at c.requires.processes in
    let len : c.len-n.result ≡ length run.seats = search rules in
    let n : c.len-n.result ≡ size run.matrix = len ∙ q in
    let e = access_moves run c.args.who c.args.wish line c.step.new.self c.step.ensures.matrix (λ h. c.if-done-n.false (h ∙ sym n))
    (λ h. c.if-done-n-2.false (h ∙ ap (λ k. 2 * k) (sym n))) in (
      line,
      ap (λ (z : MatrixPlaying g.row.R.Denot). slice_get z.matrix.lines c.args.who) (sym c.self.view_is) ∙ c.line.ensures.at,
      sym e ∙ ap (λ (z : MatrixPlaying g.row.R.Denot). accesses z c.args.who c.args.wish line) c.self.view_is,
    )
