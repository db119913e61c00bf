-- A piece more was taken: whole lines of it were watched, or one stops; or nothing more comes.
use Rattle.std.proofs.Common.{◌∙◌, ◌<◌, ℕ, List, length, refl, subst}
use Rattle.read_document.specs.Document.{max_bytes}
use Rattle.fsr_watch_answers.specs.inner.Comings.{IsLastTold, IsLongTold}
use Rattle.fsr_watch_answers.proofs.RunLemmas.{more_stops, more_watched, piece_fails, piece_more, so_ends, so_long}
use Rattle.fsr_watch_answers.proofs.watch.watch_input.Goals as goal

pub returns-in-Ok-eq0-clause-watches : goal.returns-in-Ok-eq0-clause-watches
returns-in-Ok-eq0-clause-watches g c =
    let so = c.pieces.invariant.0 in
    so_ends _ _ _ c.pieces.read c.pieces.bytes.items c.take_piece.new.bytes.items c.in-Ok-eq0.field-0 c.watch_last.result so
    c.in-Ok-eq0.ensures.taken c.in-Ok-eq0.field-0-test
    (subst (λ (l : List ℕ). IsLastTold so.to.after l c.watch_last.result) c.as_slice.ensures.value
    (c.watch_last.ensures so.to.after so.to.knows))

pub returns-in-Err-NoMemory-clause-watches : goal.returns-in-Err-NoMemory-clause-watches
returns-in-Err-NoMemory-clause-watches g c =
    let gone = piece_fails _ _ _ c.pieces.read c.pieces.bytes.items c.take_piece.new.bytes.items c.in-Err-NoMemory.field-0
    c.pieces.invariant.0 c.in-Err-NoMemory.ensures.taken in
    (gone.0, gone.1, λ other. absurd (other refl))

pub returns-in-Err-Failed-clause-watches : goal.returns-in-Err-Failed-clause-watches
returns-in-Err-Failed-clause-watches g c =
    piece_fails _ _ _ c.pieces.read c.pieces.bytes.items c.take_piece.new.bytes.items c.in-Err-Failed.field-0
    c.pieces.invariant.0 c.in-Err-Failed.ensures.taken

pub returns-in-Stops-clause-watches : goal.returns-in-Stops-clause-watches
returns-in-Stops-clause-watches g c =
    let more = piece_more _ _ _ c.pieces.read c.pieces.bytes.items c.take_piece.new.bytes.items c.in-Ok.field-0 c.pieces.invariant.0
    c.in-Ok.ensures.taken in
    more_stops _ _ c.pieces.read c.take_piece.new.bytes.items c.watch_whole.new.bytes.items c.in-Stops.reply more
    (c.in-Stops.ensures more.to.after more.to.knows)

pub returns-then-len-gt-MAX_LINE-clause-watches : goal.returns-then-len-gt-MAX_LINE-clause-watches
returns-then-len-gt-MAX_LINE-clause-watches g c =
    let more = piece_more _ _ _ c.pieces.read c.pieces.bytes.items c.take_piece.new.bytes.items c.in-Ok.field-0 c.pieces.invariant.0
    c.in-Ok.ensures.taken in
    let so = more_watched _ _ c.pieces.read c.in-GoesOn.read c.take_piece.new.bytes.items c.watch_whole.new.bytes.items more
    (c.in-GoesOn.ensures more.to.after more.to.knows) in
    let long : max_bytes < length c.watch_whole.new.bytes.items =
    subst (λ (n : ℕ). max_bytes < n) (c.len.ensures ∙ c.watch_whole.new.bytes.ok.0) c.if-len-gt-MAX_LINE.true in
    so_long _ _ c.in-GoesOn.read c.watch_whole.new.bytes.items c.watch_long.result so long
    (subst (λ (l : List ℕ). IsLongTold so.to.after l c.watch_long.result) c.as_slice-then-len-gt-MAX_LINE.ensures.value
    (c.watch_long.ensures so.to.after so.to.knows))

pub pieces-preserved : goal.pieces-preserved
pieces-preserved g c =
    let more = piece_more _ _ _ c.pieces.read c.pieces.bytes.items c.take_piece.new.bytes.items c.in-Ok.field-0 c.pieces.invariant.0
    c.in-Ok.ensures.taken in
    let so = more_watched _ _ c.pieces.read c.in-GoesOn.read c.take_piece.new.bytes.items c.watch_whole.new.bytes.items more
    (c.in-GoesOn.ensures more.to.after more.to.knows) in
    (so, c.in-Ok.ensures.counts ∙ c.pieces.invariant.1)
