-- One line fewer is left, and at last the first of them is that at the place.
use Rattle.std.proofs.Common.{◌≡◌, ◌∙◌, ◌≤◌, ℕ, List, [], Option, ap, arith, slice_get}
use Rattle.std.specs.Prelude.{unwrap_or}
use Rattle.text_lines.specs.Splits.{lines_of}
use Rattle.print_evidence.proofs.LostLemmas.{first_left, one_fewer}
use Rattle.print_reasons.specs.Text.{body_of}
use Rattle.print_evidence.proofs.lost.line_in.Goals as goal

pub loop-behind-preserved : goal.loop-behind-preserved
loop-behind-preserved c = c.body_of-rest-in-loop-behind.ensures
    ∙ one_fewer c.loop-behind.behind (body_of c.args.bytes.now) (lines_of c.loop-behind.rest.now) c.loop-behind.invariant

pub returns : goal.returns
returns c =
    let body : List (List ℕ) = body_of c.args.bytes.now in
    let done : c.args.place ≤ c.loop-behind.behind = c.loop-behind-test.false in
    let same : c.loop-behind.behind ≡ c.args.place = let l = c.loop-behind.auto.behind-end in omega arith in
    let first : slice_get (lines_of c.loop-behind.rest.now) 0 ≡ slice_get body c.args.place =
    ap (λ (ls : List (List ℕ)). slice_get ls 0) c.loop-behind.invariant
    ∙ (first_left c.loop-behind.behind body ∙ ap (slice_get body) same) in
    c.first_line.ensures ∙ ap (λ (o : Option (List ℕ)). unwrap_or o []) first
