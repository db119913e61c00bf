-- By its places among all lines, which rise.
use Rattle.std.proofs.Common.{◌≡◌, ◌∙◌, ap, length, subst, sym}
use Rattle.std.specs.Prelude.{unwrap_or}
use Rattle.order_laws.proofs.WholeLemmas.{places_long, places_rise, Rise, whole_told}
use Rattle.order_laws.proofs.laws.small_of_key_is_unlawful.Goals as goal

pub returns : goal.returns
returns c head lines key one reason judged =
    let is = judged.is in
    let rise : Rise one.places.items = subst Rise (sym is.places) (places_rise key lines) in
    let long : length one.places.items ≡ length judged.log =
    ap length is.places ∙ places_long key 0 lines ∙ sym is.is.are.long in
    whole_told (unwrap_or head.limit 1) judged.log one.log.thinned one.places.items reason is.thinned rise long
    judged.answered judged.named
