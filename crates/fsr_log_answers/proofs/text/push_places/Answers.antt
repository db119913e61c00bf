-- What is printed for one place more stands behind what the places before it printed, and at the end all are printed.
use Rattle.std.proofs.Common.{◌≡◌, ◌∙◌, ◌++◌, ◌<◌, ◌+◌, ℕ, List, ap, codes, get_or, length, sym, take}
use Rattle.std.proofs.lemmas.List.{flat_map_more, take_all, take_more}
use Rattle.std.specs.Fmt.{decimal}
use Rattle.fsr_log_answers.specs.Text.{places_text}
use Rattle.fsr_log_answers.proofs.text.push_places.Goals as goal

one_more : (start old new places : List ℕ) (i : ℕ) → i < length places → old ≡ start ++ places_text (take i places)
    → new ≡ old ++ (codes " " ++ decimal (get_or places i 0)) → new ≡ start ++ places_text (take (i + 1) places)
one_more start old new places i within before added =
    let place = get_or places i 0 in
    added ∙ (ap (λ l. l ++ (codes " " ++ decimal place)) before
    ∙ (flat_map_more (λ p. codes " " ++ decimal p) start (take i places) place
    ∙ ap (λ l. start ++ places_text l) (sym (take_more places i 0 within))))

pub loop-place-preserved : goal.loop-place-preserved
loop-place-preserved c = one_more c.args.text.now.items c.loop-place.text.items c.push_place.new.text.items c.args.places.now
    c.loop-place.place-index c.loop-place-test.true c.loop-place.invariant c.in_ok-push_place.ensures

pub returns : goal.returns
returns c = c.loop-place.invariant
    ∙ ap (λ l. c.args.text.now.items ++ places_text l) (take_all c.loop-place.place-index c.args.places.now c.loop-place-test.false)
