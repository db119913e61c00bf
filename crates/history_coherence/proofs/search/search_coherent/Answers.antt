-- A record that nobody writes, or what is found without.
use Rattle.std.proofs.Common.{◌≡◌, ℕ, Bool, true, List, length, Option, ap, sym, subst, ◌∙◌}
use Rattle.history_coherence.specs.declared.coherence.Incoherence.TheVariants.{Unwritten}
use Rattle.history_coherence.specs.inner.Keys.{AreMet, lacks_source, NumbersUpTo}
use Rattle.history_coherence.proofs.Found.{incoherent}
use Rattle.history_coherence.proofs.Tabled.{is_unwritten, written_up_to}
use Rattle.history_coherence.proofs.search.search_coherent.Goals as goal

pub met_numbers-requires : goal.met_numbers-requires
met_numbers-requires c =
    let P : List (Option ℕ) → Type 0 = λ z. NumbersUpTo z c.greatest_record-greatest.result in
    subst P (sym (c.as_slice.ensures.value ∙ c.in_ok-records.ensures))
    (written_up_to c.args.log.now c.greatest_record-greatest.result c.greatest_record-greatest.ensures)

pub returns-in-Some : goal.returns-in-Some
returns-in-Some c =
    let log = c.args.log.now in
    let written = c.in_ok-written.written.items in
    let M : List (Option ℕ) → Type 0 = λ z. AreMet z (length z) written in
    let met = subst M (c.as_slice.ensures.value ∙ c.in_ok-records.ensures) c.in_ok-written.ensures.met in
    let some = c.in-Some.ensures.some in
    let lacks : lacks_source written some.0 ≡ true =
    ap (λ (z : List Bool). lacks_source z some.0) (sym c.as_slice-2.ensures.value) ∙ some.2 in
    incoherent log c.requires (Unwritten c.in-Some.read) (is_unwritten log written c.greatest_record-greatest.result c.in-Some.read some.0
    c.greatest_record-greatest.ensures c.in_ok-written.ensures.long met some.1 lacks)
