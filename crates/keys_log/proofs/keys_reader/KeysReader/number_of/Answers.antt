-- The key has its number, and a new one its reader.
use Rattle.std.proofs.Common.{◌≡◌, ◌∙◌, refl, sym, subst, length, string_bytes}
use Rattle.std.specs.Prelude.{option_map}
use Rattle.read_line.specs.Lines.{Head}
use Rattle.keys_log.specs.Keys.{with_key}
use Rattle.keys_log.specs.inner.KeyReadings.{HaveKeys, IsKeyBegun, names_of}
use Rattle.keys_log.proofs.KeyReadLemmas.{have_met, have_new, numbered_key}
use Rattle.keys_log.proofs.keys_reader.KeysReader.number_of.Goals as goal
use Rattle.keys_log.proofs.keys_reader.KeysReader.number_of.Goals.{then-number-len+in_ok-next+in_ok-push, else-number-len}

pub number-requires : goal.number-requires
number-requires c = (names_of _, c.requires.3.numbers)

pub returns-clause-known : goal.returns-clause-known
returns-clause-known c = λ head lines keys have no_line.
    let key = option_map string_bytes c.args.key.now in
    let numbered = numbered_key keys key c.as_bytes.result.now c.in_ok-number.number c.number.new.self
    (c.as_bytes.ensures.value ∙ c.in_ok-name.ensures) (c.in_ok-number.ensures (names_of keys) have.numbers) in
    elim c.if-number-len.branch [
      | then-number-len+in_ok-next+in_ok-push w ↦
          let last : c.in_ok-number.number ≡ length keys =
          w.if-number-len.true ∙ c.len.ensures ∙ c.args.self.now.readers.ok.0 ∙ have.long in
          let begun = subst (λ (h : Head). IsKeyBegun h key w.in_ok-next.next) have.heads w.in_ok-next.ensures in (
            subst (λ z. HaveKeys head lines (with_key keys key) z) (sym w.self-is)
                (have_new head lines keys key c.in_ok-number.number c.args.self.now _ w.in_ok-next.next have no_line numbered last begun
                refl w.in_ok-push.ensures.items refl),
            numbered.at,
          )
      | else-number-len w ↦ (
        subst (λ z. HaveKeys head lines (with_key keys key) z) (sym w.self-is)
            (have_met head lines keys key c.in_ok-number.number c.args.self.now _ have numbered
            (λ e. w.if-number-len.false (e ∙ sym have.long ∙ sym c.args.self.now.readers.ok.0 ∙ sym c.len.ensures))
            refl refl refl),
        numbered.at,
      )
    ]
