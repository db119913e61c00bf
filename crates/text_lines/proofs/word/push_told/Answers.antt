-- Each code is a byte.
use Rattle.std.proofs.Common.{◌≡◌, ◌++◌, List, ℕ, refl}
use Rattle.text_lines.specs.Words.{told}
use Rattle.text_lines.proofs.WordLemmas.{if_longer, plain_pushed}
use Rattle.text_lines.proofs.word.push_told.Goals as goal

pub returns-else-packed : goal.returns-else-packed
returns-else-packed c =
    let old : List ℕ = c.args.text.now.items in
    let codes : List ℕ = c.args.codes.now in
    if_longer c.extend_from_slice.result (λ z. z ≡ old ++ told c.args.packed codes) c.extend_from_slice.new.self.items (old ++ codes) old
    c.extend_from_slice.ensures.items (plain_pushed c.args.packed old (old ++ codes) codes c.if-packed.false refl)
