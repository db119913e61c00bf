-- Each byte is a code.
use Rattle.std.proofs.Common.{◌≡◌, ◌++◌, List, ℕ, refl}
use Rattle.text_lines.specs.Words.{told}
use Rattle.text_lines.proofs.WordLemmas.{if_longer, plain_more}
use Rattle.text_lines.proofs.text.PackedText.push_plain.Goals as goal

pub returns : goal.returns
returns c =
    let old : List ℕ = c.args.self.now.codes.items in
    let bytes : List ℕ = c.args.bytes.now in
    if_longer c.extend_from_slice.result (λ z. told c.args.self.now.packed z ≡ told c.args.self.now.packed old ++ bytes)
    c.extend_from_slice.new.self.items (old ++ bytes) old c.extend_from_slice.ensures.items
    (plain_more c.args.self.now.packed old (old ++ bytes) bytes c.requires refl)
