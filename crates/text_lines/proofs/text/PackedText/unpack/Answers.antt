-- The bytes are the text that the codes stood for.
use Rattle.text_lines.proofs.WordLemmas.{unpacked_same}
use Rattle.text_lines.proofs.text.PackedText.unpack.Goals as goal

pub returns-clause-same : goal.returns-clause-same
returns-clause-same c =
    unpacked_same c.args.self.now.packed c.args.self.now.codes.items c.as_slice.result.now c.new-text.result.items
    c.push_told.new.text.items c.as_slice.ensures.value c.new-text.ensures.items c.in_ok-push_told.ensures
