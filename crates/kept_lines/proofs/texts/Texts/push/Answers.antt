-- The text stands behind the others, and its end behind their bounds.
use Rattle.std.proofs.Common.{◌≡◌, ◌+◌, ◌++◌, ◌∷◌, ◌∙◌, [], ℕ, ap, length, length-append}
use Rattle.kept_lines.proofs.TextLemmas.{texts_pushed}
use Rattle.kept_lines.proofs.texts.Texts.push.Goals as goal

pub returns : goal.returns
returns c = λ texts are.
    let bytes = c.in_ok-extend_from_slice.ensures.items in
    let end : c.len.result ≡ length c.args.self.now.bytes.items + length c.args.text.now =
    c.len.ensures ∙ c.extend_from_slice.new.self.ok.0 ∙ ap length bytes ∙ length-append c.args.self.now.bytes.items c.args.text.now in
    texts_pushed texts c.args.self.now _ c.args.text.now are bytes
    (c.in_ok-push.ensures.items ∙ ap (λ (n : ℕ). c.args.self.now.bounds.items ++ n ∷ []) end)
