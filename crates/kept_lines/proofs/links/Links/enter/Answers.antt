-- The text is linked in its bucket.
use Rattle.std.proofs.Common.{◌≡◌, ◌<◌, ◌+◌, ◌∙◌, ℕ, ap, length, refl, subst}
use Rattle.std.proofs.lemmas.Option.{slice_get_read}
use Rattle.kept_lines.specs.inner.Linked.{bucket_of}
use Rattle.kept_lines.proofs.LinkLemmas.{linked_more}
use Rattle.kept_lines.proofs.links.Links.enter.Goals as goal

pub returns : goal.returns
returns c = λ texts are.
    let many : c.len-2.result ≡ length c.args.self.now.last.items = c.len-2.ensures ∙ c.args.self.now.last.ok.0 in
    let inside : c.bucket_of-bucket.result < length c.args.self.now.last.items =
    subst (λ (n : ℕ). c.bucket_of-bucket.result < n) many c.bucket_of-bucket.ensures.below in
    linked_more texts c.args.self.now _ c.args.text.now c.in_ok-link.link c.bucket_of-bucket.result are
    (c.bucket_of-bucket.ensures.is ∙ ap (λ (n : ℕ). bucket_of n c.args.text.now) many)
    (c.in_ok-link.ensures ∙ ap (λ (n : ℕ). n + 1) (c.len.ensures ∙ c.args.self.now.before.ok.0)) refl c.index.result.now
    (slice_get_read c.args.self.now.last.items (length c.args.self.now.last.items) c.bucket_of-bucket.result c.index.result.now refl inside
    c.index.ensures) c.in_ok-push.ensures.items
