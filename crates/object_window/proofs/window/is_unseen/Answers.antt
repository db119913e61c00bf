-- Nothing looks at the one record that is made; or none is.
use Rattle.std.proofs.Common.{◌≡◌, ℕ, sym, ◌∙◌, subst}
use Rattle.std.proofs.lemmas.Bool.{not-true}
use Rattle.std.proofs.lemmas.Option.{same_Some}
use Rattle.object_window.specs.Windows.{LooksAt}
use Rattle.object_window.proofs.window.is_unseen.Goals as goal

pub returns-in-Some : goal.returns-in-Some
returns-in-Some c h value i o makes at looks =
    let e : c.in-Some.value ≡ value = same_Some c.in-Some.value value (sym c.in-Some.is ∙ (c.made.ensures value).1 makes) in
    let P : ℕ → Type 0 = λ z. LooksAt z o.what in
    c.is_seen.ensures (not-true c.is_seen.result h) i o at (subst P (sym e) looks)

pub returns-in-None : goal.returns-in-None
returns-in-None c h value i o makes at looks = let e = (c.made.ensures value).1 makes in let n = c.in-None.is in cc
