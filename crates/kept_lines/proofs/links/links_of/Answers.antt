-- One more text is linked.
use Rattle.std.proofs.Common.{◌≡◌, ◌+◌, ◌<◌, ◌≤◌, ◌++◌, ◌∷◌, ◌∙◌, [], ℕ, zero, suc, List, ap, arith, length, slice_get, Some, subst, sym}
use Rattle.std.proofs.Common.{take}
use Rattle.std.proofs.lemmas.List.{take_all}
use Rattle.std.proofs.lemmas.Option.{none-some, same_Some}
use Rattle.kept_lines.specs.inner.Linked.{AreLinked}
use Rattle.kept_lines.proofs.links.links_of.Goals as goal

next_taken : (xs : List (List ℕ)) (n : ℕ) (x : List ℕ) → slice_get xs n ≡ Some x → take n xs ++ x ∷ [] ≡ take (n + 1) xs
next_taken [] n x e = absurd (none-some x e)
next_taken (y ∷ ys) zero x e = ap (λ (z : List ℕ). z ∷ []) (sym (same_Some y x e))
next_taken (y ∷ ys) (suc n) x e =
    let s : suc n + 1 ≡ suc (n + 1) = omega arith in
    ap (λ (zs : List (List ℕ)). y ∷ zs) (next_taken ys n x e) ∙ ap (λ (k : ℕ). take k (y ∷ ys)) (sym s)

pub loop-number-init : goal.loop-number-init
loop-number-init c = record { some = c.in_ok-links.ensures.some; linked = λ all are. c.in_ok-links.ensures }

pub get-requires : goal.get-requires
get-requires c = (
  c.requires.known.0,
  c.requires.known.1,
  subst (λ (n : ℕ). c.loop-number.number < n) (c.count-number-end.ensures c.requires.known.0 c.requires.known.1) c.loop-number-test.true,
)

pub loop-number-preserved : goal.loop-number-preserved
loop-number-preserved c =
    let known = c.requires.known in record {
      some = (c.in_ok-enter.ensures (take c.loop-number.number known.0) (c.loop-number.invariant.linked known.0 known.1)).some;
      linked = λ all are. subst (λ (l : List (List ℕ)). AreLinked l c.enter.new.self)
          (next_taken all c.loop-number.number c.get.result.now (c.get.ensures all are))
          (c.in_ok-enter.ensures (take c.loop-number.number all) (c.loop-number.invariant.linked all are));
    }

pub returns : goal.returns
returns c = λ all are.
    let many : c.count-number-end.result ≡ length all = c.count-number-end.ensures all are in
    let done : c.count-number-end.result ≤ c.loop-number.number = c.loop-number-test.false in
    subst (λ (l : List (List ℕ)). AreLinked l c.loop-number.links) (take_all c.loop-number.number all (omega arith))
    (c.loop-number.invariant.linked all are)
