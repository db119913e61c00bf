-- What an access makes of a process's progress: the accesses that it has made, and how its operation begins.
use Rattle.std.proofs.Common.{◌≡◌, ℕ, ◌+◌, ◌*◌, ◌<◌, ◌≤◌, Bool, true, false, refl, ◌∙◌, ap, arith}
use Rattle.std.specs.Prelude.{nat_lt, nat_eq, if◌then◌else◌}
use Rattle.std.proofs.lemmas.Bool.Decides.{nat_tests}
use Rattle.history_core.specs.declared.wish.Wish.{Wish}
use Rattle.history_core.specs.declared.wish.Wish.TheVariants.{Write, Read}
use Rattle.matrix_core.specs.declared.stamp.Stamped.{Stamped}
use Rattle.matrix_core.specs.declared.progress.Progress.{Progress}
use Rattle.matrix_core.specs.Lines.{after_read, after_write, choice, chosen, begun, gathered}
use Rattle.matrix_core.proofs.lists.Elements.{same, not_same}

pub if_done : {R : Type 0} {d : ℕ} (b : Bool) (x y : Progress R) → x.done ≡ d → y.done ≡ d → (if b then x else y).done ≡ d
if_done true x y p q = p
if_done false x y p q = q

-- the accesses that a process has made, after one more
choice_done : {R : Type 0} (limit i : ℕ) (wish : Wish R) (line : Progress R) → (choice limit i wish line).done ≡ line.done
choice_done limit i Read line = refl
choice_done limit i (Write v) line = if_done (nat_lt line.seen.stamp.tag limit) _ _ refl refl

begun_done : {R : Type 0} (wish : Wish R) (line : Progress R) → (begun wish line).done ≡ line.done
begun_done wish line = if_done (nat_eq line.done 0) _ _ refl refl

pub read_done : {R : Type 0} (n limit i : ℕ) (wish : Wish R) (line : Progress R) (answer : Stamped R) →
    (after_read n limit i wish line answer).done ≡ line.done + 1
read_done n limit i wish line answer = let g = gathered answer (begun wish line) in
    let e : g.done ≡ line.done + 1 = ap (λ d. d + 1) (begun_done wish line) in
    if_done (nat_eq (line.done + 2) n) (chosen limit i g) g (choice_done limit i g.wish g ∙ e) e

pub write_done : {R : Type 0} (n : ℕ) (line : Progress R) → line.done + 3 ≤ 2 * n → 2 ≤ n → (after_write n line).done + 3 ≤ 2 * n
write_done n line h two = grind (arith, nat_tests)

pub begun_first : {R : Type 0} (wish : Wish R) (line : Progress R) → line.done ≡ 0 →
    begun wish line ≡ record line { wish = wish; seen = line.own }
begun_first wish line e = let b : nat_eq line.done 0 ≡ true = same _ _ e in rw b refl

pub begun_later : {R : Type 0} (wish : Wish R) (line : Progress R) → 0 < line.done → begun wish line ≡ line
begun_later wish line e = let b : nat_eq line.done 0 ≡ false = not_same _ _ (λ z. omega arith) in rw b refl
