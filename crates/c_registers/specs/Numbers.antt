-- Numbered records (this project's definitions).
use Rattle.std.specs.Prelude.{◌≡◌, ℕ, ◌≤◌}
use Rattle.std.proofs.Common.{le_refl, le_trans, le_antisymm, refl, sym, ◌∙◌, subst}
use Rattle.c_registers.specs.declared.numbered.Numbered.{Numbered}

abbrev pub numbered : {W : Type 0} → ℕ → W → Numbered W
numbered n w = record { number = n; words = w }

-- the second record has a greater number, or it is the first one
abbrev pub NumberFollows : {W : Type 0} → ℕ → W → ℕ → W → Type 0
NumberFollows m v n w = (m ≤ n) × (m ≡ n → v ≡ w)

-- the law of a cell of numbered records
abbrev pub Always : {W : Type 0} → Numbered W → Type 0
Always a = Unit {0}

abbrev pub IsNoEarlier : {W : Type 0} → Numbered W → Numbered W → Type 0
IsNoEarlier a b = NumberFollows a.number a.words b.number b.words

pub follows_itself : {W : Type 0} (m : ℕ) (v : W) → NumberFollows m v m v
follows_itself m v = (le_refl m, λ e. refl)

pub follows_on : {W : Type 0} (l : ℕ) (u : W) (m : ℕ) (v : W) (n : ℕ) (w : W) →
    NumberFollows l u m v → NumberFollows m v n w → NumberFollows l u n w
follows_on l u m v n w f g =
    let above : l ≡ n → l ≡ m = λ e. le_antisymm f.0 (subst (λ k. m ≤ k) (sym e) g.0) in
    let below : l ≡ n → m ≡ n = λ e. le_antisymm g.0 (subst (λ k. k ≤ m) e f.0) in
    (le_trans f.0 g.0, λ e. f.1 (above e) ∙ g.1 (below e))
