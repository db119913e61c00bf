-- The rest of the input, piece by piece: a piece more is taken only where what came before doesn't end in too much white space.
use Rattle.std.proofs.Common.{rules, tests, ◌≡◌, ◌≤◌, ◌++◌, ℕ, List, Option, Bool, true}
use Rattle.std.proofs.Common.{false, ◌∙◌, refl}
use Rattle.std.proofs.Common.{arith, ap, append_assoc, length, sym, subst}
use Rattle.std.specs.Prelude.{◌&&◌, not, nat_lt, Ok}
use Rattle.std.proofs.KnownBytes.{Consumes-trans}
use Rattle.std.specs.Io.KnownBytes.{Consumes}
use Rattle.text_lines.proofs.SpaceLemmas.{trims}
use Rattle.text_lines.specs.Words.{told}
use Rattle.program_streams.proofs.SpaceLemmas.{adds_space}
use Rattle.program_streams.specs.Spaces.{ends_in_space, max_space, most_kept_space, space_behind}
use Rattle.program_streams.specs.Transfer.{most_taken}
use Rattle.fsr_order_input.specs.inner.Inputs.{PacksPiece, KeepsSpace}

-- whether more is read behind such bytes
abbrev pub goes : Bool → List ℕ → Bool
goes more bytes = more && not (ends_in_space bytes)

-- a text ends in too much white space where its codes do
same_space : (packed : Bool) (codes : List ℕ) → ends_in_space (told packed codes) ≡ ends_in_space codes
same_space packed codes = ap (λ (n : ℕ). nat_lt max_space n) (trims packed codes).space

pub goes_on_by_codes : (more packed : Bool) (codes slice : List ℕ) (test : Bool) → more ≡ true → slice ≡ codes → test ≡ ends_in_space slice
    → not test ≡ goes more (told packed codes)
goes_on_by_codes true packed codes slice test is same tested = ap not (tested ∙ ap ends_in_space same ∙ sym (same_space packed codes))
goes_on_by_codes false packed codes slice test is same tested = cc

-- more is read only where there isn't too much white space
little_space : (more : Bool) (bytes : List ℕ) → goes more bytes ≡ true → space_behind bytes ≤ max_space
little_space more bytes e = by_test (ends_in_space bytes) refl more e
  where
    by_test : (b : Bool) → ends_in_space bytes ≡ b → (m : Bool) → (m && not b) ≡ true → space_behind bytes ≤ max_space
    by_test true test true h = cc
    by_test true test false h = cc
    by_test false test m h = search (rules, tests)

-- a piece behind such bytes keeps the bound
piece_keeps : (before piece : List ℕ) → space_behind before ≤ max_space → length piece ≤ most_taken
    → space_behind (before ++ piece) ≤ most_kept_space
piece_keeps before piece little short = omega (arith, adds_space before piece, little, short)

-- what was taken, and a piece of which some was taken
pub takes_rest : (a b c : Option (List ℕ)) (start before : List ℕ) (more : Bool) →
    (taken : List ℕ) × Consumes a b taken × (before ≡ start ++ taken) → goes more before ≡ true
    → (taken : List ℕ) × Consumes b c taken × (length taken ≤ most_taken)
    → (taken : List ℕ) × Consumes a c taken × KeepsSpace start (start ++ taken)
takes_rest a b c start before more first going next = (
  first.0 ++ next.0,
  Consumes-trans a b c first.0 next.0 first.1 next.1,
  λ few. subst (λ (l : List ℕ). space_behind l ≤ most_kept_space)
      (ap (λ (l : List ℕ). l ++ next.0) first.2 ∙ append_assoc start first.0 next.0)
      (piece_keeps before next.0 (little_space more before going) next.2),
)

-- what was taken, and a piece more
pub adds_rest : (a b c : Option (List ℕ)) (start before after : List ℕ) (m : Bool) →
    (taken : List ℕ) × Consumes a b taken × (before ≡ start ++ taken) → PacksPiece b c before after (Ok m)
    → (taken : List ℕ) × Consumes a c taken × (after ≡ start ++ taken)
adds_rest a b c start before after m first next = (
  first.0 ++ next.0,
  Consumes-trans a b c first.0 next.0 first.1 next.1,
  next.2 ∙ (ap (λ l. l ++ next.0) first.2 ∙ append_assoc start first.0 next.0),
)

pub keeps_space : (b c : Option (List ℕ)) (before after : List ℕ) (more m : Bool) → goes more before ≡ true
    → PacksPiece b c before after (Ok m) → space_behind after ≤ most_kept_space
keeps_space b c before after more m going next =
    subst (λ (l : List ℕ). space_behind l ≤ most_kept_space) (sym next.2)
    (piece_keeps before next.0 (little_space more before going) next.3)
