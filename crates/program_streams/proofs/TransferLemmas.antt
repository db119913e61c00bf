-- What moves piece by piece: a piece goes on where the one before ended, so the two are one longer piece.
use Rattle.std.proofs.Common.{◌≡◌, ◌<◌, ◌≤◌, ◌+◌, ◌-◌, ◌++◌, ℕ, List, Option, ◌∙◌}
use Rattle.std.proofs.Common.{arith, min, ap, append_assoc, length, take, drop, sym, subst}
use Rattle.std.proofs.Common.{length-append, length-drop, length-take-le}
use Rattle.std.proofs.lemmas.List.{take_all, take-append-le}
use Rattle.std.proofs.KnownBytes.{Consumes-trans, Appends-trans}
use Rattle.std.proofs.Math.Seq.{take-add}
use Rattle.std.specs.Io.KnownBytes.{Consumes, Appends, IsAtEnd}
use Rattle.std.specs.Prelude.{Ok}
use Rattle.program_streams.specs.Transfer.{TakesMore}

-- what was taken before, and a piece more that wasn't added
pub takes_piece : (a b c : Option (List ℕ)) (start before : List ℕ) (most : ℕ) →
    (taken : List ℕ) × Consumes a b taken × (before ≡ start ++ taken)
    → (taken : List ℕ) × Consumes b c taken × (length before + length taken ≤ most)
    → (taken : List ℕ) × Consumes a c taken × (length start ≤ most → length start + length taken ≤ most)
takes_piece a b c start before most first more = (
  first.0 ++ more.0,
  Consumes-trans a b c first.0 more.0 first.1 more.1,
  λ fits. omega (arith, length-append first.0 more.0, length-append start first.0, ap length first.2, more.2),
)

-- what was taken before, and a piece more that was added
pub adds_piece : (a b c : Option (List ℕ)) (start before after : List ℕ) (most n : ℕ) →
    (taken : List ℕ) × Consumes a b taken × (before ≡ start ++ taken) → TakesMore most b c before after (Ok n)
    → (taken : List ℕ) × Consumes a c taken × (after ≡ start ++ taken)
adds_piece a b c start before after most n first more = (
  first.0 ++ more.0,
  Consumes-trans a b c first.0 more.0 first.1 more.1,
  more.2 ∙ (ap (λ l. l ++ more.0) first.2 ∙ append_assoc start first.0 more.0),
)

-- a piece that isn't empty leaves less room
pub nearer : (b c : Option (List ℕ)) (before after : List ℕ) (most n : ℕ) → TakesMore most b c before after (Ok n)
    → length before < most → (n ≡ 0 → ⊥) → most - length after < most - length before
nearer b c before after most n more room some =
    omega (arith, ap length more.2, length-append before more.0, more.4)

-- what went out before, and a piece more
pub puts_piece : (a b c : Option (List ℕ)) (text : List ℕ) (done n : ℕ) → Appends a b (take done text)
    → Appends b c (take n (take (length text - done) (drop done text))) → Appends a c (take (done + n) text)
puts_piece a b c text done n before more =
    let rest : take (length text - done) (drop done text) ≡ drop done text =
    take_all (length text - done) (drop done text) (omega (arith, length-drop done text)) in
    let piece : Appends b c (take n (drop done text)) = subst (λ l. Appends b c (take n l)) rest more in
    subst (Appends a c) (sym (take-add done n text)) (Appends-trans a b c (take done text) (take n (drop done text)) before piece)

-- a count within a list is within a longer one
pub in_longer : (n : ℕ) (front rest : List ℕ) → n ≤ length front → n ≤ length (front ++ rest)
in_longer n front rest fits = omega (arith, length-append front rest)

-- and counts a front of it
pub front_length : (n : ℕ) (front rest : List ℕ) → n ≤ length front → n ≡ length (take n (front ++ rest))
front_length n front rest fits = sym (length-take-le n (front ++ rest) (in_longer n front rest fits))

-- a piece read into a buffer that is no longer than the room, and added
pub piece_added : (a b : Option (List ℕ)) (before after buffer rest : List ℕ) (most n : ℕ) → n ≤ length buffer
    → Consumes a b (take n buffer) × (n ≡ 0 → 0 < length buffer → IsAtEnd b)
    → after ≡ before ++ take n (buffer ++ rest) → (0 < length buffer) × (length before + length buffer ≤ most)
    → TakesMore most a b before after (Ok n)
piece_added a b before after buffer rest most n fits read added room =
    let front : take n (buffer ++ rest) ≡ take n buffer = take-append-le n buffer rest fits in
    let all : after ≡ before ++ take n buffer = added ∙ ap (λ l. before ++ l) front in
    let many : length (take n buffer) ≡ n = length-take-le n buffer fits in (
      take n buffer,
      read.0,
      all,
      omega (arith, ap length all, length-append before (take n buffer), many, room.1),
      many,
      λ none. read.1 none room.0,
    )

-- such a buffer
pub within_room : (before buffer chunk : List ℕ) (room most len : ℕ) → length buffer ≡ length (take room chunk) → length chunk ≡ 4096
    → room ≡ min (most - len) 4096 → len ≡ length before → length before < most
    → (0 < length buffer) × (length before + length buffer ≤ most)
within_room before buffer chunk room most len kept whole least known short =
    let cut : length (take room chunk) ≡ room = length-take-le room chunk (omega arith) in omega arith
