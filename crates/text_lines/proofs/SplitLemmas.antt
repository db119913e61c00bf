-- Up to the first line feed stands the first line, and behind it the others.
use Rattle.std.proofs.Common.{rules, tests, ◌≡◌, ◌≢◌, ℕ, ◌+◌, ◌-◌, ◌<◌, ◌≤◌, List, [], ◌∷◌, length, take, drop, refl, ap, sym, ◌∙◌, arith}
use Rattle.std.proofs.Common.{zero, suc, subst}
use Rattle.std.proofs.Common.{Bool, true, false, not, cond, Some, None, add-one, length-drop, nat_lt}
use Rattle.std.specs.Prelude.{◌==◌}
use Rattle.std.specs.List.{position, position_or_len}
use Rattle.std.proofs.lemmas.List.{drop_all, take_all}
use Rattle.std.proofs.lemmas.Option.{same_Some}
use Rattle.text_lines.specs.Splits.{in_front, IsSplit, lines_of}

abbrev pub feed_at : List ℕ → ℕ
feed_at bytes = position_or_len (λ byte. byte == 10) bytes

pub feed_within : (bytes : List ℕ) → feed_at bytes ≤ length bytes
feed_within [] = omega arith
feed_within (x ∷ xs) = by_test (x == 10) (feed_at xs) (length xs) (feed_within xs)
  where
    by_test : (b : Bool) (n m : ℕ) → n ≤ m → cond (not b) (1 + n) 0 ≤ suc m
    by_test true n m l = omega arith
    by_test false n m l = omega arith

-- the first line with a byte in front
one_more : (x : ℕ) (xs : List ℕ) → (xs ≢ [] → lines_of xs ≡ take (feed_at xs) xs ∷ lines_of (drop (suc (feed_at xs)) xs))
    → in_front x (lines_of xs) ≡ (x ∷ take (feed_at xs) xs) ∷ lines_of (drop (suc (feed_at xs)) xs)
one_more x [] h = refl
one_more x (y ∷ ys) h = ap (in_front x) (h (λ (e : y ∷ ys ≡ []). cc))

-- the feed is one place on
one_on : (x : ℕ) (xs : List ℕ) (n : ℕ) → (x ∷ take n xs) ∷ lines_of (drop (suc n) xs) ≡ take (1 + n) (x ∷ xs) ∷ lines_of (drop (1 + n) xs)
one_on x xs n = ap (λ (k : ℕ). take k (x ∷ xs) ∷ lines_of (drop k xs)) (let e : suc n ≡ 1 + n = omega arith in e)

pub split_at_feed : (bytes : List ℕ) → bytes ≢ [] → lines_of bytes ≡ take (feed_at bytes) bytes ∷ lines_of
    (drop (suc (feed_at bytes)) bytes)
split_at_feed [] some = absurd (some refl)
split_at_feed (x ∷ xs) some = by_test (split_at_feed xs) (x == 10) refl
  where
    by_test : (xs ≢ [] → lines_of xs ≡ take (feed_at xs) xs ∷ lines_of (drop (suc (feed_at xs)) xs)) → (b : Bool) → (x == 10) ≡ b
        → lines_of (x ∷ xs) ≡ take (feed_at (x ∷ xs)) (x ∷ xs) ∷ lines_of (drop (suc (feed_at (x ∷ xs))) (x ∷ xs))
    by_test rest true e = rw e refl
    by_test rest false e = rw e (one_more x xs rest ∙ one_on x xs (feed_at xs))

pub feed_found : (bytes : List ℕ) (end : ℕ) → Some end ≡ position (λ byte. byte == 10) bytes → end ≡ feed_at bytes
feed_found bytes end e = by_test (nat_lt (feed_at bytes) (length bytes)) (feed_at bytes) e
  where
    by_test : (b : Bool) (n : ℕ) → Some end ≡ cond b (Some n) None → end ≡ n
    by_test true n h = same_Some end n h
    by_test false n h = cc

pub feed_missing : (bytes : List ℕ) → None ≡ position (λ byte. byte == 10) bytes → length bytes ≡ feed_at bytes
feed_missing bytes e = by_test (nat_lt (feed_at bytes) (length bytes)) refl e
  where
    by_test : (b : Bool) → nat_lt (feed_at bytes) (length bytes) ≡ b → None ≡ cond b (Some (feed_at bytes)) None →
        length bytes ≡ feed_at bytes
    by_test true test h = cc
    by_test false test h =
        let past : length bytes ≤ feed_at bytes = search (rules, tests) in
        omega (arith, feed_within bytes)

pub split_within : (bytes : List ℕ) (end : ℕ) → end ≡ feed_at bytes → end < length bytes → bytes ≢ []
    → IsSplit bytes (take end bytes) (take (length bytes - (end + 1)) (drop (end + 1) bytes))
split_within bytes end e less some =
    let all : take (length bytes - (end + 1)) (drop (end + 1) bytes) ≡ drop (end + 1) bytes =
    take_all (length bytes - (end + 1)) (drop (end + 1) bytes) (omega (arith, length-drop (end + 1) bytes)) in
    record {
      lines = split_at_feed bytes some
          ∙ ap (λ n. take n bytes ∷ lines_of (drop (suc n) bytes)) (sym e)
          ∙ ap (λ (n : ℕ). take end bytes ∷ lines_of (drop n bytes)) (sym (add-one end))
          ∙ ap (λ (l : List ℕ). take end bytes ∷ lines_of l) (sym all);
      shorter = subst (λ (l : List ℕ). length l < length bytes) (sym all) (omega (arith, length-drop (end + 1) bytes));
    }

pub split_all : (bytes : List ℕ) (end : ℕ) → end ≡ feed_at bytes → length bytes ≤ end → bytes ≢ []
    → IsSplit bytes bytes (take (length bytes - length bytes) (drop (length bytes) bytes))
split_all bytes end e past some =
    let gone : drop (length bytes) bytes ≡ [] = drop_all (length bytes) bytes (omega arith) in
    let none : take (length bytes - length bytes) (drop (length bytes) bytes) ≡ [] =
    rest (length bytes - length bytes) (drop (length bytes) bytes) gone in
    let first : take (feed_at bytes) bytes ≡ bytes = take_all (feed_at bytes) bytes (omega (arith, e)) in
    let behind : drop (suc (feed_at bytes)) bytes ≡ [] = drop_all (suc (feed_at bytes)) bytes (omega (arith, e)) in
    record {
      lines = split_at_feed bytes some ∙ ap (λ (l : List ℕ). l ∷ lines_of (drop (suc (feed_at bytes)) bytes)) first
          ∙ ap (λ (l : List ℕ). bytes ∷ lines_of l) (behind ∙ sym none);
      shorter = subst (λ (l : List ℕ). length l < length bytes) (sym none) (has_some bytes some);
    }
  where
    rest : (n : ℕ) (l : List ℕ) → l ≡ [] → take n l ≡ []
    rest zero l e = refl
    rest (suc n) [] e = refl
    rest (suc n) (x ∷ l) e = cc

    has_some : (l : List ℕ) → l ≢ [] → 0 < length l
    has_some [] h = absurd (h refl)
    has_some (x ∷ xs) h = omega arith

pub is_some_list : (bytes : List ℕ) → length bytes ≢ 0 → bytes ≢ []
is_some_list [] some e = some refl
is_some_list (x ∷ xs) some e = cc
