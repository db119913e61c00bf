-- The lines of a text that goes on: up to the first line feed stands the first line; without one, all of it begins a line.
use Rattle.std.proofs.Common.{◌≡◌, ◌≢◌, ℕ, zero, suc, ◌+◌, ◌-◌, ◌<◌, ◌≤◌, List, [], ◌∷◌, ◌++◌, length, take, drop, refl, ap, sym, ◌∙◌}
use Rattle.std.proofs.Common.{subst, arith}
use Rattle.std.proofs.Common.{Bool, true, false, not, cond, Some, None, nat_lt, length-drop}
use Rattle.std.specs.Prelude.{◌==◌, if◌then◌else◌}
use Rattle.std.specs.List.{position, position_or_len}
use Rattle.std.proofs.lemmas.Bool.Decides.{nat_tests}
use Rattle.std.proofs.lemmas.List.{take_all}
use Rattle.std.proofs.lemmas.Option.{none-some, same_Some}
use Rattle.text_lines.specs.Splits.{in_front, lines_of}
use Rattle.fsr_watch_answers.specs.Fronts.{HasNoFeed, IsFirstLine}
use Rattle.fsr_watch_answers.specs.inner.Comings.{last_lines}

abbrev feed_at : List ℕ → ℕ
feed_at bytes = position_or_len (λ byte. byte == 10) bytes

-- one place on
shifted : (b : ℕ) (bs x : List ℕ) (n : ℕ) → (b ∷ take n bs) ∷ lines_of (drop (suc n) bs ++ x)
    ≡ take (1 + n) (b ∷ bs) ∷ lines_of (drop (suc (1 + n)) (b ∷ bs) ++ x)
shifted b bs x n =
    ap (λ (k : ℕ). take k (b ∷ bs) ∷ lines_of (drop (suc k) (b ∷ bs) ++ x)) (let e : suc n ≡ 1 + n = omega arith in e)

at_feed : (bytes x : List ℕ) → feed_at bytes < length bytes →
    lines_of (bytes ++ x) ≡ take (feed_at bytes) bytes ∷ lines_of (drop (suc (feed_at bytes)) bytes ++ x)
at_feed [] x l = absurd (omega (arith, l))
at_feed (b ∷ bs) x l = by_test (b == 10) (feed_at bs) l (at_feed bs x)
  where
    by_test : (t : Bool) (n : ℕ) → cond (not t) (1 + n) 0 < suc (length bs) →
        (n < length bs → lines_of (bs ++ x) ≡ take n bs ∷ lines_of (drop (suc n) bs ++ x)) →
        (if t then [] ∷ lines_of (bs ++ x) else in_front b (lines_of (bs ++ x)))
        ≡ take (cond (not t) (1 + n) 0) (b ∷ bs) ∷ lines_of (drop (suc (cond (not t) (1 + n) 0)) (b ∷ bs) ++ x)
    by_test true n less h = refl
    by_test false n less h = ap (in_front b) (h (omega (arith, less))) ∙ shifted b bs x n

found : (bytes : List ℕ) (end : ℕ) → Some end ≡ position (λ byte. byte == 10) bytes →
    (end ≡ feed_at bytes) × (feed_at bytes < length bytes)
found bytes end e = by_test (nat_lt (feed_at bytes) (length bytes)) refl e
  where
    by_test : (b : Bool) → nat_lt (feed_at bytes) (length bytes) ≡ b → Some end ≡ cond b (Some (feed_at bytes)) None →
        (end ≡ feed_at bytes) × (feed_at bytes < length bytes)
    by_test true test h = (same_Some end (feed_at bytes) h, grind (arith, nat_tests))
    by_test false test h = absurd (none-some end (sym h))

pub found_within : (bytes : List ℕ) (end : ℕ) → Some end ≡ position (λ byte. byte == 10) bytes → end < length bytes
found_within bytes end e = let at = found bytes end e in let same = at.0 in let less = at.1 in omega (arith, same, less)

pub first_line : (bytes : List ℕ) (end : ℕ) → Some end ≡ position (λ byte. byte == 10) bytes →
    IsFirstLine bytes (take end bytes) (take (length bytes - (end + 1)) (drop (end + 1) bytes))
first_line bytes end e =
    let at = found bytes end e in
    let less = found_within bytes end e in
    let all : take (length bytes - (end + 1)) (drop (end + 1) bytes) ≡ drop (end + 1) bytes =
    take_all (length bytes - (end + 1)) (drop (end + 1) bytes) (omega (arith, length-drop (end + 1) bytes)) in
    let next : suc (feed_at bytes) ≡ end + 1 = let same = at.0 in omega (arith, same) in
    record {
      lines = λ x. at_feed bytes x at.1
          ∙ (ap (λ (n : ℕ). take n bytes ∷ lines_of (drop (suc (feed_at bytes)) bytes ++ x)) (sym at.0)
          ∙ (ap (λ (n : ℕ). take end bytes ∷ lines_of (drop n bytes ++ x)) next
          ∙ ap (λ (l : List ℕ). take end bytes ∷ lines_of (l ++ x)) (sym all)));
      shorter = subst (λ (l : List ℕ). length l < length bytes) (sym all) (omega (arith, length-drop (end + 1) bytes, less));
    }

-- ---- without a line feed

no_feed : (bytes : List ℕ) → HasNoFeed bytes → length bytes ≤ feed_at bytes
no_feed bytes e = by_test (nat_lt (feed_at bytes) (length bytes)) refl e
  where
    by_test : (b : Bool) → nat_lt (feed_at bytes) (length bytes) ≡ b → cond b (Some (feed_at bytes)) None ≡ None →
        length bytes ≤ feed_at bytes
    by_test true test h = absurd (none-some (feed_at bytes) (sym h))
    by_test false test h = grind (arith, nat_tests)

-- a line that begins so
pub record BeginsLine (bytes x : List ℕ) : Type 0 where
  pub more : List ℕ
  pub lines : List (List ℕ)
  pub are : lines_of (bytes ++ x) ≡ (bytes ++ more) ∷ lines

in_one : (b : ℕ) (x : List ℕ) (ls : List (List ℕ)) → lines_of x ≡ ls →
    (more : List ℕ) × (lines : List (List ℕ)) × (in_front b ls ≡ (b ∷ more) ∷ lines)
in_one b x [] e = ([], [], refl)
in_one b x (l ∷ ls) e = (l, ls, refl)

step : (b : ℕ) (bs x : List ℕ) → suc (length bs) ≤ feed_at (b ∷ bs) →
    (length bs ≤ feed_at bs → (more : List ℕ) × (lines : List (List ℕ)) × (in_front b (lines_of (bs ++ x)) ≡ (b ∷ (bs ++ more)) ∷ lines)) →
    BeginsLine (b ∷ bs) x
step b bs x l h = by_test (b == 10) refl (feed_at bs) l h
  where
    by_test : (t : Bool) → (b == 10) ≡ t → (n : ℕ) → suc (length bs) ≤ cond (not t) (1 + n) 0 →
        (length bs ≤ n → (more : List ℕ) × (lines : List (List ℕ)) × (in_front b (lines_of (bs ++ x)) ≡ (b ∷ (bs ++ more)) ∷ lines)) →
        BeginsLine (b ∷ bs) x
    by_test true e n less h = absurd (omega (arith, less))
    by_test false e n less h =
        let r = h (omega (arith, less)) in
        record {
          more = r.0;
          lines = r.1;
          are = ap (λ (u : Bool). if u then [] ∷ lines_of (bs ++ x) else in_front b (lines_of (bs ++ x))) e ∙ r.2;
        }

begins : (bytes x : List ℕ) → bytes ≢ [] → length bytes ≤ feed_at bytes → BeginsLine bytes x
begins [] x some l = absurd (some refl)
begins (b ∷ []) x some l = step b [] x l (λ m. in_one b x (lines_of x) refl)
begins (b ∷ c ∷ cs) x some l =
    step b (c ∷ cs) x l (λ m. let h = begins (c ∷ cs) x (λ (e : c ∷ cs ≡ []). cc) m in (h.more, h.lines, ap (in_front b) h.are))

pub begins_line : (bytes x : List ℕ) → bytes ≢ [] → HasNoFeed bytes → BeginsLine bytes x
begins_line bytes x some none = begins bytes x some (no_feed bytes none)

alone_step : (b : ℕ) (bs : List ℕ) → suc (length bs) ≤ feed_at (b ∷ bs) →
    (length bs ≤ feed_at bs → in_front b (lines_of bs) ≡ (b ∷ bs) ∷ []) → lines_of (b ∷ bs) ≡ (b ∷ bs) ∷ []
alone_step b bs l h = by_test (b == 10) refl (feed_at bs) l h
  where
    by_test : (t : Bool) → (b == 10) ≡ t → (n : ℕ) → suc (length bs) ≤ cond (not t) (1 + n) 0 →
        (length bs ≤ n → in_front b (lines_of bs) ≡ (b ∷ bs) ∷ []) → lines_of (b ∷ bs) ≡ (b ∷ bs) ∷ []
    by_test true e n less h = absurd (omega (arith, less))
    by_test false e n less h = rw e (h (omega (arith, less)))

alone : (bytes : List ℕ) → bytes ≢ [] → length bytes ≤ feed_at bytes → lines_of bytes ≡ bytes ∷ []
alone [] some l = absurd (some refl)
alone (b ∷ []) some l = alone_step b [] l (λ m. refl)
alone (b ∷ c ∷ cs) some l = alone_step b (c ∷ cs) l (λ m. ap (in_front b) (alone (c ∷ cs) (λ (e : c ∷ cs ≡ []). cc) m))

-- what is left at the end is the last line, if it is there
pub left_alone : (bytes : List ℕ) → HasNoFeed bytes → lines_of bytes ≡ last_lines bytes
left_alone [] none = refl
left_alone (b ∷ bs) none = alone (b ∷ bs) (λ (e : b ∷ bs ≡ []). cc) (no_feed (b ∷ bs) none)
