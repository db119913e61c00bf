-- The status is that of little exactly where its words are said.
use Rattle.std.proofs.Common.{◌≡◌, ◌≢◌, ◌≤◌, ℕ, Bool, true, false, List, [], ◌∷◌, codes, refl, nat_eq, if◌then◌else◌, arith}
use Rattle.std.specs.Prelude.{◌*◌, ◌||◌, ◌↔◌, nat_lt}
use Rattle.history_core.specs.declared.thinned.LogAnswer.{LogAnswer}
use Rattle.history_core.specs.declared.thinned.LogAnswer.TheVariants.{Lawful, Unlawful}
use Rattle.kept_lines.specs.declared.lines_log.LinesLog.{LinesLog}
use Rattle.program_streams.specs.Exits.{status_of as status_at}
use Rattle.fsr_once_answers.specs.LinesAnswers.{lawful_exit, status_of}
use Rattle.print_reasons.specs.LogText.{shown_text, shows_little}

some_words : (x : ℕ) (xs : List ℕ) → x ∷ xs ≢ []
some_words x xs = λ none. absurd (cc)

abbrev words_by : Bool → Bool → List ℕ
words_by empty few =
    if empty then codes "Nothing was shown: there is no operation.\n"
    else (if few then codes "Little was shown: less than 1 % of the records were read.\n" else [])

by_tests : (empty few : Bool) → (status_at (lawful_exit true (empty || few)) ≡ 8) ↔ (words_by empty few ≢ [])
by_tests true few = (λ little. some_words _ _, λ said. refl)
by_tests false true = (λ little. some_words _ _, λ said. refl)
by_tests false false = ((λ (little : 0 ≡ 8). absurd (omega (arith, little))), λ said. absurd (said refl))

pub by_words : (read : LinesLog) (found : LogAnswer) → (status_of true read found ≡ 8) ↔ (shown_text read found ≢ [])
by_words read (Lawful writes) = by_tests (nat_eq read.ops 0) (nat_lt (read.read * 100) read.records)
by_words read (Unlawful reason) = ((λ (little : 1 ≡ 8). absurd (omega (arith, little))), λ said. absurd (said refl))

same_unless_little : (little : Bool) → status_at (lawful_exit true little) ≢ 8
    → status_at (lawful_exit true little) ≡ status_at (lawful_exit false little)
same_unless_little true other = absurd (other refl)
same_unless_little false other = refl

pub other_is_same : (read : LinesLog) (found : LogAnswer) → status_of true read found ≢ 8
    → status_of true read found ≡ status_of false read found
other_is_same read (Lawful writes) other = same_unless_little (shows_little read) other
other_is_same read (Unlawful reason) other = refl

pub unasked_is_low : (read : LinesLog) (found : LogAnswer) → status_of false read found ≤ 1
unasked_is_low read (Lawful writes) = omega arith
unasked_is_low read (Unlawful reason) = omega arith
