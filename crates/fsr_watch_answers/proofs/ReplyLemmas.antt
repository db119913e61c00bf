-- Lines that go on, and then others: what is told of them is told of all.
use Rattle.std.proofs.Common.{◌≡◌, ◌≢◌, ◌⊎◌, ℕ, ◌<◌, List, [], ◌∷◌, ◌++◌, length, refl, ap, sym, ◌∙◌, subst, inl, inr, arith, length-append}
use Rattle.std.proofs.Common.{append_assoc}
use Rattle.std.proofs.Common.{Bool, true, false, Option, Some, None, Result, Ok, Err, cond, nat_le}
use Rattle.std.specs.Prelude.{if◌then◌else◌, ◌&&◌, ⊤}
use Rattle.std.proofs.lemmas.Bool.Decides.{nat_tests}
use Rattle.std.specs.List.{list_all}
use Rattle.std.specs.Char.{is_ascii_whitespace}
use Rattle.serde_json.specs.Data.{Data}
use Rattle.program_runs.specs.declared.fault.Fault.TheVariants.{NoMemory}
use Rattle.read_document.specs.Document.{json_of, max_bytes, value_of}
use Rattle.read_document.specs.Refusals.{◌>>=◌, must, some_or}
use Rattle.text_lines.specs.Splits.{lines_of}
use Rattle.read_document.specs.declared.refusal.DocError.{DocError}
use Rattle.read_document.specs.declared.refusal.DocError.TheVariants.{Long, NotJson}
use Rattle.read_line.specs.Lines.{head_of}
use Rattle.read_exchange.specs.Headers.{exchange_head_of}
use Rattle.watch_lines.specs.Replies.{GoOn, IsToldFrom, StopAt, TellsIf}
use Rattle.watch_lines.specs.Seen.{fault_of, LinesSeen}
use Rattle.watch_lines.specs.Steps.{ComesTo, goes_on, IsLastAnswer, IsHeader, IsStep, Outcome, stops}
use Rattle.watch_lines.specs.WatchEntries.{blank, is_blank, watch_entry_in, watch_entry_of, WatchEntry}
use Rattle.watch_lines.specs.WatchHeads.{watch_head_of, WatchHead}
use Rattle.watch_lines.specs.Watchers.{KnowsIf, TakesLine}
use Rattle.watch_lines.specs.declared.told.Told.{Told}
use Rattle.watch_lines.specs.declared.told.WatchFault.{WatchFault}
use Rattle.watch_lines.specs.declared.told.WatchFault.TheVariants.{Refused}
use Rattle.watch_lines.specs.declared.watcher.Step.{Step}
use Rattle.watch_lines.specs.declared.watcher.Step.TheVariants.{GoesOn, Stops}
use Rattle.watch_lines.specs.declared.watcher.Watcher.{Watcher}
use Rattle.fsr_watch_answers.specs.Fronts.{HasNoFeed, IsFirstLine}
use Rattle.fsr_watch_answers.specs.inner.Comings.{HasWatched, IsLastTold, IsLongTold, IsWatchedTo, last_lines}
use Rattle.fsr_watch_answers.specs.declared.lines.Coming.{Coming}
use Rattle.fsr_watch_answers.specs.declared.lines.Coming.TheVariants as coming
use Rattle.fsr_watch_answers.proofs.FrontLemmas.{begins_line}

pub go_one_more : (s : Option LinesSeen) (lines : List (List ℕ)) (t : Option LinesSeen) (line : List ℕ) (u : LinesSeen) → GoOn s lines t →
    ComesTo t line (goes_on u) → GoOn s (lines ++ line ∷ []) (Some u)
go_one_more s [] t line u goes comes =
    let P : Option LinesSeen → Type 0 = λ z. ComesTo z line (goes_on u) in (u, subst P goes comes, refl)
go_one_more s (l ∷ lines) t line u goes comes = (goes.0, goes.1, go_one_more (Some goes.0) lines t line u goes.2 comes)

pub go_both : (s : Option LinesSeen) (lines more : List (List ℕ)) (t u : Option LinesSeen) → GoOn s lines t → GoOn t more u →
    GoOn s (lines ++ more) u
go_both s [] more t u goes on = let P : Option LinesSeen → Type 0 = λ z. GoOn z more u in subst P goes on
go_both s (l ∷ lines) more t u goes on = (goes.0, goes.1, go_both (Some goes.0) lines more t u goes.2 on)

pub stop_behind : (s : Option LinesSeen) (lines more : List (List ℕ)) (t : Option LinesSeen) (r : Result Told WatchFault) → GoOn s lines t →
    StopAt t more r → StopAt s (lines ++ more) r
stop_behind s [] more t r goes stop = let P : Option LinesSeen → Type 0 = λ z. StopAt z more r in subst P goes stop
stop_behind s (l ∷ lines) more t r goes stop = inr (goes.0, goes.1, stop_behind (Some goes.0) lines more t r goes.2 stop)

pub told_behind : (s : Option LinesSeen) (lines more : List (List ℕ)) (t : Option LinesSeen) (r : Result Told WatchFault) → GoOn s lines t →
    IsToldFrom t more r → IsToldFrom s (lines ++ more) r
told_behind s lines more t r goes (inl stop) = inl (stop_behind s lines more t r goes stop)
told_behind s lines more t r goes (inr end) = inr (end.0, go_both s lines more t end.0 goes end.1, end.2)

-- what is so unless memory ran out, so is what follows of it
pub tells_so : (P Q : Result Told WatchFault → Type 0) → ((r : Result Told WatchFault) → P r → Q r) → (reply : Result Told WatchFault) →
    TellsIf P reply → TellsIf Q reply
tells_so P Q f (Ok told) h = f (Ok told) h
tells_so P Q f (Err fault) h = λ other. f (Err fault) (h other)

pub no_memory : (P : Result Told WatchFault → Type 0) → TellsIf P (Err (Refused NoMemory))
no_memory P = λ other. absurd (other refl)

-- ---- whole lines

-- nothing was read yet
pub none_watched : (s : Option LinesSeen) (bytes : List ℕ) (read : Option Watcher) → KnowsIf s read → IsWatchedTo s bytes bytes read
none_watched s bytes read knows = record { lines = []; after = s; goes = refl; knows = knows; split = λ x. refl }

-- and one line more
pub one_watched : (s : Option LinesSeen) (old rest line behind : List ℕ) (read : Option Watcher) (w : Watcher) →
    (to : IsWatchedTo s old rest read) → IsFirstLine rest line behind → TakesLine to.after line (GoesOn w) →
    IsWatchedTo s old behind (Some w)
one_watched s old rest line behind read w to first takes = record {
  lines = to.lines ++ line ∷ [];
  after = Some takes.0;
  goes = go_one_more s to.lines to.after line takes.0 to.goes takes.1;
  knows = takes.2;
  split = λ x. to.split x ∙ (ap (λ (l : List (List ℕ)). to.lines ++ l) (first.lines x)
      ∙ sym (append_assoc to.lines (line ∷ []) (lines_of (behind ++ x))));
}

-- or one that stops
pub one_stops : (s : Option LinesSeen) (old rest line behind : List ℕ) (read : Option Watcher) (reply : Result Told WatchFault) →
    (to : IsWatchedTo s old rest read) → IsFirstLine rest line behind → TakesLine to.after line (Stops reply) →
    TellsIf (λ r. (x : List ℕ) → StopAt s (lines_of (old ++ x)) r) reply
one_stops s old rest line behind read reply to first takes =
    let Q : Result Told WatchFault → Type 0 = λ r. (x : List ℕ) → StopAt s (lines_of (old ++ x)) r in
    tells_so (λ r. ComesTo to.after line (stops r)) Q (λ r comes x.
    let P : List (List ℕ) → Type 0 = λ l. StopAt s l r in
    let all : lines_of (old ++ x) ≡ to.lines ++ line ∷ lines_of (behind ++ x) =
    to.split x ∙ ap (λ (l : List (List ℕ)). to.lines ++ l) (first.lines x) in
    subst P (sym all) (stop_behind s to.lines (line ∷ lines_of (behind ++ x)) to.after r to.goes (inl comes))) reply takes

-- ---- the last line

last_goes : (s : Option LinesSeen) (b : ℕ) (bs : List ℕ) (w : Watcher) (reply : Result Told WatchFault) →
    (takes : TakesLine s (b ∷ bs) (GoesOn w)) → TellsIf (IsLastAnswer (Some takes.0)) reply → IsLastTold s (b ∷ bs) reply
last_goes s b bs w reply takes ends =
    let Q : Result Told WatchFault → Type 0 = λ r. IsToldFrom s (last_lines (b ∷ bs)) r in
    tells_so (IsLastAnswer (Some takes.0)) Q (λ r end. inr (Some takes.0, (takes.0, takes.1, refl), end)) reply ends

pub last_goes_on : (s : Option LinesSeen) (bytes : List ℕ) (w : Watcher) (reply : Result Told WatchFault) → bytes ≢ [] →
    (takes : TakesLine s bytes (GoesOn w)) → TellsIf (IsLastAnswer (Some takes.0)) reply → IsLastTold s bytes reply
last_goes_on s [] w reply some takes ends = absurd (some refl)
last_goes_on s (b ∷ bs) w reply some takes ends = last_goes s b bs w reply takes ends

pub last_stops : (s : Option LinesSeen) (bytes : List ℕ) (reply : Result Told WatchFault) → bytes ≢ [] → TakesLine s bytes (Stops reply) →
    IsLastTold s bytes reply
last_stops s [] reply some takes = absurd (some refl)
last_stops s (b ∷ bs) reply some takes =
    let Q : Result Told WatchFault → Type 0 = λ r. IsToldFrom s (last_lines (b ∷ bs)) r in
    tells_so (λ r. ComesTo s (b ∷ bs) (stops r)) Q (λ r comes. inl (inl comes)) reply takes

pub last_none : (s : Option LinesSeen) (reply : Result Told WatchFault) → TellsIf (IsLastAnswer s) reply → IsLastTold s [] reply
last_none s reply ends =
    let Q : Result Told WatchFault → Type 0 = λ r. IsToldFrom s [] r in
    tells_so (IsLastAnswer s) Q (λ r end. inr (s, refl, end)) reply ends

-- ---- a line that is too long

long_test : (bytes : List ℕ) → max_bytes < length bytes → nat_le (length bytes) max_bytes ≡ false
long_test bytes l = grind (arith, nat_tests)

long_value : (bytes : List ℕ) → max_bytes < length bytes → value_of bytes ≡ Err Long
unfolding value_of
long_value bytes l =
    ap (λ (b : Bool). must b Long >>= (λ (u : ⊤). some_or NotJson (json_of bytes))) (long_test bytes l)

long_entry : (bytes : List ℕ) → max_bytes < length bytes → watch_entry_of bytes ≡ Err Long
unfolding watch_entry_of
long_entry bytes l =
    let space : is_blank bytes ≡ false = ap (λ (b : Bool). b && list_all is_ascii_whitespace bytes) (long_test bytes l) in
    ap (λ (b : Bool). if b then Ok blank else (value_of bytes >>= watch_entry_in)) space
    ∙ ap (λ (r : Result Data DocError). r >>= watch_entry_in) (long_value bytes l)

long_head : (bytes : List ℕ) → max_bytes < length bytes → watch_head_of bytes ≡ Err Long
unfolding watch_head_of exchange_head_of head_of
long_head bytes l = rw (long_value bytes l) refl

-- a long line comes to the same, however it goes on
same_long : (s : Option LinesSeen) (bytes other : List ℕ) (o : Outcome) → max_bytes < length bytes → max_bytes < length other →
    ComesTo s bytes o → ComesTo s other o
same_long None bytes other o l m comes =
    let P : Result WatchHead DocError → Type 0 = λ r. IsHeader r o in subst P (long_head bytes l ∙ sym (long_head other m)) comes
same_long (Some s) bytes other o l m comes =
    let P : Result WatchEntry DocError → Type 0 = λ r. IsStep s r o in subst P (long_entry bytes l ∙ sym (long_entry other m)) comes

pub long_stops : (s : Option LinesSeen) (bytes : List ℕ) (reply : Result Told WatchFault) → max_bytes < length bytes →
    TakesLine s bytes (Stops reply) → IsLongTold s bytes reply
long_stops s bytes reply l takes =
    let Q : Result Told WatchFault → Type 0 = λ r. (y : List ℕ) (lines : List (List ℕ)) → StopAt s ((bytes ++ y) ∷ lines) r in
    tells_so (λ r. ComesTo s bytes (stops r)) Q (λ r comes y lines.
    inl (same_long s bytes (bytes ++ y) (stops r) l (omega (arith, l, length-append bytes y)) comes)) reply takes

-- and never goes on
long_goes : (s : Option LinesSeen) (bytes : List ℕ) (t : LinesSeen) → max_bytes < length bytes → ComesTo s bytes (goes_on t) → ⊥
long_goes None bytes t l comes =
    let P : Result WatchHead DocError → Type 0 = λ r. IsHeader r (goes_on t) in
    let same = subst P (long_head bytes l) comes in cc
long_goes (Some s) bytes t l comes =
    let P : Result WatchEntry DocError → Type 0 = λ r. IsStep s r (goes_on t) in
    let step = subst P (long_entry bytes l) comes in step.1

pub never_goes : (s : Option LinesSeen) (bytes : List ℕ) (w : Watcher) → max_bytes < length bytes → TakesLine s bytes (GoesOn w) → ⊥
never_goes s bytes w l takes = long_goes s bytes takes.0 l takes.1
