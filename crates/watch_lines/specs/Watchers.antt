-- What a watcher knows of the lines that it has read (this project's own).
use Rattle.std.specs.Prelude.{◌≡◌, ◌⊎◌, ℕ, ◌<◌, ◌≤◌, List, option_map, Option, None, Some, Result, Err}
use Rattle.std.specs.Prelude.{string_bytes}
use Rattle.std.specs.BTreeMap.{btree_map_len}
use Rattle.object_core.specs.declared.operation.Operation.{Operation}
use Rattle.object_watch.specs.Watches.{AreTooManyAt, IsLawfulBetween, IsFirstLost, IsWatchOf}
use Rattle.object_watch.specs.declared.watch.Watch.{Watch}
use Rattle.object_watch.specs.declared.watch.Risen.{Risen}
use Rattle.object_watch.specs.declared.watch.Risen.TheVariants.{Open, Lost, TooMany}
use Rattle.program_runs.specs.declared.fault.Fault.TheVariants.{NoMemory}
use Rattle.read_exchange.specs.Exchanges.{KeyedExchange}
use Rattle.read_document.specs.declared.refusal.DocError.{DocError}
use Rattle.watch_lines.specs.Kept.{IsHeldRecord, IsKeptNumber}
use Rattle.watch_lines.specs.Lined.{lined_after}
use Rattle.watch_lines.specs.Namings.{AreKeptNumbers, log_by, Naming}
use Rattle.watch_lines.specs.Replies.{TellsIf}
use Rattle.watch_lines.specs.Seen.{counts_of, HasOperation, LinesSeen, raised_by}
use Rattle.watch_lines.specs.Steps.{ComesTo, goes_on, IsLawfulTo, IsStep, opened, RisesTo, stops}
use Rattle.watch_lines.specs.Tasks.{moment_of, own_floor}
use Rattle.watch_lines.specs.WatchEntries.{WatchEntry}
use Rattle.watch_lines.specs.declared.lined.Lined.{Lined}
use Rattle.watch_lines.specs.declared.lined.LinedRegister.{LinedRegister}
use Rattle.watch_lines.specs.declared.told.Floor.{Floor}
use Rattle.watch_lines.specs.declared.told.WatchFault.TheVariants.{Refused}
use Rattle.watch_lines.specs.declared.records.Records.{Records}
use Rattle.watch_lines.specs.declared.watcher.Step.{Step}
use Rattle.watch_lines.specs.declared.watcher.Step.TheVariants.{GoesOn, Stops}
use Rattle.watch_lines.specs.declared.watcher.Watcher.{Watcher}

-- a watch follows this log, whose operations name these records: of each record that it holds a number is kept
pub record FollowsLog (all : List (List ℕ)) (log : List (Operation Lined)) (kept : Records)
    (watch : Watch LinedRegister Lined) : Type 0 where
  pub naming : Naming
  pub records : AreKeptNumbers all naming kept
  pub held : (n : ℕ) → IsHeldRecord watch.held.items n → IsKeptNumber kept n
  pub is : IsWatchOf lined_after opened (log_by naming.to log) watch

pub record Knows (s : LinesSeen) (w : Watcher) : Type 0 where
  pub lines : w.lines ≡ s.lines
  pub follows : FollowsLog s.records s.log w.records w.watch
  pub moment : w.watch.moment ≡ moment_of s.high
  pub key : option_map (option_map string_bytes) w.key ≡ s.key
  pub tasks : w.tasks.items ≡ s.tasks
  pub high : w.high ≡ s.high
  pub counts : w.counts ≡ counts_of s
  pub ended : w.ended ≡ s.ended

abbrev pub KnowsIf : Option LinesSeen → Option Watcher → Type 0
KnowsIf None None = Unit {0}
KnowsIf None (Some w) = ⊥
KnowsIf (Some s) None = ⊥
KnowsIf (Some s) (Some w) = Knows s w

-- how a line that says this is taken
abbrev pub TakesEntry : LinesSeen → Result WatchEntry DocError → Step → Type 0
TakesEntry s entry (GoesOn w) = (t : LinesSeen) × IsStep s entry (goes_on t) × Knows t w
TakesEntry s entry (Stops reply) = TellsIf (λ r. IsStep s entry (stops r)) reply

-- how a line is taken
abbrev pub TakesLine : Option LinesSeen → List ℕ → Step → Type 0
TakesLine s line (GoesOn w) = (t : LinesSeen) × ComesTo s line (goes_on t) × Knows t w
TakesLine s line (Stops reply) = TellsIf (λ r. ComesTo s line (stops r)) reply

-- nothing more begins before a moment
abbrev pub IsRisenBefore : List (Operation Lined) → ℕ → ℕ → Risen LinedRegister Lined → Type 0
IsRisenBefore log from to (Open watch) =
    (watch.moment ≡ to) × IsWatchOf lined_after opened log watch × IsLawfulBetween lined_after opened log from to
IsRisenBefore log from to (Lost at op) = (at < to) × IsFirstLost lined_after opened log from at op
IsRisenBefore log from to (TooMany at) = (at < to) × AreTooManyAt lined_after opened log from at

-- it knows the same, unless memory ran out
abbrev pub KnowsLess : LinesSeen → Step → Type 0
KnowsLess s (GoesOn w) = Knows s w
KnowsLess s (Stops reply) = reply ≡ Err (Refused NoMemory)

-- the floor rises from what was seen to what is seen then
abbrev pub RisesAs : LinesSeen → LinesSeen → Step → Type 0
RisesAs s t (GoesOn w) = Knows t w × IsLawfulTo s.log (moment_of s.high) (moment_of t.high)
RisesAs s t (Stops reply) = TellsIf (RisesTo s.log (moment_of s.high) (moment_of t.high) s.lines) reply

-- to this one
abbrev pub RisesNow : LinesSeen → Option Floor → Step → Type 0
RisesNow s high step = RisesAs s (record s { high = high }) step

-- an operation is taken, and its end may be a floor of its task, unless memory ran out
abbrev pub TakesOperation : LinesSeen → Option ℕ → KeyedExchange → Step → Type 0
TakesOperation s who o step = (step ≡ Stops (Err (Refused NoMemory)))
    ⊎ ((u : LinesSeen) × HasOperation s o u × RisesAs u (raised_by u who (own_floor u.tasks who o.op.ends)) step)

-- ---- what is forgotten

-- no record is kept but the opening and those that are held
abbrev pub KeepsHeld : Watcher → Type 0
KeepsHeld w = (n : ℕ) → IsKeptNumber w.records n → (n ≡ 0) ⊎ IsHeldRecord w.watch.held.items n

-- if many records were kept, all others are forgotten
abbrev pub ForgetsFrom : Records → Step → Type 0
ForgetsFrom old (GoesOn w) = old.most ≤ btree_map_len old.numbers → KeepsHeld w
ForgetsFrom old (Stops reply) = Unit {0}

-- so it is where a line makes the floor of all higher
abbrev pub ForgetsAt : Watcher → Step → Type 0
ForgetsAt old (GoesOn w) =
    moment_of old.high < moment_of w.high → old.records.most ≤ btree_map_len old.records.numbers → KeepsHeld w
ForgetsAt old (Stops reply) = Unit {0}
