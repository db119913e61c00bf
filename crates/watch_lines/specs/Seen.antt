-- What the lines so far of a log that is watched say (this project's own).
use Rattle.std.specs.Prelude.{◌≡◌, ℕ, ◌+◌, ◌∷◌, [], ◌++◌, List, length, map, Bool, true}
use Rattle.std.specs.Prelude.{if◌then◌else◌}
use Rattle.std.specs.Prelude.{Option, None, Some, ◌==◌, Result, Ok, Err}
use Rattle.std.specs.Option.{option_or}
use Rattle.object_core.specs.declared.operation.Operation.{Operation}
use Rattle.object_registers.specs.declared.exchanging.Exchange.{Exchange}
use Rattle.read_document.specs.declared.refusal.DocError.{DocError}
use Rattle.read_document.specs.declared.refusal.DocError.TheVariants.{Law, Missing, Shape}
use Rattle.read_document.specs.declared.key.Key.TheVariants as key
use Rattle.kept_lines.specs.Numberings.{AreDistinct}
use Rattle.lines_log.specs.Faults.{refused_at}
use Rattle.lines_log.specs.Logs.{same_key}
use Rattle.read_exchange.specs.Exchanges.{done, ExchangeEntry, is_refusal, KeyedExchange, operation}
use Rattle.exchanges_log.specs.ExchangeLogs.{IsNumberedExchange, texts_of, uncertain_in, unfinished_in}
use Rattle.exchanges_log.specs.ExchangeNumbers.{GrowBy}
use Rattle.watch_lines.specs.Lined.{without_line}
use Rattle.watch_lines.specs.Tasks.{below, floor_of, high_with, is_named, own_floor, tasks_with}
use Rattle.watch_lines.specs.WatchEntries.{blank, floor, said, WatchEntry}
use Rattle.watch_lines.specs.WatchHeads.{WatchHead}
use Rattle.watch_lines.specs.declared.lined.Lined.{Lined}
use Rattle.watch_lines.specs.declared.tasks.Task.{Task}
use Rattle.watch_lines.specs.declared.told.Counts.{Counts}
use Rattle.watch_lines.specs.declared.told.Floor.{Floor}
use Rattle.watch_lines.specs.declared.told.WatchFault.{WatchFault}
use Rattle.watch_lines.specs.declared.told.WatchFault.TheVariants.{Refused}

-- how many lines there are with the header; the records, each with its place for its number; the operations; the key of
-- each of them, once there is one; the tasks that the header names, with their floors; the highest floor of all, with
-- the first line that has it, and how many floors there are; and the line of the end, if it was read
pub record LinesSeen : Type 0 where
  pub lines : ℕ
  pub records : List (List ℕ)
  pub log : List (Operation Lined)
  pub key : Option (Option (List ℕ))
  pub tasks : List Task
  pub high : Option Floor
  pub floors : ℕ
  pub ended : Option ℕ

-- behind a header
abbrev pub opened_with : WatchHead → LinesSeen
opened_with head = record {
  lines = 1;
  records = head.opening ∷ [];
  log = [];
  key = None;
  tasks = head.tasks;
  high = None;
  floors = 0;
  ended = None;
}

-- the operations without their lines, and their counts
abbrev pub bare : List (Operation Lined) → List (Operation Exchange)
bare log = map without_line log

abbrev pub counts_of : LinesSeen → Counts
counts_of s = record {
  ops = length s.log;
  unfinished = unfinished_in (bare s.log);
  uncertain = uncertain_in (bare s.log);
  floors = s.floors;
}

-- ---- the fault of one more line, if it has one

-- all operations have one key
abbrev pub has_key : Option (Option (List ℕ)) → Option (List ℕ) → Bool
has_key None which = true
has_key (Some all) which = same_key all which

abbrev pub refusal_at : ℕ → DocError → WatchFault
refusal_at line why = Refused (refused_at line why)

-- the header names tasks, and not this one
abbrev pub task_fault : List Task → ℕ → Option ℕ → Option WatchFault
task_fault tasks line who = if is_named tasks who then None else Some (refusal_at line (Law key.Who))

-- an operation begins below the floor of its task, or below that of all
abbrev pub early_fault : List Task → Option Floor → ℕ → Option ℕ → ℕ → Option WatchFault
early_fault tasks high line who begins =
    option_or (task_fault tasks line who)
    (option_or (below (floor_of tasks who) line begins) (below high line begins))

-- of an operation, which is no refused write, and of the end
abbrev pub entry_fault : LinesSeen → ℕ → Option ℕ → ExchangeEntry → Option WatchFault
entry_fault s line who (operation o) =
    if has_key s.key o.key
    then (if is_refusal o.op.what
    then Some (refusal_at line (Missing key.Limit))
    else early_fault s.tasks s.high line who o.op.starts)
    else Some (refusal_at line (Law key.Key))
entry_fault s line who (done ops) = if ops == length s.log then None else Some (refusal_at line (Law key.Ops))

abbrev pub line_fault : LinesSeen → ℕ → Result WatchEntry DocError → Option WatchFault
line_fault s line (Ok (said who entry)) = entry_fault s line who entry
line_fault s line (Ok (floor who at)) = task_fault s.tasks line who
line_fault s line (Ok blank) = None
line_fault s line (Err why) = Some (refusal_at line why)

-- behind the end stands white space alone
abbrev pub late_fault : ℕ → Result WatchEntry DocError → Option WatchFault
late_fault end (Ok blank) = None
late_fault end (Ok (floor who at)) = Some (refusal_at end (Shape key.Kind))
late_fault end (Ok (said who entry)) = Some (refusal_at end (Shape key.Kind))
late_fault end (Err why) = Some (refusal_at end (Shape key.Kind))

abbrev pub fault_by : Option ℕ → LinesSeen → Result WatchEntry DocError → Option WatchFault
fault_by None s entry = line_fault s (s.lines + 1) entry
fault_by (Some end) s entry = late_fault end entry

abbrev pub fault_of : LinesSeen → Result WatchEntry DocError → Option WatchFault
fault_of s entry = fault_by s.ended s entry

-- ---- what is seen with one more line that has none

abbrev pub with_line : LinesSeen → LinesSeen
with_line s = record s { lines = s.lines + 1 }

-- a floor of a task, or of all, by the last line
abbrev pub raised : LinesSeen → Option ℕ → ℕ → LinesSeen
raised s who at =
    record s { tasks = tasks_with s.tasks who at s.lines; high = high_with s.tasks s.high who at s.lines }

abbrev pub with_floor : LinesSeen → Option ℕ → ℕ → LinesSeen
with_floor s who at = raised (record s { lines = s.lines + 1; floors = s.floors + 1 }) who at

abbrev pub raised_by : LinesSeen → Option ℕ → Option ℕ → LinesSeen
raised_by s who None = s
raised_by s who (Some at) = raised s who at

abbrev pub with_end : LinesSeen → LinesSeen
with_end s = record s { lines = s.lines + 1; ended = Some (s.lines + 1) }

-- all have the key of the first
abbrev pub key_with : Option (Option (List ℕ)) → Option (List ℕ) → Option (Option (List ℕ))
key_with None which = Some which
key_with (Some all) which = Some all

-- an operation more, which knows its line and has the numbers of its records
pub record HasOperation (s : LinesSeen) (o : KeyedExchange) (t : LinesSeen) : Type 0 where
  pub op : Operation Lined
  pub is : IsNumberedExchange t.records o.op (without_line op)
  pub line : op.what.line ≡ s.lines + 1
  pub grow : GrowBy s.records (texts_of o.op.what) t.records
  pub distinct : AreDistinct t.records
  pub made : t ≡ record s {
    lines = s.lines + 1;
    records = t.records;
    log = s.log ++ op ∷ [];
    key = key_with s.key o.key;
  }

abbrev pub HasEntry : LinesSeen → Option ℕ → ExchangeEntry → LinesSeen → Type 0
HasEntry s who (operation o) t =
    (u : LinesSeen) × HasOperation s o u × (t ≡ raised_by u who (own_floor u.tasks who o.op.ends))
HasEntry s who (done ops) t = t ≡ with_end s

abbrev pub HasLine : LinesSeen → Result WatchEntry DocError → LinesSeen → Type 0
HasLine s (Ok (said who entry)) t = HasEntry s who entry t
HasLine s (Ok (floor who at)) t = t ≡ with_floor s who at
HasLine s (Ok blank) t = t ≡ with_line s
HasLine s (Err why) t = ⊥
