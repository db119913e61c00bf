-- What a line comes to: an operation more, a floor, and the end.
use Rattle.std.proofs.Common.{◌≡◌, ◌≢◌, ℕ, ◌+◌, ◌-◌, ◌^◌, ◌<◌, ◌≤◌, List, [], ◌∷◌, ◌++◌, length, refl, ap, sym, ◌∙◌, subst, arith}
use Rattle.std.proofs.Common.{Bool, true, false, cond, Option, Some, None, Result, Ok, Err, inl, inr, length-append, max, min, option_map}
use Rattle.std.proofs.Common.{slice_get}
use Rattle.std.proofs.Common.{Global, string_bytes}
use Rattle.std.specs.Prelude.{count_by, if◌then◌else◌, is_none, is_some, nat_lt}
use Rattle.std.proofs.lemmas.Bool.Decides.{nat_tests}
use Rattle.std.proofs.lemmas.List.{map-append}
use Rattle.std.proofs.lemmas.Option.{none-some}
use Rattle.std.specs.Option.{option_or}
use Rattle.std.specs.Prelude.{Vec}
use Rattle.std.proofs.lemmas.List.Sums.{sum_by-append, sum_by-cons}
use Rattle.object_core.specs.declared.operation.Operation.{Operation}
use Rattle.object_registers.specs.declared.exchanging.Exchange.{Exchange}
use Rattle.object_watch.specs.Watches.{AreOpenedAs, AreTooManyAt, IsVerdictOnAll, IsLawfulBetween, IsFirstLost, IsRisen, IsWatchOf}
use Rattle.object_watch.specs.Watches.{last_moment}
use Rattle.object_watch.specs.declared.watch.Ended.TheVariants as ended
use Rattle.object_watch.specs.declared.watch.Risen.{Risen}
use Rattle.object_watch.specs.declared.watch.Risen.TheVariants.{Open, Lost as LostThen, TooMany}
use Rattle.object_watch.specs.declared.watch.Watch.{Watch}
use Rattle.object_watch.specs.Remainders.{AreHeldWith, AreLedTo}
use Rattle.program_runs.specs.declared.fault.Fault.TheVariants.{Undecided}
use Rattle.read_document.specs.declared.key.Key.TheVariants as keys
use Rattle.read_document.specs.declared.refusal.DocError.TheVariants.{Law, Missing}
use Rattle.read_exchange.specs.Exchanges.{exchange_seen, is_refusal, keyed_seen, KeyedExchange, operation}
use Rattle.read_exchange.specs.declared.line.ExchangeOp.{ExchangeOp}
use Rattle.exchanges_log.specs.ExchangeLogs.{is_uncertain, uncertain_in, unfinished_in}
use Rattle.watch_lines.specs.Kept.{Forgets, IsHeldRecord, IsKeptNumber, IsKeptAlone, KeepsAll}
use Rattle.watch_lines.specs.Lined.{lined_after, lined_op, without_line}
use Rattle.watch_lines.specs.Namings.{IsNamedExchange, log_by, Naming, op_by}
use Rattle.watch_lines.specs.Seen.{bare, counts_of, early_fault, fault_by, fault_of, has_key, HasOperation, key_with}
use Rattle.watch_lines.specs.Seen.{opened_with, raised, raised_by, refusal_at, task_fault}
use Rattle.watch_lines.specs.Seen.{LinesSeen}
use Rattle.watch_lines.specs.Seen.{with_floor}
use Rattle.watch_lines.specs.Replies.{TellsIf}
use Rattle.watch_lines.specs.Steps.{EndsAs, IsLawfulTo, opened, RisesTo}
use Rattle.watch_lines.specs.Tasks.{below, floor_of, high_with, higher, is_named, moment_of, own_floor, tasks_with}
use Rattle.watch_lines.specs.WatchEntries.{floor, said, watch_entry_of}
use Rattle.watch_lines.specs.WatchHeads.{WatchHead}
use Rattle.watch_lines.specs.Watchers.{ForgetsAt, ForgetsFrom, IsRisenBefore, Knows, KnowsIf, KnowsLess, RisesAs, RisesNow}
use Rattle.watch_lines.specs.Watchers.{TakesEntry, TakesLine, TakesOperation}
use Rattle.watch_lines.specs.inner.CountsOne.{CountsOne}
use Rattle.watch_lines.proofs.NamingLemmas.{more_by, of_led, of_with, renamed, told_between, told_beyond, told_lawful, told_lost}
use Rattle.watch_lines.proofs.NamingLemmas.{told_unlawful}
use Rattle.watch_lines.proofs.NumberLemmas.{kept_alone, opening_stays, same_naming}
use Rattle.watch_lines.specs.declared.lined.Lined.{Lined}
use Rattle.watch_lines.specs.declared.lined.LinedRegister.{LinedRegister}
use Rattle.watch_lines.specs.declared.records.Records.{Records}
use Rattle.watch_lines.specs.declared.tasks.Task.{Task}
use Rattle.watch_lines.specs.declared.told.Counts.{Counts}
use Rattle.watch_lines.specs.declared.told.Floor.{Floor}
use Rattle.watch_lines.specs.declared.told.Told.{Told}
use Rattle.watch_lines.specs.declared.told.Told.TheVariants.{Lawful, Lost}
use Rattle.watch_lines.specs.declared.told.WatchFault.{WatchFault}
use Rattle.watch_lines.specs.declared.told.WatchFault.TheVariants.{Below, Refused}
use Rattle.watch_lines.specs.declared.watcher.Step.{Step}
use Rattle.watch_lines.specs.declared.watcher.Step.TheVariants.{GoesOn, Stops}
use Rattle.watch_lines.specs.declared.watcher.Watcher.{Watcher}

-- ---- the floor rises

risen_to : (old to last new : ℕ) → last ≡ to - 1 → old < to → to < 2 ^ 64 → new ≡ max old (min (last + 1) last_moment) → new ≡ to
risen_to old to last new before later fits e = omega (arith, before, later, fits, e)

pub risen_before : (log : List (Operation Lined)) (old : Watch LinedRegister Lined) (to last : ℕ) (risen : Risen LinedRegister Lined) →
    last ≡ to - 1 → old.moment < to → to < 2 ^ 64 → IsRisen lined_after opened log old last risen → IsRisenBefore log old.moment to risen
risen_before log old to last (Open new) before later fits h =
    let e : new.moment ≡ to = risen_to old.moment to last new.moment before later fits h.0 in
    (e, h.1, subst (λ (m : ℕ). IsLawfulBetween lined_after opened log old.moment m) e h.2)
risen_before log old to last (LostThen at op) before later fits h =
    let within = h.0 in (omega (arith, within, before, later), h.1)
risen_before log old to last (TooMany at) before later fits h =
    let within = h.0 in (omega (arith, within, before, later), h.1)

-- what was said of the same
pub risen_same : (log : List (Operation Lined)) (from to other : ℕ) (risen same : Risen LinedRegister Lined) → to ≡ other → risen ≡ same →
    IsRisenBefore log from to risen → IsRisenBefore log from other same
risen_same log from to other risen same e f h =
    let P : ℕ → Type 0 = λ m. IsRisenBefore log from m risen in
    let Q : Risen LinedRegister Lined → Type 0 = λ r. IsRisenBefore log from other r in subst Q f (subst P e h)

-- the opening's number is 0 for the watch, too
stays : (s : LinesSeen) (w : Watcher) (k : Knows s w) → k.follows.naming.to 0 ≡ 0
stays s w k = opening_stays s.records k.follows.naming w.records k.follows.records

-- what is known of a log where the floor rose
pub rises_open : (s : LinesSeen) (w : Watcher) (watch : Watch LinedRegister Lined) (high : Option Floor) (k : Knows s w) →
    AreLedTo lined_after w.watch.held.items watch.held.items →
    IsRisenBefore (log_by k.follows.naming.to s.log) w.watch.moment (moment_of high) (Open watch) →
    Knows (record s { high = high }) (record w { watch = watch; high = high }) × IsLawfulTo s.log (moment_of s.high) (moment_of high)
rises_open s w watch high k led h = (
  record {
    lines = k.lines;
    follows = record {
      naming = k.follows.naming;
      records = k.follows.records;
      held = of_led (IsKeptNumber w.records) w.watch.held.items k.follows.held watch.held.items led;
      is = h.1;
    };
    moment = h.0;
    key = k.key;
    tasks = k.tasks;
    high = refl;
    counts = k.counts;
    ended = k.ended;
  },
  λ less. told_between k.follows.naming (stays s w k) s.log (moment_of s.high) (moment_of high)
      (subst (λ (m : ℕ). IsLawfulBetween lined_after opened (log_by k.follows.naming.to s.log) m (moment_of high)) k.moment h.2),
)

-- and of which less is kept then
pub rises_less : (s : LinesSeen) (high : Option Floor) (step : Step) → IsLawfulTo s.log (moment_of s.high) (moment_of high) →
    KnowsLess (record s { high = high }) step → RisesNow s high step
rises_less s high (GoesOn w) lawful k = (k, lawful)
rises_less s high (Stops reply) lawful is =
    let P : Result Told WatchFault → Type 0 = λ r. RisesNow s high (Stops r) in subst P (sym is) (λ other. absurd (other refl))

pub rises_lost : (s : LinesSeen) (w : Watcher) (high : Option Floor) (at : ℕ) (op : Operation Lined) (k : Knows s w) →
    IsRisenBefore (log_by k.follows.naming.to s.log) w.watch.moment (moment_of high) (LostThen at op) →
    RisesNow s high (Stops (Ok (Lost at op.what.line)))
rises_lost s w high at op k h =
    let x = told_lost k.follows.naming (stays s w k) s.log w.watch.moment at op h.1 in
    (h.0, (x.0, subst (λ (m : ℕ). IsFirstLost lined_after opened s.log m at x.0) k.moment x.1, x.2))

pub rises_beyond : (s : LinesSeen) (w : Watcher) (high : Option Floor) (at : ℕ) (k : Knows s w) →
    IsRisenBefore (log_by k.follows.naming.to s.log) w.watch.moment (moment_of high) (TooMany at) →
    RisesNow s high (Stops (Err (Refused (Undecided w.lines))))
rises_beyond s w high at k h = λ other. (
  ap Undecided k.lines,
  at,
  h.0,
  subst (λ (m : ℕ). AreTooManyAt lined_after opened s.log m at) k.moment
      (told_beyond k.follows.naming (stays s w k) s.log w.watch.moment at h.1),
)

-- ---- what is kept

-- behind a header
pub knows_opened : (head : WatchHead) (w : Watcher) → w.lines ≡ 1 → IsKeptAlone head.opening w.records →
    IsWatchOf lined_after opened [] w.watch →
    w.watch.moment ≡ 0 → AreOpenedAs opened w.watch.held.items → w.key ≡ None → w.tasks.items ≡ head.tasks → w.high ≡ None →
    w.counts ≡ record { ops = 0; unfinished = 0; uncertain = 0; floors = 0 } → w.ended ≡ None → Knows (opened_with head) w
knows_opened head w lines records watch moment held key tasks high counts ended = record {
  lines = lines;
  follows = record {
    naming = same_naming;
    records = kept_alone head.opening w.records records;
    held = λ n is. (head.opening, records.known ∙ ap Some (sym (none n is)));
    is = watch;
  };
  moment = moment;
  key = ap (option_map (option_map string_bytes)) key;
  tasks = tasks;
  high = high;
  counts = counts;
  ended = ended;
}
  where
    none : (n : ℕ) → IsHeldRecord w.watch.held.items n → n ≡ 0
    none n (i, one, e, inl is) = is ∙ ap (λ (z : LinedRegister). z.register.held) (held i one e).0
    none n (i, one, e, inr (o, l, names)) =
        let at : slice_get [] l.0 ≡ Some o = ap (λ zs. slice_get zs l.0) (sym (held i one e).1) ∙ l.1 in cc

-- what nothing held names is forgotten
pub knows_less : (s : LinesSeen) (w : Watcher) (less : Records) → Knows s w → Forgets w.watch.held.items w.records less →
    Knows s (record w { records = less })
knows_less s w less k forgets = record {
  lines = k.lines;
  follows = record {
    naming = k.follows.naming;
    records = record {
      found = λ text n e. k.follows.records.found text n (forgets.was text n e);
      below = λ text n e.
          (let l = k.follows.records.below text n (forgets.was text n e) in let same = forgets.next in omega (arith, l, same));
      opening = (
        k.follows.records.opening.0,
        k.follows.records.opening.1,
        forgets.stays k.follows.records.opening.0 0 k.follows.records.opening.2 (inl refl),
      );
      distinct = k.follows.records.distinct;
    };
    held = λ n is. (let kept = k.follows.held n is in (kept.0, forgets.stays kept.0 n kept.1 (inr is)));
    is = k.follows.is;
  };
  moment = k.moment;
  key = k.key;
  tasks = k.tasks;
  high = k.high;
  counts = k.counts;
  ended = k.ended;
}

-- ---- a floor

abbrev pub floored : LinesSeen → LinesSeen
floored s = record s { lines = s.lines + 1; floors = s.floors + 1 }

no_floor_fault : (s : LinesSeen) (who : Option ℕ) (at : ℕ) → s.ended ≡ None → is_named s.tasks who ≡ true →
    fault_of s (Ok (floor who at)) ≡ None
no_floor_fault s who at before named =
    ap (λ (e : Option ℕ). fault_by e s (Ok (floor who at))) before
    ∙ ap (λ (b : Bool). if b then None else Some (refusal_at (s.lines + 1) (Law keys.Who))) named

pub takes_floor : (s : LinesSeen) (who : Option ℕ) (at : ℕ) (step : Step) → s.ended ≡ None → is_named s.tasks who ≡ true →
    RisesAs (floored s) (with_floor s who at) step → TakesEntry s (Ok (floor who at)) step
takes_floor s who at (GoesOn w) before named h =
    (with_floor s who at, (no_floor_fault s who at before named, refl, h.1), h.0)
takes_floor s who at (Stops (Ok told)) before named h =
    inr (no_floor_fault s who at before named, with_floor s who at, refl, h)
takes_floor s who at (Stops (Err fault)) before named h = λ other.
    inr (no_floor_fault s who at before named, with_floor s who at, refl, h other)

-- a floor of a task that isn't named
pub refuses_floor : (s : LinesSeen) (w : Watcher) (who : Option ℕ) (at line : ℕ) → Knows s w → s.ended ≡ None → line ≡ s.lines + 1 →
    is_named w.tasks.items who ≡ false → TakesEntry s (Ok (floor who at)) (Stops (Err (refusal_at line (Law keys.Who))))
refuses_floor s w who at line k before next other = λ memory. inl (
  refusal_at line (Law keys.Who),
  ap (λ (e : Option ℕ). fault_by e s (Ok (floor who at))) before
      ∙ (ap (λ (b : Bool). if b then None else Some (refusal_at (s.lines + 1) (Law keys.Who)))
      (ap (λ (ts : List Task). is_named ts who) (sym k.tasks) ∙ other)
      ∙ ap (λ (n : ℕ). Some (refusal_at n (Law keys.Who))) (sym next)),
  refl,
)

-- the tasks' floors are known, and then that of all rises
pub raised_as : (s : LinesSeen) (w : Watcher) (who : Option ℕ) (at : ℕ) (tasks : List Task) (high : Option Floor) (step : Step) →
    Knows s w → tasks ≡ tasks_with w.tasks.items who at w.lines → high ≡ high_with w.tasks.items w.high who at w.lines →
    RisesNow (record s { tasks = tasks }) high step → RisesAs s (raised s who at) step
raised_as s w who at tasks high step k tasks_are high_is h =
    let these : tasks ≡ tasks_with s.tasks who at s.lines =
    tasks_are ∙ (ap (λ (ts : List Task). tasks_with ts who at w.lines) k.tasks
    ∙ ap (λ (n : ℕ). tasks_with s.tasks who at n) k.lines) in
    let this : high ≡ high_with s.tasks s.high who at s.lines =
    high_is ∙ (ap (λ (ts : List Task). high_with ts w.high who at w.lines) k.tasks
    ∙ (ap (λ (f : Option Floor). high_with s.tasks f who at w.lines) k.high
    ∙ ap (λ (n : ℕ). high_with s.tasks s.high who at n) k.lines)) in
    let P : List Task → Type 0 = λ ts. RisesAs s (record s { tasks = ts; high = high }) step in
    let Q : Option Floor → Type 0 = λ f. RisesAs s (record s { tasks = tasks_with s.tasks who at s.lines; high = f }) step in
    subst Q this (subst P these (only_tasks s tasks high step h))
  where
    only_tasks : (s : LinesSeen) (tasks : List Task) (high : Option Floor) (step : Step) →
        RisesNow (record s { tasks = tasks }) high step → RisesAs s (record s { tasks = tasks; high = high }) step
    only_tasks s tasks high (GoesOn w) h = h
    only_tasks s tasks high (Stops reply) h = h

-- with other floors of tasks
pub knows_tasks : (s : LinesSeen) (w : Watcher) (tasks : Vec Task Global) → Knows s w →
    Knows (record s { tasks = tasks.items }) (record w { tasks = tasks })
knows_tasks s w tasks k = record {
  lines = k.lines;
  follows = k.follows;
  moment = k.moment;
  key = k.key;
  tasks = refl;
  high = k.high;
  counts = k.counts;
  ended = k.ended;
}

-- and where that of all doesn't rise
pub rises_not : (s : LinesSeen) (w : Watcher) (high : Option Floor) → Knows s w → moment_of high ≡ moment_of w.high →
    RisesNow s high (GoesOn (record w { high = high }))
rises_not s w high k same = (
  record {
    lines = k.lines;
    follows = k.follows;
    moment = k.moment ∙ (sym (ap moment_of k.high) ∙ sym same);
    key = k.key;
    tasks = k.tasks;
    high = refl;
    counts = k.counts;
    ended = k.ended;
  },
  let old = ap moment_of k.high in λ less. absurd (omega (arith, less, same, old)),
)

-- one floor more is counted
pub knows_floored : (s : LinesSeen) (w : Watcher) (line floors : ℕ) → Knows s w → line ≡ s.lines + 1 → floors ≡ w.counts.floors + 1 →
    Knows (floored s) (record w { lines = line; counts = record w.counts { floors = floors } })
knows_floored s w line floors k next more = record {
  lines = next;
  follows = k.follows;
  moment = k.moment;
  key = k.key;
  tasks = k.tasks;
  high = k.high;
  counts =
      let count : floors ≡ s.floors + 1 = more ∙ ap (λ (c : Counts). c.floors + 1) k.counts in
      let same : record w.counts { floors = floors } ≡ record (counts_of s) { floors = floors } =
      ap (λ (c : Counts). let d : Counts = record c { floors = floors } in d) k.counts in
      same ∙ ap (λ (n : ℕ). let d : Counts = record (counts_of s) { floors = n } in d) count;
  ended = k.ended;
}

-- also of lines of any number
pub knows_any : (s : LinesSeen) (w : Watcher) (line floors : ℕ) → Knows s w → floors ≡ w.counts.floors + 1 →
    Knows (record s { lines = line; floors = s.floors + 1 }) (record w { lines = line; counts = record w.counts { floors = floors } })
knows_any s w line floors k more =
    let t : LinesSeen = record s { lines = line } in
    let known = knows_floored s w (s.lines + 1) floors k refl more in
    record {
      lines = refl;
      follows = k.follows;
      moment = k.moment;
      key = k.key;
      tasks = k.tasks;
      high = k.high;
      counts = known.counts;
      ended = k.ended;
    }

pub rises_later : (before m n old new : ℕ) → before ≡ old → m ≡ new → n ≡ old → m ≢ n → old ≤ new → before < new
rises_later before m n old new at e f other le = omega (arith, at, e, f, other, le)

pub no_lower : (high : Option Floor) (at line : ℕ) → moment_of high ≤ moment_of (higher high at line)
no_lower None at line = omega arith
no_lower (Some f) at line = by_test (nat_lt f.at at) refl
  where
    by_test : (b : Bool) → nat_lt f.at at ≡ b → f.at ≤ moment_of (higher (Some f) at line)
    by_test true e = rw e (let less : f.at < at = grind (arith, nat_tests) in omega (arith, less))
    by_test false e = rw e (omega arith)

-- what is forgotten where the floor rises, or where it doesn't
pub forgets_risen : (w : Watcher) (step : Step) → ForgetsFrom w.records step → ForgetsAt w step
forgets_risen w (GoesOn new) forgets = λ less many. forgets many
forgets_risen w (Stops reply) forgets = tt

pub forgets_none : (w new : Watcher) → moment_of new.high ≡ moment_of w.high → ForgetsAt w (GoesOn new)
forgets_none w new same = λ less. absurd (omega (arith, less, same))

-- more was kept before
pub forgets_more : (w mid : Watcher) (step : Step) → mid.high ≡ w.high → KeepsAll w.records mid.records → ForgetsAt mid step →
    ForgetsAt w step
forgets_more w mid (GoesOn new) high kept forgets = λ less many.
    let same = ap moment_of high in
    let more = kept.more in let most = kept.most in forgets (omega (arith, less, same)) (omega (arith, many, more, most))
forgets_more w mid (Stops reply) high kept forgets = tt

-- ---- an operation

one_more : (p : Operation Exchange → Bool) (log : List (Operation Lined)) (o : Operation Exchange) (line : ℕ) →
    count_by p (bare (log ++ lined_op o line ∷ [])) ≡ count_by p (bare log) + cond (p o) 1 0
one_more p log o line =
    let f : Operation Exchange → ℕ = λ x. cond (p x) 1 0 in
    let parts = map-append without_line log (lined_op o line ∷ []) in
    let both = sum_by-append f (bare log) (o ∷ []) in
    let last = sum_by-cons f o [] in
    ap (count_by p) parts ∙ (both ∙ ap (λ (n : ℕ). count_by p (bare log) + n) (omega (arith, last)))

counts_more : (s : LinesSeen) (c now : Counts) (o : Operation Exchange) (t : LinesSeen) (line : ℕ) → c ≡ counts_of s → CountsOne c o now →
    t.log ≡ s.log ++ lined_op o line ∷ [] → t.floors ≡ s.floors → now ≡ counts_of t
counts_more s c now o t line is one log floors =
    let make : ℕ → ℕ → ℕ → ℕ → Counts = λ a b d e. record { ops = a; unfinished = b; uncertain = d; floors = e } in
    let ops : now.ops ≡ length t.log =
    omega (arith, one.ops, ap (λ (x : Counts). x.ops) is, ap length log, length-append s.log (lined_op o line ∷ [])) in
    let unfinished : now.unfinished ≡ unfinished_in (bare t.log) =
    one.unfinished ∙ (ap (λ (x : Counts). x.unfinished + cond (is_none o.ends) 1 0) is
    ∙ (sym (one_more (λ (x : Operation Exchange). is_none x.ends) s.log o line)
    ∙ ap (λ (l : List (Operation Lined)). unfinished_in (bare l)) (sym log))) in
    let uncertain : now.uncertain ≡ uncertain_in (bare t.log) =
    one.uncertain ∙ (ap (λ (x : Counts). x.uncertain + cond (is_uncertain o) 1 0) is
    ∙ (sym (one_more is_uncertain s.log o line) ∙ ap (λ (l : List (Operation Lined)). uncertain_in (bare l)) (sym log))) in
    let all : now.floors ≡ t.floors = one.floors ∙ (ap (λ (x : Counts). x.floors) is ∙ sym floors) in
    ap (λ (n : ℕ). make n now.unfinished now.uncertain now.floors) ops
    ∙ (ap (λ (n : ℕ). make (length t.log) n now.uncertain now.floors) unfinished
    ∙ (ap (λ (n : ℕ). make (length t.log) (unfinished_in (bare t.log)) n now.floors) uncertain
    ∙ ap (λ (n : ℕ). make (length t.log) (unfinished_in (bare t.log)) (uncertain_in (bare t.log)) n) all))

-- an operation is counted as it is by any numbers
counts_by : (f : ℕ → ℕ) (c now : Counts) (o : Operation Exchange) → CountsOne c o now → CountsOne c (op_by f o) now
counts_by f c now o one = record { ops = one.ops; unfinished = one.unfinished; uncertain = one.uncertain; floors = one.floors }

pub pushed : (s : LinesSeen) (old new : Watcher) (o : ExchangeOp) (next : Operation Exchange) (line : ℕ) (k : Knows s old) →
    line ≡ s.lines + 1 →
    IsNamedExchange s.records k.follows.naming old.records (exchange_seen o) new.records next → CountsOne old.counts next new.counts →
    new.watch.moment ≡ old.watch.moment →
    ((log : List (Operation Lined)) → IsWatchOf lined_after opened log old.watch →
    IsWatchOf lined_after opened (log ++ lined_op next line ∷ []) new.watch) →
    AreHeldWith (lined_op next line) old.watch.held.items new.watch.held.items →
    option_map (option_map string_bytes) new.key
    ≡ key_with (option_map (option_map string_bytes) old.key) (option_map string_bytes o.key) →
    new.lines ≡ line → new.tasks ≡ old.tasks → new.high ≡ old.high → new.ended ≡ old.ended →
    (t : LinesSeen) × HasOperation s (keyed_seen o) t × Knows t new
pushed s old new o next line k here got counts moment watch with key lines tasks high ended =
    let now : Naming = got.named.now in
    let said : Operation Lined = lined_op (op_by now.from next) line in
    let t : LinesSeen = record s {
      lines = s.lines + 1;
      records = got.named.after;
      log = s.log ++ said ∷ [];
      key = key_with s.key (option_map string_bytes o.key);
    } in
    let again : IsWatchOf lined_after opened (log_by now.to s.log) old.watch =
    renamed k.follows.naming now (opening_stays s.records k.follows.naming old.records k.follows.records)
    (opening_stays got.named.after now new.records got.named.kept) s.log old.watch.moment old.watch.held.items
    (λ n is. got.named.same n (k.follows.held n is)) k.follows.is in (
      t,
      record {
        op = said;
        is = got.is;
        line = here;
        grow = got.named.grow;
        distinct = got.named.kept.distinct;
        made = refl;
      },
      record {
        lines = lines ∙ here;
        follows = record {
          naming = now;
          records = got.named.kept;
          held = of_with (IsKeptNumber new.records) old.watch.held.items
              (λ n is. (let kept = k.follows.held n is in (kept.0, got.named.stay kept.0 n kept.1))) (lined_op next line)
              new.watch.held.items with got.names;
          is = subst (λ (zs : List (Operation Lined)). IsWatchOf lined_after opened zs new.watch)
              (sym (more_by now s.log (lined_op next line))) (watch (log_by now.to s.log) again);
        };
        moment = moment ∙ k.moment;
        key = key ∙ ap (λ (all : Option (Option (List ℕ))). key_with all (option_map string_bytes o.key)) k.key;
        tasks = ap (λ (ts : Vec Task Global). ts.items) tasks ∙ k.tasks;
        high = high ∙ k.high;
        counts = counts_more s old.counts new.counts (op_by now.from next) t line k.counts
            (counts_by now.from old.counts new.counts next counts) refl refl;
        ended = ended ∙ k.ended;
      },
    )

op_fault : (s : LinesSeen) (who : Option ℕ) (o : KeyedExchange) → s.ended ≡ None → has_key s.key o.key ≡ true →
    is_refusal o.op.what ≡ false → early_fault s.tasks s.high (s.lines + 1) who o.op.starts ≡ None →
    fault_of s (Ok (said who (operation o))) ≡ None
op_fault s who o before all taken above =
    ap (λ (e : Option ℕ). fault_by e s (Ok (said who (operation o)))) before
    ∙ by_tests (has_key s.key o.key) (is_refusal o.op.what) all taken
  where
    by_tests : (same refused : Bool) → same ≡ true → refused ≡ false →
        (if same
        then (if refused
        then Some (refusal_at (s.lines + 1) (Missing keys.Limit))
        else early_fault s.tasks s.high (s.lines + 1) who o.op.starts)
        else Some (refusal_at (s.lines + 1) (Law keys.Key))) ≡ None
    by_tests true false a b = above
    by_tests true true a b = cc
    by_tests false refused a b = cc

-- an operation without a fault is above the floor of all
pub is_above : (tasks : List Task) (high : Option Floor) (line : ℕ) (who : Option ℕ) (begins : ℕ) →
    early_fault tasks high line who begins ≡ None → moment_of high ≤ begins
is_above tasks high line who begins none =
    above_high high (no_second (below (floor_of tasks who) line begins) (below high line begins)
    (no_second (task_fault tasks line who)
    (option_or (below (floor_of tasks who) line begins) (below high line begins)) none))
  where
    no_second : (a b : Option WatchFault) → option_or a b ≡ None → b ≡ None
    no_second None b e = e
    no_second (Some f) b e = absurd (none-some f (sym e))

    above_high : (high : Option Floor) → below high line begins ≡ None → moment_of high ≤ begins
    above_high None e = omega arith
    above_high (Some f) e = by_test (nat_lt begins f.at) refl e
      where
        by_test : (b : Bool) → nat_lt begins f.at ≡ b → (if b then Some (Below line f.line) else None) ≡ None → f.at ≤ begins
        by_test true test e = absurd (none-some (Below line f.line) (sym e))
        by_test false test e = grind (arith, nat_tests)

-- a floor changes floors alone
same_log : (u : LinesSeen) (who at : Option ℕ) → (raised_by u who at).log ≡ u.log
same_log u who None = refl
same_log u who (Some at) = refl

same_lines : (u : LinesSeen) (who at : Option ℕ) → (raised_by u who at).lines ≡ u.lines
same_lines u who None = refl
same_lines u who (Some at) = refl

-- what is seen with an operation, once its end is a floor
abbrev ended_as : LinesSeen → Option ℕ → KeyedExchange → LinesSeen
ended_as u who o = raised_by u who (own_floor u.tasks who o.op.ends)

-- an operation without a fault, and what is told where the floor rises by its end
takes_it : (s : LinesSeen) (who : Option ℕ) (o : KeyedExchange) (u : LinesSeen) (step : Step) →
    fault_of s (Ok (said who (operation o))) ≡ None → HasOperation s o u → RisesAs u (ended_as u who o) step →
    TakesEntry s (Ok (said who (operation o))) step
takes_it s who o u (GoesOn w) none has h =
    let t : LinesSeen = ended_as u who o in
    let log : t.log ≡ u.log = same_log u who (own_floor u.tasks who o.op.ends) in
    let high : moment_of u.high ≡ moment_of s.high = ap (λ (v : LinesSeen). moment_of v.high) has.made in
    let P : ℕ → Type 0 = λ m. IsLawfulTo u.log m (moment_of t.high) in
    let Q : List (Operation Lined) → Type 0 = λ l. IsLawfulTo l (moment_of s.high) (moment_of t.high) in
    (t, (none, (u, has, refl), subst Q (sym log) (subst P high h.1)), h.0)
takes_it s who o u (Stops reply) none has h =
    let t : LinesSeen = ended_as u who o in
    let log : t.log ≡ u.log = same_log u who (own_floor u.tasks who o.op.ends) in
    let lines : t.lines ≡ u.lines = same_lines u who (own_floor u.tasks who o.op.ends) in
    let high : moment_of u.high ≡ moment_of s.high = ap (λ (v : LinesSeen). moment_of v.high) has.made in
    told_at reply
    (let P : ℕ → Type 0 = λ m. TellsIf (RisesTo u.log m (moment_of t.high) u.lines) reply in
    let Q : List (Operation Lined) → Type 0 = λ l. TellsIf (RisesTo l (moment_of s.high) (moment_of t.high) u.lines) reply in
    let R : ℕ → Type 0 = λ n. TellsIf (RisesTo t.log (moment_of s.high) (moment_of t.high) n) reply in
    subst R (sym lines) (subst Q (sym log) (subst P high h)))
  where
    told_at : (reply : Result Told WatchFault) →
        TellsIf (RisesTo (ended_as u who o).log (moment_of s.high) (moment_of (ended_as u who o).high) (ended_as u who o).lines) reply →
        TakesEntry s (Ok (said who (operation o))) (Stops reply)
    told_at (Ok told) r = inr (none, ended_as u who o, (u, has, refl), r)
    told_at (Err fault) r = λ other. inr (none, ended_as u who o, (u, has, refl), r other)

pub takes_operation : (s : LinesSeen) (who : Option ℕ) (o : KeyedExchange) (step : Step) → s.ended ≡ None →
    has_key s.key o.key ≡ true → is_refusal o.op.what ≡ false →
    early_fault s.tasks s.high (s.lines + 1) who o.op.starts ≡ None → TakesOperation s who o step →
    TakesEntry s (Ok (said who (operation o))) step
takes_operation s who o step before all taken above (inr (u, has, h)) =
    takes_it s who o u step (op_fault s who o before all taken above) has h
takes_operation s who o step before all taken above (inl h) =
    let P : Step → Type 0 = λ z. TakesEntry s (Ok (said who (operation o))) z in
    subst P (sym h) (λ other. absurd (other refl))

-- ---- the end of the input

pub ends_lawful : (s : LinesSeen) (w : Watcher) (k : Knows s w) →
    IsVerdictOnAll lined_after opened (log_by k.follows.naming.to s.log) w.watch ended.Lawful →
    EndsAs s (Ok (Lawful w.counts (is_some w.ended)))
ends_lawful s w k h =
    (told_lawful k.follows.naming (stays s w k) s.log h, k.counts, ap is_some k.ended)

pub ends_lost : (s : LinesSeen) (w : Watcher) (at : ℕ) (op : Operation Lined) (k : Knows s w) →
    IsVerdictOnAll lined_after opened (log_by k.follows.naming.to s.log) w.watch (ended.Lost at op) →
    EndsAs s (Ok (Lost at op.what.line))
ends_lost s w at op k h =
    let x = told_lost k.follows.naming (stays s w k) s.log w.watch.moment at op h.0 in
    let first = subst (λ (m : ℕ). IsFirstLost lined_after opened s.log m at x.0) k.moment x.1 in
    ((x.0, first, x.2), told_unlawful k.follows.naming (stays s w k) s.log h.1)

pub ends_beyond : (s : LinesSeen) (w : Watcher) (at : ℕ) (k : Knows s w) →
    IsVerdictOnAll lined_after opened (log_by k.follows.naming.to s.log) w.watch (ended.TooMany at) →
    EndsAs s (Err (Refused (Undecided w.lines)))
ends_beyond s w at k h = (
  ap Undecided k.lines,
  at,
  subst (λ (m : ℕ). AreTooManyAt lined_after opened s.log m at) k.moment
      (told_beyond k.follows.naming (stays s w k) s.log w.watch.moment at h),
)

-- ---- a line, behind the header

pub takes_line : (s : LinesSeen) (bytes : List ℕ) (step : Step) → TakesEntry s (watch_entry_of bytes) step → TakesLine (Some s) bytes step
takes_line s bytes (GoesOn w) h = h
takes_line s bytes (Stops (Ok told)) h = h
takes_line s bytes (Stops (Err fault)) h = h

pub takes_behind : (seen : Option LinesSeen) (read : Option Watcher) (w : Watcher) (bytes : List ℕ) (step : Step) → read ≡ Some w →
    KnowsIf seen read → ((s : LinesSeen) → Knows s w → TakesEntry s (watch_entry_of bytes) step) → TakesLine seen bytes step
takes_behind None read w bytes step is known takes =
    let P : Option Watcher → Type 0 = λ r. KnowsIf None r in absurd (subst P is known)
takes_behind (Some s) read w bytes step is known takes =
    let P : Option Watcher → Type 0 = λ r. KnowsIf (Some s) r in takes_line s bytes step (takes s (subst P is known))
