-- What a race tells of scripts that were run whole: each entry of a log answers its wish, so the counts are those of the wishes. And
-- lanes of a new board have worked with fresh passes, so their calls are atomic, and their logs sound.
use Rattle.std.proofs.Common.{◌≡◌, Bool, ℕ, ◌+◌, ◌<◌, List, [], ◌∷◌, ◌++◌, length, map, take, refl}
use Rattle.std.proofs.Common.{sym, ◌∙◌, ap, subst, arith, ⊎_elim, Global}
use Rattle.std.specs.Prelude.{Option, None, Vec, cond, count_by}
use mathlib.Core.List.{map-map}
use Rattle.std.proofs.lemmas.List.{length-map, take_all}
use Rattle.std.proofs.lemmas.List.Sums.{sum_by-cons}
use Rattle.std.proofs.lemmas.Option.{same_Some, slice_get_within}
use Rattle.history_core.specs.Band.{fits}
use Rattle.history_core.specs.declared.band.Band.{Band}
use Rattle.history_core.specs.declared.wish.Wish.{Wish}
use Rattle.history_core.specs.declared.wish.Wish.TheVariants.{Write, Read}
use Rattle.matrix_core.specs.Stamps.{first_stamp}
use Rattle.matrix_core.proofs.lists.Elements.{get_exists}
use Rattle.matrix_core.proofs.orders.Listing.{get_map_back}
use Rattle.cell_contract.specs.declared.family.Family.{Ghosts as FamilyWords}
use Rattle.board_live.specs.declared.board.Board.{Board}
use Rattle.board_live.specs.declared.board.Pass.{Pass}
use Rattle.board_live.specs.declared.record.Posted.{Posted}
use Rattle.board_live.specs.Deals.{IsNew}
use Rattle.board_live.specs.Ends.{IsGreatest}
use Rattle.board_live.specs.Passes.{IsPass}
use Rattle.board_tasks.specs.declared.lane.Entry.{Entry}
use Rattle.board_tasks.specs.declared.lane.Lane.{Lane}
use Rattle.board_tasks.specs.declared.lane.Reply.{Reply}
use Rattle.board_tasks.specs.declared.lane.Reply.TheVariants.{Written, Seen, Ended}
use Rattle.board_tasks.specs.Jobs.{AllReady, EachStep}
use Rattle.board_tasks.specs.Lanes.{AreLanes, IsLane}
use Rattle.board_tasks.specs.Tasks.{AreCalls, Ran, Replies}
use Rattle.board_tasks.specs.Worked.{AreAtomicLogs, HaveWorked, logs_of}
use Rattle.board_live.proofs.Passing.{all_new}
use Rattle.board_tasks.specs.LogOrders.{LogsInOrder}
use Rattle.board_tasks.proofs.LaneLists.{all_ready, lane_at, lanes_length}
use Rattle.board_tasks.proofs.Works.{have_worked}
use Rattle.board_tasks.specs.declared.origin.Origin.{Origin}
use Rattle.board_tasks.specs.declared.origin.Origin.TheVariants.{Sound}
use Rattle.board_tasks.specs.Origins.{IsOrigin}
use Rattle.board_tasks.specs.Told.{AreOfRun}
use Rattle.board_tasks.proofs.SoundRuns.{atomic_run}
use Rattle.fsr_answers.specs.Races.{CountsAll, CountsScript, IsRace, broken_at, counts_in, counts_of, is_read}
use Rattle.fsr_answers.specs.Races.{is_refused, is_seen, is_write, is_written, replies, same_band}
use Rattle.print_report.specs.declared.report.Counts.{Counts}
use Rattle.print_report.specs.declared.report.Report.{Report}
use Rattle.print_report.specs.declared.report.Report.TheVariants.{Race}

-- how much an element that passes a test adds to a count
abbrev one : Bool → ℕ
one b = cond b 1 0

seen_as_read : (limit process : ℕ) (wish : Wish Band) (seen chosen : Posted Band) (reply : Reply Band)
    → Replies limit process wish seen chosen reply
    → one (is_seen reply) ≡ one (is_read wish)
seen_as_read limit process Read seen chosen (Written s) h = absurd h
seen_as_read limit process Read seen chosen (Seen p) h = refl
seen_as_read limit process Read seen chosen (Ended p) h = absurd h
seen_as_read limit process (Write item) seen chosen (Written s) h = refl
seen_as_read limit process (Write item) seen chosen (Seen p) h = absurd h
seen_as_read limit process (Write item) seen chosen (Ended p) h = refl

written_as_write : (limit process : ℕ) (wish : Wish Band) (seen chosen : Posted Band) (reply : Reply Band)
    → Replies limit process wish seen chosen reply
    → one (is_written reply) + one (is_refused reply) ≡ one (is_write wish)
written_as_write limit process Read seen chosen (Written s) h = absurd h
written_as_write limit process Read seen chosen (Seen p) h = refl
written_as_write limit process Read seen chosen (Ended p) h = absurd h
written_as_write limit process (Write item) seen chosen (Written s) h = refl
written_as_write limit process (Write item) seen chosen (Seen p) h = absurd h
written_as_write limit process (Write item) seen chosen (Ended p) h = refl

-- over any family
module _ {F S T : Type 0} (family : FamilyWords F (Posted Band) S T) where
  reads_answered : (board : Board Band F S T) (old : Pass Band F S T) (log : List (Entry Band)) (new : Pass Band F S T)
      → AreCalls family fits board old log new
      → replies is_seen log ≡ count_by is_read (map (λ e. e.wish) log)
  reads_answered board old [] new h = refl
  reads_answered board old (e ∷ es) new h =
      let here_one = seen_as_read _ _ e.wish _ _ e.reply h.1.replies in
      let rest = reads_answered board h.0 es new h.2 in
      let here = sum_by-cons (λ (d : Entry Band). one (is_seen d.reply)) e es in
      let there = sum_by-cons (λ w. one (is_read w)) e.wish (map (λ (d : Entry Band). d.wish) es) in
      omega (arith, here_one, rest, here, there)

  writes_answered : (board : Board Band F S T) (old : Pass Band F S T) (log : List (Entry Band)) (new : Pass Band F S T)
      → AreCalls family fits board old log new
      → replies is_written log + replies is_refused log ≡ count_by is_write (map (λ e. e.wish) log)
  writes_answered board old [] new h = refl
  writes_answered board old (e ∷ es) new h =
      let here_one = written_as_write _ _ e.wish _ _ e.reply h.1.replies in
      let rest = writes_answered board h.0 es new h.2 in
      let here = sum_by-cons (λ (d : Entry Band). one (is_written d.reply)) e es in
      let beside = sum_by-cons (λ (d : Entry Band). one (is_refused d.reply)) e es in
      let there = sum_by-cons (λ w. one (is_write w)) e.wish (map (λ (d : Entry Band). d.wish) es) in
      omega (arith, here_one, rest, here, beside, there)

  -- the counts of a lane that began with an empty log and ran to its end
  lane_counts : (may_call may_stop : ℕ → ℕ → Type 0) → ((task call : ℕ) → may_stop task call → ⊥)
      → (board : Board Band F S T) (task : ℕ) (script : List (Wish Band)) (old new : Lane Band F S T)
      → old.script.items ≡ script → old.log.items ≡ []
      → Ran family fits may_call may_stop board task old new → CountsScript script (counts_of new.log.items)
  lane_counts may_call may_stop never board task script old new plans empty ran =
      let log = new.log.items in
      let is_log : log ≡ ran.added = ran.log ∙ ap (λ z. z ++ ran.added) empty in
      let same : new.script.items ≡ script = ap (λ v. v.items) ran.script ∙ plans in
      let whole : length log ≡ length script =
      ⊎_elim (λ (e : length log ≡ length new.script.items). e ∙ ap length same) (λ stops. absurd (never task _ stops)) ran.whole in
      let wishes : map (λ (e : Entry Band). e.wish) log ≡ script =
      ran.is.kept.wishes ∙ ap (take (length log)) same ∙ take_all (length log) script (omega (arith, whole)) in
      let calls : AreCalls family fits board old.pass log new.pass =
      subst (λ z. AreCalls family fits board old.pass z new.pass) (sym is_log) ran.calls in
      record {
        reads = reads_answered board old.pass log new.pass calls ∙ ap (count_by is_read) wishes;
        writes = writes_answered board old.pass log new.pass calls ∙ ap (count_by is_write) wishes;
      }

  -- under a gate that never stops a race has the counts of its scripts
  pub race_counts : (may_call may_stop : ℕ → ℕ → Type 0) → ((task call : ℕ) → may_stop task call → ⊥)
      → (opening : Band) (limit : ℕ) (scripts : List (List (Wish Band))) (report : Report)
      → IsRace family may_call may_stop opening limit scripts report → CountsAll scripts report
  race_counts may_call may_stop never opening limit scripts report h =
      let tell : (Lane Band F S T) → Counts = λ (l : Lane Band F S T). counts_of l.log.items in
      let all = length-map h.ended tell ∙ h.ran.lengths ∙ lanes_length family fits h.passes scripts h.lanes h.begins ∙ h.new.count.1 in
      subst (CountsAll scripts) (sym h.told) (record {
        all = all;
        each = λ k script counts at_script at_counts.
            let ended = get_map_back tell h.ended k counts at_counts in
            let began = get_exists h.lanes k
            (let n : k < length h.ended = slice_get_within h.ended k ended.0 ended.1 in omega (arith, n, h.ran.lengths)) in
            let at = lane_at family fits h.passes scripts h.lanes h.begins k began.0 began.1 in
            let same : script ≡ at.1 = same_Some script at.1 (sym at_script ∙ at.3) in
            subst (CountsScript script) ended.2
            (lane_counts may_call may_stop never h.board (0 + k) script began.0 ended.0 (at.4.plans ∙ sym same) at.4.empty
            (h.ran.each k began.0 ended.0 began.1 ended.1));
      })

  -- the lanes of a new board may run
  pub race_ready : (board : Board Band F S T) (n limit : ℕ) (first : Posted Band) (passes : List (Pass Band F S T))
      (scripts : List (List (Wish Band))) (lanes now : List (Lane Band F S T)) → IsNew family fits n limit first board passes
      → AreLanes fits passes scripts lanes → now ≡ lanes
      → AllReady (λ (l : Lane Band F S T). IsPass family fits board l.pass × IsLane fits l) 0 now
  race_ready board n limit first passes scripts lanes now new are same =
      subst (λ z. AllReady (λ (l : Lane Band F S T). IsPass family fits board l.pass × IsLane fits l) 0 z) (sym same)
      (all_ready family fits board passes scripts lanes (all_new family fits board n limit first passes new) are)

  -- the lanes of a new board that ran may be ended
  pub race_worked : (may_call may_stop : ℕ → ℕ → Type 0) (limit n : ℕ) (first : Posted Band) (scripts : List (List (Wish Band)))
      (board : Board Band F S T) (passes : List (Pass Band F S T)) (lanes before after ended : List (Lane Band F S T))
      → IsNew family fits n limit first board passes → AreLanes fits passes scripts lanes
      → before ≡ lanes → EachStep (Ran family fits may_call may_stop board) 0 before after →
      ended ≡ after → HaveWorked family fits board ended
  race_worked may_call may_stop limit n first scripts board passes lanes before after ended new are same ran end =
      let two = new.size.0 in
      let begun : AreLanes fits passes scripts before = subst (AreLanes fits passes scripts) (sym same) are in
      subst (HaveWorked family fits board) (sym end)
      (have_worked family fits may_call may_stop n limit first board passes scripts before after new (omega (arith, two)) begun ran)

  -- the counts of the logs, as vectors or as lists
  counts_same : (logs : List (Vec (Entry Band) Global)) (lanes : List (Lane Band F S T)) → map (λ v. v.items) logs ≡ logs_of lanes
      → map (λ v. counts_of v.items) logs ≡ counts_in family lanes
  counts_same logs lanes same =
      sym (map-map counts_of (λ (v : Vec (Entry Band) Global). v.items) logs)
      ∙ (ap (map counts_of) same ∙ map-map counts_of (λ (l : Lane Band F S T). l.log.items) lanes)

  -- what was made, run and ended is a race
  pub race_of : (may_call may_stop : ℕ → ℕ → Type 0) (opening : Band) (limit n : ℕ) (scripts : List (List (Wish Band)))
      (board : Board Band F S T) (passes : List (Pass Band F S T)) (lanes before after ended : List (Lane Band F S T))
      (logs counted checked : List (Vec (Entry Band) Global)) (last : Posted Band) (origin : Origin) (tasks : List Counts)
      (broken : Option (ℕ × ℕ)) → n ≡ length scripts
      → IsNew family fits n limit (record { stamp = first_stamp; item = opening }) board passes → AreLanes fits passes scripts lanes
      → before ≡ lanes → EachStep (Ran family fits may_call may_stop board) 0 before after → ended ≡ after
      → map (λ v. v.items) logs ≡ logs_of ended → IsGreatest (map (λ l. l.pass) ended) last → AreAtomicLogs family board ended last
      → LogsInOrder board.first.item board.limit (logs_of ended) last
      → counted ≡ logs → tasks ≡ map (λ v. counts_of v.items) counted
      → checked ≡ logs → IsOrigin same_band opening (map (λ v. v.items) checked) origin
      → (AreOfRun opening (map (λ v. v.items) checked) → origin ≡ Sound)
      → broken ≡ broken_at origin
      → IsRace family may_call may_stop opening limit scripts (Race tasks broken)
  race_of may_call may_stop opening limit n scripts board passes lanes before
      after ended logs counted checked last origin tasks broken count new are
      same ran end given greatest atomic ordered these counts those found finds told =
      let items : List (Vec (Entry Band) Global) → List (List (Entry Band)) = map (λ (v : Vec (Entry Band) Global). v.items) in
      let first : board.first.item ≡ opening = ap (λ (z : Posted Band). z.item) new.opened in
      let worked : HaveWorked family fits board ended =
      race_worked may_call may_stop limit n (record { stamp = first_stamp; item = opening })
      scripts board passes lanes before after ended new are
      same ran end in
      let run : AreOfRun opening (logs_of ended) =
      subst (λ z. AreOfRun z (logs_of ended)) first (atomic_run family fits board ended last worked atomic) in
      let seen : items checked ≡ logs_of ended = ap items those ∙ given in
      let sound : origin ≡ Sound = finds (subst (AreOfRun opening) (sym seen) run) in
      let tell : tasks ≡ counts_in family ended =
      counts ∙ (ap (map (λ (v : Vec (Entry Band) Global). counts_of v.items)) these ∙ counts_same logs ended given) in
      let unbroken : broken ≡ None = told ∙ ap broken_at sound in
      record {
        board = board;
        passes = passes;
        lanes = lanes;
        ended = ended;
        last = last;
        new = subst (λ m. IsNew family fits m limit (record { stamp = first_stamp; item = opening }) board passes) count new;
        begins = are;
        ran = subst (λ z. EachStep (Ran family fits may_call may_stop board) 0 z ended) same
            (subst (λ z. EachStep (Ran family fits may_call may_stop board) 0 before z) (sym end) ran);
        greatest = greatest;
        atomic = atomic;
        ordered = subst (λ z. LogsInOrder z limit (logs_of ended) last) first
            (subst (λ z. LogsInOrder board.first.item z (logs_of ended) last) new.limited ordered);
        checked = subst (IsOrigin same_band opening (logs_of ended)) sound (subst (λ ls. IsOrigin same_band opening ls origin) seen found);
        told = rw (tell, unbroken) refl;
      }

  -- a race is one under a gate that permits all
  pub open_race : (may_call may_stop : ℕ → ℕ → Type 0) (opening : Band) (limit : ℕ) (scripts : List (List (Wish Band))) (report : Report)
      → IsRace family may_call may_stop opening limit scripts report
      → IsRace family (λ task call. Unit {0}) may_stop opening limit scripts report
  open_race may_call may_stop opening limit scripts report h = record {
    board = h.board;
    passes = h.passes;
    lanes = h.lanes;
    ended = h.ended;
    last = h.last;
    new = h.new;
    begins = h.begins;
    ran = record {
      lengths = h.ran.lengths;
      each = λ k old new at at'.
          let w = h.ran.each k old new at at' in
          record {
            of = w.of;
            is = w.is;
            script = w.script;
            added = w.added;
            log = w.log;
            calls = w.calls;
            asked = λ call above below. tt;
            whole = w.whole;
          };
    };
    greatest = h.greatest;
    atomic = h.atomic;
    ordered = h.ordered;
    checked = h.checked;
    told = h.told;
  }
