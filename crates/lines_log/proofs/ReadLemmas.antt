-- One more line: its operation stands behind the others, with the number of its record.
use Rattle.std.proofs.Common.{◌≡◌, ℕ, ◌<◌, List, [], ◌∷◌, ◌++◌, length, refl, ap, sym, ◌∙◌, arith, subst, slice_get, Some, None, Option, Ok}
use Rattle.std.proofs.Common.{rules, Bool, true, cond, ◌⊎◌, inl, inr, length-append, string_bytes, ◌+◌, ◌≤◌}
use Rattle.std.specs.Prelude.{IfSome, option_map, if◌then◌else◌, is_none, is_some, IsSome, ◌||◌, String}
use Rattle.std.specs.declared.alloc.Global.{Global}
use Rattle.std.proofs.lemmas.List.Sums.{count_by-le-length, sum_by-append}
use Rattle.std.proofs.lemmas.Option.{same_Some, slice_get_within}
use Rattle.history_core.specs.declared.history.Kind.{Kind}
use Rattle.history_core.specs.declared.history.Kind.TheVariants.{Write, Read, Refused}
use Rattle.history_core.specs.Orders.{is_write}
use Rattle.history_core.specs.Reasons.{counts}
use Rattle.history_thinning.specs.inner.Kept.{IsThinning}
use Rattle.program_runs.specs.declared.fault.Fault.{Fault}
use Rattle.program_runs.specs.declared.fault.Fault.TheVariants.{NoMemory}
use Rattle.history_core.specs.declared.reason.SearchError.{SearchError}
use Rattle.history_thinning.specs.Answers.{IsThinnedFault}
use Rattle.history_core.proofs.Places.{get_pushed_cases}
use Rattle.history_core.specs.declared.history.Op.{Op}
use Rattle.kept_lines.specs.Numbered.{AreNumbered}
use Rattle.kept_lines.specs.declared.numbers.RecordNumbers.{RecordNumbers}
use Rattle.kept_lines.specs.Tasks.{KnowsTasks, Overlap}
use Rattle.read_line.specs.Lines.{ends_later, has_record, IsAllowed, op_seen}
use Rattle.read_line.specs.declared.line.LineOp.{LineOp}
use Rattle.lines_log.specs.Faults.{IsLineFault, IsOverlap, told_of}
use Rattle.kept_lines.specs.Reads.{KnowsReads}
use Rattle.text_lines.specs.Places.{line_at}
use Rattle.lines_log.specs.Logs.{AreLines, IsItem, IsNumberedOp, judged_line, LineRule, unfinished_in}
use Rattle.lines_log.specs.inner.Numbers.{Grow, IsNumberedNow}
use Rattle.lines_log.specs.inner.Readings.{IsEntryFault, AreRead, rule_of}
use Rattle.lines_log.specs.declared.reader.Reader.{Reader}

grown_item : (records after : List (List ℕ)) → Grow records after → (said : Option (List ℕ)) (item : Option ℕ) → IsItem records said item
    → IsItem after said item
grown_item records after grows None None is = tt
grown_item records after grows None (Some n) is = is
grown_item records after grows (Some text) None is = is
grown_item records after grows (Some text) (Some n) is = grows n text is

grown_op : (records after : List (List ℕ)) → Grow records after → (said : Op (List ℕ)) (op : Op ℕ) → IsNumberedOp records said op
    → IsNumberedOp after said op
grown_op records after grows said op is = record {
  who = is.who;
  kind = is.kind;
  starts = is.starts;
  ends = is.ends;
  item = grown_item records after grows said.item op.item is.item;
}

pub more_lines : (rule : LineRule) (lines records after : List (List ℕ)) (line : List ℕ)
    (last : Bool) (log : List (Op ℕ)) (said : Op (List ℕ))
    (next : Op ℕ) → AreLines rule lines records log → Grow records after → judged_line rule (length lines) last line ≡ Ok (Some said)
    → IsNumberedOp after said next → AreLines rule (lines ++ line ∷ []) after (log ++ next ∷ [])
more_lines rule lines records after line last log said next are grows judged is = record {
  long = omega (arith, length-append log (next ∷ []), length-append lines (line ∷ []), are.long);
  each = λ p l o at_l at_o. by_places p l o (get_pushed_cases lines line p l at_l) (get_pushed_cases log next p o at_o);
}
  where
    by_places : (p : ℕ) (l : List ℕ) (o : Op ℕ) → (slice_get lines p ≡ Some l) ⊎ ((p ≡ length lines) × (line ≡ l))
        → (slice_get log p ≡ Some o) ⊎ ((p ≡ length log) × (next ≡ o))
        → (was : Op (List ℕ)) × (at_end : Bool) × (judged_line rule p at_end l ≡ Ok (Some was)) × IsNumberedOp after was o
    by_places p l o (inl old) (inl also) =
        let here = are.each p l o old also in
        (here.0, here.1, here.2, grown_op records after grows here.0 o here.3)
    by_places p l o (inl old) (inr new) =
        absurd (let within : p < length lines = slice_get_within lines p l old in omega (arith, within, new.0, are.long))
    by_places p l o (inr new) (inl old) =
        absurd (let within : p < length log = slice_get_within log p o old in omega (arith, within, new.0, are.long))
    by_places p l o (inr new) (inr also) =
        let at_place : judged_line rule p last line ≡ Ok (Some said) =
        subst (λ (n : ℕ). judged_line rule n last line ≡ Ok (Some said)) (sym new.0) judged in
        let at_line : judged_line rule p last l ≡ Ok (Some said) =
        subst (λ (k : List ℕ). judged_line rule p last k ≡ Ok (Some said)) new.1 at_place in
        (said, last, at_line, subst (λ (k : Op ℕ). IsNumberedOp after said k) also.1 is)

from_zero : (n : ℕ) → 0 + n ≡ n
from_zero n = omega arith

one_unfinished : (log : List (Op ℕ)) (next : Op ℕ) → unfinished_in (log ++ next ∷ [])
    ≡ unfinished_in log + (if is_none next.ends then 1 else 0)
one_unfinished log next =
    sum_by-append (λ (o : Op ℕ). cond (is_none o.ends) 1 0) log (next ∷ [])
    ∙ ap (λ (n : ℕ). unfinished_in log + n) (from_zero (if is_none next.ends then 1 else 0))

-- fewer are unfinished than there are
pub few_unfinished : (log : List (Op ℕ)) → unfinished_in log ≤ length log
few_unfinished log = count_by-le-length (λ (o : Op ℕ). is_none o.ends) log

-- an operation was entered
pub entered : (opening : List ℕ) (lines : List (List ℕ)) (line : List ℕ) (last : Bool) (old new : Reader) (said : Op (List ℕ)) (next : Op ℕ)
    → (read : AreRead opening lines old) → judged_line (rule_of old) (length lines) last line ≡ Ok (Some said) → rule_of new ≡ (rule_of old)
    → ((records : List (List ℕ)) → AreNumbered records old.numbers → IsNumberedNow records said new.numbers next)
    → (KnowsTasks read.log old.turns → KnowsTasks (read.log ++ next ∷ []) new.turns)
    → (IsThinning read.log old.thinner → IsThinning (read.log ++ next ∷ []) new.thinner)
    → (KnowsReads read.log old.reads → KnowsReads (read.log ++ next ∷ []) new.reads)
    → new.count ≡ old.count + 1 → new.unfinished ≡ old.unfinished + (if is_none next.ends then 1 else 0)
    → AreRead opening (lines ++ line ∷ []) new
entered opening lines line last old new said next read judged limits numbered turns thins gives count unfinished =
    let now = numbered read.records read.numbered in
    let are : AreLines (rule_of old) (lines ++ line ∷ []) now.after (read.log ++ next ∷ []) =
    more_lines (rule_of old) lines read.records now.after line last read.log said next read.are now.grows judged now.is in
    record {
      records = now.after;
      log = read.log ++ next ∷ [];
      are = subst (λ (b : LineRule). AreLines b (lines ++ line ∷ []) now.after (read.log ++ next ∷ [])) (sym limits) are;
      numbered = now.numbered;
      opened = now.grows 0 opening read.opened;
      tasks = turns read.tasks;
      kept = thins read.kept;
      count = omega (arith, count, read.count, length-append read.log (next ∷ []));
      unfinished = unfinished ∙ ap (λ (n : ℕ). n + (if is_none next.ends then 1 else 0)) read.unfinished
          ∙ sym (one_unfinished read.log next);
      reads = gives read.reads;
    }

pub entry_fault : (log : List (Op ℕ)) (error : SearchError) (f : Fault) → IsThinnedFault log error → (f ≡ NoMemory) ⊎ (f ≡ told_of error)
    → IsEntryFault log f
entry_fault log error f stands (inl none) = inl none
entry_fault log error f stands (inr told) = inr (error, stands, told)

-- with the operation the log can't be searched
pub repeated : (opening : List ℕ) (lines : List (List ℕ)) (line : List ℕ) (last : Bool) (old : Reader) (numbers : RecordNumbers)
    (said : Op (List ℕ)) (next : Op ℕ) (f : Fault) → (read : AreRead opening lines old)
    → judged_line (rule_of old) (length lines) last line ≡ Ok (Some said)
    → ((records : List (List ℕ)) → AreNumbered records old.numbers → IsNumberedNow records said numbers next)
    → IsEntryFault (read.log ++ next ∷ []) f → IsLineFault opening (rule_of old) lines line last f
repeated opening lines line last old numbers said next f read judged numbered (inl none) = inl none
repeated opening lines line last old numbers said next f read judged numbered (inr fault) =
    let now = numbered read.records read.numbered in
    inr (inr (inr (record {
      records = now.after;
      log = read.log ++ next ∷ [];
      error = fault.0;
      are = more_lines (rule_of old) lines read.records now.after line last read.log said next read.are now.grows judged now.is;
      opened = now.grows 0 opening read.opened;
      distinct = now.numbered.distinct;
      stands = fault.1;
      told = fault.2;
    })))

has_item : (kind : Kind) (ends : Option ℕ) (said : Option (List ℕ)) (records : List (List ℕ)) (item : Option ℕ)
    → has_record kind ends (is_some said) ≡ true → IsItem records said item → (is_some ends || is_write kind) ≡ true → IsSome item
has_item kind ends said records (Some n) may is counted = refl
has_item kind ends (Some text) records None may is counted = absurd is
has_item kind (Some end) None records None may is counted = cc
has_item Write None None records None may is counted = cc
has_item Read None None records None may is counted = cc
has_item Refused None None records None may is counted = cc

as_there : (o : Option (String Global)) → is_some (option_map string_bytes o) ≡ is_some o
as_there None = refl
as_there (Some text) = refl

-- an operation that counts has a record
pub item_there : (records : List (List ℕ)) (o : LineOp) (op : Op ℕ) → IsAllowed o → IsNumberedOp records (op_seen o) op → counts op ≡ true
    → IsSome op.item
item_there records o op may is counted =
    has_item o.kind o.end (option_map string_bytes o.«record») records op.item
    (ap (has_record o.kind o.end) (as_there o.«record») ∙ may.recorded) is.item
    (ap (λ (e : Option ℕ). is_some e || is_write o.kind) (sym is.ends) ∙ ap (λ (k : Kind). is_some op.ends || is_write k) (sym is.kind)
    ∙ counted)

later : (begin : ℕ) (ends : Option ℕ) → ends_later begin ends ≡ true → IfSome ends (λ end. begin ≤ end)
later begin None is = tt
later begin (Some end) is = search rules

-- an operation doesn't end before it begins
pub in_order : (records : List (List ℕ)) (o : LineOp) (op : Op ℕ) → IsAllowed o → IsNumberedOp records (op_seen o) op
    → IfSome op.ends (λ end. op.starts ≤ end)
in_order records o op may is = later op.starts op.ends
    (ap (λ (b : ℕ). ends_later b op.ends) is.starts ∙ ap (ends_later o.begin) is.ends ∙ may.forwards)

-- an operation overlaps one of its task
pub overlapped : (opening : List ℕ) (lines : List (List ℕ)) (line : List ℕ) (last : Bool) (old : Reader) (numbers : RecordNumbers)
    (said : Op (List ℕ)) (next : Op ℕ) (place first second : ℕ) → (read : AreRead opening lines old)
    → judged_line (rule_of old) (length lines) last line ≡ Ok (Some said)
    → ((records : List (List ℕ)) → AreNumbered records old.numbers → IsNumberedNow records said numbers next)
    → Overlap read.log next place → first ≡ line_at place → second ≡ line_at (length read.log)
    → IsOverlap (rule_of old) lines line next.who first second
overlapped opening lines line last old numbers said next place first second read judged numbered overlap at_first at_second =
    let now = numbered read.records read.numbered in
    record {
      records = now.after;
      log = read.log;
      next = next;
      place = place;
      are = more_lines (rule_of old) lines read.records now.after line last read.log said next read.are now.grows judged now.is;
      task = refl;
      overlap = overlap;
      first_line = at_first;
      second_line = at_second;
    }

-- what was said of a line at a place, at the number of the lines before it
pub judged_as : (rule : LineRule) (place count : ℕ) (last : Bool) (bytes : List ℕ) (found : Option LineOp) (op : LineOp)
    → judged_line rule place last bytes ≡ Ok (option_map op_seen found) → found ≡ Some op → place ≡ count
    → judged_line rule count last bytes ≡ Ok (Some (op_seen op))
judged_as rule place count last bytes found op said is same =
    subst (λ (n : ℕ). judged_line rule n last bytes ≡ Ok (Some (op_seen op))) same
    (said ∙ ap (λ (o : Option LineOp). Ok (option_map op_seen o)) is)

-- what was said of the end at a place, at the number of the lines before it
pub ended_as : (rule : LineRule) (place count : ℕ) (last : Bool) (bytes : List ℕ) (found : Option LineOp)
    → judged_line rule place last bytes ≡ Ok (option_map op_seen found) → found ≡ None → place ≡ count
    → judged_line rule count last bytes ≡ Ok None
ended_as rule place count last bytes found said is same =
    subst (λ (n : ℕ). judged_line rule n last bytes ≡ Ok None) same
    (said ∙ ap (λ (o : Option LineOp). Ok (option_map op_seen o)) is)
