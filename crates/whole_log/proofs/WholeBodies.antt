-- Line by line: what was read becomes longer, and at last it is the log.
use Rattle.std.proofs.Common.{◌≡◌, ℕ, List, [], ◌∷◌, ◌++◌, length, refl, ap, sym, ◌∙◌, subst, Some, None, Option, Ok, Bool, true, false}
use Rattle.std.proofs.Common.{append_assoc}
use Rattle.std.specs.Prelude.{option_map}
use Rattle.std.proofs.lemmas.List.{append-nil}
use Rattle.history_core.specs.declared.history.Op.{Op}
use Rattle.text_lines.specs.Splits.{lines_of}
use Rattle.read_line.specs.Lines.{Head, head_of, op_seen}
use Rattle.kept_lines.specs.Numbered.{AreNumbered}
use Rattle.kept_lines.specs.Reads.{KnowsReads, WereRead}
use Rattle.kept_lines.specs.Tasks.{KnowsTasks, TakeTurns}
use Rattle.read_line.specs.declared.line.LineOp.{LineOp}
use Rattle.lines_log.specs.Faults.{is_end}
use Rattle.lines_log.specs.Logs.{AreAll, AreLines, judged_line, LineRule, rule_in, text_of, unfinished_in}
use Rattle.lines_log.specs.inner.Numbers.{IsNumberedNow}
use Rattle.lines_log.specs.inner.Readings.{HasRest}
use Rattle.lines_log.proofs.BodyLemmas.{end_is, ends_last}
use Rattle.lines_log.proofs.ReadLemmas.{more_lines}
use Rattle.whole_log.specs.WholeLogs.{IsWholeLog}
use Rattle.whole_log.specs.inner.WholeReadings.{AreWholeRead, IsWholeBody, IsWholeGiven, IsWholeSoFar, ReadsWholeLine, whole_rule}
use Rattle.whole_log.specs.declared.reader.Reader.{Reader}
use Rattle.whole_log.specs.declared.whole_log.WholeLog.{WholeLog}

-- an operation was entered
pub entered : (opening : List ℕ) (lines : List (List ℕ)) (line : List ℕ) (last : Bool) (old new : Reader) (said : Op (List ℕ)) (next : Op ℕ)
    → (read : AreWholeRead opening lines old) → judged_line (whole_rule old) (length lines) last line ≡ Ok (Some said)
    → whole_rule new ≡ whole_rule old
    → ((records : List (List ℕ)) → AreNumbered records old.numbers → IsNumberedNow records said new.numbers next)
    → KnowsTasks (old.ops.items ++ next ∷ []) new.turns → KnowsReads (old.ops.items ++ next ∷ []) new.reads
    → new.ops.items ≡ old.ops.items ++ next ∷ [] → AreWholeRead opening (lines ++ line ∷ []) new
entered opening lines line last old new said next read judged limits numbered tasks reads pushed =
    let now = numbered read.records read.numbered in
    let are : AreLines (whole_rule old) (lines ++ line ∷ []) now.after (old.ops.items ++ next ∷ []) =
    more_lines (whole_rule old) lines read.records now.after line last old.ops.items said next read.are now.grows judged now.is in
    let at_rule : AreLines (whole_rule new) (lines ++ line ∷ []) now.after (old.ops.items ++ next ∷ []) =
    subst (λ (b : LineRule). AreLines b (lines ++ line ∷ []) now.after (old.ops.items ++ next ∷ [])) (sym limits) are in
    record {
      records = now.after;
      are = subst (λ (l : List (Op ℕ)). AreLines (whole_rule new) (lines ++ line ∷ []) now.after l) (sym pushed) at_rule;
      numbered = now.numbered;
      opened = now.grows 0 opening read.opened;
      tasks = subst (λ (l : List (Op ℕ)). KnowsTasks l new.turns) (sym pushed) tasks;
      reads = subst (λ (l : List (Op ℕ)). KnowsReads l new.reads) (sym pushed) reads;
    }

-- what was said of a line at a place, at the number of the lines before it
pub judged_as : (rule : LineRule) (place count : ℕ) (last : Bool) (bytes : List ℕ) (found : Option LineOp) (op : LineOp)
    → judged_line rule place last bytes ≡ Ok (option_map op_seen found) → found ≡ Some op → place ≡ count
    → judged_line rule count last bytes ≡ Ok (Some (op_seen op))
judged_as rule place count last bytes found op said is same =
    subst (λ (n : ℕ). judged_line rule n last bytes ≡ Ok (Some (op_seen op))) same
    (said ∙ ap (λ (o : Option LineOp). Ok (option_map op_seen o)) is)

pub begun : (opening : List ℕ) (body : List ℕ) (reader : Reader) → AreWholeRead opening [] reader
    → IsWholeSoFar opening (whole_rule reader) false (lines_of body) body reader
begun opening body reader read = record { lines = []; read = read; limits = refl; left = refl }

none_left : (rest line : List ℕ) (lines : List (List ℕ)) → lines_of rest ≡ line ∷ lines → rest ≡ [] → ⊥
none_left [] line lines split none = cc
none_left (x ∷ xs) line lines split none = cc

pub one_more : (opening : List ℕ) (rule : LineRule) (before : Bool) (body : List (List ℕ)) (rest line behind : List ℕ) (old new : Reader)
    (ended : Bool) → IsWholeSoFar opening rule before body rest old → lines_of rest ≡ line ∷ lines_of behind
    → ((lines : List (List ℕ)) → AreWholeRead opening lines old → ReadsWholeLine opening lines line (is_end behind) old new ended)
    → whole_rule new ≡ whole_rule old → IsWholeSoFar opening rule ended body behind new
one_more opening rule before body rest line behind old new ended way split reads same =
    by_line ended (at_line before way.left) (reads way.lines way.read)
  where
    at_line : (b : Bool) → HasRest rule b body way.lines rest → body ≡ way.lines ++ line ∷ lines_of behind
    at_line false going = going ∙ ap (λ (l : List (List ℕ)). way.lines ++ l) split
    at_line true over = absurd (none_left rest line (lines_of behind) split over.0)

    by_line : (b : Bool) → body ≡ way.lines ++ line ∷ lines_of behind → ReadsWholeLine opening way.lines line (is_end behind) old new b
        → IsWholeSoFar opening rule b body behind new
    by_line false here more = record {
      lines = way.lines ++ line ∷ [];
      read = more;
      limits = same ∙ way.limits;
      left = here ∙ sym (append_assoc way.lines (line ∷ []) (lines_of behind));
    }
    by_line true here over =
        let at_end : is_end behind ≡ true = ends_last (whole_rule old) (is_end behind) (length way.lines) line over.1 in
        let nothing : behind ≡ [] = end_is behind at_end in
        let judged_last : judged_line rule (length way.lines) true line ≡ Ok None =
        subst (λ (b : LineRule). judged_line b (length way.lines) true line ≡ Ok None) way.limits
        (subst (λ (b : Bool). judged_line (whole_rule old) (length way.lines) b line ≡ Ok None) at_end over.1) in
        record {
          lines = way.lines;
          read = over.0;
          limits = same ∙ way.limits;
          left = (nothing, (line, here ∙ ap (λ (l : List ℕ). way.lines ++ line ∷ lines_of l) nothing, judged_last));
        }

pub all_read : (opening : List ℕ) (rule : LineRule) (ended : Bool) (body : List (List ℕ)) (rest : List ℕ) (reader : Reader) → rest ≡ []
    → IsWholeSoFar opening rule ended body rest reader → IsWholeBody opening body reader ended
all_read opening rule ended body rest reader none way = record {
  lines = way.lines;
  read = way.read;
  all = subst (λ (b : LineRule). AreAll b ended body way.lines) (sym way.limits) (whole ended way.left);
}
  where
    whole : (b : Bool) → HasRest rule b body way.lines rest → AreAll rule b body way.lines
    whole false going = going ∙ ap (λ (l : List ℕ). way.lines ++ lines_of l) none ∙ append-nil way.lines
    whole true over = over.1

-- what was read is the log
pub assembled : (bytes text first body : List ℕ) (head : Head) (ended : Bool) (reader : Reader) (log : WholeLog)
    → text ≡ text_of bytes → lines_of text ≡ first ∷ lines_of body → head_of first ≡ Ok head
    → whole_rule reader ≡ rule_in head (lines_of body) → IsWholeBody head.opening (lines_of body) reader ended
    → IsWholeGiven ended reader log → IsWholeLog bytes log
assembled bytes text first body head ended reader log is_text split said rule whole given =
    let records = whole.read.records in
    let ops : log.ops.items ≡ reader.ops.items = ap (λ v. v.items) given.ops in
    let are : AreLines (whole_rule reader) whole.lines records log.ops.items =
    subst (λ (l : List (Op ℕ)). AreLines (whole_rule reader) whole.lines records l) (sym ops) whole.read.are in
    record {
      head = head;
      records = records;
      is = record {
        header = first;
        body = lines_of body;
        lines = whole.lines;
        split = ap lines_of (sym is_text) ∙ split;
        said = said;
        ended = ended;
        all = subst (λ (b : LineRule). AreAll b ended (lines_of body) whole.lines) rule whole.all;
        are = subst (λ (b : LineRule). AreLines b whole.lines records log.ops.items) rule are;
        opening = whole.read.opened;
        distinct = whole.read.numbered.distinct;
        turns = subst (λ (l : List (Op ℕ)). TakeTurns l) (sym ops) whole.read.tasks.turn;
      };
      unfinished = given.unfinished ∙ ap unfinished_in (sym ops);
      count = given.count records whole.read.numbered;
      given = subst (λ (l : List (Op ℕ)). WereRead l log.read) (sym ops) (given.given whole.read.reads);
      ended = given.ended;
    }
