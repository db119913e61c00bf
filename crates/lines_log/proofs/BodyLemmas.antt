-- Line by line: what is left of the body becomes shorter, and what was read longer.
use Rattle.std.proofs.Common.{◌≡◌, ℕ, List, [], ◌∷◌, ◌++◌, length, refl, ap, sym, ◌∙◌, arith, subst, Some, None, Option, Ok, Result, Err}
use Rattle.std.proofs.Common.{Bool, true, false, append_assoc}
use Rattle.std.specs.Prelude.{◌==◌, ◌||◌, not, if◌then◌else◌}
use Rattle.std.proofs.lemmas.List.{append-nil}
use Rattle.read_document.specs.declared.refusal.DocError.{DocError}
use Rattle.read_document.specs.declared.refusal.DocError.TheVariants.{Law, Missing}
use Rattle.read_document.specs.declared.key.Key.TheVariants as key
use Rattle.history_core.specs.declared.history.Op.{Op}
use Rattle.read_document.specs.Refusals.{◌>>=◌}
use Rattle.program_runs.specs.declared.fault.Fault.{Fault}
use Rattle.text_lines.specs.Splits.{in_front, lines_of}
use Rattle.read_line.specs.Lines.{done, LineEntry, entry_of, Head, head_of, operation}
use Rattle.lines_log.specs.Faults.{IsBodyFault, is_end, is_last, IsLineFault}
use Rattle.lines_log.specs.Logs.{AreAll, AreLines, first_key, IsLinesLog, is_refused, judged, judged_line, LineRule, rule_in, same_key}
use Rattle.lines_log.specs.Logs.{text_of}
use Rattle.std.specs.Prelude.{MatchOption, is_some, unwrap_or}
use Rattle.history_thinning.specs.Thinnings.{IsThinnedLog}
use Rattle.kept_lines.specs.declared.lines_log.LinesLog.{LinesLog}
use Rattle.lines_log.specs.inner.Readings.{IsFinished, AreRead, HasRest, IsReadWhole, IsPartlyRead, ReadsLine, rule_of}
use Rattle.lines_log.specs.declared.reader.Reader.{Reader}

-- with lines behind it a line is no end
abbrev judged_inside : LineRule → ℕ → Result LineEntry DocError → Result (Option (Op (List ℕ))) DocError
judged_inside rule count entry = entry >>= judged rule count false

never : (rule : LineRule) (count : ℕ) (entry : Result LineEntry DocError) → judged_inside rule count entry ≡ Ok None → ⊥
never rule count (Err why) h = cc
never rule count (Ok (done ops)) h = cc
never rule count (Ok (operation o)) h = by_tests (same_key rule.key o.key) (rule.limited || not (is_refused o.op.kind)) h
  where
    by_tests : (same allowed : Bool)
        → (if same then (if allowed then Ok (Some o.op) else Err (Missing key.Limit)) else Err (Law key.Key)) ≡ Ok None → ⊥
    by_tests true true e = cc
    by_tests true false e = cc
    by_tests false allowed e = cc

-- only the last line ends a log
pub ends_last : (rule : LineRule) (last : Bool) (count : ℕ) (line : List ℕ) → judged_line rule count last line ≡ Ok None → last ≡ true
ends_last rule true count line is = refl
ends_last rule false count line is = absurd (never rule count (entry_of line) is)

pub end_is : (rest : List ℕ) → is_end rest ≡ true → rest ≡ []
end_is [] e = refl
end_is (x ∷ xs) e = cc

-- where nothing is left no line is
pub last_of_rest : (rest : List ℕ) → is_last (lines_of rest) ≡ is_end rest
last_of_rest [] = refl
last_of_rest (x ∷ xs) = by_feed (x == 10)
  where
    of_front : (ls : List (List ℕ)) → is_last (in_front x ls) ≡ false
    of_front [] = refl
    of_front (l ∷ ls) = refl

    by_feed : (b : Bool) → is_last (if b then [] ∷ lines_of xs else in_front x (lines_of xs)) ≡ false
    by_feed true = refl
    by_feed false = of_front (lines_of xs)

pub begun : (opening : List ℕ) (body : List ℕ) (reader : Reader) → AreRead opening [] reader
    → IsPartlyRead opening (rule_of reader) false (lines_of body) body reader
begun opening body reader read = record { lines = []; read = read; limits = refl; left = refl }

pub none_left : (rest line behind : List ℕ) → lines_of rest ≡ line ∷ lines_of behind → rest ≡ [] → ⊥
none_left [] line behind split none = cc
none_left (x ∷ xs) line behind split none = cc

pub one_more : (opening : List ℕ) (rule : LineRule) (before : Bool) (body : List (List ℕ)) (rest line behind : List ℕ) (old new : Reader)
    (ended : Bool) → IsPartlyRead opening rule before body rest old → lines_of rest ≡ line ∷ lines_of behind
    → ((lines : List (List ℕ)) → AreRead opening lines old → ReadsLine opening lines line (is_end behind) old new ended)
    → rule_of new ≡ rule_of old → IsPartlyRead opening rule ended body behind new
one_more opening rule before body rest line behind old new ended way split reads same =
    by_line ended (at_line before way.left) (reads way.lines way.read)
  where
    at_line : (b : Bool) → HasRest rule b body way.lines rest → body ≡ way.lines ++ line ∷ lines_of behind
    at_line false going = going ∙ ap (λ (l : List (List ℕ)). way.lines ++ l) split
    at_line true over = absurd (none_left rest line behind split over.0)

    by_line : (b : Bool) → body ≡ way.lines ++ line ∷ lines_of behind → ReadsLine opening way.lines line (is_end behind) old new b
        → IsPartlyRead opening rule b body behind new
    by_line false here more = record {
      lines = way.lines ++ line ∷ [];
      read = more;
      limits = same ∙ way.limits;
      left = here ∙ sym (append_assoc way.lines (line ∷ []) (lines_of behind));
    }
    by_line true here over =
        let at_end : is_end behind ≡ true = ends_last (rule_of old) (is_end behind) (length way.lines) line over.1 in
        let nothing : behind ≡ [] = end_is behind at_end in
        let judged_last : judged_line rule (length way.lines) true line ≡ Ok None =
        subst (λ (b : LineRule). judged_line b (length way.lines) true line ≡ Ok None) way.limits
        (subst (λ (b : Bool). judged_line (rule_of old) (length way.lines) b line ≡ Ok None) at_end over.1) in
        record {
          lines = way.lines;
          read = over.0;
          limits = same ∙ way.limits;
          left = (nothing, (line, here ∙ ap (λ (l : List ℕ). way.lines ++ line ∷ lines_of l) nothing, judged_last));
        }

pub all_read : (opening : List ℕ) (rule : LineRule) (ended : Bool) (body : List (List ℕ)) (rest : List ℕ) (reader : Reader) → rest ≡ []
    → IsPartlyRead opening rule ended body rest reader → IsReadWhole opening body reader ended
all_read opening rule ended body rest reader none way = record {
  lines = way.lines;
  read = way.read;
  all = subst (λ (b : LineRule). AreAll b ended body way.lines) (sym way.limits) (whole ended way.left);
}
  where
    whole : (b : Bool) → HasRest rule b body way.lines rest → AreAll rule b body way.lines
    whole false going = going ∙ ap (λ (l : List ℕ). way.lines ++ lines_of l) none ∙ append-nil way.lines
    whole true over = over.1

pub at_fault : (opening : List ℕ) (rule : LineRule) (ended : Bool) (body : List (List ℕ)) (rest line behind : List ℕ)
    (reader : Reader) (f : Fault)
    → IsPartlyRead opening rule ended body rest reader → lines_of rest ≡ line ∷ lines_of behind
    → ((lines : List (List ℕ)) → AreRead opening lines reader → IsLineFault opening (rule_of reader) lines line (is_end behind) f)
    → IsBodyFault opening rule body f
at_fault opening rule ended body rest line behind reader f way split wrong = fill (at_line ended way.left)
  where
    at_line : (b : Bool) → HasRest rule b body way.lines rest → body ≡ way.lines ++ line ∷ lines_of behind
    at_line false going = going ∙ ap (λ (l : List (List ℕ)). way.lines ++ l) split
    at_line true over = absurd (none_left rest line behind split over.0)

    fill : body ≡ way.lines ++ line ∷ lines_of behind → IsBodyFault opening rule body f
    fill here = record {
      lines = way.lines;
      line = line;
      behind = lines_of behind;
      split = here;
      records = way.read.records;
      log = way.read.log;
      are = subst (λ (b : LineRule). AreLines b way.lines way.read.records way.read.log) way.limits way.read.are;
      opened = way.read.opened;
      distinct = way.read.numbered.distinct;
      turns = way.read.tasks.turn;
      once = way.read.kept.kept.once;
      wrong = subst (λ (b : Bool). IsLineFault opening rule way.lines line b f) (sym (last_of_rest behind))
          (subst (λ (b : LineRule). IsLineFault opening b way.lines line (is_end behind) f) way.limits (wrong way.lines way.read));
    }

-- nothing was found, so what holds of nothing holds
pub none_found : {X : Type 0} {P : Type 0} (Q : X → Type 0) (o : Option X) → MatchOption o P Q → ((x : X) → o ≡ Some x → ⊥) → P
none_found Q None h none = h
none_found Q (Some x) h none = absurd (none x refl)

-- a rule with the limit of the header and the key of the first line
pub same_rule : (head : Head) (body : List (List ℕ)) (key : Option (List ℕ)) (rule : LineRule)
    → rule ≡ record { limited = is_some head.limit; key = key } → key ≡ first_key body → rule ≡ rule_in head body
same_rule head body key rule is first =
    let of_key : Option (List ℕ) → LineRule = λ k. record { limited = is_some head.limit; key = k } in is ∙ ap of_key first

-- what was read is the log
pub assembled : (bytes text first body : List ℕ) (head : Head) (limit : ℕ) (ended : Bool) (reader : Reader) (log : LinesLog)
    → text ≡ text_of bytes → lines_of text ≡ first ∷ lines_of body → head_of first ≡ Ok head → rule_of reader ≡ rule_in head (lines_of body)
    → IsReadWhole head.opening (lines_of body) reader ended → limit ≡ unwrap_or head.limit 1 → IsFinished limit ended reader log
    → (ops : List (Op ℕ)) × IsLinesLog bytes ops log
assembled bytes text first body head limit ended reader log is_text split said rule whole limit_is finished =
    let records = whole.read.records in
    let ops : List (Op ℕ) = whole.read.log in (
      ops,
      record {
        head = head;
        records = records;
        is = record {
          header = first;
          body = lines_of body;
          lines = whole.lines;
          split = ap lines_of (sym is_text) ∙ split;
          said = said;
          ended = ended;
          all = subst (λ (b : LineRule). AreAll b ended (lines_of body) whole.lines) rule whole.all;
          are = subst (λ (b : LineRule). AreLines b whole.lines records ops) rule whole.read.are;
          opening = whole.read.opened;
          distinct = whole.read.numbered.distinct;
          turns = whole.read.tasks.turn;
        };
        thinned = subst (λ (n : ℕ). IsThinnedLog n ops log.thinned) limit_is (finished.thinned ops whole.read.kept);
        ops = finished.ops ∙ whole.read.count;
        unfinished = finished.unfinished ∙ whole.read.unfinished;
        count = finished.count records whole.read.numbered;
        given = finished.given ops whole.read.reads;
        ended = finished.ended;
      },
    )
