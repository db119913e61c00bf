-- Line by line: what is left of the body becomes shorter, and what was read longer.
use Rattle.std.proofs.Common.{◌≡◌, ◌≢◌, ℕ, List, [], ◌∷◌, ◌++◌, length, refl, ap, sym, ◌∙◌, subst, Some, None, Option, Ok, Err}
use Rattle.std.proofs.Common.{Bool, true, false, ◌⊎◌, ◌||◌, not, inl, inr, append_assoc, is_some, Result}
use Rattle.std.specs.Prelude.{if◌then◌else◌}
use Rattle.std.proofs.lemmas.List.{append-nil}
use Rattle.object_core.specs.declared.operation.Operation.{Operation}
use Rattle.object_registers.specs.declared.exchanging.Exchange.{Exchange}
use Rattle.read_document.specs.declared.refusal.DocError.{DocError}
use Rattle.read_document.specs.declared.refusal.DocError.TheVariants.{Law, Missing, NoMemory}
use Rattle.read_document.specs.declared.key.Key.TheVariants as key
use Rattle.read_document.specs.Refusals.{◌>>=◌}
use Rattle.text_lines.specs.Splits.{lines_of}
use Rattle.program_runs.specs.declared.fault.Fault.{Fault}
use Rattle.lines_log.specs.Faults.{is_end, refused_at}
use Rattle.read_line.specs.Lines.{Head, head_of}
use Rattle.lines_log.specs.Logs.{LineRule, same_key, text_of}
use Rattle.lines_log.proofs.BodyLemmas.{end_is, last_of_rest, none_left}
use Rattle.lines_log.proofs.FaultLemmas.{is_memory}
use Rattle.exchanges_log.proofs.NumberingLemmas.{distinct}
use Rattle.read_exchange.specs.Exchanges.{done, entry_of, ExchangeEntry, is_refusal, operation, SaidExchange}
use Rattle.exchanges_log.specs.ExchangeFaults.{IsExchangeFault, IsExchangesBodyFault, IsExchangesFault}
use Rattle.exchanges_log.specs.ExchangeLogs.{AreAllExchanges, AreExchangeLines, first_key, IsExchangesLog, judged, judged_line}
use Rattle.exchanges_log.specs.ExchangeLogs.{rule_in, uncertain_in, unfinished_in}
use Rattle.exchanges_log.specs.inner.ExchangeReadings.{AreExchangesFinished, AreExchangesRead, HasRestOf, IsBodyRead, IsBodyReadSoFar}
use Rattle.exchanges_log.specs.inner.ExchangeReadings.{rule_of, ReadsExchange}
use Rattle.exchanges_log.specs.declared.exchanges_log.ExchangesLog.{ExchangesLog}
use Rattle.exchanges_log.specs.declared.reader.Reader.{Reader}

-- with lines behind it a line is no end
abbrev judged_inside : LineRule → ℕ → Result ExchangeEntry DocError → Result (Option (Operation SaidExchange)) DocError
judged_inside rule count entry = entry >>= judged rule count false

never : (rule : LineRule) (count : ℕ) (entry : Result ExchangeEntry DocError) → judged_inside rule count entry ≡ Ok None → ⊥
never rule count (Err why) h = cc
never rule count (Ok (done ops)) h = cc
never rule count (Ok (operation o)) h = by_tests (same_key rule.key o.key) (rule.limited || not (is_refusal o.op.what)) h
  where
    by_tests : (same may : Bool) →
        (if same then (if may then Ok (Some o.op) else Err (Missing key.Limit)) else Err (Law key.Key)) ≡ Ok None → ⊥
    by_tests true true e = cc
    by_tests true false e = cc
    by_tests false may e = cc

-- only the last line ends a log
ends_last : (rule : LineRule) (last : Bool) (count : ℕ) (line : List ℕ) → judged_line rule count last line ≡ Ok None
    → last ≡ true
ends_last rule true count line is = refl
ends_last rule false count line is = absurd (never rule count (entry_of line) is)

-- so far a line behind what was read begins what is left
here_line : (rule : LineRule) (ended : Bool) (body lines : List (List ℕ)) (rest line behind : List ℕ)
    → lines_of rest ≡ line ∷ lines_of behind
    → HasRestOf rule ended body lines rest → body ≡ lines ++ line ∷ lines_of behind
here_line rule false body lines rest line behind split going = going ∙ ap (λ (l : List (List ℕ)). lines ++ l) split
here_line rule true body lines rest line behind split over = absurd (none_left rest line behind split over.0)

pub one_more : (opening : List ℕ) (rule : LineRule) (before : Bool) (body : List (List ℕ)) (rest line behind : List ℕ)
    (old new : Reader) (ended : Bool) → IsBodyReadSoFar opening rule before body rest old → lines_of rest ≡ line ∷ lines_of behind
    → ((lines : List (List ℕ)) → AreExchangesRead opening lines old → ReadsExchange opening lines line (is_end behind) old new ended)
    → rule_of new ≡ rule_of old → IsBodyReadSoFar opening rule ended body behind new
one_more opening rule before body rest line behind old new ended way split reads same =
    by_line ended (here_line rule before body way.lines rest line behind split way.left) (reads way.lines way.read)
  where
    by_line : (b : Bool) → body ≡ way.lines ++ line ∷ lines_of behind
        → ReadsExchange opening way.lines line (is_end behind) old new b → IsBodyReadSoFar opening rule b body behind new
    by_line false here more = record {
      lines = way.lines ++ line ∷ [];
      read = more;
      same = same ∙ way.same;
      left = here ∙ sym (append_assoc way.lines (line ∷ []) (lines_of behind));
    }
    by_line true here over =
        let at_end : is_end behind ≡ true = ends_last (rule_of old) (is_end behind) (length way.lines) line over.1 in
        let nothing : behind ≡ [] = end_is behind at_end in
        let judged_last : judged_line rule (length way.lines) true line ≡ Ok None =
        subst (λ (k : LineRule). judged_line k (length way.lines) true line ≡ Ok None) way.same
        (subst (λ (b : Bool). judged_line (rule_of old) (length way.lines) b line ≡ Ok None) at_end over.1) in
        record {
          lines = way.lines;
          read = over.0;
          same = same ∙ way.same;
          left = (nothing, (line, here ∙ ap (λ (l : List ℕ). way.lines ++ line ∷ lines_of l) nothing, judged_last));
        }

pub all_read : (opening : List ℕ) (rule : LineRule) (ended : Bool) (body : List (List ℕ)) (rest : List ℕ) (reader : Reader)
    → rest ≡ [] → IsBodyReadSoFar opening rule ended body rest reader → IsBodyRead opening body reader ended
all_read opening rule ended body rest reader none way = record {
  lines = way.lines;
  read = way.read;
  all = subst (λ (k : LineRule). AreAllExchanges k ended body way.lines) (sym way.same) (whole ended way.left);
}
  where
    whole : (b : Bool) → HasRestOf rule b body way.lines rest → AreAllExchanges rule b body way.lines
    whole false going = going ∙ ap (λ (l : List ℕ). way.lines ++ lines_of l) none ∙ append-nil way.lines
    whole true over = over.1

pub at_fault : (opening : List ℕ) (rule : LineRule) (ended : Bool) (body : List (List ℕ)) (rest line behind : List ℕ)
    (reader : Reader) (f : Fault) → IsBodyReadSoFar opening rule ended body rest reader → lines_of rest ≡ line ∷ lines_of behind
    → ((lines : List (List ℕ)) → AreExchangesRead opening lines reader → IsExchangeFault (rule_of reader) lines line (is_end behind) f)
    → IsExchangesBodyFault opening rule body f
at_fault opening rule ended body rest line behind reader f way split wrong = record {
  lines = way.lines;
  line = line;
  behind = lines_of behind;
  split = here_line rule ended body way.lines rest line behind split way.left;
  records = way.read.records;
  log = reader.ops.items;
  are = subst (λ (k : LineRule). AreExchangeLines k way.lines way.read.records reader.ops.items) way.same way.read.are;
  opened = way.read.opened;
  distinct = distinct way.read.records reader.numbering way.read.numbering;
  wrong = subst (λ (b : Bool). IsExchangeFault rule way.lines line b f) (sym (last_of_rest behind))
      (subst (λ (k : LineRule). IsExchangeFault k way.lines line (is_end behind) f) way.same (wrong way.lines way.read));
}

-- what its lines are judged by is what the header and the first line say
pub same_rule : (head : Head) (body : List (List ℕ)) (rule : LineRule) (first : Option (List ℕ)) →
    rule ≡ record { limited = is_some head.limit; key = first } → first ≡ first_key body → rule ≡ rule_in head body
same_rule head body rule first is same = is ∙ ap (λ (k : Option (List ℕ)). record { limited = is_some head.limit; key = k }) same

-- what was read is the log
pub assembled : (bytes text first body : List ℕ) (head : Head) (ended : Bool) (reader : Reader) (log : ExchangesLog) →
    text ≡ text_of bytes → lines_of text ≡ first ∷ lines_of body → head_of first ≡ Ok head → rule_of reader ≡ rule_in head (lines_of body) →
    IsBodyRead head.opening (lines_of body) reader ended → AreExchangesFinished head.limit ended reader log → IsExchangesLog bytes log
assembled bytes text first body head ended reader log is_text split said same whole finished =
    let records = whole.read.records in
    let ops : log.ops.items ≡ reader.ops.items = ap (λ v. v.items) finished.ops in
    let are : AreExchangeLines (rule_of reader) whole.lines records log.ops.items =
    subst (λ (l : List (Operation Exchange)). AreExchangeLines (rule_of reader) whole.lines records l) (sym ops) whole.read.are in
    record {
      records = records;
      is = record {
        header = first;
        body = lines_of body;
        lines = whole.lines;
        head = head;
        split = ap lines_of (sym is_text) ∙ split;
        said = said;
        ended = ended;
        all = subst (λ (k : LineRule). AreAllExchanges k ended (lines_of body) whole.lines) same whole.all;
        are = subst (λ (k : LineRule). AreExchangeLines k whole.lines records log.ops.items) same are;
        opened = whole.read.opened;
        distinct = distinct records reader.numbering whole.read.numbering;
      };
      limit = finished.limit;
      unfinished = finished.unfinished ∙ ap unfinished_in (sym ops);
      uncertain = finished.uncertain ∙ ap uncertain_in (sym ops);
      count = finished.count records whole.read.numbering;
      ended = finished.ended;
    }

pub header_fault : (bytes text first body : List ℕ) (why : DocError) (f : Fault) → text ≡ text_of bytes
    → lines_of text ≡ first ∷ lines_of body
    → (why ≢ NoMemory → head_of first ≡ Err why) → f ≡ refused_at 1 why → IsExchangesFault bytes f
header_fault bytes text first body why f is_text split refusal told = by_cause (is_memory why)
  where
    by_cause : (why ≡ NoMemory) ⊎ (why ≢ NoMemory) → IsExchangesFault bytes f
    by_cause (inl e) = inl (told ∙ ap (refused_at 1) e)
    by_cause (inr ne) = inr (inr (inl (record {
      header = first;
      body = lines_of body;
      why = why;
      split = ap lines_of (sym is_text) ∙ split;
      refused = refusal ne;
      told = told;
    })))

pub later_fault : (bytes text first body : List ℕ) (head : Head) (rule : LineRule) (f : Fault) → text ≡ text_of bytes
    → lines_of text ≡ first ∷ lines_of body → head_of first ≡ Ok head → rule ≡ rule_in head (lines_of body)
    → IsExchangesBodyFault head.opening rule (lines_of body) f → IsExchangesFault bytes f
later_fault bytes text first body head rule f is_text split said same wrong = inr (inr (inr (record {
  header = first;
  body = lines_of body;
  head = head;
  split = ap lines_of (sym is_text) ∙ split;
  said = said;
  wrong = subst (λ (k : LineRule). IsExchangesBodyFault head.opening k (lines_of body) f) same wrong;
})))
