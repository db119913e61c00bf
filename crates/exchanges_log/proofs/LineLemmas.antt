-- One more line: its operation stands behind the others, with the numbers of its records.
use Rattle.std.proofs.Common.{◌≡◌, ℕ, ◌<◌, List, [], ◌∷◌, ◌++◌, length, refl, ap, sym, ◌∙◌, arith, subst, slice_get, Some, None, Option, Ok}
use Rattle.std.proofs.Common.{Bool, ◌⊎◌, inl, inr, length-append}
use Rattle.std.specs.Prelude.{option_map}
use Rattle.std.proofs.lemmas.Option.{slice_get_within}
use Rattle.history_core.proofs.Places.{get_last, get_pushed_cases, get_stays}
use Rattle.object_core.specs.declared.operation.Operation.{Operation}
use Rattle.object_registers.specs.declared.exchanging.Exchange.{Exchange}
use Rattle.exchanges_log.specs.Numberings.{IsNumbering}
use Rattle.lines_log.specs.Logs.{LineRule}
use Rattle.lines_log.specs.inner.Numbers.{Grow}
use Rattle.read_exchange.specs.Exchanges.{exchange_seen, finds, gets, misses, refuses, SaidExchange, sets, swaps, tries}
use Rattle.read_exchange.specs.declared.line.ExchangeOp.{ExchangeOp}
use Rattle.exchanges_log.specs.ExchangeLogs.{AreExchangeLines, IsNamed, IsNumberedExchange, judged_line, MeansExchange, texts_of}
use Rattle.exchanges_log.specs.ExchangeNumbers.{GrowBy, IsOperationNow}
use Rattle.exchanges_log.specs.inner.ExchangeReadings.{AreExchangesRead, rule_of}
use Rattle.exchanges_log.specs.declared.reader.Reader.{Reader}

means_still : (records after : List (List ℕ)) → Grow records after → (said : SaidExchange) (what : Exchange)
    → MeansExchange records said what → MeansExchange after said what
means_still records after grows (sets text) what is = (is.0, grows is.0 text is.1, is.2)
means_still records after grows (gets None) what is = is
means_still records after grows (gets (Some text)) what is = (is.0, grows is.0 text is.1, is.2)
means_still records after grows (swaps from to) what is = (is.0, is.1, grows is.0 from is.2, grows is.1 to is.3, is.4)
means_still records after grows (misses from to) what is = (is.0, is.1, grows is.0 from is.2, grows is.1 to is.3, is.4)
means_still records after grows (finds from to found) what is =
    (is.0, is.1, is.2, grows is.0 from is.3, grows is.1 to is.4, grows is.2 found is.5, is.6)
means_still records after grows (tries from to) what is = (is.0, is.1, grows is.0 from is.2, grows is.1 to is.3, is.4)
means_still records after grows (refuses text) what is = (is.0, grows is.0 text is.1, is.2)

numbered_still : (records after : List (List ℕ)) → Grow records after → (said : Operation SaidExchange) (op : Operation Exchange)
    → IsNumberedExchange records said op → IsNumberedExchange after said op
numbered_still records after grows said op is = record {
  starts = is.starts;
  ends = is.ends;
  maybe = is.maybe;
  what = means_still records after grows said.what op.what is.what;
}

named_still : (rule : LineRule) (lines : List (List ℕ)) (line text : List ℕ) → IsNamed rule lines text
    → IsNamed rule (lines ++ line ∷ []) text
named_still rule lines line text is = record {
  place = is.place;
  line = is.line;
  at = get_stays lines is.line line is.place is.at;
  said = is.said;
  last = is.last;
  is = is.is;
  among = is.among;
  names = is.names;
}

pub more_lines : (rule : LineRule) (lines records after : List (List ℕ)) (line : List ℕ) (last : Bool)
    (log : List (Operation Exchange)) (said : Operation SaidExchange) (next : Operation Exchange)
    → AreExchangeLines rule lines records log → GrowBy records (texts_of said.what) after
    → judged_line rule (length lines) last line ≡ Ok (Some said) → IsNumberedExchange after said next
    → AreExchangeLines rule (lines ++ line ∷ []) after (log ++ next ∷ [])
more_lines rule lines records after line last log said next are grow judged is = record {
  long = omega (arith, length-append log (next ∷ []), length-append lines (line ∷ []), are.long);
  each = λ p l o at_l at_o. by_places p l o (get_pushed_cases lines line p l at_l) (get_pushed_cases log next p o at_o);
  named = λ n text at. elim (grow.met n text at) [
    | inl old ↦ elim (are.named n text old) [
      | inl opening ↦ inl opening
      | inr named ↦ inr (named_still rule lines line text named)
    ]
    | inr among ↦ inr (record {
      place = length lines;
      line = line;
      at = get_last lines line (length lines) refl;
      said = said;
      last = last;
      is = judged;
      among = among.0;
      names = among.1;
    })
  ];
}
  where
    by_places : (p : ℕ) (l : List ℕ) (o : Operation Exchange) → (slice_get lines p ≡ Some l) ⊎ ((p ≡ length lines) × (line ≡ l))
        → (slice_get log p ≡ Some o) ⊎ ((p ≡ length log) × (next ≡ o))
        → (was : Operation SaidExchange) × (at_end : Bool) × (judged_line rule p at_end l ≡ Ok (Some was)) × IsNumberedExchange after was o
    by_places p l o (inl old) (inl also) =
        let here = are.each p l o old also in
        (here.0, here.1, here.2, numbered_still records after grow.grows here.0 o here.3)
    by_places p l o (inl old) (inr new) =
        absurd (let within : p < length lines = slice_get_within lines p l old in omega (arith, within, new.0, are.long))
    by_places p l o (inr new) (inl old) =
        absurd (let within : p < length log = slice_get_within log p o old in omega (arith, within, new.0, are.long))
    by_places p l o (inr new) (inr also) =
        let at_place : judged_line rule p last line ≡ Ok (Some said) =
        subst (λ (n : ℕ). judged_line rule n last line ≡ Ok (Some said)) (sym new.0) judged in
        let at_line : judged_line rule p last l ≡ Ok (Some said) =
        subst (λ (k : List ℕ). judged_line rule p last k ≡ Ok (Some said)) new.1 at_place in
        (said, last, at_line, subst (λ (k : Operation Exchange). IsNumberedExchange after said k) also.1 is)

-- an operation was entered
pub entered : (opening : List ℕ) (lines : List (List ℕ)) (line : List ℕ) (last : Bool) (old new : Reader)
    (said : Operation SaidExchange) (next : Operation Exchange) → (read : AreExchangesRead opening lines old)
    → judged_line (rule_of old) (length lines) last line ≡ Ok (Some said) → rule_of new ≡ rule_of old
    → ((records : List (List ℕ)) → IsNumbering records old.numbering → IsOperationNow records said new.numbering next)
    → new.ops.items ≡ old.ops.items ++ next ∷ [] → AreExchangesRead opening (lines ++ line ∷ []) new
entered opening lines line last old new said next read judged key numbered pushed =
    let now = numbered read.records read.numbering in
    let are : AreExchangeLines (rule_of old) (lines ++ line ∷ []) now.after (old.ops.items ++ next ∷ []) =
    more_lines (rule_of old) lines read.records now.after line last old.ops.items said next read.are now.grow judged now.is in
    let at_key : AreExchangeLines (rule_of new) (lines ++ line ∷ []) now.after (old.ops.items ++ next ∷ []) =
    subst (λ (k : LineRule). AreExchangeLines k (lines ++ line ∷ []) now.after (old.ops.items ++ next ∷ [])) (sym key) are in
    record {
      records = now.after;
      are = subst (λ (l : List (Operation Exchange)). AreExchangeLines (rule_of new) (lines ++ line ∷ []) now.after l) (sym pushed) at_key;
      numbering = now.numbers;
      opened = now.grow.grows 0 opening read.opened;
    }

-- what was said of a line at a place, at the number of the lines before it
pub judged_as : (rule : LineRule) (place count : ℕ) (last : Bool) (bytes : List ℕ) (found : Option ExchangeOp) (op : ExchangeOp)
    → judged_line rule place last bytes ≡ Ok (option_map exchange_seen found) → found ≡ Some op → place ≡ count
    → judged_line rule count last bytes ≡ Ok (Some (exchange_seen op))
judged_as rule place count last bytes found op said is same =
    subst (λ (n : ℕ). judged_line rule n last bytes ≡ Ok (Some (exchange_seen op))) same
    (said ∙ ap (λ (o : Option ExchangeOp). Ok (option_map exchange_seen o)) is)
