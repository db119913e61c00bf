-- No operation of a log that was read ended before it began: no line says one that did.
use Rattle.std.proofs.Common.{◌≡◌, ℕ, ◌≤◌, ◌∙◌, Bool, true, false, List, [], refl, ap, sym, subst, arith, length, slice_get}
use Rattle.std.proofs.Common.{Option, Some, None, Ok, Err}
use Rattle.std.specs.Prelude.{◌==◌, ◌<◌, ◌||◌, not, if◌then◌else◌}
use Rattle.std.proofs.lemmas.Option.{slice_get-get_or, slice_get_within}
use Rattle.object_core.specs.declared.operation.Operation.{Operation}
use Rattle.object_registers.specs.declared.exchanging.Exchange.{Exchange}
use Rattle.read_document.specs.declared.refusal.DocError.{DocError}
use Rattle.lines_log.specs.Logs.{LineRule, same_key}
use Rattle.read_exchange.specs.Exchanges.{done, entry_of, ExchangeEntry, is_refusal, KeyedExchange, operation, SaidExchange}
use Rattle.read_exchange.proofs.ForwardLemmas.{bound, false-true, is_right, ok_or}
use Rattle.exchanges_log.specs.ExchangeLogs.{IsExchangesLog, judged, judged_line}
use Rattle.exchanges_log.specs.declared.exchanges_log.ExchangesLog.{ExchangesLog}

-- no line says an operation that ended before it began
abbrev pub SaysForwards : Type 0
SaysForwards = (line : List ℕ) (o : KeyedExchange) (end : ℕ) → entry_of line ≡ Ok (operation o) → o.op.ends ≡ Some end → o.op.starts ≤ end

abbrev RunsForwards : Operation SaidExchange → Type 0
RunsForwards o = (end : ℕ) → o.ends ≡ Some end → o.starts ≤ end

abbrev op_or : Operation SaidExchange → Option (Operation SaidExchange) → Operation SaidExchange
op_or o None = o
op_or o (Some other) = other

abbrev is_there : Option (Operation SaidExchange) → Bool
is_there None = false
is_there (Some o) = true

taken : (same may : Bool) (o op : Operation SaidExchange) (v w : DocError) →
    (if same then (if may then Ok (Some o) else Err v) else Err w) ≡ Ok (Some op) → o ≡ op
taken true true o op v w e = ap (op_or o) (ap (ok_or None) e)
taken true false o op v w e = false-true (ap is_right e)
taken false may o op v w e = false-true (ap is_right e)

not_done : (last same : Bool) (op : Operation SaidExchange) (v w : DocError) →
    (if last then (if same then Ok None else Err v) else Err w) ≡ Ok (Some op) → ⊥
not_done true true op v w e = false-true (ap is_there (ap (ok_or None) e))
not_done true false op v w e = false-true (ap is_right e)
not_done false same op v w e = false-true (ap is_right e)

-- what is judged to be an operation is one that the line says
judged_forwards : (rule : LineRule) (count : ℕ) (last : Bool) (said : ExchangeEntry) (op : Operation SaidExchange) →
    ((o : KeyedExchange) → said ≡ operation o → RunsForwards o.op) → judged rule count last said ≡ Ok (Some op) → RunsForwards op
judged_forwards rule count last (operation o) op is e =
    subst RunsForwards (taken (same_key rule.key o.key) (rule.limited || not (is_refusal o.op.what)) o.op op _ _ e) (is o refl)
judged_forwards rule count last (done ops) op is e = absurd (not_done last (ops == count) op _ _ e)

judged_line_forwards : SaysForwards → (rule : LineRule) (count : ℕ) (last : Bool) (line : List ℕ) (op : Operation SaidExchange) →
    judged_line rule count last line ≡ Ok (Some op) → RunsForwards op
judged_line_forwards says rule count last line op e =
    let entry = bound (entry_of line) _ _ e in
    judged_forwards rule count last entry.0 op (λ o same end ended. says line o end (entry.1 ∙ ap Ok same) ended) entry.2

pub forwards : SaysForwards → (bytes : List ℕ) (read : ExchangesLog) → IsExchangesLog bytes read → (p end : ℕ) (o : Operation Exchange) →
    slice_get read.ops.items p ≡ Some o → o.ends ≡ Some end → o.starts ≤ end
forwards says bytes read is p end o there ended =
    let log = is.is in
    let within : p < length log.lines = let long = log.are.long in let at = slice_get_within read.ops.items p o there in omega arith in
    let line = slice_get-get_or log.lines p [] within in
    let said = log.are.each p _ o line there in
    let op : Operation SaidExchange = said.0 in
    let numbered = said.3 in
    subst (λ begin. begin ≤ end) (sym numbered.starts)
    (judged_line_forwards says _ p said.1 _ op said.2 end (sym numbered.ends ∙ ended))
