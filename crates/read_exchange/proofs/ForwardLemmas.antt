-- An operation that a line says runs forwards: that is asked of the line.
use Rattle.std.proofs.Common.{◌≡◌, ℕ, ◌≤◌, ◌∙◌, Bool, true, false, List, refl, ap, sym, subst, arith, true≢false, [], ◌∷◌}
use Rattle.std.proofs.Common.{Option, Some, None, Result, Ok, Err, codes}
use Rattle.std.specs.Prelude.{⊤, if◌then◌else◌, nat_le}
use Rattle.std.proofs.lemmas.Bool.Decides.{nat_tests}
use Rattle.std.proofs.lemmas.Option.{none-some, same_Some}
use Rattle.serde_json.specs.Data.{Data}
use Rattle.serde_json.specs.Find.{get}
use Rattle.object_core.specs.declared.operation.Operation.{Operation}
use Rattle.read_document.specs.declared.refusal.DocError.{DocError}
use Rattle.read_document.specs.Document.{is_kind, value_of}
use Rattle.read_document.specs.declared.refusal.DocError.TheVariants.{Law, Shape}
use Rattle.read_document.specs.declared.key.Key.TheVariants as key
use Rattle.read_document.specs.Refusals.{◌>>=◌, field, must, required, some_or}
use Rattle.read_document.specs.Values.{as_whole, optional}
use Rattle.read_document.specs.LineFields.{done_in, key_in, record_in}
use Rattle.read_line.specs.Lines.{ends_later}
use Rattle.read_exchange.specs.Exchanges.{asked_in, done, effect_of, entry_in, entry_of, ExchangeEntry}
use Rattle.read_exchange.specs.Exchanges.{KeyedExchange, operation, form_in, operation_in}

abbrev pub ok_or : {A E : Type 0} → A → Result A E → A
ok_or x (Ok y) = y
ok_or x (Err e) = x

abbrev pub is_right : {A E : Type 0} → Result A E → Bool
is_right (Ok y) = true
is_right (Err e) = false

pub false-true : {P : Type 0} → false ≡ true → P
false-true e = absurd (true≢false (sym e))

-- what a step and those behind it give, the step gives first
pub bound : {A B : Type 0} (r : Result A DocError) (f : A → Result B DocError) (y : B) → (r >>= f) ≡ Ok y →
    (x : A) × (r ≡ Ok x) × (f x ≡ Ok y)
bound (Ok x) f y e = (x, refl, e)
bound (Err w) f y e = false-true (ap is_right e)

asked : (b : Bool) (w : DocError) (x : ⊤) → must b w ≡ Ok x → b ≡ true
asked true w x e = refl
asked false w x e = false-true (ap is_right e)

abbrev operation_or : KeyedExchange → ExchangeEntry → KeyedExchange
operation_or d (operation o) = o
operation_or d (done ops) = d

abbrev is_operation : ExchangeEntry → Bool
is_operation (operation o) = true
is_operation (done ops) = false

abbrev RunsForwards : {W : Type 0} → Operation W → Type 0
RunsForwards o = ends_later o.starts o.ends ≡ true

operation_forwards : (d : Data) (o : KeyedExchange) → operation_in d ≡ Ok o → RunsForwards o.op
unfolding operation_in
operation_forwards d o e =
    let there = bound (required (key.Who ∷ key.Kind ∷ key.Begin ∷ key.End ∷ key.Record ∷ []) d) _ _ e in
    let who = bound (field key.Who as_whole d) _ _ there.2 in
    let form = bound (some_or (Shape key.Kind) (form_in d)) _ _ who.2 in
    let begin = bound (field key.Begin as_whole d) _ _ form.2 in
    let ends = bound (some_or (Shape key.End) (optional as_whole (get (codes "end") d))) _ _ begin.2 in
    let item = bound (record_in d) _ _ ends.2 in
    let which = bound (key_in d) _ _ item.2 in
    let what = bound (asked_in form.0 d) _ _ which.2 in
    let later = bound (must (ends_later begin.0 ends.0) (Law key.End)) _ _ what.2 in
    let effect = bound (effect_of what.0 ends.0 item.0) _ _ later.2 in
    let same = ap (ok_or o) effect.2 in
    subst (λ (k : KeyedExchange). RunsForwards k.op) same (asked (ends_later begin.0 ends.0) _ later.0 later.1)

by_kind : (b : Bool) (d : Data) (o : KeyedExchange) →
    (if b then (done_in d >>= (λ ops. Ok (done ops))) else (operation_in d >>= (λ op. Ok (operation op)))) ≡ Ok (operation o) →
    RunsForwards o.op
by_kind true d o e = let ops = bound (done_in d) _ _ e in false-true (ap is_operation (ap (ok_or (operation o)) ops.2))
by_kind false d o e =
    let op = bound (operation_in d) _ _ e in
    let same : op.0 ≡ o = ap (operation_or o) (ap (ok_or (operation o)) op.2) in
    operation_forwards d o (op.1 ∙ ap Ok same)

line_forwards : (line : List ℕ) (o : KeyedExchange) → entry_of line ≡ Ok (operation o) → RunsForwards o.op
unfolding entry_of entry_in
line_forwards line o e = let d = bound (value_of line) _ _ e in by_kind (is_kind (codes "done") d.0) d.0 o d.2

from_le : (a b : ℕ) → nat_le a b ≡ true → a ≤ b
from_le a b h = grind (arith, nat_tests)

later : (begin end : ℕ) (ends : Option ℕ) → ends_later begin ends ≡ true → ends ≡ Some end → begin ≤ end
later begin end None e ended = absurd (none-some end ended)
later begin end (Some other) e ended = subst (λ m. begin ≤ m) (same_Some other end ended) (from_le begin other e)

-- no operation that a line says ended before it began
pub forwards : (line : List ℕ) (o : KeyedExchange) (end : ℕ) → entry_of line ≡ Ok (operation o) → o.op.ends ≡ Some end → o.op.starts ≤ end
forwards line o end e ended = later o.op.starts end o.op.ends (line_forwards line o e) ended
