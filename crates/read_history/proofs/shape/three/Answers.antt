-- Three values are read one by one; another number of them is no record.
use Rattle.std.proofs.Common.{◌∙◌, Some, None, arith, map, refl, sym}
use Rattle.std.proofs.lemmas.List.{length-map}
use Rattle.serde_json.specs.View.{view}
use Rattle.read_history.proofs.ListLemmas.{as_three_long, as_three_short, three_read}
use Rattle.read_history.proofs.shape.three.Goals as goal

pub returns-in_default : goal.returns-in_default
returns-in_default c =
    sym (as_three_short (map view c.args.items.now) (omega (arith, length-map c.args.items.now view, c.in_default.len_below)))

pub returns-in_default-2 : goal.returns-in_default-2
returns-in_default-2 c =
    sym (as_three_long (map view c.args.items.now) (omega (arith, length-map c.args.items.now view, c.in_default.len_at_least)))

pub returns-in_err-as_u64 : goal.returns-in_err-as_u64
returns-in_err-as_u64 c =
    c.from_residual.ensures
    ∙ three_read c.args.items.now c.lo-item.result c.now-item.result c.hi-item.result None _ _ c.in-len3.len_at_least c.in-len3.len_below
    c.lo-item.is c.now-item.is c.hi-item.is c.in_err-as_u64.ensures refl refl

pub returns-in_err-as_u64-2 : goal.returns-in_err-as_u64-2
returns-in_err-as_u64-2 c =
    c.from_residual-in_err-as_u64-2.ensures
    ∙ three_read c.args.items.now c.lo-item.result c.now-item.result c.hi-item.result (Some c.in_ok-as_u64.field-0) None _
    c.in-len3.len_at_least c.in-len3.len_below c.lo-item.is c.now-item.is c.hi-item.is c.in_ok-as_u64.ensures
    c.in_err-as_u64-2.ensures refl

pub returns-in_err-as_u64-3 : goal.returns-in_err-as_u64-3
returns-in_err-as_u64-3 c =
    c.from_residual-in_err-as_u64-3.ensures
    ∙ three_read c.args.items.now c.lo-item.result c.now-item.result c.hi-item.result (Some c.in_ok-as_u64.field-0)
    (Some c.in_ok-as_u64-2.field-0) None c.in-len3.len_at_least c.in-len3.len_below c.lo-item.is c.now-item.is c.hi-item.is
    c.in_ok-as_u64.ensures c.in_ok-as_u64-2.ensures c.in_err-as_u64-3.ensures

pub returns : goal.returns
returns c =
    three_read c.args.items.now c.lo-item.result c.now-item.result c.hi-item.result (Some c.in_ok-as_u64.field-0)
    (Some c.in_ok-as_u64-2.field-0) (Some c.in_ok-as_u64-3.field-0) c.in-len3.len_at_least c.in-len3.len_below c.lo-item.is c.now-item.is
    c.hi-item.is c.in_ok-as_u64.ensures c.in_ok-as_u64-2.ensures c.in_ok-as_u64-3.ensures
