-- What is kept has no float, so its text is the record's.
use Rattle.std.proofs.Common.{◌≡◌, ◌∙◌, ap, sym, true, Some}
use Rattle.serde_json.specs.Data.{Data}
use Rattle.serde_json.specs.View.{view}
use Rattle.read_document.specs.Records.{is_kept}
use Rattle.read_document.proofs.RecordLemmas.{kept_has_no_float, kept_is_record}
use Rattle.read_document.proofs.record.record_text.Goals as goal

pub returns-then-is_kept : goal.returns-then-is_kept
returns-then-is_kept c =
    let d : Data = view c.args.value.now in
    let is : is_kept d ≡ true = sym c.is_kept.ensures ∙ c.if-is_kept.true in
    ap Some (c.in_ok-to_string.ensures.text (kept_has_no_float d is)) ∙ sym (kept_is_record d is)
