-- The line of the codes stands for the line of the text.
use Rattle.std.proofs.Common.{◌∙◌, List, ℕ, ap}
use Rattle.std.specs.Prelude.{slice_get}
use Rattle.std.proofs.lemmas.Result.{IfOk-weaker}
use Rattle.text_lines.specs.Splits.{lines_of}
use Rattle.record_words.proofs.LineLemmas.{no_line, some_line}
use Rattle.record_words.proofs.line.line_in.Goals as goal

pub returns-in-Some : goal.returns-in-Some
returns-in-Some c = IfOk-weaker c.told_line.result _ _ (λ line told. told
    ∙ some_line c.args.packed.now.packed c.args.packed.now.codes.items c.in-Some.own.now c.args.index
    (c.in-Some.ensures ∙ ap (λ (b : List ℕ). slice_get (lines_of b) c.args.index) c.as_slice.ensures.value)) c.told_line.ensures

pub returns-in-None : goal.returns-in-None
returns-in-None c = c.new.ensures.items ∙ no_line c.args.packed.now.packed c.args.packed.now.codes.items c.args.index
    (c.in-None.ensures ∙ ap (λ (b : List ℕ). slice_get (lines_of b) c.args.index) c.as_slice.ensures.value)
