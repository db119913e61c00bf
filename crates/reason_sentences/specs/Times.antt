-- When the operations at places of a log begin and end (this project's own).
use Rattle.std.specs.Prelude.{ℕ, ◌++◌, List, codes, slice_get, unwrap_or, Option}
use Rattle.std.specs.Option.{option_and_then, option_map_or}
use Rattle.history_core.specs.declared.history.Op.{Op}
use Rattle.history_core.specs.declared.thinned.Thinned.{Thinned}
use Rattle.text_lines.specs.Places.{line_at}
use Rattle.reason_sentences.specs.KeptAt.{kept_at}
use Rattle.reason_sentences.specs.Numbers.{number_text}

-- the kept operation at this place of the log
abbrev pub op_at : Thinned → ℕ → Option (Op ℕ)
op_at thinned place = slice_get thinned.history.ops (kept_at thinned.places place)

abbrev pub end_at : Thinned → ℕ → ℕ
end_at thinned place = unwrap_or (option_and_then (λ (o : Op ℕ). o.ends) (op_at thinned place)) 0

abbrev pub begin_at : Thinned → ℕ → ℕ
begin_at thinned place = option_map_or (λ (o : Op ℕ). o.starts) (op_at thinned place) 0

-- one operation had ended when the other began
abbrev pub apart_text : Thinned → ℕ → ℕ → List ℕ
apart_text thinned a b =
    number_text (codes "line ") (line_at a) ++ number_text (codes " ended at ") (end_at thinned a)
    ++ number_text (codes ", line ") (line_at b) ++ number_text (codes " began at ") (begin_at thinned b)
