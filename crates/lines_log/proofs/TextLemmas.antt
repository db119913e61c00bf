-- White space behind the last line is left out, where it isn't too much.
use Rattle.std.proofs.Common.{◌≡◌, ◌-◌, ◌∙◌, ℕ, List, Bool, false, ap, length, sym, take}
use Rattle.std.specs.Prelude.{if◌then◌else◌}
use Rattle.std.specs.Str.{IsTrimAsciiEnd}
use Rattle.std.proofs.lemmas.Str.Ascii.{trim_ascii_end_is}
use Rattle.program_streams.specs.Spaces.{ends_in_space, space_behind}
use Rattle.lines_log.specs.Logs.{text_of}

pub left_out : (bytes text : List ℕ) → IsTrimAsciiEnd bytes text → ends_in_space bytes ≡ false → text ≡ text_of bytes
left_out bytes text is few =
    trim_ascii_end_is bytes text is
    ∙ sym (ap (λ (b : Bool). if b then bytes else take (length bytes - space_behind bytes) bytes) few)
