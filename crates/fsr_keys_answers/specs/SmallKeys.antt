-- The small log of a log whose operations have several keys (this project's own).
use Rattle.std.specs.Prelude.{ℕ, List, [], slice_get, Option, None, Some}
use Rattle.history_core.specs.declared.reason.Reason.{Reason}
use Rattle.history_core.specs.declared.thinned.LogAnswer.TheVariants.{Unlawful as no_order}
use Rattle.kept_lines.specs.declared.keys_log.KeyLog.{KeyLog}
use Rattle.kept_lines.specs.declared.keys_log.KeysLog.{KeysLog}
use Rattle.print_keys.specs.KeysText.{whole_reason, whole_thinned}
use Rattle.print_keys.specs.declared.keys_verdict.KeysVerdict.{KeysVerdict}
use Rattle.print_keys.specs.declared.keys_verdict.KeysVerdict.TheVariants.{Lawful, Unlawful}
use Rattle.small_log.specs.Small.{small_text}

abbrev pub small_key : Option KeyLog → Reason → List ℕ
small_key None reason = []
small_key (Some one) reason =
    small_text (whole_thinned one.places.items one.log.thinned) (no_order (whole_reason one.places.items reason))

-- the small log of the key that has no lawful order; nothing if each has one
abbrev pub small_keys : KeysLog → KeysVerdict → List ℕ
small_keys read (Lawful orders) = []
small_keys read (Unlawful number reason most) = small_key (slice_get read.logs.items number) reason
