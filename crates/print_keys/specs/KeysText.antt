-- All that is printed of a log whose operations have several keys (this project's own). Places and lines are those of
-- the whole log.
use Rattle.std.specs.Prelude.{ℕ, zero, suc, ◌+◌, ◌*◌, ◌++◌, ◌||◌, List, [], ◌∷◌, codes, length, map, Bool, false}
use Rattle.std.specs.Prelude.{nat_eq, nat_lt}
use Rattle.std.specs.Prelude.{if◌then◌else◌, slice_get, unwrap_or, Option, None, Some, option_map, string_bytes}
use Rattle.std.specs.List.{sum_by}
use Rattle.history_core.specs.declared.reason.Reason.{Reason}
use Rattle.history_core.specs.declared.reason.Reason.TheVariants.{Unwritten, Early, Stale, Crossed, Limit}
use Rattle.history_core.specs.declared.thinned.LogAnswer.{LogAnswer}
use Rattle.history_core.specs.declared.thinned.LogAnswer.TheVariants.{Lawful as an_order, Unlawful as no_order}
use Rattle.history_core.specs.declared.thinned.Thinned.{Thinned}
use Rattle.kept_lines.specs.declared.keys_log.KeyLog.{KeyLog}
use Rattle.kept_lines.specs.declared.keys_log.KeysLog.{KeysLog}
use Rattle.kept_lines.specs.declared.lines_log.LinesLog.{LinesLog}
use Rattle.print_reasons.specs.Counts.{count_text, end_text, little_text}
use Rattle.print_reasons.specs.Text.{line_feed, verdict_text, writes_text}
use Rattle.print_keys.specs.declared.keys_verdict.KeysVerdict.{KeysVerdict}
use Rattle.print_keys.specs.declared.keys_verdict.KeysVerdict.TheVariants.{Lawful, Unlawful}
use Rattle.print_keys.specs.declared.keys.Totals.{Totals}

-- ---- from the places of a key's own log to those of the whole

-- the place in the whole log of a key's operation
abbrev pub whole_place : List ℕ → ℕ → ℕ
whole_place places own = unwrap_or (slice_get places own) 0

abbrev pub whole_places : List ℕ → List ℕ → List ℕ
whole_places places own = map (whole_place places) own

abbrev pub whole_reason : List ℕ → Reason → Reason
whole_reason places (Unwritten read) = Unwritten (whole_place places read)
whole_reason places (Early read write) = Early (whole_place places read) (whole_place places write)
whole_reason places (Stale before read) = Stale (whole_place places before) (whole_place places read)
whole_reason places (Crossed a b c d) =
    Crossed (whole_place places a) (whole_place places b) (whole_place places c) (whole_place places d)
whole_reason places (Limit refused) = Limit (whole_place places refused)

-- the same operations, at their places in the whole log
abbrev pub whole_thinned : List ℕ → Thinned → Thinned
whole_thinned places thinned = record { history = thinned.history; places = whole_places places thinned.places }

-- ---- the text

-- a key as compact JSON; null where there is none
abbrev pub key_text : Option (List ℕ) → List ℕ
key_text None = codes "null"
key_text (Some text) = text

abbrev pub key_line : KeyLog → List ℕ
key_line one = codes "key: " ++ key_text (option_map string_bytes one.key) ++ line_feed ∷ []

-- a key and the writes of its lawful order
abbrev pub order_text : Option KeyLog → Option LogAnswer → List ℕ
order_text (Some one) (Some (an_order writes)) = key_line one ++ writes_text (whole_places one.places.items writes)
order_text (Some one) (Some (no_order reason)) = []
order_text (Some one) None = []
order_text None found = []

-- the same of each of the first n keys
abbrev pub orders_text : List KeyLog → List LogAnswer → ℕ → List ℕ
orders_text logs orders zero = []
orders_text logs orders (suc n) = orders_text logs orders n ++ order_text (slice_get logs n) (slice_get orders n)

abbrev pub unjudged_line : List ℕ
unjudged_line = codes "No key that comes later was judged.\n"

-- why a key has no lawful order, by the lines of the whole text, and the key
abbrev pub unlawful_key : List ℕ → Option KeyLog → Reason → ℕ → List ℕ
unlawful_key bytes None reason most = []
unlawful_key bytes (Some one) reason most =
    verdict_text false bytes (whole_thinned one.places.items one.log.thinned) most
    (no_order (whole_reason one.places.items reason)) ++ key_line one ++ unjudged_line

-- the counts with those of one more
abbrev pub added : Totals → LinesLog → Totals
added t log = record {
  ops = t.ops + log.ops;
  unfinished = t.unfinished + log.unfinished;
  records = t.records + log.records;
  read = t.read + log.read;
}

-- the counts of all keys together
abbrev pub totals : List KeyLog → Totals
totals logs = record {
  ops = sum_by (λ (k : KeyLog). k.log.ops) logs;
  unfinished = sum_by (λ (k : KeyLog). k.log.unfinished) logs;
  records = sum_by (λ (k : KeyLog). k.log.records) logs;
  read = sum_by (λ (k : KeyLog). k.log.read) logs;
}

-- whether few of the records of a lawful log were read, or there is no operation
abbrev pub keys_show_little : Totals → Bool
keys_show_little t = nat_eq t.ops 0 || nat_lt (t.read * 100) t.records

abbrev pub totals_text : Totals → List ℕ
totals_text t =
    count_text t.ops (codes " operations, ") ++ count_text t.unfinished (codes " unfinished, ")
    ++ count_text t.records (codes " records, ") ++ count_text t.read (codes " of them read, ")

-- the counts, how many keys there are, and whether the end is there
abbrev pub keys_counts : Totals → KeysLog → List ℕ
keys_counts t read =
    totals_text t ++ count_text (length read.logs.items) (codes " keys") ++ end_text read.ended

abbrev pub lawful_keys : Bool → KeysLog → List LogAnswer → List ℕ
lawful_keys order read orders =
    codes "lawful\n" ++ (if order then orders_text read.logs.items orders (length read.logs.items) else [])

abbrev pub keys_little : Totals → List ℕ
keys_little t = little_text t.ops t.records t.read

-- the answer, with the writes of each key in order if that is asked for
abbrev pub keys_text : Bool → List ℕ → KeysLog → KeysVerdict → List ℕ
keys_text order bytes read (Lawful orders) =
    lawful_keys order read orders.items ++ keys_little (totals read.logs.items)
    ++ keys_counts (totals read.logs.items) read
keys_text order bytes read (Unlawful number reason most) =
    unlawful_key bytes (slice_get read.logs.items number) reason most
    ++ keys_counts (totals read.logs.items) read
