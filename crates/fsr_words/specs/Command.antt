-- The command that the words name, as clap matches them (this project's own).
use Rattle.std.specs.Prelude.{◌≡◌, ◌⊎◌, ◌||◌, ℕ, Bool, List, codes, true, false, Option, Some, None}
use Rattle.std.specs.Prelude.{is_some, option_and_then, unwrap_or, if◌then◌else◌}
use Rattle.std.specs.Str.{bytes_eq}
use Rattle.clap.specs.Words.{App, Row, Rule, Shape, Text, first_of, new_app, new_rule, with_rule}
use Rattle.clap.specs.Words.{with_subcommand, fault_of, subcommand_of}
use Rattle.clap.specs.Walk.{is_empty}
use Rattle.clap.specs.Simple.{on_top}
use Rattle.clap.specs.declared.builder.action.ArgAction.TheVariants.{Set, SetTrue}
use Rattle.clap.specs.declared.builder.value_parser.ValueParser.TheVariants.{Unsigned}
use Rattle.program_runs.specs.Shows.{budget_of, most_budget, usual_budget}
use Rattle.program_runs.specs.declared.show.Show.{Show}
use Rattle.clap.specs.Words.{kind_of}
use Rattle.clap.specs.declared.error.Error.{Error}
use Rattle.clap.specs.declared.error.kind.ErrorKind.TheVariants.{DisplayHelp, DisplayVersion}
use Rattle.fsr_words.specs.declared.command.NoCommand.{NoCommand}
use Rattle.fsr_words.specs.declared.command.NoCommand.TheVariants.{Refused, Unknown, NoMemory}
use Rattle.fsr_words.specs.declared.command.Request.{Request}
use Rattle.fsr_words.specs.declared.command.Request.TheVariants.{Answer, Coherent, Watch}
use Rattle.fsr_words.specs.declared.command.Want.TheVariants.{Check, Order, Play, Race}

-- a subcommand that may have the name of a file
abbrev pub over_a_document : Text → Shape
over_a_document name = (with_rule (new_app name) (new_rule (codes "FILE"))).top

-- a word that is there or not
abbrev pub flag : Text → Rule
flag name = record (new_rule name) { long = Some name; action = Some SetTrue }

-- a word with a number from 1 to the greatest budget
abbrev pub budget : Rule
budget = record (new_rule (codes "budget")) {
  long = Some (codes "budget");
  value_names = 1;
  action = Some Set;
  parser = Some (Unsigned 1 most_budget);
}

abbrev pub with_flags : App → App
with_flags app =
    with_rule (with_rule (with_rule (with_rule app (flag (codes "order"))) (flag (codes "small")))
    (flag (codes "strict"))) (flag (codes "coherent"))

-- the subcommand that may be told what to print, and how to judge
abbrev pub over_a_log : Shape
over_a_log =
    (with_rule (with_flags (with_rule (new_app (codes "order")) (new_rule (codes "FILE")))) budget).top

-- the subcommand that may be told how to judge a log as it comes
abbrev pub over_a_coming_log : Shape
over_a_coming_log = (with_rule (with_rule (new_app (codes "watch")) (new_rule (codes "FILE"))) budget).top

-- the subcommands over documents
abbrev pub with_documents : App → App
with_documents app =
    with_subcommand (with_subcommand (with_subcommand (with_subcommand app (over_a_document (codes "check")))
    over_a_log) (over_a_document (codes "play"))) (over_a_document (codes "race"))

-- the command line of `fsr`: one of the subcommands is required
abbrev pub fsr : App
fsr =
    let none : App =
    on_top (λ s. record s { subcommand_required = true; has_version = true }) (new_app (codes "fsr")) in
    with_subcommand (with_documents none) over_a_coming_log

abbrev pub is_true : Option Text → Bool
is_true None = false
is_true (Some value) = bytes_eq value (codes "true")

-- whether a flag is there
abbrev pub is_told : Text → List Row → Bool
is_told name rows = is_true (first_of name rows)

-- the budget that a word names, or the usual one
abbrev pub budget_named : Option Text → ℕ
budget_named word = unwrap_or (option_and_then budget_of word) usual_budget

abbrev pub budget_in : List Row → ℕ
budget_in rows = budget_named (first_of (codes "budget") rows)

abbrev pub show_in : List Row → Show
show_in rows = record {
  order = is_told (codes "order") rows;
  small = is_told (codes "small") rows;
  strict = is_told (codes "strict") rows;
  budget = budget_in rows;
}

-- another flag of the command `order` than that of coherence is there
abbrev pub has_others : List Row → Bool
has_others rows = is_told (codes "order") rows || is_told (codes "small") rows || is_told (codes "strict") rows
    || is_some (first_of (codes "budget") rows)

-- coherence is asked for alone
abbrev pub order_in : List Row → Option Request
order_in rows = if is_told (codes "coherent") rows then (if has_others rows then None else Some Coherent)
    else Some (Answer (Order (show_in rows)))

abbrev pub request_named : Text → List Row → Option Request
request_named name rows = if bytes_eq name (codes "check") then Some (Answer Check)
    else (if bytes_eq name (codes "order") then order_in rows
    else (if bytes_eq name (codes "play") then Some (Answer Play)
    else (if bytes_eq name (codes "race") then Some (Answer Race)
    else (if bytes_eq name (codes "watch") then Some (Watch (budget_in rows))
    else None))))

-- what a subcommand with these matches asks for
abbrev pub request_in : Option (Text × List Row) → Option Request
request_in found = option_and_then (λ p. request_named p.0 p.1) found

-- nothing where clap refuses the words
abbrev pub command_of : List Text → Option Request
command_of words = if is_empty (fault_of fsr words) then request_in (subcommand_of fsr words) else None

-- the file that a subcommand with these matches names
abbrev pub file_in : Option (Text × List Row) → Option Text
file_in found = option_and_then (λ p. first_of (codes "FILE") p.1) found

-- nothing where clap refuses the words, or no file is named
abbrev pub file_of : List Text → Option Text
file_of words = if is_empty (fault_of fsr words) then file_in (subcommand_of fsr words) else None

-- the words are no command, unless memory ran out
abbrev pub Refuses : NoCommand → Option Request → Type 0
Refuses NoMemory found = Unit {0}
Refuses (Refused e) found = found ≡ None
Refuses Unknown found = found ≡ None

-- what clap says is what was asked for, help or the version, and no refusal
abbrev pub WasAskedFor : Error → Type 0
WasAskedFor e = (kind_of e ≡ DisplayHelp) ⊎ (kind_of e ≡ DisplayVersion)

-- How a run ends in which clap has something to say, by what had gone out before and after: with status 0 if
-- that was asked for, or 5 if it couldn't be written, and with 2 if the words are refused, when nothing goes
-- out. Or with 4, if memory ran out.
pub record TellsError (e : Error) (old new : Option (List ℕ)) (status : ℕ) : Type 0 where
  pub asked : WasAskedFor e → (status ≡ 0) ⊎ ((status ≡ 5) ⊎ (status ≡ 4))
  pub refused : (WasAskedFor e → ⊥) → ((status ≡ 2) ⊎ (status ≡ 4)) × (new ≡ old)

-- how a run ends whose words are no command
abbrev pub TellsRefusal : NoCommand → Option (List ℕ) → Option (List ℕ) → ℕ → Type 0
TellsRefusal NoMemory old new status = (status ≡ 4) × (new ≡ old)
TellsRefusal (Refused e) old new status = TellsError e old new status
TellsRefusal Unknown old new status = (status ≡ 2) × (new ≡ old)
