-- What a parse says of the words: the command line of `fsr` is one of those whose parse clap's contract gives exactly.
use Rattle.std.proofs.Common.{rules, ◌≡◌, ◌≢◌, inl, inr, List, [], ◌∷◌, ap, refl, sym, ◌∙◌, true, false, Option, Some, None}
use Rattle.std.proofs.Common.{option_map, subst, ◌⊎◌, inr, ℕ, Bool, codes}
use Rattle.std.specs.Str.{bytes_eq}
use Rattle.std.proofs.lemmas.Option.{none-some, same_Some}
use Rattle.clap.specs.Words.{App, Row, Text, fault_of, is_simple, is_simple_and_free, kind_of, subcommand_of, HasMatchesOf, HasKind, Kinds}
use Rattle.clap.specs.Words.{first_of, subcommand_name_of, subcommand_rows_of}
use Rattle.clap.specs.Walk.{is_empty}
use Rattle.clap.specs.declared.error.Error.{Error}
use Rattle.clap.specs.declared.error.kind.ErrorKind.TheVariants as kind
use Rattle.clap.specs.declared.parser.matches.ArgMatches.{ArgMatches}
use Rattle.clap.proofs.OnLiterals.{clap_on_literals}
use Rattle.fsr_words.specs.declared.command.Request.{Request}
use Rattle.fsr_words.specs.Command.{fsr, command_of, file_in, file_of, is_true, request_in, request_named}

pub fsr_is_simple : is_simple fsr ≡ true
unfolding clap_on_literals
fsr_is_simple = refl

pub fsr_is_free : is_simple_and_free fsr ≡ true
unfolding clap_on_literals
fsr_is_free = refl

option_map-option_map : {A B C : Type 0} (f : B → C) (g : A → B) (o : Option A)
    → option_map (λ x. f (g x)) o ≡ option_map f (option_map g o)
option_map-option_map f g None = refl
option_map-option_map f g (Some x) = refl

name-rows : (m : ArgMatches) → subcommand_name_of m ≡ option_map (λ p. p.0) (subcommand_rows_of m)
name-rows m = option_map-option_map (λ p. p.0) _ _

request_among : (o : Option (Text × List Row)) (name : Text) (rows : List Row) → Some name ≡ option_map (λ p. p.0) o
    → Some rows ≡ option_map (λ p. p.1) o → request_named name rows ≡ request_in o
request_among None name rows named found = absurd (none-some name (sym named))
request_among (Some p) name rows named found =
    ap (λ (n : Text). request_named n rows) (same_Some name p.0 named)
    ∙ ap (λ (r : List Row). request_named p.0 r) (same_Some rows p.1 found)

-- the name and the matches of a subcommand give its command, and where there is none there is no command
pub request_of_subcommand : (m : ArgMatches) (name : Text) (rows : List Row) (asked : Option Request) → Some name ≡ subcommand_name_of m
    → Some rows ≡ option_map (λ p. p.1) (subcommand_rows_of m) → asked ≡ request_named name rows → asked ≡ request_in (subcommand_rows_of m)
request_of_subcommand m name rows asked named found is = is ∙ request_among (subcommand_rows_of m) name rows (named ∙ name-rows m) found

pub request_nowhere : (o : Option (Text × List Row)) → None ≡ option_map (λ p. p.1) o → None ≡ request_in o
request_nowhere None e = refl
request_nowhere (Some p) e = absurd (none-some p.1 e)

-- a flag is there if its value is `true`
pub told_by_value : (o : Option Text) (value : Text) (told : Bool) → Some value ≡ o →
    told ≡ bytes_eq value (codes "true") → told ≡ is_true o
told_by_value None value told e is = absurd (none-some value (sym e))
told_by_value (Some v) value told e is = is ∙ ap (λ (t : Text). bytes_eq t (codes "true")) (same_Some value v e)

pub told_by_none : (o : Option Text) → None ≡ o → false ≡ is_true o
told_by_none None e = refl
told_by_none (Some v) e = absurd (none-some v e)

-- the parse succeeded, and its subcommand gives this command, or none
pub parsed : (a : App) (words : List Text) (m : ArgMatches) (asked : Option Request) → a ≡ fsr
    → (is_simple_and_free a ≡ true → fault_of a words ≡ []) → HasMatchesOf a words m → asked ≡ request_in (subcommand_rows_of m)
    → command_of words ≡ asked
parsed a words m asked is_fsr faults matches is =
    let no_fault : fault_of fsr words ≡ [] =
    ap (λ b. fault_of b words) (sym is_fsr) ∙ faults (ap is_simple_and_free is_fsr ∙ fsr_is_free) in
    let rows : subcommand_rows_of m ≡ subcommand_of fsr words =
    (matches (ap is_simple is_fsr ∙ fsr_is_simple)).1 ∙ ap (λ b. subcommand_of b words) is_fsr in
    rw no_fault (sym (is ∙ ap request_in rows))

some_kind : (kinds : Kinds) (e : Error) → kind_of e ≢ kind.OutOfMemory → HasKind kinds e → is_empty kinds ≡ false
some_kind kinds e other (inl memory) = absurd (other memory)
some_kind [] e other (inr among) = absurd among
some_kind (k ∷ ks) e other (inr among) = search rules

-- the parse failed, and memory was not at fault
pub refused : (a : App) (words : List Text) (e : Error) → a ≡ fsr → (is_simple_and_free a ≡ true → HasKind (fault_of a words) e)
    → kind_of e ≢ kind.OutOfMemory
    → command_of words ≡ None
refused a words e is_fsr faults other =
    let has : HasKind (fault_of fsr words) e =
    subst (λ b. HasKind (fault_of b words) e) is_fsr (faults (ap is_simple_and_free is_fsr ∙ fsr_is_free)) in
    rw (some_kind _ e other has) refl

-- the matches of the subcommand name a file, or there is no subcommand
pub file_among : (o : Option (Text × List Row)) (rows : List Row) (file : Option Text) → Some rows ≡ option_map (λ p. p.1) o
    → file ≡ first_of (codes "FILE") rows → file ≡ file_in o
file_among None rows file e is = absurd (none-some rows (sym e))
file_among (Some p) rows file e is = is ∙ ap (first_of (codes "FILE")) (same_Some rows p.1 e)

pub file_nowhere : (o : Option (Text × List Row)) → None ≡ option_map (λ p. p.1) o → None ≡ file_in o
file_nowhere None e = refl
file_nowhere (Some p) e = absurd (none-some p.1 e)

-- the parse succeeded, and its subcommand's matches name this file, or none
pub file_parsed : (a : App) (words : List Text) (m : ArgMatches) (file : Option Text) → a ≡ fsr
    → (is_simple_and_free a ≡ true → fault_of a words ≡ []) → HasMatchesOf a words m → file ≡ file_in (subcommand_rows_of m)
    → file ≡ file_of words
file_parsed a words m file is_fsr faults matches is =
    let no_fault : fault_of fsr words ≡ [] =
    ap (λ b. fault_of b words) (sym is_fsr) ∙ faults (ap is_simple_and_free is_fsr ∙ fsr_is_free) in
    let rows : subcommand_rows_of m ≡ subcommand_of fsr words =
    (matches (ap is_simple is_fsr ∙ fsr_is_simple)).1 ∙ ap (λ b. subcommand_of b words) is_fsr in
    rw no_fault (is ∙ ap file_in rows)

-- the parse failed, and memory was not at fault
pub file_unparsed : (a : App) (words : List Text) (e : Error) → a ≡ fsr → (is_simple_and_free a ≡ true → HasKind (fault_of a words) e)
    → kind_of e ≢ kind.OutOfMemory
    → None ≡ file_of words
file_unparsed a words e is_fsr faults other =
    let has : HasKind (fault_of fsr words) e =
    subst (λ b. HasKind (fault_of b words) e) is_fsr (faults (ap is_simple_and_free is_fsr ∙ fsr_is_free)) in
    rw (some_kind _ e other has) refl
