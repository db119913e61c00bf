-- A log has one term and operations that run forwards, so only its writes stand in the way of a search. What holds of records that are
-- the same by their fields holds of equal ones.
use Rattle.std.proofs.Common.{rules, tests, ◌≡◌, ◌<◌, ◌≤◌, ◌&&◌, nat_le, ℕ, List, [], ◌∷◌, Option, Some, None, true, Bool, arith, IsSomeAnd}
use Rattle.std.proofs.Common.{subst, sym, suc, zero}
use Rattle.std.specs.List.{list_all}
use Rattle.std.specs.Option.{option_map_or}
use Rattle.program_runs.specs.declared.fault.Fault.{Fault}
use Rattle.history_core.proofs.Bands.{HaveSameFields, fields_are_equality}
use Rattle.history_core.specs.declared.band.Band.{Band}
use Rattle.history_core.specs.declared.history.History.{History}
use Rattle.history_core.specs.declared.history.Op.{Op}
use Rattle.read_history.specs.Histories.{has_item, is_lawful}
use Rattle.read_log.specs.Log.{CanBeSearched}
use Rattle.history_core.specs.Searches.{IsAnswered, IsBackwards, IsFault}
use Rattle.history_core.specs.declared.reason.Search.{Search}
use Rattle.history_core.specs.declared.reason.SearchError.{SearchError}
use Rattle.history_core.specs.declared.reason.SearchError.TheVariants.{NoMemory, Terms, Backwards, WritesOpening, WritesTwice}
use Rattle.read_log.specs.Logs.{fault_of, IsLogFault, IsLogSearch, IsOfLog, StandsInTheWay}

-- both hold where both tests do
first_holds : (a b : Bool) → (a && b) ≡ true → a ≡ true
first_holds a b both = search (rules, tests)

rest_holds : (a b : Bool) → (a && b) ≡ true → b ≡ true
rest_holds a b both = search (rules, tests)

-- an operation that is lawful doesn't end before it begins
ends_later : (starts : ℕ) (ends : Option ℕ) → option_map_or (λ end. nat_le starts end) ends true ≡ true
    → ¬ IsSomeAnd ends (λ end. end < starts)
ends_later starts None later ended = absurd ended
ends_later starts (Some end) later ended =
    let least : starts ≤ end = search (rules, tests) in
    omega (arith, least, ended)

runs_forwards : (ops : List (Op Band)) → list_all is_lawful ops ≡ true → (place : ℕ) → ¬ IsBackwards ops place
runs_forwards [] lawful place backwards = absurd backwards
runs_forwards (op ∷ ops) lawful zero backwards =
    ends_later op.starts op.ends (first_holds _ (has_item op) (first_holds (is_lawful op) _ lawful)) backwards
runs_forwards (op ∷ ops) lawful (suc place) backwards = runs_forwards ops (rest_holds (is_lawful op) _ lawful) place backwards

pub is_of_log : (Same : Band → Band → Type 0) (log : History Band) (error : SearchError) → CanBeSearched log
    → IsFault Same log.opening log.terms log.ops error → IsOfLog error
is_of_log Same log NoMemory can stands = tt
is_of_log Same log Terms can stands = stands can.limit can.one
is_of_log Same log (Backwards place) can stands = runs_forwards log.ops can.lawful place stands.0
is_of_log Same log (WritesOpening place) can stands = tt
is_of_log Same log (WritesTwice first second) can stands = tt

is_fault : (log : History Band) (error : SearchError) → IsOfLog error → StandsInTheWay log error → IsLogFault log (fault_of error)
is_fault log NoMemory of_log stands = tt
is_fault log Terms of_log stands = absurd of_log
is_fault log (Backwards place) of_log stands = absurd of_log
is_fault log (WritesOpening place) of_log stands = stands
is_fault log (WritesTwice first second) of_log stands = stands

pub searched : (log : History Band) (search : Search) → IsAnswered HaveSameFields log.opening log.terms log.ops search →
    IsLogSearch log search
searched log search answered = subst (λ Same. IsAnswered Same log.opening log.terms log.ops search) fields_are_equality answered

pub fault_found : (log : History Band) (error : SearchError) (f : Fault) → CanBeSearched log
    → IsFault HaveSameFields log.opening log.terms log.ops error → f ≡ fault_of error → IsLogFault log f
fault_found log error f can stands is =
    let by_value : StandsInTheWay log error = subst (λ Same. IsFault Same log.opening log.terms log.ops error) fields_are_equality stands in
    subst (IsLogFault log) (sym is) (is_fault log error (is_of_log HaveSameFields log error can stands) by_value)
