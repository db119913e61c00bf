-- What a search answers about a whole log. This project's own, over the verdict on an order and the reasons.
use Rattle.std.specs.Prelude.{◌≡◌, ℕ, ◌<◌, ◌≤◌, true, false, List, length, take, slice_get, Some}
use Rattle.history_core.specs.declared.history.Op.{Op}
use Rattle.history_core.specs.declared.history.Verdict.TheVariants.{Lawful as LawfulOrder}
use Rattle.history_core.specs.Numbers.{StandsAt}
use Rattle.history_core.specs.Orders.{is_write, IsVerdict, writes_in}
use Rattle.history_core.specs.Reasons.{OfOneRecord}
use Rattle.history_core.specs.Searches.{IsFault, IsUnlawful}
use Rattle.history_core.specs.declared.reason.Reason.{Reason}
use Rattle.history_core.specs.declared.reason.Reason.TheVariants.{Unwritten, Early, Stale, Crossed, Limit}
use Rattle.history_core.specs.declared.reason.SearchError.{SearchError}
use Rattle.history_core.specs.declared.thinned.LogAnswer.{LogAnswer}
use Rattle.history_core.specs.declared.thinned.LogAnswer.TheVariants.{Lawful, Unlawful}
use Rattle.history_thinning.specs.Thinnings.{Equal, one_term}

-- an order of the whole log is lawful; its writes stand as listed, each with as many listed before it as stand before
-- it; and answers of one record stand by beginning
pub record IsLawfulBy (limit : ℕ) (log : List (Op ℕ)) (writes order : List ℕ) : Type 0 where
  pub lawful : IsVerdict Equal 0 (one_term limit) log order LawfulOrder
  pub long : length writes ≡ writes_in (λ _. true) log order
  pub listed : (i p : ℕ) (o : Op ℕ) → StandsAt log order i p o → is_write o.kind ≡ true →
      slice_get writes (writes_in (λ _. true) log (take i order)) ≡ Some p
  pub by_beginning : (i j p q : ℕ) (a b : Op ℕ) → StandsAt log order i p a → StandsAt log order j q b → i < j →
      is_write a.kind ≡ false → OfOneRecord Equal a b → a.starts ≤ b.starts

-- the answer: such an order exists; or none is lawful, and this is a reason of the first rule that
-- any reason of the whole log has
abbrev pub IsThinnedAnswer : ℕ → List (Op ℕ) → LogAnswer → Type 0
IsThinnedAnswer limit log (Lawful writes) = (order : List ℕ) × IsLawfulBy limit log writes order
IsThinnedAnswer limit log (Unlawful reason) = IsUnlawful Equal 0 limit (one_term limit) log reason

-- the operation at this place of the log was kept
abbrev pub IsKeptAt : List ℕ → ℕ → Type 0
IsKeptAt places p = (i : ℕ) × (slice_get places i ≡ Some p)

-- each operation that a reason names was kept
abbrev pub NamesKept : List ℕ → Reason → Type 0
NamesKept places (Unwritten read) = IsKeptAt places read
NamesKept places (Early read write) = IsKeptAt places read × IsKeptAt places write
NamesKept places (Stale before read) = IsKeptAt places before × IsKeptAt places read
NamesKept places (Crossed a b c d) = IsKeptAt places a × IsKeptAt places b × IsKeptAt places c × IsKeptAt places d
NamesKept places (Limit refused) = IsKeptAt places refused

abbrev pub IsOfKept : List ℕ → LogAnswer → Type 0
IsOfKept places (Lawful writes) = Unit {0}
IsOfKept places (Unlawful reason) = NamesKept places reason

-- what stands in the way of a search of this log: what a search of the whole of it would tell
abbrev pub IsThinnedFault : List (Op ℕ) → SearchError → Type 0
IsThinnedFault log error = (limit : ℕ) → IsFault Equal 0 (one_term limit) log error
