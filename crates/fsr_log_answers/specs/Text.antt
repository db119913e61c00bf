-- The printed lines of a search for an order (this project's own).
use Rattle.std.specs.Prelude.{ℕ, ◌++◌, List, [], ◌∷◌, codes}
use Rattle.std.specs.Fmt.{decimal}
use Rattle.std.specs.List.{flat_map}
use Rattle.history_core.specs.declared.reason.Reason.{Reason}
use Rattle.history_core.specs.declared.reason.Reason.TheVariants.{Unwritten, Early, Stale, Crossed, Limit}
use Rattle.history_core.specs.declared.reason.Search.{Search}
use Rattle.history_core.specs.declared.reason.Search.TheVariants.{Order, Unlawful}

abbrev pub line_feed : ℕ
line_feed = 10

-- for each place a blank and its number
abbrev pub places_text : List ℕ → List ℕ
places_text places = flat_map (λ place. codes " " ++ decimal place) places

abbrev pub line_of : List ℕ → List ℕ → List ℕ
line_of words places = words ++ places_text places ++ line_feed ∷ []

-- the rule, and the places of the operations that show it
abbrev pub reason_text : Reason → List ℕ
reason_text (Unwritten read) = line_of (codes "unlawful unwritten") (read ∷ [])
reason_text (Early read write) = line_of (codes "unlawful early") (read ∷ write ∷ [])
reason_text (Stale before read) = line_of (codes "unlawful stale") (before ∷ read ∷ [])
reason_text (Crossed a b c d) = line_of (codes "unlawful crossed") (a ∷ b ∷ c ∷ d ∷ [])
reason_text (Limit refused) = line_of (codes "unlawful limit") (refused ∷ [])

-- the verdict, and the order as a played report tells it; or the reason
abbrev pub search_text : Search → List ℕ
search_text (Order order) = line_of (codes "lawful\norder:") order
search_text (Unlawful reason) = reason_text reason
