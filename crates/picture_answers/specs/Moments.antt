-- The moments of a history, and its operations by the ranks of theirs (this project's own).
use Rattle.std.specs.Prelude.{ℕ, ◌++◌, List, [], ◌∷◌, map, nat_lt, Option, None, Some, option_map}
use Rattle.std.specs.List.{Contains, count_by, flat_map}
use Rattle.std.specs.List.Sorted.{IsStrictlyIncreasing}
use Rattle.history_core.specs.declared.band.Band.{Band}
use Rattle.history_core.specs.declared.history.History.{History}
use Rattle.history_core.specs.declared.history.Op.{Op}

abbrev pub end_moments : Option ℕ → List ℕ
end_moments None = []
end_moments (Some end) = end ∷ []

-- when an operation begins, and when it ends if it does
abbrev pub op_moments : Op Band → List ℕ
op_moments o = (o.starts ∷ []) ++ end_moments o.ends

abbrev pub all_moments : List (Op Band) → List ℕ
all_moments ops = flat_map op_moments ops

-- the moments at which operations begin or end, rising, each once
pub record AreMoments (ops : List (Op Band)) (moments : List ℕ) : Type 0 where
  pub rise : IsStrictlyIncreasing moments
  pub all : (moment : ℕ) → Contains (all_moments ops) moment → Contains moments moment
  pub only : (moment : ℕ) → Contains moments moment → Contains (all_moments ops) moment

-- how many of these come before a moment
abbrev pub rank_in : List ℕ → ℕ → ℕ
rank_in moments moment = count_by (λ m. nat_lt m moment) moments

abbrev pub ranked_op : List ℕ → Op Band → Op Band
ranked_op moments o = record {
  who = o.who;
  kind = o.kind;
  starts = rank_in moments o.starts;
  ends = option_map (rank_in moments) o.ends;
  item = o.item;
}

-- the same history, each moment of which is its rank
abbrev pub ranked_history : List ℕ → History Band → History Band
ranked_history moments h = record { opening = h.opening; terms = h.terms; ops = map (ranked_op moments) h.ops }
