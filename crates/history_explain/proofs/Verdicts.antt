-- What was found breaks the rule that the verdict names.
use Rattle.std.proofs.Common.{ℕ, List, Option, None, Some, IfNone, IfSome, IsSomeAnd}
use Rattle.history_explain.specs.Breaks.{IsFirstBreak, IsListingBreak, IsReadingBreak, verdict_of}
use Rattle.history_core.specs.Orders.{IsListing, IsVerdict, KeepsPrecedence, ReadsLatest}
use Rattle.history_explain.specs.declared.breaks.Break.{Break}
use Rattle.history_explain.specs.declared.breaks.Break.TheVariants.{NoPlace, Times, Precedence, NoItem, Reading, Limit}
use Rattle.history_core.specs.declared.history.Op.{Op}
use Rattle.history_core.specs.declared.history.Term.{Term}

module _ {R : Type 0} (Same : R → R → Type 0) (opening : R) (terms : List Term) (ops : List (Op R)) (order : List ℕ) where
  -- the rule and the first that breaks it
  abbrev pub IsFound : Option Break → Type 0
  IsFound found = IsVerdict Same opening terms ops order (verdict_of found) × IfSome found (IsFirstBreak Same opening terms ops order)

  pub listing_found : (found : Option Break) → ¬ IsListing ops order → IsSomeAnd found (IsListingBreak ops order) → IsFound found
  listing_found None h b = absurd b
  listing_found (Some (NoPlace e)) h b = (h, b)
  listing_found (Some (Times p t)) h b = (h, b)
  listing_found (Some (Precedence e f)) h b = absurd b
  listing_found (Some (NoItem e)) h b = absurd b
  listing_found (Some (Reading e w)) h b = absurd b
  listing_found (Some (Limit e w)) h b = absurd b

  pub reading_found : (found : Option Break) → IsListing ops order × KeepsPrecedence ops order × ¬ ReadsLatest Same opening ops order
      → IfNone found (ReadsLatest Same opening ops order) → IfSome found (IsReadingBreak Same opening ops order) → IsFound found
  reading_found None h n b = absurd (h.2 n)
  reading_found (Some (NoItem e)) h n b = (h, b)
  reading_found (Some (Reading e w)) h n b = (h, b)
  reading_found (Some (NoPlace e)) h n b = absurd b
  reading_found (Some (Times p t)) h n b = absurd b
  reading_found (Some (Precedence e f)) h n b = absurd b
  reading_found (Some (Limit e w)) h n b = absurd b
