-- A pass's own record isn't below the last answer of any other process: its last call saw this answer, and chose no less.
use Rattle.std.proofs.Common.{◌≡◌, ◌≢◌, Bool, ℕ, zero, suc, ◌+◌, ◌<◌, List, [], ◌∷◌, length, map, slice_get, Some}
use Rattle.std.proofs.Common.{refl, sym, ◌∙◌, ap, subst, arith, inl}
use Rattle.std.proofs.lemmas.List.{length-map}
use Rattle.std.proofs.lemmas.Option.{same_Some}
use Rattle.cell_contract.specs.Running.{last_or}
use Rattle.cell_contract.proofs.ListLaws.{last_here}
use Rattle.cell_contract.specs.declared.family.Family.{Ghosts as FamilyWords}
use Rattle.matrix_core.specs.declared.stamp.Stamped.{Stamped}
use Rattle.matrix_core.specs.Choices.{IsAtMost}
use Rattle.matrix_core.specs.Lines.{other}
use Rattle.matrix_core.proofs.choices.Rise.{chosen_at_least}
use Rattle.matrix_core.proofs.choices.Stamps.{at_most_trans}
use Rattle.matrix_core.proofs.lines.Others.{other_reached}
use Rattle.matrix_core.proofs.lists.Elements.{get_exists}
use Rattle.matrix_core.proofs.orders.Listing.{get_map_back}
use Rattle.board_history.specs.BoardRuns.{Called, Did, IsProcess, own_before}
use Rattle.board_history.proofs.Rising.{greatest_each, own_next, own_zero}
use Rattle.board_live.specs.declared.board.Board.{Board}
use Rattle.board_live.specs.declared.board.Pass.{Pass}
use Rattle.board_live.specs.declared.record.Posted.{Posted}
use Rattle.board_live.specs.Passes.{did_of, HasMade, IsPass}
use Rattle.board_live.specs.Records.{stamped}

module _ {V : Type 0} (width n limit : ℕ) (first : Posted V) (i : ℕ) (did : Did V)
    (is : IsProcess width n limit (stamped first) i did) where
  abbrev own : ℕ → Stamped V
  own k = own_before (stamped first) did.calls k

  -- as many answers as calls
  counted : (e : ℕ) → e + 1 < n → (answers : List (Posted V)) → (did.reads (other i e)).items ≡ map stamped answers →
      length answers ≡ length did.calls
  counted e l answers made = sym (length-map answers stamped) ∙ ap length (sym made) ∙ is.answered e l

  -- what a process chose last isn't below its last answer of another one
  last_seen : (e : ℕ) → e + 1 < n → (answers : List (Posted V)) → (did.reads (other i e)).items ≡ map stamped answers →
      (count : ℕ) → length did.calls ≡ count → IsAtMost (last_or first answers).stamp (own count).stamp
  last_seen e l [] made zero none = inl (ap (λ (z : Stamped V). z.stamp) (sym (own_zero (stamped first) did.calls)))
  last_seen e l (a ∷ more) made zero none =
      let long : suc (length more) ≡ 0 = counted e l (a ∷ more) made ∙ none in absurd (omega arith)
  last_seen e l answers made (suc k) some =
      let c = get_exists did.calls k (omega arith) in
      let s = is.sees k c.0 c.1 in
      let a = get_exists s.answers e (let z = s.each in omega arith) in
      let x = get_map_back stamped answers k a.0 (ap (λ xs. slice_get xs k) (sym made) ∙ s.answered e a.0 a.1) in
      let long : length answers ≡ suc k = counted e l answers made ∙ some in
      let last : last_or first answers ≡ x.0 = same_Some (last_or first answers) x.0
      (sym (last_here first answers) ∙ ap (slice_get (first ∷ answers)) long ∙ x.1) in
      let seen : IsAtMost a.0.stamp c.0.seen.stamp = subst (λ z. IsAtMost a.0.stamp z.stamp) (sym s.greatest)
      (greatest_each (own k) s.answers e a.0 a.1) in
      let chosen : IsAtMost c.0.seen.stamp c.0.chosen.stamp = chosen_at_least limit
      (record { place = 0; who = i; kind = c.0.kind; stamp = c.0.chosen.stamp; item = c.0.chosen.item })
      c.0.seen.stamp c.0.seen.item (is.chooses k 0 c.0 c.1) in
      subst (λ (z : Posted V). IsAtMost z.stamp (own (suc k)).stamp) (sym last)
      (subst (λ (z : Stamped V). IsAtMost z.stamp (own (suc k)).stamp) (sym x.2)
      (subst (λ (z : Stamped V). IsAtMost a.0.stamp z.stamp) (sym (own_next (stamped first) did.calls k c.0 c.1))
      (at_most_trans a.0.stamp c.0.seen.stamp c.0.chosen.stamp seen chosen)))

module _ {V F S T : Type 0} (words : FamilyWords F (Posted V) S T) (obeys : V → Bool) (board : Board V F S T) (pass : Pass V F S T)
    (of : IsPass words obeys board pass) where
  pub own_newest : (j : ℕ) → j < board.processes → j ≢ pass.process →
      IsAtMost (last_or (words.opening board.family) (words.reads pass.seat j).answers).stamp pass.own.stamp
  own_newest j l ne =
      let calls : List (Called V) = of.made.0 in
      let made : HasMade words board pass calls = of.made.1 in
      let e = other_reached board.processes pass.process j of.inside l ne in
      subst (λ z. IsAtMost (last_or (words.opening board.family) (words.reads pass.seat z).answers).stamp pass.own.stamp) e.2
      (subst (λ (z : Posted V). IsAtMost (last_or z (words.reads pass.seat (other pass.process e.0)).answers).stamp pass.own.stamp)
      (sym of.opens)
      (subst (λ (z : Stamped V). IsAtMost (last_or board.first (words.reads pass.seat (other pass.process e.0)).answers).stamp z.stamp)
      (sym made.own)
      (last_seen words.width board.processes board.limit board.first pass.process (did_of words pass.seat calls) made.made e.0 e.1
      (words.reads pass.seat (other pass.process e.0)).answers refl (length calls) refl)))
