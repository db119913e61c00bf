-- What a process wrote are the records of its calls, each of which has made its column.
use Rattle.std.proofs.Common.{◌≡◌, ℕ, ◌+◌, ◌<◌, List, [], ◌∷◌, map, slice_get, Some, refl, sym, ◌∙◌, ap}
use Rattle.std.specs.Option.{option_map}
use Rattle.std.proofs.lemmas.Option.{none-some, same_Some, slice_get-map}
use Rattle.matrix_core.specs.declared.stamp.Stamped.{Stamped}
use Rattle.board_history.specs.BoardRuns.{Called, records}
use Rattle.board_history.specs.RunsSoFar.{AreFirstOf}
use Rattle.board_live.specs.declared.record.Posted.{Posted}
use Rattle.board_live.specs.Records.{stamped}
use Rattle.theorem_uses.specs.Planned.{WritesAfterItReads, WritesOneRecordARow}

nothing_there : (ts : List ℕ) (k t : ℕ) → ts ≡ [] → slice_get ts k ≡ Some t → ⊥
nothing_there ts k t none at = none-some t (ap (λ ts. slice_get ts k) (sym none) ∙ at)

module _ {V : Type 0} where
  pub one_record_a_row : WritesOneRecordARow V
  one_record_a_row opening width n limit process done d e k a b made ld le at_a at_b =
      let p = made.1 (λ j. []) in
      let first = p.written d ld k (stamped a) (slice_get-map stamped _ k ∙ ap (option_map stamped) at_a) in
      let second = p.written e le k (stamped b) (slice_get-map stamped _ k ∙ ap (option_map stamped) at_b) in
      let same : stamped a ≡ stamped b = same_Some (stamped a) (stamped b) (sym first ∙ second) in
      let posted : Stamped V → Posted V = λ s. record { stamp = s.stamp; item = s.item } in
      ap posted same

  no_calls : (calls : List (Called V)) → ((c : Called V) → slice_get calls 0 ≡ Some c → ⊥) → calls ≡ []
  no_calls [] none = refl
  no_calls (c ∷ calls) none = absurd (none c refl)

  none_written : (items : List (Posted V)) (calls : List (Called V)) → calls ≡ [] → AreFirstOf (map stamped items) (records calls) →
      items ≡ []
  none_written [] calls none first = refl
  none_written (x ∷ items) calls none first =
      absurd (none-some (stamped x) (ap (λ cs. slice_get (records cs) 0) (sym none) ∙ first 0 (stamped x) refl))

  pub after_it_reads : WritesAfterItReads V
  after_it_reads opening width n limit process done e made le none =
      let p = made.1 (λ j. []) in
      none_written _ made.0
      (no_calls made.0 (λ c at. let x = p.chose 0 c at in nothing_there done.times _ x.0 none x.1)) (p.written e le)
