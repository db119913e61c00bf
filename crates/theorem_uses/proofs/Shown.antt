-- Each consequence is a part of its definition.
use Rattle.std.proofs.Common.{◌≡◌, ◌⊎◌, Bool, ℕ, ◌+◌, ◌<◌, ◌≤◌, List, [], ◌∷◌, ◌++◌, All, length, slice_get, Some}
use Rattle.std.proofs.Common.{refl, sym, ◌∙◌, ap, subst, inl, inr, arith}
use Rattle.std.proofs.lemmas.List.{length-append}
use Rattle.std.proofs.lemmas.List.Elements.{All-get_or}
use Rattle.std.proofs.lemmas.Option.{get_or_from_slice_get, slice_get_within}
use Rattle.matrix_core.specs.Choices.{IsAtMost}
use Rattle.cell_contract.specs.Intervals.{AreFirst, At, IsHeeded}
use Rattle.cell_contract.specs.Running.{last_or}
use Rattle.board_live.specs.declared.record.Posted.{Posted}
use Rattle.board_live.specs.Records.{Rises}
use Rattle.theorem_uses.specs.Parts.{AnsweredShow, CountsShow, FollowsShow, GreatestShows, MindfulShows, NothingShows}
use Rattle.theorem_uses.specs.Parts.{NumbersShow, OpsShow, ReadsShow, WritesShow}

all_there : {A : Type 0} (P : A → Type 0) (xs : List A) (k : ℕ) (x : A) → All P xs → slice_get xs k ≡ Some x → P x
all_there P xs k x h e = subst P (get_or_from_slice_get xs k x x e) (All-get_or P xs k x (slice_get_within xs k x e) h)

at_most : {V : Type 0} (a b : Posted V) → Rises a b → IsAtMost a.stamp b.stamp
at_most a b (inl below) = inr below
at_most a b (inr same) = inl same.0

not_less : {B : Type 0} (m n : ℕ) → (m < n) ⊎ B → n ≤ m → B
not_less m n (inl l) le = absurd (omega (arith, l, le))
not_less m n (inr b) le = b

module _ {T : Type 0} where
  pub reads : ReadsShow T
  reads opening old new answer h = (
    h.answers,
    h.told,
    h.heard,
    ap length h.numbered.numbers ∙ length-append old.numbers (h.numbered.number ∷ []),
    λ k told at. (all_there (λ t. IsHeeded t new.known (last_or 0 new.numbers)) new.heard k told h.heeds at).later,
  )

  pub writes : WritesShow T
  writes old new item h = h.items

  pub answered : AnsweredShow T
  answered obeys opening old new answer h = (
    h.running.0,
    at_most opening answer h.running.1,
    at_most (last_or opening old.answers) answer h.running.2,
    λ k told at. at_most told answer (all_there (λ t. Rises t answer) old.told k told h.running.3 at),
    h.read.answers,
  )

  pub order : NumbersShow T
  order ops number places h = (
    h.places,
    h.once,
    h.all,
    λ i j p q a b x at_p y at_q l le. not_less (number p) (number q) (h.sorted i j p q a b (x, at_p) (y, at_q) l) le,
  )

  pub counts : CountsShow T
  counts opening written w answers numbers r h = (h.reads_counted.0, h.reads_counted.1, h.writes_ended.0, h.writes_ended.1)

  pub greatest : GreatestShows T
  greatest n first last did h = ((h.process, h.inside, h.own), h.greatest)

  pub operations : OpsShow T
  operations written answers w r numbers ops number p op h at = elim (h.each p op at) [
    | inl x ↦ inl (x.0, x.1.kind, x.1.item, x.2)
    | inr x ↦ inr (x.0, x.2.kind, x.2.item, subst (At numbers x.0) (sym x.4) x.3)
  ]

  pub nothing : NothingShows T
  nothing op b = (λ h. h, λ h. h)

  pub follows : FollowsShow T
  follows item op = (λ h. h, λ h. h)

  pub mindful : MindfulShows T
  mindful old new k told h =
      (h.same, λ at. all_there (λ t. AreFirst t new.known.items new.known.times) new.heard k told h.first at)
