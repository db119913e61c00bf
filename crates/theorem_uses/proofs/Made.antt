-- The parts of a pass and of a call; the steps of a call are those of one access or of two.
use Rattle.std.proofs.Common.{◌≡◌, ◌⊎◌, Bool, ℕ, ◌+◌, true, false, List, [], ◌∷◌, length, refl, ◌∙◌, ap, subst, inl, inr}
use Rattle.std.proofs.Common.{arith}
use Rattle.std.proofs.Common.{All, slice_get, Some}
use Rattle.std.proofs.lemmas.List.Elements.{All-get_or}
use Rattle.std.proofs.lemmas.Option.{get_or_from_slice_get, slice_get_within}
use Rattle.matrix_core.specs.Choices.{IsAtMost}
use Rattle.cell_contract.specs.Intervals.{IsHeeded}
use Rattle.cell_contract.specs.Running.{last_or}
use Rattle.cell_contract.specs.declared.family.Family.{Ghosts as FamilyWords}
use Rattle.board_history.specs.BoardRuns.{steps_of_call}
use Rattle.board_live.specs.declared.record.Posted.{Posted}
use Rattle.board_live.specs.Records.{Rises, stamped}
use Rattle.theorem_uses.specs.Passes.{AllPassesShow, CallsShow, MadeShows, PassesShow}

all_there : {A : Type 0} (P : A → Type 0) (xs : List A) (k : ℕ) (x : A) → All P xs → slice_get xs k ≡ Some x → P x
all_there P xs k x h e = subst P (get_or_from_slice_get xs k x x e) (All-get_or P xs k x (slice_get_within xs k x e) h)

at_most : {V : Type 0} (a b : Posted V) → Rises a b → IsAtMost a.stamp b.stamp
at_most a b (inl below) = inr below
at_most a b (inr same) = inl same.0

none : {A : Type 0} (xs : List A) → length xs ≡ 0 → xs ≡ []
none [] e = refl
none (x ∷ xs) e = absurd (omega (arith, e))

-- the steps of a call of a process of two, over registers of one step
steps : (tells finds : Bool) → (steps_of_call 1 2 tells finds ≡ 1) ⊎ (steps_of_call 1 2 tells finds ≡ 2)
steps true finds = inr refl
steps false true = inr refl
steps false false = inl refl

one_or_two : (width n old new : ℕ) (tells finds : Bool) → n ≡ 2 → width ≡ 1 → new ≡ old + steps_of_call width n tells finds →
    (new ≡ old + 1) ⊎ (new ≡ old + 2)
one_or_two width n old new tells finds two one e =
    let is : steps_of_call width n tells finds ≡ steps_of_call 1 2 tells finds =
    ap (λ z. steps_of_call z n tells finds) one ∙ ap (λ z. steps_of_call 1 z tells finds) two in
    elim (steps tells finds) [
      | inl s ↦ inl (e ∙ ap (λ z. old + z) (is ∙ s))
      | inr s ↦ inr (e ∙ ap (λ z. old + z) (is ∙ s))
    ]

module _ {V F S T : Type 0} (words : FamilyWords F (Posted V) S T) (obeys : V → Bool) where
  pub calls : CallsShow words obeys
  calls board kind old new seen call = (
    call.process,
    elim call.known [
      | inl own ↦ inl own
      | inr h ↦ inr (
        h.0,
        h.1,
        h.2,
        h.3,
        h.4,
        λ k told at. (all_there (λ t. IsHeeded t (words.reads new.seat h.0).known h.1)
            (words.reads new.seat h.0).heard k told h.5 at).later,
      )
    ],
    at_most old.own seen call.rises,
    at_most seen new.own call.onward,
    λ two one. one_or_two words.width board.processes (length (words.times old.seat))
        (length (words.times new.seat)) call.tells call.finds two one call.steps,
    λ h. (
      record {
        begin = call.begin;
        end = call.end;
        kind = kind;
        seen = stamped seen;
        chosen = stamped new.own;
        tells = call.tells;
        finds = call.finds;
      },
      call.made [] h,
      refl,
      refl,
      refl,
      call.interval.1,
    ),
  )

  pub made : MadeShows words obeys
  made board pass = (λ h. (h.own, none (words.times pass.seat) h.made.long), λ call h. h.own)

  pub passes : PassesShow words obeys
  passes board pass h = (
    h.size.0,
    h.size.1,
    h.some,
    h.processes,
    h.opens,
    ap (λ s. s.tag) h.first,
    ap (λ s. s.writer) h.first,
    h.inside,
    h.room.0,
    h.room.1,
    h.seat,
    h.who,
    h.lawful,
    λ j l ne. (at_most (last_or board.first (words.writes pass.seat j).items) pass.own (h.below j l ne), λ t. h.last t j l ne),
    h.limit,
    h.made.0,
    h.made.1,
  )

  pub all_passes : AllPassesShow words obeys
  all_passes board ps h = (
    h.all,
    h.some,
    λ i p e. let x = h.each i p e in (x.1, x.0.who ∙ x.1),
  )
