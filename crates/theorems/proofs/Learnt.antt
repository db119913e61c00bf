-- What is so of all that was told is so of the last.
use Rattle.std.proofs.Common.{◌≡◌, List, [], ◌∷◌, ◌++◌, All, ◌∙◌, ap, length, refl, subst}
use Rattle.std.proofs.lemmas.List.Elements.{All-get_or}
use Rattle.std.proofs.lemmas.Option.{get_or_from_slice_get, slice_get_within}
use Rattle.cell_contract.proofs.Heard.{learnt_last}
use Rattle.cell_contract.proofs.ListLaws.{all_one}
use Rattle.cell_contract.specs.CallsSoFar.{AreCallsSoFar}
use Rattle.cell_contract.specs.Intervals.{AreFirst}
use Rattle.cell_contract.specs.declared.times.Known.{Known}
use Rattle.cell_contract.specs.declared.times.Times.{Times}

pub of_last : {A : Type 0} (P : A → Type 0) (xs : List A) (x : A) (all : List A) → all ≡ xs ++ x ∷ [] → All P all → P x
of_last P xs x all is h =
    let at = learnt_last xs all x is in
    subst P (get_or_from_slice_get all (length xs) x x at) (All-get_or P all (length xs) x (slice_get_within all (length xs) x at) h)

pub so_far_of_last : {T : Type 0} (fits : T → Type 0) (rises : T → T → Type 0) (opening : T) (before : List (Known T)) (told : Known T)
    (heard : List (Known T)) → heard ≡ before ++ told ∷ [] → (answers : List T) (reads : Times) →
    AreCallsSoFar fits rises opening heard answers reads → AreCallsSoFar fits rises opening (told ∷ []) answers reads
so_far_of_last fits rises opening before told heard is answers reads h = record {
  written = h.written;
  writes = h.writes;
  lawful = h.lawful;
  in_turn = h.in_turn;
  begun = h.begun;
  ended = h.ended;
  told = all_one (λ t. AreFirst t h.written h.writes) told
      (of_last (λ t. AreFirst t h.written h.writes) before told heard is h.told);
  order = h.order;
}
