-- The ranks of places.
use Rattle.std.proofs.Common.{◌≡◌, ℕ, ◌+◌, ◌<◌, Bool, true, false, not, List, [], ◌∷◌, ◌++◌, length, map, refl, sym, ◌∙◌, ap, subst}
use Rattle.std.proofs.Common.{slice_get, Option, None, Some, arith, zero, suc}
use Rattle.std.proofs.Common.{get_or}
use Rattle.std.specs.Prelude.{option_map}
use Rattle.std.specs.List.Sorted.{IsPermutation}
use Rattle.std.proofs.lemmas.List.{length-map, map-append}
use Rattle.std.proofs.lemmas.List.Sorted.{IsPermutation-map}
use Rattle.std.proofs.lemmas.Option.{slice_get-get_or, slice_get-map}
use Rattle.history_core.specs.declared.history.Op.{Op}
use Rattle.history_core.specs.Orders.{is_write}
use Rattle.history_search.specs.declared.rank.Rank.{Rank}
use Rattle.history_search.specs.declared.span.Span.{Span}
use Rattle.history_search.specs.inner.Found.{AreSorted, AreStraight, cut_by, IsLateOrder, refused_in}
use Rattle.history_search.specs.inner.Groups.{Member}
use Rattle.history_search.specs.inner.Ranks.{AreRanks, IsRank, NoneTurned, rank_in, rank_of, ranks_in, stands_in, stands_with}
use Rattle.history_search.proofs.Loops.{ranks_more, ranks_skip, ranks_sorted}

not_not : (b : Bool) → b ≡ not (not b)
not_not true = refl
not_not false = refl

module _ {R : Type 0} (ops : List (Op R)) (groups : List (Option ℕ)) (spans : List Span) (cut : Option (Option ℕ)) where
  -- the places are those of the ranks
  pub same_places : (places : List ℕ) → places ≡ map (λ (r : Rank). r.place) (ranks_in ops groups spans cut places)
  same_places [] = refl
  same_places (p ∷ places) = ap (λ (l : List ℕ). p ∷ l) (same_places places)

  pub as_many : (places : List ℕ) → length (ranks_in ops groups spans cut places) ≡ length places
  as_many places = length-map places (rank_in ops groups spans cut)

  -- the rank of the operation at the place that stands here
  pub rank_there : (places : List ℕ) (i : ℕ) (r : Rank) → i < length places → r ≡ rank_in ops groups spans cut (get_or places i 0) →
      slice_get (ranks_in ops groups spans cut places) i ≡ Some r
  rank_there places i r l e =
      slice_get-map (rank_in ops groups spans cut) places i ∙ ap (option_map (rank_in ops groups spans cut)) (slice_get-get_or places i 0 l)
      ∙ ap Some (sym e)

  member_is : (place g : ℕ) (o : Op R) → slice_get groups place ≡ Some (Some g) → slice_get ops place ≡ Some o →
      stands_in cut g (slice_get spans g) ≡ true → IsRank ops groups spans cut (rank_of spans cut g (Some o) place)
  member_is place g o at here stood = record {
    op = o;
    member = (here, at);
    starts = refl;
    answers = not_not (is_write o.kind);
    late = refl;
    first = refl;
    last = refl;
    wanted = stood;
  }

  -- an operation of a group that stands has a rank
  pub rank_is : (place : ℕ) (o : Op R) → slice_get ops place ≡ Some o → stands_with cut spans (slice_get groups place) ≡ true →
      IsRank ops groups spans cut (rank_in ops groups spans cut place)
  rank_is place o here stood = by (slice_get groups place) refl stood
    where
      by : (found : Option (Option ℕ)) → slice_get groups place ≡ found → stands_with cut spans found ≡ true →
          IsRank ops groups spans cut (rank_in ops groups spans cut place)
      by None e s = cc
      by (Some None) e s = cc
      by (Some (Some g)) e s = rw (e, here) (member_is place g o e here s)

  pub op_there : (n : ℕ) → n < length ops → (o : Op R) × (slice_get ops n ≡ Some o)
  op_there n l = by ops n l
    where
      by : (xs : List (Op R)) (k : ℕ) → k < length xs → (o : Op R) × (slice_get xs k ≡ Some o)
      by [] k l = absurd (omega arith)
      by (x ∷ xs) zero l = (x, refl)
      by (x ∷ xs) (suc k) l = by xs k (omega arith)

  pub ranks_next : (n : ℕ) (places : List ℕ) (o : Op R) → slice_get ops n ≡ Some o →
      stands_with cut spans (slice_get groups n) ≡ true → AreRanks ops groups spans cut n (ranks_in ops groups spans cut places) →
      AreRanks ops groups spans cut (n + 1) (ranks_in ops groups spans cut (places ++ n ∷ []))
  ranks_next n places o here stood h =
      subst (λ (l : List Rank). AreRanks ops groups spans cut (n + 1) l)
      (sym (map-append (rank_in ops groups spans cut) places (n ∷ [])))
      (ranks_more ops groups spans cut n (ranks_in ops groups spans cut places) (rank_in ops groups spans cut n)
      (rank_is n o here stood) refl h)

  not_stood : (n : ℕ) → stands_with cut spans (slice_get groups n) ≡ false → (g : ℕ) (o : Op R) → Member ops groups n o g →
      stands_in cut g (slice_get spans g) ≡ false
  not_stood n isnt g o m = ap (stands_with cut spans) (sym m.1) ∙ isnt

  pub ranks_same : (n : ℕ) (places : List ℕ) → stands_with cut spans (slice_get groups n) ≡ false →
      AreRanks ops groups spans cut n (ranks_in ops groups spans cut places) →
      AreRanks ops groups spans cut (n + 1) (ranks_in ops groups spans cut places)
  ranks_same n places isnt h = ranks_skip ops groups spans cut n (ranks_in ops groups spans cut places) (not_stood n isnt) h

  pub ranks_moved : (n : ℕ) (places sorted : List ℕ) → IsPermutation places sorted →
      AreRanks ops groups spans cut n (ranks_in ops groups spans cut places) →
      AreRanks ops groups spans cut n (ranks_in ops groups spans cut sorted)
  ranks_moved n places sorted moved h = ranks_sorted ops groups spans cut n (ranks_in ops groups spans cut places)
      (ranks_in ops groups spans cut sorted) (IsPermutation-map (rank_in ops groups spans cut) places sorted moved) h

module _ {R : Type 0} (ops : List (Op R)) (groups : List (Option ℕ)) (spans : List Span) where
  pub straight_places : (places seen : List ℕ) → seen ≡ places →
      AreSorted ops groups spans None (ranks_in ops groups spans None places) →
      NoneTurned ops (ranks_in ops groups spans None seen) (length seen) →
      AreStraight ops groups spans (ranks_in ops groups spans None places)
  straight_places places seen same sorted none =
      let P : List ℕ → Type 0 = λ l. NoneTurned ops (ranks_in ops groups spans None l) (length l) in
      let Q : ℕ → Type 0 = λ n. NoneTurned ops (ranks_in ops groups spans None places) n in
      record { sorted = sorted; none = subst Q (sym (as_many ops groups spans None places)) (subst P same none) }

  pub late_order : (late : Option ℕ) (straight order found : List ℕ) →
      AreStraight ops groups spans (ranks_in ops groups spans None straight) → refused_in (slice_get spans 0) ≡ None →
      late ≡ cut_by spans None (ranks_in ops groups spans None straight) →
      AreSorted ops groups spans (Some late) (ranks_in ops groups spans (Some late) order) → found ≡ order →
      IsLateOrder ops groups spans found
  late_order late straight order found are unasked cut sorted same =
      let end : Option ℕ = cut_by spans None (ranks_in ops groups spans None straight) in
      let P : Option ℕ → Type 0 = λ z. AreSorted ops groups spans (Some z) (ranks_in ops groups spans (Some z) order) in
      record {
        straight = ranks_in ops groups spans None straight;
        are_straight = are;
        unasked = unasked;
        ranks = ranks_in ops groups spans (Some end) order;
        sorted = subst P cut sorted;
        is = same ∙ same_places ops groups spans (Some end) order;
      }
