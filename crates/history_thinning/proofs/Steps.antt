-- What the calls of `enter` come to, and those of `finish`.
use Rattle.std.proofs.Common.{◌≡◌, ℕ, ◌<◌, true, false, List, [], ◌∷◌, ◌++◌, arith, length, set, get_or, slice_get, Option, None, Some}
use Rattle.std.proofs.Common.{refl, sym, ◌∙◌, ap, subst, inl, inr}
use Rattle.std.specs.Prelude.{IsSome, if◌then◌else◌}
use Rattle.std.proofs.lemmas.Bool.{cases_Bool}
use Rattle.std.proofs.lemmas.Option.{none-some, slice_get-get_or}
use Rattle.history_core.specs.declared.history.Op.{Op}
use Rattle.history_core.specs.declared.history.Term.{Term}
use Rattle.history_core.specs.Reasons.{counts}
use Rattle.history_core.specs.declared.reason.SearchError.{SearchError}
use Rattle.history_thinning.specs.declared.group.Roles.{Roles}
use Rattle.history_thinning.specs.Answers.{IsThinnedFault}
use Rattle.history_thinning.specs.Thinnings.{IsThinnedLog, one_term}
use Rattle.history_thinning.specs.inner.Entering.{counted_number, empty_roles, entry_fault, Grows, joined_roles, row_fault}
use Rattle.history_thinning.specs.inner.Kept.{AreKept, AreThinned, AreWithin, Group, group_at, groups_at, HasRoles, joined_group, nowhere}
use Rattle.history_thinning.proofs.Entered.{entered, faulted, kept_grown, skipped}
use Rattle.history_thinning.proofs.Finished.{finished}
use Rattle.history_thinning.proofs.RowLemmas.{alike_kept, fault_seen, group_is, groups_grow, groups_more, rows_longer, rows_more}
use Rattle.history_thinning.proofs.RowLemmas.{within_grown, within_more}

none_of : {X : Type 0} (o : Option X) → ((x : X) → o ≡ Some x → ⊥) → o ≡ None
none_of None never = refl
none_of (Some x) never = absurd (never x refl)

uncounted : (o : Op ℕ) → (counts o ≡ true → IsSome o.item) → counted_number o ≡ None → counts o ≡ false
uncounted o has none = elim (cases_Bool (counts o)) [
  | inr f ↦ f
  | inl t ↦
      let e : o.item ≡ None = sym (ap (λ b. if b then o.item else None) t) ∙ none in
      let P : Option ℕ → Type 0 = λ z. IsSome z in
      let bad = subst P e (has t) in
      cc
]

counted_is : (o : Op ℕ) (number : ℕ) → counted_number o ≡ Some number → (counts o ≡ true) × (o.item ≡ Some number)
counted_is o number h = elim (cases_Bool (counts o)) [
  | inl t ↦ (t, sym (ap (λ b. if b then o.item else None) t) ∙ h)
  | inr f ↦ let e : None ≡ Some number = sym (ap (λ b. if b then o.item else None) f) ∙ h in cc
]

pub thinned_same : (log ops : List (Op ℕ)) (places : List ℕ) (roles : List Roles) → AreThinned log ops places roles →
    (new_ops : List (Op ℕ)) → new_ops ≡ ops → (new_places : List ℕ) → new_places ≡ places → (new_roles : List Roles) → new_roles ≡ roles →
    AreThinned log new_ops new_places new_roles
thinned_same log ops places roles known new_ops eo new_places ep new_roles er =
    subst (λ z. AreThinned log z new_places new_roles) (sym eo) (subst (λ z. AreThinned log ops z new_roles) (sym ep)
    (subst (λ z. AreThinned log ops places z) (sym er) known))

kept_none : AreKept [] []
kept_none = record {
  each = λ number group e. absurd (none-some group e);
  all = λ p o e c. absurd (none-some o e);
  forwards = λ n p o l e. absurd (none-some o e);
  once = λ n. record { fresh = λ p l bad. bad; once = λ p q l bad. absurd (none-some bad.earlier bad.first_at) };
}

pub thinned_none : (ops : List (Op ℕ)) (places : List ℕ) (roles : List Roles) → ops ≡ [] → places ≡ [] → roles ≡ [] →
    AreThinned [] ops places roles
thinned_none ops places roles eo ep er =
    let none : AreThinned [] [] [] [] = record {
      rows = record {
        long = refl;
        few = omega arith;
        are = λ i p o e f. absurd (none-some p e);
        rise = λ i j p q l e f. absurd (none-some p e);
      };
      within = λ m own e. absurd (none-some own e);
      kept = kept_none;
    } in
    thinned_same [] [] [] [] none ops eo places ep roles er

module _ (log : List (Op ℕ)) (op : Op ℕ) (place : ℕ) (here : length log ≡ place) (ops : List (Op ℕ)) (places : List ℕ)
    (roles : List Roles) (known : AreThinned log ops places roles) (seen_places : List ℕ) (same_places : seen_places ≡ places)
    (seen_roles : List Roles) (same_roles : seen_roles ≡ roles) (test : Option SearchError)
    (tested : test ≡ row_fault seen_places seen_roles op place)
  where
    abbrev groups : List Group
    groups = groups_at ops places roles

    test_is : test ≡ entry_fault groups op (length log)
    test_is = tested ∙ ap (λ z. row_fault z seen_roles op place) same_places ∙ ap (λ z. row_fault places z op place) same_roles
        ∙ fault_seen ops places known.rows.long roles op place ∙ ap (entry_fault groups op) (sym here)

    pub has_fault : (error : SearchError) → test ≡ Some error → IsThinnedFault (log ++ op ∷ []) error
    has_fault error e = faulted log op groups known.kept error (sym test_is ∙ e)

    module _ (fine : (error : SearchError) → test ≡ Some error → ⊥) (number : Option ℕ) (numbered : number ≡ counted_number op) where
      free : entry_fault groups op (length log) ≡ None
      free = sym test_is ∙ none_of test fine

      pub is_skipped : (counts op ≡ true → IsSome op.item) → ((n : ℕ) → number ≡ Some n → ⊥) → AreThinned (log ++ op ∷ []) ops places roles
      is_skipped has none = record {
        rows = rows_longer log op ops places known.rows;
        within = known.within;
        kept = skipped log op groups known.kept free (uncounted op has (sym numbered ∙ none_of number none));
      }

      module _ (n : ℕ) (is : number ≡ Some n) (grown : List Roles) (grows : Grows empty_roles roles grown) (l : n < length grown)
          (few : length ops < nowhere) where
        abbrev own : Roles
        own = get_or grown n empty_roles

        own_at : slice_get grown n ≡ Some own
        own_at = slice_get-get_or grown n empty_roles l

        within : (m : ℕ) (x : Roles) → slice_get grown m ≡ Some x → AreWithin (length ops) x
        within = within_grown ops places known.rows.few roles grown grows known.within

        abbrev Made : List (Op ℕ) → List ℕ → List Roles → Type 0
        Made xs ps rs = AreThinned (log ++ op ∷ []) xs ps rs

        joined : AreKept (log ++ op ∷ []) (groups_at (ops ++ op ∷ []) (places ++ length log ∷ [])
            (set grown n (joined_roles ops own op (length ops))))
        joined =
            let c = counted_is op n (sym numbered ∙ is) in
            let old = groups_at ops places grown in
            let at : slice_get old n ≡ Some (group_at ops places own) = group_is ops places grown n own own_at in
            alike_kept (log ++ op ∷ [])
            (set old n (joined_group (group_at ops places own) (record { op = op; place = length log })))
            (groups_at (ops ++ op ∷ []) (places ++ length log ∷ []) (set grown n (joined_roles ops own op (length ops))))
            (groups_more ops places known.rows.long few op (length log) grown within n own own_at)
            (entered log op groups known.kept old (groups_grow ops places known.rows.few roles grown grows) free n
            (group_at ops places own) c.1 c.0 at)

        row_made : Made (ops ++ op ∷ []) (places ++ place ∷ []) (set grown n (joined_roles ops own op (length ops)))
        row_made = subst (λ z. Made (ops ++ op ∷ []) (places ++ z ∷ []) (set grown n (joined_roles ops own op (length ops)))) here (record {
          rows = rows_more log op ops places known.rows few;
          within = within_more ops places known.rows.long few op (length log) grown within n own own_at;
          kept = joined;
        })

        pub is_entered : (new_ops : List (Op ℕ)) → new_ops ≡ ops ++ op ∷ [] → (new_places : List ℕ) → new_places ≡ places ++ place ∷ [] →
            (new_roles : List Roles) → new_roles ≡ set grown n (joined_roles ops own op (length ops)) → Made new_ops new_places new_roles
        is_entered new_ops eo new_places ep new_roles er =
            let rs : List Roles = set grown n (joined_roles ops own op (length ops)) in
            subst (λ z. Made z new_places new_roles) (sym eo) (subst (λ z. Made (ops ++ op ∷ []) z new_roles) (sym ep)
            (subst (λ z. Made (ops ++ op ∷ []) (places ++ place ∷ []) z) (sym er) row_made))

-- empty roles more keep as much
pub thinned_grown : (log : List (Op ℕ)) (op : Op ℕ) (ops : List (Op ℕ)) (places : List ℕ) (roles : List Roles) →
    AreThinned log ops places roles → (grown : List Roles) → Grows empty_roles roles grown → AreThinned log ops places grown
thinned_grown log op ops places roles known grown grows = record {
  rows = known.rows;
  within = within_grown ops places known.rows.few roles grown grows known.within;
  kept = kept_grown log op (groups_at ops places roles) known.kept (groups_at ops places grown)
      (groups_grow ops places known.rows.few roles grown grows);
}

pub term_of : (limit : ℕ) (terms made start : List Term) → terms ≡ made → made ≡ start ++ one_term limit → start ≡ [] →
    terms ≡ one_term limit
term_of limit terms made start e f g = e ∙ f ∙ ap (λ z. z ++ one_term limit) g

pub is_thinned : (limit : ℕ) (log ops : List (Op ℕ)) (places : List ℕ) → HasRoles log ops places → (terms : List Term) →
    terms ≡ one_term limit → (kept_ops : List (Op ℕ)) → kept_ops ≡ ops → (kept_places : List ℕ) → kept_places ≡ places →
    IsThinnedLog limit log (record { history = record { opening = 0; terms = terms; ops = kept_ops }; places = kept_places })
is_thinned limit log ops places known terms et kept_ops eo kept_places ep =
    let T : List Term → List (Op ℕ) → List ℕ → Type 0 =
    λ t o p. IsThinnedLog limit log (record { history = record { opening = 0; terms = t; ops = o }; places = p }) in
    let whole : T (one_term limit) ops places = record {
      opening = refl;
      term = refl;
      kept = finished log ops places known.0 known.1;
      forwards = known.1.kept.forwards;
      once = known.1.kept.once;
    } in
    subst (λ t. T t kept_ops kept_places) (sym et) (subst (λ o. T (one_term limit) o kept_places) (sym eo)
    (subst (λ p. T (one_term limit) ops p) (sym ep) whole))
