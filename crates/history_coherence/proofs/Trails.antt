-- The links along the path from the last record down to the one that was met.
use Rattle.std.proofs.Common.{◌≡◌, ℕ, ◌+◌, ◌-◌, ◌<◌, List, [], ◌∷◌, ◌++◌, length, refl, sym, ◌∙◌, ap, subst, arith, inl, inr}
use Rattle.std.proofs.Common.{slice_get, Option, None, Some, length-append}
use Rattle.std.specs.Prelude.{option_to_list}
use Rattle.std.specs.Option.{option_and_then, option_map}
use Rattle.std.proofs.lemmas.Option.{slice_get_within, same_Some}
use Rattle.history_core.proofs.Places.{get_pushed_cases}
use Rattle.history_coherence.specs.declared.coherence.Link.{Link}
use Rattle.history_coherence.specs.declared.edge.Edge.{Edge}
use Rattle.history_coherence.specs.inner.Keys.{edge_at, number_at}
use Rattle.history_coherence.specs.inner.Walks.{IsReachedFrom, IsAlong, IsTrail, link_at}
use Rattle.history_coherence.proofs.Edges.{is_edge}

module _ (keys earlier cursors : List (Option ℕ)) where
  -- the link at the cursor of a record that comes from another one
  pub record LeadsFrom (link : Link) (x y : ℕ) : Type 0 where
    pub is : link_at keys earlier cursors x ≡ Some link
    pub along : IsAlong keys earlier link
    pub from : number_at keys link.earlier ≡ Some y
    pub to : number_at keys link.later ≡ Some x

  pub leads_from : (x y : ℕ) → ((q k : ℕ) → number_at cursors k ≡ Some q → number_at keys q ≡ Some k) →
      IsReachedFrom keys earlier cursors x y → (link : Link) × LeadsFrom link x y
  leads_from x y at_cursor c =
      let e = c.1 in
      let i = is_edge keys earlier c.0 e c.3 in
      let later : e.link.later ≡ c.0 = i.later in (
        e.link,
        record {
          is = ap (option_and_then (λ q. option_map (λ (z : Edge). z.link) (edge_at keys earlier q))) c.2
              ∙ ap (option_map (λ (z : Edge). z.link)) c.3;
          along = record { edge = e; at = ap (edge_at keys earlier) later ∙ c.3; from = refl; apart = c.5 };
          from = i.from ∙ ap Some c.4;
          to = ap (number_at keys) later ∙ at_cursor c.0 x c.2;
        },
      )

  pub first_trail : (links : List Link) (x met : ℕ) (link : Link) → LeadsFrom link x met →
      links ≡ [] ++ option_to_list (link_at keys earlier cursors x) → IsTrail keys earlier links met x
  first_trail links x met link h e =
      let s : link ∷ [] ≡ links = sym (e ∙ ap (λ o. [] ++ option_to_list o) h.is) in
      let P : List Link → Type 0 = λ z. IsTrail keys earlier z met x in
      subst P s (record {
        some = omega arith;
        each = each;
        next = λ i l n a b. absurd (past i n b);
        first = λ l a. ap (λ (z : Link). number_at keys z.earlier) (sym (same_Some link l a)) ∙ h.from;
        last = λ l a. ap (λ (z : Link). number_at keys z.later) (sym (same_Some link l a)) ∙ h.to;
      })
    where
      each : (i : ℕ) (l : Link) → slice_get (link ∷ []) i ≡ Some l → IsAlong keys earlier l
      each i l a = elim (get_pushed_cases [] link i l a) [
        | inl none ↦ let z : None ≡ Some l = none in cc
        | inr here ↦ let P : Link → Type 0 = λ z. IsAlong keys earlier z in subst P here.1 h.along
      ]

      past : (i : ℕ) (n : Link) → slice_get (link ∷ []) (i + 1) ≡ Some n → ⊥
      past i n b = let l = slice_get_within (link ∷ []) (i + 1) n b in omega arith

  pub more_trail : (links new : List Link) (x y met : ℕ) (link : Link) → LeadsFrom link y x → IsTrail keys earlier links met x →
      new ≡ links ++ option_to_list (link_at keys earlier cursors y) → IsTrail keys earlier new met y
  more_trail links new x y met link h t e =
      let s : links ++ link ∷ [] ≡ new = sym (e ∙ ap (λ o. links ++ option_to_list o) h.is) in
      let P : List Link → Type 0 = λ z. IsTrail keys earlier z met y in
      let long : length (links ++ link ∷ []) ≡ length links + 1 = length-append links (link ∷ []) in
      let some : 0 < length links = t.some in
      subst P s (record {
        some = omega arith;
        each = λ i l a. elim (get_pushed_cases links link i l a) [
          | inl old ↦ t.each i l old
          | inr new ↦ let Q : Link → Type 0 = λ z. IsAlong keys earlier z in subst Q new.1 h.along
        ];
        next = λ i l n a b. elim (get_pushed_cases links link (i + 1) n b) [
          | inl old ↦ elim (get_pushed_cases links link i l a) [
            | inl also ↦ t.next i l n also old
            | inr new ↦ let k = slice_get_within links (i + 1) n old in let z = new.0 in absurd (omega arith)
          ]
          | inr new ↦ elim (get_pushed_cases links link i l a) [
            | inl old ↦
                let at : i ≡ length links - 1 = let z = new.0 in omega arith in
                t.last l (ap (slice_get links) (sym at) ∙ old) ∙ sym h.from ∙ ap (λ (z : Link). number_at keys z.earlier) new.1
            | inr also ↦ let k = also.0 in let z = new.0 in absurd (omega arith)
          ]
        ];
        first = λ l a. elim (get_pushed_cases links link 0 l a) [
          | inl old ↦ t.first l old
          | inr new ↦ let z = new.0 in absurd (omega arith)
        ];
        last = λ l a. elim (get_pushed_cases links link (length (links ++ link ∷ []) - 1) l a) [
          | inl old ↦ let k = slice_get_within links (length (links ++ link ∷ []) - 1) l old in absurd (omega arith)
          | inr new ↦ ap (λ (z : Link). number_at keys z.later) (sym new.1) ∙ h.to
        ];
      })

  pub pushed : (links new : List Link) (seen : List (Option ℕ)) (x y : ℕ) → new ≡ links ++ option_to_list (link_at keys earlier seen x) →
      seen ≡ cursors → x ≡ y → new ≡ links ++ option_to_list (link_at keys earlier cursors y)
  pushed links new seen x y e s k =
      e ∙ ap (λ z. links ++ option_to_list (link_at keys earlier z x)) s
      ∙ ap (λ z. links ++ option_to_list (link_at keys earlier cursors z)) k
