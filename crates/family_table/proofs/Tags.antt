-- The words of tags: what a step keeps of them, and what it is to say a tag and to find one.
use Rattle.std.proofs.Common.{◌≡◌, ◌≢◌, ◌⊎◌, ℕ, zero, suc, ◌+◌, ◌*◌, ◌<◌, ◌≤◌, List, [], ◌∷◌, ◌++◌, map, length, get_or, set, replicate}
use Rattle.std.proofs.Common.{slice_get, Some, refl, sym, ap, ◌∙◌, subst, ⊎_elim, inl, inr, arith, append-nil, le_trans}
use Rattle.std.proofs.lemmas.Bool.{cases_eq}
use Rattle.std.proofs.lemmas.Option.{none-some, same_Some}
use mathlib.Core.Option.{some, some-injective}
use lib.ListN.{get_elem?}
use Rattle.atomic_table.proofs.Lists.{at_set, set_here, set_else}
use Rattle.cell_contract.specs.Ends.{WasSaid}
use Rattle.cell_contract.specs.Running.{last_or}
use Rattle.cell_contract.specs.declared.said.Said.{Said}
use Rattle.cell_contract.specs.declared.said.Found.{Found}
use Rattle.cell_contract.proofs.ListLaws.{last_snoc}
use Rattle.std.proofs.lemmas.List.{map-append}
use Rattle.family_table.specs.declared.notes.Process.{Process}
use Rattle.family_table.specs.Family.{last_said, AreSaid}
use Rattle.family_table.specs.Layouts.{Layout, IsLayout, said_at}
use Rattle.family_table.proofs.Slices.{get_set_else, within}

module _ {A : Type 0} where
  -- what stands in the first part, and what in the last
  front : (xs ys : List A) (i : ℕ) (x : A) → slice_get xs i ≡ Some x → slice_get (xs ++ ys) i ≡ Some x
  front [] ys i x e = absurd (none-some x e)
  front (z ∷ xs) ys zero x e = e
  front (z ∷ xs) ys (suc i) x e = front xs ys i x e

  parts : (xs ys : List A) (i : ℕ) (x : A) → slice_get (xs ++ ys) i ≡ Some x →
      (slice_get xs i ≡ Some x) ⊎ ((j : ℕ) × (slice_get ys j ≡ Some x))
  parts [] ys i x e = inr (i, e)
  parts (z ∷ xs) ys zero x e = inl e
  parts (z ∷ xs) ys (suc i) x e = parts xs ys i x e

-- the words of tags lie behind those of all cells
pub behind_cells : {l : Layout} → IsLayout l → (k i j : ℕ) (words : List ℕ) (m : ℕ) → k < l.cells → i < l.cell_words →
    get_or (set words (l.word k i) m) (said_at l j) 0 ≡ get_or words (said_at l j) 0
behind_cells {l} is k i j words m lk li = let low = is.word_in k i lk li in
    get_set_else words (l.word k i) (said_at l j) m 0 (λ e. let z : said_at l j ≡ l.word k i = e in omega arith)

-- the last of these tags is that of one of them, if it isn't 0
pub last_there : (said : List Said) (n : ℕ) → n ≡ last_said said → 0 < n → (y : ℕ) × (s : Said) × (slice_get said y ≡ Some s) × (s.tag ≡ n)
last_there [] n e l = absurd (let z : n ≡ 0 = e in omega arith)
last_there (s ∷ said) n e l = from s said n e where
  from : (s : Said) (said : List Said) (n : ℕ) → n ≡ last_or s.tag (map (λ (x : Said). x.tag) said) →
      (y : ℕ) × (r : Said) × (slice_get (s ∷ said) y ≡ Some r) × (r.tag ≡ n)
  from s [] n e = (0, s, refl, sym e)
  from s (r ∷ said) n e = let t = from r said n e in (suc t.0, t.1, t.2, t.3)

pub last_more : (said : List Said) (s : Said) → last_said (said ++ s ∷ []) ≡ s.tag
last_more said s = ap (last_or 0) (map-append (λ (x : Said). x.tag) said (s ∷ [])) ∙ last_snoc 0 (map (λ (x : Said). x.tag) said) s.tag

module _ {V : Type 0} (l : Layout) where
  -- One process goes on: it may have said more, and found what was said before
  pub tags_grow : (now t : ℕ) (words words' : List ℕ) (P : List (Process V)) (who : ℕ) (v u : Process V) (more : List Said)
      (new : List Found) → now ≤ t → get_elem? P who ≡ some v → u.said ≡ v.said ++ more → u.found ≡ v.found ++ new →
      ((y : ℕ) (s : Said) → slice_get more y ≡ Some s → s.time ≤ t) →
      ((x : ℕ) (f : Found) → slice_get new x ≡ Some f → (w : Process V) × (get_elem? P f.who ≡ some w) × WasSaid w.said f) →
      get_or words' (said_at l who) 0 ≡ last_said u.said →
      ((j : ℕ) → j ≢ who → j < length P → get_or words' (said_at l j) 0 ≡ get_or words (said_at l j) 0) →
      AreSaid l now words P → AreSaid l t words' (set P who u)
  tags_grow now t words words' P who v u more new le there said found early finds mine others h = record {
    last = λ j z e. ⊎_elim
        (λ (b : (j ≡ who) × (u ≡ z)). subst (λ (q : ℕ × Process V). get_or words' (said_at l q.0) 0 ≡ last_said q.1.said)
        (λ i. (sym b.0 i, b.1 i)) mine)
        (λ (b : (j ≢ who) × (get_elem? P j ≡ some z)). others j b.0 (within P j z b.1) ∙ h.last j z b.1)
        (at_set P who j u z e);
    early = λ j y z s e at. ⊎_elim
        (λ (b : (j ≡ who) × (u ≡ z)).
        let at_u : slice_get (v.said ++ more) y ≡ Some s = ap (λ xs. slice_get xs y) (sym said)
        ∙ (ap (λ (q : Process V). slice_get q.said y) b.1 ∙ at) in
        ⊎_elim
        (λ (a : slice_get v.said y ≡ Some s). le_trans (h.early who y v s there a) le)
        (λ (a : (i : ℕ) × (slice_get more i ≡ Some s)). early a.0 s a.1)
        (parts v.said more y s at_u))
        (λ (b : (j ≢ who) × (get_elem? P j ≡ some z)). le_trans (h.early j y z s b.1 at) le)
        (at_set P who j u z e);
    finds = λ j x z f e at. ⊎_elim
        (λ (b : (j ≡ who) × (u ≡ z)).
        let at_u : slice_get (v.found ++ new) x ≡ Some f = ap (λ xs. slice_get xs x) (sym found)
        ∙ (ap (λ (q : Process V). slice_get q.found x) b.1 ∙ at) in
        ⊎_elim
        (λ (a : slice_get v.found x ≡ Some f). still f (h.finds who x v f there a))
        (λ (a : (i : ℕ) × (slice_get new i ≡ Some f)). still f (finds a.0 f a.1))
        (parts v.found new x f at_u))
        (λ (b : (j ≢ who) × (get_elem? P j ≡ some z)). still f (h.finds j x z f b.1 at))
        (at_set P who j u z e);
  } where
    -- what was said stays said
    still : (f : Found) → (w : Process V) × (get_elem? P f.who ≡ some w) × WasSaid w.said f →
        (w : Process V) × (get_elem? (set P who u) f.who ≡ some w) × WasSaid w.said f
    still f was = ⊎_elim
        (λ (e : f.who ≡ who).
        let is : was.0 ≡ v = some-injective was.0 v (sym was.1 ∙ (ap (get_elem? P) e ∙ there)) in
        let at : slice_get v.said was.2.0 ≡ Some was.2.1 = ap (λ (q : Process V). slice_get q.said was.2.0) (sym is) ∙ was.2.2 in (
          u,
          ap (get_elem? (set P who u)) e ∙ set_here P who u (within P who v there),
          (
            was.2.0,
            was.2.1,
            ap (λ xs. slice_get xs was.2.0) said ∙ front v.said more was.2.0 was.2.1 at,
            was.2.3,
            was.2.4,
          ),
        ))
        (λ (ne : f.who ≢ who). (was.0, set_else P who f.who u ne ∙ was.1, was.2))
        (cases_eq f.who who)

  -- it has said and found nothing more
  pub tags_kept : (now t : ℕ) (words words' : List ℕ) (P : List (Process V)) (who : ℕ) (v u : Process V) → now ≤ t →
      get_elem? P who ≡ some v → u.said ≡ v.said → u.found ≡ v.found →
      ((j : ℕ) → j < length P → get_or words' (said_at l j) 0 ≡ get_or words (said_at l j) 0) →
      AreSaid l now words P → AreSaid l t words' (set P who u)
  tags_kept now t words words' P who v u le there said found same h =
      tags_grow now t words words' P who v u [] [] le there (said ∙ sym (append-nil v.said)) (found ∙ sym (append-nil v.found))
      (λ y s e. absurd (none-some s e)) (λ x f e. absurd (none-some f e))
      (same who (within P who v there) ∙ (h.last who v there ∙ ap last_said (sym said))) (λ j ne lj. same j lj) h

  -- at the start
  pub tags_start : (words : List ℕ) (P : List (Process V)) →
      ((i : ℕ) (p : Process V) → get_elem? P i ≡ some p → get_or words (said_at l i) 0 ≡ 0) →
      ((i : ℕ) (p : Process V) → get_elem? P i ≡ some p → (p.said ≡ []) × (p.found ≡ [])) → AreSaid l 0 words P
  tags_start words P none unused = record {
    last = λ i v e. none i v e ∙ ap last_said (sym (unused i v e).0);
    early = λ i y v s e at. absurd (none-some s (ap (λ xs. slice_get xs y) (sym (unused i v e).0) ∙ at));
    finds = λ i x v f e at. absurd (none-some f (ap (λ xs. slice_get xs x) (sym (unused i v e).1) ∙ at));
  }
