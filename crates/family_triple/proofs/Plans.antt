-- What the steps of a call make of what a process has done, so that it keeps to its plan.
use Rattle.std.proofs.Common.{◌≡◌, ◌≢◌, ℕ, ◌*◌, ◌<◌, List, [], ◌∷◌, ◌++◌, length, set}
use Rattle.std.proofs.Common.{refl, sym, ap, ◌∙◌, subst, arith, ⊎_elim, inl, inr}
use Rattle.std.proofs.lemmas.Bool.{cases_eq}
use Rattle.cell_contract.specs.Accesses.{ReadAccesses, WriteAccesses}
use Rattle.cell_contract.specs.Plans.{Doings, MayRead, MayWrite, ReadsSoFar, WritesSoFar}
use Rattle.cell_contract.specs.declared.times.Times.{Times}
use Rattle.cell_contract.specs.declared.sight.Sight.TheVariants.{Spent, Writer, Reader}
use Rattle.cell_triple.specs.declared.notes.WriterNotes.{WriterNotes}
use Rattle.cell_triple.specs.declared.notes.ReaderNotes.{ReaderNotes}
use Rattle.cell_triple.specs.Steps.{TripleSight, published, answered, asked_by}
use Rattle.family_table.specs.declared.notes.Process.{Process}
use Rattle.family_table.specs.Family.{of_cell, knows}
use Rattle.family_table.specs.Places.{place}
use Rattle.family_table.proofs.Places.{place_in}
use Rattle.family_table.proofs.Slices.{get_set_here, get_set_else, set_twice}
use Rattle.family_triple.specs.Keeping.{kind, cells_kept, seen_to, seen_from}
use Rattle.family_triple.specs.Plans.{done_by, HasCells, IsPlanned, TriplePlan, MayPublish, MayDecide}
use Rattle.family_triple.specs.Steps.{alters}
use Rattle.family_triple.proofs.Calls.{sees_writes, sees_reads, seen_same, row_apart, column_apart}

module _ {T : Type 0} where
  -- the notes of one cell change, and not their kind
  kind_set : (parts : List (TripleSight T)) (k : ℕ) (w : TripleSight T) → k < length parts → kind w ≡ kind (of_cell Spent k parts) →
      (at : ℕ) → kind (of_cell Spent at (set parts k w)) ≡ kind (of_cell Spent at parts)
  kind_set parts k w has e at = ⊎_elim
      (λ (s : at ≡ k). ap (λ z. kind (of_cell Spent z (set parts k w))) s
      ∙ (ap kind (get_set_here parts k w Spent has) ∙ (e ∙ sym (ap (λ z. kind (of_cell Spent z parts)) s))))
      (λ (d : at ≢ k). ap kind (get_set_else parts k at w Spent d))
      (cases_eq at k)

  module _ (o : T) (n : ℕ) where
    -- a step outside the schedule that changes nothing of this
    still : (plan : Doings T → Type 0) (i : ℕ) (v : Process (TripleSight T)) (k : ℕ) (w : TripleSight T) (held : List ℕ) →
        k < length v.parts → kind w ≡ kind (of_cell Spent k v.parts) → seen_to o w ≡ seen_to o (of_cell Spent k v.parts) →
        seen_from o w ≡ seen_from o (of_cell Spent k v.parts) → IsPlanned plan o n i v → IsPlanned plan o n i (alters v k w held)
    still plan i v k w held has same to from h = (
      cells_kept n i v (alters v k w held) (kind_set v.parts k w has same) h.0,
      subst plan (λ z. record {
        times = v.times;
        said = v.said;
        found = v.found;
        writes = λ j. sym (seen_same Spent (seen_to o) v.who k v.parts w (place n v.who j) j (λ nw. inr to) has) z;
        reads = λ j. sym (seen_same Spent (seen_from o) v.who k v.parts w (place n j v.who) j (λ nw. inr from) has) z;
      }) h.1,
    )

    module _ (plan : Doings T → Type 0) (i : ℕ) (v : Process (TripleSight T)) (k : ℕ) (has : k < length v.parts) where
      pub put_taken : (p : WriterNotes T) → of_cell Spent k v.parts ≡ Writer p → (held : List ℕ) → IsPlanned plan o n i v →
          IsPlanned plan o n i (alters v k (Writer (record p { has = 1 })) held)
      put_taken p is held = still plan i v k (Writer (record p { has = 1 })) held has (ap kind (sym is)) (ap (seen_to o) (sym is))
          (ap (seen_from o) (sym is))

      pub get_taken : (g : ReaderNotes T) → of_cell Spent k v.parts ≡ Reader g → (held : List ℕ) → IsPlanned plan o n i v →
          IsPlanned plan o n i (alters v k (Reader (record g { has = 1 })) held)
      get_taken g is held = still plan i v k (Reader (record g { has = 1 })) held has (ap kind (sym is)) (ap (seen_to o) (sym is))
          (ap (seen_from o) (sym is))

      pub has_asked : (g : ReaderNotes T) → of_cell Spent k v.parts ≡ Reader g → (m : ℕ) (held : List ℕ) → IsPlanned plan o n i v →
          IsPlanned plan o n i (alters v k (Reader (asked_by g m)) held)
      has_asked g is m held = still plan i v k (Reader (asked_by g m)) held has (ap kind (sym is)) (ap (seen_to o) (sym is))
          (ap (seen_from o) (sym is))

    -- the swap is the whole write to process j
    wrote_so_far : (v : Process (TripleSight T)) (j : ℕ) (p : WriterNotes T) (x : T) (slot t : ℕ) (held : List ℕ) → v.who < n →
        length v.parts ≡ n * n → j < n → j ≢ v.who → of_cell Spent (place n v.who j) v.parts ≡ Writer p →
        WritesSoFar 1 1 x j (done_by o n v) (done_by o n (knows Spent v (place n v.who j) (Writer (published p slot x t)) t held))
    wrote_so_far v j p x slot t held lw parts lj ne is =
        let k : ℕ = place n v.who j in
        let q : WriterNotes T = published p slot x t in
        let u : Process (TripleSight T) = knows Spent v k (Writer q) t held in
        let l : place n v.who j < n * n = place_in n v.who j lw lj ne in
        let has : k < length v.parts = omega arith in
        let before = sees_writes o n v j p ne is in
        let after = sees_writes o n u j q ne (get_set_here v.parts k (Writer q) Spent has) in record {
          steps = t ∷ [];
          long = refl;
          times = refl;
          items = ap (λ (z : WriteAccesses T). z.items) after ∙ ap (λ (z : WriteAccesses T). z.items ++ x ∷ []) (sym before);
          begins = ap (λ (z : WriteAccesses T). z.times.begins) after
              ∙ ap (λ (z : WriteAccesses T). z.times.begins ++ t ∷ []) (sym before);
          ends = ap (λ (z : WriteAccesses T). z.times.ends) after ∙ ap (λ (z : WriteAccesses T). z.times.ends ++ t ∷ []) (sym before);
          others = (
            λ i di. seen_same Spent (seen_to o) v.who k v.parts (Writer q) (place n v.who i) i
                (λ nw. inl (row_apart n v.who i j nw ne di)) has,
            λ i. seen_same Spent (seen_from o) v.who k v.parts (Writer q) (place n i v.who) i (λ nw. inr (ap (seen_from o) (sym is))) has,
          );
          tags = (refl, refl);
        }

    -- and the step that decides a read from it
    has_read_so_far : (v : Process (TripleSight T)) (j : ℕ) (g : ReaderNotes T) (x : T) (t : ℕ) (q : ReaderNotes T) (held : List ℕ) →
        v.who < n → length v.parts ≡ n * n → j < n → j ≢ v.who → of_cell Spent (place n j v.who) v.parts ≡ Reader g →
        q.answers ≡ g.answers ++ x ∷ [] → q.times.begins ≡ g.times.begins ++ t ∷ [] → q.times.ends ≡ g.times.ends ++ t ∷ [] →
        ReadsSoFar 1 1 j (done_by o n v) (done_by o n (knows Spent v (place n j v.who) (Reader q) t held))
    has_read_so_far v j g x t q held lw parts lj ne is answers begins ends =
        let k : ℕ = place n j v.who in
        let u : Process (TripleSight T) = knows Spent v k (Reader q) t held in
        let l : place n j v.who < n * n = place_in n j v.who lj lw (λ e. ne (sym e)) in
        let has : k < length v.parts = omega arith in
        let before = sees_reads o n v j g ne is in
        let after = sees_reads o n u j q ne (get_set_here v.parts k (Reader q) Spent has) in record {
          steps = t ∷ [];
          long = refl;
          times = refl;
          answers = x ∷ [];
          items = ap (λ (z : ReadAccesses T). z.answers) after
              ∙ (answers ∙ ap (λ (z : ReadAccesses T). z.answers ++ x ∷ []) (sym before));
          begins = ap (λ (z : ReadAccesses T). z.times.begins) after
              ∙ (begins ∙ ap (λ (z : ReadAccesses T). z.times.begins ++ t ∷ []) (sym before));
          ends = ap (λ (z : ReadAccesses T). z.times.ends) after
              ∙ (ends ∙ ap (λ (z : ReadAccesses T). z.times.ends ++ t ∷ []) (sym before));
          others = (
            λ i di. seen_same Spent (seen_from o) v.who k v.parts (Reader q) (place n i v.who) i
                (λ nw. inl (column_apart n i j v.who lj lw ne nw di)) has,
            λ i. seen_same Spent (seen_to o) v.who k v.parts (Reader q) (place n v.who i) i (λ nw. inr (ap (seen_to o) (sym is))) has,
          );
          tags = (refl, refl);
        }

  module _ (plan : T → ℕ → ℕ → ℕ → ℕ → Doings T → Type 0) (o : T) (limit n : ℕ) (v : Process (TripleSight T)) (j : ℕ) (lw : v.who < n)
      (parts : length v.parts ≡ n * n) (cells : HasCells n v.who v) (lj : j < n) (ne : j ≢ v.who) where
    -- what may be written may be published
    pub may_publish : (p : WriterNotes T) (x : T) → of_cell Spent (place n v.who j) v.parts ≡ Writer p →
        MayWrite (plan o 1 n limit v.who) 1 x j (done_by o n v) → MayPublish (TriplePlan plan o limit n) v (place n v.who j) p x
    may_publish p x is may t slot held lt =
        let k : ℕ = place n v.who j in
        let u : Process (TripleSight T) = knows Spent v k (Writer (published p slot x t)) t held in
        let l : place n v.who j < n * n = place_in n v.who j lw lj ne in
        let has : k < length v.parts = omega arith in (
          cells_kept n v.who v u (kind_set v.parts k (Writer (published p slot x t)) has (ap kind (sym is))) cells,
          may 1 (done_by o n u) (omega arith) (omega arith) (wrote_so_far o n v j p x slot t held lw parts lj ne is),
        )

    -- what may be read may be decided
    pub may_decide : (g : ReaderNotes T) → of_cell Spent (place n j v.who) v.parts ≡ Reader g →
        MayRead (plan o 1 n limit v.who) 1 j (done_by o n v) → MayDecide (TriplePlan plan o limit n) v (place n j v.who) g
    may_decide g is may h x t number writes held answers times lt =
        let k : ℕ = place n j v.who in
        let q : ReaderNotes T = answered h x t number writes in
        let u : Process (TripleSight T) = knows Spent v k (Reader q) t held in
        let l : place n j v.who < n * n = place_in n j v.who lj lw (λ e. ne (sym e)) in
        let has : k < length v.parts = omega arith in (
          cells_kept n v.who v u (kind_set v.parts k (Reader q) has (ap kind (sym is))) cells,
          may 1 (done_by o n u) (omega arith) (omega arith) (has_read_so_far o n v j g x t q held lw parts lj ne is
              (ap (λ z. z ++ x ∷ []) answers) (ap (λ (z : Times). z.begins ++ t ∷ []) times)
              (ap (λ (z : Times). z.ends ++ t ∷ []) times)),
        )

  -- a read that found the mark may be decided as before
  pub decide_again : (Plan : ℕ → Process (TripleSight T) → Type 0) (v : Process (TripleSight T)) (k m : ℕ) (g : ReaderNotes T)
      (held : List ℕ) → MayDecide Plan v k g → MayDecide Plan (alters v k (Reader (asked_by g m)) held) k (asked_by g m)
  decide_again Plan v k m g slots may h x t number writes held answers times lt =
      let w : TripleSight T = Reader (answered h x t number writes) in
      subst (λ ps. Plan v.who (record v { clock = t; times = v.times ++ t ∷ []; held = held; parts = ps }))
      (sym (set_twice v.parts k (Reader (asked_by g m)) w)) (may h x t number writes held answers times lt)
