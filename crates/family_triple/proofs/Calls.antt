-- What its deciding step makes of a call: one access more of one step, with a record or an answer; and no other cell's calls change.
use Rattle.std.proofs.Common.{◌≡◌, ◌≢◌, ◌⊎◌, ℕ, ◌+◌, ◌*◌, ◌<◌, ◌≤◌, true, false, nat_eq, cond, List, [], ◌∷◌, ◌++◌, length, set}
use Rattle.std.proofs.Common.{refl, sym, ap, ◌∙◌, subst, arith, ⊎_elim, inl, inr, mul-le-mul_right}
use Rattle.std.proofs.lemmas.Bool.{cases_eq, cases_lt}
use Rattle.std.proofs.lemmas.Bool.Decides.{nat_tests}
use Rattle.cell_contract.specs.Intervals.{AreHeeded, IsNextAnswer}
use Rattle.cell_contract.proofs.ListLaws.{last_snoc}
use Rattle.cell_contract.specs.Sights.{writer_or, reader_or}
use Rattle.cell_contract.specs.declared.times.Known.{Known}
use Rattle.cell_contract.specs.declared.times.Times.{Times}
use Rattle.cell_triple.specs.declared.notes.WriterNotes.{WriterNotes}
use Rattle.cell_triple.specs.declared.notes.ReaderNotes.{ReaderNotes}
use Rattle.cell_contract.specs.declared.sight.Sight.TheVariants.{Spent, Writer, Reader}
use Rattle.cell_triple.specs.Steps.{TripleSight, first_writer, first_reader, published, answered, HasAnswered}
use Rattle.cell_contract.specs.Accesses.{IsAccess, IsReadAccess, IsWriteAccess, KeepsEach, KeepsOthers, ReadAccesses, WriteAccesses}
use Rattle.family_table.specs.declared.notes.Process.{Process}
use Rattle.family_table.specs.Family.{of_cell, knows}
use Rattle.family_table.specs.Places.{place}
use Rattle.family_table.proofs.Places.{place_in, place_apart}
use Rattle.family_table.proofs.Slices.{get_set_here, get_set_else}
use Rattle.family_triple.specs.Steps.{alters}
use Rattle.family_triple.specs.Words.{writes_by, reads_by, writes_to, reads_from}

-- one time, as an access of one step
access_of : (times : List ℕ) (clock a : ℕ) (old new : Times) → clock < a → new.begins ≡ old.begins ++ a ∷ [] →
    new.ends ≡ old.ends ++ a ∷ [] → IsAccess 1 clock a times (times ++ a ∷ []) old new
access_of times clock a old new la begins ends = record {
  steps = a ∷ [];
  long = refl;
  rising = (la, tt);
  made = refl;
  first = a;
  first_is = refl;
  last_is = refl;
  begins = begins;
  ends = ends;
}

pub yes_same : (m n : ℕ) → m ≡ n → nat_eq m n ≡ true
yes_same m n e = grind (arith, nat_tests)

pub not_same : (m n : ℕ) → m ≢ n → nat_eq m n ≡ false
not_same m n ne = grind (arith, nat_tests)

-- what is seen of a cell that didn't change, or that is seen as before, where the notes of one cell changed
module _ {V A : Type 0} (blank : V) (seen : V → A) (who k : ℕ) (parts : List V) (w : V) where
  pub seen_same : (at j : ℕ) → (j ≢ who → (at ≢ k) ⊎ (seen w ≡ seen (of_cell blank k parts))) → k < length parts →
      seen (cond (nat_eq j who) blank (of_cell blank at (set parts k w))) ≡ seen (cond (nat_eq j who) blank (of_cell blank at parts))
  seen_same at j either lk = ⊎_elim
      (λ (e : j ≡ who).
      let t = yes_same j who e in
      ap (λ b. seen (cond b blank (of_cell blank at (set parts k w)))) t ∙ sym (ap (λ b. seen (cond b blank (of_cell blank at parts))) t))
      (λ (ne : j ≢ who).
      let f = not_same j who ne in
      let inner : seen (of_cell blank at (set parts k w)) ≡ seen (of_cell blank at parts) = ⊎_elim
      (λ (away : at ≢ k). ap seen (get_set_else parts k at w blank away))
      (λ (same : seen w ≡ seen (of_cell blank k parts)). ⊎_elim
      (λ (e : at ≡ k). ap (λ z. seen (of_cell blank z (set parts k w))) e ∙ (ap seen (get_set_here parts k w blank lk)
      ∙ (same ∙ sym (ap (λ z. seen (of_cell blank z parts)) e))))
      (λ (d : at ≢ k). ap seen (get_set_else parts k at w blank d))
      (cases_eq at k))
      (either ne) in
      ap (λ b. seen (cond b blank (of_cell blank at (set parts k w)))) f
      ∙ (inner ∙ sym (ap (λ b. seen (cond b blank (of_cell blank at parts))) f)))
      (cases_eq j who)

-- the cells of a row and of a column are different; a process number that is too large has none of these
pub row_apart : (n i j h : ℕ) → j ≢ i → h ≢ i → j ≢ h → place n i j ≢ place n i h
row_apart n i j h nj nh d e =
    let same : i * n + j ≡ i * n + h = e in d (omega arith)

pub column_apart : (n j h i : ℕ) → h < n → i < n → h ≢ i → j ≢ i → j ≢ h → place n j i ≢ place n h i
column_apart n j h i lh li nh nj d e = ⊎_elim
    (λ (l : j < n). d (place_apart n j i h i l li (λ q. nj (sym q)) lh li (λ q. nh (sym q)) e).0)
    (λ (l : n ≤ j).
    let low = place_in n h i lh li (λ q. nh (sym q)) in
    let high : n * n ≤ j * n = mul-le-mul_right n l in
    let same : j * n + i ≡ place n h i = e in
    absurd (omega arith))
    (cases_lt j n)

module _ {T : Type 0} (o : T) (n : ℕ) where
  abbrev V : Type 0
  V = TripleSight T

  -- the notes of process j's cell, as contracts see them
  pub sees_writes : (u : Process V) (j : ℕ) (p : WriterNotes T) → j ≢ u.who → of_cell Spent (place n u.who j) u.parts ≡ Writer p →
      writes_to o n u j ≡ writes_by p
  sees_writes u j p ne is = ap (λ z. writes_by (writer_or (first_writer o) z))
      (ap (λ b. cond {A = V} b Spent (of_cell Spent (place n u.who j) u.parts)) (not_same j u.who ne) ∙ is)

  pub sees_reads : (u : Process V) (j : ℕ) (g : ReaderNotes T) → j ≢ u.who → of_cell Spent (place n j u.who) u.parts ≡ Reader g →
      reads_from o n u j ≡ reads_by g
  sees_reads u j g ne is = ap (λ z. reads_by (reader_or (first_reader o) z))
      (ap (λ b. cond {A = V} b Spent (of_cell Spent (place n j u.who) u.parts)) (not_same j u.who ne) ∙ is)

  -- a write: the swap of the cell to process j
  pub a_write : (v : Process V) (j : ℕ) (p : WriterNotes T) (x : T) (slot t : ℕ) (held : List ℕ) → v.who < n → length v.parts ≡ n * n →
      j < n → j ≢ v.who → of_cell Spent (place n v.who j) v.parts ≡ Writer p → v.clock < t →
      let u = knows Spent v (place n v.who j) (Writer (published p slot x t)) t held in
      IsAccess 1 v.clock u.clock v.times u.times (writes_to o n v j).times (writes_to o n u j).times
      × IsWriteAccess (writes_to o n v j) (writes_to o n u j) x × KeepsOthers j (writes_to o n v) (writes_to o n u)
      × KeepsEach (reads_from o n v) (reads_from o n u)
  a_write v j p x slot t held lw parts lj ne is lt =
      let k : ℕ = place n v.who j in
      let q : WriterNotes T = published p slot x t in
      let u : Process V = knows Spent v k (Writer q) t held in
      let l : place n v.who j < n * n = place_in n v.who j lw lj ne in
      let has : k < length v.parts = omega arith in
      let before = sees_writes v j p ne is in
      let after = sees_writes u j q ne (get_set_here v.parts k (Writer q) Spent has) in (
        subst (λ (z : Times × Times). IsAccess 1 v.clock t v.times u.times z.0 z.1) (λ i. ((sym before i).times, (sym after i).times))
            (access_of v.times v.clock t p.times q.times lt refl refl),
        record { items = ap (λ (z : WriteAccesses T). z.items) after ∙ ap (λ (z : WriteAccesses T). z.items ++ x ∷ []) (sym before) },
        (λ i di. ap (λ z. writes_by z) (seen_same Spent (writer_or (first_writer o)) v.who k v.parts (Writer q) (place n v.who i) i
            (λ nw. inl (row_apart n v.who i j nw ne di)) has)),
        (λ i. ap (λ z. reads_by z) (seen_same Spent (reader_or (first_reader o)) v.who k v.parts (Writer q) (place n i v.who) i
            (λ nw. inr (ap (reader_or (first_reader o)) (sym is))) has)),
      )

  -- the step that decides a read of the cell from process j
  pub a_read : (v : Process V) (j : ℕ) (g h : ReaderNotes T) (x : T) (t number : ℕ) (writes : Known T) (held : List ℕ) →
      v.who < n → length v.parts ≡ n * n → j < n → j ≢ v.who → of_cell Spent (place n j v.who) v.parts ≡ Reader g →
      h.answers ≡ g.answers → h.told ≡ g.told → h.times ≡ g.times → g.opening.value ≡ o → v.clock < t →
      let q = answered h x t number writes in
      let u = knows Spent v (place n j v.who) (Reader q) t held in
      HasAnswered g q x → h.heard ≡ g.heard → AreHeeded g.heard writes number →
      IsAccess 1 v.clock u.clock v.times u.times (reads_from o n v j).times (reads_from o n u j).times
      × IsReadAccess o (reads_from o n v j) (reads_from o n u j) x × KeepsOthers j (reads_from o n v) (reads_from o n u)
      × KeepsEach (writes_to o n v) (writes_to o n u)
  a_read v j g h x t number writes held lw parts lj ne is same_answers same_told same_times opened lt answered_it same_heard heeded =
      let k : ℕ = place n j v.who in
      let q : ReaderNotes T = answered h x t number writes in
      let u : Process V = knows Spent v k (Reader q) t held in
      let l : place n j v.who < n * n = place_in n j v.who lj lw (λ e. ne (sym e)) in
      let has : k < length v.parts = omega arith in
      let before = sees_reads v j g ne is in
      let after = sees_reads u j q ne (get_set_here v.parts k (Reader q) Spent has) in (
        subst (λ (z : Times × Times). IsAccess 1 v.clock t v.times u.times z.0 z.1) (λ i. ((sym before i).times, (sym after i).times))
            (access_of v.times v.clock t g.times q.times lt (ap (λ (z : Times). z.begins ++ t ∷ []) same_times)
            (ap (λ (z : Times). z.ends ++ t ∷ []) same_times)),
        subst (λ (z : ReadAccesses T × ReadAccesses T). IsReadAccess o z.0 z.1 x) (λ i. (sym before i, sym after i)) (record {
          answers = ap (λ z. z ++ x ∷ []) same_answers;
          numbered = subst (λ z. IsNextAnswer z g.known q.known g.numbers q.numbers q.answers q.times x) opened answered_it;
          told = same_told;
          heard = same_heard;
          heeds = subst (λ (z : List (Known T) × ℕ). AreHeeded z.0 writes z.1)
              (λ i. (sym same_heard i, sym (last_snoc 0 h.numbers number) i)) heeded;
        }),
        (λ i di. ap (λ z. reads_by z) (seen_same Spent (reader_or (first_reader o)) v.who k v.parts (Reader q) (place n i v.who) i
            (λ nw. inl (column_apart n i j v.who lj lw ne nw di)) has)),
        (λ i. ap (λ z. writes_by z) (seen_same Spent (writer_or (first_writer o)) v.who k v.parts (Reader q) (place n v.who i) i
            (λ nw. inr (ap (writer_or (first_writer o)) (sym is))) has)),
      )

  -- a load that finds the mark, before the step that decides the read: no call's lists change
  pub a_look : (v : Process V) (j : ℕ) (g h : ReaderNotes T) (held : List ℕ) → v.who < n → length v.parts ≡ n * n →
      j < n → j ≢ v.who → of_cell Spent (place n j v.who) v.parts ≡ Reader g → reads_by h ≡ reads_by g →
      let u = alters v (place n j v.who) (Reader h) held in
      (u.clock ≡ v.clock) × (u.times ≡ v.times) × KeepsEach (reads_from o n v) (reads_from o n u)
      × KeepsEach (writes_to o n v) (writes_to o n u)
  a_look v j g h held lw parts lj ne is same =
      let k : ℕ = place n j v.who in
      let l : place n j v.who < n * n = place_in n j v.who lj lw (λ e. ne (sym e)) in
      let has : k < length v.parts = omega arith in (
        refl,
        refl,
        (λ i. seen_same Spent (λ z. reads_by (reader_or (first_reader o) z)) v.who k v.parts (Reader h) (place n i v.who) i
            (λ nw. inr (same ∙ ap (λ z. reads_by (reader_or (first_reader o) z)) (sym is))) has),
        (λ i. ap (λ z. writes_by z) (seen_same Spent (writer_or (first_writer o)) v.who k v.parts (Reader h) (place n v.who i) i
            (λ nw. inr (ap (writer_or (first_writer o)) (sym is))) has)),
      )
