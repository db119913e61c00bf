-- Words without a mark and copies of the record are a family at the start.
use Rattle.std.proofs.Common.{◌≡◌, ◌≢◌, ℕ, ◌+◌, ◌*◌, ◌<◌, Bool, true, false, nat_eq, cond, List, [], ◌∷◌, ◌++◌, length, map, replicate}
use Rattle.std.proofs.Common.{refl, sym, ap, ◌∙◌, subst, arith, append-nil}
use mathlib.Core.Option.{none, some}
use Rattle.atomic_table.specs.Table.{opening}
use Rattle.cell_contract.specs.Accesses.{no_writes, no_reads}
use Rattle.cell_contract.specs.Plans.{Doings, HasNoSteps}
use Rattle.cell_contract.specs.Sights.{writer_or, reader_or}
use Rattle.cell_contract.specs.declared.sight.Sight.TheVariants.{Spent, Writer, Reader}
use Rattle.cell_triple.specs.Steps.{TripleSight, first_writer, first_reader}
use Rattle.family_table.specs.declared.notes.Process.{Process}
use Rattle.family_table.specs.Layouts.{gather}
use Rattle.family_table.specs.Family.{of_cell}
use Rattle.family_table.specs.Places.{place, reader_of, upto, writer_of}
use Rattle.family_table.proofs.Places.{place_in, writer_there, reader_there}
use Rattle.family_table.proofs.Slices.{gather_front, gather_replicate, within}
use Rattle.family_table.proofs.Seats.{family_starts}
use Rattle.family_table.proofs.Firsts.{upto_long, upto_at, upto_get, map_at, map_replicate, replicate_long, unsaid, words_long}
use Rattle.family_triple.specs.Keeping.{written_by, answered_by}
use Rattle.family_triple.specs.Places.{triples}
use Rattle.family_triple.specs.Plans.{done_by, IsPlanned, TriplePlan}
use Rattle.family_triple.specs.Words.{writes_by, reads_by}
use Rattle.family_triple.proofs.Calls.{not_same, yes_same}
use Rattle.family_triple.proofs.Taking.{plain_first}
use Rattle.family_triple.specs.Triples.{first_part, first_process, first_view, CellRule, TripleFamily}
use Rattle.family_triple.specs.Cells.{is_layout}
use Rattle.family_triple.specs.Cells.{cell_starts}

module _ {T : Type 0} (o : T) (n i : ℕ) (li : i < n) where
  there : (k : ℕ) → k < n * n → of_cell Spent k (first_process o n i).parts ≡ first_part o n i k
  there k l = upto_get (first_part o n i) 0 (n * n) k Spent l ∙ ap (first_part o n i) (let z : 0 + k ≡ k = omega arith in z)

  row_first : (j : ℕ) → j < n → j ≢ i → of_cell Spent (place n i j) (first_process o n i).parts ≡ Writer (first_writer o)
  row_first j lj ne =
      let k : ℕ = place n i j in
      there k (place_in n i j li lj ne)
      ∙ ap (λ b. cond {A = TripleSight T} b (Writer (first_writer o)) (cond (nat_eq i (reader_of n k)) (Reader (first_reader o)) Spent))
      (yes_same i (writer_of n k) (sym (writer_there n i j li lj ne)))

  column_first : (j : ℕ) → j < n → j ≢ i → of_cell Spent (place n j i) (first_process o n i).parts ≡ Reader (first_reader o)
  column_first j lj ne =
      let k : ℕ = place n j i in
      let apart : i ≢ j = λ e. ne (sym e) in
      there k (place_in n j i lj li apart)
      ∙ (ap (λ b. cond {A = TripleSight T} b (Writer (first_writer o)) (cond (nat_eq i (reader_of n k)) (Reader (first_reader o)) Spent))
      (not_same i (writer_of n k) (λ q. apart (q ∙ writer_there n j i lj li apart)))
      ∙ ap (λ b. cond {A = TripleSight T} b (Reader (first_reader o)) Spent)
      (yes_same i (reader_of n k) (sym (reader_there n j i lj li apart))))

  nothing : (b : Bool) (x : TripleSight T) (P : TripleSight T → Type 0) → P Spent → P x → P (cond b Spent x)
  nothing true x P s h = s
  nothing false x P s h = h

  -- a process that has done nothing keeps to its plan
  first_planned : (plan : Doings T → Type 0) → ((done : Doings T) → HasNoSteps done → plan done) →
      IsPlanned plan o n i (first_process o n i)
  first_planned plan planned =
      let p : Process (TripleSight T) = first_process o n i in (
        record { row = λ j lj ne. (first_writer o, row_first j lj ne); column = λ j lj ne. (first_reader o, column_first j lj ne) },
        planned (done_by o n p) (record {
          times = refl;
          tags = (refl, refl);
          writes = λ j. ap written_by (nothing (nat_eq j i) (of_cell Spent (place n i j) p.parts)
              (λ z. writes_by (writer_or (first_writer o) z) ≡ no_writes) refl (plain_first o n i (place n i j)).0);
          reads = λ j. ap answered_by (nothing (nat_eq j i) (of_cell Spent (place n j i) p.parts)
              (λ z. reads_by (reader_or (first_reader o) z) ≡ no_reads) refl (plain_first o n i (place n j i)).1);
        }),
      )

module _ {T : Type 0} (fits : T → Type 0) (rises : T → T → Type 0) (o : T) (n : ℕ) where
  abbrev V : Type 0
  V = TripleSight T

  pub triples_start : (plan : T → ℕ → ℕ → ℕ → ℕ → Doings T → Type 0) (limit : ℕ) → fits o →
      ((i : ℕ) (done : Doings T) → i < n → HasNoSteps done → plan o 1 n limit i done) →
      TripleFamily fits rises o n (TriplePlan plan o limit n)
      (opening (replicate (8 * (n * n) + 8) 1 ++ replicate (8 * n) 0) (replicate (3 * (n * n)) o) (first_view o n))
  triples_start plan limit f planned =
      let cells : ℕ = n * n in
      let ps : List (Process V) = upto (first_process o n) 0 n in
      let front : List ℕ = replicate (8 * cells + 8) 1 in
      let ws : List ℕ = front ++ replicate (8 * n) 0 in
      let hs : List T = replicate (3 * cells) o in
      family_starts Spent (triples n) (CellRule fits rises o) (TriplePlan plan o limit n) n ws hs ps
      (words_long (8 * cells + 8) 1 n) (unsaid (8 * cells + 8) 1 n) (replicate_long (3 * cells) o)
      (upto_long (first_process o n) 0 n)
      (λ i p e.
      let is : p ≡ first_process o n i =
      upto_at (first_process o n) 0 n i p e ∙ ap (first_process o n) (let z : 0 + i ≡ i = omega arith in z) in
      subst (λ (q : Process V). (q.who ≡ i) × (q.clock ≡ 0) × (q.times ≡ []) × (q.held ≡ []) × (q.said ≡ []) × (q.found ≡ []))
      (sym is) (refl, refl, refl, refl, refl, refl))
      (λ i p e.
      let is : p ≡ first_process o n i =
      upto_at (first_process o n) 0 n i p e ∙ ap (first_process o n) (let z : 0 + i ≡ i = omega arith in z) in
      let many : length ps ≡ n = upto_long (first_process o n) 0 n in
      let inside : i < length ps = within ps i p e in
      let li : i < n = omega arith in
      subst (TriplePlan plan o limit n i) (sym is) (first_planned o n i li (plan o 1 n limit i) (λ done no. planned i done li no)))
      (λ k lk.
      let G : Process V → V = λ (p : Process V). of_cell Spent k p.parts in
      let homes : gather ((triples n).slot k) 3 none (map some hs) ≡ some o ∷ some o ∷ some o ∷ [] =
      ap (gather ((triples n).slot k) 3 none) (map_replicate some (3 * cells) o)
      ∙ gather_replicate ((triples n).slot k) 3 none (3 * cells) (some o) (λ i li. (is_layout n).slot_in k i lk li) in
      let words : gather ((triples n).word k) 1 0 ws ≡ 1 ∷ [] =
      gather_front ((triples n).word k) 1 0 front (replicate (8 * n) 0)
      (λ i li. let low = (is_layout n).word_in k i lk li in
      let long : length front ≡ 8 * cells + 8 = replicate_long (8 * cells + 8) 1 in omega arith)
      ∙ gather_replicate ((triples n).word k) 1 0 (8 * cells + 8) 1 (λ i li. (is_layout n).word_in k i lk li) in
      let views : map G ps ++ [] ≡ map G ps = append-nil (map G ps) in
      subst (CellRule fits rises o 0) (λ z. record { words = sym words z; homes = sym homes z; views = sym views z })
      (cell_starts fits rises o n k (map G ps) f
      (λ j v e.
      let x = map_at G ps j v e in
      let is : x.0 ≡ first_process o n j =
      upto_at (first_process o n) 0 n j x.0 x.1 ∙ ap (first_process o n) (let z : 0 + j ≡ j = omega arith in z) in
      x.2 ∙ (ap G is ∙ (upto_get (first_part o n j) 0 cells k Spent lk ∙ ap (first_part o n j) (let z : 0 + k ≡ k = omega arith in z))))))
