-- A process takes its first slots, one of each cell of its row and its column: each goes behind those that were taken before.
use Rattle.std.proofs.Common.{◌≡◌, ◌≢◌, ◌⊎◌, ℕ, zero, suc, ◌+◌, ◌*◌, ◌-◌, ◌<◌, ◌≤◌, Bool, true, false, nat_eq, cond, List, [], ◌∷◌, ◌++◌}
use Rattle.std.proofs.Common.{length, set, get_or}
use Rattle.std.proofs.Common.{refl, sym, ap, ◌∙◌, subst, arith, ⊎_elim, inl, inr, length-append}
use Rattle.std.proofs.lemmas.Bool.{cases_eq, cases_lt}
use Rattle.std.proofs.lemmas.List.{map-append}
use mathlib.Core.Option.{some}
use lib.ListN.{get_elem?}
use Rattle.atomic_table.specs.Table.{Me, turned}
use Rattle.atomic_table.proofs.Lists.{at_longer}
use Rattle.cell_contract.specs.Running.{held_slots}
use Rattle.cell_contract.specs.Sights.{writer_or, reader_or}
use Rattle.cell_contract.specs.declared.sight.Sight.TheVariants.{Spent, Writer, Reader}
use Rattle.cell_triple.specs.Steps.{TripleSight, first_writer, first_reader, receipt_for}
use Rattle.cell_contract.specs.Accesses.{no_writes, no_reads}
use Rattle.family_table.specs.declared.notes.Process.{Process}
use Rattle.family_table.specs.declared.notes.View.{View}
use Rattle.family_table.specs.declared.notes.View.TheVariants.{Has}
use Rattle.family_table.specs.Family.{of_cell}
use Rattle.family_table.specs.Places.{upto}
use Rattle.family_table.specs.Places.{place, writer_of, reader_of}
use Rattle.family_table.proofs.Places.{place_in, place_apart, writer_there, reader_there}
use Rattle.family_table.proofs.Slices.{get_set_here, get_set_else, set_long}
use Rattle.family_table.proofs.Firsts.{upto_long, upto_get}
use Rattle.family_triple.specs.Access.{IsReady}
use Rattle.history_core.specs.Others.{other}
use Rattle.family_triple.specs.Places.{among, slot_at}
use Rattle.family_triple.specs.Steps.{Beside, alters}
use Rattle.family_triple.specs.Tables.{IsRotated}
use Rattle.family_triple.specs.Triples.{first_part, first_process}
use Rattle.family_triple.specs.Words.{writes_by, reads_by, IsRow, IsColumn}
use Rattle.family_triple.proofs.Calls.{column_apart, not_same, yes_same}
use Rattle.family_triple.proofs.Places.{among_small, among_other, other_among, other_low, other_else}

-- the cells of a process's row, and of its column
abbrev pub row_cell : ℕ → ℕ → ℕ → ℕ
row_cell n who at = place n who (other who at)

abbrev pub column_cell : ℕ → ℕ → ℕ → ℕ
column_cell n who at = place n (other who at) who

pub row_in : (n who at : ℕ) → who < n → at < n - 1 → row_cell n who at < n * n
row_in n who at lw la = place_in n who (other who at) lw (other_low n who at la lw) (other_else who at)

pub column_in : (n who at : ℕ) → who < n → at < n - 1 → column_cell n who at < n * n
column_in n who at lw la = place_in n (other who at) who (other_low n who at la lw) lw (λ e. other_else who at (sym e))

row_writer : (n who at : ℕ) → who < n → at < n - 1 → writer_of n (row_cell n who at) ≡ who
row_writer n who at lw la = writer_there n who (other who at) lw (other_low n who at la lw) (other_else who at)

row_once : (n who i j : ℕ) → row_cell n who i ≡ row_cell n who j → i ≡ j
row_once n who i j e =
    let same : who * n + other who i ≡ who * n + other who j = e in
    let others : other who i ≡ other who j = omega arith in
    sym (among_other who i) ∙ (ap (among who) others ∙ among_other who j)

column_once : (n who i j : ℕ) → who < n → i < n - 1 → j < n - 1 → column_cell n who i ≡ column_cell n who j → i ≡ j
column_once n who i j lw li lj e = ⊎_elim
    (λ (same : other who i ≡ other who j). sym (among_other who i) ∙ (ap (among who) same ∙ among_other who j))
    (λ (d : other who i ≢ other who j).
    absurd (column_apart n (other who i) (other who j) who (other_low n who j lj lw) lw (other_else who j) (other_else who i) d e))
    (cases_eq (other who i) (other who j))

row_column : (n who i j : ℕ) → who < n → i < n - 1 → j < n - 1 → row_cell n who i ≢ column_cell n who j
row_column n who i j lw li lj e = other_else who j (sym (place_apart n who (other who i) (other who j) who lw (other_low n who i li lw)
    (other_else who i) (other_low n who j lj lw) lw (λ q. other_else who j (sym q)) e).0)

new_last : {A : Type 0} (xs : List A) (x : A) → get_elem? (xs ++ x ∷ []) (length xs) ≡ some x
new_last [] x = refl
new_last (y ∷ xs) x = new_last xs x

module _ {T : Type 0} where
  -- of m cells of one kind the first have given their slot
  pub record Taken (cell : ℕ → ℕ) (w w' : TripleSight T) (number : ℕ) (o : T) (m many base : ℕ) (parts : List (TripleSight T))
      (cs : List (ℕ × T)) : Type 0 where
    pub done : (at : ℕ) → at < many →
        (of_cell Spent (cell at) parts ≡ w') × (get_elem? cs (base + at) ≡ some (slot_at (cell at) number, o))
    pub still : (at : ℕ) → many ≤ at → at < m → of_cell Spent (cell at) parts ≡ w

  taken_more : (cell : ℕ → ℕ) (w w' : TripleSight T) (number : ℕ) (o : T) (m a base : ℕ) (parts : List (TripleSight T))
      (cs : List (ℕ × T)) → ((i j : ℕ) → i < m → j < m → cell i ≡ cell j → i ≡ j) → a < m → length cs ≡ base + a → cell a < length parts →
      Taken cell w w' number o m a base parts cs →
      Taken cell w w' number o m (a + 1) base (set parts (cell a) w') (cs ++ (slot_at (cell a) number, o) ∷ [])
  taken_more cell w w' number o m a base parts cs once la long has h =
      let y : ℕ × T = (slot_at (cell a) number, o) in record {
        done = λ at l. ⊎_elim
            (λ (less : at < a).
            let old = h.done at less in (
              get_set_else parts (cell a) (cell at) w' Spent
                  (λ e. let same : at ≡ a = once at a (omega arith) la e in absurd (omega arith)) ∙ old.0,
              at_longer cs (y ∷ []) (base + at) (slot_at (cell at) number, o) old.1,
            ))
            (λ (more : a ≤ at).
            let same : a ≡ at = omega arith in
            subst (λ z. (of_cell Spent (cell z) (set parts (cell a) w') ≡ w')
            × (get_elem? (cs ++ y ∷ []) (base + z) ≡ some (slot_at (cell z) number, o))) same (
              get_set_here parts (cell a) w' Spent has,
              ap (get_elem? (cs ++ y ∷ [])) (sym long) ∙ new_last cs y,
            ))
            (cases_lt at a);
        still = λ at l lm. get_set_else parts (cell a) (cell at) w' Spent
            (λ e. let same : at ≡ a = once at a lm la e in absurd (omega arith)) ∙ h.still at (omega arith) lm;
      }

  -- a slot of another kind
  taken_else : (cell : ℕ → ℕ) (w w' x : TripleSight T) (number : ℕ) (o : T) (m a base k : ℕ) (parts : List (TripleSight T))
      (cs : List (ℕ × T)) (y : ℕ × T) → ((i : ℕ) → i < m → cell i ≢ k) → a ≤ m → Taken cell w w' number o m a base parts cs →
      Taken cell w w' number o m a base (set parts k x) (cs ++ y ∷ [])
  taken_else cell w w' x number o m a base k parts cs y away la h = record {
    done = λ at l. let old = h.done at l in (
      get_set_else parts k (cell at) x Spent (away at (omega arith)) ∙ old.0,
      at_longer cs (y ∷ []) (base + at) (slot_at (cell at) number, o) old.1,
    );
    still = λ at l lm. get_set_else parts k (cell at) x Spent (away at lm) ∙ h.still at l lm;
  }

  -- nothing was called on a cell, and a cell of another process's row tells nothing
  abbrev pub IsPlain : T → ℕ → ℕ → ℕ → TripleSight T → Type 0
  IsPlain o n who k z = (writes_by (writer_or (first_writer o) z) ≡ no_writes) × (reads_by (reader_or (first_reader o) z) ≡ no_reads)
      × (writer_of n k ≢ who → receipt_for z ≡ Spent)

module _ {T : Type 0} (o : T) where
  abbrev bare_writer : TripleSight T
  bare_writer = Writer (first_writer o)

  abbrev pub ready_writer : TripleSight T
  ready_writer = Writer (record (first_writer o) { has = 1 })

  abbrev bare_reader : TripleSight T
  bare_reader = Reader (first_reader o)

  abbrev pub ready_reader : TripleSight T
  ready_reader = Reader (record (first_reader o) { has = 1 })

module _ {T : Type 0} (o : T) (n who : ℕ) where
  -- so many slots of the row were taken, and so many of the column
  pub record Taking (rows columns : ℕ) (me : Me T (View (TripleSight T))) : Type 0 where
    pub v : Process (TripleSight T)
    pub one : me.0 ≡ Has (v ∷ [])
    pub number : v.who ≡ who
    pub fresh : (v.clock ≡ 0) × (v.times ≡ []) × (v.said ≡ []) × (v.found ≡ [])
    pub long : length v.parts ≡ n * n
    pub held : IsRotated v.held (held_slots me.1)
    pub many : length me.1 ≡ rows + columns
    pub plain : (k : ℕ) → IsPlain o n who k (of_cell Spent k v.parts)
    pub row : Taken (row_cell n who) (bare_writer o) (ready_writer o) 0 o (n - 1) rows 0 v.parts me.1
    pub column : Taken (column_cell n who) (bare_reader o) (ready_reader o) 2 o (n - 1) columns rows v.parts me.1

-- what stands where of the first ones in turn
upto_part : {A : Type 0} (f : ℕ → A) (m k : ℕ) (d : A) → (get_or (upto f 0 m) k d ≡ f k) ⊎ (get_or (upto f 0 m) k d ≡ d)
upto_part f m k d = ⊎_elim
    (λ (l : k < m). inl (upto_get f 0 m k d l ∙ ap f (let z : 0 + k ≡ k = omega arith in z)))
    (λ (l : m ≤ k). inr (beyond (upto f 0 m) k d (let z : length (upto f 0 m) ≡ m = upto_long f 0 m in omega arith)))
    (cases_lt k m) where
      beyond : {A : Type 0} (xs : List A) (i : ℕ) (d : A) → length xs ≤ i → get_or xs i d ≡ d
      beyond [] i d l = refl
      beyond (x ∷ xs) zero d l = absurd (omega arith)
      beyond (x ∷ xs) (suc i) d l = beyond xs i d (omega arith)

module _ {T : Type 0} (o : T) (n who : ℕ) where
  pub plain_first : (k : ℕ) → IsPlain o n who k (of_cell Spent k (first_process o n who).parts)
  plain_first k = ⊎_elim
      (λ (e : get_or (upto (first_part o n who) 0 (n * n)) k Spent ≡ first_part o n who k). subst (IsPlain o n who k) (sym e)
      (first (nat_eq who (writer_of n k)) (nat_eq who (reader_of n k)) (λ nw. not_same who (writer_of n k) (λ q. nw (sym q)))))
      (λ (e : get_or (upto (first_part o n who) 0 (n * n)) k Spent ≡ Spent). subst (IsPlain o n who k) (sym e) (refl, refl, λ nw. refl))
      (upto_part (first_part o n who) (n * n) k Spent) where
        reads : (b : Bool) → IsPlain o n who k (cond b (bare_reader o) Spent)
        reads true = (refl, refl, λ nw. refl)
        reads false = (refl, refl, λ nw. refl)

        not_both : true ≡ false → ⊥
        not_both e = cc

        first : (a b : Bool) → (writer_of n k ≢ who → a ≡ false) → IsPlain o n who k (cond a (bare_writer o) (cond b (bare_reader o) Spent))
        first true b h = (refl, refl, λ nw. absurd (not_both (h nw)))
        first false b h = reads b

  pub start : who < n → Taking o n who 0 0 (Has (first_process o n who ∷ []), [])
  start lw = record {
    v = first_process o n who;
    one = refl;
    number = refl;
    fresh = (refl, refl, refl, refl);
    long = upto_long (first_part o n who) 0 (n * n);
    held = ([], [], refl, refl);
    many = refl;
    plain = plain_first;
    row = record {
      done = λ at l. absurd (omega arith);
      still = λ at l la.
          let k : ℕ = row_cell n who at in
          there k (row_in n who at lw la)
          ∙ ap (λ b. cond {A = TripleSight T} b (bare_writer o) (cond (nat_eq who (reader_of n k)) (bare_reader o) Spent))
          (yes_same who (writer_of n k) (sym (row_writer n who at lw la)));
    };
    column = record {
      done = λ at l. absurd (omega arith);
      still = λ at l la.
          let k : ℕ = column_cell n who at in
          let j : ℕ = other who at in
          let lj = other_low n who at la lw in
          let apart : who ≢ j = λ e. other_else who at (sym e) in
          there k (column_in n who at lw la)
          ∙ (ap (λ b. cond {A = TripleSight T} b (bare_writer o) (cond (nat_eq who (reader_of n k)) (bare_reader o) Spent))
          (not_same who (writer_of n k) (λ q. apart (q ∙ writer_there n j who lj lw apart)))
          ∙ ap (λ b. cond {A = TripleSight T} b (bare_reader o) Spent)
          (yes_same who (reader_of n k) (sym (reader_there n j who lj lw apart))));
    };
  } where
    there : (k : ℕ) → k < n * n → of_cell Spent k (first_process o n who).parts ≡ first_part o n who k
    there k l = upto_get (first_part o n who) 0 (n * n) k Spent l ∙ ap (first_part o n who) (let z : 0 + k ≡ k = omega arith in z)

  plain_more : (parts : List (TripleSight T)) (k : ℕ) (w : TripleSight T) → k < length parts → IsPlain o n who k w →
      ((i : ℕ) → IsPlain o n who i (of_cell Spent i parts)) → (i : ℕ) → IsPlain o n who i (of_cell Spent i (set parts k w))
  plain_more parts k w has new old i = ⊎_elim
      (λ (e : i ≡ k). subst (λ z. IsPlain o n who z (of_cell Spent z (set parts k w))) (sym e)
      (subst (IsPlain o n who k) (sym (get_set_here parts k w Spent has)) new))
      (λ (d : i ≢ k). subst (IsPlain o n who i) (sym (get_set_else parts k i w Spent d)) (old i))
      (cases_eq i k)

  -- a slot of the row, and one of the column
  pub took_row : (a : ℕ) (me m m' : Me T (View (TripleSight T))) → who < n → a < n - 1 → (h : Taking o n who a 0 me) →
      Beside h.v (row_cell n who a) (ready_writer o) ((slot_at (row_cell n who a) 0, o) ∷ me.1) m → m' ≡ (m.0, turned m.1) →
      Taking o n who (a + 1) 0 m'
  took_row a me m m' lw la h took turn =
      let k : ℕ = row_cell n who a in
      let y : ℕ × T = (slot_at k 0, o) in
      let u : Process (TripleSight T) = alters h.v k (ready_writer o) (held_slots (y ∷ me.1)) in
      let low : row_cell n who a < n * n = row_in n who a lw la in
      let parts : length h.v.parts ≡ n * n = h.long in
      let has : k < length h.v.parts = omega arith in
      let many : length me.1 ≡ a + 0 = h.many in
      subst (Taking o n who (a + 1) 0) (sym (turn ∙ (λ i. (took.0 i, turned (took.1 i))))) (record {
        v = u;
        one = refl;
        number = h.number;
        fresh = h.fresh;
        long = set_long h.v.parts k (ready_writer o) ∙ h.long;
        held = (y.0 ∷ [], held_slots me.1, refl, map-append (λ (x : ℕ × T). x.0) me.1 (y ∷ []));
        many = length-append me.1 (y ∷ []) ∙ (let z : length me.1 + 1 ≡ (a + 1) + 0 = omega arith in z);
        plain = plain_more h.v.parts k (ready_writer o) has (refl, refl, λ nw. absurd (nw (row_writer n who a lw la))) h.plain;
        row = taken_more (row_cell n who) (bare_writer o) (ready_writer o) 0 o (n - 1) a 0 h.v.parts me.1
            (λ i j li lj e. row_once n who i j e) la
            (omega arith) has h.row;
        column = rebased (a + 1) (taken_else (column_cell n who) (bare_reader o) (ready_reader o) (ready_writer o) 2 o
            (n - 1) 0 a k h.v.parts me.1 y
            (λ i li e. row_column n who a i lw la li (sym e)) (omega arith) h.column);
      }) where
        rebased : (base : ℕ) {parts : List (TripleSight T)} {cs : List (ℕ × T)} → {b : ℕ} →
            Taken (column_cell n who) (bare_reader o) (ready_reader o) 2 o (n - 1) 0 b parts cs →
            Taken (column_cell n who) (bare_reader o) (ready_reader o) 2 o (n - 1) 0 base parts cs
        rebased base t = record { done = λ at l. absurd (omega arith); still = t.still }

  pub took_column : (a : ℕ) (me m m' : Me T (View (TripleSight T))) → who < n → a < n - 1 → (h : Taking o n who (n - 1) a me) →
      Beside h.v (column_cell n who a) (ready_reader o) ((slot_at (column_cell n who a) 2, o) ∷ me.1) m → m' ≡ (m.0, turned m.1) →
      Taking o n who (n - 1) (a + 1) m'
  took_column a me m m' lw la h took turn =
      let k : ℕ = column_cell n who a in
      let y : ℕ × T = (slot_at k 2, o) in
      let u : Process (TripleSight T) = alters h.v k (ready_reader o) (held_slots (y ∷ me.1)) in
      let low : column_cell n who a < n * n = column_in n who a lw la in
      let parts : length h.v.parts ≡ n * n = h.long in
      let has : k < length h.v.parts = omega arith in
      let many : length me.1 ≡ (n - 1) + a = h.many in
      subst (Taking o n who (n - 1) (a + 1)) (sym (turn ∙ (λ i. (took.0 i, turned (took.1 i))))) (record {
        v = u;
        one = refl;
        number = h.number;
        fresh = h.fresh;
        long = set_long h.v.parts k (ready_reader o) ∙ h.long;
        held = (y.0 ∷ [], held_slots me.1, refl, map-append (λ (x : ℕ × T). x.0) me.1 (y ∷ []));
        many = length-append me.1 (y ∷ []) ∙ (let z : length me.1 + 1 ≡ (n - 1) + (a + 1) = omega arith in z);
        plain = plain_more h.v.parts k (ready_reader o) has (refl, refl, λ nw. refl) h.plain;
        row = taken_else (row_cell n who) (bare_writer o) (ready_writer o) (ready_reader o) 0 o (n - 1) (n - 1) 0 k h.v.parts me.1 y
            (λ i li. row_column n who i a lw li la) (omega arith) h.row;
        column = taken_more (column_cell n who) (bare_reader o) (ready_reader o) 2 o (n - 1) a (n - 1) h.v.parts me.1
            (λ i j li lj e. column_once n who i j lw li lj e) la many has h.column;
      })

  -- all of them
  pub took_all : (me : Me T (View (TripleSight T))) → who < n → Taking o n who (n - 1) (n - 1) me → IsReady o n who me
  took_all me lw h = record {
    process = h.v;
    one = h.one;
    number = h.number;
    rest = λ fills reads long_fills long_reads puts gets. record {
      inside = subst (λ z. z < n) (sym h.number) lw;
      parts = h.long;
      held = h.held;
      many = h.many ∙ (let z : (n - 1) + (n - 1) ≡ 2 * (n - 1) = omega arith in z);
      sized = (long_fills, long_reads);
      quiet = λ k nw. (h.plain k).2 (λ e. nw (e ∙ sym h.number));
      row = λ j lj ne. subst (λ z. IsRow o (place n z j) (of_cell Spent (place n z j) h.v.parts) me.1 (among z j) (get_or fills j 0))
          (sym h.number)
          (let other : j ≢ who = λ e. ne (e ∙ sym h.number) in
          let d = h.row.done (among who j) (among_small n who j lw lj other) in
          let same : row_cell n who (among who j) ≡ place n who j = ap (place n who) (other_among who j other) in
          record {
            notes = record (first_writer o) { has = 1 };
            is = ap (λ z. of_cell Spent z h.v.parts) (sym same) ∙ d.0;
            took = refl;
            opened = refl;
            low = omega arith;
            numbered = sym (puts j lj);
            record_there = o;
            slot = ap (get_elem? me.1) (let z : among who j ≡ 0 + among who j = omega arith in z)
                ∙ (d.1 ∙ ap (λ z. some (slot_at z 0, o)) same);
          });
      column = λ j lj ne. subst
          (λ z. IsColumn o (place n j z) (of_cell Spent (place n j z) h.v.parts) me.1 ((n - 1) + among z j) (get_or reads j 0))
          (sym h.number)
          (let apart : j ≢ who = λ e. ne (e ∙ sym h.number) in
          let d = h.column.done (among who j) (among_small n who j lw lj apart) in
          let same : column_cell n who (among who j) ≡ place n j who = ap (λ z. place n z who) (other_among who j apart) in
          record {
            notes = record (first_reader o) { has = 1 };
            is = ap (λ z. of_cell Spent z h.v.parts) (sym same) ∙ d.0;
            took = refl;
            free = refl;
            opened = refl;
            low = omega arith;
            numbered = sym (gets j lj);
            slot = d.1 ∙ ap (λ z. some (slot_at z 2, o)) same;
            last = refl;
          });
    };
    unused = (
      h.fresh.0,
      h.fresh.1,
      λ j. blank (nat_eq j h.v.who) (of_cell Spent (place n h.v.who j) h.v.parts)
          (λ z. writes_by (writer_or (first_writer o) z) ≡ no_writes) refl
          (h.plain (place n h.v.who j)).0,
      λ j. blank (nat_eq j h.v.who) (of_cell Spent (place n j h.v.who) h.v.parts)
          (λ z. reads_by (reader_or (first_reader o) z) ≡ no_reads) refl
          (h.plain (place n j h.v.who)).1,
      h.fresh.2,
      h.fresh.3,
    );
  } where
    blank : (b : Bool) (x : TripleSight T) (P : TripleSight T → Type 0) → P Spent → P x → P (cond b Spent x)
    blank true x P s h = s
    blank false x P s h = h
