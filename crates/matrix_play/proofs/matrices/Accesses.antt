-- An access changes the progress of one process, and a row write also the record of one cell: what it leaves, in one record.
use Rattle.std.proofs.Common.{◌≡◌, ◌≢◌, ℕ, ◌+◌, ◌-◌, ◌*◌, ◌<◌, ◌≤◌, length, set, Bool, true, false, refl, sym, ◌∙◌, ap, arith, ◌⊎◌, inl}
use Rattle.std.proofs.Common.{inr, ⊎_elim}
use Rattle.std.specs.Prelude.{slice_get, Some, nat_lt, nat_eq, if◌then◌else◌}
use Rattle.std.proofs.lemmas.Bool.{cases_lt}
use Rattle.std.proofs.lemmas.List.{length-set}
use Rattle.std.proofs.lemmas.Option.{slice_get_within, same_Some}
use Rattle.history_core.specs.declared.wish.Wish.{Wish}
use Rattle.history_core.specs.declared.wish.Wish.TheVariants.{Write, Read}
use Rattle.matrix_core.specs.declared.stamp.Stamped.{Stamped}
use Rattle.matrix_core.specs.declared.progress.Progress.{Progress}
use Rattle.matrix_core.specs.declared.progress.Outcome.{Outcome}
use Rattle.matrix_core.specs.declared.progress.Outcome.TheVariants.{Written, Seen, Ended}
use Rattle.matrix_core.specs.Lines.{cell_place, other, after_read, after_write, choice, chosen, begun, gathered}
use Rattle.matrix_core.proofs.lists.Elements.{get_set_same, get_exists, same, not_same}
use Rattle.matrix_core.proofs.lines.Others.{place_inside, other_inside}
use Rattle.matrix_core.proofs.lines.Accesses.{read_done, write_done}
use Rattle.matrix_play.specs.MatrixEvents.{Matrix, IsMatrix, size, cell_of, after_access}
use Rattle.matrix_play.proofs.matrices.Shape.{keeps_line, keeps_cell, read_is, write_is}

module _ {R : Type 0} where
  -- a read of the next cell of the column
  pub record IsRead (m m' : Matrix R) (who : ℕ) (wish : Wish R) (line next : Progress R) : Type 0 where
    pub phase : line.done + 1 < size m
    pub answer : Stamped R
    pub of_cell : cell_of m (other who line.done) who ≡ Some answer
    pub cells : m'.cells ≡ m.cells
    pub after : next ≡ after_read (size m) m.limit who wish line answer

  -- a write of the next cell of the row
  pub record IsWrite (m m' : Matrix R) (who : ℕ) (line next : Progress R) : Type 0 where
    pub phase : size m ≤ line.done + 1
    pub cells : m'.cells ≡ set m.cells (cell_place (size m) who (other who (line.done + 1 - size m))) line.own
    pub after : next ≡ after_write (size m) line

  pub record IsAccess (m m' : Matrix R) (who : ℕ) (wish : Wish R) (line next : Progress R) : Type 0 where
    pub matrix : IsMatrix m'
    pub same_size : size m' ≡ size m
    pub limit : m'.limit ≡ m.limit
    pub lines : m'.lines ≡ set m.lines who next
    pub here : slice_get m'.lines who ≡ Some next
    pub kind : IsRead m m' who wish line next ⊎ IsWrite m m' who line next

  read_access : (m : Matrix R) (who : ℕ) (wish : Wish R) (line : Progress R) → IsMatrix m →
      slice_get m.lines who ≡ Some line → line.done + 1 < size m
      → (next : Progress R) × IsAccess m (after_access m who wish) who wish line next
  read_access m who wish line im at ph =
      let lw : who < size m = slice_get_within m.lines who line at in
      let lo : other who line.done < size m = other_inside (size m) who line.done lw ph in
      let pl : cell_place (size m) (other who line.done) who < length m.cells =
      let z = place_inside (size m) (other who line.done) who lo lw in
      let e = im.cells in
      omega arith in
      let x : (a : Stamped R) × (cell_of m (other who line.done) who ≡ Some a) =
      get_exists m.cells (cell_place (size m) (other who line.done) who) pl in
      let next : Progress R = after_read (size m) m.limit who wish line x.0 in
      let m' : Matrix R = record m { lines = set m.lines who next } in
      let e : after_access m who wish ≡ m' = read_is m who wish line x.0 at ph x.1 in
      let d : next.done ≡ line.done + 1 = read_done (size m) m.limit who wish line x.0 in
      let r : IsAccess m m' who wish line next = record {
        matrix = keeps_line m who next im (let a = im.at_least in omega arith);
        same_size = length-set m.lines who next;
        limit = refl;
        lines = refl;
        here = get_set_same m.lines who next lw;
        kind = inl (record { phase = ph; answer = x.0; of_cell = x.1; cells = refl; after = refl });
      } in
      (next, rw e r)

  write_access : (m : Matrix R) (who : ℕ) (wish : Wish R) (line : Progress R) → IsMatrix m →
      slice_get m.lines who ≡ Some line → size m ≤ line.done + 1
      → (next : Progress R) × IsAccess m (after_access m who wish) who wish line next
  write_access m who wish line im at ph =
      let lw : who < size m = slice_get_within m.lines who line at in
      let next : Progress R = after_write (size m) line in
      let k : ℕ = cell_place (size m) who (other who (line.done + 1 - size m)) in
      let m' : Matrix R = record m { cells = set m.cells k line.own; lines = set m.lines who next } in
      let m0 : Matrix R = record m { cells = set m.cells k line.own } in
      let e : after_access m who wish ≡ m' = write_is m who wish line at ph in
      let d : next.done + 3 ≤ 2 * size m = write_done (size m) line (im.inside who line at) im.at_least in
      let r : IsAccess m m' who wish line next = record {
        matrix = keeps_line m0 who next (keeps_cell m k line.own im) d;
        same_size = length-set m.lines who next;
        limit = refl;
        lines = refl;
        here = get_set_same m.lines who next lw;
        kind = inr (record { phase = ph; cells = refl; after = refl });
      } in
      (next, rw e r)

  pub access_of : (m : Matrix R) (who : ℕ) (wish : Wish R) (line : Progress R) → IsMatrix m → slice_get m.lines who ≡ Some line →
      (next : Progress R) × IsAccess m (after_access m who wish) who wish line next
  access_of m who wish line im at =
      ⊎_elim (λ l. read_access m who wish line im at l) (λ l. write_access m who wish line im at l) (cases_lt (line.done + 1) (size m))

  -- what fits an outcome: only a read answers what it saw, and only a write is refused
  abbrev pub Fits : Outcome R → Wish R → Type 0
  Fits (Written stamp) wish = Unit {0}
  Fits (Seen answer) wish = wish ≡ Read
  Fits (Ended last) wish = (item : R) × (wish ≡ Write item)

  choice_fits : (limit i : ℕ) (wish : Wish R) (line : Progress R) → Fits (choice limit i wish line).outcome wish
  choice_fits limit i Read line = refl
  choice_fits limit i (Write item) line = by_test (nat_lt line.seen.stamp.tag limit)
    where
      by_test : (b : Bool) → Fits (if b then record line {
        own = record { stamp = record { tag = line.seen.stamp.tag + 1; writer = i }; item = item };
        outcome = Written (record { tag = line.seen.stamp.tag + 1; writer = i });
      } else record line { own = line.seen; outcome = Ended line.seen }).outcome (Write item)
      by_test true = tt
      by_test false = (item, refl)

  choice_wish : (limit i : ℕ) (wish : Wish R) (line : Progress R) → (choice limit i wish line).wish ≡ line.wish
  choice_wish limit i Read line = refl
  choice_wish limit i (Write item) line = by_test (nat_lt line.seen.stamp.tag limit)
    where
      by_test : (b : Bool) → (if b then record line {
        own = record { stamp = record { tag = line.seen.stamp.tag + 1; writer = i }; item = item };
        outcome = Written (record { tag = line.seen.stamp.tag + 1; writer = i });
      } else record line { own = line.seen; outcome = Ended line.seen }).wish ≡ line.wish
      by_test true = refl
      by_test false = refl

  -- the read that chooses
  pub after_last_read : (n limit i : ℕ) (wish : Wish R) (line : Progress R) (answer : Stamped R) → line.done + 2 ≡ n
      → after_read n limit i wish line answer ≡ choice limit i (begun wish line).wish (gathered answer (begun wish line))
  after_last_read n limit i wish line answer e = let b : nat_eq (line.done + 2) n ≡ true = same _ _ e in rw b refl

  -- any other read
  pub after_other_read : (n limit i : ℕ) (wish : Wish R) (line : Progress R) (answer : Stamped R) → line.done + 2 ≢ n →
      after_read n limit i wish line answer ≡ gathered answer (begun wish line)
  after_other_read n limit i wish line answer e = let b : nat_eq (line.done + 2) n ≡ false = not_same _ _ e in rw b refl

  pub read_wish : (n limit i : ℕ) (wish : Wish R) (line : Progress R) (answer : Stamped R) →
      (after_read n limit i wish line answer).wish ≡ (begun wish line).wish
  read_wish n limit i wish line answer = by_test (nat_eq (line.done + 2) n)
    where
      by_test : (b : Bool) → (if b then chosen limit i (gathered answer (begun wish line)) else gathered answer (begun wish line)).wish
          ≡ (begun wish line).wish
      by_test true = choice_wish limit i (begun wish line).wish (gathered answer (begun wish line))
      by_test false = refl

  pub last_read_fits : (n limit i : ℕ) (wish : Wish R) (line : Progress R) (answer : Stamped R) → line.done + 2 ≡ n →
      Fits (after_read n limit i wish line answer).outcome (begun wish line).wish
  last_read_fits n limit i wish line answer e =
      rw (after_last_read n limit i wish line answer e) (choice_fits limit i (begun wish line).wish (gathered answer (begun wish line)))

  -- the last access of an operation leaves what the operation answers
  pub last_access : (m m' : Matrix R) (who : ℕ) (wish : Wish R) (line next : Progress R) → IsMatrix m → m' ≡ after_access m who wish →
      slice_get m.lines who ≡ Some line → line.done + 3 ≡ 2 * size m
      → slice_get m'.lines who ≡ Some next → next.outcome ≡ line.outcome
  last_access m m' who wish line next im e at last here =
      let acc = access_of m who wish line im at in
      let same_next : next ≡ acc.0 = same_Some next acc.0 (sym here ∙ (ap (λ (z : Matrix R). slice_get z.lines who) e ∙ acc.1.here)) in
      let two : 2 ≤ size m = im.at_least in
      ap (λ (l : Progress R). l.outcome) same_next ∙ ⊎_elim
      (λ (r : IsRead m (after_access m who wish) who wish line acc.0). let ph : line.done + 1 < size m = r.phase in absurd (omega arith))
      (λ (r : IsWrite m (after_access m who wish) who line acc.0). ap (λ (l : Progress R). l.outcome) r.after) acc.1.kind
