-- The slots of a composed board, access by access: a step shows the slot of its own access at R3 and W1, and no other changes.
use Rattle.std.proofs.Common.{◌≡◌, ◌≢◌, ℕ, ◌+◌, ◌-◌, ◌*◌, ◌<◌, ◌≤◌, List, [], ◌∷◌, ◌++◌, length, slice_get, Option, None}
use Rattle.std.proofs.Common.{Some, true, false, refl, sym, subst, ◌∙◌, ap, arith, inl, inr}
use Rattle.std.specs.Prelude.{nat_lt, if◌then◌else◌}
use Rattle.std.proofs.lemmas.Bool.{cases_eq, cases_lt}
use Rattle.std.proofs.lemmas.Bool.Decides.{nat_tests}
use Rattle.std.proofs.lemmas.Option.{none-some}
use Rattle.history_core.specs.declared.wish.Wish.{Wish}
use Rattle.history_core.specs.Schedules.{planned, Span, steps_of}
use Rattle.four_slot_core.specs.declared.state.State.{State}
use Rattle.four_slot_core.specs.declared.state.Stage.{Stage}
use Rattle.four_slot_core.specs.declared.state.Stage.TheVariants.{W1, W2, W3, W4, W5}
use Rattle.four_slot_core.specs.declared.state.ReaderStage.{ReaderStage}
use Rattle.four_slot_core.specs.declared.state.ReaderStage.TheVariants as rs
use Rattle.four_slot_core.specs.Events.{after_read, after_write, next_read, next_write, slot_number}
use Rattle.four_slot_core.specs.Traces.{Trace}
use Rattle.four_slot_core.proofs.traces.Counts.{left, made}
use Rattle.matrix_core.specs.declared.stamp.Stamped.{Stamped}
use Rattle.matrix_core.specs.declared.progress.Progress.{Progress}
use Rattle.matrix_core.specs.declared.progress.Outcome.{Outcome}
use Rattle.matrix_core.specs.Lines.{cell_place, other}
use Rattle.composed_play.specs.BoardEvents.{after_event, Board, board_size, read_slot, slot_of, write_slot}
use Rattle.matrix_core.proofs.lines.Others.{other_above, other_below, other_differs}
use Rattle.composed_play.proofs.boards.Steps.{hear_slot, post_slot}
use Rattle.composed_play.proofs.boards.Traces.{cell, IsAt, IsLineAt, others_read_slots, others_write_slots}
use Rattle.composed_play.proofs.boards.ColumnSteps.{column, column_earlier, column_no_slot, column_others, column_slot, lf, now}
use Rattle.composed_play.proofs.boards.RowSteps.{lto, row_done, row_earlier, row_no_slot, row_others, row_slot, w_first, w_later}

-- another process has one number
other_once : (i x y : ℕ) → other i x ≡ other i y → x ≡ y
other_once i x y h = elim (cases_lt x i) [
  | inl lx ↦ let ex : other i x ≡ x = other_below i x lx in elim (cases_lt y i) [
    | inl ly ↦ let ey : other i y ≡ y = other_below i y ly in omega arith
    | inr gy ↦ let ey : other i y ≡ y + 1 = other_above i y gy in absurd (omega arith)
  ]
  | inr gx ↦ let ex : other i x ≡ x + 1 = other_above i x gx in elim (cases_lt y i) [
    | inl ly ↦ let ey : other i y ≡ y = other_below i y ly in absurd (omega arith)
    | inr gy ↦ let ey : other i y ≡ y + 1 = other_above i y gy in omega arith
  ]
]

module _ {R : Type 0} where
  -- R3 chooses a slot, and no other event of a read
  read_shows : (r : ReaderStage) (s x : State (Stamped R)) → made r ≡ 2 → read_slot (next_read r s) x ≡ Some (slot_number x.read)
  read_shows rs.R1 s x e = absurd (omega arith)
  read_shows rs.R2 s x e = refl
  read_shows rs.R3 s x e = absurd (omega arith)
  read_shows rs.R4 s x e = absurd (omega arith)
  read_shows rs.R5 s x e = absurd (omega arith)

  read_hides : (r : ReaderStage) (s x : State (Stamped R)) → made r ≢ 2 → read_slot (next_read r s) x ≡ None
  read_hides rs.R1 s x e = refl
  read_hides rs.R2 s x e = absurd (e refl)
  read_hides rs.R3 s x e = refl
  read_hides rs.R4 s x e = refl
  read_hides rs.R5 s x e = refl

  -- and W1, of a write
  write_shows : (w : Stage) (x : State (Stamped R)) → left w ≡ 0 → write_slot (next_write w) x ≡ Some (slot_number x.write)
  write_shows W1 x e = absurd (omega arith)
  write_shows W2 x e = absurd (omega arith)
  write_shows W3 x e = absurd (omega arith)
  write_shows W4 x e = absurd (omega arith)
  write_shows W5 x e = refl

  write_hides : (w : Stage) (x : State (Stamped R)) → 0 < left w → write_slot (next_write w) x ≡ None
  write_hides W1 x e = refl
  write_hides W2 x e = refl
  write_hides W3 x e = refl
  write_hides W4 x e = refl
  write_hides W5 x e = absurd (omega arith)

module _ {R : Type 0} (at : ℕ) (span : Span R) (opening noise : R) (two : 2 ≤ length span.plans)
    (accesses : span.accesses ≡ (2 * (length span.plans - 1)) * 5) (chosen : ℕ → ℕ → Stamped R) (outcomes : ℕ → ℕ → Outcome R) where
  abbrev n : ℕ
  n = length span.plans

  abbrev a : ℕ
  a = span.accesses

  abbrev ch : ℕ
  ch = (n - 2) * 5 + 4

  abbrev here : ℕ → ℕ → List ℕ → Trace (Stamped R)
  here i j done = cell at span opening noise two accesses chosen outcomes i j done

  -- the slot of an access of operation k of process i, after these steps
  abbrev pub slot_at : List ℕ → ℕ → ℕ → ℕ → Option ℕ
  slot_at done i k access = if nat_lt access (n - 1)
      then slice_get (here (other i access) i done).read_slots k
      else slice_get (here i (other i (access - (n - 1))) done).write_slots k

  in_column : (done : List ℕ) (i k access : ℕ) → access < n - 1 →
      slot_at done i k access ≡ slice_get (here (other i access) i done).read_slots k
  in_column done i k access l =
      let t : nat_lt access (n - 1) ≡ true = grind (arith, nat_tests) in
      ap (λ b. if b then slice_get (here (other i access) i done).read_slots k else slice_get
      (here i (other i (access - (n - 1))) done).write_slots k) t

  in_row : (done : List ℕ) (i k access : ℕ) → n - 1 ≤ access →
      slot_at done i k access ≡ slice_get (here i (other i (access - (n - 1))) done).write_slots k
  in_row done i k access l =
      let t : nat_lt access (n - 1) ≡ false = grind (arith, nat_tests) in
      ap (λ b. if b then slice_get (here (other i access) i done).read_slots k else slice_get
      (here i (other i (access - (n - 1))) done).write_slots k) t

  -- a step of process s, in access d of its operation k, shows this slot or none
  pub record Shows (done : List ℕ) (s k d : ℕ) (shown : Option ℕ) : Type 0 where
    pub elsewhere : (i m x : ℕ) → ((i ≡ s) → (m ≡ k) → x ≢ d) → slot_at (done ++ s ∷ []) i m x ≡ slot_at done i m x
    pub none : shown ≡ None → slot_at (done ++ s ∷ []) s k d ≡ slot_at done s k d
    pub some : (v : ℕ) → shown ≡ Some v → slot_at (done ++ s ∷ []) s k d ≡ Some v

  -- what another process's operations have stays
  others_slots : (done : List ℕ) (s i m x : ℕ) → s ≢ i → slot_at (done ++ s ∷ []) i m x ≡ slot_at done i m x
  others_slots done s i m x ne = elim (cases_lt x (n - 1)) [
    | inl l ↦
        in_column (done ++ s ∷ []) i m x l
        ∙ ap (λ xs. slice_get xs m) (others_read_slots at span opening noise two accesses chosen outcomes done s (other i x) i ne)
        ∙ sym (in_column done i m x l)
    | inr g ↦
        in_row (done ++ s ∷ []) i m x g
        ∙ ap (λ xs. slice_get xs m)
        (others_write_slots at span opening noise two accesses chosen outcomes done s i (other i (x - (n - 1))) ne)
        ∙ sym (in_row done i m x g)
  ]

  -- a step in its column
  column_shows : (done : List ℕ) (s : ℕ) (b : Board R) (w : Wish R) (line : Progress R) (ls : s < n)
      (h : IsAt at span opening noise two accesses chosen outcomes done b) (there : slice_get b.lines s ≡ Some line)
      (hl : IsLineAt at span opening noise two accesses chosen outcomes done s line) (phase : hl.r ≤ ch)
      (wished : (k : ℕ) → steps_of s done ≡ k * a → planned span s k ≡ Some w)
      (picks : (k : ℕ) (x : Progress R) → steps_of s done ≡ k * a + ch → slice_get (after_event b s w).lines s ≡ Some x →
      (chosen s k ≡ x.own) × (outcomes s k ≡ x.outcome))
      → Shows done s hl.k line.done (slot_of b s)
  column_shows done s b w line ls h there hl phase wished picks =
      let d : ℕ = line.done in
      let from : ℕ = other s d in
      let sc : State (Stamped R) = (here from s done).cell in
      let l1 : d + 1 < n = column at span opening noise two accesses chosen outcomes done s b w line ls h there hl phase wished picks in
      let lf1 : from < n = lf at span opening noise two accesses chosen outcomes done s b w line ls h there hl phase wished picks in
      let made_now : made sc.reader ≡ hl.r - d * 5 =
      (now at span opening noise two accesses chosen outcomes done s b w line ls h there hl phase wished picks).0 in
      let lo : d * 5 ≤ hl.r = hl.low in
      let sz : board_size b ≡ n = h.size in
      let c : slice_get b.cells (cell_place (board_size b) from s) ≡ Some sc =
      ap (λ z. slice_get b.cells (cell_place z from s)) sz ∙ h.cells from s lf1 ls (other_differs s d) in
      let is : slot_of b s ≡ read_slot (next_read sc.reader sc) (after_read sc.reader sc) = hear_slot b s line sc there (omega arith) c in
      let next : List ℕ = done ++ s ∷ [] in
      record {
        elsewhere = λ i m x ne. elim (cases_eq s i) [
          | inr other_one ↦ others_slots done s i m x other_one
          | inl mine ↦ subst (λ z. slot_at next z m x ≡ slot_at done z m x) mine (elim (cases_lt x (n - 1)) [
            | inr g ↦
                in_row next s m x g
                ∙ ap (λ xs. slice_get xs m) (column_others at span opening noise two accesses chosen outcomes done s b w line ls h there hl
                phase wished picks s (other s (x - (n - 1))) (λ e. absurd (other_differs s d (sym e)))).1
                ∙ sym (in_row done s m x g)
            | inl l ↦ elim (cases_eq x d) [
              | inr nx ↦
                  in_column next s m x l
                  ∙ ap (λ xs. slice_get xs m) (column_others at span opening noise two accesses chosen outcomes done s b w line ls h there
                  hl phase wished picks (other s x) s (λ e. absurd (nx (other_once s x d e)))).0
                  ∙ sym (in_column done s m x l)
              | inl xd ↦
                  let nk : m ≢ hl.k = λ e. ne (sym mine) e xd in
                  in_column next s m x l
                  ∙ ap (λ z. slice_get (here (other s z) s next).read_slots m) xd
                  ∙ column_earlier at span opening noise two accesses chosen outcomes done s b w line ls h there hl phase wished picks m nk
                  ∙ ap (λ z. slice_get (here (other s z) s done).read_slots m) (sym xd)
                  ∙ sym (in_column done s m x l)
            ]
          ])
        ];
        none = λ e. elim (cases_eq hl.r (d * 5 + 2)) [
          | inl z ↦ absurd (none-some (slot_number (after_read sc.reader sc).read)
              (sym e ∙ is ∙ read_shows sc.reader sc (after_read sc.reader sc) (made_now ∙ (let q : hl.r - d * 5 ≡ 2 = omega arith in
              q))))
          | inr nz ↦
              in_column next s hl.k d (omega arith)
              ∙ ap (λ xs. slice_get xs hl.k)
              (column_no_slot at span opening noise two accesses chosen outcomes done s b w line ls h there hl phase wished picks nz)
              ∙ sym (in_column done s hl.k d (omega arith))
        ];
        some = λ v e. elim (cases_eq hl.r (d * 5 + 2)) [
          | inl z ↦
              let sh : slot_of b s ≡ Some (slot_number (after_read sc.reader sc).read) =
              is ∙ read_shows sc.reader sc (after_read sc.reader sc) (made_now ∙ (let q : hl.r - d * 5 ≡ 2 = omega arith in q)) in
              in_column next s hl.k d (omega arith)
              ∙ column_slot at span opening noise two accesses chosen outcomes done s b w line ls h there hl phase wished picks z
              ∙ sym sh ∙ e
          | inr nz ↦ absurd (none-some v (sym (is ∙ read_hides sc.reader sc (after_read sc.reader sc) (λ q. nz (omega arith))) ∙ e))
        ];
      }

  -- a step in its row
  row_shows : (done : List ℕ) (s : ℕ) (b : Board R) (w : Wish R) (line : Progress R) (ls : s < n)
      (h : IsAt at span opening noise two accesses chosen outcomes done b) (there : slice_get b.lines s ≡ Some line)
      (hl : IsLineAt at span opening noise two accesses chosen outcomes done s line) (phase : ch < hl.r) →
      Shows done s hl.k line.done (slot_of b s)
  row_shows done s b w line ls h there hl phase =
      let d : ℕ = line.done in
      let wn : ℕ = line.done + 1 - n in
      let to : ℕ = other s wn in
      let wc : State (Stamped R) = (here s to done).cell in
      let row = row_done at span opening noise two accesses chosen outcomes done s b w line ls h there hl phase in
      let r0 : n ≤ d + 1 = row.0 in
      let r2 : n - 1 + wn ≡ d = row.2 in
      let lto1 : to < n = lto at span opening noise two accesses chosen outcomes done s b w line ls h there hl phase in
      let lo : d * 5 ≤ hl.r = hl.low in
      let hi : hl.r < d * 5 + 5 = hl.high in
      let sz : board_size b ≡ n = h.size in
      let c : slice_get b.cells (cell_place (board_size b) s (other s (line.done + 1 - board_size b))) ≡ Some wc =
      ap (λ z. slice_get b.cells (cell_place z s (other s (line.done + 1 - z)))) sz
      ∙ h.cells s to ls lto1 (λ e. other_differs s wn (sym e)) in
      let is : slot_of b s ≡ write_slot (next_write wc.writer) (after_write wc.writer line.own wc) =
      post_slot b s line wc there (omega arith) c in
      let next : List ℕ = done ++ s ∷ [] in
      let at_d : d - (n - 1) ≡ wn = omega arith in
      let to_row : (done : List ℕ) → slot_at done s hl.k d ≡ slice_get (here s to done).write_slots hl.k =
      λ ds. in_row ds s hl.k d (omega arith) ∙ ap (λ z. slice_get (here s (other s z) ds).write_slots hl.k) at_d in
      record {
        elsewhere = λ i m x ne. elim (cases_eq s i) [
          | inr other_one ↦ others_slots done s i m x other_one
          | inl mine ↦ subst (λ z. slot_at next z m x ≡ slot_at done z m x) mine (elim (cases_lt x (n - 1)) [
            | inl l ↦
                in_column next s m x l
                ∙ ap (λ xs. slice_get xs m) (row_others at span opening noise two accesses chosen outcomes done s b w line ls h there hl
                phase (other s x) s (λ e. absurd (other_differs s x e))).0
                ∙ sym (in_column done s m x l)
            | inr g ↦ elim (cases_eq x d) [
              | inr nx ↦
                  in_row next s m x g
                  ∙ ap (λ xs. slice_get xs m) (row_others at span opening noise two accesses chosen outcomes done s b w line ls h there hl
                  phase s (other s (x - (n - 1))) (λ e f. nx (let q : x - (n - 1) ≡ wn = other_once s (x - (n - 1)) wn f in
                  omega arith))).1
                  ∙ sym (in_row done s m x g)
              | inl xd ↦
                  let nk : m ≢ hl.k = λ e. ne (sym mine) e xd in
                  let at_x : x - (n - 1) ≡ wn = omega arith in
                  in_row next s m x g
                  ∙ ap (λ z. slice_get (here s (other s z) next).write_slots m) at_x
                  ∙ row_earlier at span opening noise two accesses chosen outcomes done s b w line ls h there hl phase m nk
                  ∙ ap (λ z. slice_get (here s (other s z) done).write_slots m) (sym at_x)
                  ∙ sym (in_row done s m x g)
            ]
          ])
        ];
        none = λ e. elim (cases_eq hl.r (d * 5)) [
          | inl z ↦
              absurd (none-some (slot_number (after_write wc.writer line.own wc).write) (sym e ∙ is ∙ write_shows wc.writer (after_write
              wc.writer line.own wc) (w_first at span opening noise two accesses chosen outcomes done s b w line ls h there hl phase z).0))
          | inr nz ↦
              to_row next
              ∙ ap (λ xs. slice_get xs hl.k)
              (row_no_slot at span opening noise two accesses chosen outcomes done s b w line ls h there hl phase nz)
              ∙ sym (to_row done)
        ];
        some = λ v e. elim (cases_eq hl.r (d * 5)) [
          | inl z ↦
              let sh : slot_of b s ≡ Some (slot_number (after_write wc.writer line.own wc).write) =
              is ∙ write_shows wc.writer (after_write wc.writer line.own wc)
              (w_first at span opening noise two accesses chosen outcomes done s b w line ls h there hl phase z).0 in
              to_row next
              ∙ row_slot at span opening noise two accesses chosen outcomes done s b w line ls h there hl phase z
              ∙ sym sh ∙ e
          | inr nz ↦
              let some_left : 0 < left wc.writer =
              let x : hl.r - d * 5 + left wc.writer ≡ 5 =
              (w_later at span opening noise two accesses chosen outcomes done s b w line ls h there hl phase nz).0 in
              omega arith in
              absurd (none-some v (sym (is ∙ write_hides wc.writer (after_write wc.writer line.own wc) some_left) ∙ e))
        ];
      }

  -- any step
  pub step_shows : (done : List ℕ) (s : ℕ) (b : Board R) (w : Wish R) (line : Progress R) (ls : s < n)
      (h : IsAt at span opening noise two accesses chosen outcomes done b) (there : slice_get b.lines s ≡ Some line)
      (hl : IsLineAt at span opening noise two accesses chosen outcomes done s line)
      (wished : (k : ℕ) → steps_of s done ≡ k * a → planned span s k ≡ Some w)
      (picks : (k : ℕ) (x : Progress R) → steps_of s done ≡ k * a + ch → slice_get (after_event b s w).lines s ≡ Some x →
      (chosen s k ≡ x.own) × (outcomes s k ≡ x.outcome))
      → Shows done s hl.k line.done (slot_of b s)
  step_shows done s b w line ls h there hl wished picks = elim (cases_lt ch hl.r) [
    | inl phase ↦ row_shows done s b w line ls h there hl phase
    | inr phase ↦ column_shows done s b w line ls h there hl phase wished picks
  ]
