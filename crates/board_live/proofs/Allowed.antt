-- A pass's own calls keep its process to the plan, whatever step they have come to.
use Rattle.std.proofs.Common.{◌≡◌, ◌≢◌, Bool, ℕ, ◌+◌, ◌-◌, ◌*◌, ◌<◌, ◌≤◌, List, length, slice_get, Some}
use Rattle.std.proofs.Common.{refl, sym, ◌∙◌, ap, subst, arith, inl, inr}
use Rattle.std.specs.Prelude.{None, Option, MatchOption}
use Rattle.history_core.specs.declared.history.Kind.{Kind}
use Rattle.history_core.specs.declared.history.Kind.TheVariants.{Refused, Write}
use Rattle.history_core.proofs.Played.{later_operation}
use Rattle.cell_contract.specs.declared.family.Family.{Ghosts as FamilyWords}
use Rattle.cell_contract.specs.Running.{last_or}
use Rattle.cell_contract.specs.Accesses.{WriteAccesses}
use Rattle.cell_contract.specs.Plans.{Accesses, doings, MayFind, MayReadEach, MayWriteEach}
use Rattle.matrix_core.specs.declared.stamp.Stamp.{Stamp}
use Rattle.matrix_core.specs.Choices.{ChoosesByKind}
use Rattle.matrix_core.specs.Stamps.{IsBelow}
use Rattle.board_history.specs.BoardRuns.{IsProcess}
use Rattle.board_live.specs.declared.board.Board.{Board}
use Rattle.board_live.specs.declared.board.Pass.{Pass}
use Rattle.board_live.specs.declared.record.Posted.{Posted}
use Rattle.board_live.specs.inner.Calls.{HasReadColumn, IsStretch}
use Rattle.board_live.specs.Passes.{did_of, IsPass}
use Rattle.board_live.specs.Plans.{did_with, MakesCalls}
use Rattle.board_live.specs.Records.{or_item, Rises, rises_on, stamped}
use Rattle.board_live.proofs.Plans.{column_allowed, find_allowed, row_allowed}
use Rattle.board_live.proofs.Same.{same_process}

span_begins : (a b : ℕ) (steps : List ℕ) → IsStretch a b steps → 0 < length steps → (begin : ℕ) × (slice_get steps 0 ≡ Some begin)
span_begins a b steps (inl x) l = absurd (let e : length steps ≡ 0 = ap length x.0 in omega arith)
span_begins a b steps (inr x) l = (x.0, x.1)

module _ {V F S T : Type 0} (words : FamilyWords F (Posted V) S T) (obeys : V → Bool) (board : Board V F S T) (pass : Pass V F S T)
    (of : IsPass words obeys board pass) where
  abbrev n : ℕ
  n = board.processes

  -- by the family's words
  pub carried : (P : Posted V → ℕ → ℕ → ℕ → Type 0) (who : ℕ) → who ≡ pass.process → P board.first n board.limit pass.process →
      P (words.opening board.family) (words.processes board.family) (words.limit board.family) who
  carried P who e h =
      subst (λ z. P z (words.processes board.family) (words.limit board.family) who) (sym of.opens)
      (subst (λ z. P board.first z (words.limit board.family) who) (sym of.processes)
      (subst (λ z. P board.first n z who) (sym of.limit) (subst (λ z. P board.first n board.limit z) (sym e) h)))

  so_far : (numbers : ℕ → List ℕ) → IsProcess words.width n board.limit (stamped board.first) pass.process
      (did_with of.made.0 numbers (doings (words.times pass.seat) (words.writes pass.seat) (words.reads pass.seat) (words.said pass.seat)
      (words.found pass.seat)))
  so_far numbers = same_process words.width n board.limit (stamped board.first) pass.process (did_of words pass.seat of.made.0)
      (did_with of.made.0 numbers (doings (words.times pass.seat) (words.writes pass.seat) (words.reads pass.seat) (words.said pass.seat)
      (words.found pass.seat))) refl refl
      (λ e. record { items = refl; begins = refl; ends = refl }) (λ e. refl) of.made.1.made

  pub may_read : MayReadEach
      (MakesCalls (words.opening board.family) words.width (words.processes board.family) (words.limit board.family) (words.who pass.seat))
      words.width (words.processes board.family) (words.who pass.seat)
      (doings (words.times pass.seat) (words.writes pass.seat) (words.reads pass.seat) (words.said pass.seat)
      (words.found pass.seat))
  may_read = carried (λ opening n limit i. MayReadEach (MakesCalls opening words.width n limit i) words.width n i
      (doings (words.times pass.seat) (words.writes pass.seat) (words.reads pass.seat) (words.said pass.seat)
      (words.found pass.seat))) (words.who pass.seat) of.who
      (column_allowed words.width n board.limit pass.process board.first of.size.0 of.some of.made.0
      (doings (words.times pass.seat) (words.writes pass.seat) (words.reads pass.seat) (words.said pass.seat)
      (words.found pass.seat)) so_far of.made.1.word)

  some : 0 < (n - 1) * words.width
  some =
      let a : 0 * words.width + words.width ≤ (n - 1) * words.width =
      later_operation words.width 0 (n - 1) (let t = of.size.0 in omega arith) in
      let b = of.some in omega arith

  abbrev access_of : WriteAccesses (Posted V) → Accesses (Posted V)
  access_of w = record { items = w.items; begins = w.times.begins; ends = w.times.ends }

  pub may_write : (mid : S) (kind : Kind) (seen item : Posted V) →
      HasReadColumn words obeys board.family pass.process (n - 1) pass.seat mid pass.own seen →
      ((place : ℕ) → ChoosesByKind board.limit
      (record { place = place; who = pass.process; kind = kind; stamp = item.stamp; item = item.item }) kind seen.stamp seen.item) →
      MayWriteEach
      (MakesCalls (words.opening board.family) words.width (words.processes board.family) (words.limit board.family) (words.who mid))
      words.width (words.processes board.family) (words.who mid) item
      (doings (words.times mid) (words.writes mid) (words.reads mid) (words.said mid) (words.found mid))
  may_write mid kind seen item r chooses =
      let begins = span_begins (words.clock pass.seat) (words.clock mid) r.steps r.span (let a = r.long in let s = some in omega arith) in
      carried (λ opening n limit i. MayWriteEach (MakesCalls opening words.width n limit i) words.width n i item
      (doings (words.times mid) (words.writes mid) (words.reads mid) (words.said mid) (words.found mid))) (words.who mid) (r.of.1 ∙ of.who)
      (row_allowed words.width n board.limit pass.process board.first of.size.0 of.some of.made.0 kind begins.0 seen pass.own item r.answers
      r.steps (doings (words.times pass.seat) (words.writes pass.seat) (words.reads pass.seat) (words.said pass.seat)
      (words.found pass.seat))
      (doings (words.times mid) (words.writes mid) (words.reads mid) (words.said mid) (words.found mid)) so_far of.made.1.word
      r.long r.times begins.1
      (let t = of.size.0 in let e = r.each in omega arith)
      (λ e answer there. let x = r.reads e answer there in (x.0, x.1.read.answers))
      (λ j. ap access_of (r.writes j)) r.tags r.sees of.made.1.own chooses)

  -- a read looks whether what it saw was told
  pub may_find : (mid : S) (item : Posted V) →
      HasReadColumn words obeys board.family pass.process (n - 1) pass.seat mid pass.own item →
      MayFind
      (MakesCalls (words.opening board.family) words.width (words.processes board.family) (words.limit board.family) (words.who mid))
      item.stamp.writer item.stamp.tag
      (doings (words.times mid) (words.writes mid) (words.reads mid) (words.said mid) (words.found mid))
  may_find mid item r =
      let begins = span_begins (words.clock pass.seat) (words.clock mid) r.steps r.span (let a = r.long in let s = some in omega arith) in
      carried (λ opening n limit i. MayFind (MakesCalls opening words.width n limit i) item.stamp.writer item.stamp.tag
      (doings (words.times mid) (words.writes mid) (words.reads mid) (words.said mid) (words.found mid))) (words.who mid)
      (r.of.1 ∙ of.who)
      (find_allowed words.width n board.limit pass.process board.first of.size.0 of.some of.made.0 begins.0 pass.own item r.answers
      r.steps (doings (words.times pass.seat) (words.writes pass.seat) (words.reads pass.seat) (words.said pass.seat)
      (words.found pass.seat))
      (doings (words.times mid) (words.writes mid) (words.reads mid) (words.said mid) (words.found mid)) so_far of.made.1.word r.long
      r.times begins.1
      (let t = of.size.0 in let e = r.each in omega arith)
      (λ e answer there. let x = r.reads e answer there in (x.0, x.1.read.answers))
      (λ j. ap access_of (r.writes j)) r.tags r.sees of.made.1.own)

  -- no register holds a record above what may stand after the record seen
  pub still_below : (mid : S) (seen : Posted V) →
      HasReadColumn words obeys board.family pass.process (n - 1) pass.seat mid pass.own seen → (j : ℕ) → j < n → j ≢ pass.process →
      Rises (last_or (words.opening board.family) (words.writes mid j).items) pass.own
  still_below mid seen r j l ne =
      subst (λ (z : Posted V × WriteAccesses (Posted V)). Rises (last_or z.0 z.1.items) pass.own)
      (λ k. (sym of.opens k, sym (r.writes j) k)) (of.below j l ne)

  pub still_rises : (mid : S) (seen item : Posted V) →
      HasReadColumn words obeys board.family pass.process (n - 1) pass.seat mid pass.own seen → Rises seen item → (j : ℕ) → j < n →
      j ≢ pass.process → Rises (last_or (words.opening board.family) (words.writes mid j).items) item
  still_rises mid seen item r onward j l ne =
      rises_on (last_or (words.opening board.family) (words.writes mid j).items) pass.own item (still_below mid seen r j l ne)
      (rises_on pass.own seen item r.rises onward)

  pub renewed_rises : (next : Option Stamp) (seen chosen : Posted V) (item : V) →
      MatchOption next (board.limit ≤ seen.stamp.tag)
      (λ s. (seen.stamp.tag < board.limit) × (s ≡ record { tag = seen.stamp.tag + 1; writer = pass.process })) →
      chosen ≡ or_item seen next item → Rises seen chosen
  renewed_rises None seen chosen item ended is =
      inr (ap (λ (z : Posted V). z.stamp) (sym is), ap (λ (z : Posted V). z.item) (sym is))
  renewed_rises (Some s) seen chosen item next is =
      inl (subst (λ z. IsBelow seen.stamp z) (sym (ap (λ (z : Posted V). z.stamp) is ∙ next.1)) (inl (omega arith)))

  -- what a write chooses, whichever end it comes to
  pub write_chooses : (next : Option Stamp) (seen chosen : Posted V) (item : V) →
      MatchOption next (board.limit ≤ seen.stamp.tag)
      (λ s. (seen.stamp.tag < board.limit) × (s ≡ record { tag = seen.stamp.tag + 1; writer = pass.process })) →
      chosen ≡ or_item seen next item → (kind : Kind) × ((place : ℕ) → ChoosesByKind board.limit
      (record { place = place; who = pass.process; kind = kind; stamp = chosen.stamp; item = chosen.item }) kind seen.stamp seen.item)
  write_chooses None seen chosen item ended is =
      (Refused, λ place. (ended, ap (λ (z : Posted V). z.stamp) is, ap (λ (z : Posted V). z.item) is))
  write_chooses (Some s) seen chosen item next is = (Write, λ place. (next.0, ap (λ (z : Posted V). z.stamp) is ∙ next.1))

  -- *The write isn't refused*: it chose its item under the next stamp
  pub record IsNext (stamp : Stamp) (seen chosen : Posted V) (item : V) : Type 0 where
    pub below : seen.stamp.tag < board.limit
    pub next : stamp ≡ record { tag = seen.stamp.tag + 1; writer = pass.process }
    pub is : chosen ≡ record { stamp = stamp; item = item }

  pub is_next : (next : Option Stamp) (stamp : Stamp) (seen chosen : Posted V) (item : V) →
      MatchOption next (board.limit ≤ seen.stamp.tag)
      (λ s. (seen.stamp.tag < board.limit) × (s ≡ record { tag = seen.stamp.tag + 1; writer = pass.process })) →
      next ≡ Some stamp → chosen ≡ or_item seen next item → IsNext stamp seen chosen item
  is_next next stamp seen chosen item h e is =
      let x = subst (λ r. MatchOption r (board.limit ≤ seen.stamp.tag)
      (λ s. (seen.stamp.tag < board.limit) × (s ≡ record { tag = seen.stamp.tag + 1; writer = pass.process }))) e h in
      record { below = x.0; next = x.1; is = is ∙ ap (λ r. or_item seen r item) e }

  module _ (stamp : Stamp) (seen chosen : Posted V) (item : V) (h : IsNext stamp seen chosen item) where
    pub next_stamp : chosen.stamp ≡ stamp
    next_stamp = ap (λ (z : Posted V). z.stamp) h.is

    pub next_writer : chosen.stamp.writer ≡ pass.process
    next_writer = ap (λ (z : Stamp). z.writer) (next_stamp ∙ h.next)

    pub next_chooses : (place : ℕ) → ChoosesByKind board.limit
        (record { place = place; who = pass.process; kind = Write; stamp = chosen.stamp; item = chosen.item })
        Write seen.stamp seen.item
    next_chooses place = (h.below, next_stamp ∙ h.next)

    pub next_below : IsBelow seen.stamp stamp
    next_below = subst (λ s. IsBelow seen.stamp s) (sym h.next) (inl (omega arith))

    pub next_rises : Rises seen chosen
    next_rises = inl (subst (λ s. IsBelow seen.stamp s) (sym next_stamp) next_below)
