-- The same as a read's, for both ends of a write: what is chosen is the item under the next stamp, or what was seen.
use Rattle.std.proofs.Common.{◌≡◌, ℕ, ◌+◌, ◌-◌, [], ◌∷◌, ◌++◌, true, refl, sym, ◌∙◌, ap, subst, inl, inr, arith, rules}
use Rattle.std.specs.Prelude.{◌<◌, ◌≤◌, IsTrue, MatchOption}
use Rattle.history_core.specs.declared.history.Kind.TheVariants.{Write, Refused}
use Rattle.cell_contract.specs.Plans.{doings, MaySay}
use Rattle.matrix_core.specs.Choices.{ChoosesByKind}
use Rattle.matrix_core.proofs.choices.Stamps.{at_most_below}
use Rattle.board_live.specs.declared.record.Posted.{Posted}
use Rattle.board_live.specs.inner.Calls.{HasRow}
use Rattle.board_live.specs.Plans.{MakesCalls}
use Rattle.board_live.specs.Records.{or_item, Rises}
use Rattle.board_live.proofs.Accessing.{row_said, row_told}
use Rattle.board_live.proofs.Allowed.{is_next, IsNext, may_read, may_write, next_below, next_chooses, next_rises, next_stamp, next_writer}
use Rattle.board_live.proofs.Allowed.{renewed_rises, still_rises, write_chooses}
use Rattle.board_live.proofs.Calling.{is_bounded, is_call, is_pass, may_say}
use Rattle.board_live.proofs.Newest.{own_newest}
use Rattle.board_live.proofs.Records.{rises_at_most}
use Rattle.board_live.proofs.SoFar.{ordered_before, ordered_so_far}
use Rattle.board_live.proofs.board.Board.write.Goals as goal

chose_none : (g : _) (c : goal.After-result-1 g) → c.renew.new.self ≡ c.column.new.seen
chose_none g c = c.renew.ensures ∙ ap (λ n. or_item c.column.new.seen n c.args.item) c.in-None.is

next_none : (g : _) (c : goal.After-result-1 g) → c.args.self.now.limit ≤ c.column.new.seen.stamp.tag
next_none g c = subst (λ r. MatchOption r (c.args.self.now.limit ≤ c.column.new.seen.stamp.tag)
    (λ s. (c.column.new.seen.stamp.tag < c.args.self.now.limit)
    × (s ≡ record { tag = c.column.new.seen.stamp.tag + 1; writer = c.args.pass.now.process }))) c.in-None.is c.next-next.ensures

rises_none : (g : _) (c : goal.After-result-1 g) → Rises c.column.new.seen c.renew.new.self
rises_none g c = inr (ap (λ (z : Posted _). z.stamp) (sym (chose_none g c)), ap (λ (z : Posted _). z.item) (sym (chose_none g c)))

chooses_none : (g : _) (c : goal.After-result-1 g) → (place : ℕ) → ChoosesByKind c.args.self.now.limit (record {
  place = place;
  who = c.args.pass.now.process;
  kind = Refused;
  stamp = c.renew.new.self.stamp;
  item = c.renew.new.self.item;
}) Refused c.column.new.seen.stamp c.column.new.seen.item
chooses_none g c place = (next_none g c, ap (λ (z : Posted _). z.stamp) (chose_none g c), ap (λ (z : Posted _). z.item) (chose_none g c))

row_none : (g : _) (c : goal.After-result-1 g) → HasRow g.F.Family c.args.self.now.family c.args.pass.now.process
    (c.args.self.now.processes - 1) c.column.new.seat c.row.new.seat c.args.pass.now.own c.renew.new.self c.args.pass.now.told true
row_none g c = (row_told g.F.Family c.args.self.now.family c.args.pass.now.process (c.args.self.now.processes - 1)
    c.column.new.seat c.row.new.seat c.args.pass.now.own c.renew.new.self c.args.pass.now.told c.row.ensures.row).0

pub say-requires-clause-own : goal.say-requires-clause-own
say-requires-clause-own g c = c.row.ensures.row.of.0

pub say-requires-clause-plan : goal.say-requires-clause-plan
say-requires-clause-plan g c =
    let w = g.F.Family in
    let obeys = g.V.RecordLaw.obeys in
    let board = c.args.self.now in
    let pass = c.args.pass.now in
    let seen = c.column.new.seen in
    let chosen = c.renew.new.self in
    let next = c.row.new.seat in
    let h : IsNext w obeys board pass c.requires.pass c.in-Some.stamp seen chosen c.args.item =
    is_next w obeys board pass c.requires.pass c.next-next.result c.in-Some.stamp seen chosen c.args.item c.next-next.ensures
    c.in-Some.is c.renew.ensures in
    let row = row_told w board.family pass.process (board.processes - 1) c.column.new.seat next pass.own chosen pass.told
    c.row.ensures.row in
    subst (λ z. MaySay (MakesCalls (w.opening board.family) w.width (w.processes board.family) (w.limit board.family) (w.who next))
    z.tag (w.clock next) (doings (w.times next) (w.writes next) (w.reads next) (w.said next) (w.found next)))
    (next_stamp w obeys board pass c.requires.pass c.in-Some.stamp seen chosen c.args.item h)
    (may_say w obeys board pass c.requires.pass Write seen chosen true c.column.new.seat next c.column.ensures.read row.0
    (next_chooses w obeys board pass c.requires.pass c.in-Some.stamp seen chosen c.args.item h) row.1
    (next_writer w obeys board pass c.requires.pass c.in-Some.stamp seen chosen c.args.item h))

is_some : (g : _) (c : goal.After-say g) → IsNext g.F.Family g.V.RecordLaw.obeys c.args.self.now c.args.pass.now c.requires.pass
    c.in-Some.stamp c.column.new.seen c.renew.new.self c.args.item
is_some g c = is_next g.F.Family g.V.RecordLaw.obeys c.args.self.now c.args.pass.now c.requires.pass c.next-next.result c.in-Some.stamp
    c.column.new.seen c.renew.new.self c.args.item c.next-next.ensures c.in-Some.is c.renew.ensures

stamp_some : (g : _) (c : goal.After-say g) → c.renew.new.self.stamp ≡ c.in-Some.stamp
stamp_some g c = next_stamp g.F.Family g.V.RecordLaw.obeys c.args.self.now c.args.pass.now c.requires.pass c.in-Some.stamp
    c.column.new.seen c.renew.new.self c.args.item (is_some g c)

rises_some : (g : _) (c : goal.After-say g) → Rises c.column.new.seen c.renew.new.self
rises_some g c = next_rises g.F.Family g.V.RecordLaw.obeys c.args.self.now c.args.pass.now c.requires.pass c.in-Some.stamp
    c.column.new.seen c.renew.new.self c.args.item (is_some g c)

chooses_some : (g : _) (c : goal.After-say g) → (place : ℕ) → ChoosesByKind c.args.self.now.limit (record {
  place = place;
  who = c.args.pass.now.process;
  kind = Write;
  stamp = c.renew.new.self.stamp;
  item = c.renew.new.self.item;
}) Write c.column.new.seen.stamp c.column.new.seen.item
chooses_some g c = next_chooses g.F.Family g.V.RecordLaw.obeys c.args.self.now c.args.pass.now c.requires.pass c.in-Some.stamp
    c.column.new.seen c.renew.new.self c.args.item (is_some g c)

-- the row, whose tag was said
said_some : (g : _) (c : goal.After-say g) → HasRow g.F.Family c.args.self.now.family c.args.pass.now.process
    (c.args.self.now.processes - 1) c.column.new.seat c.say.new.seat c.args.pass.now.own c.renew.new.self c.args.pass.now.told true
said_some g c = row_said g.F.Family c.args.self.now.family c.args.pass.now.process (c.args.self.now.processes - 1)
    c.column.new.seat c.row.new.seat c.say.new.seat c.args.pass.now.own c.renew.new.self c.args.pass.now.told c.row.ensures.row
    (next_writer g.F.Family g.V.RecordLaw.obeys c.args.self.now c.args.pass.now c.requires.pass c.in-Some.stamp
    c.column.new.seen c.renew.new.self c.args.item (is_some g c))
    c.say.ensures.own
    (subst (λ z. g.F.Family.said c.say.new.seat
    ≡ g.F.Family.said c.row.new.seat ++ record { tag = z.tag; time = g.F.Family.clock c.row.new.seat } ∷ []) (sym (stamp_some g c))
    c.say.ensures.said)
    c.say.ensures.same c.say.ensures.calls

pub returns-in-Some-clause-pass : goal.returns-in-Some-clause-pass
returns-in-Some-clause-pass g c =
    is_pass g.F.Family g.V.RecordLaw.obeys c.args.self.now c.args.pass.now c.requires.pass Write c.column.new.seen c.renew.new.self true
    c.column.new.seat c.say.new.seat c.column.ensures.read (said_some g c) (rises_some g c) (chooses_some g c)
    (subst (λ (z : Posted _). IsTrue (g.V.RecordLaw.obeys z.item)) (sym (is_some g c).is) c.requires.item)

pub returns-in-None-clause-pass : goal.returns-in-None-clause-pass
returns-in-None-clause-pass g c =
    is_pass g.F.Family g.V.RecordLaw.obeys c.args.self.now c.args.pass.now c.requires.pass Refused c.column.new.seen c.renew.new.self true
    c.column.new.seat c.row.new.seat c.column.ensures.read (row_none g c) (rises_none g c) (chooses_none g c)
    (subst (λ (z : Posted _). IsTrue (g.V.RecordLaw.obeys z.item)) (sym (chose_none g c)) c.column.ensures.read.lawful)

pub returns-in-Some-clause-call : goal.returns-in-Some-clause-call
returns-in-Some-clause-call g c = (
  c.column.new.seen,
  is_call g.F.Family g.V.RecordLaw.obeys c.args.self.now c.args.pass.now c.requires.pass Write c.column.new.seen c.renew.new.self true
      c.column.new.seat c.say.new.seat c.column.ensures.read (said_some g c) (rises_some g c) (chooses_some g c),
  ((is_some g c).below, (is_some g c).next, (is_some g c).is),
)

pub returns-in-None-clause-call : goal.returns-in-None-clause-call
returns-in-None-clause-call g c = (
  c.column.new.seen,
  is_call g.F.Family g.V.RecordLaw.obeys c.args.self.now c.args.pass.now c.requires.pass Refused c.column.new.seen c.renew.new.self true
      c.column.new.seat c.row.new.seat c.column.ensures.read (row_none g c) (rises_none g c) (chooses_none g c),
  (next_none g c, chose_none g c, chose_none g c),
)

pub returns-in-Some-clause-bounded : goal.returns-in-Some-clause-bounded
returns-in-Some-clause-bounded g c =
    is_bounded g.F.Family g.V.RecordLaw.obeys c.args.self.now c.args.pass.now c.requires.pass Write c.column.new.seen c.renew.new.self true
    c.column.new.seat c.say.new.seat c.column.ensures.read (said_some g c)

pub returns-in-None-clause-bounded : goal.returns-in-None-clause-bounded
returns-in-None-clause-bounded g c =
    is_bounded g.F.Family g.V.RecordLaw.obeys c.args.self.now c.args.pass.now c.requires.pass Refused c.column.new.seen c.renew.new.self
    true c.column.new.seat c.row.new.seat c.column.ensures.read (row_none g c)

pub returns-in-Some-clause-told : goal.returns-in-Some-clause-told
returns-in-Some-clause-told g c = refl

pub returns-in-None-clause-told : goal.returns-in-None-clause-told
returns-in-None-clause-told g c = refl

pub returns-in-Some-clause-said : goal.returns-in-Some-clause-said
returns-in-Some-clause-said g c =
    c.say.ensures.said
    ∙ (λ k. (c.row.ensures.row.tags.0 ∙ c.column.ensures.read.tags.0) k
    ++ record { tag = c.in-Some.stamp.tag; time = sym c.say.ensures.same.0 k } ∷ [])

pub returns-in-None-clause-said : goal.returns-in-None-clause-said
returns-in-None-clause-said g c = c.row.ensures.row.tags.0 ∙ c.column.ensures.read.tags.0

pub returns-in-Some-clause-raised : goal.returns-in-Some-clause-raised
returns-in-Some-clause-raised g c =
    at_most_below c.args.pass.now.own.stamp c.column.new.seen.stamp c.in-Some.stamp
    (rises_at_most c.args.pass.now.own c.column.new.seen c.column.ensures.read.rises)
    (next_below g.F.Family g.V.RecordLaw.obeys c.args.self.now c.args.pass.now c.requires.pass c.in-Some.stamp
    c.column.new.seen c.renew.new.self c.args.item (is_some g c))

pub returns-in-None-clause-raised : goal.returns-in-None-clause-raised
returns-in-None-clause-raised g c = search rules

pub returns-in-Some-clause-lawful : goal.returns-in-Some-clause-lawful
returns-in-Some-clause-lawful g c = search rules

pub returns-in-None-clause-lawful : goal.returns-in-None-clause-lawful
returns-in-None-clause-lawful g c =
    subst (λ (z : Posted _). IsTrue (g.V.RecordLaw.obeys z.item)) (sym (chose_none g c)) c.column.ensures.read.lawful

pub column-requires-clause-of : goal.column-requires-clause-of
column-requires-clause-of g c = search rules

pub column-requires-clause-lawful : goal.column-requires-clause-lawful
column-requires-clause-lawful g c = search rules

pub column-requires-clause-newest : goal.column-requires-clause-newest
column-requires-clause-newest g c = own_newest g.F.Family g.V.RecordLaw.obeys c.args.self.now c.args.pass.now c.requires.pass

pub column-requires-clause-plan : goal.column-requires-clause-plan
column-requires-clause-plan g c = may_read g.F.Family g.V.RecordLaw.obeys c.args.self.now c.args.pass.now c.requires.pass

pub next-next-requires : goal.next-next-requires
next-next-requires g c = search rules

pub row-requires-clause-of : goal.row-requires-clause-of
row-requires-clause-of g c = search rules

pub row-requires-clause-rises : goal.row-requires-clause-rises
row-requires-clause-rises g c =
    still_rises g.F.Family g.V.RecordLaw.obeys c.args.self.now c.args.pass.now c.requires.pass c.column.new.seat c.column.new.seen
    c.renew.new.self c.column.ensures.read
    (renewed_rises g.F.Family g.V.RecordLaw.obeys c.args.self.now c.args.pass.now c.requires.pass c.next-next.result
    c.column.new.seen c.renew.new.self c.args.item c.next-next.ensures c.renew.ensures)

pub row-requires-clause-lawful : goal.row-requires-clause-lawful
row-requires-clause-lawful g c = search rules

pub row-requires-clause-plan : goal.row-requires-clause-plan
row-requires-clause-plan g c =
    let chooses = write_chooses g.F.Family g.V.RecordLaw.obeys c.args.self.now c.args.pass.now c.requires.pass c.next-next.result
    c.column.new.seen c.renew.new.self c.args.item c.next-next.ensures c.renew.ensures in
    may_write g.F.Family g.V.RecordLaw.obeys c.args.self.now c.args.pass.now c.requires.pass c.column.new.seat chooses.0
    c.column.new.seen c.renew.new.self c.column.ensures.read chooses.1

pub returns-in-Some-clause-so_far : goal.returns-in-Some-clause-so_far
returns-in-Some-clause-so_far g c = ordered_before g.F.Family g.V.RecordLaw.obeys c.args.self.now _ (returns-in-Some-clause-pass g c)
    c.row.new.seat _ c.say.ensures.own.1 c.say.ensures.same c.say.ensures.said c.say.ensures.calls c.row.ensures.so_far

pub returns-in-None-clause-so_far : goal.returns-in-None-clause-so_far
returns-in-None-clause-so_far g c = ordered_so_far g.F.Family g.V.RecordLaw.obeys c.args.self.now _ (returns-in-None-clause-pass g c)
    c.row.ensures.so_far
