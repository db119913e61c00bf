-- The view of a seat after a receipt is that of its process, which has learnt it.
use Rattle.std.proofs.Common.{◌≡◌, ◌≢◌, ◌<◌, ℕ, [], ◌∷◌, sym, ap, ◌∙◌, subst, refl}
use Rattle.cell_triple.specs.Steps.{TripleSight, hears_of}
use Rattle.cell_contract.specs.Running.{snap}
use Rattle.cell_contract.specs.declared.sight.Sight.TheVariants.{Spent, Told as Tells}
use Rattle.cell_contract.specs.Accesses.{IsHeardRead, KeepsEach, KeepsOthers}
use Rattle.family_table.specs.declared.notes.Process.{Process}
use Rattle.family_table.specs.declared.notes.Receipt.{Receipt}
use Rattle.family_table.specs.declared.notes.View.TheVariants.{Has}
use Rattle.family_table.specs.Family.{heard_by, of_cell}
use Rattle.family_table.specs.Places.{place, writer_of}
use Rattle.family_table.specs.Seats.{learnt_by}
use Rattle.family_table.specs.Seated.{known_by, told_in}
use Rattle.family_triple.specs.Seated.{naming}
use Rattle.family_table.specs.Views.{process_of}
use Rattle.family_triple.specs.Words.{writes_to, reads_from}
use Rattle.family_triple.proofs.Going.{seat_after}
use Rattle.family_triple.proofs.Learning.{rest_heard, writes_stay, others_stay, is_heard}
use Rattle.family_triple.proofs.family.TripleFamilyFamily.learn.Goals as goal

pub returns-clause-own : goal.returns-clause-own
returns-clause-own g c =
    let s = c.args.seat.now in
    let own = c.requires.own.0 in
    let v : Process (TripleSight g.row.T.Denot) = known_by s in
    let r : Receipt (TripleSight g.row.T.Denot) = told_in c.args.told in
    let me : c.hear.new.seat.inner.me.0 ≡ Has (heard_by hears_of v r ∷ []) =
    ap (λ z. z.0) c.hear.ensures.joined ∙ (λ i. learnt_by hears_of (own.one i) ((ap (λ z. z.0) c.requires.own.1.one) i)) in (
      seat_after c.args.self.now s own (record s { seat = c.hear.new.seat })
          (heard_by hears_of v r) s.seat.inner.me.1 c.hear.ensures.own refl refl refl me
          (ap (λ z. z.1) c.hear.ensures.joined) refl
          (rest_heard s.spare s.processes v r s.stored.fills s.stored.reads s.seat.inner.me.1 own.rest),
      refl,
    )

pub returns-clause-heard : goal.returns-clause-heard
returns-clause-heard g c = λ away.
    let s = c.args.seat.now in
    let own = c.requires.own.0 in
    let told = c.requires.own.1 in
    let t = c.args.told in
    let v : Process (TripleSight g.row.T.Denot) = known_by s in
    let r : Receipt (TripleSight g.row.T.Denot) = told_in t in
    let me : c.hear.new.seat.inner.me.0 ≡ Has (heard_by hears_of v r ∷ []) =
    ap (λ z. z.0) c.hear.ensures.joined ∙ (λ i. learnt_by hears_of (own.one i) ((ap (λ z. z.0) told.one) i)) in
    let n : t.processes ≡ s.processes = told.processes ∙ sym own.processes in
    let lf : t.from < s.processes = subst (λ z. t.from < z) n told.inside in
    let inside : s.who < t.processes = subst (λ (z : ℕ × ℕ). z.0 < z.1) (λ i. (own.who i, sym n i)) own.rest.inside in
    let row : of_cell Spent (place s.processes t.from v.who) r.parts ≡ Tells (snap (naming t s.who)) =
    (λ i. of_cell Spent (place (sym n i) t.from (own.who i)) r.parts) ∙ told.row s.who inside (λ e. away (sym e)) in
    subst (λ z. IsHeardRead (reads_from s.spare s.processes v t.from) (reads_from s.spare s.processes z t.from) (naming t s.who).item
    (naming t s.who).writes)
    (sym (ap process_of me))
    (is_heard s.spare s.processes v r s.stored.fills s.stored.reads s.seat.inner.me.1 own.rest t.from lf (naming t s.who)
    (λ e. away (e ∙ own.who)) row)

pub returns-clause-others : goal.returns-clause-others
returns-clause-others g c =
    let s = c.args.seat.now in
    let own = c.requires.own.0 in
    let told = c.requires.own.1 in
    let t = c.args.told in
    let v : Process (TripleSight g.row.T.Denot) = known_by s in
    let r : Receipt (TripleSight g.row.T.Denot) = told_in t in
    let me : c.hear.new.seat.inner.me.0 ≡ Has (heard_by hears_of v r ∷ []) =
    ap (λ z. z.0) c.hear.ensures.joined ∙ (λ i. learnt_by hears_of (own.one i) ((ap (λ z. z.0) told.one) i)) in
    let n : t.processes ≡ s.processes = told.processes ∙ sym own.processes in
    let lf : t.from < s.processes = subst (λ z. t.from < z) n told.inside in
    let elsewhere : (k : ℕ) → writer_of s.processes k ≢ t.from → of_cell Spent k r.parts ≡ Spent =
    subst (λ z. (k : ℕ) → writer_of z k ≢ t.from → of_cell Spent k r.parts ≡ Spent) n told.elsewhere in
    subst (λ z. KeepsEach (writes_to s.spare s.processes v) (writes_to s.spare s.processes z)
    × KeepsOthers t.from (reads_from s.spare s.processes v) (reads_from s.spare s.processes z)) (sym (ap process_of me)) (
      writes_stay s.spare s.processes v r s.stored.fills s.stored.reads s.seat.inner.me.1 own.rest,
      others_stay s.spare s.processes v r s.stored.fills s.stored.reads s.seat.inner.me.1 own.rest t.from lf elsewhere,
    )
