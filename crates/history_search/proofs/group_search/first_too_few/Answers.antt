-- One more entry that isn't a refused write adds to the count where it is a write.
use Rattle.std.proofs.Common.{rules, ◌≡◌, ◌+◌, ◌<◌, ◌≤◌, ℕ, length, get_or, arith, Bool, false, true, List, slice_get, take, inl, inr}
use Rattle.std.proofs.Common.{sym, ap, ◌∙◌}
use Rattle.std.specs.Prelude.{if◌then◌else◌}
use Rattle.std.proofs.lemmas.Option.{slice_get-get_or}
use Rattle.history_core.specs.declared.history.Op.{Op}
use Rattle.history_core.specs.declared.history.Kind.{Kind}
use Rattle.history_core.specs.declared.history.Kind.TheVariants.{Read, Refused, Write}
use Rattle.history_core.specs.Orders.{is_write, writes_in}
use Rattle.history_core.proofs.Counts.{writes_next}
use Rattle.history_search.specs.inner.Limits.{IsFirstRefusal, kind_or, NoneRefused}
use Rattle.history_search.proofs.Loops.{none_refused, other_kind, refusal_at, refused_kind, write_kind}
use Rattle.history_search.proofs.group_search.first_too_few.Goals as goal
use Rattle.history_search.proofs.group_search.first_too_few.Goals.{in-Write, in-Read}

-- what is known of the first n entries
record AreCounted {R : Type 0} (ops : List (Op R)) (order : List ℕ) (n writes : ℕ) : Type 0 where
  pub none : NoneRefused ops order n
  pub counted : writes ≡ writes_in (λ _. true) ops (take n order)
  pub few : writes ≤ n

-- one more
next : {R : Type 0} (ops : List (Op R)) (order : List ℕ) (n writes more : ℕ) (kind : Kind) → n < length order →
    kind ≡ kind_or (slice_get ops (get_or order n 0)) → (kind ≡ Refused → ⊥) → more ≡ writes + (if is_write kind then 1 else 0) →
    AreCounted ops order n writes → AreCounted ops order (n + 1) more
next ops order n writes more kind l is other added h = record {
  none = none_refused ops order n (get_or order n 0) (slice_get-get_or order n 0 l)
      (other_kind (slice_get ops (get_or order n 0)) kind is other) h.none;
  counted = added ∙ ap (λ (z : ℕ). z + (if is_write kind then 1 else 0)) h.counted
      ∙ ap (λ (b : Bool). writes_in (λ _. true) ops (take n order) + (if b then 1 else 0))
      (write_kind (slice_get ops (get_or order n 0)) kind is) ∙ sym (writes_next ops order n l);
  few = few_more (is_write kind) added h.few;
}
  where
    few_more : (b : Bool) → more ≡ writes + (if b then 1 else 0) → writes ≤ n → more ≤ n + 1
    few_more true e le = omega arith
    few_more false e le = omega arith

refusal : {R : Type 0} (ops : List (Op R)) (order : List ℕ) (n writes : ℕ) → n < length order →
    Refused ≡ kind_or (slice_get ops (get_or order n 0)) → NoneRefused ops order n → writes ≡ writes_in (λ _. true) ops (take n order) →
    IsFirstRefusal ops order n (get_or order n 0) writes
refusal ops order n writes l is none counted =
    refusal_at ops order n (get_or order n 0) writes (slice_get-get_or order n 0 l)
    (refused_kind (slice_get ops (get_or order n 0)) is) none counted

pub loop-i-init : goal.loop-i-init
loop-i-init g c = search rules

pub loop-i-preserved : goal.loop-i-preserved
loop-i-preserved g c =
    let met : AreCounted c.args.ops.now c.args.order.now c.loop-i.i c.loop-i.writes = record {
      none = c.loop-i.invariant.none;
      counted = c.loop-i.invariant.counted;
      few = c.loop-i.invariant.few;
    } in
    elim c.match-kind_at.branch [
      | in-Write w ↦
          let all = next c.args.ops.now c.args.order.now c.loop-i.i c.loop-i.writes c.match-kind_at.writes Write c.loop-i-test.true
          (sym w.in-Write.is ∙ c.kind_at.ensures) (λ e. cc) w.writes-is met in
          record { none = all.none; counted = all.counted; few = all.few }
      | in-Read w ↦
          let all = next c.args.ops.now c.args.order.now c.loop-i.i c.loop-i.writes c.match-kind_at.writes Read c.loop-i-test.true
          (sym w.in-Read.is ∙ c.kind_at.ensures) (λ e. cc) (w.writes-is ∙ omega arith) met in
          record { none = all.none; counted = all.counted; few = all.few }
    ]

pub returns-clause-enough : goal.returns-clause-enough
returns-clause-enough g c =
    let e : length c.args.order.now ≤ c.loop-i.i = c.loop-i-test.false in
    inl (λ i p o l f h k. c.loop-i.invariant.none i p o (omega arith) f h k)

pub returns-then-writes-limit-clause-few : goal.returns-then-writes-limit-clause-few
returns-then-writes-limit-clause-few g c = (
  c.loop-i.i,
  c.loop-i.writes,
  refusal c.args.ops.now c.args.order.now c.loop-i.i c.loop-i.writes c.loop-i-test.true (sym c.in-Refused.is ∙ c.kind_at.ensures)
      c.loop-i.invariant.none c.loop-i.invariant.counted,
  c.if-writes-limit.true,
)

pub returns-else-writes-limit-clause-enough : goal.returns-else-writes-limit-clause-enough
returns-else-writes-limit-clause-enough g c =
    inr (
      c.loop-i.i,
      get_or c.args.order.now c.loop-i.i 0,
      c.loop-i.writes,
      refusal c.args.ops.now c.args.order.now c.loop-i.i c.loop-i.writes c.loop-i-test.true (sym c.in-Refused.is ∙ c.kind_at.ensures)
          c.loop-i.invariant.none c.loop-i.invariant.counted,
      c.if-writes-limit.false,
    )
