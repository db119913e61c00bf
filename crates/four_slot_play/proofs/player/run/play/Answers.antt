-- Each step of the loop is a step of the fold.
use Rattle.std.proofs.Common.{◌≡◌, ◌+◌, ◌∙◌, ℕ, zero, suc, List, [], ◌∷◌, ap, sym, add-one, get_or, take}
use Rattle.std.specs.Prelude.{slice_get, Some}
use Rattle.std.specs.List.{fold}
use Rattle.std.proofs.lemmas.List.{take_all}
use Rattle.std.proofs.lemmas.Option.{same_Some, slice_get-get_or}
use Rattle.four_slot_core.specs.declared.schedule.Turn.{Turn}
use Rattle.four_slot_core.specs.declared.schedule.Turn.TheVariants.{Writer}
use Rattle.four_slot_core.specs.declared.state.State.{State}
use Rattle.four_slot_play.specs.declared.player.run.Numbered.{Numbered}
use Rattle.four_slot_play.specs.inner.Runs.{Log, numbered, numbered_run, step_of}
use Rattle.four_slot_play.proofs.player.run.play.Goals as goal

fold_suc : {A B : Type 0} (f : A → B → A) (a : A) (xs : List B) (i : ℕ) (x : B) → slice_get xs i ≡ Some x →
    fold f a (take (suc i) xs) ≡ f (fold f a (take i xs)) x
fold_suc f a [] i x h = (cc)
fold_suc f a (y ∷ xs) zero x h = ap (f a) (same_Some y x h)
fold_suc f a (y ∷ xs) (suc i) x h = fold_suc f (f a y) xs i x h

fold_next : {A B : Type 0} (f : A → B → A) (a : A) (xs : List B) (i : ℕ) (x : B) → slice_get xs i ≡ Some x →
    fold f a (take (i + 1) xs) ≡ f (fold f a (take i xs)) x
fold_next f a xs i x h = ap (λ k. fold f a (take k xs)) (add-one i) ∙ fold_suc f a xs i x h

-- a log is known by its parts
log_is : {R : Type 0} (cell start : State R) (ws rs : List ℕ) (as' : List R) → cell ≡ start → ws ≡ [] → rs ≡ [] → as' ≡ [] →
    (let l : Log R = record { cell = cell; write_slots = ws; read_slots = rs; answers = as' } in l)
    ≡ (let l : Log R = record { cell = start; write_slots = []; read_slots = []; answers = [] } in l)
log_is {R} cell start ws rs as' e w r a =
    ap (λ z. let l : Log R = record { cell = z; write_slots = ws; read_slots = rs; answers = as' } in l) e
    ∙ ap (λ z. let l : Log R = record { cell = start; write_slots = z; read_slots = rs; answers = as' } in l) w
    ∙ ap (λ z. let l : Log R = record { cell = start; write_slots = []; read_slots = z; answers = as' } in l) r
    ∙ ap (λ z. let l : Log R = record { cell = start; write_slots = []; read_slots = []; answers = z } in l) a

pub loop-turn-init : goal.loop-turn-init
loop-turn-init g c =
    log_is c.new.result _ c.new-2.result.items c.new-3.result.items c.new-4.result.items c.new.ensures c.new-2.ensures.items
    c.new-3.ensures.items c.new-4.ensures.items

pub loop-turn-preserved : goal.loop-turn-preserved
loop-turn-preserved g c =
    let i : ℕ = c.loop-turn.turn-index in
    let turn : Turn = get_or c.args.steps.now i Writer in
    let at : slice_get c.args.steps.now i ≡ Some turn = slice_get-get_or c.args.steps.now i Writer c.loop-turn-test.true in
    let items : ℕ → Numbered g.row.R.Denot = numbered c.args.opening c.args.writes.now in
    c.in_ok-take_turn.ensures
    ∙ ap (λ (z : Log (Numbered g.row.R.Denot)). step_of items z turn) c.loop-turn.invariant
    ∙ sym (fold_next (step_of items) (numbered_run c.args.opening c.args.noise c.args.writes.now []) c.args.steps.now i turn at)

pub returns : goal.returns
returns g c =
    c.loop-turn.invariant
    ∙ ap (numbered_run c.args.opening c.args.noise c.args.writes.now)
    (take_all c.loop-turn.turn-index c.args.steps.now c.loop-turn-test.false)
