-- An interleaving grows at its end, since a new last event of one side is made after all others; and it keeps the invariant,
-- since each of its events does. Both by induction over the interleaving.
use Rattle.std.proofs.Common.{◌≡◌, List, [], ◌∷◌, ◌++◌, refl, sym, subst, ap, ◌∙◌}
use Rattle.four_slot_core.specs.declared.state.State.{State}
use Rattle.four_slot_core.specs.declared.state.Stage.{Stage}
use Rattle.four_slot_core.specs.declared.state.Stage.TheVariants.{W1, W2, W3, W4, W5}
use Rattle.four_slot_core.specs.declared.state.ReaderStage.{ReaderStage}
use Rattle.four_slot_core.specs.declared.state.ReaderStage.TheVariants.{R1, R2, R3, R4, R5}
use Rattle.four_slot_core.specs.declared.event.WriteEvent.{WriteEvent}
use Rattle.four_slot_core.specs.declared.event.WriteEvent.TheVariants as event
use Rattle.four_slot_core.specs.declared.event.ReadEvent.{ReadEvent}
use Rattle.four_slot_core.specs.Events.{next_write, after_write, after_read}
use Rattle.four_slot_core.specs.Interleaving.{write_stage, write_item, Writes, Reads, Leads, last_finished}
use Rattle.four_slot_core.specs.Invariant.{IsSound, last_after}
use Rattle.four_slot_core.proofs.events.Keeping.{write_is_sound, read_is_sound}
use Rattle.four_slot_core.specs.Interleaving.Leads.{Stays, WriterFirst, ReaderFirst}

pub then_writes : {R : Type 0} (ws : List (WriteEvent R)) (rs : List (ReadEvent R)) (s t u : State R) (e : WriteEvent R) → Leads ws rs s t →
    Writes e t u → Leads (ws ++ e ∷ []) rs s u
then_writes {R} [] [] s t u e (Stays s' t' q) h =
    let P : State R → Type 0 = λ v. Writes e v u in
    WriterFirst e [] [] s u u (subst P (sym q) h) (Stays u u refl)
then_writes (f ∷ ws) rs s t u e (WriterFirst f' ws' rs' s' m t' g l) h =
    WriterFirst f (ws ++ e ∷ []) rs s m u g (then_writes ws rs m t u e l h)
then_writes ws (f ∷ rs) s t u e (ReaderFirst f' ws' rs' s' m t' g l) h =
    ReaderFirst f (ws ++ e ∷ []) rs s m u g (then_writes ws rs m t u e l h)

pub then_reads : {R : Type 0} (ws : List (WriteEvent R)) (rs : List (ReadEvent R)) (s t u : State R) (e : ReadEvent R) → Leads ws rs s t →
    Reads e t u → Leads ws (rs ++ e ∷ []) s u
then_reads {R} [] [] s t u e (Stays s' t' q) h =
    let P : State R → Type 0 = λ v. Reads e v u in
    ReaderFirst e [] [] s u u (subst P (sym q) h) (Stays u u refl)
then_reads (f ∷ ws) rs s t u e (WriterFirst f' ws' rs' s' m t' g l) h =
    WriterFirst f ws (rs ++ e ∷ []) s m u g (then_reads ws rs m t u e l h)
then_reads ws (f ∷ rs) s t u e (ReaderFirst f' ws' rs' s' m t' g l) h =
    ReaderFirst f ws (rs ++ e ∷ []) s m u g (then_reads ws rs m t u e l h)

-- the event before one of the writer's
abbrev before : Stage → Stage
before W1 = W5
before W2 = W1
before W3 = W2
before W4 = W3
before W5 = W4

before_next : (w : Stage) → before (next_write w) ≡ w
before_next W1 = refl
before_next W2 = refl
before_next W3 = refl
before_next W4 = refl
before_next W5 = refl

-- an event of the writer leaves the item of its call, and W5 makes that the last finished one
told_before : {R : Type 0} (f : WriteEvent R) (ws : List (WriteEvent R)) (s : State R) (last : R) → let w = before (write_stage f) in
    last_finished (f ∷ ws) s.item last ≡ last_finished ws (after_write w (write_item f s) s).item (last_after w s last)
told_before (event.W1 x) ws s last = refl
told_before event.W2 ws s last = refl
told_before event.W3 ws s last = refl
told_before event.W4 ws s last = refl
told_before event.W5 ws s last = refl

told : {R : Type 0} (f : WriteEvent R) (ws : List (WriteEvent R)) (s : State R) (last : R) → write_stage f ≡ next_write s.writer →
    last_finished (f ∷ ws) s.item last ≡ last_finished ws (after_write s.writer (write_item f s) s).item (last_after s.writer s last)
told {R} f ws s last e =
    let P : Stage → Type 0 =
    λ w. last_finished (f ∷ ws) s.item last ≡ last_finished ws (after_write w (write_item f s) s).item (last_after w s last) in
    subst P (ap before e ∙ before_next s.writer) (told_before f ws s last)

-- an event of the reader leaves the writer's item
item_read : {R : Type 0} (r : ReaderStage) (s : State R) → (after_read r s).item ≡ s.item
item_read R1 s = refl
item_read R2 s = refl
item_read R3 s = refl
item_read R4 s = refl
item_read R5 s = refl

-- an interleaving leads from a sound state to one that is sound with the last write that its events finished
pub leads_sound : {R : Type 0} (ws : List (WriteEvent R)) (rs : List (ReadEvent R)) (s t : State R) (last : R) → Leads ws rs s t →
    IsSound s last → IsSound t (last_finished ws s.item last)
leads_sound {R} [] [] s t last (Stays s' t' q) h = let P : State R → Type 0 = λ v. IsSound v last in subst P q h
leads_sound {R} (f ∷ ws) rs s t last (WriterFirst f' ws' rs' s' m t' g l) h =
    let P : State R → Type 0 = λ v. IsSound v (last_after s.writer s last) in
    let Q : State R → Type 0 = λ v. IsSound t (last_finished ws v.item (last_after s.writer s last)) in
    let S : R → Type 0 = λ x. IsSound t x in
    let kept : IsSound t (last_finished ws m.item (last_after s.writer s last)) =
    leads_sound ws rs m t (last_after s.writer s last) l (subst P (sym g.1) (write_is_sound (write_item f s) s last h)) in
    subst S (sym (told f ws s last g.0)) (subst Q g.1 kept)
leads_sound {R} ws (f ∷ rs) s t last (ReaderFirst f' ws' rs' s' m t' g l) h =
    let P : State R → Type 0 = λ v. IsSound v last in
    let Q : R → Type 0 = λ x. IsSound t (last_finished ws x last) in
    subst Q (ap (λ (v : State R). v.item) g.1 ∙ item_read s.reader s)
    (leads_sound ws rs m t last l (subst P (sym g.1) (read_is_sound s last h)))
