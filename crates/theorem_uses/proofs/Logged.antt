-- What logs say: by cases on an entry's wish and reply, and part by part.
use Rattle.std.proofs.Common.{◌≡◌, ◌⊎◌, Bool, ℕ, ◌+◌, ◌<◌, ◌≤◌, List, [], ◌∷◌, refl, sym, ◌∙◌, ap, subst, inl, inr}
use Rattle.history_core.specs.declared.wish.Wish.{Wish}
use Rattle.history_core.specs.declared.wish.Wish.TheVariants.{Write, Read}
use Rattle.cell_contract.specs.declared.family.Family.{Ghosts as FamilyWords}
use Rattle.board_history.specs.BoardRuns.{Called}
use Rattle.board_live.specs.declared.record.Posted.{Posted}
use Rattle.board_live.specs.Passes.{IsCall, IsPass}
use Rattle.board_tasks.specs.declared.lane.Reply.TheVariants.{Written, Seen, Ended}
use Rattle.board_tasks.specs.declared.lane.Entry.{Entry}
use Rattle.board_tasks.specs.Tasks.{kind_by, Replies}
use Rattle.board_tasks.specs.Worked.{EachTells, TellsOfCall}
use Rattle.board_tasks.specs.Origins.{IsFirstBrokenOrigin}
use Rattle.matrix_core.specs.declared.stamp.Stamp.{Stamp}
use Rattle.theorem_uses.specs.Logs.{AtomicLogsShow, BreaksFirst, BrokenLogsShow, ChosenShow, EntriesShow, LanesShow}
use Rattle.theorem_uses.specs.Logs.{RepliesShow, SoundLogsShow}

module _ {V : Type 0} where
  no_write : (item : V) → Read ≡ Write item → ⊥
  no_write item e = cc

  the_item : (x y : V) → ◌≡◌ {A = Wish V} (Write x) (Write y) → x ≡ y
  the_item x y e = cc

  no_read : (item : V) → Write item ≡ Read → ⊥
  no_read item e = cc

  pub replies : RepliesShow V
  replies limit process Read seen chosen (Seen p) h = (λ e. (ap Seen h.0, h.1), λ item e. absurd (no_write item e))
  replies limit process Read seen chosen (Written s) h = absurd h
  replies limit process Read seen chosen (Ended p) h = absurd h
  replies limit process (Write x) seen chosen (Written s) h = (
    λ e. absurd (no_read x e),
    λ item e. inl (s, refl, h.0, h.1, h.2 ∙ ap (λ z. record { stamp = s; item = z }) (the_item x item e)),
  )
  replies limit process (Write x) seen chosen (Seen p) h = absurd h
  replies limit process (Write x) seen chosen (Ended p) h = (λ e. absurd (no_read x e), λ item e. inr (ap Ended h.1, h.0, h.2))

  pub chosen_by : ChosenShow V
  chosen_by Read (Seen p) c h = (λ e. (p, refl, h), λ item e. absurd (no_write item e))
  chosen_by Read (Written s) c h = absurd h
  chosen_by Read (Ended p) c h = absurd h
  chosen_by (Write x) (Written s) c h = (
    λ e. absurd (no_read x e),
    λ item e. inl (s, refl, h ∙ ap (λ z. record { stamp = s; item = z }) (the_item x item e)),
  )
  chosen_by (Write x) (Seen p) c h = absurd h
  chosen_by (Write x) (Ended p) c h = (λ e. absurd (no_read x e), λ item e. inr (p, refl, h))

  pub nothing : (calls : List (Called V)) → EachTells [] calls → calls ≡ []
  nothing [] h = refl
  nothing (c ∷ cs) h = absurd h

  pub one : (e : Entry V) (calls : List (Called V)) → EachTells (e ∷ []) calls → (c : Called V) × (calls ≡ c ∷ []) × TellsOfCall e c
  one e [] h = absurd h
  one e (c ∷ cs) h = (c, ap (λ z. c ∷ z) (nothing cs h.1), h.0)

module _ {V F S T : Type 0} (words : FamilyWords F (Posted V) S T) (obeys : V → Bool) where
  pub entries : EntriesShow words obeys
  entries board old new e = (
    λ h. h,
    λ h. (
      h.1.seen,
      subst (λ z. IsPass words obeys board z) h.2 h.1.of,
      subst (λ z. IsCall words obeys board (kind_by e.reply) old z h.1.seen) h.2 h.1.call,
      subst (λ z. Replies board.limit old.process e.wish h.1.seen z.own e.reply) h.2 h.1.replies,
    ),
  )

  pub lanes : LanesShow words obeys
  lanes board ls k lane h = (h.all, h.some, λ at. let w = h.each k lane at in (w.old, w.fresh, w.of, w.process, w.calls))

  pub atomic_logs : AtomicLogsShow words obeys
  atomic_logs board ls last i lane e h at =
      let told = h.told i lane at in (
        h.calls,
        h.run,
        λ is. nothing (h.calls i) (subst (λ z. EachTells z (h.calls i)) is told),
        λ is. let c = one e (h.calls i) (subst (λ z. EachTells z (h.calls i)) is told) in (c.0, c.1, c.2.0, c.2.1),
      )

module _ {V : Type 0} (equal : V → V → Bool) where
  pub sound : SoundLogsShow equal
  sound opening logs t j log e h at there = (h.0 t j log e at there, h.1 t j log e at there)

  pub breaks : (rule : ℕ → Stamp → Entry V → Bool) (logs : List (List (Entry V))) (task call : ℕ) →
      IsFirstBrokenOrigin rule logs task call → BreaksFirst equal rule logs task call
  breaks rule logs task call h = record {
    log = h.log;
    place = h.place;
    entry = h.breaks.entry;
    of_task = h.at;
    counted = h.count;
    there = h.breaks.at;
    breaks = h.breaks.breaks;
    tasks = h.first;
    entries = h.breaks.first;
  }

  pub broken : BrokenLogsShow equal
  broken opening logs task call h = elim h.either [
    | inl order ↦ inl (breaks _ logs task call order)
    | inr origin ↦ inr (origin.0, breaks _ logs task call origin.1)
  ]
