-- What the order with the passes that are left, and the logs that are left, say.
use Rattle.std.proofs.Common.{◌≡◌, ◌≢◌, Bool, true, false, ℕ, zero, suc, List, [], ◌∷◌, length, slice_get, Some, refl, sym, ◌∙◌, ap, subst}
use Rattle.std.proofs.Common.{inl, inr}
use Rattle.std.proofs.lemmas.Option.{none-some, same_Some, slice_get_within}
use Rattle.std.specs.Prelude.{◌||◌}
use Rattle.cell_contract.specs.declared.family.Family.{Ghosts as FamilyWords}
use Rattle.board_history.specs.BoardRuns.{Did}
use Rattle.board_history.specs.BoardRuns.{end_of}
use Rattle.board_history.proofs.There.{atomic_run}
use Rattle.board_live.specs.declared.record.Posted.{Posted}
use Rattle.board_live.specs.Passes.{did_of}
use Rattle.board_tasks.specs.declared.lane.Entry.{Entry}
use Rattle.board_tasks.specs.declared.lane.Lane.{Lane}
use Rattle.board_tasks.specs.declared.lane.Reply.{Reply}
use Rattle.board_tasks.specs.Lost.{is_lost, sees_what_may_be_known}
use Rattle.board_tasks.specs.Origins.{is_known}
use Rattle.board_tasks.specs.Worked.{EachTells}
use Rattle.theorem_uses.specs.Lost.{BrokenBesideShow, LogsOfAllShow, LogsWithSomeShow, RunsBesideRise, RunsBesideShow, SoundBesideShow}
use Rattle.theorem_uses.specs.Lost.{SomeLanesShow, SomePassesShow, WithoutLostShows, WritesRiseWithSome}
use Rattle.theorem_uses.proofs.Logged.{breaks, nothing, one}
use Rattle.theorem_uses.proofs.SoFar.{stamps_rise_so_far}

module _ {V F S T : Type 0} (words : FamilyWords F (Posted V) S T) where
  pub writes_rise : WritesRiseWithSome words
  writes_rise board passes calls x y k m p q a b atomic made at_p at_q lp lq at_a at_b later writes =
      let h = atomic calls made in
      let did_p : h.did p.process ≡ did_of words p.seat (calls p.process) = h.own x p at_p in
      let did_q : h.did q.process ≡ did_of words q.seat (calls q.process) = h.own y q at_q in
      let ended : end_of words.width board.processes (h.did p.process) k a ≡ Some a.end =
      ap (λ (d : Did V). end_of words.width board.processes d k a) did_p ∙ (made x p at_p).made.ended k a at_a in
      stamps_rise_so_far words.width board.processes board.limit board.first.item h.steps h.did p.process k q.process m a.end a b h.atomic
      lp lq (ap (λ (d : Did V). slice_get d.calls k) did_p ∙ at_a) (ap (λ (d : Did V). slice_get d.calls m) did_q ∙ at_b) ended later writes

  pub logs_with_some : LogsWithSomeShow words
  logs_with_some board lanes k lane e h at =
      let told = h.told k lane at in (
        h.calls,
        h.run,
        λ is. nothing (h.calls lane.pass.process) (subst (λ z. EachTells z (h.calls lane.pass.process)) is told),
        λ is.
            let c = one e (h.calls lane.pass.process) (subst (λ z. EachTells z (h.calls lane.pass.process)) is told) in
            (c.0, c.1, c.2.0, c.2.1),
      )

module _ {V F S T : Type 0} (words : FamilyWords F (Posted V) S T) (obeys : V → Bool) where
  pub some_passes : SomePassesShow words obeys
  some_passes board passes x p all at = all x p at

  pub some_lanes : SomeLanesShow words obeys
  some_lanes board lanes x y lane other h = (
    h.some,
    λ at. let w = h.each x lane at in (w.old, w.fresh, w.of, w.calls),
    λ at_x at_y same apart. h.apart x y lane other at_x at_y apart same,
  )

not_lost : (lost known : Bool) → lost ≡ false → (lost || known) ≡ true → known ≡ true
not_lost true known e is = cc
not_lost false known e is = is

differs : true ≡ false → ⊥
differs e = cc

module _ {V : Type 0} (equal : V → V → Bool) where
  pub sound_beside : SoundBesideShow equal
  sound_beside opening lost logs t j log e p h at there = (
    h.0 t j log e at there,
    λ reply away. not_lost (is_lost lost p.stamp.writer) (is_known equal opening logs p) away
        (subst (λ (z : Reply V). sees_what_may_be_known equal opening lost logs z ≡ true) reply (h.1 t j log e at there)),
  )

  pub broken_beside : BrokenBesideShow equal
  broken_beside opening lost logs task call h = elim h.either [
    | inl order ↦ inl (breaks equal _ logs task call order)
    | inr origin ↦ inr (origin.0, breaks equal _ logs task call origin.1)
  ]

pub runs_beside : {V : Type 0} → RunsBesideShow V
runs_beside opening lost logs i e h away = (
  λ at. nothing (h.did i).calls (tells [] at),
  λ at. let c = one e (h.did i).calls (tells (e ∷ []) at) in (c.0, c.1, c.2.0, c.2.1),
)
  where
    tells : (log : List (Entry _)) → slice_get logs i ≡ Some log → EachTells log (h.did i).calls
    tells log at = elim (h.each i log at) [ inl told ↦ told.0 | inr gone ↦ absurd (differs (sym gone.0 ∙ away)) ]

pub runs_beside_rise : {V : Type 0} → RunsBesideRise V
runs_beside_rise opening lost logs i j k m log a b h away at lj at_a at_b = elim (h.each i log at) [
  | inl tells ↦
      let end = tells.1 k a at_a in (
        end.0,
        end.1,
        λ later writes. stamps_rise_so_far h.width (length logs) h.limit opening h.steps h.did i k j m end.0 a b
            (atomic_run h.width (length logs) h.limit opening h.steps h.did h.run) (slice_get_within logs i log at) lj at_a at_b end.1 later
            writes,
      )
  | inr gone ↦ absurd (differs (sym gone.0 ∙ away))
]

pub without_lost : {V : Type 0} → WithoutLostShows V
without_lost lost whole logs t rest away = elim (rest t) [ inl same ↦ same | inr gone ↦ absurd (differs (sym gone.0 ∙ away)) ]

pub logs_of_all : {V F S T : Type 0} → LogsOfAllShow V F S T
logs_of_all {V} {F} {S} {T} board lane lost logs i all inside away =
    let gone = all.gone i inside (λ k l e. alone k l e) in (all.all, all.left 0 lane refl, gone.0, gone.1)
  where
    alone : (k : ℕ) (l : Lane V F S T) → slice_get (lane ∷ []) k ≡ Some l → l.pass.process ≢ i
    alone zero l e = λ same. away (ap (λ (z : Lane V F S T). z.pass.process) (same_Some lane l e) ∙ same)
    alone (suc k) l e = absurd (none-some l e)
