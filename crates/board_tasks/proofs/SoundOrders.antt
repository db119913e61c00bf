-- Logs that have one order are sound: along it the register's record has its write, and its stamp never falls.
use Rattle.std.proofs.Common.{◌≡◌, ℕ, zero, suc, ◌+◌, Bool, true, false, IsTrue, IsFalse, ◌&&◌, ◌||◌, List, [], ◌∷◌, map}
use Rattle.std.proofs.Common.{take, refl, sym, ◌∙◌, ap, subst, arith, ◌⊎◌, inl, inr}
use Rattle.std.specs.Prelude.{slice_get, Some, nat_eq, Option}
use mathlib.Core.Bool.{cond}
use Rattle.std.specs.List.{filter, list_any}
use Rattle.std.proofs.lemmas.Bool.Decides.{nat_tests}
use Rattle.std.proofs.lemmas.Option.{none-some, same_Some}
use Rattle.history_core.specs.declared.wish.Wish.{Wish}
use Rattle.history_core.specs.declared.wish.Wish.TheVariants.{Write, Read}
use Rattle.matrix_core.specs.Choices.{IsIn}
use Rattle.matrix_core.specs.Stamps.{IsBelow, first_stamp, is_below}
use Rattle.matrix_core.specs.declared.stamp.Stamp.{Stamp}
use Rattle.cell_contract.specs.Running.{last_or}
use Rattle.board_tasks.specs.declared.lane.Entry.{Entry}
use Rattle.board_tasks.specs.declared.lane.Reply.{Reply}
use Rattle.board_tasks.specs.declared.lane.Reply.TheVariants.{Written, Seen, Ended}
use Rattle.board_live.specs.declared.record.Posted.{Posted}
use Rattle.board_tasks.specs.LogOrders.{AreEntriesOfOne, entries_of, is_of, IsLogOrder, LogsInOrder, Noted, RegisterTakesEntry}
use Rattle.board_tasks.specs.Logs.{is_at_most, stamp_of}
use Rattle.board_tasks.specs.Origins.{AllKeep, has_origin, has_write, in_order, is_known, is_reply_at, IsFirstBrokenOrigin, IsOrigin}
use Rattle.board_tasks.specs.Origins.{same_stamp}
use Rattle.board_tasks.specs.Origins.{sees_known, stamp_before, wrote}
use Rattle.board_tasks.specs.declared.origin.Origin.TheVariants.{Broken}
use Rattle.board_tasks.proofs.LogLaws.{at_most_trans}
use Rattle.matrix_core.proofs.lists.Elements.{get_exists}

pub at_most_below : (a b : Stamp) → IsBelow a b → is_at_most a b ≡ true
at_most_below a b h = grind (arith, nat_tests)

pub at_most_self : (a : Stamp) → is_at_most a a ≡ true
at_most_self a = grind (arith, nat_tests)

pub stamp_itself : (a : Stamp) → same_stamp a a ≡ true
stamp_itself a = grind (arith, nat_tests)

above_all : (a b c : Stamp) → is_at_most a b ≡ true → IsBelow b c → is_below a c ≡ true
above_all a b c h k = grind (arith, nat_tests)

same_task : (n m : ℕ) → nat_eq n m ≡ true → n ≡ m
same_task n m h = grind (arith, nat_tests)

task_itself : (n : ℕ) → nat_eq n n ≡ true
task_itself n = grind (arith, nat_tests)

pub all_true : (a b : Bool) → a ≡ true → b ≡ true → (a && b) ≡ true
all_true true b e f = f
all_true false b e f = cc

pub first_true : (a b : Bool) → a ≡ true → (a || b) ≡ true
first_true true b e = refl
first_true false b e = cc

pub second_true : (a b : Bool) → b ≡ true → (a || b) ≡ true
second_true true b e = refl
second_true false b e = e

pub any_in : {X : Type 0} (p : X → Bool) (xs : List X) (x : X) → IsIn x xs → p x ≡ true → list_any p xs ≡ true
any_in p [] x m e = absurd m
any_in p (y ∷ ys) x (inl f) e = first_true (p y) (list_any p ys) (ap p (sym f) ∙ e)
any_in p (y ∷ ys) x (inr m) e = second_true (p y) (list_any p ys) (any_in p ys x m e)

pub in_at : {X : Type 0} (xs : List X) (k : ℕ) (x : X) → slice_get xs k ≡ Some x → IsIn x xs
in_at [] k x h = absurd (none-some x h)
in_at (y ∷ ys) zero x h = inl (sym (same_Some y x h))
in_at (y ∷ ys) (suc k) x h = inr (in_at ys k x h)

module _ {V : Type 0} where
  here_by : (b : Bool) (n : Noted V) (F : List (Noted V)) → b ≡ true → IsIn n.entry (map (λ (m : Noted V). m.entry) (cond b (n ∷ F) F))
  here_by true n F e = inl refl
  here_by false n F e = cc

  there_by : (b : Bool) (n : Noted V) (F : List (Noted V)) (e : Entry V) → IsIn e (map (λ (m : Noted V). m.entry) F)
      → IsIn e (map (λ (m : Noted V). m.entry) (cond b (n ∷ F) F))
  there_by true n F e m = inr m
  there_by false n F e m = m

  -- an entry stands among those of its task
  pub entry_in : (order : List (Noted V)) (n : Noted V) → IsIn n order → IsIn n.entry (entries_of n.task order)
  entry_in [] n m = absurd m
  entry_in (x ∷ order) n (inl e) =
      subst (λ (z : Noted V). IsIn z.entry (entries_of z.task (x ∷ order))) (sym e)
      (here_by (is_of x.task x) x (filter (is_of x.task) order) (task_itself x.task))
  entry_in (x ∷ order) n (inr m) = there_by (is_of n.task x) x (filter (is_of n.task) order) n.entry (entry_in order n m)

  back_by : (b : Bool) (x : Noted V) (F : List (Noted V)) (e : Entry V) → IsIn e (map (λ (m : Noted V). m.entry) (cond b (x ∷ F) F))
      → (e ≡ x.entry) ⊎ IsIn e (map (λ (m : Noted V). m.entry) F)
  back_by true x F e (inl h) = inl h
  back_by true x F e (inr h) = inr h
  back_by false x F e h = inr h

  -- and such an entry is one of the order
  noted_in : (task : ℕ) (order : List (Noted V)) (e : Entry V) → IsIn e (entries_of task order)
      → (n : Noted V) × IsIn n order × (e ≡ n.entry)
  noted_in task [] e m = absurd m
  noted_in task (x ∷ order) e m = elim (back_by (is_of task x) x (filter (is_of task) order) e m) [
    | inl h ↦ (x, inl refl, h)
    | inr h ↦ let w = noted_in task order e h in (w.0, inr w.1, w.2)
  ]

  -- what the register holds after an entry
  record Next (reply : Reply V) (now : Posted V) (rest : Posted V → ℕ → Type 0) : Type 0 where
    pub held : Posted V
    pub writes : ℕ
    pub goes : rest held writes
    pub stamp : stamp_of reply ≡ held.stamp
    pub up : is_at_most now.stamp held.stamp ≡ true

  next : (limit task : ℕ) (now : Posted V) (writes : ℕ) (wish : Wish V) (reply : Reply V) (rest : Posted V → ℕ → Type 0)
      → RegisterTakesEntry limit task now writes wish reply rest → Next reply now rest
  next limit task now writes (Write item) (Written s) rest h =
      record { held = record { stamp = s; item = item }; writes = writes + 1; goes = h.2; stamp = refl; up = at_most_below now.stamp s h.0 }
  next limit task now writes (Write item) (Seen p) rest h = absurd h
  next limit task now writes (Write item) (Ended p) rest h =
      record { held = now; writes = writes; goes = h.2; stamp = ap (λ z. z.stamp) h.0; up = at_most_self now.stamp }
  next limit task now writes Read (Written s) rest h = absurd h
  next limit task now writes Read (Seen p) rest h =
      record { held = now; writes = writes; goes = h.1; stamp = ap (λ z. z.stamp) h.0; up = at_most_self now.stamp }
  next limit task now writes Read (Ended p) rest h = absurd h

  -- what a register takes is a reply in order, from a stamp on that isn't above its own
  reply_by : (limit task : ℕ) (before : Stamp) (now : Posted V) (writes : ℕ) (wish : Wish V) (reply : Reply V)
      (rest : Posted V → ℕ → Type 0)
      → is_at_most before now.stamp ≡ true → RegisterTakesEntry limit task now writes wish reply rest →
      is_reply_at task before wish reply ≡ true
  reply_by limit task before now writes (Write item) (Written s) rest u h =
      all_true (nat_eq s.writer task) (is_below before s) (subst (λ n. nat_eq s.writer n ≡ true) h.1 (task_itself s.writer))
      (above_all before now.stamp s u h.0)
  reply_by limit task before now writes (Write item) (Seen p) rest u h = absurd h
  reply_by limit task before now writes (Write item) (Ended p) rest u h =
      subst (λ (z : Posted V). is_at_most before z.stamp ≡ true) (sym h.0) u
  reply_by limit task before now writes Read (Written s) rest u h = absurd h
  reply_by limit task before now writes Read (Seen p) rest u h = subst (λ (z : Posted V). is_at_most before z.stamp ≡ true) (sym h.0) u
  reply_by limit task before now writes Read (Ended p) rest u h = absurd h

  -- entries of a task in order, from this stamp on
  abbrev pub OrderedFrom : ℕ → Stamp → List (Entry V) → Type 0
  OrderedFrom task before [] = Unit {0}
  OrderedFrom task before (e ∷ es) = (in_order task before e ≡ true) × OrderedFrom task (stamp_of e.reply) es

  ordered_by : (b : Bool) (task : ℕ) (before : Stamp) (n : Noted V) (F : List (Noted V))
      → (b ≡ true → in_order task before n.entry ≡ true)
      → OrderedFrom task (stamp_of n.entry.reply) (map (λ (m : Noted V). m.entry) F)
      → OrderedFrom task before (map (λ (m : Noted V). m.entry) F)
      → OrderedFrom task before (map (λ (m : Noted V). m.entry) (cond b (n ∷ F) F))
  ordered_by true task before n F u h k = (u refl, h)
  ordered_by false task before n F u h k = k

  ordered : (limit task : ℕ) (last : Posted V) (order : List (Noted V)) (before : Stamp) (now : Posted V) (writes : ℕ)
      → is_at_most before now.stamp ≡ true
      → AreEntriesOfOne limit now writes last order → OrderedFrom task before (entries_of task order)
  ordered limit task last [] before now writes u h = tt
  ordered limit task last (n ∷ order) before now writes u h =
      let x : Next n.entry.reply now (λ p m. AreEntriesOfOne limit p m last order) =
      next limit n.task now writes n.entry.wish n.entry.reply (λ p m. AreEntriesOfOne limit p m last order) h in
      let v : is_at_most before x.held.stamp ≡ true = at_most_trans before now.stamp x.held.stamp u x.up in
      ordered_by (is_of task n) task before n (filter (is_of task) order)
      (λ mine.
      let same : n.task ≡ task = same_task n.task task mine in
      subst (λ t. in_order t before n.entry ≡ true) same
      (reply_by limit n.task before now writes n.entry.wish n.entry.reply (λ p m. AreEntriesOfOne limit p m last order) u h))
      (ordered limit task last order (stamp_of n.entry.reply) x.held x.writes
      (subst (λ s. is_at_most s x.held.stamp ≡ true) (sym x.stamp) (at_most_self x.held.stamp)) x.goes)
      (ordered limit task last order before x.held x.writes v x.goes)

  ordered_at : (task : ℕ) (log : List (Entry V)) (before : Stamp) (j : ℕ) (e : Entry V) → OrderedFrom task before log →
      slice_get log j ≡ Some e
      → in_order task (last_or before (map (λ (d : Entry V). stamp_of d.reply) (take j log))) e ≡ true
  ordered_at task [] before j e h at = absurd (none-some e at)
  ordered_at task (x ∷ log) before zero e h at =
      subst (λ (z : Entry V). in_order task before z ≡ true) (same_Some x e at) h.0
  ordered_at task (x ∷ log) before (suc j) e h at = ordered_at task log (stamp_of x.reply) j e h.1 at

  module _ (equal : V → V → Bool) (itself : (x : V) → equal x x ≡ true) (opening : V) (logs : List (List (Entry V))) (limit : ℕ)
      (last : Posted V) (order : List (Noted V)) (is : IsLogOrder opening limit logs last order) where
    write_by : (o : Option (List (Entry V))) (log : List (Entry V)) (p : Posted V) → o ≡ Some log
        → list_any (λ e. wrote equal p e.wish e.reply) log ≡ true → has_write equal p o ≡ true
    write_by o log p e h = subst (λ z. has_write equal p z ≡ true) (sym e) h

    wrote_by : (item : V) (s : Stamp) (wish : Wish V) (reply : Reply V) → wish ≡ Write item → reply ≡ Written s
        → wrote equal (record { stamp = s; item = item }) wish reply ≡ true
    wrote_by item s wish reply e f = rw (e, f) (all_true (same_stamp s s) (equal item item) (stamp_itself s) (itself item))

    -- a write is known in the log of its task
    known_write : (n : Noted V) (item : V) (s : Stamp) → IsIn n order → n.entry.wish ≡ Write item → n.entry.reply ≡ Written s
        → s.writer ≡ n.task → is_known equal opening logs (record { stamp = s; item = item }) ≡ true
    known_write n item s m e f w =
        let log = get_exists logs n.task (is.only n m) in
        let i : IsIn n.entry log.0 = subst (λ z. IsIn n.entry z) (is.each n.task log.0 log.1) (entry_in order n m) in
        let p : Posted V = record { stamp = s; item = item } in
        second_true (same_stamp s first_stamp && equal item opening) (has_write equal p (slice_get logs s.writer))
        (write_by (slice_get logs s.writer) log.0 p (ap (slice_get logs) w ∙ log.1)
        (any_in (λ (d : Entry V). wrote equal p d.wish d.reply) log.0 n.entry i (wrote_by item s n.entry.wish n.entry.reply e f)))

    -- what the register holds after an entry is known, and so is what the entry saw
    record Knows (reply : Reply V) (rest : Posted V → ℕ → Type 0) : Type 0 where
      pub held : Posted V
      pub writes : ℕ
      pub goes : rest held writes
      pub known : is_known equal opening logs held ≡ true
      pub sees : sees_known equal opening logs reply ≡ true

    knows : (n : Noted V) → IsIn n order → (now : Posted V) (writes : ℕ) (wish : Wish V) (reply : Reply V) (rest : Posted V → ℕ → Type 0)
        → n.entry.wish ≡ wish → n.entry.reply ≡ reply
        → is_known equal opening logs now ≡ true → RegisterTakesEntry limit n.task now writes wish reply rest → Knows reply rest
    knows n m now writes (Write item) (Written s) rest e f k h =
        record {
          held = record { stamp = s; item = item };
          writes = writes + 1;
          goes = h.2;
          known = known_write n item s m e f h.1;
          sees = refl;
        }
    knows n m now writes (Write item) (Seen p) rest e f k h = absurd h
    knows n m now writes (Write item) (Ended p) rest e f k h =
        record { held = now; writes = writes; goes = h.2; known = k; sees = subst (λ z. is_known equal opening logs z ≡ true) (sym h.0) k }
    knows n m now writes Read (Written s) rest e f k h = absurd h
    knows n m now writes Read (Seen p) rest e f k h =
        record { held = now; writes = writes; goes = h.1; known = k; sees = subst (λ z. is_known equal opening logs z ≡ true) (sym h.0) k }
    knows n m now writes Read (Ended p) rest e f k h = absurd h

    all_known : (rest : List (Noted V)) (now : Posted V) (writes : ℕ) → ((n : Noted V) → IsIn n rest → IsIn n order)
        → AreEntriesOfOne limit now writes last rest
        → is_known equal opening logs now ≡ true → (n : Noted V) → IsIn n rest → sees_known equal opening logs n.entry.reply ≡ true
    all_known [] now writes f h k n m = absurd m
    all_known (x ∷ rest) now writes f h k n m =
        let w : Knows x.entry.reply (λ p j. AreEntriesOfOne limit p j last rest) =
        knows x (f x (inl refl)) now writes x.entry.wish x.entry.reply (λ p j. AreEntriesOfOne limit p j last rest) refl refl k h in
        elim m [
          | inl e ↦ subst (λ (z : Noted V). sees_known equal opening logs z.entry.reply ≡ true) (sym e) w.sees
          | inr i ↦ all_known rest w.held w.writes (λ d j. f d (inr j)) w.goes w.known n i
        ]

    first_known : is_known equal opening logs (record { stamp = first_stamp; item = opening }) ≡ true
    first_known =
        first_true (same_stamp first_stamp first_stamp && equal opening opening)
        (has_write equal (record { stamp = first_stamp; item = opening }) (slice_get logs 0))
        (all_true (same_stamp first_stamp first_stamp) (equal opening opening) (stamp_itself first_stamp) (itself opening))

    pub all_known_at : AllKeep (has_origin equal opening logs) logs
    all_known_at t j log e at in_log =
        let mine : entries_of t order ≡ log = is.each t log at in
        let n = noted_in t order e (subst (λ z. IsIn e z) (sym mine) (in_at log j e in_log)) in
        subst (λ (z : Entry V). sees_known equal opening logs z.reply ≡ true) (sym n.2)
        (all_known order (record { stamp = first_stamp; item = opening }) 0 (λ d i. i) is.one first_known n.0 n.1)

  -- every entry is in order
  all_ordered : (opening : V) (logs : List (List (Entry V))) (limit : ℕ) (last : Posted V) → LogsInOrder opening limit logs last
      → AllKeep in_order logs
  all_ordered opening logs limit last h t j log e at in_log =
      let mine : entries_of t h.0 ≡ log = h.1.each t log at in
      ordered_at t log first_stamp j e
      (subst (OrderedFrom t first_stamp) mine
      (ordered limit t last h.0 first_stamp (record { stamp = first_stamp; item = opening }) 0 (at_most_self first_stamp) h.1.one)) in_log

  -- an entry that breaks a rule isn't one of those that all keep it
  pub breaks_none : (rule : ℕ → Stamp → Entry V → Bool) (logs : List (List (Entry V))) → AllKeep rule logs
      → (task call : ℕ) → IsFirstBrokenOrigin rule logs task call → ⊥
  breaks_none rule logs all task call broken =
      not_both (rule task (stamp_before broken.log broken.place) broken.breaks.entry)
      (all task broken.place broken.log broken.breaks.entry broken.at broken.breaks.at) broken.breaks.breaks
    where
      not_both : (v : Bool) → IsTrue v → IsFalse v → ⊥
      not_both true t f = cc
      not_both false t f = cc

  -- logs all of whose entries keep both rules aren't broken
  pub sound_unbroken : (equal : V → V → Bool) (opening : V) (logs : List (List (Entry V))) → AllKeep in_order logs
      → AllKeep (has_origin equal opening logs) logs → (task call : ℕ) → IsOrigin equal opening logs (Broken task call) → ⊥
  sound_unbroken equal opening logs ordered known task call broken = elim broken.either [
    | inl first ↦ breaks_none in_order logs ordered task call first
    | inr (_, first) ↦ breaks_none (has_origin equal opening logs) logs known task call first
  ]

  -- so those that have one order aren't
  pub never_broken : (equal : V → V → Bool) → ((x : V) → equal x x ≡ true)
      → (opening : V) (logs : List (List (Entry V))) (limit : ℕ) (last : Posted V) → LogsInOrder opening limit logs last
      → (task call : ℕ) → IsOrigin equal opening logs (Broken task call) → ⊥
  never_broken equal itself opening logs limit last h =
      sound_unbroken equal opening logs (all_ordered opening logs limit last h) (all_known_at equal itself opening logs limit last h.0 h.1)
