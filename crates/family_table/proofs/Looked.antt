-- What a seat is once its process has said a tag, or looked whether another one has said it, of any mechanism: all that it has and knows of
-- registers stays. And what the plan says of it, the step owes.
use Rattle.std.proofs.Common.{◌≡◌, Bool, true, false, ℕ, ◌<◌, List, [], ◌∷◌, ◌++◌, length, slice_get, Some, refl, sym, ap, ◌∙◌, subst}
use Rattle.std.proofs.Common.{arith}
use mathlib.Core.Option.{some}
use lib.ListN.{get_elem?}
use Rattle.cell_contract.specs.Accesses.{FindsTag, KeepsEach, ReadAccesses, WriteAccesses}
use Rattle.cell_contract.specs.Ends.{FindWhatWasSaid}
use Rattle.cell_contract.specs.Plans.{Doings, doings, MayFind, MaySay}
use Rattle.cell_contract.specs.declared.said.Said.{Said}
use Rattle.cell_contract.specs.declared.said.Found.{Found}
use Rattle.family_table.specs.declared.notes.Opened.{Opened}
use Rattle.family_table.specs.declared.notes.Process.{Process}
use Rattle.family_table.specs.declared.notes.View.TheVariants.{Has}
use Rattle.family_table.specs.declared.processes.ProcessSeat.{ProcessSeat}
use Rattle.family_table.specs.declared.table.FamilySeat.{FamilySeat}
use Rattle.family_table.specs.Ends.{AllDone, Finds}
use Rattle.family_table.specs.Family.{finds_by, says_by}
use Rattle.family_table.specs.Layouts.{Layout}
use Rattle.family_table.specs.Seated.{known_by, number_of, clock_of, times_of, said_of, found_of}
use Rattle.family_table.specs.Views.{process_of}
use Rattle.family_table.proofs.Numbered.{seat_at}

-- the process with other words and times
abbrev pub with_words : {V : Type 0} → Process V → ℕ → List ℕ → List Said → List Found → Process V
with_words v clock times said found = record v { clock = clock; times = times; said = said; found = found }

-- how a mechanism's contracts see what a process wrote and read, neither of which its words change
module _ {T V : Type 0} (writes_to : T → ℕ → Process V → ℕ → WriteAccesses T) (reads_from : T → ℕ → Process V → ℕ → ReadAccesses T)
    (kept : (o : T) (n : ℕ) (v : Process V) (clock : ℕ) (times : List ℕ) (said : List Said) (found : List Found) (j : ℕ) →
    (writes_to o n (with_words v clock times said found) j ≡ writes_to o n v j)
    × (reads_from o n (with_words v clock times said found) j ≡ reads_from o n v j)) where
  abbrev did : T → ℕ → Process V → Doings T
  did o n v = doings v.times (writes_to o n v) (reads_from o n v) v.said v.found

  did_so : (o : T) (n : ℕ) (v : Process V) (clock : ℕ) (times : List ℕ) (said : List Said) (found : List Found) →
      record (did o n v) { times = times; said = said; found = found } ≡ did o n (with_words v clock times said found)
  did_so o n v clock times said found = λ i. record {
    times = times;
    writes = λ j. let w = sym (kept o n v clock times said found j).0 i in
        record { items = w.items; begins = w.times.begins; ends = w.times.ends };
    reads = λ j. let r = sym (kept o n v clock times said found j).1 i in
        record { items = r.answers; begins = r.times.begins; ends = r.times.ends };
    said = said;
    found = found;
  }

  -- each process is in shape, and does as it may
  module _ (shape : ℕ → ℕ → Process V → Type 0)
      (shaped : (n i : ℕ) (v : Process V) (clock : ℕ) (times : List ℕ) (said : List Said) (found : List Found) → shape n i v →
      shape n i (with_words v clock times said found)) (width : ℕ) (plan : T → ℕ → ℕ → ℕ → ℕ → Doings T → Type 0) where
    abbrev Planned : Opened T → ℕ → Process V → Type 0
    Planned key i v = shape key.processes i v × plan key.first width key.processes key.limit i (did key.first key.processes v)

    module _ {X : Type 0} (key : Opened T) (s : ProcessSeat T V X) (opening : s.spare ≡ key.first) (processes : s.processes ≡ key.processes)
        (who : (known_by s).who ≡ s.who) where
      goes : (clock : ℕ) (times : List ℕ) (said : List Said) (found : List Found) →
          plan key.first width key.processes key.limit s.who
          (record (did s.spare s.processes (known_by s)) { times = times; said = said; found = found }) →
          Planned key (known_by s).who (known_by s) → Planned key (known_by s).who (with_words (known_by s) clock times said found)
      goes clock times said found may h =
          let k : Process V = known_by s in (
            shaped key.processes k.who k clock times said found h.0,
            subst (λ (z : T × ℕ × ℕ). plan key.first width key.processes key.limit z.2 (did z.0 z.1 (with_words k clock times said found)))
                (λ i. (opening i, processes i, sym who i))
                (subst (plan key.first width key.processes key.limit s.who) (did_so s.spare s.processes k clock times said found) may),
          )

      pub say_may : (tag : ℕ) → MaySay (plan key.first width key.processes key.limit s.who) tag (clock_of s)
          (did s.spare s.processes (known_by s)) → (v : Process V) → s.seat.inner.me.0 ≡ Has (v ∷ []) → Planned key v.who v →
          Planned key v.who (says_by v tag)
      say_may tag may v e =
          let k : Process V = known_by s in
          subst (λ (z : Process V). Planned key z.who z → Planned key z.who (says_by z tag)) (ap process_of e)
          (goes k.clock k.times (k.said ++ record { tag = tag; time = k.clock } ∷ []) k.found may)

      pub find_may : (from tag : ℕ) → MayFind (plan key.first width key.processes key.limit s.who) from tag
          (did s.spare s.processes (known_by s)) → (v : Process V) (t : ℕ) → s.seat.inner.me.0 ≡ Has (v ∷ []) → Planned key v.who v →
          Planned key v.who (finds_by v from tag t)
      find_may from tag may v t e =
          let k : Process V = known_by s in
          subst (λ (z : Process V). Planned key z.who z → Planned key z.who (finds_by z from tag t)) (ap process_of e)
          (goes t (k.times ++ t ∷ []) k.said (k.found ++ record { who = from; tag = tag; time = t } ∷ []) (may t))

  -- a seat that goes on with other words and times is still one of the family's
  module _ {X : Type 0} (is_seat : ProcessSeat T V X → Type 0) (s : ProcessSeat T V X) (one : s.seat.inner.me.0 ≡ Has (known_by s ∷ []))
      (still : (seat : FamilySeat T V) (clock : ℕ) (times : List ℕ) (said : List Said) (found : List Found) →
      seat.inner.table_id ≡ s.seat.inner.table_id →
      seat.inner.me ≡ (Has (with_words (known_by s) clock times said found ∷ []), s.seat.inner.me.1) → is_seat (record s { seat = seat }))
      (seat : FamilySeat T V) (table : seat.inner.table_id ≡ s.seat.inner.table_id) where
    abbrev s' : ProcessSeat T V X
    s' = record s { seat = seat }

    abbrev Kept : Type 0
    Kept = KeepsEach (writes_to s.spare s.processes (known_by s)) (writes_to s.spare s.processes (known_by s'))
        × KeepsEach (reads_from s.spare s.processes (known_by s)) (reads_from s.spare s.processes (known_by s'))

    stay : (clock : ℕ) (times : List ℕ) (said : List Said) (found : List Found) →
        known_by s' ≡ with_words (known_by s) clock times said found → Kept
    stay clock times said found is = (
      λ j. ap (λ z. writes_to s.spare s.processes z j) is ∙ (kept s.spare s.processes (known_by s) clock times said found j).0,
      λ j. ap (λ z. reads_from s.spare s.processes z j) is ∙ (kept s.spare s.processes (known_by s) clock times said found j).1,
    )

    -- it said a tag
    pub record HasSaid (tag : ℕ) : Type 0 where
      pub own : is_seat s' × (s'.who ≡ s.who)
      pub said : said_of s' ≡ said_of s ++ record { tag = tag; time = clock_of s } ∷ []
      pub same : (clock_of s' ≡ clock_of s) × (times_of s' ≡ times_of s) × (found_of s' ≡ found_of s)
      pub calls : Kept

    pub has_said : (tag : ℕ) → seat.inner.me ≡ (Has (says_by (known_by s) tag ∷ []), s.seat.inner.me.1) → HasSaid tag
    has_said tag me =
        let k : Process V = known_by s in
        let said : List Said = k.said ++ record { tag = tag; time = k.clock } ∷ [] in
        let is : known_by s' ≡ says_by k tag = ap (λ z. process_of z.0) me in record {
          own = (still seat k.clock k.times said k.found table me, refl);
          said = ap (λ z. z.said) is;
          same = (ap (λ z. z.clock) is, ap (λ z. z.times) is, ap (λ z. z.found) is);
          calls = stay k.clock k.times said k.found is;
        }

    -- it looked whether a tag was said, with this answer
    pub record LookedFor (from tag : ℕ) (there_is : Bool) : Type 0 where
      pub own : is_seat s' × (s'.who ≡ s.who)
      pub finds : there_is ≡ true → FindsTag from tag (clock_of s) (clock_of s') (times_of s) (times_of s') (found_of s) (found_of s')
      pub unfound : there_is ≡ false → (clock_of s' ≡ clock_of s) × (times_of s' ≡ times_of s) × (found_of s' ≡ found_of s)
      pub said : said_of s' ≡ said_of s
      pub calls : Kept

    pub looked_for : (from tag : ℕ) (there_is : Bool) →
        (there_is ≡ true → (v : Process V) → s.seat.inner.me.0 ≡ Has (v ∷ []) → Finds from tag v s.seat.inner.me.1 seat.inner.me) →
        (there_is ≡ false → seat.inner.me ≡ s.seat.inner.me) → LookedFor from tag there_is
    looked_for from tag true found same =
        let k : Process V = known_by s in
        let h = found refl k one in
        let new : List Found = k.found ++ record { who = from; tag = tag; time = h.0 } ∷ [] in
        let is : known_by s' ≡ finds_by k from tag h.0 = ap (λ z. process_of z.0) h.2 in record {
          own = (still seat h.0 (k.times ++ h.0 ∷ []) k.said new table h.2, refl);
          finds = λ _. subst (λ (z : Process V). FindsTag from tag k.clock z.clock k.times z.times k.found z.found) (sym is)
              (h.1, refl, refl);
          unfound = λ e. absurd (cc);
          said = ap (λ z. z.said) is;
          calls = stay h.0 (k.times ++ h.0 ∷ []) k.said new is;
        }
    looked_for from tag false found same =
        let k : Process V = known_by s in
        let me : seat.inner.me ≡ (Has (k ∷ []), s.seat.inner.me.1) = same refl ∙ (λ i. (one i, s.seat.inner.me.1)) in
        let is : known_by s' ≡ k = ap (λ z. process_of z.0) me in record {
          own = (still seat k.clock k.times k.said k.found table me, refl);
          finds = λ e. absurd (cc);
          unfound = λ _. (ap (λ z. z.clock) is, ap (λ z. z.times) is, ap (λ z. z.found) is);
          said = ap (λ z. z.said) is;
          calls = stay k.clock k.times k.said k.found is;
        }

-- all seats of a family find what was said, by what their processes have done
module _ {T V X : Type 0} (blank : V) (l : Layout) (done : V → V → Type 0) (n : ℕ) (ps : List (Process V))
    (ended : AllDone blank l done n ps)
    (seats : List (ProcessSeat T V X)) (many : length seats ≡ n)
    (named : (i : ℕ) (s : ProcessSeat T V X) → slice_get seats i ≡ Some s → (known_by s).who ≡ i)
    (there : (i : ℕ) (s : ProcessSeat T V X) → slice_get seats i ≡ Some s → (a : ℕ) × (get_elem? ps a ≡ some (known_by s))) where
  pub all_found : FindWhatWasSaid said_of found_of seats
  all_found i x s f at_s at_f =
      let a = there i s at_s in
      let found = ended.finds a.0 x (known_by s) f a.1 at_f in
      let t = seat_at seats f.who (let l : f.who < n = found.0 in omega arith) in
      let b = there f.who t.0 t.1 in
      (t.0, t.1, found.1 b.0 (known_by t.0) b.1 (named f.who t.0 t.1))
