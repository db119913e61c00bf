-- What changes no word keeps the rule: seats that part and join again, and receipts that are told and heard.
use Rattle.std.proofs.Common.{◌≡◌, ◌≢◌, ◌⊎◌, ℕ, zero, suc, ◌<◌, List, [], ◌∷◌, ◌++◌, length, set, sym, refl, ap, ◌∙◌, subst, ⊎_elim, inl}
use Rattle.std.proofs.Common.{inr, arith, ◌≤◌, le_refl, le_of_eq}
use mathlib.Core.Option.{some, some-injective, some-ne-none}
use lib.ListN.{get_elem?}
use Rattle.atomic_table.specs.Table.{State, Me, Splits, Joins}
use Rattle.atomic_table.proofs.Lists.{at_set, at_snoc, set_again, set_else}
use Rattle.std.proofs.lemmas.Bool.{cases_eq}
use Rattle.std.specs.declared.snapshot.Snapshot.{Snapshot}
use Rattle.four_slot_core.specs.declared.state.State.{State as Core}
use Rattle.four_slot_core.specs.declared.state.Stage.{Stage}
use Rattle.four_slot_core.specs.declared.state.Stage.TheVariants as writer
use Rattle.four_slot_core.specs.declared.state.ReaderStage.TheVariants as reader
use Rattle.four_slot_core.specs.Invariant.{latest_slot, IsStored}
use Rattle.four_slot_core.specs.Freshness.{IsBegun}
use Rattle.cell_contract.specs.Running.{snap}
use Rattle.cell_contract.specs.Intervals.{known_as, IsHeeded}
use Rattle.cell_contract.specs.declared.times.Dated.{Dated}
use Rattle.cell_four_slot.specs.declared.notes.WriterNotes.{WriterNotes}
use Rattle.cell_four_slot.specs.declared.notes.ReaderNotes.{ReaderNotes}
use Rattle.cell_four_slot.specs.Steps.{FourSlotSight, receipt_for, told_by, heard_by, hears_of, whole_of}
use Rattle.cell_contract.specs.declared.sight.Sight.TheVariants.{Spent, Told, Writer, Reader, Both}
use Rattle.cell_four_slot.specs.Rule.{number_in, named_slot, finished_number, StandsBy, Sees, FourSlotRule}
use Rattle.cell_contract.specs.Sights.{writer_part, reader_part}
use Rattle.cell_contract.proofs.ListLaws.{all_snoc, seats_stay}
use Rattle.cell_contract.proofs.Timing.{heeded_all}
use Rattle.cell_four_slot.proofs.Timing.{timed_hears}
use Rattle.cell_four_slot.proofs.Keeps.Sees.{sight_put, sight_get}

module _ {T : Type 0} (fits : T → Type 0) (rises : T → T → Type 0) (o : T) where
  abbrev V : Type 0
  V = FourSlotSight T

  abbrev St : Type 0
  St = State T V

  abbrev M : Type 0
  M = Me T V

  abbrev Rule : St → Type 0
  Rule = FourSlotRule fits rises o

  abbrev pub shown_number : {s : St} → Rule s → ℕ
  shown_number r = number_in r.put.slots (latest_slot r.core)

  abbrev RuleAt : ℕ → St → Type 0
  RuleAt t s = (r : Rule s) × (r.now ≤ t)

  abbrev pair_number : {s : St} → Rule s → ℕ
  pair_number r = number_in r.put.slots (named_slot r.core r.core.read.pair)

  -- the views change, and nothing else
  reseated : (s : St) (r : Rule s) (writer reader : ℕ) (vs : List V) →
      ((j : ℕ) (v : V) → get_elem? vs j ≡ some v → Sees o r.put r.get (shown_number r) r.now writer reader j v) →
      Rule record { words = s.words; homes = s.homes; views = vs }
  reseated s r writer reader vs seats = record {
    put = r.put;
    get = r.get;
    writer = writer;
    reader = reader;
    core = r.core;
    in_table = r.in_table;
    in_views = r.in_views;
    noise = r.noise;
    shown = r.shown;
    sound = r.sound;
    numbered = r.numbered;
    settled = r.settled;
    counted = r.counted;
    openings = r.openings;
    lawful = r.lawful;
    leads = r.leads;
    now = r.now;
    timed = r.timed;
    known = r.known;
    each_seat = seats;
  }

  -- what a seat of neither side sees doesn't depend on who has the sides
  others_alone : (s : St) (r : Rule s) (writer' reader' j : ℕ) → j ≢ r.writer → j ≢ r.reader → (v : V) →
      Sees o r.put r.get (shown_number r) r.now r.writer r.reader j v → Sees o r.put r.get (shown_number r) r.now writer' reader' j v
  others_alone s r w q j a b v k =
      let n : ℕ = shown_number r in
      sight_get o r.put r.get r.get n r.now r.now w r.reader q j b (le_refl r.now) v
      (sight_put o r.put r.put r.get n n r.now r.now r.writer w r.reader j a (le_refl r.now) (λ x h. h) (λ x h. h) v k)

  -- a seat of the list with one more is one of the old or the new one
  place_in : (vs : List V) (w : V) (v : V) (j : ℕ) → get_elem? (vs ++ w ∷ []) j ≡ some v →
      ((j < length vs) × (get_elem? vs j ≡ some v)) ⊎ ((j ≡ length vs) × (w ≡ v))
  place_in [] w v zero e = inr (refl, some-injective w v e)
  place_in [] w v (suc j) e = absurd (some-ne-none v (sym e))
  place_in (x ∷ vs) w v zero e = inl (omega arith, e)
  place_in (x ∷ vs) w v (suc j) e = ⊎_elim (λ (t : (j < length vs) × (get_elem? vs j ≡ some v)). inl (omega arith, t.1))
      (λ (t : (j ≡ length vs) × (w ≡ v)). inr (ap suc t.0, t.1)) (place_in vs w v j e)

  -- the seat with both lists parts into the writer's, in its place, and the reader's, at the end
  parts : (id : ℕ) (p : WriterNotes T) (g : ReaderNotes T) → Splits Rule id (Both p g) (Writer p) (Reader g)
  parts id p g s r at =
      let known = r.each_seat id (Both p g) at in
      let n : ℕ = length (set s.views id (Writer p)) in
      let m : ℕ = shown_number r in
      reseated s r id n _ (λ j v e. ⊎_elim
      (λ (t : (j < n) × (get_elem? (set s.views id (Writer p)) j ≡ some v)). ⊎_elim
      (λ (u : (j ≡ id) × (Writer p ≡ v)). subst (λ (z : V). Sees o r.put r.get m r.now id n j z) u.1 (known.0, u.0))
      (λ (u : (j ≢ id) × (get_elem? s.views j ≡ some v)).
      others_alone s r id n j (λ z. u.0 (z ∙ sym known.2)) (λ z. u.0 (z ∙ sym known.3)) v (r.each_seat j v u.1))
      (at_set s.views id j (Writer p) v t.1))
      (λ (t : (j ≡ n) × (Reader g ≡ v)). subst (λ (z : V). Sees o r.put r.get m r.now id n j z) t.1 (known.1, t.0))
      (place_in (set s.views id (Writer p)) (Reader g) v j e))

  pub parts_ok : (id : ℕ) (v : V) (p : WriterNotes T) (g : ReaderNotes T) → v ≡ Both p g → Splits Rule id v (writer_part v) (reader_part v)
  parts_ok id v p g e = subst (λ (z : V). Splits Rule id z (writer_part z) (reader_part z)) (sym e) (parts id p g)

  -- between two writes the last record stands, and no write is newer: this is what a receipt says
  tells : (id : ℕ) (p : WriterNotes T) → p.stage ≡ writer.W5 →
      Splits Rule id (Writer p) (Writer p) (Told (snap (told_by p)))
  tells id p idle s r at = let known = r.each_seat id (Writer p) at in let m : ℕ = shown_number r in let c : Core T = r.core in
      let idle' : c.writer ≡ writer.W5 = r.in_views.writer_at ∙ (ap (λ (z : WriterNotes T). z.stage) (sym known.0) ∙ idle) in
      let finished : get_elem? (o ∷ r.put.written) m ≡ some r.put.finished.value =
      ap (get_elem? (o ∷ r.put.written)) (r.numbered.latest (λ z. absurd (subst IsStored idle' z))) ∙ r.numbered.finished in
      let last : StandsBy m (o ∷ r.put.written) p.finished.value = (
        m,
        omega arith,
        finished ∙ ap (λ (z : WriterNotes T). some z.finished.value) (sym known.0),
      ) in
      let by : p.times.clock ≤ r.now = subst (λ (z : WriterNotes T). z.times.clock ≤ r.now) (sym known.0) r.timed.put_clock in
      let number : m ≡ length r.put.written = r.numbered.latest (λ z. absurd (subst IsStored idle' z))
      ∙ ap (λ (z : Stage). finished_number z (length r.put.written)) idle' in
      let told : IsHeeded (told_by p).writes (known_as r.put.written r.put.times) m =
      subst (λ (z : WriterNotes T). IsHeeded (told_by z).writes (known_as r.put.written r.put.times) m) (sym known.0)
      (heeded_all r.put.written r.put.times m (le_of_eq (sym number))) in
      let named : V = Told (snap (told_by p)) in
      reseated s r r.writer r.reader _ (λ j v e. ⊎_elim
      (λ (t : get_elem? (set s.views id (Writer p)) j ≡ some v).
      seats_stay (Sees o r.put r.get m r.now r.writer r.reader) s.views id (Writer p) known (λ i d _ f. r.each_seat i d f) j v t)
      (λ (t : named ≡ v). subst (λ (z : V). Sees o r.put r.get m r.now r.writer r.reader j z) t (last, by, told))
      (at_snoc (set s.views id (Writer p)) named v j e))

  pub tells_ok : (id : ℕ) (v : V) (p : WriterNotes T) → v ≡ Writer p → p.stage ≡ writer.W5 → Splits Rule id v v (receipt_for v)
  tells_ok id v p e idle = subst (λ (z : V). Splits Rule id z z (receipt_for z)) (sym e) (tells id p idle)

  -- the reader keeps what a receipt says; the next answer comes no earlier
  hears : (id other : ℕ) (g : ReaderNotes T) (x : Snapshot (Dated T)) → g.stage ≡ reader.R5 →
      Joins Rule id (Reader g) other (Told x) (Reader (heard_by g x.value)) Spent
  hears id other g x idle s r at apart there =
      let known = r.each_seat id (Reader g) at in
      let both' : V = Reader (heard_by g x.value) in
      let g' : ReaderNotes T = heard_by r.get x.value in let m : ℕ = shown_number r in
      let idle' : r.core.reader ≡ reader.R5 = r.in_views.reader_at ∙ (ap (λ (z : ReaderNotes T). z.stage) (sym known.0) ∙ idle) in
      let stands : StandsBy m (o ∷ r.put.written) x.value.item × (x.value.time ≤ r.now)
      × IsHeeded x.value.writes (known_as r.put.written r.put.times) m = ⊎_elim
      (λ (t : (other ≡ id) × (both' ≡ Told x)). absurd (apart t.0))
      (λ (t : (other ≢ id) × (get_elem? s.views other ≡ some (Told x))). r.each_seat other (Told x) t.1)
      (at_set s.views id other both' (Told x) there) in
      let up = r.settled.to_latest in
      record {
        put = r.put;
        get = g';
        writer = r.writer;
        reader = r.reader;
        core = r.core;
        in_table = r.in_table;
        in_views = record {
          writer_at = r.in_views.writer_at;
          write_is = r.in_views.write_is;
          item_is = r.in_views.item_is;
          remembered_are = r.in_views.remembered_are;
          latest_is = r.in_views.latest_is;
          reader_at = r.in_views.reader_at;
          read_is = r.in_views.read_is;
          chosen_is = r.in_views.chosen_is;
        };
        noise = r.noise;
        shown = r.shown;
        sound = r.sound;
        numbered = r.numbered;
        settled = record {
          to_latest = (up.0, all_snoc (StandsBy m (o ∷ r.put.written)) r.get.told x.value.item up.1 stands.0);
          to_pair = λ b. absurd (subst IsBegun idle' b);
        };
        counted = record { writes = r.counted.writes; reads = r.counted.reads };
        openings = r.openings;
        lawful = r.lawful;
        leads = r.leads;
        now = r.now;
        timed = timed_hears o r.put r.get r.now x.value m (pair_number r) r.core.writer r.core.reader stands.1 stands.2 idle' r.timed;
        known = r.known;
        each_seat = seats_stay (Sees o r.put g' m r.now r.writer r.reader) (set s.views id both') other Spent tt
            (λ j d _ e. seats_stay (Sees o r.put g' m r.now r.writer r.reader) s.views id both'
            ((λ i. heard_by (known.0 i) x.value), known.1)
            (λ k d' apart' f.
            sight_get o r.put r.get g' m r.now r.now r.writer r.reader r.reader k (λ z. apart' (z ∙ sym known.1)) (le_refl r.now) d'
            (r.each_seat k d' f)) j d e);
      }

  pub hears_ok : (id other : ℕ) (v w : V) (g : ReaderNotes T) (x : Snapshot (Dated T)) → v ≡ Reader g → w ≡ Told x → g.stage ≡ reader.R5 →
      Joins Rule id v other w (hears_of v w) Spent
  hears_ok id other v w g x e f idle =
      subst (λ (z : V × V). Joins Rule id z.0 other z.1 (hears_of z.0 z.1) Spent) (λ i. (sym e i, sym f i)) (hears id other g x idle)

  -- the two sides join: one seat sees both lists, and the other nothing
  ends : (id other : ℕ) (p : WriterNotes T) (g : ReaderNotes T) → Joins Rule id (Writer p) other (Reader g) (Both p g) Spent
  ends id other p g s r at apart there =
      let known = r.each_seat id (Writer p) at in
      let both' : V = Both p g in
      let m : ℕ = shown_number r in
      let was = ⊎_elim (λ (t : (other ≡ id) × (both' ≡ Reader g)). absurd (apart t.0))
      (λ (t : (other ≢ id) × (get_elem? s.views other ≡ some (Reader g))). r.each_seat other (Reader g) t.1)
      (at_set s.views id other both' (Reader g) there) in
      reseated s r id id _
      (λ j d e. ⊎_elim (λ (t : (j ≡ other) × (Spent ≡ d)). subst (λ (z : V). Sees o r.put r.get m r.now id id j z) t.1 tt)
      (λ (t : (j ≢ other) × (get_elem? (set s.views id both') j ≡ some d)). ⊎_elim
      (λ (u : (j ≡ id) × (both' ≡ d)). subst (λ (z : V). Sees o r.put r.get m r.now id id j z) u.1 (known.0, was.0, u.0, u.0))
      (λ (u : (j ≢ id) × (get_elem? s.views j ≡ some d)).
      others_alone s r id id j (λ z. u.0 (z ∙ sym known.1)) (λ z. t.0 (z ∙ sym was.1)) d (r.each_seat j d u.1))
      (at_set s.views id j both' d t.1))
      (at_set (set s.views id both') other j Spent d e))

  pub ends_ok : (id other : ℕ) (v w : V) (p : WriterNotes T) (g : ReaderNotes T) → v ≡ Writer p → w ≡ Reader g →
      Joins Rule id v other w (whole_of v w) Spent
  ends_ok id other v w p g e f =
      subst (λ (z : V × V). Joins Rule id z.0 other z.1 (whole_of z.0 z.1) Spent) (λ i. (sym e i, sym f i)) (ends id other p g)

  -- for a family, in which a cell's rule holds up to a time that goes on: other views, each of which sees what the rule says
  pub reseated_at : (t : ℕ) (s : St) (r : RuleAt t s) (w g : ℕ) (vs : List V) →
      ((j : ℕ) (v : V) → get_elem? vs j ≡ some v → Sees o r.0.put r.0.get (shown_number r.0) r.0.now w g j v) →
      RuleAt t (record { words = s.words; homes = s.homes; views = vs })
  unfolding reseated
  reseated_at t s r w g vs seats = (reseated s r.0 w g vs seats, r.1)

  -- a receipt is told
  pub tells_at : (t : ℕ) (s : St) (r : RuleAt t s) (id : ℕ) (p : WriterNotes T) → p.stage ≡ writer.W5 →
      get_elem? s.views id ≡ some (Writer p) →
      RuleAt t (record { words = s.words; homes = s.homes; views = s.views ++ receipt_for (Writer p) ∷ [] })
  unfolding tells reseated
  tells_at t s r id p idle at =
      subst (λ (vs : List V). RuleAt t (record { words = s.words; homes = s.homes; views = vs ++ receipt_for (Writer p) ∷ [] }))
      (set_again s.views id (Writer p) at) (tells id p idle s r.0 at, r.1)

  -- a receipt is heard, and its seat keeps it
  pub hears_at : (t : ℕ) (s : St) (r : RuleAt t s) (id other : ℕ) (g : ReaderNotes T) (x : Snapshot (Dated T)) → g.stage ≡ reader.R5 →
      get_elem? s.views id ≡ some (Reader g) → get_elem? s.views other ≡ some (Told x) → id ≢ other →
      RuleAt t (record { words = s.words; homes = s.homes; views = set s.views id (hears_of (Reader g) (Told x)) })
  unfolding hears reseated
  hears_at t s r id other g x idle at there ne =
      let h : V = hears_of (Reader g) (Told x) in
      let vs : List V = set s.views id h in
      let same : get_elem? vs other ≡ some (Told x) = set_else s.views id other h (λ e. ne (sym e)) ∙ there in
      let next : Rule (record { words = s.words; homes = s.homes; views = set vs other Spent }) =
      hears id other g x idle s r.0 at (λ e. ne (sym e)) same in (
        reseated (record { words = s.words; homes = s.homes; views = set vs other Spent }) next next.writer next.reader vs
            (λ j v e. ⊎_elim
            (λ (b : j ≡ other).
            let is : Told x ≡ v = some-injective (Told x) v (sym same ∙ (ap (get_elem? vs) (sym b) ∙ e)) in
            subst (Sees o next.put next.get (shown_number next) next.now next.writer next.reader j) is (r.0.each_seat other (Told x) there))
            (λ (b : j ≢ other). next.each_seat j v (set_else vs other j Spent b ∙ e))
            (cases_eq j other)),
        r.1,
      )
