-- The intervals of the calls and the numbers of the answers through each step, at a time later than all before. Nothing here names a slot:
-- a step makes the two numbers that the next read can have no smaller.
use Rattle.std.proofs.Common.{◌≡◌, ℕ, ◌+◌, ◌-◌, ◌<◌, ◌≤◌, max, Bool, [], ◌∷◌, ◌++◌, length, slice_get, Some, refl, sym}
use Rattle.std.proofs.Common.{ap, ◌∙◌, subst, arith, length-append, le_refl, le_trans}
use native.Mathlib.Nat.{le-max_left, max-le}
use Rattle.std.proofs.lemmas.Option.{slice_get_within, none-some}
use Rattle.four_slot_core.specs.declared.state.Stage.{Stage}
use Rattle.four_slot_core.specs.declared.state.Stage.TheVariants as writer
use Rattle.four_slot_core.specs.declared.state.ReaderStage.{ReaderStage}
use Rattle.four_slot_core.specs.declared.state.ReaderStage.TheVariants as reader
use Rattle.four_slot_core.specs.Freshness.{IsBegun}
use Rattle.four_slot_core.proofs.Pushed.{get_before, get_within}
use Rattle.cell_contract.specs.Intervals.{At, begun_at, passed_at, ended_at, known_as, AreAtomic, IsHeeded}
use Rattle.history_core.specs.Registers.{intervals, IsReadOf}
use Rattle.cell_contract.specs.declared.times.Dated.{Dated}
use Rattle.cell_contract.specs.declared.times.Known.{Known}
use Rattle.cell_four_slot.specs.declared.notes.WriterNotes.{WriterNotes}
use Rattle.cell_four_slot.specs.declared.notes.ReaderNotes.{ReaderNotes}
use Rattle.cell_four_slot.specs.Rule.{finished_number, begun_number, IsTimed}
use Rattle.cell_four_slot.specs.Steps.{begun_with, stored_by, finished_with, asked_by, said_with, got_by, heard_by, first_writer}
use Rattle.cell_four_slot.specs.Steps.{first_reader}
use Rattle.cell_contract.proofs.Timing.{late_up, late_ended, begun_longer, turn_begun, turn_ended, by_passed, by_begun, by_ended, read_of}
use Rattle.cell_contract.proofs.Timing.{heeded_begun, heeded_passed, heeded_ended, each_heeded, one_heeded}
use Rattle.cell_contract.proofs.Timing.{late_asked, late_more, begun_more, most_more, rising_more, source_more}

module _ {T : Type 0} (o : T) where
  -- W1
  pub timed_begins : (p : WriterNotes T) (g : ReaderNotes T) (now t : ℕ) (x : T) (b : Bool) (shown shown' pair pair' : ℕ)
      (w : Stage) (r : ReaderStage) → now < t → shown ≤ shown' → pair ≤ pair' → w ≡ writer.W5 → IsTimed o p g now w r shown pair →
      IsTimed o (begun_with p b x t) g t writer.W3 r shown' pair'
  timed_begins p g now t x b shown shown' pair pair' w r lt grows keeps idle was =
      let h : IsTimed o p g now writer.W5 r shown pair = subst (λ z. IsTimed o p g now z r shown pair) idle was in
      let old : p.times.clock ≤ now = h.put_clock in
      let theirs : g.times.clock ≤ now = h.get_clock in
      let begun : length p.times.begins ≡ length p.written = h.begun_writes in
      let ended : length p.times.ends ≡ length p.written = h.ended_writes in
      let one = length-append p.times.begins (t ∷ []) in
      let two = length-append p.written (x ∷ []) in
      record {
        put_clock = le_refl t;
        get_clock = let l : g.times.clock ≤ t = omega arith in l;
        put_by = by_begun p.times t (let l : p.times.clock ≤ t = omega arith in l) h.put_by;
        get_by = h.get_by;
        put_turn = turn_begun p.times.begins p.times.ends p.times.clock t (begun ∙ sym ended) h.put_by.ended
            (let l : p.times.clock < t = omega arith in l) h.put_turn;
        get_turn = h.get_turn;
        begun_writes = let e : length (p.times.begins ++ t ∷ []) ≡ length (p.written ++ x ∷ []) = omega arith in e;
        ended_writes = let e : length p.times.ends ≡ length (p.written ++ x ∷ []) - 1 = omega arith in e;
        begun_reads = h.begun_reads;
        ended_reads = h.ended_reads;
        numbered = h.numbered;
        source = λ m n y at here. get_before (o ∷ p.written) x n y (h.source m n y at here);
        late = h.late;
        begun = λ m n e at there. begun_longer p.times.begins e n t (h.begun m n e at there);
        rising = h.rising;
        to_latest = λ m n at. le_trans (h.to_latest m n at) grows;
        to_pair = λ u m n at. le_trans (h.to_pair u m n at) keeps;
        pending = λ u c at. late_up p.times.ends c pair pair' keeps (h.pending u c at);
        heeded = each_heeded (known_as p.written p.times) (known_as (p.written ++ x ∷ []) (begun_at p.times t)) shown shown'
            (λ z. heeded_begun z p.written p.times x t shown shown' grows) g.heard h.heeded;
        pair_heeded = λ u. each_heeded (known_as p.written p.times) (known_as (p.written ++ x ∷ []) (begun_at p.times t)) pair pair'
            (λ z. heeded_begun z p.written p.times x t pair pair' keeps) g.heard (h.pair_heeded u);
      }

  -- W4
  pub timed_stores : (p : WriterNotes T) (g : ReaderNotes T) (now t : ℕ) (shown shown' pair pair' : ℕ) (w : Stage) (r : ReaderStage) →
      now < t → shown ≤ shown' → pair ≤ pair' → w ≡ writer.W3 → IsTimed o p g now w r shown pair →
      IsTimed o (stored_by p t) g t writer.W4 r shown' pair'
  timed_stores p g now t shown shown' pair pair' w r lt grows keeps filled was =
      let h : IsTimed o p g now writer.W3 r shown pair = subst (λ z. IsTimed o p g now z r shown pair) filled was in
      let old : p.times.clock ≤ now = h.put_clock in
      let theirs : g.times.clock ≤ now = h.get_clock in
      record {
        put_clock = le_refl t;
        get_clock = let l : g.times.clock ≤ t = omega arith in l;
        put_by = by_passed p.times t (let l : p.times.clock ≤ t = omega arith in l) h.put_by;
        get_by = h.get_by;
        put_turn = h.put_turn;
        get_turn = h.get_turn;
        begun_writes = h.begun_writes;
        ended_writes = h.ended_writes;
        begun_reads = h.begun_reads;
        ended_reads = h.ended_reads;
        numbered = h.numbered;
        source = h.source;
        late = h.late;
        begun = h.begun;
        rising = h.rising;
        to_latest = λ m n at. le_trans (h.to_latest m n at) grows;
        to_pair = λ u m n at. le_trans (h.to_pair u m n at) keeps;
        pending = λ u c at. late_up p.times.ends c pair pair' keeps (h.pending u c at);
        heeded = each_heeded (known_as p.written p.times) (known_as p.written (passed_at p.times t)) shown shown'
            (λ z. heeded_passed z p.written p.times t shown shown' grows) g.heard h.heeded;
        pair_heeded = λ u. each_heeded (known_as p.written p.times) (known_as p.written (passed_at p.times t)) pair pair'
            (λ z. heeded_passed z p.written p.times t pair pair' keeps) g.heard (h.pair_heeded u);
      }

  -- W5, at the time of W4 or later
  pub timed_finishes : (p : WriterNotes T) (g : ReaderNotes T) (now t i : ℕ) (shown shown' pair : ℕ) (w : Stage) (r : ReaderStage) →
      now ≤ t → shown ≤ shown' → 0 < length p.written → w ≡ writer.W4 → IsTimed o p g now w r shown pair →
      IsTimed o (finished_with p i t) g t writer.W5 r shown' pair
  timed_finishes p g now t i shown shown' pair w r on grows any stored was =
      let h : IsTimed o p g now writer.W4 r shown pair = subst (λ z. IsTimed o p g now z r shown pair) stored was in
      let old : p.times.clock ≤ now = h.put_clock in
      let theirs : g.times.clock ≤ now = h.get_clock in
      let begun : length p.times.begins ≡ length p.written = h.begun_writes in
      let ended : length p.times.ends ≡ length p.written - 1 = h.ended_writes in
      let one = length-append p.times.ends (t ∷ []) in
      let before : (m b : ℕ) → At g.times.begins m b → b ≤ t =
      λ m b at. let l : b ≤ g.times.clock = h.get_by.begun m b at in omega arith in
      record {
        put_clock = le_refl t;
        get_clock = let l : g.times.clock ≤ t = omega arith in l;
        put_by = by_ended p.times t (let l : p.times.clock ≤ t = omega arith in l) h.put_by;
        get_by = h.get_by;
        put_turn = turn_ended p.times.begins p.times.ends p.times.clock t
            (let e : length p.times.begins ≡ length p.times.ends + 1 = omega arith in e) h.put_by.begun
            (let l : p.times.clock ≤ t = omega arith in l) h.put_turn;
        get_turn = h.get_turn;
        begun_writes = begun;
        ended_writes = let e : length (p.times.ends ++ t ∷ []) ≡ length p.written = omega arith in e;
        begun_reads = h.begun_reads;
        ended_reads = h.ended_reads;
        numbered = h.numbered;
        source = h.source;
        late = λ m n b at there. late_ended p.times.ends b n t (before m b there) (h.late m n b at there);
        begun = h.begun;
        rising = h.rising;
        to_latest = λ m n at. le_trans (h.to_latest m n at) grows;
        to_pair = h.to_pair;
        pending = λ u c at. late_ended p.times.ends c pair t (before (length g.answers) c at) (h.pending u c at);
        heeded = each_heeded (known_as p.written p.times) (known_as p.written (ended_at p.times t)) shown shown'
            (λ z. heeded_ended z p.written p.times t shown shown' grows) g.heard h.heeded;
        pair_heeded = λ u. each_heeded (known_as p.written p.times) (known_as p.written (ended_at p.times t)) pair pair
            (λ z. heeded_ended z p.written p.times t pair pair (le_refl pair)) g.heard (h.pair_heeded u);
      }

  -- R1: what the read will be told is what is shown now, which is no less than the number of finished writes
  pub timed_asks : (p : WriterNotes T) (g : ReaderNotes T) (now t : ℕ) (b : Bool) (shown pair : ℕ) (w : Stage) (r : ReaderStage) →
      now < t → finished_number w (length p.written) ≤ shown → r ≡ reader.R5 → IsTimed o p g now w r shown pair →
      IsTimed o p (asked_by g b t) t w reader.R1 shown shown
  timed_asks p g now t b shown pair w r lt enough idle was =
      let h : IsTimed o p g now w reader.R5 shown pair = subst (λ z. IsTimed o p g now w z shown pair) idle was in
      let old : g.times.clock ≤ now = h.get_clock in
      let theirs : p.times.clock ≤ now = h.put_clock in
      let begun : length g.times.begins ≡ length g.answers = h.begun_reads in
      let ended : length g.times.ends ≡ length g.answers = h.ended_reads in
      let numbered : length g.numbers ≡ length g.answers = h.numbered in
      let finished : length p.times.ends ≡ finished_number w (length p.written) = h.ended_writes in
      let one = length-append g.times.begins (t ∷ []) in
      record {
        put_clock = let l : p.times.clock ≤ t = omega arith in l;
        get_clock = le_refl t;
        put_by = h.put_by;
        get_by = by_begun g.times t (let l : g.times.clock ≤ t = omega arith in l) h.get_by;
        put_turn = h.put_turn;
        get_turn = turn_begun g.times.begins g.times.ends g.times.clock t (begun ∙ sym ended) h.get_by.ended
            (let l : g.times.clock < t = omega arith in l) h.get_turn;
        begun_writes = h.begun_writes;
        ended_writes = h.ended_writes;
        begun_reads = let e : length (g.times.begins ++ t ∷ []) ≡ length g.answers + 1 = omega arith in e;
        ended_reads = h.ended_reads;
        numbered = h.numbered;
        source = h.source;
        late = late_asked g.numbers g.times.begins p.times.ends t
            (let l : length g.numbers ≤ length g.times.begins = omega arith in l) h.late;
        begun = h.begun;
        rising = h.rising;
        to_latest = h.to_latest;
        to_pair = λ _. h.to_latest;
        pending = λ _ c at k e there before. let l : k < length p.times.ends = slice_get_within p.times.ends k e there in
            let s : k < shown = omega arith in s;
        heeded = h.heeded;
        pair_heeded = λ _. h.heeded;
      }

  -- R2, at the time of R1 or later
  pub timed_says : (p : WriterNotes T) (g : ReaderNotes T) (now t i : ℕ) (shown pair : ℕ) (w : Stage) (r : ReaderStage) →
      now ≤ t → r ≡ reader.R1 → IsTimed o p g now w r shown pair → IsTimed o p (said_with g i t) t w reader.R2 shown pair
  timed_says p g now t i shown pair w r on asked was =
      let h : IsTimed o p g now w reader.R1 shown pair = subst (λ z. IsTimed o p g now w z shown pair) asked was in
      let old : g.times.clock ≤ now = h.get_clock in
      let theirs : p.times.clock ≤ now = h.put_clock in
      record {
        put_clock = let l : p.times.clock ≤ t = omega arith in l;
        get_clock = le_refl t;
        put_by = h.put_by;
        get_by = by_passed g.times t (let l : g.times.clock ≤ t = omega arith in l) h.get_by;
        put_turn = h.put_turn;
        get_turn = h.get_turn;
        begun_writes = h.begun_writes;
        ended_writes = h.ended_writes;
        begun_reads = h.begun_reads;
        ended_reads = h.ended_reads;
        numbered = h.numbered;
        source = h.source;
        late = h.late;
        begun = h.begun;
        rising = h.rising;
        to_latest = h.to_latest;
        to_pair = λ _. h.to_pair tt;
        pending = λ _. h.pending tt;
        heeded = h.heeded;
        pair_heeded = λ _. h.pair_heeded tt;
      }

  -- R3: the answer has the number `pair`
  pub timed_takes : (p : WriterNotes T) (g : ReaderNotes T) (now t : ℕ) (b : Bool) (x : T) (writes : Known T) (shown pair pair' : ℕ)
      (w : Stage) (r : ReaderStage) → now < t → pair ≤ shown → pair ≤ length p.written → slice_get (o ∷ p.written) pair ≡ Some x →
      r ≡ reader.R2 → IsTimed o p g now w r shown pair → IsTimed o p (got_by g b x t pair writes) t w reader.R5 shown pair'
  timed_takes p g now t b x writes shown pair pair' w r lt low within here said was =
      let h : IsTimed o p g now w reader.R2 shown pair = subst (λ z. IsTimed o p g now w z shown pair) said was in
      let old : g.times.clock ≤ now = h.get_clock in
      let theirs : p.times.clock ≤ now = h.put_clock in
      let begun : length g.times.begins ≡ length g.answers + 1 = h.begun_reads in
      let ended : length g.times.ends ≡ length g.answers = h.ended_reads in
      let numbered : length g.numbers ≡ length g.answers = h.numbered in
      let opened : length p.times.begins ≡ length p.written = h.begun_writes in
      let one = length-append g.times.ends (t ∷ []) in
      let two = length-append g.answers (x ∷ []) in
      let three = length-append g.numbers (pair ∷ []) in
      record {
        put_clock = let l : p.times.clock ≤ t = omega arith in l;
        get_clock = le_refl t;
        put_by = h.put_by;
        get_by = by_ended g.times t (let l : g.times.clock ≤ t = omega arith in l) h.get_by;
        put_turn = h.put_turn;
        get_turn = turn_ended g.times.begins g.times.ends g.times.clock t
            (let e : length g.times.begins ≡ length g.times.ends + 1 = omega arith in e) h.get_by.begun
            (let l : g.times.clock ≤ t = omega arith in l) h.get_turn;
        begun_writes = h.begun_writes;
        ended_writes = h.ended_writes;
        begun_reads = let e : length g.times.begins ≡ length (g.answers ++ x ∷ []) = omega arith in e;
        ended_reads = let e : length (g.times.ends ++ t ∷ []) ≡ length (g.answers ++ x ∷ []) = omega arith in e;
        numbered = let e : length (g.numbers ++ pair ∷ []) ≡ length (g.answers ++ x ∷ []) = omega arith in e;
        source = source_more o p.written g.answers g.numbers pair x numbered here h.source;
        late = late_more g.numbers g.times.begins p.times.ends pair h.late
            (λ c at. h.pending tt c (ap (slice_get g.times.begins) (sym numbered) ∙ at));
        begun = begun_more g.numbers p.times.begins g.times.ends pair t (numbered ∙ sym ended) h.begun (λ k is.
            let f = get_within p.times.begins k (let l : k < length p.times.begins = omega arith in l) in
            (f.0, f.1, (let l : f.0 ≤ p.times.clock = h.put_by.begun k f.0 f.1 in let z : f.0 < t = omega arith in z)));
        rising = rising_more g.numbers pair (h.to_pair tt) h.rising;
        to_latest = most_more g.numbers pair shown low h.to_latest;
        to_pair = λ u. absurd u;
        pending = λ u. absurd u;
        heeded = h.heeded;
        pair_heeded = λ u. absurd u;
      }

  -- a receipt is taken in, between two reads
  pub timed_hears : (p : WriterNotes T) (g : ReaderNotes T) (now : ℕ) (x : Dated T) (shown pair : ℕ) (w : Stage) (r : ReaderStage) →
      x.time ≤ now → IsHeeded x.writes (known_as p.written p.times) shown → r ≡ reader.R5 → IsTimed o p g now w r shown pair →
      IsTimed o p (heard_by g x) now w r shown pair
  timed_hears p g now x shown pair w r before told idle h =
      record {
        put_clock = h.put_clock;
        get_clock = max-le h.get_clock before;
        put_by = h.put_by;
        get_by = by_passed g.times (max g.times.clock x.time) (le-max_left g.times.clock x.time) h.get_by;
        put_turn = h.put_turn;
        get_turn = h.get_turn;
        begun_writes = h.begun_writes;
        ended_writes = h.ended_writes;
        begun_reads = h.begun_reads;
        ended_reads = h.ended_reads;
        numbered = h.numbered;
        source = h.source;
        late = h.late;
        begun = h.begun;
        rising = h.rising;
        to_latest = h.to_latest;
        to_pair = h.to_pair;
        pending = h.pending;
        heeded = one_heeded (known_as p.written p.times) shown g.heard x.writes h.heeded told;
        pair_heeded = λ u. absurd (subst IsBegun idle u);
      }

  -- at the start there are no calls
  pub timed_starts : IsTimed o (first_writer o) (first_reader o) 0 writer.W5 reader.R5 0 0
  timed_starts = record {
    put_clock = le_refl 0;
    get_clock = le_refl 0;
    put_by = record { begun = λ k t at. absurd (none-some t at); ended = λ k t at. absurd (none-some t at) };
    get_by = record { begun = λ k t at. absurd (none-some t at); ended = λ k t at. absurd (none-some t at) };
    put_turn = record { forwards = λ k b e at there. absurd (none-some b at); follows = λ k e b at there. absurd (none-some e at) };
    get_turn = record { forwards = λ k b e at there. absurd (none-some b at); follows = λ k e b at there. absurd (none-some e at) };
    begun_writes = refl;
    ended_writes = refl;
    begun_reads = refl;
    ended_reads = refl;
    numbered = refl;
    source = λ m n x at there. absurd (none-some n at);
    late = λ m n b at there. absurd (none-some n at);
    begun = λ m n e at there. absurd (none-some n at);
    rising = λ i j a b at there le. absurd (none-some a at);
    to_latest = λ m n at. absurd (none-some n at);
    to_pair = λ u. absurd u;
    pending = λ u. absurd u;
    heeded = λ k d l. absurd (omega arith);
    pair_heeded = λ u. absurd u;
  }

  -- at any moment a read with a number is one of a board's cells
  pub timed_read_of : (p : WriterNotes T) (g : ReaderNotes T) (now shown pair : ℕ) (w : Stage) (r : ReaderStage) →
      IsTimed o p g now w r shown pair → length g.answers ≤ length g.times.begins → (m n : ℕ) → At g.numbers m n →
      IsReadOf (intervals p.times.begins p.times.ends) (intervals g.times.begins g.times.ends) m n
  timed_read_of p g now shown pair w r h enough m n at =
      let numbered : length g.numbers ≡ length g.answers = h.numbered in
      let ended : length g.times.ends ≡ length g.answers = h.ended_reads in
      let inside : m < length g.numbers = slice_get_within g.numbers m n at in
      let b = get_within g.times.begins m (let l : m < length g.times.begins = omega arith in l) in
      let e = get_within g.times.ends m (let l : m < length g.times.ends = omega arith in l) in
      read_of p.times.begins p.times.ends g.times.begins g.times.ends m n b.0 e.0 b.1 e.1 (h.late m n b.0 at b.1) (h.begun m n e.0 at e.1)

  begun_enough : (r : ReaderStage) (n : ℕ) → n ≤ begun_number r n
  begun_enough reader.R1 n = omega arith
  begun_enough reader.R2 n = omega arith
  begun_enough reader.R3 n = omega arith
  begun_enough reader.R4 n = omega arith
  begun_enough reader.R5 n = omega arith

  pub timed_at_any : (p : WriterNotes T) (g : ReaderNotes T) (now shown pair : ℕ) (w : Stage) (r : ReaderStage) →
      IsTimed o p g now w r shown pair → (m n : ℕ) → At g.numbers m n →
      IsReadOf (intervals p.times.begins p.times.ends) (intervals g.times.begins g.times.ends) m n
  timed_at_any p g now shown pair w r h = timed_read_of p g now shown pair w r h
      (let e : length g.times.begins ≡ begun_number r (length g.answers) = h.begun_reads in
      let l : length g.answers ≤ begun_number r (length g.answers) = begun_enough r (length g.answers) in
      omega arith)

  -- the last write may be under way
  ended_enough : (w : Stage) (n : ℕ) → (finished_number w n ≤ n) × (n ≤ finished_number w n + 1)
  ended_enough writer.W1 n = ((let x : n - 1 ≤ n = omega arith in x), (let x : n ≤ n - 1 + 1 = omega arith in x))
  ended_enough writer.W2 n = ((let x : n - 1 ≤ n = omega arith in x), (let x : n ≤ n - 1 + 1 = omega arith in x))
  ended_enough writer.W3 n = ((let x : n - 1 ≤ n = omega arith in x), (let x : n ≤ n - 1 + 1 = omega arith in x))
  ended_enough writer.W4 n = ((let x : n - 1 ≤ n = omega arith in x), (let x : n ≤ n - 1 + 1 = omega arith in x))
  ended_enough writer.W5 n = (le_refl n, (let x : n ≤ n + 1 = omega arith in x))

  writes_ended : (p : WriterNotes T) (g : ReaderNotes T) (now shown pair : ℕ) (w : Stage) (r : ReaderStage) →
      IsTimed o p g now w r shown pair → (length p.times.ends ≤ length p.written) × (length p.written ≤ length p.times.ends + 1)
  writes_ended p g now shown pair w r h =
      subst (λ (z : ℕ). (z ≤ length p.written) × (length p.written ≤ z + 1)) (sym h.ended_writes) (ended_enough w (length p.written))

  -- between two reads all answers are atomic with the writes made
  pub timed_atomic : (p : WriterNotes T) (g : ReaderNotes T) (now shown pair : ℕ) (w : Stage) →
      IsTimed o p g now w reader.R5 shown pair → AreAtomic o p.written p.times g.answers g.numbers g.times
  timed_atomic p g now shown pair w h = record {
    regular = record { source = h.source; read_of = timed_at_any p g now shown pair w reader.R5 h; numbered = h.numbered };
    rising = h.rising;
    writes_in_turn = h.put_turn;
    reads_in_turn = h.get_turn;
    writes_begun = h.begun_writes;
    writes_ended = writes_ended p g now shown pair w reader.R5 h;
    reads_counted = (h.begun_reads, h.ended_reads);
  }

  -- at the end, where the reader has begun one more read to give its slot back
  pub timed_ends : (p : WriterNotes T) (g : ReaderNotes T) (b : Bool) (t u i now shown pair : ℕ) →
      IsTimed o p (said_with (asked_by g b t) i u) now writer.W5 reader.R2 shown pair →
      AreAtomic o p.written p.times g.answers g.numbers g.times
  timed_ends p g b t u i now shown pair h =
      let begun : length (g.times.begins ++ t ∷ []) ≡ length g.answers + 1 = h.begun_reads in
      let one = length-append g.times.begins (t ∷ []) in
      let same : length g.times.begins ≡ length g.answers = omega arith in
      let numbered : length g.numbers ≡ length g.answers = h.numbered in
      let ended : length g.times.ends ≡ length g.answers = h.ended_reads in
      let longer : (k c : ℕ) → At g.times.begins k c → At (g.times.begins ++ t ∷ []) k c = get_before g.times.begins t in
      record {
        writes_begun = h.begun_writes;
        writes_ended = writes_ended p (said_with (asked_by g b t) i u) now shown pair writer.W5 reader.R2 h;
        reads_counted = (same, ended);
        writes_in_turn = h.put_turn;
        reads_in_turn = record {
          forwards = λ k c e at there. h.get_turn.forwards k c e (longer k c at) there;
          follows = λ k e c at there. h.get_turn.follows k e c at (longer (k + 1) c there);
        };
        regular = record {
          source = h.source;
          read_of = λ m n at.
              let inside : m < length g.numbers = slice_get_within g.numbers m n at in
              let c = get_within g.times.begins m (let l : m < length g.times.begins = omega arith in l) in
              let e = get_within g.times.ends m (let l : m < length g.times.ends = omega arith in l) in
              read_of p.times.begins p.times.ends g.times.begins g.times.ends m n c.0 e.0 c.1 e.1
              (h.late m n c.0 at (longer m c.0 c.1)) (h.begun m n e.0 at e.1);
          numbered = numbered;
        };
        rising = h.rising;
      }
