-- The intervals of the calls and the numbers of the answers through each step, at a time later than all before. A write is one step, and
-- the step that decides a read finds the record written last.
use Rattle.std.proofs.Common.{◌≡◌, ℕ, ◌+◌, ◌<◌, ◌≤◌, max, [], ◌∷◌, ◌++◌, length, slice_get, Some, refl, sym, ◌∙◌, arith}
use Rattle.std.proofs.Common.{length-append, le_refl}
use native.Mathlib.Nat.{le-max_left, max-le}
use Rattle.std.proofs.lemmas.Option.{slice_get_within, none-some}
use Rattle.four_slot_core.proofs.Pushed.{get_before, get_within}
use Rattle.cell_contract.specs.Intervals.{At, begun_at, ended_at, known_as, AreAtomic, IsHeeded}
use Rattle.history_core.specs.Registers.{intervals, IsReadOf}
use Rattle.cell_contract.specs.declared.times.Dated.{Dated}
use Rattle.cell_contract.specs.declared.times.Known.{Known}
use Rattle.cell_triple.specs.declared.notes.WriterNotes.{WriterNotes}
use Rattle.cell_triple.specs.declared.notes.ReaderNotes.{ReaderNotes}
use Rattle.cell_triple.specs.Rule.{IsTimed}
use Rattle.cell_triple.specs.Steps.{published, looked_by, asked_by, fetched, answered, heard_by, first_writer, first_reader}
use Rattle.cell_contract.proofs.Timing.{late_ended, begun_longer, turn_begun, turn_ended, within_pushed}
use Rattle.cell_contract.proofs.Timing.{by_passed, by_begun, by_ended, read_of}
use Rattle.cell_contract.proofs.Timing.{heeded_begun, heeded_ended, each_heeded, one_heeded}
use Rattle.cell_contract.proofs.Timing.{late_asked, late_more, begun_more, most_more, rising_more, source_more}

module _ {T : Type 0} (o : T) where
  -- the write
  pub timed_puts : (p : WriterNotes T) (g : ReaderNotes T) (now t slot : ℕ) (x : T) → now < t → IsTimed o p g now →
      IsTimed o (published p slot x t) g t
  timed_puts p g now t slot x lt h =
      let mine : p.times.clock ≤ now = h.put_clock in
      let theirs : g.times.clock ≤ now = h.get_clock in
      let begun : length p.times.begins ≡ length p.written = h.begun_writes in
      let ended : length p.times.ends ≡ length p.written = h.ended_writes in
      let one = length-append p.times.begins (t ∷ []) in
      let two = length-append p.times.ends (t ∷ []) in
      let three = length-append p.written (x ∷ []) in
      let on : p.times.clock ≤ t = omega arith in
      let before : (m b : ℕ) → At g.times.begins m b → b ≤ t =
      λ m b at. let l : b ≤ g.times.clock = h.get_by.begun m b at in omega arith in
      record {
        put_clock = le_refl t;
        get_clock = let l : g.times.clock ≤ t = omega arith in l;
        put_by = by_ended (begun_at p.times t) t (le_refl t) (by_begun p.times t on h.put_by);
        get_by = h.get_by;
        put_turn = turn_ended (p.times.begins ++ t ∷ []) p.times.ends t t
            (let e : length (p.times.begins ++ t ∷ []) ≡ length p.times.ends + 1 = omega arith in e)
            (within_pushed p.times.begins p.times.clock t on h.put_by.begun) (le_refl t)
            (turn_begun p.times.begins p.times.ends p.times.clock t (begun ∙ sym ended) h.put_by.ended
            (let l : p.times.clock < t = omega arith in l) h.put_turn);
        get_turn = h.get_turn;
        begun_writes = let e : length (p.times.begins ++ t ∷ []) ≡ length (p.written ++ x ∷ []) = omega arith in e;
        ended_writes = let e : length (p.times.ends ++ t ∷ []) ≡ length (p.written ++ x ∷ []) = omega arith in e;
        begun_reads = h.begun_reads;
        ended_reads = h.ended_reads;
        numbered = h.numbered;
        source = λ m n y at here. get_before (o ∷ p.written) x n y (h.source m n y at here);
        late = λ m n b at there. late_ended p.times.ends b n t (before m b there) (h.late m n b at there);
        begun = λ m n e at there. begun_longer p.times.begins e n t (h.begun m n e at there);
        rising = h.rising;
        to_last = λ m n at. let l : n ≤ length p.written = h.to_last m n at in
            let z : n ≤ length (p.written ++ x ∷ []) = omega arith in z;
        heeded =
            let m : ℕ = length (p.written ++ x ∷ []) in
            let grows : length p.written ≤ m = omega arith in
            each_heeded (known_as p.written p.times) (known_as (p.written ++ x ∷ []) (ended_at (begun_at p.times t) t)) (length p.written) m
            (λ z k. heeded_ended z (p.written ++ x ∷ []) (begun_at p.times t) t m m (le_refl m)
            (heeded_begun z p.written p.times x t (length p.written) m grows k)) g.heard h.heeded;
      }

  -- the reader's load changes no times by itself, and no more does what it found
  pub timed_looks : (p : WriterNotes T) (g : ReaderNotes T) (now found : ℕ) → IsTimed o p g now →
      IsTimed o p (looked_by g found) now
  timed_looks p g now found h = record {
    put_clock = h.put_clock;
    get_clock = h.get_clock;
    put_by = h.put_by;
    get_by = h.get_by;
    put_turn = h.put_turn;
    get_turn = h.get_turn;
    begun_writes = h.begun_writes;
    ended_writes = h.ended_writes;
    begun_reads = h.begun_reads;
    ended_reads = h.ended_reads;
    numbered = h.numbered;
    source = h.source;
    late = h.late;
    begun = h.begun;
    rising = h.rising;
    to_last = h.to_last;
    heeded = h.heeded;
  }

  pub timed_asks : (p : WriterNotes T) (g : ReaderNotes T) (now found : ℕ) → IsTimed o p g now →
      IsTimed o p (asked_by g found) now
  timed_asks p g now found h = record {
    put_clock = h.put_clock;
    get_clock = h.get_clock;
    put_by = h.put_by;
    get_by = h.get_by;
    put_turn = h.put_turn;
    get_turn = h.get_turn;
    begun_writes = h.begun_writes;
    ended_writes = h.ended_writes;
    begun_reads = h.begun_reads;
    ended_reads = h.ended_reads;
    numbered = h.numbered;
    source = h.source;
    late = h.late;
    begun = h.begun;
    rising = h.rising;
    to_last = h.to_last;
    heeded = h.heeded;
  }

  -- the reader's swap takes a slot
  pub timed_fetched : (p : WriterNotes T) (g : ReaderNotes T) (now slot : ℕ) (y : T) → IsTimed o p g now →
      IsTimed o p (fetched g slot y) now
  timed_fetched p g now slot y h = record {
    put_clock = h.put_clock;
    get_clock = h.get_clock;
    put_by = h.put_by;
    get_by = h.get_by;
    put_turn = h.put_turn;
    get_turn = h.get_turn;
    begun_writes = h.begun_writes;
    ended_writes = h.ended_writes;
    begun_reads = h.begun_reads;
    ended_reads = h.ended_reads;
    numbered = h.numbered;
    source = h.source;
    late = h.late;
    begun = h.begun;
    rising = h.rising;
    to_last = h.to_last;
    heeded = h.heeded;
  }

  -- the step that decides a read is the whole read, and its answer is the record written last
  pub timed_answers : (p : WriterNotes T) (g : ReaderNotes T) (now t : ℕ) (x : T) (writes : Known T) → now < t →
      slice_get (o ∷ p.written) (length p.written) ≡ Some x → IsTimed o p g now →
      IsTimed o p (answered g x t (length p.written) writes) t
  timed_answers p g now t x writes lt here h =
      let mine : g.times.clock ≤ now = h.get_clock in
      let theirs : p.times.clock ≤ now = h.put_clock in
      let begun : length g.times.begins ≡ length g.answers = h.begun_reads in
      let ended : length g.times.ends ≡ length g.answers = h.ended_reads in
      let numbered : length g.numbers ≡ length g.answers = h.numbered in
      let opened : length p.times.begins ≡ length p.written = h.begun_writes in
      let closed : length p.times.ends ≡ length p.written = h.ended_writes in
      let n : ℕ = length p.written in
      let on : g.times.clock ≤ t = omega arith in
      let zero_th = length-append g.times.begins (t ∷ []) in
      let one = length-append g.times.ends (t ∷ []) in
      let two = length-append g.answers (x ∷ []) in
      let three = length-append g.numbers (n ∷ []) in
      record {
        put_clock = let l : p.times.clock ≤ t = omega arith in l;
        get_clock = le_refl t;
        put_by = h.put_by;
        get_by = by_ended (begun_at g.times t) t (le_refl t) (by_begun g.times t on h.get_by);
        put_turn = h.put_turn;
        get_turn = turn_ended (g.times.begins ++ t ∷ []) g.times.ends t t
            (let e : length (g.times.begins ++ t ∷ []) ≡ length g.times.ends + 1 = omega arith in e)
            (within_pushed g.times.begins g.times.clock t on h.get_by.begun) (le_refl t)
            (turn_begun g.times.begins g.times.ends g.times.clock t (begun ∙ sym ended) h.get_by.ended
            (let l : g.times.clock < t = omega arith in l) h.get_turn);
        begun_writes = h.begun_writes;
        ended_writes = h.ended_writes;
        begun_reads = let e : length (g.times.begins ++ t ∷ []) ≡ length (g.answers ++ x ∷ []) = omega arith in e;
        ended_reads = let e : length (g.times.ends ++ t ∷ []) ≡ length (g.answers ++ x ∷ []) = omega arith in e;
        numbered = let e : length (g.numbers ++ n ∷ []) ≡ length (g.answers ++ x ∷ []) = omega arith in e;
        source = source_more o p.written g.answers g.numbers n x numbered here h.source;
        late = late_more g.numbers (g.times.begins ++ t ∷ []) p.times.ends n
            (late_asked g.numbers g.times.begins p.times.ends t (let l : length g.numbers ≤ length g.times.begins = omega arith in
            l) h.late)
            (λ b at k e there before.
            let l : k < length p.times.ends = slice_get_within p.times.ends k e there in
            let z : k < n = omega arith in
            z);
        begun = begun_more g.numbers p.times.begins g.times.ends n t (numbered ∙ sym ended) h.begun (λ k is.
            let f = get_within p.times.begins k (let l : k < length p.times.begins = omega arith in l) in
            (f.0, f.1, (let l : f.0 ≤ p.times.clock = h.put_by.begun k f.0 f.1 in let z : f.0 < t = omega arith in z)));
        rising = rising_more g.numbers n h.to_last h.rising;
        to_last = most_more g.numbers n n (le_refl n) h.to_last;
        heeded = h.heeded;
      }

  -- a receipt is taken in
  pub timed_hears : (p : WriterNotes T) (g : ReaderNotes T) (now : ℕ) (x : Dated T) → x.time ≤ now →
      IsHeeded x.writes (known_as p.written p.times) (length p.written) → IsTimed o p g now → IsTimed o p (heard_by g x) now
  timed_hears p g now x before told h = record {
    put_clock = h.put_clock;
    get_clock = max-le h.get_clock before;
    put_by = h.put_by;
    get_by = by_passed g.times (max g.times.clock x.time) (le-max_left g.times.clock x.time) h.get_by;
    put_turn = h.put_turn;
    get_turn = h.get_turn;
    begun_writes = h.begun_writes;
    ended_writes = h.ended_writes;
    begun_reads = h.begun_reads;
    ended_reads = h.ended_reads;
    numbered = h.numbered;
    source = h.source;
    late = h.late;
    begun = h.begun;
    rising = h.rising;
    to_last = h.to_last;
    heeded = one_heeded (known_as p.written p.times) (length p.written) g.heard x.writes h.heeded told;
  }

  -- a first slot is taken, before any call
  pub timed_put_taken : (p : WriterNotes T) (g : ReaderNotes T) (now : ℕ) → IsTimed o p g now → IsTimed o (record p { has = 1 }) g now
  timed_put_taken p g now h = record {
    put_clock = h.put_clock;
    get_clock = h.get_clock;
    put_by = h.put_by;
    get_by = h.get_by;
    put_turn = h.put_turn;
    get_turn = h.get_turn;
    begun_writes = h.begun_writes;
    ended_writes = h.ended_writes;
    begun_reads = h.begun_reads;
    ended_reads = h.ended_reads;
    numbered = h.numbered;
    source = h.source;
    late = h.late;
    begun = h.begun;
    rising = h.rising;
    to_last = h.to_last;
    heeded = h.heeded;
  }

  pub timed_get_taken : (p : WriterNotes T) (g : ReaderNotes T) (now : ℕ) → IsTimed o p g now → IsTimed o p (record g { has = 1 }) now
  timed_get_taken p g now h = record {
    put_clock = h.put_clock;
    get_clock = h.get_clock;
    put_by = h.put_by;
    get_by = h.get_by;
    put_turn = h.put_turn;
    get_turn = h.get_turn;
    begun_writes = h.begun_writes;
    ended_writes = h.ended_writes;
    begun_reads = h.begun_reads;
    ended_reads = h.ended_reads;
    numbered = h.numbered;
    source = h.source;
    late = h.late;
    begun = h.begun;
    rising = h.rising;
    to_last = h.to_last;
    heeded = h.heeded;
  }

  -- at the start there are no calls
  pub timed_starts : IsTimed o (first_writer o) (first_reader o) 0
  timed_starts = record {
    put_clock = le_refl 0;
    get_clock = le_refl 0;
    put_by = record { begun = λ k t at. absurd (none-some t at); ended = λ k t at. absurd (none-some t at) };
    get_by = record { begun = λ k t at. absurd (none-some t at); ended = λ k t at. absurd (none-some t at) };
    put_turn = record { forwards = λ k b e at there. absurd (none-some b at); follows = λ k e b at there. absurd (none-some e at) };
    get_turn = record { forwards = λ k b e at there. absurd (none-some b at); follows = λ k e b at there. absurd (none-some e at) };
    begun_writes = refl;
    ended_writes = refl;
    begun_reads = refl;
    ended_reads = refl;
    numbered = refl;
    source = λ m n x at there. absurd (none-some n at);
    late = λ m n b at there. absurd (none-some n at);
    begun = λ m n e at there. absurd (none-some n at);
    rising = λ i j a b at there le. absurd (none-some a at);
    to_last = λ m n at. absurd (none-some n at);
    heeded = λ k d l. absurd (omega arith);
  }

  -- at any moment a read with a number has what is known of it
  pub timed_read_of : (p : WriterNotes T) (g : ReaderNotes T) (now : ℕ) → IsTimed o p g now → (m n : ℕ) → At g.numbers m n →
      IsReadOf (intervals p.times.begins p.times.ends) (intervals g.times.begins g.times.ends) m n
  timed_read_of p g now h m n at =
      let numbered : length g.numbers ≡ length g.answers = h.numbered in
      let begun : length g.times.begins ≡ length g.answers = h.begun_reads in
      let ended : length g.times.ends ≡ length g.answers = h.ended_reads in
      let inside : m < length g.numbers = slice_get_within g.numbers m n at in
      let b = get_within g.times.begins m (let l : m < length g.times.begins = omega arith in l) in
      let e = get_within g.times.ends m (let l : m < length g.times.ends = omega arith in l) in
      read_of p.times.begins p.times.ends g.times.begins g.times.ends m n b.0 e.0 b.1 e.1 (h.late m n b.0 at b.1) (h.begun m n e.0 at e.1)

  -- at any moment all answers are atomic with the writes made
  pub timed_atomic : (p : WriterNotes T) (g : ReaderNotes T) (now : ℕ) → IsTimed o p g now →
      AreAtomic o p.written p.times g.answers g.numbers g.times
  timed_atomic p g now h =
      let ended : length p.times.ends ≡ length p.written = h.ended_writes in
      record {
        regular = record { source = h.source; read_of = timed_read_of p g now h; numbered = h.numbered };
        rising = h.rising;
        writes_in_turn = h.put_turn;
        reads_in_turn = h.get_turn;
        writes_begun = h.begun_writes;
        writes_ended = (
          (let l : length p.times.ends ≤ length p.written = omega arith in l),
          (let l : length p.written ≤ length p.times.ends + 1 = omega arith in l),
        );
        reads_counted = (h.begun_reads, h.ended_reads);
      }
