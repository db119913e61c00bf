-- The numbers of the records in the slots through each step: the slot that a pair's bit names never gets an older record, since W4 puts the
-- newest record there and a write under way has a slot that no bit names.
use Rattle.std.proofs.Common.{◌≡◌, ◌≢◌, ◌⊎◌, ℕ, ◌+◌, ◌-◌, ◌<◌, ◌≤◌, Bool, List, [], ◌∷◌, ◌++◌, length, take, sym, refl, ap, ◌∙◌, subst}
use Rattle.std.proofs.Common.{⊎_elim, inl, inr, arith, length-append, le_refl}
use mathlib.Core.Option.{some}
use lib.ListN.{get_elem?}
use lib.Seq.{take-append-le}
use Rattle.atomic_table.proofs.Lists.{at_longer, at_last}
use Rattle.four_slot_core.specs.declared.state.Slot.{Slot}
use Rattle.four_slot_core.specs.declared.state.State.{State as Core}
use Rattle.four_slot_core.specs.declared.state.Stage.{Stage}
use Rattle.four_slot_core.specs.declared.state.Stage.TheVariants as writer
use Rattle.four_slot_core.specs.declared.state.ReaderStage.TheVariants as reader
use Rattle.four_slot_core.specs.Events.{side, record_in, with_record, slot_with, after_write, after_read}
use Rattle.four_slot_core.specs.Invariant.{IsUnderWay, IsStored, IsAnnounced, IsFilled, HasSlot, latest_slot, IsSound}
use Rattle.four_slot_core.specs.Freshness.{IsBegun}
use Rattle.four_slot_core.proofs.events.TwoSides.{bit_cases, side_same, side_other, record_same, record_other}
use Rattle.cell_contract.specs.Running.{last_or, Settled, Rising, IsAnswer}
use Rattle.cell_four_slot.specs.Rule.{number_in, finished_number, named_slot, StandsBy, UpTo, IsNumbered, IsSettled, IsWriterShown}
use Rattle.cell_four_slot.proofs.Slots.{same_or_not, not_named, number_here, number_else, number_bound}
use Rattle.cell_four_slot.proofs.Clear.{free_slot, begun, read_on, same_opposite}
use Rattle.cell_contract.proofs.ListLaws.{settled_more, settled_at, last_by, all_each, rises_at, fits_at, take_more}

-- the stages of a write that a table shows
shown_cases : (z : Stage) → IsWriterShown z → (z ≡ writer.W3) ⊎ ((z ≡ writer.W4) ⊎ (z ≡ writer.W5))
shown_cases writer.W1 n = absurd n
shown_cases writer.W2 n = absurd n
shown_cases writer.W3 n = inl refl
shown_cases writer.W4 n = inr (inl refl)
shown_cases writer.W5 n = inr (inr refl)

module _ {T : Type 0} (o : T) where
  -- the slot of a write under way is none that a bit names
  pub free_unnamed : (c : Core T) (last : T) (q : Bool) → IsSound c last → named_slot c q ≢ free_slot c
  free_unnamed c last q sound = not_named c (free_slot c) q (same_opposite c last sound)

  -- W1 leaves the number of the record that is shown
  pub shown_same : (c : Core T) (js : List Slot) (last x : T) → IsSound c last →
      number_in (js ++ free_slot c ∷ []) (latest_slot (begun x c)) ≡ number_in js (latest_slot c)
  shown_same c js last x sound = number_else js (free_slot c) (latest_slot c) (free_unnamed c last c.latest sound)

  -- W1
  pub numbered_begins : (ws : List T) (js : List Slot) (c : Core T) (last x : T) → IsNumbered o ws js last c →
      IsSound c last → c.writer ≡ writer.W5
      → IsNumbered o (ws ++ x ∷ []) (js ++ free_slot c ∷ []) last (begun x c)
  numbered_begins ws js c last x h sound w =
      let k0 : Slot = free_slot c in
      let js' : List Slot = js ++ k0 ∷ [] in
      let ws' : List T = ws ++ x ∷ [] in
      let m = length-append js (k0 ∷ []) in let n = length-append ws (x ∷ []) in let same = h.counted in
      let was : get_elem? (o ∷ ws) (length ws) ≡ some last =
      subst (λ (z : Stage). get_elem? (o ∷ ws) (finished_number z (length ws)) ≡ some last) w h.finished in
      let back : length ws' - 1 ≡ length ws = omega arith in
      let there : length (o ∷ ws) ≡ length js + 1 = omega arith in
      record {
        counted = omega arith;
        under_way = λ _. omega arith;
        content = λ k. ⊎_elim
            (λ (e : k ≡ k0). ap (λ (j : Slot). get_elem? (o ∷ ws') (number_in js' j)) e
            ∙ (ap (get_elem? (o ∷ ws')) (number_here js k0) ∙ (at_last (o ∷ ws) x (length js + 1) there ∙ (ap some
            (sym (record_same c.records k0 x)) ∙ ap (λ (j : Slot). some (record_in (with_record c.records k0 x) j)) (sym e)))))
            (λ (ne : k ≢ k0). ap (get_elem? (o ∷ ws')) (number_else js k0 k ne) ∙ (at_longer (o ∷ ws) (x ∷ []) (number_in js k)
            (record_in c.records k) (h.content k) ∙ ap some (sym (record_other c.records k0 k x ne))))
            (same_or_not k k0);
        newest = let e = number_here js k0 in omega arith;
        older = λ k ne _. let e = number_else js k0 k ne in let b = number_bound js k in omega arith;
        finished = ap (get_elem? (o ∷ ws')) back ∙ at_longer (o ∷ ws) (x ∷ []) (length ws) last was;
        latest = λ _. number_else js k0 (latest_slot c) (free_unnamed c last c.latest sound)
            ∙ (h.latest (λ z. absurd (subst IsStored w z)) ∙ (ap (λ (z : Stage). finished_number z (length ws)) w ∙ sym back));
      }

  -- W4
  pub numbered_stores : (ws : List T) (js : List Slot) (c : Core T) (last x : T) → IsNumbered o ws js last c → c.writer ≡ writer.W3 →
      IsNumbered o ws js last (after_write writer.W3 x c)
  numbered_stores ws js c last x h w = record {
    counted = h.counted;
    under_way = λ _. h.under_way (subst IsUnderWay (sym w) tt);
    content = h.content;
    newest = h.newest;
    older = h.older;
    finished = subst (λ (z : Stage). get_elem? (o ∷ ws) (finished_number z (length ws)) ≡ some last) w h.finished;
    latest = λ ne.
        ap (λ (b : Bool). number_in js (slot_with c.latest b)) (side_other c.slot c.latest c.write.pair c.write.index (λ e. ne tt (sym e)))
        ∙ (h.latest (λ z. absurd (subst IsStored w z)) ∙ ap (λ (z : Stage). finished_number z (length ws)) w);
  }

  -- from W4 to W5 the writer's slot is the one that its pair's bit names
  named_written : (c : Core T) (last : T) → IsSound c last → c.writer ≡ writer.W4 → named_slot c c.write.pair ≡ c.write
  named_written c last sound w = ap (slot_with c.write.pair) (sym (sound.stored (subst IsStored (sym w) tt)))

  -- W5
  pub numbered_finishes : (ws : List T) (js : List Slot) (c : Core T) (last x : T) → IsNumbered o ws js last c → IsSound c last →
      c.writer ≡ writer.W4 → IsNumbered o ws js c.item (after_write writer.W4 x c)
  numbered_finishes ws js c last x h sound w = record {
    counted = h.counted;
    under_way = λ n. absurd n;
    content = h.content;
    newest = h.newest;
    older = h.older;
    finished = ap (get_elem? (o ∷ ws)) (sym h.newest) ∙ (h.content c.write ∙ ap some (sound.filled (subst IsFilled (sym w) tt)));
    latest = λ _. ap (number_in js) (named_written c last sound w) ∙ h.newest;
  }

  -- the reader's events leave the numbers
  pub numbered_read : (ws : List T) (js : List Slot) (c d : Core T) (last : T) → d.writer ≡ c.writer → d.write ≡ c.write →
      d.records ≡ c.records → d.latest ≡ c.latest → d.slot ≡ c.slot → IsNumbered o ws js last c → IsNumbered o ws js last d
  numbered_read ws js c d last a b e f g h = record {
    counted = h.counted;
    under_way = λ u. h.under_way (subst IsUnderWay a u);
    content = λ k. h.content k ∙ ap (λ z. some (record_in z k)) (sym e);
    newest = ap (number_in js) b ∙ h.newest;
    older = λ k ne. h.older k (λ z. ne (z ∙ sym b));
    finished = subst (λ (z : Stage). get_elem? (o ∷ ws) (finished_number z (length ws)) ≡ some last) (sym a) h.finished;
    latest = λ ne. (λ i. number_in js (slot_with (f i) (side (g i) (f i))))
        ∙ (h.latest (λ st z. ne (subst IsStored (sym a) st) (ap (λ (k : Slot). k.pair) b ∙ (z ∙ sym f)))
        ∙ ap (λ (z : Stage). finished_number z (length ws)) (sym a));
  }

  pub stands_more : (ws : List T) (n m : ℕ) → n ≤ m → (x : T) → StandsBy n (o ∷ ws) x → StandsBy m (o ∷ ws) x
  stands_more ws n m l x s = let k = s.0 in let b = s.1 in (k, omega arith, s.2)

  pub stands_longer : (ws more : List T) (n : ℕ) (x : T) → StandsBy n (o ∷ ws) x → StandsBy n (o ∷ ws ++ more) x
  stands_longer ws more n x s = (s.0, s.1, at_longer (o ∷ ws) more s.0 x s.2)

  pub up_to_more : (ws xs hs : List T) (n m : ℕ) → n ≤ m → UpTo o ws xs hs n → UpTo o ws xs hs m
  up_to_more ws xs hs n m l u = let t = take_more n m ws l in (
    subst (λ (zs : List T). Settled (o ∷ zs) xs) (sym t.1) (settled_more (o ∷ take n ws) t.0 xs u.0),
    all_each (StandsBy n (o ∷ ws)) (StandsBy m (o ∷ ws)) (stands_more ws n m l) hs u.1,
  )

  up_to_longer : (ws xs hs : List T) (x : T) (n : ℕ) → n ≤ length ws → UpTo o ws xs hs n → UpTo o (ws ++ x ∷ []) xs hs n
  up_to_longer ws xs hs x n l u = (
    subst (λ (zs : List T). Settled (o ∷ zs) xs) (sym (take-append-le n ws (x ∷ []) l)) u.0,
    all_each (StandsBy n (o ∷ ws)) (StandsBy n (o ∷ ws ++ x ∷ [])) (stands_longer ws (x ∷ []) n) hs u.1,
  )

  -- W1
  pub settled_begins : (ws : List T) (js : List Slot) (xs hs : List T) (c : Core T) (last x : T) → IsNumbered o ws js last c →
      IsSound c last → IsSettled o ws js xs hs c
      → IsSettled o (ws ++ x ∷ []) (js ++ free_slot c ∷ []) xs hs (begun x c)
  settled_begins ws js xs hs c last x h sound s = let k0 : Slot = free_slot c in let same = h.counted in
      let longer : (q : Bool) → UpTo o ws xs hs (number_in js (named_slot c q)) →
      UpTo o (ws ++ x ∷ []) xs hs (number_in (js ++ k0 ∷ []) (named_slot c q)) =
      λ q u. let b = number_bound js (named_slot c q) in
      subst (UpTo o (ws ++ x ∷ []) xs hs) (sym (number_else js k0 (named_slot c q) (free_unnamed c last q sound)))
      (up_to_longer ws xs hs x (number_in js (named_slot c q)) (omega arith) u) in
      record { to_latest = longer c.latest s.to_latest; to_pair = λ b. longer c.read.pair (s.to_pair b) }

  -- W4: the slot that the writer's pair names is the newest, and the other pair names what it did
  pub number_grows : (ws : List T) (js : List Slot) (c : Core T) (last x : T) (q : Bool) → IsNumbered o ws js last c →
      number_in js (named_slot c q) ≤ number_in js (named_slot (after_write writer.W3 x c) q)
  number_grows ws js c last x q h =
      let low = number_bound js (named_slot c q) in
      let same = h.counted in
      let d : Core T = after_write writer.W3 x c in
      ⊎_elim
      (λ (e : q ≡ c.write.pair).
      let there : number_in js (named_slot d q) ≡ length ws =
      ap (λ (z : Bool). number_in js (named_slot d z)) e
      ∙ (ap (λ (z : Bool). number_in js (slot_with c.write.pair z)) (side_same c.slot c.write.pair c.write.index) ∙ h.newest) in
      omega arith)
      (λ (ne : q ≢ c.write.pair).
      let e : number_in js (named_slot d q) ≡ number_in js (named_slot c q) =
      ap (λ (z : Bool). number_in js (slot_with q z)) (side_other c.slot q c.write.pair c.write.index ne) in
      omega arith)
      (bit_cases q c.write.pair)

  pub latest_grows : (ws : List T) (js : List Slot) (c : Core T) (last x : T) → IsNumbered o ws js last c →
      number_in js (latest_slot c) ≤ number_in js (latest_slot (after_write writer.W3 x c))
  latest_grows ws js c last x h = number_grows ws js c last x c.latest h

  pub settled_stores : (ws : List T) (js : List Slot) (xs hs : List T) (c : Core T) (last x : T) → IsNumbered o ws js last c →
      IsSettled o ws js xs hs c → IsSettled o ws js xs hs (after_write writer.W3 x c)
  settled_stores ws js xs hs c last x h s = record {
    to_latest = up_to_more ws xs hs _ _ (number_grows ws js c last x c.latest h) s.to_latest;
    to_pair = λ b. up_to_more ws xs hs _ _ (number_grows ws js c last x c.read.pair h) (s.to_pair b);
  }

  -- W5: the pair that is shown from now on names the newest slot
  pub shown_grows : (ws : List T) (js : List Slot) (c : Core T) (last x : T) → IsNumbered o ws js last c → IsSound c last →
      c.writer ≡ writer.W4 → number_in js (latest_slot c) ≤ number_in js (latest_slot (after_write writer.W4 x c))
  shown_grows ws js c last x h sound w = let low = number_bound js (latest_slot c) in let same = h.counted in
      let e : number_in js (latest_slot (after_write writer.W4 x c)) ≡ length ws =
      ap (number_in js) (named_written c last sound w) ∙ h.newest in
      omega arith

  pub settled_finishes : (ws : List T) (js : List Slot) (xs hs : List T) (c : Core T) (last x : T) → IsNumbered o ws js last c →
      IsSound c last → c.writer ≡ writer.W4 → IsSettled o ws js xs hs c → IsSettled o ws js xs hs (after_write writer.W4 x c)
  settled_finishes ws js xs hs c last x h sound w s = record {
    to_latest = up_to_more ws xs hs _ _ (shown_grows ws js c last x h sound w) s.to_latest;
    to_pair = s.to_pair;
  }

  -- the record that is shown is no older than the last finished write
  pub finished_shown : (ws : List T) (js : List Slot) (c : Core T) (last : T) → IsNumbered o ws js last c → IsSound c last →
      IsWriterShown c.writer → finished_number c.writer (length ws) ≤ number_in js (latest_slot c)
  finished_shown ws js c last h sound shown =
      let plain : (IsStored c.writer → c.write.pair ≢ c.latest) → finished_number c.writer (length ws) ≤ number_in js (latest_slot c) =
      λ u. let e : number_in js (latest_slot c) ≡ finished_number c.writer (length ws) = h.latest u in omega arith in
      ⊎_elim
      (λ (w : c.writer ≡ writer.W3). plain (λ z. absurd (subst IsStored w z)))
      (λ (t : (c.writer ≡ writer.W4) ⊎ (c.writer ≡ writer.W5)). ⊎_elim
      (λ (w : c.writer ≡ writer.W4). ⊎_elim
      (λ (e : c.write.pair ≡ c.latest).
      let l : number_in js (latest_slot c) ≡ length ws =
      ap (λ (z : Bool). number_in js (named_slot c z)) (sym e) ∙ (ap (number_in js) (named_written c last sound w) ∙ h.newest) in
      let f : finished_number c.writer (length ws) ≡ length ws - 1 = ap (λ (z : Stage). finished_number z (length ws)) w in
      omega arith)
      (λ (ne : c.write.pair ≢ c.latest). plain (λ _. ne))
      (bit_cases c.write.pair c.latest))
      (λ (w : c.writer ≡ writer.W5). plain (λ z. absurd (subst IsStored w z)))
      t)
      (shown_cases c.writer shown)

  -- R1
  pub settled_asks : (ws : List T) (js : List Slot) (xs hs : List T) (c : Core T) → IsSettled o ws js xs hs c →
      IsSettled o ws js xs hs (after_read reader.R5 c)
  settled_asks ws js xs hs c s = record { to_latest = s.to_latest; to_pair = λ _. s.to_latest }

  -- R2
  pub settled_says : (ws : List T) (js : List Slot) (xs hs : List T) (c : Core T) → c.reader ≡ reader.R1 → IsSettled o ws js xs hs c →
      IsSettled o ws js xs hs (after_read reader.R1 c)
  settled_says ws js xs hs c r s = record { to_latest = s.to_latest; to_pair = λ _. s.to_pair (subst IsBegun (sym r) tt) }

  -- R3: the slot of the reader's pair isn't newer than the one that `latest` names. While a write is under way in a pair that
  -- isn't shown, the reader's pair is the one that is shown.
  pub number_below : (ws : List T) (js : List Slot) (c : Core T) (last : T) → IsNumbered o ws js last c → IsSound c last →
      IsWriterShown c.writer → c.reader ≡ reader.R2
      → number_in js (named_slot c c.read.pair) ≤ number_in js (latest_slot c)
  number_below ws js c last h sound shown r =
      let q : Bool = c.read.pair in
      let same = h.counted in
      let low = number_bound js (named_slot c q) in
      ⊎_elim
      (λ (e : q ≡ c.latest).
      let x : number_in js (named_slot c q) ≡ number_in js (latest_slot c) = ap (λ (z : Bool). number_in js (named_slot c z)) e in
      omega arith)
      (λ (apart : q ≢ c.latest).
      let here : c.reading ≡ q = sound.announced (subst IsAnnounced (sym r) tt) in
      let in_latest : IsUnderWay c.writer → c.write.pair ≢ c.latest → ⊥ = λ u ne. apart (sym here ∙ sound.followed u ne) in
      let older : IsUnderWay c.writer → (named_slot c q ≢ c.write) → number_in js (named_slot c q) < length ws =
      λ u ne. h.older (named_slot c q) ne (h.under_way u) in
      ⊎_elim
      (λ (w : c.writer ≡ writer.W3).
      let u : IsUnderWay c.writer = subst IsUnderWay (sym w) tt in
      let lt = older u (not_named c c.write q (sound.opposite (subst HasSlot (sym w) tt))) in
      let l : number_in js (latest_slot c) ≡ length ws - 1 =
      h.latest (λ z. absurd (subst IsStored w z)) ∙ ap (λ (z : Stage). finished_number z (length ws)) w in
      omega arith)
      (λ (t : (c.writer ≡ writer.W4) ⊎ (c.writer ≡ writer.W5)). ⊎_elim
      (λ (w : c.writer ≡ writer.W4).
      let u : IsUnderWay c.writer = subst IsUnderWay (sym w) tt in
      ⊎_elim
      (λ (e : c.write.pair ≡ c.latest).
      let l : number_in js (latest_slot c) ≡ length ws =
      ap (λ (z : Bool). number_in js (named_slot c z)) (sym e) ∙ (ap (number_in js) (named_written c last sound w) ∙ h.newest) in
      omega arith)
      (λ (ne : c.write.pair ≢ c.latest). absurd (in_latest u ne))
      (bit_cases c.write.pair c.latest))
      (λ (w : c.writer ≡ writer.W5).
      let l : number_in js (latest_slot c) ≡ length ws =
      h.latest (λ z. absurd (subst IsStored w z)) ∙ ap (λ (z : Stage). finished_number z (length ws)) w in
      omega arith)
      t)
      (shown_cases c.writer shown))
      (bit_cases q c.latest)

  pub settled_reads : (ws : List T) (js : List Slot) (xs hs : List T) (c : Core T) (last : T) → IsNumbered o ws js last c → IsSound c last →
      IsWriterShown c.writer → c.reader ≡ reader.R2 → IsSettled o ws js xs hs c
      → IsSettled o ws js (xs ++ record_in c.records (named_slot c c.read.pair) ∷ []) hs (read_on c)
  settled_reads ws js xs hs c last h sound shown r s =
      let k0 : Slot = named_slot c c.read.pair in
      let n : ℕ = number_in js k0 in
      let x : T = record_in c.records k0 in
      let u : UpTo o ws xs hs n = s.to_pair (subst IsBegun (sym r) tt) in record {
        to_latest = up_to_more ws (xs ++ x ∷ []) hs n _ (number_below ws js c last h sound shown r)
            (settled_at o ws xs n n x u.0 (le_refl n) (h.content k0), u.1);
        to_pair = λ b. absurd b;
      }

  module _ (fits : T → Type 0) (rises : T → T → Type 0) (same : (a : T) → rises a a)
      (along : (a b c : T) → rises a b → rises b c → rises a c) where
    -- a record at the place n is an answer, where all that was answered or told stands no later
    pub answers_at : (ws xs hs : List T) (n : ℕ) (x : T) → fits o × Rising fits rises o ws → UpTo o ws xs hs n →
        get_elem? (o ∷ ws) n ≡ some x → IsAnswer fits rises o xs hs x
    answers_at ws xs hs n x law u e = let b = last_by o ws xs n u.0 in let bl = b.1 in (
      fits_at fits rises same along o ws n x law.0 law.1 e,
      rises_at fits rises same along o ws 0 n o x law.1 (omega arith) refl e,
      rises_at fits rises same along o ws b.0 n (last_or o xs) x law.1 (omega arith) b.2 e,
      all_each (StandsBy n (o ∷ ws)) (λ y. rises y x) (λ y st.
          let k = st.0 in
          let kl = st.1 in
          rises_at fits rises same along o ws k n y x law.1 (omega arith) st.2 e) hs u.1,
    )
