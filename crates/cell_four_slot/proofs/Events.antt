-- The passes' lists of events lead to the state shown: a step adds its events at the end of one list, and the state after it is the state
-- before with these events made.
use Rattle.std.proofs.Common.{◌≤◌, ◌≡◌, ◌≢◌, ⊎_elim, ℕ, ◌+◌, arith, Bool, false, ◌&&◌, if◌then◌else◌, List, [], ◌∷◌, ◌++◌, sym, refl, ap}
use Rattle.std.proofs.Common.{subst}
use Rattle.std.proofs.lemmas.Bool.{cases_eq}
use Rattle.four_slot_core.specs.declared.state.State.{State as Core}
use Rattle.four_slot_core.specs.declared.state.Stage.{Stage}
use Rattle.four_slot_core.specs.declared.state.Stage.TheVariants as writer
use Rattle.four_slot_core.specs.declared.state.ReaderStage.{ReaderStage}
use Rattle.four_slot_core.specs.declared.state.ReaderStage.TheVariants as reader
use Rattle.four_slot_core.specs.declared.state.ReadStage.TheVariants as told
use Rattle.four_slot_core.specs.declared.event.WriteEvent.{WriteEvent}
use Rattle.four_slot_core.specs.declared.event.WriteEvent.TheVariants.{W1, W2, W3, W4, W5}
use Rattle.four_slot_core.specs.declared.event.ReadEvent.{ReadEvent}
use Rattle.four_slot_core.specs.declared.event.ReadEvent.TheVariants.{R1, R2, R3, R4, R5}
use Rattle.four_slot_core.specs.Events.{record_in, same_slot, is_writing, next_write, next_read, after_write, after_read, answer}
use Rattle.four_slot_core.specs.Interleaving.{Leads}
use Rattle.four_slot_core.specs.Invariant.{IsSound, IsSoundAt}
use Rattle.four_slot_core.proofs.events.Interleaved.{then_writes, then_reads}
use Rattle.four_slot_core.proofs.events.Keeping.{keep_write, keep_read}
use Rattle.cell_contract.specs.Running.{snap}
use Rattle.cell_four_slot.specs.Rule.{IsWriterShown, named_slot, control_writes, control_reads}
use Rattle.cell_four_slot.proofs.Clear.{begun, read_on}

snoc_three : {A : Type 0} (xs : List A) (a b c : A) → ((xs ++ a ∷ []) ++ b ∷ []) ++ c ∷ [] ≡ xs ++ a ∷ b ∷ c ∷ []
snoc_three [] a b c = refl
snoc_three (x ∷ xs) a b c = ap (λ ys. x ∷ ys) (snoc_three xs a b c)

not_writing : (z : Stage) → IsWriterShown z → is_writing z ≡ false
not_writing writer.W1 n = absurd n
not_writing writer.W2 n = absurd n
not_writing writer.W3 n = refl
not_writing writer.W4 n = refl
not_writing writer.W5 n = refl

module _ {T : Type 0} where
  pub leads_begins : (ws : List (WriteEvent T)) (rs : List (ReadEvent T)) (s c : Core T) (x : T) → Leads ws rs s c → c.writer ≡ writer.W5 →
      Leads (ws ++ W1 (snap x) ∷ W2 ∷ W3 ∷ []) rs s (begun x c)
  leads_begins ws rs s c x l w =
      let c1 : Core T = after_write writer.W5 x c in
      let c2 : Core T = after_write writer.W1 x c1 in
      let c3 : Core T = after_write writer.W2 x c2 in
      let first : Leads (ws ++ W1 (snap x) ∷ []) rs s c1 =
      then_writes ws rs s c c1 (W1 (snap x)) l (ap next_write (sym w), ap (λ (z : Stage). after_write z x c) (sym w)) in
      let second : Leads ((ws ++ W1 (snap x) ∷ []) ++ W2 ∷ []) rs s c2 =
      then_writes (ws ++ W1 (snap x) ∷ []) rs s c1 c2 W2 first (refl, refl) in
      let third : Leads (((ws ++ W1 (snap x) ∷ []) ++ W2 ∷ []) ++ W3 ∷ []) rs s c3 =
      then_writes ((ws ++ W1 (snap x) ∷ []) ++ W2 ∷ []) rs s c2 c3 W3 second (refl, refl) in
      subst (λ (zs : List (WriteEvent T)). Leads zs rs s c3) (snoc_three ws (W1 (snap x)) W2 W3) third

  pub leads_stores : (ws : List (WriteEvent T)) (rs : List (ReadEvent T)) (s c : Core T) → Leads ws rs s c → c.writer ≡ writer.W3 →
      Leads (ws ++ W4 ∷ []) rs s (after_write writer.W3 c.item c)
  leads_stores ws rs s c l w = then_writes ws rs s c (after_write writer.W3 c.item c) W4 l
      (ap next_write (sym w), ap (λ (z : Stage). after_write z c.item c) (sym w))

  pub leads_finishes : (ws : List (WriteEvent T)) (rs : List (ReadEvent T)) (s c : Core T) → Leads ws rs s c → c.writer ≡ writer.W4 →
      Leads (ws ++ W5 ∷ []) rs s (after_write writer.W4 c.item c)
  leads_finishes ws rs s c l w = then_writes ws rs s c (after_write writer.W4 c.item c) W5 l
      (ap next_write (sym w), ap (λ (z : Stage). after_write z c.item c) (sym w))

  pub leads_asks : (ws : List (WriteEvent T)) (rs : List (ReadEvent T)) (s c : Core T) → Leads ws rs s c → c.reader ≡ reader.R5 →
      Leads ws (rs ++ R1 ∷ []) s (after_read reader.R5 c)
  leads_asks ws rs s c l r = then_reads ws rs s c (after_read reader.R5 c) R1 l (
    ap (λ (z : ReaderStage). next_read z c) (sym r),
    ap (λ (z : ReaderStage). after_read z c) (sym r),
  )

  pub leads_says : (ws : List (WriteEvent T)) (rs : List (ReadEvent T)) (s c : Core T) → Leads ws rs s c → c.reader ≡ reader.R1 →
      Leads ws (rs ++ R2 ∷ []) s (after_read reader.R1 c)
  leads_says ws rs s c l r = then_reads ws rs s c (after_read reader.R1 c) R2 l (
    ap (λ (z : ReaderStage). next_read z c) (sym r),
    ap (λ (z : ReaderStage). after_read z c) (sym r),
  )

  -- no write is in its slot at R4, so the answer is the slot's record
  pub leads_reads : (ws : List (WriteEvent T)) (rs : List (ReadEvent T)) (s c : Core T) → Leads ws rs s c →
      IsWriterShown c.writer → c.reader ≡ reader.R2
      → Leads ws (rs ++ R3 ∷ R4 ∷ R5 (snap (record_in c.records (named_slot c c.read.pair))) ∷ []) s (read_on c)
  leads_reads ws rs s c l shown r =
      let x : T = record_in c.records (named_slot c c.read.pair) in
      let c3 : Core T = after_read reader.R2 c in let c4 : Core T = after_read reader.R3 c3 in let c5 : Core T = after_read reader.R4 c4 in
      let unmet : c4.met ≡ false = ap (λ (z : Bool). z && same_slot c.write (named_slot c c.read.pair)) (not_writing c.writer shown) in
      let gives : x ≡ answer c4 = ap (λ (z : Bool). if z then c.noise else x) (sym unmet) in
      let first : Leads ws (rs ++ R3 ∷ []) s c3 = then_reads ws rs s c c3 R3 l (
        ap (λ (z : ReaderStage). next_read z c) (sym r),
        ap (λ (z : ReaderStage). after_read z c) (sym r),
      ) in
      let second : Leads ws ((rs ++ R3 ∷ []) ++ R4 ∷ []) s c4 = then_reads ws (rs ++ R3 ∷ []) s c3 c4 R4 first (refl, refl) in
      let third : Leads ws (((rs ++ R3 ∷ []) ++ R4 ∷ []) ++ R5 (snap x) ∷ []) s c5 =
      then_reads ws ((rs ++ R3 ∷ []) ++ R4 ∷ []) s c4 c5 (R5 (snap x)) second (ap told.R5 gives, refl) in
      subst (λ (zs : List (ReadEvent T)). Leads ws zs s c5) (snoc_three rs R3 R4 (R5 (snap x))) third

  -- the invariant
  pub sound_begins : (c : Core T) (last x : T) → IsSound c last → c.writer ≡ writer.W5 → IsSound (begun x c) last
  sound_begins c last x h w =
      let h0 = subst (λ (z : Stage). IsSoundAt z c.reader c last) w h in
      let c1 : Core T = after_write writer.W5 x c in let c2 : Core T = after_write writer.W1 x c1 in
      keep_write writer.W2 c.reader x c2 last (keep_write writer.W1 c.reader x c1 last (keep_write writer.W5 c.reader x c last h0))

  pub sound_stores : (c : Core T) (last : T) → IsSound c last → c.writer ≡ writer.W3 → IsSound (after_write writer.W3 c.item c) last
  sound_stores c last h w = keep_write writer.W3 c.reader c.item c last (subst (λ (z : Stage). IsSoundAt z c.reader c last) w h)

  pub sound_finishes : (c : Core T) (last : T) → IsSound c last → c.writer ≡ writer.W4 → IsSound (after_write writer.W4 c.item c) c.item
  sound_finishes c last h w = keep_write writer.W4 c.reader c.item c last (subst (λ (z : Stage). IsSoundAt z c.reader c last) w h)

  pub sound_asks : (c : Core T) (last : T) → IsSound c last → c.reader ≡ reader.R5 → IsSound (after_read reader.R5 c) last
  sound_asks c last h r = keep_read c.writer reader.R5 c last (subst (λ (z : ReaderStage). IsSoundAt c.writer z c last) r h)

  pub sound_says : (c : Core T) (last : T) → IsSound c last → c.reader ≡ reader.R1 → IsSound (after_read reader.R1 c) last
  sound_says c last h r = keep_read c.writer reader.R1 c last (subst (λ (z : ReaderStage). IsSoundAt c.writer z c last) r h)

  pub sound_reads : (c : Core T) (last : T) → IsSound c last → c.reader ≡ reader.R2 → IsSound (read_on c) last
  sound_reads c last h r =
      let h0 = subst (λ (z : ReaderStage). IsSoundAt c.writer z c last) r h in
      let c3 : Core T = after_read reader.R2 c in let c4 : Core T = after_read reader.R3 c3 in
      keep_read c.writer reader.R4 c4 last (keep_read c.writer reader.R3 c3 last (keep_read c.writer reader.R2 c last h0))

-- the events of a whole call
pub write_joined : {A : Type 0} (xs : List A) (a b c d e : A) → ((xs ++ a ∷ b ∷ c ∷ []) ++ d ∷ []) ++ e ∷ [] ≡ xs ++ a ∷ b ∷ c ∷ d ∷ e ∷ []
write_joined [] a b c d e = refl
write_joined (x ∷ xs) a b c d e = ap (λ ys. x ∷ ys) (write_joined xs a b c d e)

pub read_joined : {A : Type 0} (xs : List A) (a b c d e : A) → ((xs ++ a ∷ []) ++ b ∷ []) ++ c ∷ d ∷ e ∷ [] ≡ xs ++ a ∷ b ∷ c ∷ d ∷ e ∷ []
read_joined [] a b c d e = refl
read_joined (x ∷ xs) a b c d e = ap (λ ys. x ∷ ys) (read_joined xs a b c d e)

-- the counts
pub at_most_one : (a b i : ℕ) → (a ≡ b → i ≡ 0) → (a ≢ b → i ≡ 1) → i ≤ 1
at_most_one a b i same other =
    ⊎_elim (λ (e : a ≡ b). let z = same e in omega arith) (λ (ne : a ≢ b). let z = other ne in omega arith) (cases_eq a b)

module _ {T : Type 0} where
  pub writes_more : (xs ys : List (WriteEvent T)) → control_writes (xs ++ ys) ≡ control_writes xs + control_writes ys
  writes_more [] ys = omega arith
  writes_more (W1 x ∷ xs) ys = let more = writes_more xs ys in omega arith
  writes_more (W2 ∷ xs) ys = writes_more xs ys
  writes_more (W3 ∷ xs) ys = writes_more xs ys
  writes_more (W4 ∷ xs) ys = let more = writes_more xs ys in omega arith
  writes_more (W5 ∷ xs) ys = let more = writes_more xs ys in omega arith

  pub reads_more : (xs ys : List (ReadEvent T)) → control_reads (xs ++ ys) ≡ control_reads xs + control_reads ys
  reads_more [] ys = omega arith
  reads_more (R1 ∷ xs) ys = let more = reads_more xs ys in omega arith
  reads_more (R2 ∷ xs) ys = let more = reads_more xs ys in omega arith
  reads_more (R3 ∷ xs) ys = let more = reads_more xs ys in omega arith
  reads_more (R4 ∷ xs) ys = reads_more xs ys
  reads_more (R5 x ∷ xs) ys = reads_more xs ys

  -- one access more, and its events
  pub wrote : (n : ℕ) (xs ys : List (WriteEvent T)) → n ≤ control_writes xs → control_writes ys ≡ 1 → n + 1 ≤ control_writes (xs ++ ys)
  wrote n xs ys is one = let more = writes_more xs ys in omega arith

  pub has_read : (n : ℕ) (xs ys : List (ReadEvent T)) → n ≤ control_reads xs → control_reads ys ≡ 1 → n + 1 ≤ control_reads (xs ++ ys)
  has_read n xs ys is one = let more = reads_more xs ys in omega arith

  -- an event more, and one access or none
  pub has_said : (i n : ℕ) (xs : List (ReadEvent T)) → i ≤ 1 → n ≤ control_reads xs → n + i ≤ control_reads (xs ++ R2 ∷ [])
  has_said i n xs few is = let more = reads_more xs (R2 ∷ []) in omega arith

  pub has_finished : (i n : ℕ) (xs : List (WriteEvent T)) → i ≤ 1 → n ≤ control_writes xs → n + i ≤ control_writes (xs ++ W5 ∷ [])
  has_finished i n xs few is = let more = writes_more xs (W5 ∷ []) in omega arith
