-- The lines of several keys: what is left of the body becomes shorter, and what was read longer.
use Rattle.std.proofs.Common.{◌≡◌, ◌≢◌, ℕ, List, [], ◌∷◌, ◌++◌, length, refl, ap, sym, ◌∙◌, arith, subst, Some, None}
use Rattle.std.proofs.Common.{Option, Ok, Err}
use Rattle.std.proofs.Common.{Bool, true, false, zero, suc, ◌<◌, ◌⊎◌, length-append, inl, inr, append_assoc, slice_get}
use Rattle.std.specs.Prelude.{unwrap_or}
use Rattle.std.proofs.lemmas.List.{append-nil}
use Rattle.std.proofs.lemmas.Option.{slice_get_within}
use Rattle.history_core.proofs.Places.{get_pushed_cases}
use Rattle.history_core.specs.declared.history.Op.{Op}
use Rattle.history_thinning.specs.Thinnings.{IsThinnedLog}
use Rattle.program_runs.specs.declared.fault.Fault.{Fault}
use Rattle.read_document.specs.declared.refusal.DocError.{DocError}
use Rattle.read_document.specs.declared.refusal.DocError.TheVariants.{NoMemory}
use Rattle.text_lines.specs.Splits.{lines_of}
use Rattle.read_line.specs.Lines.{Head, head_of}
use Rattle.lines_log.specs.Faults.{is_end, refused_at}
use Rattle.keys_log.specs.KeyFaults.{IsKeyedFault, IsKeysBodyFault, IsKeysFault}
use Rattle.keys_log.specs.Keys.{IsKeyLog, IsKeysLog, IsKeyRegister, keys_in, lines_of_key, rule_for}
use Rattle.lines_log.specs.Logs.{AreAll, AreLines, first_key, judged_line, LineRule, rule_in, text_of}
use Rattle.keys_log.specs.inner.KeyReadings.{AreFinished, AreKeysRead, ArePartlyRead, AreReadWhole, HasKeyedRest}
use Rattle.keys_log.specs.inner.KeyReadings.{IsKeyFinished, IsKeyRead}
use Rattle.keys_log.specs.inner.KeyReadings.{ReadsKeyedLine}
use Rattle.keys_log.specs.declared.key_reader.KeyReader.{KeyReader}
use Rattle.kept_lines.specs.declared.keys_log.KeyLog.{KeyLog}
use Rattle.kept_lines.specs.declared.keys_log.KeysLog.{KeysLog}
use Rattle.keys_log.specs.declared.keys_reader.KeysReader.{KeysReader}
use Rattle.lines_log.proofs.BodyLemmas.{end_is, ends_last, last_of_rest, none_left}
use Rattle.lines_log.proofs.FaultLemmas.{is_memory}

pub keys_begun : (head : Head) (body : List ℕ) (reader : KeysReader) → AreKeysRead head (first_key (lines_of body)) [] reader
    → ArePartlyRead head (lines_of body) false body reader
keys_begun head body reader read = record { lines = []; read = read; left = refl }

at_line : (head : Head) (before : Bool) (body lines : List (List ℕ)) (rest line behind : List ℕ)
    → HasKeyedRest head before body lines rest → lines_of rest ≡ line ∷ lines_of behind → body ≡ lines ++ line ∷ lines_of behind
at_line head false body lines rest line behind going split = going ∙ ap (λ (l : List (List ℕ)). lines ++ l) split
at_line head true body lines rest line behind over split = absurd (none_left rest line behind split over.0)

pub keys_one_more : (head : Head) (before : Bool) (body : List (List ℕ)) (rest line behind : List ℕ) (old new : KeysReader) (ended : Bool)
    → ArePartlyRead head body before rest old → lines_of rest ≡ line ∷ lines_of behind
    → ((lines : List (List ℕ)) → AreKeysRead head (first_key body) lines old
    → ReadsKeyedLine head (first_key body) lines line (is_end behind) new ended)
    → ArePartlyRead head body ended behind new
keys_one_more head before body rest line behind old new ended way split reads =
    by_line ended (at_line head before body way.lines rest line behind way.left split) (reads way.lines way.read)
  where
    by_line : (b : Bool) → body ≡ way.lines ++ line ∷ lines_of behind
        → ReadsKeyedLine head (first_key body) way.lines line (is_end behind) new b → ArePartlyRead head body b behind new
    by_line false here more = record {
      lines = way.lines ++ line ∷ [];
      read = more;
      left = here ∙ sym (append_assoc way.lines (line ∷ []) (lines_of behind));
    }
    by_line true here over =
        let own : LineRule = rule_for head (first_key body) in
        let at_end : is_end behind ≡ true = ends_last own (is_end behind) (length way.lines) line over.1 in
        let nothing : behind ≡ [] = end_is behind at_end in
        let judged_last : judged_line (rule_in head body) (length way.lines) true line ≡ Ok None =
        subst (λ (b : Bool). judged_line own (length way.lines) b line ≡ Ok None) at_end over.1 in
        record {
          lines = way.lines;
          read = over.0;
          left = (nothing, (line, here ∙ ap (λ (l : List ℕ). way.lines ++ line ∷ lines_of l) nothing, judged_last));
        }

pub keys_all_read : (head : Head) (ended : Bool) (body : List (List ℕ)) (rest : List ℕ) (reader : KeysReader) → rest ≡ []
    → ArePartlyRead head body ended rest reader → AreReadWhole head body reader ended
keys_all_read head ended body rest reader none way = record {
  lines = way.lines;
  read = way.read;
  all = whole ended way.left;
}
  where
    whole : (b : Bool) → HasKeyedRest head b body way.lines rest → AreAll (rule_in head body) b body way.lines
    whole false going = going ∙ ap (λ (l : List ℕ). way.lines ++ lines_of l) none ∙ append-nil way.lines
    whole true over = over.1

-- what was read of a key is a register
abbrev register : (head : Head) (lines : List (List ℕ)) (key : Option (List ℕ)) (one : KeyReader) → (read : IsKeyRead head lines key one)
    → IsKeyRegister head.opening (rule_for head key) (lines_of_key key lines) read.read.log
register head lines key one read = record {
  records = read.read.records;
  are = subst (λ (b : LineRule). AreLines b (lines_of_key key lines) read.read.records read.read.log) read.limits read.read.are;
  opened = read.read.opened;
  distinct = read.read.numbered.distinct;
  turns = read.read.tasks.turn;
  once = read.read.kept.kept.once;
}

there : {X : Type 0} (rs : List X) (n : ℕ) → n < length rs → (one : X) × (slice_get rs n ≡ Some one)
there [] n within = absurd (omega (arith, within))
there (r ∷ rs) zero within = (r, refl)
there (r ∷ rs) (suc n) within = there rs n (omega (arith, within))

pub keys_at_fault : (head : Head) (ended : Bool) (body : List (List ℕ)) (rest line behind : List ℕ) (reader : KeysReader) (f : Fault)
    → ArePartlyRead head body ended rest reader → lines_of rest ≡ line ∷ lines_of behind
    → ((lines : List (List ℕ)) → AreKeysRead head (first_key body) lines reader → IsKeyedFault head lines line (is_end behind) f)
    → IsKeysBodyFault head body f
keys_at_fault head ended body rest line behind reader f way split wrong = record {
  lines = way.lines;
  line = line;
  behind = lines_of behind;
  split = at_line head ended body way.lines rest line behind way.left split;
  are = λ i key at.
      let within : i < length (keys_in (first_key body) way.lines) = slice_get_within (keys_in (first_key body) way.lines) i key at in
      let one = there reader.readers.items i (omega (arith, within, way.read.long)) in
      let read = way.read.each i key one.0 at one.1 in
      (read.read.log, register head way.lines key one.0 read);
  wrong = subst (λ (b : Bool). IsKeyedFault head way.lines line b f) (sym (last_of_rest behind)) (wrong way.lines way.read);
}

-- one key more is given
pub finished_more : (limit : ℕ) (ended : Bool) (readers : List KeyReader) (logs : List KeyLog) (one : KeyReader) (log : KeyLog)
    → AreFinished limit ended readers logs → IsKeyFinished limit ended one log
    → AreFinished limit ended (readers ++ one ∷ []) (logs ++ log ∷ [])
finished_more limit ended readers logs one log are is = record {
  long = omega (arith, are.long, length-append readers (one ∷ []), length-append logs (log ∷ []));
  each = λ i r l at_r at_l. by_places i r l (get_pushed_cases readers one i r at_r) (get_pushed_cases logs log i l at_l);
}
  where
    by_places : (i : ℕ) (r : KeyReader) (l : KeyLog) → (slice_get readers i ≡ Some r) ⊎ ((i ≡ length readers) × (one ≡ r))
        → (slice_get logs i ≡ Some l) ⊎ ((i ≡ length logs) × (log ≡ l)) → IsKeyFinished limit ended r l
    by_places i r l (inl at_r) (inl at_l) = are.each i r l at_r at_l
    by_places i r l (inl at_r) (inr new) =
        absurd (let within : i < length readers = slice_get_within readers i r at_r in omega (arith, within, new.0, are.long))
    by_places i r l (inr new) (inl at_l) =
        absurd (let within : i < length logs = slice_get_within logs i l at_l in omega (arith, within, new.0, are.long))
    by_places i r l (inr new_r) (inr new_l) =
        subst (λ z. IsKeyFinished limit ended z l) new_r.1 (subst (λ z. IsKeyFinished limit ended one z) new_l.1 is)

-- what was read of a key is its log
key_log : (head : Head) (limit : ℕ) (ended : Bool) (lines : List (List ℕ)) (key : Option (List ℕ)) (one : KeyReader) (log : KeyLog)
    → IsKeyRead head lines key one → limit ≡ unwrap_or head.limit 1 → IsKeyFinished limit ended one log
    → (ops : List (Op ℕ)) × IsKeyLog head lines key ops log
key_log head limit ended lines key one log read limit_is finished =
    let ops : List (Op ℕ) = read.read.log in (
      ops,
      record {
        named = finished.key ∙ ap (λ (b : LineRule). b.key) read.limits;
        places = finished.places ∙ read.places;
        is = register head lines key one read;
        thinned = subst (λ (n : ℕ). IsThinnedLog n ops log.log.thinned) limit_is (finished.is.thinned ops read.read.kept);
        ops = finished.is.ops ∙ read.read.count;
        unfinished = finished.is.unfinished ∙ read.read.unfinished;
        count = finished.is.count read.read.records read.read.numbered;
        given = finished.is.given ops read.read.reads;
      },
    )

-- what was read are the logs
pub keys_assembled : (bytes text first body : List ℕ) (head : Head) (limit : ℕ) (reader : KeysReader) (read : KeysLog)
    → text ≡ text_of bytes → lines_of text ≡ first ∷ lines_of body → head_of first ≡ Ok head
    → AreReadWhole head (lines_of body) reader read.ended → limit ≡ unwrap_or head.limit 1
    → AreFinished limit read.ended reader.readers.items read.logs.items → IsKeysLog bytes read
keys_assembled bytes text first body head limit reader read is_text split said whole limit_is finished = record {
  head = head;
  header = first;
  body = lines_of body;
  lines = whole.lines;
  split = ap lines_of (sym is_text) ∙ split;
  said = said;
  all = whole.all;
  long = finished.long ∙ whole.read.long;
  each = λ i key log at at_log.
      let within : i < length read.logs.items = slice_get_within read.logs.items i log at_log in
      let one = there reader.readers.items i (omega (arith, within, finished.long)) in
      key_log head limit read.ended whole.lines key one.0 log (whole.read.each i key one.0 at one.1) limit_is
      (finished.each i one.0 log one.1 at_log);
}

pub later_keys_fault : (bytes text first body : List ℕ) (head : Head) (f : Fault) → text ≡ text_of bytes
    → lines_of text ≡ first ∷ lines_of body → head_of first ≡ Ok head → IsKeysBodyFault head (lines_of body) f → IsKeysFault bytes f
later_keys_fault bytes text first body head f is_text split said wrong = inr (inr (inr (record {
  header = first;
  body = lines_of body;
  head = head;
  split = ap lines_of (sym is_text) ∙ split;
  said = said;
  wrong = wrong;
})))

pub header_keys_fault : (bytes text first body : List ℕ) (why : DocError) (f : Fault) → text ≡ text_of bytes
    → lines_of text ≡ first ∷ lines_of body
    → (why ≢ NoMemory → head_of first ≡ Err why) → f ≡ refused_at 1 why → IsKeysFault bytes f
header_keys_fault bytes text first body why f is_text split refused told = by_cause (is_memory why)
  where
    by_cause : (why ≡ NoMemory) ⊎ (why ≢ NoMemory) → IsKeysFault bytes f
    by_cause (inl e) = inl (told ∙ ap (refused_at 1) e)
    by_cause (inr ne) = inr (inr (inl (record {
      header = first;
      body = lines_of body;
      why = why;
      split = ap lines_of (sym is_text) ∙ split;
      refused = refused ne;
      told = told;
    })))
