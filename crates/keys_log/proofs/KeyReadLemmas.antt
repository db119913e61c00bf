-- One more line of a key is read by the reader of that key, and by no other.
use Rattle.std.proofs.Common.{◌≡◌, ℕ, List, [], ◌∷◌, ◌++◌, Option, Some, Bool, true, false, refl, ap, sym}
use Rattle.std.proofs.Common.{◌∙◌, arith, zero, suc}
use Rattle.std.proofs.Common.{length, slice_get, subst, ◌<◌, ◌⊎◌, inl, inr, Ok, Err, length-append}
use Rattle.std.proofs.lemmas.Option.{none-some, same_Some, slice_get_within}
use Rattle.history_core.proofs.Places.{get_last, get_pushed_cases, get_stays}
use Rattle.history_core.specs.declared.history.Op.{Op}
use Rattle.program_runs.specs.declared.fault.Fault.{Fault}
use Rattle.program_runs.specs.declared.fault.Fault.TheVariants.{NoMemory}
use Rattle.read_line.specs.Lines.{Head, head_seen}
use Rattle.kept_lines.specs.Numbered.{AreNumbered, GaveRecord}
use Rattle.kept_lines.specs.Numberings.{MeetsRecord}
use Rattle.kept_lines.specs.declared.numbers.RecordNumbers.{RecordNumbers}
use Rattle.lines_log.specs.Faults.{IsLineFault}
use Rattle.keys_log.specs.KeyFaults.{in_whole}
use Rattle.keys_log.specs.Keys.{is_met, is_of, lines_of_key, places_of_key, rule_for, with_key}
use Rattle.lines_log.specs.Logs.{judged_line, LineRule}
use Rattle.keys_log.specs.inner.KeyReadings.{AreOthers, HaveKeys, IsKeyBegun, IsKeyFault}
use Rattle.keys_log.specs.inner.KeyReadings.{IsKeyRead, IsOfKey}
use Rattle.keys_log.specs.inner.KeyReadings.{name_of, names_of}
use Rattle.lines_log.specs.inner.Readings.{AreRead, rule_of}
use Rattle.keys_log.specs.declared.key_reader.KeyReader.{KeyReader}
use Rattle.keys_log.specs.declared.keys_reader.KeysReader.{KeysReader}
use Rattle.keys_log.proofs.KeyLemmas.{met_at, met_where, names_at, names_from, of_more, of_other}
use Rattle.keys_log.proofs.KeyLemmas.{places_more}
use Rattle.keys_log.proofs.KeyLemmas.{places_other, with_met, with_new}

-- ---- the reader of a key

-- an operation of the key is judged as by the reader's rule
pub by_own_rule : (head : Head) (lines : List (List ℕ)) (key : Option (List ℕ)) (line : List ℕ) (said : Op (List ℕ))
    (reader : KeyReader) → IsKeyRead head lines key reader → IsOfKey head lines key line said
    → judged_line (rule_of reader.reader) (length (lines_of_key key lines)) true line ≡ Ok (Some said)
by_own_rule head lines key line said reader read is =
    subst (λ (r : LineRule). judged_line r (length (lines_of_key key lines)) true line ≡ Ok (Some said)) (sym read.limits)
    (is.judged (length (lines_of_key key lines)))

-- one more of the key
pub key_read_more : (head : Head) (lines : List (List ℕ)) (key : Option (List ℕ)) (line : List ℕ) (said : Op (List ℕ)) (place : ℕ)
    (old new : KeyReader) → IsKeyRead head lines key old → IsOfKey head lines key line said → place ≡ length lines
    → AreRead head.opening (lines_of_key key lines ++ line ∷ []) new.reader → rule_of new.reader ≡ rule_of old.reader
    → new.places.items ≡ old.places.items ++ place ∷ [] → IsKeyRead head (lines ++ line ∷ []) key new
key_read_more head lines key line said place old new read is at more limits places = record {
  read = subst (λ (ls : List (List ℕ)). AreRead head.opening ls new.reader) (sym (of_more key lines line is.of_key)) more;
  limits = limits ∙ read.limits;
  places = places ∙ ap (λ (ps : List ℕ). ps ++ place ∷ []) read.places
      ∙ ap (λ (n : ℕ). places_of_key key lines ++ n ∷ []) at ∙ sym (places_more key lines line is.of_key);
}

-- one more of another key
pub key_read_other : (head : Head) (lines : List (List ℕ)) (key : Option (List ℕ)) (line : List ℕ) (reader : KeyReader)
    → IsKeyRead head lines key reader → is_of key line ≡ false → IsKeyRead head (lines ++ line ∷ []) key reader
key_read_other head lines key line reader read other = record {
  read = subst (λ (ls : List (List ℕ)). AreRead head.opening ls reader.reader) (sym (of_other key lines line other)) read.read;
  limits = read.limits;
  places = read.places ∙ sym (places_other key lines line other);
}

-- no line of the key is among these
pub key_read_none : (head : Head) (lines : List (List ℕ)) (key : Option (List ℕ)) (reader : KeyReader)
    → IsKeyBegun head key reader → lines_of_key key lines ≡ [] → places_of_key key lines ≡ [] → IsKeyRead head lines key reader
key_read_none head lines key reader begun none nowhere = record {
  read = subst (λ (ls : List (List ℕ)). AreRead head.opening ls reader.reader) (sym none) begun.read;
  limits = begun.limits;
  places = begun.places ∙ sym nowhere;
}

-- no line was read yet, but the key of the first one
pub keys_none : (head : Head) (key : Option (List ℕ)) (one : KeyReader) (reader : KeysReader) → head_seen reader.header ≡ head
    → AreNumbered (name_of key ∷ []) reader.numbering → reader.readers.items ≡ one ∷ [] → IsKeyBegun head key one → reader.count ≡ 0
    → HaveKeys head [] (key ∷ []) reader
keys_none head key one reader heads numbers readers begun count = record {
  heads = heads;
  numbers = numbers;
  long = ap length readers;
  each = λ i k r at_k at_r. by i k r at_k (sym (ap (λ (l : List KeyReader). slice_get l i) readers) ∙ at_r);
  count = count;
}
  where
    by : (i : ℕ) (k : Option (List ℕ)) (r : KeyReader) → slice_get (key ∷ []) i ≡ Some k → slice_get (one ∷ []) i ≡ Some r
        → IsKeyRead head [] k r
    by zero k r at_k at_r =
        let K : key ≡ k = same_Some key k at_k in
        let O : one ≡ r = same_Some one r at_r in
        subst (λ (z : KeyReader). IsKeyRead head [] k z) O
        (key_read_none head [] k one (subst (λ (z : Option (List ℕ)). IsKeyBegun head z one) K begun) refl refl)
    by (suc i) k r at_k at_r = absurd (none-some k at_k)

-- a fault of the key's own log is told by the lines of the whole text
pub key_fault : (head : Head) (lines : List (List ℕ)) (key : Option (List ℕ)) (line : List ℕ) (said : Op (List ℕ)) (place : ℕ)
    (reader : KeyReader) (places : List ℕ) (own f : Fault) → IsKeyRead head lines key reader → IsOfKey head lines key line said
    → place ≡ length lines → places ≡ reader.places.items ++ place ∷ []
    → IsLineFault head.opening (rule_of reader.reader) (lines_of_key key lines) line true own
    → (f ≡ NoMemory) ⊎ (f ≡ in_whole places own) → IsKeyFault head lines key line f
key_fault head lines key line said place reader places own f read is at pushed wrong (inl none) = inl none
key_fault head lines key line said place reader places own f read is at pushed wrong (inr told) =
    by_cause (subst (λ (r : LineRule). IsLineFault head.opening r (lines_of_key key lines) line true own) read.limits wrong)
  where
    are : places ≡ places_of_key key (lines ++ line ∷ [])
    are = pushed ∙ ap (λ (ps : List ℕ). ps ++ place ∷ []) read.places
        ∙ ap (λ (n : ℕ). places_of_key key lines ++ n ∷ []) at ∙ sym (places_more key lines line is.of_key)

    by_cause : IsLineFault head.opening (rule_for head key) (lines_of_key key lines) line true own → IsKeyFault head lines key line f
    by_cause (inl none) = inl (told ∙ ap (in_whole places) none)
    by_cause (inr (inl refused)) =
        absurd (let clash : Err refused.0 ≡ Ok (Some said) = sym refused.1 ∙ is.judged (length (lines_of_key key lines)) in cc)
    by_cause (inr (inr (inl over))) = inr (own, inl over, told ∙ ap (λ (ps : List ℕ). in_whole ps own) are)
    by_cause (inr (inr (inr again))) = inr (own, inr again, told ∙ ap (λ (ps : List ℕ). in_whole ps own) are)

-- ---- the keys' names and numbers

names_long : (keys : List (Option (List ℕ))) → length (names_of keys) ≡ length keys
names_long [] = refl
names_long (k ∷ ks) = let e : length (names_of ks) ≡ length ks = names_long ks in omega (arith, e)

names_more : (keys : List (Option (List ℕ))) (key : Option (List ℕ)) → names_of (keys ++ key ∷ []) ≡ names_of keys ++ name_of key ∷ []
names_more [] key = refl
names_more (k ∷ ks) key = ap (λ (l : List (List ℕ)). name_of k ∷ l) (names_more ks key)

-- a key was met, or it is one more
abbrev pub IsMetOrNew : List (Option (List ℕ)) → Option (List ℕ) → ℕ → Type 0
IsMetOrNew keys key n =
    ((with_key keys key ≡ keys) × (n < length keys))
    ⊎ ((is_met keys key ≡ false) × (with_key keys key ≡ keys ++ key ∷ []) × (n ≡ length keys))

-- a key got its number
pub record IsNumberedKey (keys : List (Option (List ℕ))) (key : Option (List ℕ)) (n : ℕ) (numbering : RecordNumbers) : Type 0 where
  pub numbers : AreNumbered (names_of (with_key keys key)) numbering
  pub at : slice_get (with_key keys key) n ≡ Some key
  pub is : IsMetOrNew keys key n

pub numbered_key : (keys : List (Option (List ℕ))) (key : Option (List ℕ)) (name : List ℕ) (n : ℕ) (numbering : RecordNumbers)
    → name ≡ name_of key → GaveRecord (names_of keys) name n numbering → IsNumberedKey keys key n numbering
numbered_key keys key name n numbering is gave = by_meeting gave.meets
  where
    at : slice_get gave.after n ≡ Some (name_of key)
    at = gave.at ∙ ap Some is

    by_new : gave.after ≡ names_of keys ++ name_of key ∷ [] → (b : Bool) → is_met keys key ≡ b → IsNumberedKey keys key n numbering
    by_new more true met =
        let where_met = met_where keys key met in
        let known : slice_get gave.after where_met.0 ≡ Some (name_of key) =
        ap (λ (l : List (List ℕ)). slice_get l where_met.0) more
        ∙ get_stays (names_of keys) (name_of key) (name_of key) where_met.0 (names_at keys where_met.0 key where_met.1) in
        let last : slice_get gave.after (length (names_of keys)) ≡ Some (name_of key) =
        ap (λ (l : List (List ℕ)). slice_get l (length (names_of keys))) more
        ∙ get_last (names_of keys) (name_of key) (length (names_of keys)) refl in
        let same : where_met.0 ≡ length (names_of keys) =
        gave.numbered.distinct (name_of key) where_met.0 (length (names_of keys)) known last in
        let within : where_met.0 < length keys = slice_get_within keys where_met.0 key where_met.1 in
        let long : length (names_of keys) ≡ length keys = names_long keys in
        absurd (omega (arith, same, within, long))
    by_new more false new =
        let last : slice_get gave.after (length (names_of keys)) ≡ Some (name_of key) =
        ap (λ (l : List (List ℕ)). slice_get l (length (names_of keys))) more
        ∙ get_last (names_of keys) (name_of key) (length (names_of keys)) refl in
        let same : n ≡ length keys =
        gave.numbered.distinct (name_of key) n (length (names_of keys)) at last ∙ names_long keys in
        let grown : with_key keys key ≡ keys ++ key ∷ [] = with_new keys key new in
        record {
          numbers = subst (λ (l : List (List ℕ)). AreNumbered l numbering)
              (more ∙ sym (names_more keys key) ∙ ap names_of (sym grown)) gave.numbered;
          at = ap (λ ks. slice_get ks n) grown ∙ get_last keys key n same;
          is = inr (new, grown, same);
        }

    by_meeting : MeetsRecord (names_of keys) name gave.after → IsNumberedKey keys key n numbering
    by_meeting (inl same) =
        let here : slice_get keys n ≡ Some key =
        names_from keys n key (ap (λ (l : List (List ℕ)). slice_get l n) (sym same) ∙ at) in
        let kept : with_key keys key ≡ keys = with_met keys key (met_at keys n key here) in
        record {
          numbers = subst (λ (l : List (List ℕ)). AreNumbered l numbering) (same ∙ ap names_of (sym kept)) gave.numbered;
          at = ap (λ ks. slice_get ks n) kept ∙ here;
          is = inl (kept, slice_get_within keys n key here);
        }
    by_meeting (inr more) = by_new (more ∙ ap (λ t. names_of keys ++ t ∷ []) is) (is_met keys key) refl

-- ---- the readers of all keys

-- a key that was met has its reader
pub have_met : (head : Head) (lines : List (List ℕ)) (keys : List (Option (List ℕ))) (key : Option (List ℕ)) (n : ℕ)
    (old new : KeysReader) → HaveKeys head lines keys old → IsNumberedKey keys key n new.numbering → ¬ (n ≡ length keys)
    → new.header ≡ old.header → new.readers.items ≡ old.readers.items → new.count ≡ old.count
    → HaveKeys head lines (with_key keys key) new
have_met head lines keys key n old new have numbered apart header readers count = by_case numbered.is
  where
    by_case : IsMetOrNew keys key n → HaveKeys head lines (with_key keys key) new
    by_case (inl met) = record {
      heads = ap head_seen header ∙ have.heads;
      numbers = numbered.numbers;
      long = ap length readers ∙ have.long ∙ ap length (sym met.0);
      each = λ i k one at_k at_one. have.each i k one (ap (λ ks. slice_get ks i) (sym met.0) ∙ at_k)
          (ap (λ rs. slice_get rs i) (sym readers) ∙ at_one);
      count = count ∙ have.count;
    }
    by_case (inr new_one) = absurd (apart new_one.2)

-- a new key gets the next
pub have_new : (head : Head) (lines : List (List ℕ)) (keys : List (Option (List ℕ))) (key : Option (List ℕ)) (n : ℕ)
    (old new : KeysReader) (next : KeyReader) → HaveKeys head lines keys old → AreOthers keys lines
    → IsNumberedKey keys key n new.numbering → n ≡ length keys → IsKeyBegun head key next
    → new.header ≡ old.header → new.readers.items ≡ old.readers.items ++ next ∷ [] → new.count ≡ old.count
    → HaveKeys head lines (with_key keys key) new
have_new head lines keys key n old new next have no_line numbered last begun header readers count = by_case numbered.is
  where
    by_case : IsMetOrNew keys key n → HaveKeys head lines (with_key keys key) new
    by_case (inl met) = absurd (let within : n < length keys = met.1 in omega (arith, within, last))
    by_case (inr new_one) =
        let none = no_line key new_one.0 in
        let fresh : IsKeyRead head lines key next = key_read_none head lines key next begun none.0 none.1 in
        record {
          heads = ap head_seen header ∙ have.heads;
          numbers = numbered.numbers;
          long = let more : length new.readers.items ≡ length (old.readers.items ++ next ∷ []) = ap length readers in
              let keyed : length (with_key keys key) ≡ length (keys ++ key ∷ []) = ap length new_one.1 in
              omega (arith, more, keyed, have.long, length-append old.readers.items (next ∷ []), length-append keys (key ∷ []));
          each = λ i k one at_k at_one.
              by_places i k one (get_pushed_cases keys key i k (ap (λ ks. slice_get ks i) (sym new_one.1) ∙ at_k))
              (get_pushed_cases old.readers.items next i one (ap (λ rs. slice_get rs i) (sym readers) ∙ at_one)) fresh;
          count = count ∙ have.count;
        }
      where
        by_places : (i : ℕ) (k : Option (List ℕ)) (one : KeyReader)
            → (slice_get keys i ≡ Some k) ⊎ ((i ≡ length keys) × (key ≡ k))
            → (slice_get old.readers.items i ≡ Some one) ⊎ ((i ≡ length old.readers.items) × (next ≡ one))
            → IsKeyRead head lines key next → IsKeyRead head lines k one
        by_places i k one (inl at_k) (inl at_one) fresh = have.each i k one at_k at_one
        by_places i k one (inl at_k) (inr is_next) fresh =
            absurd (let within : i < length keys = slice_get_within keys i k at_k in omega (arith, within, is_next.0, have.long))
        by_places i k one (inr is_key) (inl at_one) fresh =
            absurd (let within : i < length old.readers.items = slice_get_within old.readers.items i one at_one in
            omega (arith, within, is_key.0, have.long))
        by_places i k one (inr is_key) (inr is_next) fresh =
            subst (λ z. IsKeyRead head lines z one) is_key.1 (subst (λ z. IsKeyRead head lines key z) is_next.1 fresh)
