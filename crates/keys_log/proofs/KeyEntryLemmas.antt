-- One more line of several keys: it is entered in the log of its key, and the others stay.
use Rattle.std.proofs.Common.{◌≡◌, ℕ, List, [], ◌∷◌, ◌++◌, Option, Some, Bool, true, false, refl, ap, sym, ◌∙◌}
use Rattle.std.proofs.Common.{arith}
use Rattle.std.proofs.Common.{zero, suc, length, set, slice_get, subst, ◌+◌, ◌<◌, ◌≤◌, ◌⊎◌, inl, inr, Ok}
use Rattle.std.proofs.Common.{length-append}
use Rattle.std.specs.Prelude.{option_map, is_some}
use Rattle.std.proofs.lemmas.Bool.{cases_eq}
use Rattle.std.proofs.lemmas.List.{length-set}
use Rattle.std.proofs.lemmas.List.Sums.{count_by-le-length, length-filter}
use Rattle.std.proofs.lemmas.Option.{same_Some, slice_get_within}
use Rattle.history_core.proofs.Places.{get_set_other}
use Rattle.program_runs.specs.declared.fault.Fault.{Fault}
use Rattle.read_line.specs.Lines.{Head, head_seen, op_seen}
use Rattle.read_line.specs.declared.line.LineOp.{LineOp}
use Rattle.kept_lines.specs.declared.numbers.RecordNumbers.{RecordNumbers}
use Rattle.kept_lines.specs.Numbered.{AreNumbered}
use Rattle.keys_log.specs.KeyFaults.{IsKeyedFault}
use Rattle.keys_log.specs.Keys.{is_of, key_on, keys_in, lines_of_key, rule_for, with_key}
use Rattle.lines_log.specs.Logs.{judged_line}
use Rattle.keys_log.specs.inner.KeyReadings.{AreKeysRead, HaveKeys, IsEnteredAt, IsKeyFault, IsKeyRead, IsOfKey}
use Rattle.keys_log.specs.inner.KeyReadings.{IsReadAt, name_of, names_of}
use Rattle.lines_log.specs.inner.Readings.{HasReadLines}
use Rattle.keys_log.specs.declared.key_reader.KeyReader.{KeyReader}
use Rattle.keys_log.specs.declared.keys_reader.KeysReader.{KeysReader}
use Rattle.keys_log.proofs.KeyLemmas.{judged_anywhere, names_at, one_key_more, same_as_itself, same_is}
use Rattle.keys_log.proofs.KeyReadLemmas.{key_read_other}

pub read_at : (head : Head) (lines : List (List ℕ)) (key : Option (List ℕ)) (readers : List KeyReader) (number : ℕ) (one : KeyReader)
    → slice_get readers number ≡ Some one → IsReadAt head lines key readers number → IsKeyRead head lines key one
read_at head lines key readers number one at reads =
    subst (λ z. IsKeyRead head lines key z) (same_Some reads.0 one (sym reads.1 ∙ at)) reads.2

-- the reader with a key's number has read its lines
pub reads_key : (head : Head) (lines : List (List ℕ)) (keys : List (Option (List ℕ))) (key : Option (List ℕ)) (n : ℕ) (reader : KeysReader)
    → HaveKeys head lines keys reader → slice_get keys n ≡ Some key → n < length reader.readers.items
reads_key head lines keys key n reader have at =
    let within : n < length keys = slice_get_within keys n key at in omega (arith, within, have.long)

few_of_key : (key : Option (List ℕ)) (lines : List (List ℕ)) → length (lines_of_key key lines) ≤ length lines
few_of_key key lines =
    let few = count_by-le-length (is_of key) lines in
    let same = length-filter (is_of key) lines in omega (arith, few, same)

pub key_room : (head : Head) (lines : List (List ℕ)) (keys : List (Option (List ℕ))) (key : Option (List ℕ)) (n : ℕ) (reader : KeysReader)
    (one : KeyReader) → HaveKeys head lines keys reader → slice_get keys n ≡ Some key → slice_get reader.readers.items n ≡ Some one
    → (one.reader.count ≤ reader.count) × HasReadLines one.reader
key_room head lines keys key n reader one have at at_one =
    let read = have.each n key one at at_one in
    let few : length (lines_of_key key lines) ≤ length lines = few_of_key key lines in
    let count : one.reader.count ≡ length read.read.log = read.read.count in
    let long : length read.read.log ≡ length (lines_of_key key lines) = read.read.are.long in
    let all : reader.count ≡ length lines = have.count in
    (omega (arith, few, count, long, all), (head.opening, lines_of_key key lines, read.read))

there : (rs : List KeyReader) (n : ℕ) → n < length rs → (one : KeyReader) × (slice_get rs n ≡ Some one)
there [] n within = absurd (omega (arith, within))
there (r ∷ rs) zero within = (r, refl)
there (r ∷ rs) (suc n) within = there rs n (omega (arith, within))

pub reads_at : (head : Head) (lines : List (List ℕ)) (keys : List (Option (List ℕ))) (key : Option (List ℕ)) (n : ℕ) (reader : KeysReader)
    → HaveKeys head lines keys reader → slice_get keys n ≡ Some key → IsReadAt head lines key reader.readers.items n
reads_at head lines keys key n reader have at =
    let one = there reader.readers.items n (reads_key head lines keys key n reader have at) in
    (one.0, one.1, have.each n key one.0 at one.1)

set_at : (rs : List KeyReader) (m : ℕ) (r : KeyReader) → m < length rs → slice_get (set rs m r) m ≡ Some r
set_at [] m r within = absurd (omega (arith, within))
set_at (x ∷ xs) zero r within = refl
set_at (x ∷ xs) (suc m) r within = set_at xs m r (omega (arith, within))

-- a key has one number
one_number : (keys : List (Option (List ℕ))) (numbering : RecordNumbers) (key : Option (List ℕ)) (i n : ℕ)
    → AreNumbered (names_of keys) numbering → slice_get keys i ≡ Some key → slice_get keys n ≡ Some key → i ≡ n
one_number keys numbering key i n numbers at_i at_n =
    numbers.distinct (name_of key) i n (names_at keys i key at_i) (names_at keys n key at_n)

pub entered_key : (head : Head) (first : Option (List ℕ)) (lines : List (List ℕ)) (line : List ℕ) (n : ℕ) (old new : KeysReader)
    → HaveKeys head lines (with_key (keys_in first lines) (key_on line)) old
    → slice_get (with_key (keys_in first lines) (key_on line)) n ≡ Some (key_on line)
    → IsEnteredAt head lines (key_on line) line old.readers.items new.readers.items n
    → new.header ≡ old.header → new.numbering ≡ old.numbering → new.count ≡ old.count + 1
    → AreKeysRead head first (lines ++ line ∷ []) new
entered_key head first lines line n old new have at entered header numbering count =
    let keys : List (Option (List ℕ)) = with_key (keys_in first lines) (key_on line) in
    let more : keys_in first (lines ++ line ∷ []) ≡ keys = one_key_more (first ∷ []) lines line in
    let here : HaveKeys head (lines ++ line ∷ []) keys new = record {
      heads = ap head_seen header ∙ have.heads;
      numbers = subst (λ z. AreNumbered (names_of keys) z) (sym numbering) have.numbers;
      long = ap length entered.1 ∙ length-set old.readers.items n entered.0 ∙ have.long;
      each = λ i k one at_k at_one.
          by_place i k one at_k (ap (λ rs. slice_get rs i) (sym entered.1) ∙ at_one) (cases_eq i n) have at;
      count = omega (arith, count, have.count, length-append lines (line ∷ []));
    } in subst (λ ks. HaveKeys head (lines ++ line ∷ []) ks new) (sym more) here
  where
    other_key : (k : Option (List ℕ)) (b : Bool) → is_of k line ≡ b → ¬ (k ≡ key_on line) → is_of k line ≡ false
    other_key k true same apart = absurd (apart (same_is k (key_on line) same))
    other_key k false other apart = other

    by_place : (i : ℕ) (k : Option (List ℕ)) (one : KeyReader)
        → slice_get (with_key (keys_in first lines) (key_on line)) i ≡ Some k
        → slice_get (set old.readers.items n entered.0) i ≡ Some one → (i ≡ n) ⊎ (i ≡ n → ⊥)
        → HaveKeys head lines (with_key (keys_in first lines) (key_on line)) old
        → slice_get (with_key (keys_in first lines) (key_on line)) n ≡ Some (key_on line)
        → IsKeyRead head (lines ++ line ∷ []) k one
    by_place i k one at_k at_one (inl same) all at_n =
        let keys : List (Option (List ℕ)) = with_key (keys_in first lines) (key_on line) in
        let is_key : key_on line ≡ k = same_Some (key_on line) k (sym at_n ∙ ap (slice_get keys) (sym same) ∙ at_k) in
        let within : n < length old.readers.items = reads_key head lines keys (key_on line) n old all at_n in
        let set_one : slice_get (set old.readers.items n entered.0) n ≡ Some entered.0 = set_at old.readers.items n entered.0 within in
        let is_one : entered.0 ≡ one =
        same_Some entered.0 one (sym set_one ∙ ap (slice_get (set old.readers.items n entered.0)) (sym same) ∙ at_one) in
        subst (λ z. IsKeyRead head (lines ++ line ∷ []) z one) is_key
        (subst (λ z. IsKeyRead head (lines ++ line ∷ []) (key_on line) z) is_one entered.2)
    by_place i k one at_k at_one (inr apart) all at_n =
        let keys : List (Option (List ℕ)) = with_key (keys_in first lines) (key_on line) in
        let was : slice_get old.readers.items i ≡ Some one = sym (get_set_other old.readers.items n i entered.0 apart) ∙ at_one in
        key_read_other head lines k line one (all.each i k one at_k was)
        (other_key k (is_of k line) refl (λ e. apart (one_number keys old.numbering (key_on line) i n all.numbers
        (at_k ∙ ap Some e) at_n)))

-- what a line says is of its own key
pub of_own_key : (head : Head) (lines : List (List ℕ)) (limited last : Bool) (count : ℕ) (line : List ℕ) (found : Option LineOp)
    (op : LineOp)
    → limited ≡ is_some head.limit
    → judged_line (record { limited = limited; key = key_on line }) count last line ≡ Ok (option_map op_seen found)
    → found ≡ Some op → IsOfKey head lines (key_on line) line (op_seen op)
of_own_key head lines limited last count line found op limits said is = record {
  of_key = same_as_itself (key_on line);
  judged = λ other. judged_anywhere (rule_for head (key_on line)) count other last true line (op_seen op)
      (subst (λ (b : Bool). judged_line (record { limited = b; key = key_on line }) count last line ≡ Ok (Some (op_seen op))) limits
      (said ∙ ap (λ (o : Option LineOp). Ok (option_map op_seen o)) is));
}

pub keyed_fault : (head : Head) (lines : List (List ℕ)) (line : List ℕ) (last : Bool) (f : Fault)
    → IsKeyFault head lines (key_on line) line f → IsKeyedFault head lines line last f
keyed_fault head lines line last f (inl none) = inl none
keyed_fault head lines line last f (inr wrong) = inr (inr wrong)
