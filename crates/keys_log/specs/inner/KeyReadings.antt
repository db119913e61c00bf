-- How far the logs of several keys are read. Only private functions cite this, which is this project's own.
use Rattle.std.specs.Prelude.{◌≡◌, ◌⊎◌, ℕ, List, [], ◌∷◌, ◌++◌, length, Bool, true, false, map, slice_get, slice_set}
use Rattle.std.specs.Prelude.{Option, None, Some, Ok, option_map, string_bytes}
use Rattle.history_core.specs.declared.history.Op.{Op}
use Rattle.program_runs.specs.declared.fault.Fault.{Fault}
use Rattle.program_runs.specs.declared.fault.Fault.TheVariants.{NoMemory}
use Rattle.text_lines.specs.Splits.{lines_of}
use Rattle.read_line.specs.Lines.{Head, head_seen}
use Rattle.kept_lines.specs.Numbered.{AreNumbered}
use Rattle.keys_log.specs.KeyFaults.{IsFaultInKey}
use Rattle.keys_log.specs.Keys.{is_met, is_of, keys_in, lines_of_key, places_of_key, rule_for}
use Rattle.lines_log.specs.Logs.{AreAll, first_key, judged_line, rule_in}
use Rattle.lines_log.specs.inner.Readings.{AreRead, IsFinished, rule_of}
use Rattle.keys_log.specs.declared.key_reader.KeyReader.{KeyReader}
use Rattle.kept_lines.specs.declared.keys_log.KeyLog.{KeyLog}
use Rattle.keys_log.specs.declared.keys_reader.KeysReader.{KeysReader}

-- the name by which a key is looked up
abbrev pub name_of : Option (List ℕ) → List ℕ
name_of None = []
name_of (Some text) = 61 ∷ text

abbrev pub names_of : List (Option (List ℕ)) → List (List ℕ)
names_of keys = map name_of keys

-- of these lines those of this key were read
pub record IsKeyRead (head : Head) (lines : List (List ℕ)) (key : Option (List ℕ)) (reader : KeyReader) : Type 0 where
  pub read : AreRead head.opening (lines_of_key key lines) reader.reader
  pub limits : rule_of reader.reader ≡ rule_for head key
  pub places : reader.places.items ≡ places_of_key key lines

-- behind these lines a line is an operation of this key
pub record IsOfKey (head : Head) (lines : List (List ℕ)) (key : Option (List ℕ)) (line : List ℕ)
    (said : Op (List ℕ)) : Type 0 where
  pub of_key : is_of key line ≡ true
  pub judged : (count : ℕ) → judged_line (rule_for head key) count true line ≡ Ok (Some said)

-- no line of a key was read yet
pub record IsKeyBegun (head : Head) (key : Option (List ℕ)) (reader : KeyReader) : Type 0 where
  pub read : AreRead head.opening [] reader.reader
  pub limits : rule_of reader.reader ≡ rule_for head key
  pub places : reader.places.items ≡ []

-- the reader with this number has read the lines of this key
abbrev pub IsReadAt : Head → List (List ℕ) → Option (List ℕ) → List KeyReader → ℕ → Type 0
IsReadAt head lines key readers number =
    (one : KeyReader) × (slice_get readers number ≡ Some one) × IsKeyRead head lines key one

-- it has read one more, and the others are the same
abbrev pub IsEnteredAt : Head → List (List ℕ) → Option (List ℕ) → List ℕ → List KeyReader → List KeyReader → ℕ → Type 0
IsEnteredAt head lines key line old new number =
    (one : KeyReader) × (new ≡ slice_set old number one) × IsKeyRead head (lines ++ line ∷ []) key one

-- why an operation isn't entered in the log of its key
abbrev pub IsKeyFault : Head → List (List ℕ) → Option (List ℕ) → List ℕ → Fault → Type 0
IsKeyFault head lines key line f = (f ≡ NoMemory) ⊎ IsFaultInKey head lines key line f

-- these lines were read, and these are their keys
pub record HaveKeys (head : Head) (lines : List (List ℕ)) (keys : List (Option (List ℕ)))
    (reader : KeysReader) : Type 0 where
  pub heads : head_seen reader.header ≡ head
  pub numbers : AreNumbered (names_of keys) reader.numbering
  pub long : length reader.readers.items ≡ length keys
  pub each : (i : ℕ) (key : Option (List ℕ)) (one : KeyReader) → slice_get keys i ≡ Some key →
      slice_get reader.readers.items i ≡ Some one → IsKeyRead head lines key one
  pub count : reader.count ≡ length lines

-- these lines were read, of which the first has this key
abbrev pub AreKeysRead : Head → Option (List ℕ) → List (List ℕ) → KeysReader → Type 0
AreKeysRead head first lines reader = HaveKeys head lines (keys_in first lines) reader

-- some lines were read
abbrev pub HasReadKeys : KeysReader → Type 0
HasReadKeys reader =
    (head : Head) × (first : Option (List ℕ)) × (lines : List (List ℕ)) × AreKeysRead head first lines reader

-- of a key that isn't met yet there is no line
abbrev pub AreOthers : List (Option (List ℕ)) → List (List ℕ) → Type 0
AreOthers keys lines = (key : Option (List ℕ)) → is_met keys key ≡ false →
    (lines_of_key key lines ≡ []) × (places_of_key key lines ≡ [])

-- one more line was read: an operation was entered, or it is the end
abbrev pub ReadsKeyedLine : Head → Option (List ℕ) → List (List ℕ) → List ℕ → Bool → KeysReader → Bool → Type 0
ReadsKeyedLine head first lines line last new false = AreKeysRead head first (lines ++ line ∷ []) new
ReadsKeyedLine head first lines line last new true = AreKeysRead head first lines new
    × (judged_line (rule_for head first) (length lines) last line ≡ Ok None)

-- this body goes on with the rest; or its end was read, and nothing is left
abbrev pub HasKeyedRest : Head → Bool → List (List ℕ) → List (List ℕ) → List ℕ → Type 0
HasKeyedRest head false body lines rest = body ≡ lines ++ lines_of rest
HasKeyedRest head true body lines rest = (rest ≡ []) × AreAll (rule_in head body) true body lines

-- lines of this body were read
pub record ArePartlyRead (head : Head) (body : List (List ℕ)) (ended : Bool) (rest : List ℕ)
    (reader : KeysReader) : Type 0 where
  pub lines : List (List ℕ)
  pub read : AreKeysRead head (first_key body) lines reader
  pub left : HasKeyedRest head ended body lines rest

-- the body was read
pub record AreReadWhole (head : Head) (body : List (List ℕ)) (reader : KeysReader) (ended : Bool) : Type 0 where
  pub lines : List (List ℕ)
  pub read : AreKeysRead head (first_key body) lines reader
  pub all : AreAll (rule_in head body) ended body lines

-- what was read of a key, as it is given
pub record IsKeyFinished (limit : ℕ) (has_end : Bool) (reader : KeyReader) (log : KeyLog) : Type 0 where
  pub key : option_map string_bytes log.key ≡ (rule_of reader.reader).key
  pub places : log.places.items ≡ reader.places.items
  pub is : IsFinished limit has_end reader.reader log.log

-- what was read of each of these keys
pub record AreFinished (limit : ℕ) (has_end : Bool) (readers : List KeyReader) (logs : List KeyLog) : Type 0 where
  pub long : length logs ≡ length readers
  pub each : (i : ℕ) (reader : KeyReader) (log : KeyLog) → slice_get readers i ≡ Some reader →
      slice_get logs i ≡ Some log → IsKeyFinished limit has_end reader log
