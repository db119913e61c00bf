-- A text, and an array of whole numbers, have no float in them, and are records with their own text.
use Rattle.std.proofs.Common.{◌≡◌, Bool, true, false, Some, refl, rules, tests}
use Rattle.std.specs.Prelude.{◌&&◌}
use Rattle.std.specs.List.{list_all}
use Rattle.serde_json.specs.Data.{unsigned, negative, float, Data, null, boolean, number, string, array, object, Items, no_items, item}
use Rattle.serde_json.specs.Written.{compact_text, has_float, items_have_float}
use Rattle.read_document.specs.Values.{list_of}
use Rattle.read_document.specs.Records.{is_kept, is_whole, record_text}

whole_has_no_float : (d : Data) → is_whole d ≡ true → has_float d ≡ false
whole_has_no_float null h = cc
whole_has_no_float (boolean b) h = cc
whole_has_no_float (number (unsigned n)) h = refl
whole_has_no_float (number (negative z)) h = cc
whole_has_no_float (number (float x)) h = cc
whole_has_no_float (string s) h = cc
whole_has_no_float (array ds) h = cc
whole_has_no_float (object ms) h = cc

first_holds : (a b : Bool) → (a && b) ≡ true → a ≡ true
first_holds a b both = search (rules, tests)

second_holds : (a b : Bool) → (a && b) ≡ true → b ≡ true
second_holds a b both = search (rules, tests)

items_have_no_float : (ds : Items) → list_all is_whole (list_of ds) ≡ true → items_have_float ds ≡ false
items_have_no_float no_items h = refl
items_have_no_float (item d ds) h =
    rw (whole_has_no_float d (first_holds (is_whole d) (list_all is_whole (list_of ds)) h))
    (items_have_no_float ds (second_holds (is_whole d) (list_all is_whole (list_of ds)) h))

pub kept_has_no_float : (d : Data) → is_kept d ≡ true → has_float d ≡ false
kept_has_no_float null h = cc
kept_has_no_float (boolean b) h = cc
kept_has_no_float (number n) h = cc
kept_has_no_float (string s) h = refl
kept_has_no_float (array ds) h = items_have_no_float ds (second_holds _ (list_all is_whole (list_of ds)) h)
kept_has_no_float (object ms) h = cc

pub kept_is_record : (d : Data) → is_kept d ≡ true → record_text d ≡ Some (compact_text d)
kept_is_record null h = cc
kept_is_record (boolean b) h = cc
kept_is_record (number n) h = cc
kept_is_record (string s) h = refl
kept_is_record (array ds) h = rw h refl
kept_is_record (object ms) h = cc
