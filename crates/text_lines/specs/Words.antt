-- The text that codes stand for (this project's own).
use Rattle.std.specs.Prelude.{◌≡◌, ◌<◌, ◌-◌, ◌+◌, ◌/◌, ◌%◌, ℕ, Bool, true, false, List, [], ◌∷◌}
use Rattle.std.specs.Prelude.{◌++◌, codes, length, nat_lt, ◌==◌, if◌then◌else◌}
use Rattle.std.specs.List.{flat_map}
use Rattle.text_lines.specs.Splits.{lines_of}
use Rattle.text_lines.specs.declared.text.PackedText.{PackedText}

-- what lines of logs are made of, with a space behind each comma and without: the words around their values
abbrev pub phrase : ℕ → List ℕ
phrase n = if n == 0 then codes "{\"who\":"
    else (if n == 1 then codes ",\"kind\":\"write\",\"begin\":"
    else (if n == 2 then codes ",\"kind\":\"read\",\"begin\":"
    else (if n == 3 then codes ",\"kind\":\"cas\",\"begin\":"
    else (if n == 4 then codes ",\"kind\":\""
    else (if n == 5 then codes "\",\"begin\":"
    else (if n == 6 then codes ",\"end\":"
    else (if n == 7 then codes ",\"record\":"
    else (if n == 8 then codes ",\"record\":["
    else (if n == 9 then codes ",\"from\":"
    else (if n == 10 then codes ",\"swapped\":"
    else (if n == 11 then codes ",\"found\":"
    else (if n == 12 then codes ",\"key\":\""
    else (if n == 13 then codes "null"
    else (if n == 14 then codes ", \"kind\": \"write\", \"begin\":"
    else (if n == 15 then codes ", \"kind\": \"read\", \"begin\":"
    else (if n == 16 then codes ", \"kind\": \""
    else (if n == 17 then codes ", \"end\":"
    else (if n == 18 then codes ", \"record\":"
    else codes "]}"))))))))))))))))))

-- two digits
abbrev pub pair : ℕ → List ℕ
pair n = (48 + n / 10) ∷ (48 + n % 10) ∷ []

-- What one code stands for: below 128 for a byte of this number, below 228 for two digits, and else for a phrase.
-- Where a text isn't packed, each code is a byte.
abbrev pub word : Bool → ℕ → List ℕ
word false code = code ∷ []
word true code = if nat_lt code 128 then code ∷ []
    else (if nat_lt code 228 then pair (code - 128) else phrase (code - 228))

-- the text that these codes stand for
abbrev pub told : Bool → List ℕ → List ℕ
told packed codes = flat_map (word packed) codes

-- the text that is kept
abbrev pub text_in : PackedText → List ℕ
text_in text = told text.packed text.codes.items

-- a text begins with what a code stands for, and behind it stands the rest
pub record BeginsWith (text : List ℕ) (code : ℕ) (rest : List ℕ) : Type 0 where
  pub parts : text ≡ word true code ++ rest
  pub shorter : length rest < length text

-- the first line of the text that codes stand for, and the codes of the lines behind it
pub record IsNextLine (packed : Bool) (codes line behind : List ℕ) : Type 0 where
  pub lines : lines_of (told packed codes) ≡ line ∷ lines_of (told packed behind)
  pub shorter : length behind < length codes
