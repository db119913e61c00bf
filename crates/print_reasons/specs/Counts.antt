-- Counts below a verdict, how little is shown, and how a log ends (this project's own).
use Rattle.std.specs.Prelude.{ℕ, ◌*◌, ◌++◌, List, [], codes, Bool, true, false, nat_eq, nat_lt, if◌then◌else◌}
use Rattle.std.specs.Fmt.{decimal}

abbrev pub count_text : ℕ → List ℕ → List ℕ
count_text number words = decimal number ++ words

-- what is told of the end of a log: that it isn't there
abbrev pub end_text : Bool → List ℕ
end_text true = codes "\n"
end_text false = codes "; no last line `done`\n"

-- how little a lawful log shows: nothing if it has no operation, and little if less than one
-- record of a hundred was read
abbrev pub little_text : ℕ → ℕ → ℕ → List ℕ
little_text ops records read =
    if nat_eq ops 0 then codes "Nothing was shown: there is no operation.\n"
    else (if nat_lt (read * 100) records
    then codes "Little was shown: less than 1 % of the records were read.\n" else [])
