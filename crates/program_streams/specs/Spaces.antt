-- The white space at the end of a text (this project's own).
use Rattle.std.specs.Prelude.{ℕ, ◌+◌, ◌≤◌, List, Bool, nat_lt}
use Rattle.std.specs.Char.{is_ascii_whitespace}
use Rattle.std.specs.List.{suffix_len}

-- how many bytes of white space a text ends in
abbrev pub space_behind : List ℕ → ℕ
space_behind bytes = suffix_len is_ascii_whitespace bytes

-- so many of them may stand behind the last line of a log
abbrev pub max_space : ℕ
max_space = 1048576

-- whether a text ends in more
abbrev pub ends_in_space : List ℕ → Bool
ends_in_space bytes = nat_lt max_space (space_behind bytes)

-- so many are kept at most: a piece of the input may come before they are counted
abbrev pub most_kept_space : ℕ
most_kept_space = max_space + 1048577
