-- Words and a number behind them (this project's own).
use Rattle.std.specs.Prelude.{ℕ, ◌++◌, List}
use Rattle.std.specs.Fmt.{decimal}

abbrev pub number_text : List ℕ → ℕ → List ℕ
number_text words number = words ++ decimal number
