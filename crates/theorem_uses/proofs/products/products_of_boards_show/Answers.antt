-- Each is a part of it.
use Rattle.theorem_uses.proofs.Theorems.{board_calls, board_shows, call_stands, greatest_is, chooses}
use Rattle.theorem_uses.proofs.products.products_of_boards_show.Goals as goal

pub returns-clause-calls : goal.returns-clause-calls
returns-clause-calls g c = board_calls g.F.Family

pub returns-clause-stands : goal.returns-clause-stands
returns-clause-stands g c = call_stands g.F.Family

pub returns-clause-shows : goal.returns-clause-shows
returns-clause-shows g c = board_shows g.F.Family

pub returns-clause-greatest : goal.returns-clause-greatest
returns-clause-greatest g c = greatest_is g.F.Family

pub returns-clause-chooses : goal.returns-clause-chooses
returns-clause-chooses g c = chooses g.F.Family
