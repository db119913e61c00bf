-- Each is a part of its definition.
use Rattle.theorem_uses.proofs.Noting.{nothing, orders, runs, scripts, takes, wishes}
use Rattle.theorem_uses.proofs.noted.log_orders_show.Goals as goal

pub returns-clause-takes : goal.returns-clause-takes
returns-clause-takes g c = takes

pub returns-clause-nothing : goal.returns-clause-nothing
returns-clause-nothing g c = nothing

pub returns-clause-orders : goal.returns-clause-orders
returns-clause-orders g c = orders

pub returns-clause-scripts : goal.returns-clause-scripts
returns-clause-scripts g c = scripts

pub returns-clause-wishes : goal.returns-clause-wishes
returns-clause-wishes g c = wishes

pub returns-clause-runs : goal.returns-clause-runs
returns-clause-runs g c = runs
