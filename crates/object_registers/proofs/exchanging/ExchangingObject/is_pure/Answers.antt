-- A set shows, and so does a compare-and-set between two records.
use Rattle.object_registers.proofs.Effects.{set_shows, swap_shows, try_shows}
use Rattle.object_registers.proofs.exchanging.ExchangingObject.is_pure.Goals as goal

pub returns-in-Sets-clause-exact : goal.returns-in-Sets-clause-exact
returns-in-Sets-clause-exact c h = absurd (set_shows c.args.what _ c.in-Sets.is h)

pub returns-in-Swaps-clause-exact : goal.returns-in-Swaps-clause-exact
returns-in-Swaps-clause-exact c h = swap_shows c.args.what _ _ c.in-Swaps.is h

pub returns-in-Tries-clause-exact : goal.returns-in-Tries-clause-exact
returns-in-Tries-clause-exact c h = try_shows c.args.what _ _ c.in-Tries.is h
