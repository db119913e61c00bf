-- A write shows.
use Rattle.object_registers.proofs.Effects.{limited_set_shows, limited_swap_shows, limited_try_shows}
use Rattle.object_registers.proofs.limited_exchanging.LimitedExchangingObject.is_pure.Goals as goal

pub returns-in-Sets-clause-exact : goal.returns-in-Sets-clause-exact
returns-in-Sets-clause-exact c h = absurd (limited_set_shows c.args.what _ c.in-Sets.is h)

pub returns-in-Swaps-clause-exact : goal.returns-in-Swaps-clause-exact
returns-in-Swaps-clause-exact c h = absurd (limited_swap_shows c.args.what _ _ c.in-Swaps.is h)

pub returns-in-Tries-clause-exact : goal.returns-in-Tries-clause-exact
returns-in-Tries-clause-exact c h = absurd (limited_try_shows c.args.what _ _ c.in-Tries.is h)
