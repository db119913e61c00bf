-- Both definitions name the five events and the slot of each access, and nothing else of it.
use Rattle.four_slot_core.proofs.traces.AccessesAgree.{clear_as, fresh_as}
use Rattle.four_slot_core.proofs.laws.agreeing_accesses_are_alike.Goals as goal

pub returns : goal.returns
returns g = record {
  clear = λ writer v reader r aw ar. clear_as writer v reader r aw ar;
  fresh = λ writer v reader r aw ar. fresh_as writer v reader r aw ar;
}
