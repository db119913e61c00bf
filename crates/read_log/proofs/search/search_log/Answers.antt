-- What was found by the bands' own comparison is so by their values; only writes stand in the way.
use Rattle.read_log.proofs.SearchLemmas.{fault_found, is_of_log, searched}
use Rattle.history_core.proofs.Bands.{HaveSameFields}
use Rattle.read_log.proofs.search.search_log.Goals as goal

pub fault_of-requires : goal.fault_of-requires
fault_of-requires c = is_of_log HaveSameFields c.args.log.now c.in-Err.error c.requires c.in-Err.ensures

pub returns-in-Ok : goal.returns-in-Ok
returns-in-Ok c = searched c.args.log.now c.in-Ok.search c.in-Ok.ensures

pub returns-in-Err : goal.returns-in-Err
returns-in-Err c = fault_found c.args.log.now c.in-Err.error c.fault_of.result c.requires c.in-Err.ensures c.fault_of.ensures
