-- Looked for at once, so that another value is refused at once.
use Rattle.std.proofs.Common.{rules}
use Rattle.example_control.proofs.calls.publish_and_tell.Goals as goal

pub publish-requires : goal.publish-requires
publish-requires g c = search rules

pub returns-in_err-publish-clause-pass : goal.returns-in_err-publish-clause-pass
returns-in_err-publish-clause-pass g c = search rules

pub returns-in_err-publish-clause-process : goal.returns-in_err-publish-clause-process
returns-in_err-publish-clause-process g c = search rules

pub returns-in_err-publish-clause-receipt : goal.returns-in_err-publish-clause-receipt
returns-in_err-publish-clause-receipt g c = search rules

pub returns-in_err-publish-clause-names : goal.returns-in_err-publish-clause-names
returns-in_err-publish-clause-names g c = search rules

pub returns-clause-pass : goal.returns-clause-pass
returns-clause-pass g c = search rules

pub returns-clause-process : goal.returns-clause-process
returns-clause-process g c = search rules

pub returns-clause-receipt : goal.returns-clause-receipt
returns-clause-receipt g c = search rules

pub returns-clause-names : goal.returns-clause-names
returns-clause-names g c = search rules
