-- By the kind.
use Rattle.order_laws.proofs.OnceLemmas.{document_as_any}
use Rattle.order_laws.proofs.laws.document_as_any.Goals as goal

pub returns : goal.returns
returns c = document_as_any
