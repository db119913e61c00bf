-- Those are kept whose numbers are named.
use Rattle.std.proofs.Common.{rules, refl}
use Rattle.std.proofs.lemmas.Map.Made.{filter_same_pairs}
use Rattle.std.specs.BTreeSet.{contains}
use Rattle.std.specs.Ordering.{nat_cmp}
use Rattle.watch_lines.specs.declared.records.Records.{Records}
use Rattle.watch_lines.proofs.KeptLemmas.{retained}
use Rattle.watch_lines.proofs.records.Records.retain.Goals as goal

pub returns : goal.returns
returns c =
    let new : Records = record {
      numbers = c.retain.new.self;
      next = c.args.self.now.next;
      most = c.args.self.now.most;
    } in
    retained (λ n. contains nat_cmp c.args.named.now n) c.args.self.now new
    (filter_same_pairs _ (λ e. contains nat_cmp c.args.named.now e.1) _ (λ k v b w f' t. search rules) _ _ c.retain.ensures.filtered)
    c.retain.ensures.was_ordered refl
