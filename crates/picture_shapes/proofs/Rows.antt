-- One row more behind those so far, which begin behind what stood before.
use Rattle.std.proofs.Common.{◌≡◌, ◌++◌, List, append_assoc, ap, sym, ◌∙◌}

pub row : {T : Type 0} (start rows more before after next : List T) → next ≡ rows ++ more → before ≡ start ++ rows
    → after ≡ before ++ more → after ≡ start ++ next
row start rows more before after next is so_far pushed =
    pushed ∙ ap (λ t. t ++ more) so_far ∙ append_assoc start rows more ∙ ap (λ t. start ++ t) (sym is)
