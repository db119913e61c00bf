-- One part more of a text.
use Rattle.std.proofs.Common.{◌≡◌, ◌∙◌, ◌++◌, ℕ, List, ap, append_assoc}

pub one_part : (start one rest all new : List ℕ) → new ≡ start ++ one → start ++ (one ++ rest) ≡ all → new ++ rest ≡ all
one_part start one rest all new added before = ap (λ (l : List ℕ). l ++ rest) added ∙ append_assoc start one rest ∙ before
