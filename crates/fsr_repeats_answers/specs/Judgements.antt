-- Which logs whose records repeat are lawful, with and without a limit, and what is known of one (this project's own).
use Rattle.std.specs.Prelude.{◌≡◌, ◌⊎◌, ℕ, List, Option, None, Some}
use Rattle.object_core.specs.declared.operation.Operation.{Operation}
use Rattle.object_core.specs.Logs.{IsLinearizable}
use Rattle.object_registers.specs.Registers.{exchanging_after, limited_exchanging_after}
use Rattle.object_registers.specs.declared.exchanging.Exchange.{Exchange}
use Rattle.object_registers.specs.declared.limited_exchanging.LimitedExchanging.{LimitedExchanging}
use Rattle.object_sweep.specs.Reached.{AreTooMany, IsLostAt}
use Rattle.fsr_repeats_answers.specs.Evidence.{IsEvidence, opened}
use Rattle.fsr_repeats_answers.specs.declared.judgement.Judgement.{Judgement}
use Rattle.fsr_repeats_answers.specs.declared.judgement.Judgement.TheVariants.{Lawful, Lost, Limited, TooMany}

-- the opening, where this number of writes is due
abbrev pub opened_with : ℕ → LimitedExchanging
opened_with limit = record { held = 0; due = limit }

-- the operations have a lawful order; if there is a limit, one in which writes are refused only once none is due
abbrev pub HasLawfulOrder : Option ℕ → List (Operation Exchange) → Type 0
HasLawfulOrder None ops = IsLinearizable exchanging_after opened ops
HasLawfulOrder (Some limit) ops = IsLinearizable limited_exchanging_after (opened_with limit) ops

-- more configurations than the budget are reached, of a register without a limit, or of one that has it
abbrev pub AreTooManyWith : Option ℕ → List (Operation Exchange) → ℕ → ℕ → Type 0
AreTooManyWith None ops budget place = AreTooMany exchanging_after opened ops budget place
AreTooManyWith (Some limit) ops budget place =
    AreTooMany exchanging_after opened ops budget place
    ⊎ AreTooMany limited_exchanging_after (opened_with limit) ops budget place

-- What is known: the operations have a lawful order, or none. Then they are lost without a limit, too, with what shows
-- that; or without the limit they would have one, and with it they are lost.
abbrev pub IsJudgement : Option ℕ → List (Operation Exchange) → ℕ → Judgement → Type 0
IsJudgement limit ops budget Lawful = HasLawfulOrder limit ops
IsJudgement limit ops budget (Lost place evidence) =
    ¬ HasLawfulOrder limit ops × IsLostAt exchanging_after opened ops place × IsEvidence ops place evidence
IsJudgement limit ops budget (Limited place most) =
    ¬ HasLawfulOrder limit ops × (limit ≡ Some most) × HasLawfulOrder None ops
    × IsLostAt limited_exchanging_after (opened_with most) ops place
IsJudgement limit ops budget (TooMany place) = AreTooManyWith limit ops budget place
