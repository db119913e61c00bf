-- What a loose side owns: what a box of it owns, or nothing (this project's definitions).
use Rattle.std.specs.Prelude.{Bool, true, false}
use base.Fml.{Fml, ftrue}
use denote.RattleType.{RattleType}
use denote.RawPtr.{Ptr}
use Rattle.std.specs.Box.Ownership.{box_owns}
use mir.Syntax.{Ty}
use Rattle.std_heap.specs.declared.Global.{Global}
use Rattle.std_heap.specs.contracts.GlobalAllocator.TheImpl.{ghosts}

-- the token with which the heap's allocator frees a block: the same for every handle of it
abbrev pub heap : Global
heap = record { memory = record { seal = tt } }

abbrev pub chunk : Ty → Ptr → Fml
chunk = ghosts.dealloc_token heap

abbrev pub loosely : (R : RattleType) → Bool → Ptr → R.Denot → Fml
loosely R true p s = box_owns chunk R p s
loosely R false p s = ftrue
