-- Of numbered records later reads rise.
use Rattle.std.proofs.Common.{◌≤◌, arith}
use Rattle.std.specs.Arc.{arc_value}
use Rattle.cell_contract.proofs.Standing.{later_reads_rise}
use Rattle.cell_four_slot.specs.Words as four
use Rattle.cell_triple.specs.Words as triple
use Rattle.c_registers.specs.Numbers.{Always, follows_itself, follows_on, IsNoEarlier}
use Rattle.c_registers.specs.declared.numbered.Numbered.{Numbered}
use Rattle.theorem_uses.specs.Reads.{FourSlotReadsNeverFall, TripleReadsNeverFall}

itself : {W : Type 0} (a : Numbered W) → IsNoEarlier a a
itself a = follows_itself a.number a.words

on : {W : Type 0} (a b c : Numbered W) → IsNoEarlier a b → IsNoEarlier b c → IsNoEarlier a c
on a b c = follows_on a.number a.words b.number b.words c.number c.words

pub four_slot_never_falls : {W : Type 0} → FourSlotReadsNeverFall W
four_slot_never_falls {W} g h a i j e f s b c read has_b has_c b_ends c_ends c_begins after less =
    let rises = later_reads_rise {T = Numbered W} Always IsNoEarlier itself on (four.opening_of (arc_value g.cell)) (four.heard_by h.get)
    (four.answers_of h.get) (four.get_times h.get) i j e f s b c read.so_far has_b has_c b_ends c_ends c_begins after in
    let up : b.number ≤ c.number = rises.0 in
    let none : ⊥ = omega arith in
    none

pub triple_never_falls : {W : Type 0} → TripleReadsNeverFall W
triple_never_falls {W} g h a i j e f s b c read has_b has_c b_ends c_ends c_begins after =
    let get = h.room.inner.get in
    later_reads_rise {T = Numbered W} Always IsNoEarlier itself on (triple.opening_of (arc_value g.room.inner.cell)) (triple.heard_by get)
    (triple.answers_of get) (triple.get_times get) i j e f s b c read.so_far has_b has_c b_ends c_ends c_begins after
