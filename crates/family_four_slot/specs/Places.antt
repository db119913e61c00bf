-- Where the four-slot cells of a family lie (this project's own): the writer's words of a cell on a line of eight
-- words, and the reader's word on the next
use Rattle.std.specs.Prelude.{ℕ, zero, suc, ◌+◌, ◌*◌}
use Rattle.family_table.specs.Layouts.{Layout}

-- the words of a cell: `latest`, `reading`, and the bits of the pairs
abbrev pub offset : ℕ → ℕ
offset zero = 0
offset (suc zero) = 8
offset (suc (suc i)) = 2 + i

abbrev pub word_at : ℕ → ℕ → ℕ
word_at k i = 16 * k + 8 + offset i

abbrev pub slot_at : ℕ → ℕ → ℕ
slot_at k i = 4 * k + i

-- a spare line comes first, which nobody stores to
abbrev pub four_slots : ℕ → Layout
four_slots n = record {
  cells = n * n;
  cell_words = 4;
  cell_slots = 4;
  words = 16 * (n * n) + 8;
  slots = 4 * (n * n);
  word = word_at;
  slot = slot_at;
}
