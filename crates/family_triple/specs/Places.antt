-- Where the cells of a family of triple buffers lie: the word of each on a line of eight words, and its three slots
-- side by side (this project's own).
use Rattle.std.specs.Prelude.{ℕ, ◌+◌, ◌-◌, ◌*◌, nat_lt, cond}
use Rattle.family_table.specs.Layouts.{Layout}

-- the number of a process among the others of this one
abbrev pub among : ℕ → ℕ → ℕ
among i j = cond (nat_lt j i) j (j - 1)

abbrev pub word_at : ℕ → ℕ → ℕ
word_at k i = 8 * k + 8 + i

abbrev pub slot_at : ℕ → ℕ → ℕ
slot_at k i = 3 * k + i

-- a spare line comes first, which nobody stores to
abbrev pub triples : ℕ → Layout
triples n = record {
  cells = n * n;
  cell_words = 1;
  cell_slots = 3;
  words = 8 * (n * n) + 8;
  slots = 3 * (n * n);
  word = word_at;
  slot = slot_at;
}
