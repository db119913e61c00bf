-- The cells of a family of processes: process i has a row of cells, one for each process, and process j reads the cells
-- of its column (this project's own).
use Rattle.std.specs.Prelude.{ℕ, zero, suc, ◌+◌, ◌*◌, ◌/◌, ◌%◌, List, [], ◌∷◌}

-- the cell that process i writes and process j reads. A process has a cell that would be its own, and that nobody uses
abbrev pub place : ℕ → ℕ → ℕ → ℕ
place n i j = i * n + j

abbrev pub writer_of : ℕ → ℕ → ℕ
writer_of n k = k / n

abbrev pub reader_of : ℕ → ℕ → ℕ
reader_of n k = k % n

-- m of these in turn
abbrev pub upto : {A : Type 0} → (ℕ → A) → ℕ → ℕ → List A
upto f i zero = []
upto f i (suc m) = f i ∷ upto f (i + 1) m
