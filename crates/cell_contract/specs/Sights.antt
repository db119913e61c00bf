-- What a seat knows, and what of it is parted off: of both cells, over the notes of each (this project's own).
use Rattle.cell_contract.specs.declared.sight.Sight.{Sight}
use Rattle.cell_contract.specs.declared.sight.Sight.TheVariants.{Spent, Told, Writer, Reader, Both}

module _ {T W G : Type 0} where
  -- the writer's notes, and the reader's, of a seat that has both
  abbrev pub writer_part : Sight T W G → Sight T W G
  writer_part (Both p g) = Writer p
  writer_part v = v

  abbrev pub reader_part : Sight T W G → Sight T W G
  reader_part (Both p g) = Reader g
  reader_part v = Spent

  -- the notes in a view, or these where it has none
  abbrev pub writer_or : W → Sight T W G → W
  writer_or d (Writer p) = p
  writer_or d (Both p g) = p
  writer_or d _ = d

  abbrev pub reader_or : G → Sight T W G → G
  reader_or d (Reader g) = g
  reader_or d (Both p g) = g
  reader_or d _ = d

  -- the record of a receipt's view
  abbrev pub receipt_or : T → Sight T W G → T
  receipt_or x (Told y) = y.value
  receipt_or x _ = x
