-- The register's cell is found, and the rest is the write there.
use Rattle.family_four_slot.proofs.family.FourSlotFamilyFamily.write_from.Goals as goal

pub returns : goal.returns
returns g c =
    let w = c.write_at.ensures.write in
    record {
      own = w.own;
      access = w.access;
      written = w.written;
      others = w.others;
      tags = w.tags;
      so_far = c.write_at.ensures.so_far;
    }
