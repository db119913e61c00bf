-- The register's cell is found, and the rest is the read there.
use Rattle.family_triple.proofs.family.TripleFamilyFamily.read_from.Goals as goal

pub returns : goal.returns
returns g c = record { read = c.read_at.ensures.read; so_far = c.read_at.ensures.so_far }
