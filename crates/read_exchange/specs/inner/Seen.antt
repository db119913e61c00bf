-- What was read of an operation, with records as the bytes of their texts. Only private functions cite this, which is
-- this project's own.
use Rattle.std.specs.Prelude.{option_map, string_bytes}
use Rattle.read_exchange.specs.Exchanges.{Asked, compares, Comparison, is_refused, reads, SaidEffect, what_seen, writes}
use Rattle.read_exchange.specs.declared.compare.AskedOf.{AskedOf}
use Rattle.read_exchange.specs.declared.compare.AskedOf.TheVariants.{Writes, Reads, Refused, Compares}
use Rattle.read_exchange.specs.declared.compare.Compared.{Compared}
use Rattle.read_exchange.specs.declared.compare.Effect.{Effect}

abbrev pub comparison_seen : Compared → Comparison
comparison_seen c = record { from = string_bytes c.from; swapped = c.swapped; found = option_map string_bytes c.found }

abbrev pub asked_seen : AskedOf → Asked
asked_seen (Writes maybe) = writes maybe
asked_seen Reads = reads
asked_seen Refused = is_refused
asked_seen (Compares c) = compares (comparison_seen c)

abbrev pub effect_seen : Effect → SaidEffect
effect_seen e = record { maybe = e.maybe; what = what_seen e.what }
