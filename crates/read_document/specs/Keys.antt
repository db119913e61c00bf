-- The keys of a document (this project's own).
use Rattle.std.specs.Prelude.{ℕ, List, codes}
use Rattle.read_document.specs.declared.key.Key.{Key}
use Rattle.read_document.specs.declared.key.Key.TheVariants.{Opening, Noise, Limit, Ops, Order}
use Rattle.read_document.specs.declared.key.Key.TheVariants.{Writes, Reads, Steps, Plans, Scripts, Terms}
use Rattle.read_document.specs.declared.key.Key.TheVariants.{Who, Kind, Begin, End, Record, Key as OfKey}
use Rattle.read_document.specs.declared.key.Key.TheVariants.{Repeats, From, Swapped, Found}

abbrev pub name_of : Key → List ℕ
name_of Opening = codes "opening"
name_of Noise = codes "noise"
name_of Limit = codes "limit"
name_of Ops = codes "ops"
name_of Order = codes "order"
name_of Writes = codes "writes"
name_of Reads = codes "reads"
name_of Steps = codes "steps"
name_of Plans = codes "plans"
name_of Scripts = codes "scripts"
name_of Terms = codes "terms"
name_of Who = codes "who"
name_of Kind = codes "kind"
name_of Begin = codes "begin"
name_of End = codes "end"
name_of Record = codes "record"
name_of OfKey = codes "key"
name_of Repeats = codes "repeats"
name_of From = codes "from"
name_of Swapped = codes "swapped"
name_of Found = codes "found"
