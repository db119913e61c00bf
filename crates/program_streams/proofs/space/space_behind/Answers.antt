-- What is trimmed at the end is the white space.
use Rattle.program_streams.proofs.SpaceLemmas.{trimmed}
use Rattle.program_streams.proofs.space.space_behind.Goals as goal

pub returns : goal.returns
returns c = trimmed c.args.bytes.now c.trim_ascii_end.result.now c.trim_ascii_end.ensures.value
