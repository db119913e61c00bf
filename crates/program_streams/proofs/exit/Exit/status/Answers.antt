-- No other end has the status.
use Rattle.program_streams.proofs.ExitLemmas.{alone}
use Rattle.program_streams.specs.declared.exit.Exit.TheVariants.{Sound, Unsound, NoCommand, Refused, NoMemory, Stream, NoThread, Undecided}
use Rattle.program_streams.specs.declared.exit.Exit.TheVariants.{Little}
use Rattle.program_streams.proofs.exit.Exit.status.Goals as goal

pub returns-in-Sound-clause-alone : goal.returns-in-Sound-clause-alone
returns-in-Sound-clause-alone c = rw c.in-Sound.is (alone Sound)

pub returns-in-Unsound-clause-alone : goal.returns-in-Unsound-clause-alone
returns-in-Unsound-clause-alone c = rw c.in-Unsound.is (alone Unsound)

pub returns-in-NoCommand-clause-alone : goal.returns-in-NoCommand-clause-alone
returns-in-NoCommand-clause-alone c = rw c.in-NoCommand.is (alone NoCommand)

pub returns-in-Refused-clause-alone : goal.returns-in-Refused-clause-alone
returns-in-Refused-clause-alone c = rw c.in-Refused.is (alone Refused)

pub returns-in-NoMemory-clause-alone : goal.returns-in-NoMemory-clause-alone
returns-in-NoMemory-clause-alone c = rw c.in-NoMemory.is (alone NoMemory)

pub returns-in-Stream-clause-alone : goal.returns-in-Stream-clause-alone
returns-in-Stream-clause-alone c = rw c.in-Stream.is (alone Stream)

pub returns-in-NoThread-clause-alone : goal.returns-in-NoThread-clause-alone
returns-in-NoThread-clause-alone c = rw c.in-NoThread.is (alone NoThread)

pub returns-in-Undecided-clause-alone : goal.returns-in-Undecided-clause-alone
returns-in-Undecided-clause-alone c = rw c.in-Undecided.is (alone Undecided)

pub returns-in-Little-clause-alone : goal.returns-in-Little-clause-alone
returns-in-Little-clause-alone c = rw c.in-Little.is (alone Little)
