-- Each arm told its line.
use Rattle.std.proofs.Common.{◌≡◌, ◌∙◌, ap, ℕ, List, inl, inr, refl}
use Rattle.std.specs.Prelude.{◌⊎◌, Option}
use Rattle.program_runs.specs.Run.{fault_status, TellsAs, TellsFault}
use Rattle.program_runs.specs.declared.fault.Fault.{Fault}
use Rattle.program_runs.specs.declared.fault.Fault.TheVariants as fault
use Rattle.program_runs.specs.declared.run.Program.{Program}
use Rattle.program_streams.specs.Exits.{status_of}
use Rattle.program_streams.specs.Transfer.{TellsLine}
use Rattle.program_runs.proofs.run.tell_fault.Goals as goal
use Rattle.program_runs.proofs.run.tell_fault.Goals.{in-NoMemory, in-NoThread, in_default+in-Ok}

module _ (program : Program) (old new : Option (List ℕ)) (failed_old failed_new status : ℕ) where
  memory_told : (f : Fault) → f ≡ fault.NoMemory → TellsLine old new failed_old failed_new program.no_memory.now → status ≡ fault_status f
      → TellsFault program f old new failed_old failed_new status
  memory_told fault.NoMemory is told same = (told, same)
  memory_told other is told same = cc

  thread_told : (f : Fault) → f ≡ fault.NoThread → TellsLine old new failed_old failed_new program.no_thread.now → status ≡ fault_status f
      → TellsFault program f old new failed_old failed_new status
  thread_told fault.NoThread is told same = (told, same)
  thread_told other is told same = cc

  -- another fault
  other_told : (f : Fault) → (f ≡ fault.NoMemory → ⊥) → (f ≡ fault.NoThread → ⊥)
      → ((line : List ℕ) × TellsAs f line old new failed_old failed_new status)
      ⊎ TellsAs fault.NoMemory program.no_memory.now old new failed_old failed_new status
      → TellsFault program f old new failed_old failed_new status
  other_told fault.NoMemory no_memory no_thread told = absurd (no_memory refl)
  other_told fault.NoThread no_memory no_thread told = absurd (no_thread refl)
  other_told (fault.Document refusal) no_memory no_thread told = told
  other_told (fault.History why) no_memory no_thread told = told
  other_told (fault.Lines why) no_memory no_thread told = told
  other_told (fault.Schedule position) no_memory no_thread told = told
  other_told (fault.Undecided line) no_memory no_thread told = told

pub returns-clause-told : goal.returns-clause-told
returns-clause-told g c =
    let same : c.status-2.result ≡ fault_status c.args.fault.now = c.status-2.ensures.is ∙ ap status_of c.exit.ensures in
    elim c.match-fault.branch [
      | in-NoMemory w ↦ rw w.faults-is (memory_told c.args.program.now _ _ _ _ _ c.args.fault.now w.in-NoMemory.is w.tell.ensures.told same)
      | in-NoThread w ↦
          rw w.faults-is (thread_told c.args.program.now _ _ _ _ _ c.args.fault.now w.in-NoThread.is w.tell-in-NoThread.ensures.told same)
      | in_default+in-Ok w ↦ rw w.faults-is (other_told c.args.program.now _ _ _ _ _ c.args.fault.now w.in_default.not-NoMemory
          w.in_default.not-NoThread (inl (_, (w.tell-in-Ok.ensures.told, same))))
    ]

pub returns-clause-once : goal.returns-clause-once
returns-clause-once g c = elim c.match-fault.branch [
  | in-NoMemory w ↦ rw w.faults-is w.tell.ensures.once
  | in-NoThread w ↦ rw w.faults-is w.tell-in-NoThread.ensures.once
  | in_default+in-Ok w ↦ rw w.faults-is w.tell-in-Ok.ensures.once
]

pub returns-in-Err : goal.returns-in-Err
returns-in-Err g c = record {
  told = other_told c.args.program.now _ _ _ _ _ c.args.fault.now c.in_default.not-NoMemory c.in_default.not-NoThread
      (inr (c.tell-in-Err.ensures.told, c.status.ensures.is));
  once = c.tell-in-Err.ensures.once;
}
