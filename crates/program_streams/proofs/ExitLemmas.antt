-- A status has one end.
use Rattle.std.proofs.Common.{◌≡◌, ℕ, Option, Some, None, refl, ap, sym, ◌∙◌, nat_eq, if◌then◌else◌}
use Rattle.std.proofs.lemmas.Option.{same_Some}
use Rattle.program_streams.specs.Exits.{status_of}
use Rattle.program_streams.specs.declared.exit.Exit.{Exit}
use Rattle.program_streams.specs.declared.exit.Exit.TheVariants.{Sound, Unsound, NoCommand, Refused, NoMemory, Stream, NoThread, Undecided}
use Rattle.program_streams.specs.declared.exit.Exit.TheVariants.{Little}

-- the end that has this status
exit_of : ℕ → Option Exit
exit_of s = if nat_eq s 0 then Some Sound
    else (if nat_eq s 1 then Some Unsound
    else (if nat_eq s 2 then Some NoCommand
    else (if nat_eq s 3 then Some Refused
    else (if nat_eq s 4 then Some NoMemory
    else (if nat_eq s 5 then Some Stream
    else (if nat_eq s 6 then Some NoThread
    else (if nat_eq s 7 then Some Undecided
    else (if nat_eq s 8 then Some Little
    else None))))))))

has_its_status : (e : Exit) → exit_of (status_of e) ≡ Some e
unfolding exit_of
has_its_status Sound = refl
has_its_status Unsound = refl
has_its_status NoCommand = refl
has_its_status Refused = refl
has_its_status NoMemory = refl
has_its_status Stream = refl
has_its_status NoThread = refl
has_its_status Undecided = refl
has_its_status Little = refl

pub alone : (e other : Exit) → status_of other ≡ status_of e → other ≡ e
alone e other same = same_Some other e (sym (has_its_status other) ∙ (ap exit_of same ∙ has_its_status e))
