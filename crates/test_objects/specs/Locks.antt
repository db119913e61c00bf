-- The steps of a lock.
use Rattle.std.specs.Prelude.{ℕ, nat_eq, cond, Option, None, Some}
use Rattle.test_objects.specs.declared.lock.Lock.{Lock}
use Rattle.test_objects.specs.declared.lock.Turn.{Turn}
use Rattle.test_objects.specs.declared.lock.Turn.TheVariants.{Took, Failed, LetGo}

-- what holds it, by cases on who held it
abbrev pub held_after : Option ℕ → Turn → Option Lock
held_after None (Took who) = Some (record { holder = Some who })
held_after None Failed = None
held_after None (LetGo who) = None
held_after (Some holder) (Took who) = None
held_after (Some holder) Failed = Some (record { holder = Some holder })
held_after (Some holder) (LetGo who) = cond (nat_eq holder who) (Some (record { holder = None })) None

abbrev pub lock_after : Lock → Turn → Option Lock
lock_after s what = held_after s.holder what
