-- Each handle has its side of the new cell, or both are as they were.
use Rattle.std.proofs.Common.{rules, ◌≡◌, ◌∙◌, refl, sym, inl, inr}
use Rattle.std.specs.Prelude.{◌≢◌}
use Rattle.c_registers.specs.Handles.{done, no_memory, in_use}
use Rattle.c_registers.proofs.calls.make.Goals as goal

pub returns-then-live-ne0 : goal.returns-then-live-ne0
returns-then-live-ne0 g c = in_use (inl (search rules)) refl refl

pub returns-then-live-ne0-2 : goal.returns-then-live-ne0-2
returns-then-live-ne0-2 g c = in_use (inr (search rules)) refl refl

pub returns-in_default : goal.returns-in_default
returns-in_default g c = no_memory (search rules) (search rules) refl refl

pub returns-in_default-boxed : goal.returns-in_default-boxed
returns-in_default-boxed g c = no_memory (search rules) (search rules) refl refl

pub returns-in_default-boxed-2 : goal.returns-in_default-boxed-2
returns-in_default-boxed-2 g c = no_memory (search rules) (search rules) refl refl

pub returns : goal.returns
returns g c = done c.in-Ok.put c.in-Ok.get (search rules) (search rules)
    (c.put.ensures.0, c.put.ensures.1 ∙ c.in-Some.ensures)
    (c.put-2.ensures.0, c.put-2.ensures.1 ∙ c.in-Some-boxed.ensures)
    c.in-Ok.ensures
