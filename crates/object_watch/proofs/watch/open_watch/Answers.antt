-- One remainder, of which nothing is left.
use Rattle.std.proofs.Common.{[], ◌∷◌, ◌++◌, refl, ◌∙◌, ap, List}
use Rattle.object_watch.specs.declared.remainder.Remainder.{Remainder}
use Rattle.object_watch.proofs.Watching.{opened_as, watch_opened}
use Rattle.object_watch.proofs.watch.open_watch.Goals as goal

pub returns-clause-opened : goal.returns-clause-opened
returns-clause-opened g c =
    let one : Remainder g.row.O.Denot g.row.O-What.Denot = record { state = c.args.opening; rest = c.new.result } in
    watch_opened g.O.Object.after c.args.opening c.push.new.self.items one
    (c.in_ok-push.ensures.items
    ∙ ap (λ (zs : List (Remainder g.row.O.Denot g.row.O-What.Denot)). zs ++ one ∷ []) c.in_ok-held.ensures.items) refl
    c.new.ensures.items

pub returns-clause-held : goal.returns-clause-held
returns-clause-held g c =
    let one : Remainder g.row.O.Denot g.row.O-What.Denot = record { state = c.args.opening; rest = c.new.result } in
    opened_as c.args.opening c.push.new.self.items one
    (c.in_ok-push.ensures.items
    ∙ ap (λ (zs : List (Remainder g.row.O.Denot g.row.O-What.Denot)). zs ++ one ∷ []) c.in_ok-held.ensures.items) refl
    c.new.ensures.items
