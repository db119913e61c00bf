-- Copies of a word and of the record are a family at the start.
use Rattle.std.proofs.Common.{rules, ◌≡◌, ◌*◌, ◌+◌, ◌++◌, List, ℕ, ap, length, refl, replicate, sym, subst, ◌∙◌, true, is_ok, vec_len}
use Rattle.atomic_table.specs.Table.{opening}
use Rattle.family_table.specs.Family.{FamilyRule}
use Rattle.family_table.proofs.Firsts.{filled, filled_more, replicate_long}
use Rattle.family_table.proofs.table.Rows.new.Goals as goal

pub new-requires : goal.new-requires
new-requires g c =
    let n : ℕ = c.args.processes in
    let o : g.row.T.Denot = c.args.first in
    let limit : ℕ = c.args.limit in
    let m = g.M.Mechanism in
    let one : is_ok c.resize.result ≡ true = search rules in
    let two : is_ok c.resize-2.result ≡ true = search rules in
    let three : is_ok c.resize-3.result ≡ true = search rules in
    let cells : ℕ = c.args.stride * (n * n) + 8 in
    let first : c.resize.new.self.items ≡ replicate cells c.args.word = filled _ cells (vec_len c.new-words.result)
    c.new-words.result.items c.resize.new.self.items c.args.word one (search rules) (search rules) c.resize.ensures.items in
    let long : vec_len c.resize.new.self ≡ cells = c.resize.new.self.ok.0 ∙ (ap length first ∙ replicate_long cells c.args.word) in
    let words : c.as_slice.result.now ≡ replicate cells c.args.word ++ replicate (8 * n) 0 =
    c.as_slice.ensures.value ∙ filled_more _ (cells + 8 * n) (vec_len c.resize.new.self) cells (8 * n)
    c.resize.new.self.items c.resize-2.new.self.items c.args.word 0 two first long refl c.resize-2.ensures.items in
    let slots : c.resize-3.new.self.items ≡ replicate (c.args.slots * (n * n)) o =
    filled _ (c.args.slots * (n * n)) (vec_len c.new-records.result) c.new-records.result.items c.resize-3.new.self.items o three
    (search rules) (search rules)
    c.resize-3.ensures.items in
    subst (λ (z : List ℕ × List g.row.T.Denot). FamilyRule m.blank (m.layout n) (m.keeps o) (m.plan o limit n) n
    (opening z.0 z.1 (m.first o n))) (λ i. (sym words i, sym slots i))
    c.requires.starts
