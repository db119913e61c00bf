-- The first link leads from the record that was met to the last on the path, and each further one to the record before.
use Rattle.std.proofs.Common.{◌≡◌, ◌≢◌, ◌<◌, ◌≤◌, ◌++◌, ℕ, ◌+◌, ◌-◌, List, [], length, get_or, slice_get, Some, refl, ap, sym, subst}
use Rattle.std.proofs.Common.{◌∙◌, arith}
use Rattle.std.specs.Prelude.{option_to_list}
use Rattle.std.proofs.lemmas.Option.{get_or_from_slice_get, same_Some, slice_get_read, slice_get_within, slice_get-get_or}
use Rattle.history_coherence.specs.declared.coherence.Link.{Link}
use Rattle.history_coherence.specs.inner.Walks.{IsTrail, link_at}
use Rattle.history_coherence.proofs.Trails.{first_trail, leads_from, more_trail, pushed}
use Rattle.history_coherence.proofs.trail.circle_at.Goals as goal

pub records-init : goal.records-init
records-init c =
    let t = c.args.tables.now in
    let w = c.args.walk.now in
    let k = c.args.tables.now.keys.items in
    let m = c.requires.met in
    let path = c.args.walk.now.path.items in
    let cursors = c.args.walk.now.cursors.items in
    let some : length path - 1 < length path = slice_get_within path (length path - 1) m.last m.last_at in
    let long : c.len-i.result ≡ length path = omega (arith, c.len-i.ensures, w.path.ok.0) in
    let i : ℕ = c.len-i.result - 1 in
    let s : length path - 1 ≡ i = omega arith in
    let at : slice_get path i ≡ Some m.last = ap (slice_get path) (sym s) ∙ m.last_at in
    let l : i < length path = omega arith in
    let read = slice_get_read path (length path) i c.index.result.now refl l c.index.ensures in
    let here : c.index.result.now ≡ m.last = same_Some c.index.result.now m.last (sym read ∙ at) in
    let lead = leads_from k t.earlier.items cursors m.last c.args.met (λ q x e. c.requires.walking.at_cursor x q e) m.comes in
    let grown = pushed k t.earlier.items cursors c.new-links.result.items c.push_link.new.links.items c.as_slice.result.now
    c.index.result.now m.last c.in_ok-push_link.ensures c.as_slice.ensures.value here in
    let first : c.push_link.new.links.items ≡ [] ++ option_to_list (link_at k t.earlier.items cursors m.last) =
    grown ∙ ap (λ (z : List Link). z ++ option_to_list (link_at k t.earlier.items cursors m.last)) c.new-links.ensures.items in
    let P : ℕ → Type 0 = λ z. IsTrail k t.earlier.items c.push_link.new.links.items c.args.met z in
    let under : m.place < length path = slice_get_within path m.place c.args.met m.met_at in
    record {
      within = l;
      ahead = (m.place, omega arith, m.met_at);
      trail = subst P (sym (get_or_from_slice_get path i m.last 0 at))
          (first_trail k t.earlier.items cursors c.push_link.new.links.items m.last c.args.met lead.0 lead.1 first);
    }

pub records-preserved : goal.records-preserved
records-preserved c =
    let t = c.args.tables.now in
    let k = c.args.tables.now.keys.items in
    let path = c.args.walk.now.path.items in
    let cursors = c.args.walk.now.cursors.items in
    let h = c.records.invariant in
    let i : ℕ = c.records.i in
    let x : ℕ = get_or path i 0 in
    let l : i < length path = h.within in
    let at : slice_get path i ≡ Some x = slice_get-get_or path i 0 l in
    let seen = slice_get_read path (length path) i c.index-in-records.result.now refl l c.index-in-records.ensures in
    let ne : c.index-in-records.result.now ≢ c.args.met = c.records-test.true in
    let j : ℕ = h.ahead.0 in
    let le : j ≤ i = h.ahead.1 in
    let apart : j ≢ i = λ s. ne (same_Some c.index-in-records.result.now c.args.met (sym seen ∙ ap (slice_get path) (sym s) ∙ h.ahead.2)) in
    let lb : i - 1 < length path = omega arith in
    let read = slice_get_read path (length path) (i - 1) c.index-in-records-2.result.now refl lb c.index-in-records-2.ensures in
    let y : ℕ = c.index-in-records-2.result.now in
    let next : (i - 1) + 1 ≡ i = omega arith in
    let comes = c.requires.walking.next (i - 1) y x read (ap (slice_get path) next ∙ at) in
    let lead = leads_from k t.earlier.items cursors y x (λ q z e. c.requires.walking.at_cursor z q e) comes in
    let grown = pushed k t.earlier.items cursors c.records.links.items c.push_link-in-records.new.links.items
    c.as_slice-in-records.result.now y y c.in_ok-push_link-2.ensures c.as_slice-in-records.ensures.value refl in
    let P : ℕ → Type 0 = λ z. IsTrail k t.earlier.items c.push_link-in-records.new.links.items c.args.met z in
    record {
      within = lb;
      ahead = (j, omega arith, h.ahead.2);
      trail = subst P (sym (get_or_from_slice_get path (i - 1) y 0 read))
          (more_trail k t.earlier.items cursors c.records.links.items c.push_link-in-records.new.links.items x y c.args.met lead.0 lead.1
          h.trail grown);
    }
