-- However a search came to its answer, the answer is right.
use Rattle.std.proofs.Common.{◌≡◌, ◌≢◌, ℕ, ◌+◌, ◌-◌, ◌<◌, Bool, true, false, List, [], ◌∷◌, length, refl, sym, ◌∙◌, ap, subst, arith}
use Rattle.std.proofs.Common.{inl, inr, slice_get, Option, None, Some, nat_eq}
use Rattle.std.specs.Prelude.{IsSome, not, option_to_list, ◌&&◌}
use Rattle.std.specs.Option.{option_map}
use Rattle.std.proofs.lemmas.Bool.{cases_Bool}
use Rattle.std.proofs.lemmas.Bool.Decides.{nat_tests}
use Rattle.std.proofs.lemmas.Option.{slice_get_within, same_Some, slice_get_cases}
use Rattle.history_core.specs.declared.history.Op.{Op}
use Rattle.history_core.specs.Orders.{is_write}
use Rattle.history_thinning.specs.Thinnings.{Equal}
use Rattle.history_coherence.specs.Answers.{AreWrittenOnce, IsCoherence}
use Rattle.history_coherence.specs.Coherent.{IsCoherentOrder}
use Rattle.history_coherence.specs.Incoherent.{HasToStand, IsAheadOfWrite, IsCircle, IsIncoherence, IsLink, LeadsTo}
use Rattle.history_coherence.specs.declared.coherence.Coherence.TheVariants.{Incoherent}
use Rattle.history_coherence.specs.declared.coherence.Incoherence.{Incoherence}
use Rattle.history_coherence.specs.declared.coherence.Link.{Link}
use Rattle.history_coherence.specs.declared.edge.Edge.{Edge}
use Rattle.history_coherence.specs.declared.edge.Tables.{Tables}
use Rattle.history_coherence.specs.declared.walk.Mark.{Mark}
use Rattle.history_coherence.specs.inner.Keys.{edge_at, is_ahead, is_back, IsPrevious, IsTabled, NoneAhead, number_at}
use Rattle.history_coherence.specs.inner.Ranks.{IsRanked}
use Rattle.history_coherence.specs.inner.Sortings.{ahead_at, earlier_of, HaveKnownRecords, links_at}
use Rattle.history_coherence.specs.inner.Walks.{ArePlaced, IsAlong, IsTrail}
use Rattle.history_coherence.proofs.Edges.{is_edge, number_within}
use Rattle.history_coherence.proofs.Ranked.{IsSettledLog, ranks_coherent}
use Rattle.history_coherence.proofs.Sound.{excluded, fresh, once, one_from, one_of, opening_from}

-- a reason, and so no order
pub incoherent : (log : List (Op ℕ)) → AreWrittenOnce log → (reason : Incoherence) → IsIncoherence Equal 0 log reason →
    IsCoherence log (Incoherent reason)
incoherent log written reason h = (h, λ c. excluded log written c.0 c.1 reason h)

module _ (log : List (Op ℕ)) (written : AreWrittenOnce log) (tables : Tables) (tabled : IsTabled log tables) where
  -- the operations of an edge
  pub record EdgeOps (q : ℕ) (e : Edge) : Type 0 where
    pub one : Op ℕ
    pub other : Op ℕ
    pub one_at : slice_get log e.link.earlier ≡ Some one
    pub other_at : slice_get log q ≡ Some other
    pub one_stands : HasToStand Equal 0 log one
    pub other_stands : HasToStand Equal 0 log other
    pub one_item : one.item ≡ Some e.from
    pub other_item : other.item ≡ Some e.to
    pub task : one.who ≡ other.who
    pub before : e.link.earlier < q

  op_at : (p x : ℕ) → number_at tables.keys.items p ≡ Some x → (o : Op ℕ) × (slice_get log p ≡ Some o)
  op_at p x e = elim (slice_get_cases log p).1 [
    | inl w ↦ (w.0, w.2)
    | inr w ↦ let l = number_within tables.keys.items p x e in let s = tabled.long in absurd (omega (arith, w.0))
  ]

  pub edge_ops : (q : ℕ) (e : Edge) → edge_at tables.keys.items tables.earlier.items q ≡ Some e → EdgeOps q e
  edge_ops q e h =
      let i = is_edge tables.keys.items tables.earlier.items q e h in
      let a = op_at e.link.earlier e.from i.from in
      let b = op_at q e.to i.to in
      let sa = tabled.keys.stands e.link.earlier e.from a.0 a.1 i.from in
      let sb = tabled.keys.stands q e.to b.0 b.1 i.to in
      let tb = tabled.are_tasks.task q e.to b.0 b.1 i.to in
      let ta = tabled.are_tasks.task e.link.earlier e.from a.0 a.1 i.from in
      let P : Option ℕ → Type 0 = λ o. IsPrevious tabled.tasks q b.0.who o in
      let k = subst P i.before (tabled.earlier.each q b.0.who (number_within tabled.tasks q b.0.who tb) tb) in
      record {
        one = a.0;
        other = b.0;
        one_at = a.1;
        other_at = b.1;
        one_stands = sa.0;
        other_stands = sb.0;
        one_item = sa.1;
        other_item = sb.1;
        task = same_Some a.0.who b.0.who (sym ta ∙ k.1);
        before = k.0;
      }

  -- ---- a task has a record before it writes it
  ahead_parts : (o : Op ℕ) (found : Option Edge) → is_ahead o found ≡ true →
      (e : Edge) × (found ≡ Some e) × (is_write o.kind ≡ true) × (e.from ≡ e.to)
  ahead_parts o None h = cc
  ahead_parts o (Some e) h = by (is_write o.kind) (nat_eq e.from e.to) refl refl h
    where
      by : (a b : Bool) → is_write o.kind ≡ a → nat_eq e.from e.to ≡ b → (a && b) ≡ true →
          (f : Edge) × (Some e ≡ Some f) × (is_write o.kind ≡ true) × (f.from ≡ f.to)
      by true true t u h = (e, refl, t, grind (arith, nat_tests))
      by true false t u h = cc
      by false b t u h = cc

  pub ahead_found : (q : ℕ) (o : Op ℕ) → slice_get log q ≡ Some o →
      is_ahead o (edge_at tables.keys.items tables.earlier.items q) ≡ true → IsIncoherence Equal 0 log (ahead_at tables q)
  ahead_found q o at h =
      let w = ahead_parts o (edge_at tables.keys.items tables.earlier.items q) h in
      let e = w.0 in
      let x = edge_ops q w.0 w.1 in
      let s : x.other ≡ o = same_Some x.other o (sym x.other_at ∙ at) in
      let t : is_write x.other.kind ≡ true = ap (λ (z : Op ℕ). is_write z.kind) s ∙ w.2 in
      let item : x.one.item ≡ Some e.to = x.one_item ∙ ap Some w.3 in
      let less = x.before in
      let answers : is_write x.one.kind ≡ false = elim (cases_Bool (is_write x.one.kind)) [
        | inr f ↦ f
        | inl u ↦
            let k : e.link.earlier ≡ q =
            once log written e.link.earlier q e.to x.one x.other x.one_at x.other_at u t item x.other_item in
            absurd (omega arith)
      ] in
      let finished : IsSome x.one.ends = elim x.one_stands [
        | inl f ↦ f
        | inr v ↦ let z : true ≡ false = sym v.0 ∙ answers in cc
      ] in
      let P : ℕ → Type 0 = λ n. IsAheadOfWrite Equal 0 log n q in
      subst P (sym (ap (earlier_of q) w.1)) (record {
        op = x.one;
        source = x.other;
        at = x.one_at;
        source_at = x.other_at;
        finished = finished;
        answers = answers;
        writes = t;
        one = one_from x.one x.other e.to item x.other_item;
        task = x.task;
        before = less;
      })

  -- ---- links
  along_link : (link : Link) → IsAlong tables.keys.items tables.earlier.items link → IsLink Equal 0 log link
  along_link link h =
      let x = edge_ops link.later h.edge h.at in
      let b = x.before in
      let s : h.edge.link.earlier ≡ link.earlier = h.from in
      record {
        one = x.one;
        other = x.other;
        one_at = ap (slice_get log) (sym s) ∙ x.one_at;
        other_at = x.other_at;
        one_stands = x.one_stands;
        other_stands = x.other_stands;
        task = x.task;
        before = omega arith;
        apart = λ one.
            let c = one_of x.one x.other one in
            h.apart (same_Some h.edge.from h.edge.to (sym x.one_item ∙ c.1 ∙ sym c.2 ∙ x.other_item));
      }

  along_leads : (l m : Link) → IsAlong tables.keys.items tables.earlier.items l → IsAlong tables.keys.items tables.earlier.items m →
      number_at tables.keys.items l.later ≡ number_at tables.keys.items m.earlier → LeadsTo Equal 0 log l m
  along_leads l m h k e =
      let x = edge_ops l.later h.edge h.at in
      let y = edge_ops m.later k.edge k.at in
      let i = is_edge tables.keys.items tables.earlier.items l.later h.edge h.at in
      let j = is_edge tables.keys.items tables.earlier.items m.later k.edge k.at in
      let s : h.edge.to ≡ k.edge.from =
      same_Some h.edge.to k.edge.from (sym i.to ∙ e ∙ ap (number_at tables.keys.items) (sym k.from) ∙ j.from) in
      record {
        last = x.other;
        first = y.one;
        last_at = x.other_at;
        first_at = ap (slice_get log) (sym k.from) ∙ y.one_at;
        joined = inl (one_from x.other y.one k.edge.from (x.other_item ∙ ap Some s) y.one_item);
      }

  pub trail_circle : (links : List Link) (met : ℕ) → IsTrail tables.keys.items tables.earlier.items links met met →
      IsCircle Equal 0 log links
  trail_circle links met h = record {
    some = h.some;
    each = λ i link e. along_link link (h.each i link e);
    next = λ i l m e f. along_leads l m (h.each i l e) (h.each (i + 1) m f) (h.next i l m e f);
    closed = λ l m e f. along_leads l m (h.each (length links - 1) l e) (h.each 0 m f) (h.last l e ∙ sym (h.first m f));
  }

  -- ---- the opening behind another record
  back_parts : (found : Option Edge) → is_back found ≡ true → (e : Edge) × (found ≡ Some e) × (e.to ≡ 0) × (e.from ≢ 0)
  back_parts None h = cc
  back_parts (Some e) h = by (nat_eq e.to 0) (nat_eq e.from 0) refl refl h
    where
      by : (a b : Bool) → nat_eq e.to 0 ≡ a → nat_eq e.from 0 ≡ b → (a && not b) ≡ true →
          (f : Edge) × (Some e ≡ Some f) × (f.to ≡ 0) × (f.from ≢ 0)
      by true false t u h = (e, refl, grind (arith, nat_tests), grind (arith, nat_tests))
      by true true t u h = cc
      by false b t u h = cc

  pub back_found : (q : ℕ) (links : List Link) → is_back (edge_at tables.keys.items tables.earlier.items q) ≡ true →
      links ≡ links_at tables q → IsCircle Equal 0 log links
  back_found q links h is =
      let w = back_parts (edge_at tables.keys.items tables.earlier.items q) h in
      let e = w.0 in
      let i = is_edge tables.keys.items tables.earlier.items q w.0 w.1 in
      let x = edge_ops q w.0 w.1 in
      let one : links ≡ w.0.link ∷ [] = is ∙ ap (λ o. option_to_list (option_map (λ (z : Edge). z.link) o)) w.1 in
      let along : IsAlong tables.keys.items tables.earlier.items w.0.link = record {
        edge = w.0;
        at = ap (edge_at tables.keys.items tables.earlier.items) i.later ∙ w.1;
        from = refl;
        apart = λ s. w.3 (s ∙ w.2);
      } in
      let P : List Link → Type 0 = λ z. IsCircle Equal 0 log z in
      subst P (sym one) (circle_of_one w.0.link (along_link w.0.link along) x.other (ap (slice_get log) i.later ∙ x.other_at)
      (x.other_item ∙ ap Some w.2))
    where
      only : (i : ℕ) (l m : Link) → slice_get (l ∷ []) i ≡ Some m → (i ≡ 0) × (l ≡ m)
      only i l m e =
          let k = slice_get_within (l ∷ []) i m e in
          let z : i ≡ 0 = omega arith in
          (z, same_Some l m (ap (slice_get (l ∷ [])) (sym z) ∙ e))

      circle_of_one : (l : Link) → IsLink Equal 0 log l → (o : Op ℕ) → slice_get log l.later ≡ Some o → o.item ≡ Some 0 →
          IsCircle Equal 0 log (l ∷ [])
      circle_of_one l h o at item = record {
        some = omega arith;
        each = λ i m e. let P : Link → Type 0 = λ z. IsLink Equal 0 log z in subst P (only i l m e).1 h;
        next = λ i a b e f. let z = (only (i + 1) l b f).0 in absurd (omega arith);
        closed = λ a b e f.
            let sa : l ≡ a = (only (length (l ∷ []) - 1) l a e).1 in
            let sb : l ≡ b = (only 0 l b f).1 in
            let P : Link → Link → Type 0 = λ y z. LeadsTo Equal 0 log y z in
            subst (λ y. P y b) sa (subst (λ z. P l z) sb (record {
              last = o;
              first = h.one;
              last_at = at;
              first_at = h.one_at;
              joined = inr (opening_from o item);
            }));
      }

  -- ---- an order
  not_ahead : NoneAhead log tables → (q : ℕ) (e : Edge) (o : Op ℕ) → edge_at tables.keys.items tables.earlier.items q ≡ Some e →
      slice_get log q ≡ Some o → e.from ≡ e.to → is_write o.kind ≡ true → ⊥
  not_ahead none q e o h at s t =
      let f : is_ahead o (Some e) ≡ false = ap (is_ahead o) (sym h) ∙ none q o (slice_get_within log q o at) at in
      let u : nat_eq e.from e.to ≡ true = grind (arith, nat_tests) in
      let z : is_ahead o (Some e) ≡ true = ap (λ b. b && nat_eq e.from e.to) t ∙ u in
      let w : false ≡ true = sym f ∙ z in
      cc

  pub order_found : NoneAhead log tables → HaveKnownRecords log tables.keys.items → (order : List ℕ) (marks : List Mark) (placed : List ℕ) →
      ArePlaced tables.keys.items tables.earlier.items marks placed → IsRanked log tables.keys.items marks order →
      IsCoherentOrder Equal 0 log order
  order_found none have order marks placed placing ranked =
      let known : IsSettledLog log tables.keys.items tabled.tasks tables.earlier.items marks placed = record {
        once = once log written;
        fresh = fresh log written;
        long = tabled.long;
        keyed = tabled.keys;
        tasked = tabled.are_tasks;
        before = tabled.earlier;
        have = have;
        ahead = not_ahead none;
        placing = placing;
      } in
      let P : List ℕ → Type 0 = λ z. IsCoherentOrder Equal 0 log z in
      subst P (sym ranked.3) (ranks_coherent log tables.keys.items tabled.tasks tables.earlier.items marks placed known ranked.0 ranked.1
      ranked.2)
