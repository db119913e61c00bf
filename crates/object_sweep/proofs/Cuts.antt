-- What holds of a log holds of it up to a moment.
use Rattle.std.proofs.Common.{◌≡◌, ℕ, ◌≤◌, Bool, true, false, ◌&&◌, ◌||◌, not, cond, nat_eq, List, [], ◌∷◌, slice_get, is_some}
use Rattle.std.proofs.Common.{Option, None, Some, zero, suc, refl, sym, ◌∙◌, ap, subst, arith, ◌⊎◌, inl, inr}
use Rattle.std.proofs.lemmas.Bool.{and_parts}
use Rattle.std.proofs.lemmas.Option.{same_Some}
use Rattle.object_core.specs.declared.operation.Operation.{Operation}
use Rattle.object_core.specs.Logs.{is_due}
use Rattle.object_sweep.specs.declared.configuration.Configuration.{Configuration}
use Rattle.object_sweep.specs.Cuts.{cut_log, without_end}
use Rattle.object_sweep.specs.inner.Cuts.{EndsAt, IsLogCut, IsCutOf, KeepsEnds}
use Rattle.object_sweep.specs.inner.Steps.{AreUnderWay, EndsFirst, IsHandled, IsIdle, IsPlacedFor, IsPure, made_by}
use Rattle.object_sweep.specs.inner.Steps.{may_be_left_out, maybe_of, MayStandFor, step_from}
use Rattle.object_sweep.specs.inner.Steps.{is_sure, sure_at}
use Rattle.object_sweep.specs.inner.Steps.IsHandled.{Tries, Places as PlacesPure}
use Rattle.object_sweep.specs.Reached.{is_in, IsNextEnd, IsReachable, MayBeLeftOut}
use Rattle.object_sweep.specs.Reached.IsReachable.{Opens, Places, Ends}
use Rattle.object_sweep.specs.Rests.{NoOpenEndBefore, RunForwards}
use Rattle.object_sweep.proofs.Placed.{or_right, same_number}

-- the whole log is one
pub whole : {W : Type 0} (log : List (Operation W)) → IsLogCut log log
whole log = record {
  each = λ q o at. (o, at, record { starts = refl; maybe = refl; what = refl; ends = λ end e. e });
  from = λ q o at. (o, at, record { starts = refl; maybe = refl; what = refl; ends = λ end e. e });
  earlier = λ p q at end h g le first. h;
}

module _ {W : Type 0} (log cut : List (Operation W)) (is : IsLogCut log cut) where
  -- at one place
  pub cut_at : (q : ℕ) (o c : Operation W) → slice_get log q ≡ Some o → slice_get cut q ≡ Some c → IsCutOf o c
  cut_at q o c qo qc =
      let f = is.from q c qc in
      let P : Operation W → Type 0 = λ z. IsCutOf z c in subst P (same_Some f.0 o (sym f.1 ∙ qo)) f.2

  pub cut_forwards : RunForwards log → RunForwards cut
  cut_forwards forwards p end c at e =
      let f = is.from p c at in
      let le : f.0.starts ≤ end = forwards p end f.0 f.1 (f.2.ends end e) in
      let same = f.2.starts in omega (arith, le, same)

  pub cut_next : (ended : List ℕ) (place end : ℕ) → IsNextEnd log ended place end → EndsAt cut place end → IsNextEnd cut ended place end
  cut_next ended place end next keeps = (keeps.0, keeps.1, keeps.2, next.3, last)
    where
      last : NoOpenEndBefore cut (λ q. is_in q ended) end
      last r at c free rc e = let f = is.from r c rc in next.4 r at f.0 free f.1 (f.2.ends at e)

  pub cut_way : (under_way ended : List ℕ) (end : ℕ) → AreUnderWay log under_way ended end → AreUnderWay cut under_way ended end
  cut_way under_way ended end way = record { begun = begun; all = all }
    where
      begun : (q : ℕ) → is_in q under_way ≡ true →
          (c : Operation W) × (slice_get cut q ≡ Some c) × (c.starts ≤ end) × (is_in q ended ≡ false)
      begun q h =
          let b = way.begun q h in
          let e = is.each q b.0 b.1 in
          let same = e.2.starts in
          let le : e.0.starts ≤ end = let l = b.2 in omega (arith, same, l) in (e.0, e.1, le, b.3)

      all : (q : ℕ) (c : Operation W) → slice_get cut q ≡ Some c → c.starts ≤ end → is_in q ended ≡ false → is_in q under_way ≡ true
      all q c at le free =
          let f = is.from q c at in
          let same = f.2.starts in
          let l : f.0.starts ≤ end = omega (arith, same, le) in way.all q f.0 f.1 l free

  -- it is due in the log, where it is due up to a moment
  still_due : (some may other : Bool) → (some && not may) ≡ true → other ≡ true → (other && not may) ≡ true
  still_due true may true h e = h
  still_due false may other h e = cc
  still_due true may false h e = cc

  ends_of : (c : Operation W) → is_due c ≡ true → (at : ℕ) × (c.ends ≡ Some at)
  ends_of c due = by_end c.ends refl (and_parts (is_some c.ends) (not c.maybe) due).0
    where
      by_end : (m : Option ℕ) → c.ends ≡ m → is_some m ≡ true → (at : ℕ) × (c.ends ≡ Some at)
      by_end None e h = cc
      by_end (Some at) e h = (at, e)

  due_with : (o : Operation W) (at : ℕ) (may : Bool) → o.ends ≡ Some at → not may ≡ true → may ≡ o.maybe → is_due o ≡ true
  due_with o at may e h same =
      ap (λ (z : Option ℕ). is_some z && not o.maybe) e ∙ (ap not (sym same) ∙ h)

  pub due_before : (o c : Operation W) → IsCutOf o c → is_due c ≡ true → is_due o ≡ true
  due_before o c of due =
      let e = ends_of c due in
      due_with o e.0 c.maybe (of.ends e.0 e.1) (and_parts (is_some c.ends) (not c.maybe) due).1 of.maybe

  not_due : (o c : Operation W) → IsCutOf o c → is_due o ≡ false → is_due c ≡ false
  not_due o c of idle = by_due (is_due c) refl
    where
      by_due : (b : Bool) → is_due c ≡ b → b ≡ false
      by_due false e = refl
      by_due true e = let d = due_before o c of e in cc

  pub cut_unsure : (q : ℕ) (c : Operation W) → slice_get cut q ≡ Some c → sure_at log q ≡ false → is_due c ≡ false
  cut_unsure q c at unsure = let o = is.from q c at in not_due o.0 c o.2 (ap is_sure (sym o.1) ∙ unsure)

  module _ {S : Type 0} (after : S → W → Option S) where
    cut_pure : (o c : Operation W) → IsCutOf o c → IsPure after o → IsPure after c
    cut_pure o c of pure s t e = pure s t (ap (after s) (sym of.what) ∙ e)

    cut_made : (s : S) (q : ℕ) (t : S) → made_by after s (slice_get cut q) ≡ Some t → made_by after s (slice_get log q) ≡ Some t
    cut_made s q t e = by_op (slice_get cut q) refl e
      where
        by_op : (m : Option (Operation W)) → slice_get cut q ≡ m → made_by after s m ≡ Some t → made_by after s (slice_get log q) ≡ Some t
        by_op None h f = cc
        by_op (Some c) h f =
            let o = is.from q c h in
            ap (made_by after s) o.1 ∙ (ap (after s) (sym o.2.what) ∙ f)

    cut_step : (s : S) (placed : List ℕ) (q : ℕ) (t : S) → step_from after cut s placed q ≡ Some t → step_from after log s placed q ≡ Some t
    cut_step s placed q t e = by_in (is_in q placed) e
      where
        by_in : (b : Bool) → cond b None (made_by after s (slice_get cut q)) ≡ Some t →
            cond b None (made_by after s (slice_get log q)) ≡ Some t
        by_in true f = cc
        by_in false f = cut_made s q t f

    cut_idle : (q : ℕ) (t s : S) → made_by after s (slice_get cut q) ≡ Some t → IsIdle after (slice_get log q) →
        IsIdle after (slice_get cut q)
    cut_idle q t s made idle = by_ops (slice_get log q) (slice_get cut q) refl refl made idle
      where
        by_ops : (m n : Option (Operation W)) → slice_get log q ≡ m → slice_get cut q ≡ n → made_by after s n ≡ Some t → IsIdle after m →
            IsIdle after n
        by_ops None n qo qc e h = absurd h
        by_ops (Some o) None qo qc e h = cc
        by_ops (Some o) (Some c) qo qc e h =
            let of = cut_at q o c qo qc in (not_due o c of h.0, cut_pure o c of h.1)

    cut_in_place : (p q : ℕ) (a b c d : Operation W) → slice_get log p ≡ Some a → slice_get log q ≡ Some b → slice_get cut p ≡ Some c →
        slice_get cut q ≡ Some d → MayStandFor after p q (Some a) (Some b) → MayStandFor after p q (Some c) (Some d)
    cut_in_place p q a b c d pa qb pc qd (h, first) = (record { same = same; due = due; sooner = sooner }, first_there)
      where
        a_of : IsCutOf a c
        a_of = cut_at p a c pa pc

        b_of : IsCutOf b d
        b_of = cut_at q b d qb qd

        same : (s : S) → after s c.what ≡ after s d.what
        same s = ap (after s) a_of.what ∙ (h.same s ∙ ap (after s) (sym b_of.what))

        sooner : (end : ℕ) → d.ends ≡ Some end → (at : ℕ) × (c.ends ≡ Some at) × (at ≤ end)
        sooner end e =
            let his : b.ends ≡ Some end = b_of.ends end e in
            let s = h.sooner end his in
            let there : EndsAt cut p s.0 = is.earlier p q s.0 end (a, pa, s.1) (d, qd, e) s.2
            (λ e. first s.0 s.1 (his ∙ ap Some (sym e))) in
            let one : there.0 ≡ c = same_Some there.0 c (sym there.1 ∙ pc) in
            (s.0, ap (λ (z : Operation W). z.ends) (sym one) ∙ there.2, s.2)

        due : is_due d ≡ true → is_due c ≡ true
        due e =
            let end = ends_of d e in
            let mine = sooner end.0 end.1 in
            let whole_due : is_due a ≡ true = h.due (due_before b d b_of e) in
            due_with c mine.0 a.maybe mine.1 (and_parts (is_some a.ends) (not a.maybe) whole_due).1 (sym a_of.maybe)

        first_there : EndsFirst p q c.ends d.ends
        first_there at e f = first at (a_of.ends at e) (b_of.ends at f)

    cut_may : (p q : ℕ) (t s : S) → made_by after s (slice_get cut q) ≡ Some t → MayStandFor after p q (slice_get log p) (slice_get log q) →
        MayStandFor after p q (slice_get cut p) (slice_get cut q)
    cut_may p q t s made may = by_ops (slice_get log p) (slice_get log q) (slice_get cut p) (slice_get cut q) refl refl refl refl made may
      where
        by_ops : (a b c d : Option (Operation W)) → slice_get log p ≡ a → slice_get log q ≡ b → slice_get cut p ≡ c → slice_get cut q ≡ d →
            made_by after s d ≡ Some t → MayStandFor after p q a b → MayStandFor after p q c d
        by_ops None b c d pa qb pc qd e h = absurd h
        by_ops (Some a) None c d pa qb pc qd e h = absurd h
        by_ops (Some a) (Some b) c None pa qb pc qd e h = cc
        by_ops (Some a) (Some b) None (Some d) pa qb pc qd e h =
            let f = is.each p a pa in let none : None ≡ Some f.0 = sym pc ∙ f.1 in cc
        by_ops (Some a) (Some b) (Some c) (Some d) pa qb pc qd e h = cut_in_place p q a b c d pa qb pc qd h

    cut_placed : (sure : ℕ → Bool) (under_way : List ℕ) (ending : ℕ) (placed : List ℕ) (q : ℕ) (t s : S) (waiting kept : List
        (Configuration S)) →
        made_by after s (slice_get cut q) ≡ Some t → IsPlacedFor sure after log under_way ending placed q t waiting kept →
        IsPlacedFor sure after cut under_way ending placed q t waiting kept
    cut_placed sure under_way ending placed q t s waiting kept made (r, inl same, put) = (r, inl same, put)
    cut_placed sure under_way ending placed q t s waiting kept made (r, inr for, put) =
        (r, inr (for.0, for.1, cut_may r q t s made for.2), put)

    cut_out : (q : ℕ) → may_be_left_out cut q ≡ true → may_be_left_out log q ≡ true
    cut_out q e = by_op (slice_get cut q) refl e
      where
        by_op : (m : Option (Operation W)) → slice_get cut q ≡ m → maybe_of m ≡ true → may_be_left_out log q ≡ true
        by_op None h f = cc
        by_op (Some c) h f = let o = is.from q c h in ap maybe_of o.1 ∙ (sym o.2.maybe ∙ f)

    made_of : (s : S) (placed : List ℕ) (q : ℕ) (t : S) → step_from after cut s placed q ≡ Some t →
        made_by after s (slice_get cut q) ≡ Some t
    made_of s placed q t e = by_in (is_in q placed) e
      where
        by_in : (b : Bool) → cond b None (made_by after s (slice_get cut q)) ≡ Some t → made_by after s (slice_get cut q) ≡ Some t
        by_in true f = cc
        by_in false f = f

    pub cut_handled : (sure : ℕ → Bool) (under_way : List ℕ) (ending : ℕ) (s : S) (placed : List ℕ) (waiting kept : List (Configuration S))
        →
        IsHandled sure after log under_way ending s placed waiting kept → IsHandled sure after cut under_way ending s placed waiting kept
    cut_handled sure under_way ending s placed waiting kept (Tries h) = Tries (record {
      left_out = λ e. h.left_out (cut_out ending e);
      tried = tried;
    })
      where
        tried : (j q : ℕ) (t : S) → slice_get under_way j ≡ Some q → step_from after cut s placed q ≡ Some t →
            IsIdle after (slice_get cut q) ⊎ IsPlacedFor sure after cut under_way ending placed q t waiting kept
        tried j q t at e = elim (h.tried j q t at (cut_step s placed q t e)) [
          | inl idle ↦ inl (cut_idle q t s (made_of s placed q t e) idle)
          | inr p ↦ inr (cut_placed sure under_way ending placed q t s waiting kept (made_of s placed q t e) p)
        ]
    cut_handled sure under_way ending s placed waiting kept (PlacesPure q o t at due pure there free step put) =
        let c = is.each q o at in
        PlacesPure q c.0 t c.1 due (cut_pure o c.0 c.2 pure) there free (ap (after s) c.2.what ∙ step) put

    -- what is reached before an end is reached there, where what has ended by then has its end
    pub cut_reached : (opening : S) {ended : List ℕ} {s : S} {placed : List ℕ} → IsReachable after opening log ended s placed →
        (p end : ℕ) → IsNextEnd log ended p end → EndsAt cut p end → KeepsEnds log cut ended → IsReachable after opening cut ended s placed
    cut_reached opening Opens p end next keeps all = Opens
    cut_reached opening (Places ended placed s r place other q t before can) p end next keeps all =
        let late : end ≤ other = next.4 place other before.0 before.3 before.1 before.2 in
        let early : other ≤ end = before.4 p end next.0 next.3 next.1 next.2 in
        let c = is.each q can.0 can.1 in
        let same = c.2.starts in
        let starts : c.0.starts ≤ end = let l = can.3 in omega (arith, same, l, early) in
        Places ended placed s (cut_reached opening r p end next keeps all) p end q t (cut_next ended p end next keeps)
        (c.0, c.1, can.2, starts, ap (after s) c.2.what ∙ can.4)
    cut_reached opening (Ends ended placed s r place other before out) p end next keeps all =
        Ends ended placed s (cut_reached opening r place other before ends_it (λ q at h. all q at (behind q h))) place other
        (cut_next ended place other before ends_it) (by_out out)
      where
        behind : (q : ℕ) → is_in q ended ≡ true → is_in q (place ∷ ended) ≡ true
        behind q h = or_right (nat_eq place q) (is_in q ended) h

        ends_it : EndsAt cut place other
        ends_it = all place other (ap (λ b. b || is_in place ended) (same_number place)) (before.0, before.1, before.2)

        by_out : (is_in place placed ≡ true) ⊎ MayBeLeftOut log place → (is_in place placed ≡ true) ⊎ MayBeLeftOut cut place
        by_out (inl h) = inl h
        by_out (inr h) = let c = is.each place h.0 h.1 in inr (c.0, c.1, c.2.maybe ∙ h.2)

-- what is reached behind an end leads back to what is reached before it
module _ {S W : Type 0} (after : S → W → Option S) (opening : S) (log : List (Operation W)) where
  abbrev pub IsBeforeEnd : List ℕ → ℕ → Type 0
  IsBeforeEnd ended p = (s : S) × (placed : List ℕ) × IsReachable after opening log ended s placed
      × ((is_in p placed ≡ true) ⊎ MayBeLeftOut log p)

  pub before_end : {list : List ℕ} {s : S} {placed : List ℕ} → IsReachable after opening log list s placed → (p : ℕ) (ended : List ℕ) →
      list ≡ p ∷ ended → IsBeforeEnd ended p
  before_end Opens p ended e = cc
  before_end (Places list placed s r place end q t next can) p ended e = before_end r p ended e
  before_end (Ends list placed s r place end next out) p ended e =
      let first : place ≡ p = same_Some place p (ap (λ z. slice_get z 0) e) in
      let rest : list ≡ ended = ap tail_of e in
      let P : ℕ → Type 0 = λ z. IsBeforeEnd list z in
      let Q : List ℕ → Type 0 = λ z. IsBeforeEnd z p in subst Q rest (subst P first (s, placed, r, out))
    where
      tail_of : List ℕ → List ℕ
      tail_of [] = []
      tail_of (x ∷ xs) = xs

-- the log in which these have their ends alone
get_each : {W : Type 0} (has : ℕ → Bool) (log : List (Operation W)) (q : ℕ) (o : Operation W) → slice_get log q ≡ Some o →
    slice_get (cut_log has log) q ≡ Some (without_end (has q) o)
get_each has [] q o e = cc
get_each has (x ∷ xs) zero o e = ap (λ z. Some (without_end (has 0) z)) (same_Some x o e)
get_each has (x ∷ xs) (suc q) o e = get_each (λ n. has (suc n)) xs q o e

pub get_from : {W : Type 0} (has : ℕ → Bool) (log : List (Operation W)) (q : ℕ) (c : Operation W) → slice_get (cut_log has log) q ≡ Some c →
    (o : Operation W) × (slice_get log q ≡ Some o) × (without_end (has q) o ≡ c)
get_from has [] q c e = cc
get_from has (x ∷ xs) zero c e = (x, refl, same_Some (without_end (has 0) x) c e)
get_from has (x ∷ xs) (suc q) c e = get_from (λ n. has (suc n)) xs q c e

pub is_cut_of : {W : Type 0} (b : Bool) (o : Operation W) → IsCutOf o (without_end b o)
is_cut_of true o = record { starts = refl; maybe = refl; what = refl; ends = λ at e. e }
is_cut_of false o = record { starts = refl; maybe = refl; what = refl; ends = λ at e. cc }

has_end : {W : Type 0} (b : Bool) (o : Operation W) (end : ℕ) → (without_end b o).ends ≡ Some end → b ≡ true
has_end true o end e = refl
has_end false o end e = cc

no_end : {W : Type 0} (b : Bool) (o : Operation W) → b ≡ false → (without_end b o).ends ≡ None
no_end true o e = cc
no_end false o e = refl

same_end : {W : Type 0} (b : Bool) (o : Operation W) → b ≡ true → (without_end b o).ends ≡ o.ends
same_end true o e = refl
same_end false o e = cc

-- with these no other one ended that came before one of them
abbrev pub AreFirst : {W : Type 0} → List (Operation W) → List ℕ → Type 0
AreFirst log ended = (p q at end : ℕ) → EndsAt log p at → EndsAt log q end → is_in q ended ≡ true → at ≤ end →
    (at ≡ end → p ≤ q) → is_in p ended ≡ true

module _ {W : Type 0} (log : List (Operation W)) (ended : List ℕ) where
  abbrev pub so_far : List (Operation W)
  so_far = cut_log (λ q. is_in q ended) log

  pub keeps_ends : KeepsEnds log so_far ended
  keeps_ends q at h e = (
    without_end (is_in q ended) e.0,
    get_each (λ q. is_in q ended) log q e.0 e.1,
    same_end (is_in q ended) e.0 h ∙ e.2,
  )

  pub no_other_end : (q : ℕ) (c : Operation W) → slice_get so_far q ≡ Some c → is_in q ended ≡ false → c.ends ≡ None
  no_other_end q c at h =
      let f = get_from (λ q. is_in q ended) log q c at in
      ap (λ (z : Operation W). z.ends) (sym f.2) ∙ no_end (is_in q ended) f.0 h

  pub so_far_is_cut : AreFirst log ended → IsLogCut log so_far
  so_far_is_cut first = record { each = each; from = from; earlier = earlier }
    where
      each : (q : ℕ) (o : Operation W) → slice_get log q ≡ Some o → (c : Operation W) × (slice_get so_far q ≡ Some c) × IsCutOf o c
      each q o at = (
        without_end (is_in q ended) o,
        get_each (λ q. is_in q ended) log q o at,
        is_cut_of (is_in q ended) o,
      )

      from : (q : ℕ) (c : Operation W) → slice_get so_far q ≡ Some c → (o : Operation W) × (slice_get log q ≡ Some o) × IsCutOf o c
      from q c at =
          let f = get_from (λ q. is_in q ended) log q c at in
          let P : Operation W → Type 0 = λ z. IsCutOf f.0 z in (f.0, f.1, subst P f.2 (is_cut_of (is_in q ended) f.0))

      earlier : (p q at end : ℕ) → EndsAt log p at → EndsAt so_far q end → at ≤ end → (at ≡ end → p ≤ q) → EndsAt so_far p at
      earlier p q at end h g le lower =
          let f = get_from (λ q. is_in q ended) log q g.0 g.1 in
          let his : (without_end (is_in q ended) f.0).ends ≡ Some end = ap (λ (z : Operation W). z.ends) f.2 ∙ g.2 in
          let there : is_in q ended ≡ true = has_end (is_in q ended) f.0 end his in
          let ends : f.0.ends ≡ Some end = sym (same_end (is_in q ended) f.0 there) ∙ his in
          keeps_ends p at (first p q at end h (f.0, f.1, ends) there le lower) h
