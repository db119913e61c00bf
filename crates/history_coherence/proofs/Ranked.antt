-- An order by sorted ranks, where all records are placed: they rise along each task, so that the order keeps tasks; and each record stands
-- together, its write first, so that each read has the latest one.
use Rattle.std.proofs.Common.{◌≡◌, ℕ, suc, zero, ◌+◌, ◌<◌, ◌≤◌, Bool, true, false, not, List, [], ◌∷◌, length, map, take, refl, sym}
use Rattle.std.proofs.Common.{◌∙◌, ap, subst, arith, inl, inr, slice_get, Option, None, Some}
use Rattle.std.specs.Prelude.{IsSome}
use Rattle.std.specs.Option.{option_map}
use Rattle.std.proofs.lemmas.Bool.{cases_lt, cases_order, cases_eq, cases_Bool}
use Rattle.std.proofs.lemmas.Option.{slice_get_within, same_Some, slice_get-map, none-some, option_and_then_some, slice_get_cases}
use Rattle.history_core.specs.declared.history.Op.{Op}
use Rattle.history_core.specs.declared.history.Kind.{Kind}
use Rattle.history_core.specs.declared.history.Kind.TheVariants.{Write, Read, Refused}
use Rattle.history_core.specs.Orders.{IsListing, is_write, is_write_at, latest, ReadsLatest, ReadsRight}
use Rattle.history_core.proofs.Atomic.{once_at, some_from}
use Rattle.history_core.proofs.Latest.{latest_is_opening, latest_is_written, NoWriteBetween}
use Rattle.history_core.proofs.Listing.{listing_from}
use Rattle.history_thinning.specs.Tasks.{KeepsTasks}
use Rattle.history_thinning.specs.Thinnings.{Equal}
use Rattle.history_coherence.specs.Coherent.{IsCoherentOrder}
use Rattle.history_coherence.specs.declared.edge.Edge.{Edge}
use Rattle.history_coherence.specs.declared.rank.Rank.{Rank}
use Rattle.history_coherence.specs.declared.walk.Mark.{Mark}
use Rattle.history_coherence.specs.declared.walk.Mark.TheVariants.{Placed}
use Rattle.history_coherence.specs.inner.Keys.{AreKeys, ArePrevious, AreTasks, edge_at, IsPrevious, number_at}
use Rattle.history_coherence.specs.inner.Ranks.{AreRanksInOrder, AreRanksOf, IsRankIn}
use Rattle.history_coherence.specs.inner.Sortings.{HaveKnownRecords}
use Rattle.history_coherence.specs.inner.Walks.{ArePlaced}
use Rattle.history_coherence.proofs.Edges.{edge_from, edge_of, number_within}

abbrev pub places_of : List Rank → List ℕ
places_of ranks = map (λ r. r.place) ranks

pub rank_at : (ranks : List Rank) (i p : ℕ) → slice_get (places_of ranks) i ≡ Some p →
    (r : Rank) × (slice_get ranks i ≡ Some r) × (r.place ≡ p)
rank_at [] i p h = absurd (none-some p h)
rank_at (x ∷ xs) zero p h = (x, refl, same_Some x.place p h)
rank_at (x ∷ xs) (suc i) p h = rank_at xs i p h

pub place_at : (ranks : List Rank) (i : ℕ) (r : Rank) → slice_get ranks i ≡ Some r → slice_get (places_of ranks) i ≡ Some r.place
place_at ranks i r h = slice_get-map (λ (r : Rank). r.place) ranks i ∙ ap (option_map (λ (r : Rank). r.place)) h

right_from : (kind : Kind) (item before : Option ℕ) (x : ℕ) → is_write kind ≡ false → item ≡ Some x → before ≡ Some x →
    ReadsRight Equal kind item before
right_from kind item before x f e b =
    let P : Option ℕ → Option ℕ → Type 0 = λ i k. ReadsRight Equal kind i k in
    subst (λ i. P i before) (sym e) (subst (λ k. P (Some x) k) (sym b) (by kind f))
  where
    by : (kind : Kind) → is_write kind ≡ false → ReadsRight Equal kind (Some x) (Some x)
    by Write f = cc
    by Read f = refl
    by Refused f = refl

right_write : (kind : Kind) (item before : Option ℕ) → is_write kind ≡ true → IsSome item → ReadsRight Equal kind item before
right_write Write item before t h = h
right_write Read item before t h = cc
right_write Refused item before t h = cc

not_true : (b : Bool) → true ≡ not b → b ≡ false
not_true true h = cc
not_true false h = refl

not_false : (b : Bool) → false ≡ not b → b ≡ true
not_false true h = refl
not_false false h = cc

-- what is known of a log whose records are all placed
pub record IsSettledLog (log : List (Op ℕ)) (keys tasks earlier : List (Option ℕ)) (marks : List Mark) (placed : List ℕ) : Type 0 where
  pub once : (p q x : ℕ) (a b : Op ℕ) → slice_get log p ≡ Some a → slice_get log q ≡ Some b → is_write a.kind ≡ true →
      is_write b.kind ≡ true → a.item ≡ Some x → b.item ≡ Some x → p ≡ q
  pub fresh : (p : ℕ) (a : Op ℕ) → slice_get log p ≡ Some a → is_write a.kind ≡ true → a.item ≡ Some 0 → ⊥
  pub long : length keys ≡ length log
  pub keyed : AreKeys log keys
  pub tasked : AreTasks log keys tasks
  pub before : ArePrevious tasks (length tasks) earlier
  pub have : HaveKnownRecords log keys
  pub ahead : (q : ℕ) (e : Edge) (o : Op ℕ) → edge_at keys earlier q ≡ Some e → slice_get log q ≡ Some o → e.from ≡ e.to →
      is_write o.kind ≡ true → ⊥
  pub placing : ArePlaced keys earlier marks placed

module _ (log : List (Op ℕ)) (keys tasks earlier : List (Option ℕ)) (marks : List Mark) (placed : List ℕ)
    (known : IsSettledLog log keys tasks earlier marks placed) where
  abbrev HasRank : ℕ → ℕ → Type 0
  HasRank x rank = slice_get marks x ≡ Some (Placed rank)

  abbrev Member : ℕ → Op ℕ → ℕ → Type 0
  Member p o x = (slice_get log p ≡ Some o) × (number_at keys p ≡ Some x)

  -- each record that an operation has is placed, and each rank is that of one record
  pub has_rank : (p x : ℕ) → number_at keys p ≡ Some x → (rank : ℕ) × HasRank x rank
  has_rank p x e = known.placing.2 x (known.placing.1.keyed p x e)

  same_rank : (x rank other : ℕ) → HasRank x rank → HasRank x other → rank ≡ other
  same_rank x rank other h k =
      let e : Some (Placed rank) ≡ Some (Placed other) = sym h ∙ k in
      cc

  of_rank : (x y rank : ℕ) → HasRank x rank → HasRank y rank → x ≡ y
  of_rank x y rank h k = same_Some x y (sym (known.placing.1.ranked x rank h) ∙ known.placing.1.ranked y rank k)

  op_at : (p x : ℕ) → number_at keys p ≡ Some x → (o : Op ℕ) × (slice_get log p ≡ Some o)
  op_at p x e = elim (slice_get_cases log p).1 [
    | inl w ↦ (w.0, w.2)
    | inr w ↦ let l = number_within keys p x e in let s = known.long in absurd (omega (arith, w.0))
  ]

  -- the record of a write is its own
  own : (p x : ℕ) (o : Op ℕ) → Member p o x → o.item ≡ Some x
  own p x o m = (known.keyed.stands p x o m.0 m.1).1

  -- ---- records rise along a task
  -- the operation just before, and no greater rank
  pub record IsStep (p q x y : ℕ) : Type 0 where
    pub rank : ℕ
    pub other : ℕ
    pub has : HasRank x rank
    pub also : HasRank y other
    pub up : rank ≤ other

  along : (p q x y : ℕ) → number_at earlier q ≡ Some p → number_at keys p ≡ Some x → number_at keys q ≡ Some y → IsStep p q x y
  along p q x y e kp kq =
      let a = has_rank p x kp in
      let b = has_rank q y kq in
      let at = edge_from keys earlier q y p x kq e kp in
      elim (known.placing.1.below y b.0 q (edge_of q y p x) b.1 at refl) [
        | inl s ↦
            let same : a.0 ≡ b.0 = same_rank y a.0 b.0 (let P : ℕ → Type 0 = λ z. HasRank z a.0 in subst P s a.1) b.1 in
            record { rank = a.0; other = b.0; has = a.1; also = b.1; up = omega arith }
        | inr w ↦
            let same : a.0 ≡ w.0 = same_rank x a.0 w.0 a.1 w.1 in
            let l = w.2 in
            record { rank = a.0; other = b.0; has = a.1; also = b.1; up = omega arith }
      ]

  -- the last operation of the task before one, which another one precedes or is
  pub record IsLastBefore (p q t : ℕ) : Type 0 where
    pub r : ℕ
    pub at : number_at earlier q ≡ Some r
    pub less : r < q
    pub up_to : p ≤ r
    pub task : number_at tasks r ≡ Some t

  last_before : (p q t : ℕ) → number_at tasks p ≡ Some t → number_at tasks q ≡ Some t → p < q → IsLastBefore p q t
  last_before p q t hp hq l = by (number_at earlier q) refl (known.before.each q t (number_within tasks q t hq) hq)
    where
      by : (found : Option ℕ) → number_at earlier q ≡ found → IsPrevious tasks q t found → IsLastBefore p q t
      by None e h = absurd (h p l hp)
      by (Some r) e h = elim (cases_lt r p) [
        | inl lt ↦ absurd (h.2 p lt l hp)
        | inr le ↦ record { r = r; at = e; less = h.0; up_to = le; task = h.1 }
      ]

  key_of_task : (p t : ℕ) → number_at tasks p ≡ Some t → (x : ℕ) × (number_at keys p ≡ Some x)
  key_of_task p t h = let w = known.tasked.key p t h in (w.1, w.4)

  rises : (n p q t x y : ℕ) → q < n → p < q → number_at tasks p ≡ Some t → number_at tasks q ≡ Some t → number_at keys p ≡ Some x →
      number_at keys q ≡ Some y → IsStep p q x y
  rises zero p q t x y l pq hp hq kp kq = absurd (omega arith)
  rises (suc n) p q t x y l pq hp hq kp kq =
      let b = last_before p q t hp hq pq in
      let less = b.less in
      let up_to = b.up_to in
      let z = key_of_task b.r t b.task in
      let last = along b.r q z.0 y b.at z.1 kq in
      elim (cases_eq p b.r) [
        | inl s ↦
            let k : number_at keys b.r ≡ Some x = ap (number_at keys) (sym s) ∙ kp in
            along_as b.r (along b.r q x y b.at k kq)
        | inr ne ↦
            let first = rises n p b.r t x z.0 (omega arith) (omega arith) hp b.task kp z.1 in
            let same : first.other ≡ last.rank = same_rank z.0 first.other last.rank first.also last.has in
            let u = first.up in
            let v = last.up in
            record { rank = first.rank; other = last.other; has = first.has; also = last.also; up = omega arith }
      ]
    where
      along_as : (r : ℕ) → IsStep r q x y → IsStep p q x y
      along_as r h = record { rank = h.rank; other = h.other; has = h.has; also = h.also; up = h.up }

  -- a write is the first of its task with its record
  no_write : (p q t x : ℕ) (o : Op ℕ) → p < q → number_at tasks p ≡ Some t → number_at tasks q ≡ Some t → number_at keys p ≡ Some x →
      Member q o x → is_write o.kind ≡ true → ⊥
  no_write p q t x o pq hp hq kp m write =
      let b = last_before p q t hp hq pq in
      let less = b.less in
      let up_to = b.up_to in
      let z = key_of_task b.r t b.task in
      let last = along b.r q z.0 x b.at z.1 m.1 in
      let same : z.0 ≡ x = elim (cases_eq p b.r) [
        | inl s ↦ same_Some z.0 x (sym z.1 ∙ ap (number_at keys) (sym s) ∙ kp)
        | inr ne ↦
            let first = rises (suc b.r) p b.r t x z.0 (omega arith) (omega arith) hp b.task kp z.1 in
            let u = first.up in
            let v = last.up in
            let e : first.rank ≡ last.other = same_rank x first.rank last.other first.has last.also in
            let f : first.other ≡ last.rank = same_rank z.0 first.other last.rank first.also last.has in
            let g : last.rank ≡ last.other = omega arith in
            let P : ℕ → Type 0 = λ n. HasRank z.0 n in
            of_rank z.0 x last.other (subst P g last.has) last.also
      ] in
      known.ahead q (edge_of q x b.r z.0) o (edge_from keys earlier q x b.r z.0 m.1 b.at z.1) m.0 same write

  module _ (ranks : List Rank) (ranked : AreRanksOf log keys marks (length log) ranks) (in_order : AreRanksInOrder ranks) where
    is_rank : (i : ℕ) (r : Rank) → slice_get ranks i ≡ Some r → IsRankIn log keys marks r
    is_rank i r e = (ranked.each i r e).0

    places_once : (i j p : ℕ) → slice_get (places_of ranks) i ≡ Some p → slice_get (places_of ranks) j ≡ Some p → i ≡ j
    places_once i j p a b = once_at (places_of ranks) p i j (ranked.once p) a b

    -- what stands at an entry
    pub record Entry (i p : ℕ) (o : Op ℕ) : Type 0 where
      pub r : Rank
      pub at : slice_get ranks i ≡ Some r
      pub place : r.place ≡ p
      pub key : ℕ
      pub member : Member p o key
      pub has : HasRank key r.rank
      pub answers : is_write o.kind ≡ not r.answers

    pub entry : (i p : ℕ) (o : Op ℕ) → slice_get (places_of ranks) i ≡ Some p → slice_get log p ≡ Some o → Entry i p o
    entry i p o e f =
        let w = rank_at ranks i p e in
        let k = is_rank i w.0 w.1 in
        let s : k.op ≡ o = same_Some k.op o (sym k.at ∙ ap (slice_get log) w.2 ∙ f) in
        record {
          r = w.0;
          at = w.1;
          place = w.2;
          key = k.key;
          member = (f, ap (number_at keys) (sym w.2) ∙ k.has);
          has = k.ranked;
          answers = ap (λ (z : Op ℕ). is_write z.kind) (sym s) ∙ k.answers;
        }

    entry_of : (p x : ℕ) → number_at keys p ≡ Some x → (i : ℕ) × (slice_get (places_of ranks) i ≡ Some p)
    entry_of p x e =
        let l : p < length log = let k = number_within keys p x e in let s = known.long in omega arith in
        let w = ranked.all p x l e in
        (w.0, place_at ranks w.0 w.1 w.2 ∙ ap Some w.3)

    -- a greater rank stands later, and so does an answer of one rank behind its write
    rank_up : (i j p q : ℕ) (a b : Op ℕ) (x : Entry i p a) (y : Entry j q b) → i ≤ j → x.r.rank ≤ y.r.rank
    rank_up i j p q a b x y le = elim (cases_lt i j) [
      | inl l ↦ (in_order i j x.r y.r x.at y.at l).rank
      | inr ge ↦
          let s : i ≡ j = omega arith in
          let e : x.r.rank ≡ y.r.rank = ap (λ (z : Rank). z.rank) (same_Some x.r y.r (sym x.at ∙ ap (slice_get ranks) s ∙ y.at)) in
          omega arith
    ]

    -- an operation of one record, and its write
    write_first : (i j p q : ℕ) (a b : Op ℕ) (x : Entry i p a) (y : Entry j q b) → x.r.rank ≡ y.r.rank → is_write a.kind ≡ false →
        is_write b.kind ≡ true → j < i
    write_first i j p q a b x y same f t = elim (cases_order i j) [
      | inl s ↦
          let e : x.r.answers ≡ y.r.answers = ap (λ (z : Rank). z.answers) (same_Some x.r y.r (sym x.at ∙ ap (slice_get ranks) s ∙ y.at)) in
          let u : x.r.answers ≡ true = not_false x.r.answers (sym f ∙ x.answers) in
          let v : y.r.answers ≡ false = not_true y.r.answers (sym t ∙ y.answers) in
          cc
      | inr (inl l) ↦
          let u : x.r.answers ≡ true = not_false x.r.answers (sym f ∙ x.answers) in
          let v : y.r.answers ≡ false = not_true y.r.answers (sym t ∙ y.answers) in
          let w : y.r.answers ≡ true = (in_order i j x.r y.r x.at y.at l).answers same u in
          cc
      | inr (inr l) ↦ l
    ]

    pub ranks_list : IsListing log (places_of ranks)
    ranks_list = listing_from log (places_of ranks)
        (λ i p e.
        let r = rank_at ranks i p e in
        let l : r.0.place < length log = (ranked.each i r.0 r.1).1 in
        let s : r.0.place ≡ p = r.2 in
        omega arith) places_once
        (λ p end o e en.
        let g = known.have.finished p o e (some_from o.ends end en) in
        entry_of p g.0 g.1)
        (λ i p o at en.
        let x = entry i p o at.0 at.1 in
        let h = known.keyed.stands p x.key o at.1 x.member.1 in
        elim h.0 [
          | inl s ↦ let P : Option ℕ → Type 0 = λ z. IsSome z in let w : IsSome {T = ℕ} None = subst P en s in cc
          | inr w ↦ w.0
        ])

    pub ranks_keep_tasks : KeepsTasks log (places_of ranks)
    ranks_keep_tasks i j p q a b sa sb who pq =
        let x = entry i p a sa.0 sa.1 in
        let y = entry j q b sb.0 sb.1 in
        let ta = known.tasked.task p x.key a sa.1 x.member.1 in
        let tb : number_at tasks q ≡ Some a.who = known.tasked.task q y.key b sb.1 y.member.1 ∙ ap Some (sym who) in
        let up = rises (suc q) p q a.who x.key y.key (omega arith) pq ta tb x.member.1 y.member.1 in
        let ra : x.r.rank ≡ up.rank = same_rank x.key x.r.rank up.rank x.has up.has in
        let rb : y.r.rank ≡ up.other = same_rank y.key y.r.rank up.other y.has up.also in
        let le = up.up in
        elim (cases_lt i j) [
          | inl l ↦ l
          | inr ge ↦
              let down = rank_up j i q p b a y x ge in
              let same : x.r.rank ≡ y.r.rank = omega arith in
              let P : ℕ → Type 0 = λ n. HasRank y.key n in
              let key : x.key ≡ y.key = of_rank x.key y.key x.r.rank x.has (subst P (sym same) y.has) in
              let not_write : is_write b.kind ≡ false = elim (cases_Bool (is_write b.kind)) [
                | inr f ↦ f
                | inl t ↦ absurd (no_write p q a.who y.key b pq ta tb (x.member.1 ∙ ap Some key) y.member t)
              ] in
              let late : y.r.answers ≡ true = not_false y.r.answers (sym not_write ∙ y.answers) in
              let pa : x.r.place ≡ p = x.place in
              let pb : y.r.place ≡ q = y.place in
              elim (cases_eq i j) [
                | inl s ↦
                    let e : x.r.place ≡ y.r.place =
                    ap (λ (z : Rank). z.place) (same_Some x.r y.r (sym x.at ∙ ap (slice_get ranks) s ∙ y.at)) in
                    absurd (omega arith)
                | inr ne ↦
                    let h = in_order j i y.r x.r y.at x.at (omega arith) in
                    let also : x.r.answers ≡ true = h.answers (sym same) late in
                    let k = h.place (sym same) (late ∙ sym also) in
                    absurd (omega arith)
              ]
        ]

    -- ---- reading
    none_between : (i j n w : ℕ) (o a : Op ℕ) (x : Entry i n o) (y : Entry j w a) → x.r.rank ≡ y.r.rank → is_write a.kind ≡ true →
        NoWriteBetween log (places_of ranks) (j + 1) i
    none_between i j n w o a x y same t m p jm mi e = elim (slice_get_cases log p).1 [
      | inr none ↦ ap is_write_at none.1
      | inl b ↦
          let z = entry m p b.0 e b.2 in
          let up = rank_up j m w p a b.0 y z (omega arith) in
          let down = rank_up m i p n b.0 o z x (omega arith) in
          let ranks_same : y.r.rank ≡ z.r.rank = omega arith in
          let P : ℕ → Type 0 = λ k. HasRank z.key k in
          let key : y.key ≡ z.key = of_rank y.key z.key y.r.rank y.has (subst P (sym ranks_same) z.has) in
          ap is_write_at b.2 ∙ elim (cases_Bool (is_write b.0.kind)) [
            | inr f ↦ f
            | inl u ↦
                let s : w ≡ p = known.once w p y.key a b.0 y.member.0 b.2 t u (own w y.key a y.member)
                (own p z.key b.0 z.member ∙ ap Some (sym key)) in
                let jm_same : j ≡ m = places_once j m p (place_at ranks j y.r y.at ∙ ap Some (y.place ∙ s)) e in
                absurd (omega arith)
          ]
    ]

    none_before : (i n : ℕ) (o : Op ℕ) (x : Entry i n o) → x.key ≡ 0 → NoWriteBetween log (places_of ranks) 0 i
    none_before i n o x zero_key m p _ mi e = elim (slice_get_cases log p).1 [
      | inr none ↦ ap is_write_at none.1
      | inl b ↦
          let z = entry m p b.0 e b.2 in
          let down = rank_up m i p n b.0 o z x (omega arith) in
          let P : ℕ → Type 0 = λ k. HasRank k x.r.rank in
          let base : x.r.rank ≡ 0 = same_rank 0 x.r.rank 0 (subst P zero_key x.has) known.placing.1.opening in
          let Q : ℕ → Type 0 = λ k. HasRank z.key k in
          let low : z.r.rank ≡ 0 = omega arith in
          let key : z.key ≡ 0 = of_rank z.key 0 0 (subst Q low z.has) known.placing.1.opening in
          ap is_write_at b.2 ∙ elim (cases_Bool (is_write b.0.kind)) [
            | inr f ↦ f
            | inl u ↦ absurd (known.fresh p b.0 b.2 u (own p z.key b.0 z.member ∙ ap Some key))
          ]
    ]

    latest_right : (i n : ℕ) (o : Op ℕ) (x : Entry i n o) → is_write o.kind ≡ false →
        latest 0 log (take i (places_of ranks)) ≡ Some x.key
    latest_right i n o x f =
        let within = slice_get_within (places_of ranks) i x.r.place (place_at ranks i x.r x.at) in
        let l : i ≤ length (places_of ranks) = omega arith in
        elim (known.have.source n x.key x.member.1) [
          | inl s ↦ latest_is_opening 0 log (places_of ranks) i l (none_before i n o x s) ∙ ap Some (sym s)
          | inr w ↦
              let j = entry_of w.0 x.key w.4 in
              let y = entry j.0 w.0 w.1 j.1 w.2 in
              let key : x.key ≡ y.key = same_Some x.key y.key (sym w.4 ∙ y.member.1) in
              let P : ℕ → Type 0 = λ k. HasRank k x.r.rank in
              let same : x.r.rank ≡ y.r.rank = same_rank y.key x.r.rank y.r.rank (subst P key x.has) y.has in
              let first = write_first i j.0 n w.0 o w.1 x y same f w.3 in
              latest_is_written 0 log (places_of ranks) j.0 i w.0 w.1 (j.1, w.2) w.3 first l
              (none_between i j.0 n w.0 o w.1 x y same w.3) ∙ own w.0 x.key w.1 (w.2, w.4)
        ]

    pub ranks_read : ReadsLatest Equal 0 log (places_of ranks)
    ranks_read i o listed = option_and_then_some (slice_get log) (slice_get (places_of ranks) i) o listed (λ p e f.
        let x = entry i p o e f in
        let item = own p x.key o x.member in
        elim (cases_Bool (is_write o.kind)) [
          | inl t ↦ right_write o.kind o.item _ t (some_from o.item x.key item)
          | inr n ↦ right_from o.kind o.item (latest 0 log (take i (places_of ranks))) x.key n item (latest_right i p o x n)
        ])

    pub ranks_coherent : IsCoherentOrder Equal 0 log (places_of ranks)
    ranks_coherent = record { listing = ranks_list; tasks = ranks_keep_tasks; reading = ranks_read }
