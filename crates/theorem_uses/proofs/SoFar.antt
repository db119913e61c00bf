-- The calls of a run so far are operations of its history, and what an atomic order says of operations it says of them.
use Rattle.std.proofs.Common.{◌≡◌, ◌≢◌, ℕ, zero, suc, ◌+◌, ◌<◌, ◌≤◌, Bool, true, false, List, [], ◌∷◌, length, slice_get, take, Option}
use Rattle.std.proofs.Common.{None, Some, unwrap_or, refl, sym, ◌∙◌, ap, subst, ◌⊎◌, inl, inr, arith}
use Rattle.std.specs.Prelude.{if◌then◌else◌, is_some, ◌&&◌, ◌||◌}
use Rattle.std.proofs.lemmas.Bool.{cases_eq, cases_order}
use Rattle.std.proofs.lemmas.Option.{none-some, same_Some, slice_get_within}
use Rattle.history_core.specs.declared.history.Op.{Op}
use Rattle.history_core.specs.declared.history.Kind.{Kind}
use Rattle.history_core.specs.declared.history.Kind.TheVariants.{Write, Read, Refused}
use Rattle.history_core.specs.Orders.{is_write, times_of}
use Rattle.history_core.proofs.Counts.{times_some}
use Rattle.history_core.proofs.Listing.{times_cases}
use Rattle.matrix_core.specs.declared.stamp.Stamp.{Stamp}
use Rattle.matrix_core.specs.Choices.{IsAtMost}
use Rattle.matrix_core.specs.Listings.{MayPrecede}
use Rattle.board_history.specs.BoardRuns.{Called, Did}
use Rattle.board_history.specs.HistoriesSoFar.{IsAtomicRunSoFar, IsOpOfCallSoFar, IsUnchosenCall}
use Rattle.board_history.specs.BoardRuns.{end_of}
use Rattle.board_history.specs.RunsSoFar.{unchosen_begin}
use Rattle.theorem_uses.specs.Boards.{IsOnlyBoardWrite}
use Rattle.theorem_uses.specs.SoFar.{CallsStandSoFar, StandsSoOften, ReadsThoughOthersStop, RefusesNoneSoFar, RunsSoFarShow}
use Rattle.theorem_uses.specs.SoFar.{StampsRiseSoFar}
use Rattle.theorem_uses.specs.SoFar.{UnchosenStandsNowhere}
use Rattle.theorem_uses.proofs.Latest.{is_among, IsOnlyAmong}
use Rattle.theorem_uses.proofs.Ordered.{cut, intervals, reads as read_at, uncut, waits_among}

differ : Write ≡ Read → ⊥
differ e = cc

found : {A : Type 0} (xs : List A) (p : ℕ) → p < length xs → (x : A) × (slice_get xs p ≡ Some x)
found [] p l = absurd (omega arith)
found (x ∷ xs) zero l = (x, refl)
found (x ∷ xs) (suc p) l = found xs p (omega arith)

at_most : {V : Type 0} (s t : Stamp) (p q : ℕ) (a b : Op V) → MayPrecede s a p t b q → IsAtMost s t
at_most s t p q a b (inl below) = inr below
at_most s t p q a b (inr same) = inl same.0

-- how often an operation of this end, kind and stamp stands
abbrev so_often : Option ℕ → Kind → Option Stamp → ℕ
so_often ends kind stamp = if is_some ends || (is_write kind && is_some stamp) then 1 else 0

of_write : (ends : Option ℕ) (s : Stamp) → so_often ends Write (Some s) ≡ 1
of_write None s = refl
of_write (Some e) s = refl

not_write : (kind : Kind) (s : Stamp) → kind ≢ Write → so_often None kind (Some s) ≡ 0
not_write Write s h = absurd (h refl)
not_write Read s h = refl
not_write Refused s h = refl

unchosen : (kind : Kind) → so_often None kind None ≡ 0
unchosen Write = refl
unchosen Read = refl
unchosen Refused = refl

module _ {V : Type 0} (width n limit : ℕ) (opening : V) (steps : List ℕ) (did : ℕ → Did V)
    (run : IsAtomicRunSoFar width n limit opening steps did) where
  -- the operation of a call, with its place
  record Placed (i k : ℕ) (c : Called V) : Type 0 where
    pub place : ℕ
    pub op : Op V
    pub there : slice_get run.ops place ≡ Some op
    pub who : op.who ≡ i
    pub kind : op.kind ≡ c.kind
    pub item : op.item ≡ Some c.chosen.item
    pub stamp : slice_get run.stamps place ≡ Some (Some c.chosen.stamp)
    pub begins : op.starts ≡ c.begin
    pub ends : op.ends ≡ end_of width n (did i) k c

  placed : (i k : ℕ) (c : Called V) → i < n → slice_get (did i).calls k ≡ Some c → Placed i k c
  placed i k c l at =
      let h = run.history.all i k c l at in
      let is = h.6 in
      let same : is.call ≡ c = same_Some is.call c (sym is.made ∙ ap (λ z. slice_get (did z).calls k) h.5 ∙ at) in
      record {
        place = h.0;
        op = h.1;
        there = h.3;
        who = h.5;
        kind = is.kind ∙ ap (λ (z : Called V). z.kind) same;
        item = is.item ∙ ap (λ (z : Called V). Some z.chosen.item) same;
        stamp = h.4 ∙ ap Some (is.stamp ∙ ap (λ (z : Called V). Some z.chosen.stamp) same);
        begins = is.begins ∙ ap (λ (z : Called V). z.begin) same;
        ends = is.ends ∙ ap (λ j. end_of width n (did j) k is.call) h.5 ∙ ap (end_of width n (did i) k) same;
      }

  -- an operation stands as often as its end, kind and stamp say
  often : (p : ℕ) (op : Op V) (stamp : Option Stamp) (ends : Option ℕ) (kind : Kind) → slice_get run.ops p ≡ Some op →
      slice_get run.stamps p ≡ Some stamp → op.ends ≡ ends → op.kind ≡ kind → times_of p run.order ≡ so_often ends kind stamp
  often p op stamp ends kind at s e k =
      run.chosen p op stamp at s ∙ ap (λ z. so_often z op.kind stamp) e ∙ ap (λ z. so_often ends z stamp) k

  somewhere : (p : ℕ) → times_of p run.order ≡ 1 → (x : ℕ) × (slice_get run.order x ≡ Some p)
  somewhere p one = elim (times_cases p run.order) [ inl w ↦ w | inr none ↦ absurd (omega (arith, one, none)) ]

  stands : (i k end : ℕ) (c : Called V) (x : Placed i k c) → end_of width n (did i) k c ≡ Some end →
      (y : ℕ) × (slice_get run.order y ≡ Some x.place)
  stands i k end c x e =
      somewhere x.place (often x.place x.op (Some c.chosen.stamp) (Some end) c.kind x.there x.stamp (x.ends ∙ e) x.kind)

  write_stands : (i k : ℕ) (c : Called V) (x : Placed i k c) → c.kind ≡ Write → times_of x.place run.order ≡ 1
  write_stands i k c x w =
      often x.place x.op (Some c.chosen.stamp) x.op.ends Write x.there x.stamp refl (x.kind ∙ w) ∙ of_write x.op.ends c.chosen.stamp

  -- an operation that stands in the order is a call that has chosen
  of_call : (y p : ℕ) (op : Op V) → slice_get run.order y ≡ Some p → slice_get run.ops p ≡ Some op →
      (stamp : Option Stamp) × (k : ℕ) × IsOpOfCallSoFar width n did op stamp k
  of_call y p op entry at =
      let l : p < length run.stamps = let a = slice_get_within run.ops p op at in let b = run.history.long in omega (arith, a, b) in
      let s = found run.stamps p l in
      which s.0 s.1 (run.history.each p op s.0 at s.1)
    where
      which : (stamp : Option Stamp) → slice_get run.stamps p ≡ Some stamp →
          ((k : ℕ) × IsOpOfCallSoFar width n did op stamp k) ⊎ IsUnchosenCall width n did op stamp →
          (stamp : Option Stamp) × (k : ℕ) × IsOpOfCallSoFar width n did op stamp k
      which stamp s (inl c) = (stamp, c.0, c.1)
      which stamp s (inr u) =
          let none = often p op None None op.kind at (s ∙ ap Some u.stamp) u.ends refl ∙ unchosen op.kind in
          let some = times_some p y run.order entry in
          absurd (omega (arith, none, some))

  no_two : (p q : ℕ) (a b : Op V) → slice_get run.ops p ≡ Some a → slice_get run.ops q ≡ Some b → a.starts ≡ b.starts → p ≡ q
  no_two p q a b at_p at_q e = elim (cases_order p q) [
    | inl same ↦ same
    | inr (inl below) ↦ absurd (let z = run.history.rising p q a b at_p at_q below in omega (arith, z, e))
    | inr (inr above) ↦ absurd (let z = run.history.rising q p b a at_q at_p above in omega (arith, z, e))
  ]

  -- a write that stands in the order is the only write
  only_among : (i k : ℕ) (w : Called V) → IsOnlyBoardWrite n did i k w → (x : Placed i k w) → IsOnlyAmong run.ops x.place run.order
  only_among i k w only x y q op entry at kind =
      let c = of_call y q op entry at in
      let is = c.2 in
      let known = only.only op.who c.1 is.call is.who is.made (sym is.kind ∙ kind) in
      let same : is.call ≡ w = same_Some is.call w (sym is.made ∙ ap (λ z. slice_get (did z).calls c.1) known.0
      ∙ ap (λ z. slice_get (did i).calls z) known.1 ∙ only.there) in
      no_two q x.place op x.op at x.there (is.begins ∙ ap (λ (z : Called V). z.begin) same ∙ sym x.begins)

  apart : (i k j m : ℕ) (w r : Called V) → w.kind ≡ Write → r.kind ≡ Read → (x : Placed i k w) → (y : Placed j m r) → x.place ≢ y.place
  apart i k j m w r writes reads x y same =
      let one : x.op ≡ y.op = same_Some x.op y.op (sym x.there ∙ ap (slice_get run.ops) same ∙ y.there) in
      differ (sym writes ∙ sym x.kind ∙ ap (λ (z : Op V). z.kind) one ∙ y.kind ∙ reads)

  reads_it : (i k j m end fin : ℕ) (w r : Called V) → IsOnlyBoardWrite n did i k w → j < n → slice_get (did j).calls m ≡ Some r →
      r.kind ≡ Read → end_of width n (did i) k w ≡ Some end → end < r.begin → end_of width n (did j) m r ≡ Some fin →
      r.chosen.item ≡ w.chosen.item
  reads_it i k j m end fin w r only l at reads ended later finished =
      let x = placed i k w only.inside only.there in
      let y = placed j m r l at in
      let at_x = stands i k end w x ended in
      let at_y = stands j m fin r y finished in
      let starts : end < y.op.starts = let z = y.begins in omega (arith, z, later) in
      let before = intervals opening run.ops run.order at_x.0 at_y.0 x.place y.place end x.op y.op run.atomic at_x.1 at_y.1 x.there
      y.there (apart i k j m w r only.kind reads x y) (x.ends ∙ ended) starts in
      let has = read_at opening run.ops run.order at_y.0 y.place y.op run.atomic at_y.1 y.there (y.kind ∙ reads) in
      let there = is_among opening run.ops x.place at_x.0 x.op (take at_y.0 run.order) x.there
      (λ z q op e. only_among i k w only x z q op (uncut run.order z at_y.0 q e)) (x.kind ∙ only.kind)
      (cut run.order at_x.0 at_y.0 x.place before at_x.1) in
      same_Some r.chosen.item w.chosen.item (sym y.item ∙ has.1 ∙ sym has.2 ∙ there ∙ x.item)

  refuses_none : (j m fin : ℕ) (c : Called V) → 0 < limit →
      ((i k : ℕ) (c : Called V) → i < n → slice_get (did i).calls k ≡ Some c → c.kind ≢ Write) → j < n →
      slice_get (did j).calls m ≡ Some c → end_of width n (did j) m c ≡ Some fin → c.kind ≢ Refused
  refuses_none j m fin c some none l at finished refused =
      let y = placed j m c l at in
      let at_y = stands j m fin c y finished in
      waits_among limit run.ops run.order at_y.0 y.place y.op some run.lawful
      (λ z q op e at_q writes. let c = of_call z q op (uncut run.order z at_y.0 q e) at_q in
      none op.who c.1 c.2.call c.2.who c.2.made (sym c.2.kind ∙ writes)) at_y.1 y.there (y.kind ∙ refused)

  rise_to : (i k j m end : ℕ) (a b : Called V) → i < n → slice_get (did i).calls k ≡ Some a → (y : Placed j m b) →
      (e : ℕ) × (slice_get run.order e ≡ Some y.place) → end_of width n (did i) k a ≡ Some end → end < b.begin →
      IsAtMost a.chosen.stamp b.chosen.stamp
  rise_to i k j m end a b li at_a y at_y ended later =
      let x = placed i k a li at_a in
      let at_x = stands i k end a x ended in
      elim (cases_eq x.place y.place) [
        | inl same ↦
            inl (ap (λ (z : Option Stamp). unwrap_or z a.chosen.stamp) (same_Some (Some a.chosen.stamp) (Some b.chosen.stamp)
            (sym x.stamp ∙ ap (slice_get run.stamps) same ∙ y.stamp)))
        | inr other ↦
            let starts : end < y.op.starts = let z = y.begins in omega (arith, z, later) in
            let before = intervals opening run.ops run.order at_x.0 at_y.0 x.place y.place end x.op y.op run.atomic at_x.1 at_y.1
            x.there y.there other (x.ends ∙ ended) starts in
            at_most a.chosen.stamp b.chosen.stamp x.place y.place x.op y.op
            (run.by_stamp.sorted at_x.0 at_y.0 x.place y.place x.op y.op a.chosen.stamp b.chosen.stamp before
            (at_x.1, x.there) (at_y.1, y.there) x.stamp y.stamp)
      ]

  stamps_rise : (i k j m end : ℕ) (a b : Called V) → i < n → j < n → slice_get (did i).calls k ≡ Some a →
      slice_get (did j).calls m ≡ Some b → end_of width n (did i) k a ≡ Some end → end < b.begin → b.kind ≡ Write →
      IsAtMost a.chosen.stamp b.chosen.stamp
  stamps_rise i k j m end a b li lj at_a at_b ended later writes =
      let y = placed j m b lj at_b in
      rise_to i k j m end a b li at_a y (somewhere y.place (write_stands j m b y writes)) ended later

  -- the same to a call that has ended
  ended_rise : (i k j m end fin : ℕ) (a b : Called V) → i < n → j < n → slice_get (did i).calls k ≡ Some a →
      slice_get (did j).calls m ≡ Some b → end_of width n (did i) k a ≡ Some end → end < b.begin → end_of width n (did j) m b ≡ Some fin →
      IsAtMost a.chosen.stamp b.chosen.stamp
  ended_rise i k j m end fin a b li lj at_a at_b ended later finished =
      let y = placed j m b lj at_b in rise_to i k j m end a b li at_a y (stands j m fin b y finished) ended later

module _ {V : Type 0} where
  pub reads_the_only_so_far : ReadsThoughOthersStop V
  reads_the_only_so_far width n limit opening steps did i k j m end fin w r run only l at reads ended later finished =
      reads_it width n limit opening steps did run i k j m end fin w r only l at reads ended later finished

  pub refuses_none_so_far : RefusesNoneSoFar V
  refuses_none_so_far width n limit opening steps did j m fin c some run none l at finished =
      refuses_none width n limit opening steps did run j m fin c some none l at finished

  pub stamps_rise_so_far : StampsRiseSoFar V
  stamps_rise_so_far width n limit opening steps did i k j m end a b run li lj at_a at_b ended later writes =
      stamps_rise width n limit opening steps did run i k j m end a b li lj at_a at_b ended later writes

  pub ended_rise_so_far : (width n limit : ℕ) (opening : V) (steps : List ℕ) (did : ℕ → Did V)
      (run : IsAtomicRunSoFar width n limit opening steps did) (i k j m end fin : ℕ) (a b : Called V) → i < n → j < n →
      slice_get (did i).calls k ≡ Some a → slice_get (did j).calls m ≡ Some b → end_of width n (did i) k a ≡ Some end → end < b.begin →
      end_of width n (did j) m b ≡ Some fin → IsAtMost a.chosen.stamp b.chosen.stamp
  ended_rise_so_far = ended_rise

  pub calls_stand_so_far : CallsStandSoFar V
  calls_stand_so_far width n limit opening steps did i k c run l at =
      let x = placed width n limit opening steps did run i k c l at in
      let listed : (times : ℕ) → times_of x.place run.order ≡ times →
      StandsSoOften run.ops run.stamps run.order x.op (Some c.chosen.stamp) times =
      λ times e. record { place = x.place; there = x.there; chose = x.stamp; stands = e } in (
        x.op,
        x.who,
        x.kind,
        x.item,
        x.begins,
        x.ends,
        (λ w. listed 1 (write_stands width n limit opening steps did run i k c x w)),
        (λ fin e. listed 1 (often width n limit opening steps did run x.place x.op (Some c.chosen.stamp) (Some fin) c.kind x.there x.stamp
            (x.ends ∙ e) x.kind)),
        (λ none other. listed 0 (often width n limit opening steps did run x.place x.op (Some c.chosen.stamp) None c.kind x.there x.stamp
            (x.ends ∙ none) x.kind ∙ not_write c.kind c.chosen.stamp other)),
      )

  pub unchosen_stands_nowhere : UnchosenStandsNowhere V
  unchosen_stands_nowhere width n limit opening steps did i begin run l e =
      let h = run.history.unchosen i begin l e in
      let u = h.6 in
      let starts : h.1.starts ≡ begin = same_Some h.1.starts begin (sym u.begins ∙ ap (λ j. unchosen_begin width n (did j)) h.5 ∙ e) in (
        h.1,
        h.5,
        starts,
        u.ends,
        record {
          place = h.0;
          there = h.3;
          chose = h.4 ∙ ap Some u.stamp;
          stands = often width n limit opening steps did run h.0 h.1 None None h.1.kind h.3 (h.4 ∙ ap Some u.stamp) u.ends refl
              ∙ unchosen h.1.kind;
        },
      )

  pub runs_so_far_show_their_parts : RunsSoFarShow V
  runs_so_far_show_their_parts width n limit opening steps did r =
      (r.run.size.0, r.run.size.1, r.run.size.2, r.run.within, r.run.scheduled, r.run.each, r.run.registers)
