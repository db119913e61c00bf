-- The history of a board's run so far: its calls, sorted by beginning, and the order by stamp of those that are listed.
use Rattle.std.proofs.Common.{◌≡◌, ℕ, zero, suc, ◌<◌, Bool, true, false, List, [], ◌∷◌, ◌++◌, length, map}
use Rattle.std.proofs.Common.{get_or, slice_get, Option, Some, refl, sym, ◌∙◌, ap, subst, arith, ◌⊎◌, inl, inr, ⊎_elim}
use Rattle.std.proofs.Common.{◌+◌, ◌-◌, ◌*◌, ◌≤◌, None}
use Rattle.std.proofs.lemmas.Bool.{cases_Bool}
use Rattle.board_history.proofs.Growing.{not_both}
use Rattle.std.specs.Prelude.{if◌then◌else◌}
use Rattle.std.specs.Option.{option_map}
use Rattle.std.proofs.lemmas.Bool.{cases_order}
use Rattle.std.proofs.lemmas.List.{length-map}
use Rattle.std.proofs.lemmas.Option.{get_or_from_slice_get, same_Some, slice_get-get_or, slice_get-map, slice_get_within}
use Rattle.history_core.specs.declared.history.Op.{Op}
use Rattle.history_core.specs.declared.history.Kind.TheVariants.{Read}
use Rattle.history_core.specs.Orders.{is_write, times_of}
use Rattle.history_core.proofs.Listing.{times_nowhere, times_once}
use Rattle.matrix_core.specs.declared.stamp.Stamp.{Stamp}
use Rattle.matrix_core.specs.Choices.{IsIn}
use Rattle.matrix_core.specs.Lines.{first_record}
use Rattle.matrix_core.specs.Listings.{IsInOrder, is_listed, MayPrecede}
use Rattle.matrix_core.specs.Stamps.{first_stamp, IsBelow}
use Rattle.matrix_core.proofs.choices.Stamps.{below_itself, below_trans, stamp_same}
use Rattle.board_history.proofs.Members.{append_left, append_right, in_append, in_here}
use Rattle.matrix_core.proofs.orders.Listing.{get_map_back}
use Rattle.board_history.specs.BoardRuns.{Called, Did}
use Rattle.board_history.specs.BoardRuns.{end_of}
use Rattle.board_history.specs.RunsSoFar.{IsBoardRunSoFar, unchosen_begin}
use Rattle.board_history.specs.HistoriesSoFar.{IsAtomicRunSoFar, IsOpOfCallSoFar, IsHistorySoFar, IsUnchosenCall}
use Rattle.board_history.proofs.Atomic.{history_atomic, history_lawful, history_stands}
use Rattle.board_history.proofs.Timed.{at, at_least, at_rises, begin_once, begins, line, times_once as one_time}
use Rattle.board_history.proofs.Plans.{upto, upto_at}
use Rattle.board_history.proofs.Sorts.{in_sort, rises, sort, sort_in, stands_at, Strict, strict_sort}

in_upto : {X : Type 0} (f : ℕ → X) (n : ℕ) (x : X) → IsIn x (upto f n) → (k : ℕ) × (k < n) × (x ≡ f k)
in_upto f zero x m = absurd m
in_upto f (suc n) x m = elim (in_append x (upto f n) (f n ∷ []) m) [
  | inl old ↦ let w = in_upto f n x old in let l : w.0 < n = w.1 in (w.0, omega arith, w.2)
  | inr new ↦ elim new [ inl e ↦ (n, omega arith, e) | inr none ↦ absurd none ]
]

upto_in : {X : Type 0} (f : ℕ → X) (n k : ℕ) → k < n → IsIn (f k) (upto f n)
upto_in f n k l = in_here (f k) (upto f n) k (upto_at f n k l)

-- the lists of the first n, one after the other
abbrev join : {X : Type 0} → (ℕ → List X) → ℕ → List X
join f zero = []
join f (suc n) = join f n ++ f n

in_join : {X : Type 0} (f : ℕ → List X) (n : ℕ) (x : X) → IsIn x (join f n) → (i : ℕ) × (i < n) × IsIn x (f i)
in_join f zero x m = absurd m
in_join f (suc n) x m = elim (in_append x (join f n) (f n) m) [
  | inl old ↦ let w = in_join f n x old in let l : w.0 < n = w.1 in (w.0, omega arith, w.2)
  | inr new ↦ (n, omega arith, new)
]

join_in : {X : Type 0} (f : ℕ → List X) (n i : ℕ) (x : X) → i < n → IsIn x (f i) → IsIn x (join f n)
join_in f zero i x l m = absurd (omega arith)
join_in f (suc n) i x l m = elim (cases_order i n) [
  | inl e ↦ append_right x (join f n) (f n) (subst (λ j. IsIn x (f j)) e m)
  | inr (inl lt) ↦ append_left x (join f n) (f n) (join_in f n i x lt m)
  | inr (inr gt) ↦ absurd (omega arith)
]

-- an operation with its stamp and its number among those of its process
record Entry (V : Type 0) : Type 0 where
  op : Op V
  stamp : Option Stamp

abbrev keep : {X : Type 0} → (X → Bool) → List X → List X
keep f [] = []
keep f (x ∷ xs) = if f x then x ∷ keep f xs else keep f xs

keep_in : {X : Type 0} (f : X → Bool) (xs : List X) (x : X) → IsIn x xs → f x ≡ true → IsIn x (keep f xs)
keep_in f [] x m t = absurd m
keep_in f (y ∷ ys) x (inl e) t = subst (λ b. IsIn x (if b then y ∷ keep f ys else keep f ys)) (sym (ap f (sym e) ∙ t)) (inl e)
keep_in f (y ∷ ys) x (inr m) t = by_case (f y) (keep_in f ys x m t)
  where
    by_case : (b : Bool) → IsIn x (keep f ys) → IsIn x (if b then y ∷ keep f ys else keep f ys)
    by_case true h = inr h
    by_case false h = h

in_keep : {X : Type 0} (f : X → Bool) (xs : List X) (x : X) → IsIn x (keep f xs) → IsIn x xs × (f x ≡ true)
in_keep f [] x m = absurd m
in_keep f (y ∷ ys) x m = by_case (f y) refl m (λ h. in_keep f ys x h)
  where
    by_case : (b : Bool) → f y ≡ b → IsIn x (if b then y ∷ keep f ys else keep f ys) → (IsIn x (keep f ys) → IsIn x ys × (f x ≡ true)) →
        IsIn x (y ∷ ys) × (f x ≡ true)
    by_case true e (inl q) r = (inl q, ap f q ∙ e)
    by_case true e (inr h) r = let w = r h in (inr w.0, w.1)
    by_case false e h r = let w = r h in (inr w.0, w.1)

abbrev stamp_or : Option Stamp → Stamp
stamp_or None = first_stamp
stamp_or (Some s) = s

-- of two stamps one is below the other, or they are one
stamp_order : (a b : Stamp) → (a ≡ b) ⊎ (IsBelow a b ⊎ IsBelow b a)
stamp_order a b = elim (cases_order a.tag b.tag) [
  | inr (inl l) ↦ inr (inl (inl l))
  | inr (inr l) ↦ inr (inr (inl l))
  | inl e ↦ elim (cases_order a.writer b.writer) [
    | inr (inl l) ↦ inr (inl (inr (e, l)))
    | inr (inr l) ↦ inr (inr (inr (sym e, l)))
    | inl w ↦ inl (stamp_same a b e w)
  ]
]

abbrev rank_of : Bool → ℕ
rank_of true = 0
rank_of false = 1

module _ (stamp_of : ℕ → Stamp) (rank : ℕ → ℕ) where
  -- by stamp, a write before the others, and these by place
  abbrev ComesBefore : ℕ → ℕ → Type 0
  ComesBefore p q = IsBelow (stamp_of p) (stamp_of q)
      ⊎ ((stamp_of p ≡ stamp_of q) × ((rank p < rank q) ⊎ ((rank p ≡ rank q) × (p < q))))

  which_first : (p q : ℕ) → (p ≡ q) ⊎ (ComesBefore p q ⊎ ComesBefore q p)
  which_first p q = elim (stamp_order (stamp_of p) (stamp_of q)) [
    | inr (inl l) ↦ inr (inl (inl l))
    | inr (inr l) ↦ inr (inr (inl l))
    | inl e ↦ elim (cases_order (rank p) (rank q)) [
      | inr (inl l) ↦ inr (inl (inr (e, inl l)))
      | inr (inr l) ↦ inr (inr (inr (sym e, inl l)))
      | inl r ↦ elim (cases_order p q) [
        | inl s ↦ inl s
        | inr (inl l) ↦ inr (inl (inr (e, inr (r, l))))
        | inr (inr l) ↦ inr (inr (inr (sym e, inr (sym r, l))))
      ]
    ]
  ]

  by_rank : (p q r : ℕ) → (rank p < rank q) ⊎ ((rank p ≡ rank q) × (p < q)) → (rank q < rank r) ⊎ ((rank q ≡ rank r) × (q < r)) →
      (rank p < rank r) ⊎ ((rank p ≡ rank r) × (p < r))
  by_rank p q r (inl a) (inl b) = inl (omega arith)
  by_rank p q r (inl a) (inr b) = let e = b.0 in inl (omega arith)
  by_rank p q r (inr a) (inl b) = let e = a.0 in inl (omega arith)
  by_rank p q r (inr a) (inr b) = inr (a.0 ∙ b.0, let x = a.1 in let y = b.1 in omega arith)

  before_trans : (p q r : ℕ) → ComesBefore p q → ComesBefore q r → ComesBefore p r
  before_trans p q r (inl a) (inl b) = inl (below_trans (stamp_of p) (stamp_of q) (stamp_of r) a b)
  before_trans p q r (inl a) (inr b) = inl (subst (λ z. IsBelow (stamp_of p) z) b.0 a)
  before_trans p q r (inr a) (inl b) = inl (subst (λ z. IsBelow z (stamp_of r)) (sym a.0) b)
  before_trans p q r (inr a) (inr b) = inr (a.0 ∙ b.0, by_rank p q r a.1 b.1)

module _ {V : Type 0} (width n limit : ℕ) (opening : V) (steps : List ℕ) (did : ℕ → Did V)
    (run : IsBoardRunSoFar width n limit (first_record opening) steps did) where
  abbrev no_call : Called V
  no_call = record {
    begin = 0;
    end = 0;
    kind = Read;
    seen = first_record opening;
    chosen = first_record opening;
    tells = true;
    finds = false;
  }

  -- a call that has chosen, and one that hasn't
  abbrev call_entry : ℕ → ℕ → Called V → Entry V
  call_entry i k c = record {
    op = record {
      who = i;
      kind = c.kind;
      starts = c.begin;
      ends = end_of width n (did i) k c;
      item = Some c.chosen.item;
    };
    stamp = Some c.chosen.stamp;
  }

  abbrev wait_entry : ℕ → ℕ → Entry V
  wait_entry i begin = record { op = record { who = i; kind = Read; starts = begin; ends = None; item = None }; stamp = None }

  abbrev wait : ℕ → Option ℕ → List (Entry V)
  wait i None = []
  wait i (Some begin) = wait_entry i begin ∷ []

  abbrev entry : ℕ → ℕ → Entry V
  entry i k = call_entry i k (get_or (did i).calls k no_call)

  abbrev entries_of : ℕ → List (Entry V)
  entries_of i = upto (entry i) (length (did i).calls) ++ wait i (unchosen_begin width n (did i))

  entries : List (Entry V)
  entries = join entries_of n

  abbrev IsCallEntry : Entry V → Type 0
  IsCallEntry e = (i : ℕ) × (k : ℕ) × (c : Called V) × (i < n) × (slice_get (did i).calls k ≡ Some c) × (e ≡ call_entry i k c)

  abbrev IsWaitEntry : Entry V → Type 0
  IsWaitEntry e = (i : ℕ) × (begin : ℕ) × (i < n) × (unchosen_begin width n (did i) ≡ Some begin) × (e ≡ wait_entry i begin)

  in_wait : (i : ℕ) (u : Option ℕ) (e : Entry V) → IsIn e (wait i u) → (begin : ℕ) × (u ≡ Some begin) × (e ≡ wait_entry i begin)
  in_wait i None e m = absurd m
  in_wait i (Some b) e (inl q) = (b, refl, q)
  in_wait i (Some b) e (inr m) = absurd m

  in_entries : (e : Entry V) → IsIn e entries → IsCallEntry e ⊎ IsWaitEntry e
  unfolding entries
  in_entries e m =
      let w = in_join entries_of n e m in
      elim (in_append e (upto (entry w.0) (length (did w.0).calls)) (wait w.0 (unchosen_begin width n (did w.0))) w.2) [
        | inl call ↦
            let x = in_upto (entry w.0) (length (did w.0).calls) e call in
            inl (w.0, x.0, get_or (did w.0).calls x.0 no_call, w.1, slice_get-get_or (did w.0).calls x.0 no_call x.1, x.2)
        | inr waits ↦
            let x = in_wait w.0 (unchosen_begin width n (did w.0)) e waits in
            inr (w.0, x.0, w.1, x.1, x.2)
      ]

  call_in : (i k : ℕ) (c : Called V) → i < n → slice_get (did i).calls k ≡ Some c → IsIn (call_entry i k c) entries
  unfolding entries
  call_in i k c li e =
      let is : get_or (did i).calls k no_call ≡ c = get_or_from_slice_get (did i).calls k c no_call e in
      join_in entries_of n i (call_entry i k c) li
      (append_left (call_entry i k c) (upto (entry i) (length (did i).calls)) (wait i (unchosen_begin width n (did i)))
      (subst (λ z. IsIn (call_entry i k z) (upto (entry i) (length (did i).calls))) is
      (upto_in (entry i) (length (did i).calls) k (slice_get_within (did i).calls k c e))))

  wait_in : (i begin : ℕ) → i < n → unchosen_begin width n (did i) ≡ Some begin → IsIn (wait_entry i begin) entries
  unfolding entries
  wait_in i begin li e =
      join_in entries_of n i (wait_entry i begin) li
      (append_right (wait_entry i begin) (upto (entry i) (length (did i).calls)) (wait i (unchosen_begin width n (did i)))
      (subst (λ z. IsIn (wait_entry i begin) (wait i z)) (sym e) (inl refl)))

  is_call : (i k : ℕ) (c : Called V) → i < n → slice_get (did i).calls k ≡ Some c →
      IsOpOfCallSoFar width n did (call_entry i k c).op (call_entry i k c).stamp k
  is_call i k c li e = record { who = li; call = c; made = e; kind = refl; item = refl; stamp = refl; begins = refl; ends = refl }

  is_waiting : (i begin : ℕ) → i < n → unchosen_begin width n (did i) ≡ Some begin →
      IsUnchosenCall width n did (wait_entry i begin).op (wait_entry i begin).stamp
  is_waiting i begin li e = record { who = li; begins = e; ends = refl; stamp = refl }

  -- a call that has chosen begins at another time than one that hasn't
  apart : (i k j : ℕ) (c : Called V) (b : ℕ) → i < n → j < n → slice_get (did i).calls k ≡ Some c →
      unchosen_begin width n (did j) ≡ Some b →
      c.begin ≡ b → ⊥
  apart i k j c b li lj ec eb same =
      let o = one_time width n limit opening steps did run i j (at width n limit opening steps did run i k)
      (at width n limit opening steps did run j (length (did j).calls)) c.begin li lj
      (begins width n limit opening steps did run i k c li ec) (eb ∙ ap Some (sym same)) in
      let q : at width n limit opening steps did run i k ≡ at width n limit opening steps did run i (length (did i).calls) =
      o.1 ∙ ap (λ z. at width n limit opening steps did run z (length (did z).calls)) (sym o.0) in
      let lk : k < length (did i).calls = slice_get_within (did i).calls k c ec in
      let a : at width n limit opening steps did run i k + (n - 1) * width ≤ at width n limit opening steps did run i (suc k) =
      at_least width n limit opening steps did run i k c ec in
      let r : at width n limit opening steps did run i (suc k) ≤ at width n limit opening steps did run i (length (did i).calls) =
      at_rises width n limit opening steps did run i (suc k) (length (did i).calls) (omega arith) in
      let p : 0 < (n - 1) * width = line width n limit opening steps did run in
      omega arith

  -- two that begin at one time are one
  same_entry : (a b : Entry V) → IsCallEntry a ⊎ IsWaitEntry a → IsCallEntry b ⊎ IsWaitEntry b → a.op.starts ≡ b.op.starts → a ≡ b
  same_entry a b (inl x) (inl y) e =
      let starts : x.2.begin ≡ y.2.begin = ap (λ z. z.op.starts) (sym x.5) ∙ e ∙ ap (λ z. z.op.starts) y.5 in
      let s = begin_once width n limit opening steps did run x.0 y.0 x.1 y.1 x.2 y.2 x.3 y.3 x.4 y.4 starts in
      let c : x.2 ≡ y.2 = same_Some x.2 y.2 (sym x.4 ∙ ap (λ (z : ℕ × ℕ). slice_get (did z.0).calls z.1) (λ k. (s.0 k, s.1 k)) ∙ y.4) in
      x.5 ∙ ap (λ (z : ℕ × ℕ × Called V). call_entry z.0 z.1 z.2) (λ k. (s.0 k, s.1 k, c k)) ∙ sym y.5
  same_entry a b (inl x) (inr y) e =
      absurd (apart x.0 x.1 y.0 x.2 y.1 x.3 y.2 x.4 y.3 (ap (λ z. z.op.starts) (sym x.5) ∙ e ∙ ap (λ z. z.op.starts) y.4))
  same_entry a b (inr x) (inl y) e =
      absurd (apart y.0 y.1 x.0 y.2 x.1 y.3 x.2 y.4 x.3 (ap (λ z. z.op.starts) (sym y.5) ∙ sym e ∙ ap (λ z. z.op.starts) x.4))
  same_entry a b (inr x) (inr y) e =
      let starts : x.1 ≡ y.1 = ap (λ z. z.op.starts) (sym x.4) ∙ e ∙ ap (λ z. z.op.starts) y.4 in
      let o = one_time width n limit opening steps did run x.0 y.0
      (at width n limit opening steps did run x.0 (length (did x.0).calls))
      (at width n limit opening steps did run y.0 (length (did y.0).calls)) x.1 x.2 y.2 x.3 (y.3 ∙ ap Some (sym starts)) in
      x.4 ∙ ap (λ (z : ℕ × ℕ). wait_entry z.0 z.1) (λ k. (o.0 k, starts k)) ∙ sym y.4

  abbrev Same : Entry V → Entry V → Type 0
  Same a b = a.op.starts ≡ b.op.starts

  abbrev Lower : Entry V → Entry V → Type 0
  Lower a b = a.op.starts < b.op.starts

  abbrev which : (a b : Entry V) → Same a b ⊎ (Lower a b ⊎ Lower b a)
  which a b = cases_order a.op.starts b.op.starts

  lower_trans : (a b c : Entry V) → Lower a b → Lower b c → Lower a c
  lower_trans a b c l m = omega arith

  sorted : List (Entry V)
  sorted = sort Same Lower which (λ a. refl) lower_trans entries

  in_sorted : (p : ℕ) (e : Entry V) → slice_get sorted p ≡ Some e → IsCallEntry e ⊎ IsWaitEntry e
  unfolding sorted
  in_sorted p e h = in_entries e (in_sort Same Lower which (λ a. refl) lower_trans e entries (in_here e sorted p h))

  sorted_in : (e : Entry V) → IsIn e entries → (p : ℕ) × (slice_get sorted p ≡ Some e)
  unfolding sorted
  sorted_in e m =
      let w = sort_in Same Lower which (λ a. refl) lower_trans e entries m in
      let x = in_entries w.0 (in_sort Same Lower which (λ a. refl) lower_trans w.0 entries w.1) in
      let same : e ≡ w.0 = same_entry e w.0 (in_entries e m) x w.2 in
      let at = stands_at w.0 sorted w.1 in
      (at.0, at.1 ∙ ap Some (sym same))

  strict : Strict Same Lower which (λ a. refl) lower_trans sorted
  unfolding sorted
  strict = strict_sort Same Lower which (λ a. refl) lower_trans entries

  ops : List (Op V)
  ops = map (λ e. e.op) sorted

  stamps : List (Option Stamp)
  stamps = map (λ e. e.stamp) sorted

  stamp_at : (p : ℕ) (e : Entry V) → slice_get sorted p ≡ Some e → slice_get stamps p ≡ Some e.stamp
  unfolding stamps
  stamp_at p e h = slice_get-map (λ (e : Entry V). e.stamp) sorted p ∙ ap (option_map (λ (e : Entry V). e.stamp)) h

  op_at : (p : ℕ) (e : Entry V) → slice_get sorted p ≡ Some e → slice_get ops p ≡ Some e.op
  unfolding ops
  op_at p e h = slice_get-map (λ (e : Entry V). e.op) sorted p ∙ ap (option_map (λ (e : Entry V). e.op)) h

  op_from : (p : ℕ) (op : Op V) → slice_get ops p ≡ Some op → (e : Entry V) × (slice_get sorted p ≡ Some e) × (e.op ≡ op)
  unfolding ops
  op_from p op h = get_map_back (λ (e : Entry V). e.op) sorted p op h

  many : (length ops ≡ length sorted) × (length stamps ≡ length sorted)
  unfolding ops stamps
  many = (length-map sorted (λ e. e.op), length-map sorted (λ e. e.stamp))

  abbrev IsEither : Op V → Option Stamp → Type 0
  IsEither op stamp = ((k : ℕ) × IsOpOfCallSoFar width n did op stamp k) ⊎ IsUnchosenCall width n did op stamp

  either_of : (e : Entry V) → IsCallEntry e ⊎ IsWaitEntry e → IsEither e.op e.stamp
  either_of e (inl x) = inl (x.1, subst (λ z. IsOpOfCallSoFar width n did z.op z.stamp x.1) (sym x.5) (is_call x.0 x.1 x.2 x.3 x.4))
  either_of e (inr x) = inr (subst (λ z. IsUnchosenCall width n did z.op z.stamp) (sym x.4) (is_waiting x.0 x.1 x.2 x.3))

  either_at : (p : ℕ) (op : Op V) (stamp : Option Stamp) → slice_get ops p ≡ Some op → slice_get stamps p ≡ Some stamp → IsEither op stamp
  either_at p op stamp h g =
      let e = op_from p op h in
      let s : e.0.stamp ≡ stamp = same_Some e.0.stamp stamp (sym (stamp_at p e.0 e.1) ∙ g) in
      subst (λ z. IsEither op z) s (subst (λ z. IsEither z e.0.stamp) e.2 (either_of e.0 (in_sorted p e.0 e.1)))

  history_there : IsHistorySoFar width n did ops stamps
  history_there = record {
    long = let m = many in omega arith;
    each = λ p op stamp h g. either_at p op stamp h g;
    all = λ i k c l e.
        let x : Entry V = call_entry i k c in
        let w = sorted_in x (call_in i k c l e) in
        (w.0, x.op, x.stamp, op_at w.0 x w.1, stamp_at w.0 x w.1, refl, is_call i k c l e);
    unchosen = λ i b l e.
        let x : Entry V = wait_entry i b in
        let w = sorted_in x (wait_in i b l e) in
        (w.0, x.op, x.stamp, op_at w.0 x w.1, stamp_at w.0 x w.1, refl, is_waiting i b l e);
    rising = λ p q a b ha hb l.
        let x = op_from p a ha in
        let y = op_from q b hb in
        let r : x.0.op.starts < y.0.op.starts =
        rises Same Lower which (λ a. refl) lower_trans sorted p q x.0 y.0 strict x.1 y.1 l in
        let ea : x.0.op.starts ≡ a.starts = ap (λ o. o.starts) x.2 in
        let eb : y.0.op.starts ≡ b.starts = ap (λ o. o.starts) y.2 in
        omega arith;
  }

  -- what the order goes by at each place, and whether it lists it
  stamp_of : ℕ → Stamp
  stamp_of p = get_or (map (λ e. stamp_or e.stamp) sorted) p first_stamp

  rank : ℕ → ℕ
  rank p = get_or (map (λ e. rank_of (is_write e.op.kind)) sorted) p 0

  listed : ℕ → Bool
  listed p = get_or (map (λ e. is_listed e.op e.stamp) sorted) p false

  stamp_of_is : (p : ℕ) (e : Entry V) → slice_get sorted p ≡ Some e → stamp_of p ≡ stamp_or e.stamp
  unfolding stamp_of
  stamp_of_is p e h = get_or_from_slice_get (map (λ (e : Entry V). stamp_or e.stamp) sorted) p (stamp_or e.stamp) first_stamp
      (slice_get-map (λ (e : Entry V). stamp_or e.stamp) sorted p ∙ ap (option_map (λ (e : Entry V). stamp_or e.stamp)) h)

  listed_is : (p : ℕ) (e : Entry V) → slice_get sorted p ≡ Some e → listed p ≡ is_listed e.op e.stamp
  unfolding listed
  listed_is p e h = get_or_from_slice_get (map (λ (e : Entry V). is_listed e.op e.stamp) sorted) p (is_listed e.op e.stamp) false
      (slice_get-map (λ (e : Entry V). is_listed e.op e.stamp) sorted p ∙ ap (option_map (λ (e : Entry V). is_listed e.op e.stamp)) h)

  rank_is : (p : ℕ) (e : Entry V) → slice_get sorted p ≡ Some e → rank p ≡ rank_of (is_write e.op.kind)
  unfolding rank
  rank_is p e h = get_or_from_slice_get (map (λ (e : Entry V). rank_of (is_write e.op.kind)) sorted) p (rank_of (is_write e.op.kind)) 0
      (slice_get-map (λ (e : Entry V). rank_of (is_write e.op.kind)) sorted p
      ∙ ap (option_map (λ (e : Entry V). rank_of (is_write e.op.kind))) h)

  places : List ℕ
  places = keep listed (upto (λ p. p) (length sorted))

  order : List ℕ
  order = sort (λ p q. p ≡ q) (ComesBefore stamp_of rank) (which_first stamp_of rank) (λ p. refl) (before_trans stamp_of rank) places

  strict_order : Strict (λ p q. p ≡ q) (ComesBefore stamp_of rank) (which_first stamp_of rank)
      (λ p. refl) (before_trans stamp_of rank) order
  unfolding order
  strict_order = strict_sort (λ p q. p ≡ q) (ComesBefore stamp_of rank) (which_first stamp_of rank) (λ p. refl)
      (before_trans stamp_of rank) places

  in_order : (i p : ℕ) → slice_get order i ≡ Some p → (p < length sorted) × (listed p ≡ true)
  unfolding order places
  in_order i p h =
      let m = in_sort (λ p q. p ≡ q) (ComesBefore stamp_of rank) (which_first stamp_of rank) (λ p. refl) (before_trans stamp_of rank) p
      places (in_here p order i h) in
      let k = in_keep listed (upto (λ p. p) (length sorted)) p m in
      let w = in_upto (λ p. p) (length sorted) p k.0 in
      (subst (λ q. q < length sorted) (sym w.2) w.1, k.1)

  order_in : (p : ℕ) → p < length sorted → listed p ≡ true → (i : ℕ) × (slice_get order i ≡ Some p)
  unfolding order places
  order_in p l t =
      let w = sort_in (λ p q. p ≡ q) (ComesBefore stamp_of rank) (which_first stamp_of rank) (λ p. refl) (before_trans stamp_of rank) p
      places (keep_in listed (upto (λ p. p) (length sorted)) p (upto_in (λ p. p) (length sorted) p l) t) in
      let at = stands_at w.0 order w.1 in
      (at.0, at.1 ∙ ap Some (sym w.2))

  not_before_itself : (p : ℕ) → ComesBefore stamp_of rank p p → ⊥
  not_before_itself p (inl l) = below_itself (stamp_of p) l
  not_before_itself p (inr h) = ⊎_elim (λ (l : rank p < rank p). omega arith)
      (λ (l : (rank p ≡ rank p) × (p < p)). let m = l.1 in omega arith) h.1

  rises_at : (i j p q : ℕ) → slice_get order i ≡ Some p → slice_get order j ≡ Some q → i < j → ComesBefore stamp_of rank p q
  rises_at i j p q hi hj l = rises (λ p q. p ≡ q) (ComesBefore stamp_of rank) (which_first stamp_of rank) (λ p. refl)
      (before_trans stamp_of rank) order i j p q strict_order hi hj l

  once : (i j p : ℕ) → slice_get order i ≡ Some p → slice_get order j ≡ Some p → i ≡ j
  once i j p hi hj = elim (cases_order i j) [
    | inl e ↦ e
    | inr (inl l) ↦ absurd (not_before_itself p (rises_at i j p p hi hj l))
    | inr (inr l) ↦ absurd (not_before_itself p (rises_at j i p p hj hi l))
  ]

  may_precede : (p q : ℕ) (a b : Op V) (s t : Stamp) (wa wb : Bool) → is_write a.kind ≡ wa → is_write b.kind ≡ wb → stamp_of p ≡ s →
      stamp_of q ≡ t → rank p ≡ rank_of wa → rank q ≡ rank_of wb → ComesBefore stamp_of rank p q → MayPrecede s a p t b q
  may_precede p q a b s t wa wb ka kb es et ra rb (inl l) = inl (subst (λ z. IsBelow s z) et (subst (λ z. IsBelow z (stamp_of q)) es l))
  may_precede p q a b s t true true ka kb es et ra rb (inr (e, inl l)) = absurd (omega arith)
  may_precede p q a b s t true false ka kb es et ra rb (inr (e, inl l)) = inr (sym es ∙ e ∙ et, inl (ka, kb))
  may_precede p q a b s t false true ka kb es et ra rb (inr (e, inl l)) = absurd (omega arith)
  may_precede p q a b s t false false ka kb es et ra rb (inr (e, inl l)) = absurd (omega arith)
  may_precede p q a b s t true true ka kb es et ra rb (inr (e, inr l)) = let m = l.1 in
      inr (sym es ∙ e ∙ et, inr (ka ∙ sym kb, omega arith))
  may_precede p q a b s t true false ka kb es et ra rb (inr (e, inr l)) = let m = l.0 in absurd (omega arith)
  may_precede p q a b s t false true ka kb es et ra rb (inr (e, inr l)) = let m = l.0 in absurd (omega arith)
  may_precede p q a b s t false false ka kb es et ra rb (inr (e, inr l)) = let m = l.1 in
      inr (sym es ∙ e ∙ et, inr (ka ∙ sym kb, omega arith))

  listed_times : (p : ℕ) (op : Op V) (stamp : Option Stamp) → slice_get ops p ≡ Some op → slice_get stamps p ≡ Some stamp →
      times_of p order ≡ (if is_listed op stamp then 1 else 0)
  listed_times p op stamp h g =
      let e = op_from p op h in
      let s : e.0.stamp ≡ stamp = same_Some e.0.stamp stamp (sym (stamp_at p e.0 e.1) ∙ g) in
      let is : listed p ≡ is_listed op stamp = listed_is p e.0 e.1 ∙ ap (λ z. is_listed z e.0.stamp) e.2 ∙ ap (is_listed op) s in
      elim (cases_Bool (listed p)) [
        | inl on ↦
            let there = order_in p (slice_get_within sorted p e.0 e.1) on in
            times_once p there.0 order once there.1 ∙ ap (λ b. if b then 1 else 0) (sym on ∙ is)
        | inr off ↦
            times_nowhere p order (λ i at. not_both (listed p) (in_order i p at).1 off) ∙ ap (λ b. if b then 1 else 0) (sym off ∙ is)
      ]

  order_there : IsInOrder ops stamps order
  order_there = record {
    places = λ i p h. let l = (in_order i p h).0 in let m = many in omega arith;
    listed = λ p op stamp h g. listed_times p op stamp h g;
    sorted = λ i j p q a b s t l ha hb hs ht.
        let x = op_from p a ha.1 in
        let y = op_from q b hb.1 in
        let sa : x.0.stamp ≡ Some s = same_Some x.0.stamp (Some s) (sym (stamp_at p x.0 x.1) ∙ hs) in
        let sb : y.0.stamp ≡ Some t = same_Some y.0.stamp (Some t) (sym (stamp_at q y.0 y.1) ∙ ht) in
        may_precede p q a b s t (is_write x.0.op.kind) (is_write y.0.op.kind) (ap (λ o. is_write o.kind) (sym x.2))
        (ap (λ o. is_write o.kind) (sym y.2)) (stamp_of_is p x.0 x.1 ∙ ap stamp_or sa) (stamp_of_is q y.0 y.1 ∙ ap stamp_or sb)
        (rank_is p x.0 x.1) (rank_is q y.0 y.1) (rises_at i j p q ha.0 hb.0 l);
  }

  pub all_there : (ops : List (Op V)) × (stamps : List (Option Stamp)) × (order : List ℕ) × IsHistorySoFar width n did ops stamps
      × IsInOrder ops stamps order
  all_there = (ops, stamps, order, history_there, order_there)

  pub atomic_run : IsAtomicRunSoFar width n limit opening steps did
  atomic_run = record {
    ops = ops;
    stamps = stamps;
    order = order;
    history = history_there;
    by_stamp = order_there;
    atomic = history_atomic width n limit opening steps did run ops stamps history_there order order_there;
    lawful = history_lawful width n limit opening steps did run ops stamps history_there order order_there;
    chosen = history_stands width n did ops stamps history_there order order_there;
    run = run;
  }
