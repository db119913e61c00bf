-- The calls of a board's run so far choose by the law of choices: put in order by the times at which they choose, what each saw is from the
-- past, and isn't too old.
use Rattle.std.proofs.Common.{◌≡◌, ℕ, zero, suc, ◌+◌, ◌-◌, ◌*◌, ◌<◌, ◌≤◌, List, [], ◌∷◌, length, map, slice_get}
use Rattle.std.proofs.Common.{Option, Some, refl, sym, ◌∙◌, ap, subst, arith, ◌⊎◌, inl, inr, add-mul}
use Rattle.std.proofs.Common.{Bool, None, true, false}
use Rattle.std.specs.Prelude.{if◌then◌else◌, is_some, IsSomeAnd, ◌&&◌, ◌||◌}
use Rattle.std.proofs.lemmas.Bool.{cases_Bool, cases_eq, cases_lt, cases_order}
use Rattle.std.proofs.lemmas.Option.{none-some, same_Some, slice_get_within}
use Rattle.history_core.specs.declared.history.Op.{Op}
use Rattle.history_core.specs.Orders.{IsAtomicOrder, is_write, RefusesLawfully}
use Rattle.history_core.proofs.Played.{later_operation}
use Rattle.history_core.specs.Registers.{intervals, IsReadOf}
use Rattle.history_core.proofs.Times.{of_before, to_before}
use Rattle.matrix_core.specs.declared.stamp.Stamp.{Stamp}
use Rattle.matrix_core.specs.declared.stamp.Stamped.{Stamped}
use Rattle.matrix_core.specs.Choices.{AllChoose, Choice, Chooses, ChoosesByKind, HasChoices, IsAtMost, IsChoiceOf, IsEarlier, IsFrom, IsIn}
use Rattle.matrix_core.proofs.choices.Stamps.{at_most_trans}
use Rattle.matrix_core.specs.Lines.{first_record, other}
use Rattle.matrix_core.specs.Listings.{IsInOrder, is_listed}
use Rattle.matrix_core.proofs.lines.Others.{other_differs, other_inside, other_reached}
use Rattle.matrix_core.proofs.lists.Elements.{get_exists}
use Rattle.matrix_core.proofs.orders.Terms.{term_atomic, term_lawful}
use Rattle.board_history.specs.BoardRuns.{Called, Did, end_of, IsRegister, own_before, records, Sees, told, WasTold}
use Rattle.board_history.specs.RunsSoFar.{AreFirstOf, AreReadsSoFar, AreWritesSoFar, IsBoardRunSoFar}
use Rattle.board_history.specs.HistoriesSoFar.{IsOpOfCallSoFar, IsHistorySoFar, IsUnchosenCall, StandIfChosen}
use Rattle.board_history.proofs.Rising.{first_least, greatest_each, greatest_first, greatest_is, own_next, own_rises, own_zero}
use Rattle.board_history.proofs.Sorts.{sort, sort_in, Strict, strict_sort}
use Rattle.board_history.proofs.Timed.{at, at_least, at_rises, at_tells, begin_once, begins, chooses_at, ends, in_turn, lasts, line}
use Rattle.board_history.proofs.Timed.{times_at_most, times_once, times_rise}
use Rattle.board_history.proofs.Told.{one_if, told_by, told_next, told_rises}

end_there : (o : Option ℕ) (x : ℕ) → IsSomeAnd o (λ z. z < x) → (end : ℕ) × (o ≡ Some end) × (end < x)
end_there None x h = absurd h
end_there (Some z) x h = (z, refl, h)

-- what stands first stands there behind one more
first_longer : {A : Type 0} (a : A) (xs ys : List A) → AreFirstOf xs ys → AreFirstOf (a ∷ xs) (a ∷ ys)
first_longer a xs ys f zero b e = e
first_longer a xs ys f (suc x) b e = f x b e

-- what is there, is there at each place before it
there_before : {A : Type 0} (xs : List A) (a b : ℕ) (x : A) → slice_get xs b ≡ Some x → a ≤ b → (y : A) × (slice_get xs a ≡ Some y)
there_before xs a b x e le = get_exists xs a (let l = slice_get_within xs b x e in omega arith)

and_true : (b : Bool) → (b && true) ≡ b
and_true true = refl
and_true false = refl

and_false : (b : Bool) → (b && false) ≡ false
and_false true = refl
and_false false = refl

no_stamp : {A : Type 0} (x y : Option A) (a : A) → x ≡ y → x ≡ Some a → y ≡ None → ⊥
no_stamp x y a e s z = absurd (none-some a (sym z ∙ sym e ∙ s))

in_map : {X Y : Type 0} (f : X → Y) (xs : List X) (y : Y) → IsIn y (map f xs) → (x : X) × IsIn x xs × (y ≡ f x)
in_map f [] y m = absurd m
in_map f (x ∷ xs) y (inl e) = (x, inl refl, e)
in_map f (x ∷ xs) y (inr m) = let w = in_map f xs y m in (w.0, inr w.1, w.2)

map_in : {X Y : Type 0} (f : X → Y) (xs : List X) (x : X) → IsIn x xs → IsIn (f x) (map f xs)
map_in f [] x m = absurd m
map_in f (y ∷ ys) x (inl e) = inl (ap f e)
map_in f (y ∷ ys) x (inr m) = inr (map_in f ys x m)

module _ {V : Type 0} (width n limit : ℕ) (opening : V) (steps : List ℕ) (did : ℕ → Did V)
    (run : IsBoardRunSoFar width n limit (first_record opening) steps did) where
  abbrev first : Stamped V
  first = first_record opening

  abbrev own_at : ℕ → ℕ → Stamped V
  own_at i k = own_before first (did i).calls k

  -- call q of process j tells it, and has chosen before it writes
  record IsSource (j q : ℕ) (d : Called V) (r : Stamped V) (t : ℕ) : Type 0 where
    there : slice_get (did j).calls q ≡ Some d
    chosen : d.chosen ≡ r
    chose : (s : ℕ) → slice_get (did j).times (at width n limit opening steps did run j q + ((n - 1) * width - 1)) ≡ Some s → s < t

  -- the answer that call k of process i had of the process number e of the others: the opening, or told by a call that had chosen; and
  -- what that process told in a call that had ended isn't above it
  record IsHeard (i k e : ℕ) (c : Called V) (answer : Stamped V) : Type 0 where
    from : (answer ≡ first)
        ⊎ ((q : ℕ) × (d : Called V)
        × ((t : ℕ) → slice_get (did i).times (at width n limit opening steps did run i k + ((n - 1) * width - 1)) ≡ Some t →
        IsSource (other i e) q d answer t))
    above : (m end : ℕ) (d : Called V) → slice_get (did (other i e)).calls m ≡ Some d → d.tells ≡ true →
        end_of width n (did (other i e)) m d ≡ Some end → end < c.begin → IsAtMost d.chosen.stamp answer.stamp

  module _ (i k e : ℕ) (c : Called V) (li : i < n) (le : e + 1 < n) (made : slice_get (did i).calls k ≡ Some c) (answer : Stamped V)
      (there : slice_get ((did i).reads (other i e)).items k ≡ Some answer) where
    abbrev j : ℕ
    j = other i e

    lj : j < n
    lj = other_inside n i e li le

    -- the writes to this process, by their number among the others
    back : (w : ℕ) × (w + 1 < n) × (other j w ≡ i)
    back = other_reached n j i lj li (λ z. other_differs i e (sym z))

    wrote : AreWritesSoFar width n (did j) (n - 1 + back.0) ((did j).writes i).begins ((did j).writes i).ends
    wrote = subst (λ z. AreWritesSoFar width n (did j) (n - 1 + back.0) ((did j).writes z).begins ((did j).writes z).ends) back.2
        ((run.each j lj).writes back.0 back.1)

    written : AreFirstOf ((did j).writes i).items (records (did j).calls)
    written = subst (λ z. AreFirstOf ((did j).writes z).items (records (did j).calls)) back.2 ((run.each j lj).written back.0 back.1)

    -- the last step of its column is there
    chose : (t : ℕ) × (slice_get (did i).times (at width n limit opening steps did run i k + ((n - 1) * width - 1)) ≡ Some t)
    chose = chooses_at width n limit opening steps did run i k c li made

    register : IsRegister first ((did j).writes i) ((did i).reads j)
    register = run.registers j i lj li (other_differs i e)

    read : AreReadsSoFar width n (did i) e ((did i).reads j).begins ((did i).reads j).ends
    read = (run.each i li).reads e le

    lk : k < length (did i).calls
    lk = slice_get_within (did i).calls k c made

    -- where the accesses stand in a call
    read_inside : e * width + width ≤ (n - 1) * width
    read_inside = later_operation width e (n - 1) (omega arith)

    write_after : (n - 1 + back.0) * width ≡ (n - 1) * width + back.0 * width
    write_after = add-mul (n - 1) back.0 width

    write_inside : back.0 * width + width ≤ (n - 1) * width
    write_inside = later_operation width back.0 (n - 1) (let l : back.0 + 1 < n = back.1 in omega arith)

    numbered : (number : ℕ) × (slice_get ((did i).reads j).numbers k ≡ Some number)
    numbered = get_exists ((did i).reads j).numbers k
        (let a = slice_get_within ((did i).reads j).items k answer there in let b = register.numbered in omega arith)

    of : IsReadOf (intervals ((did j).writes i).begins ((did j).writes i).ends)
        (intervals ((did i).reads j).begins ((did i).reads j).ends) k numbered.0
    of = register.read_of k numbered.0 numbered.1

    source : slice_get (first ∷ records (did j).calls) numbered.0 ≡ Some answer
    source = first_longer first ((did j).writes i).items (records (did j).calls) written numbered.0 answer
        (register.source k numbered.0 answer numbered.1 there)

    heard : IsHeard i k e c answer
    heard = record {
      from = from numbered.0 refl;
      above = above;
    }
      where
        from : (x : ℕ) → x ≡ numbered.0 → (answer ≡ first) ⊎ ((q : ℕ) × (d : Called V)
            × ((t : ℕ) → slice_get (did i).times (at width n limit opening steps did run i k + ((n - 1) * width - 1)) ≡ Some t →
            IsSource j q d answer t))
        from zero x = inl (sym (same_Some first answer (ap (slice_get (first ∷ records (did j).calls)) x ∙ source)))
        from (suc y) x =
            let w = told_by (did j).calls y answer (ap (slice_get (first ∷ records (did j).calls)) x ∙ source) in
            let b = of_before (slice_get ((did j).writes i).begins y) (slice_get ((did i).reads j).ends k)
            (of.begun y (sym x ∙ omega arith)) in
            let begun : slice_get (did j).times (at width n limit opening steps did run j w.number + (n - 1 + back.0) * width) ≡ Some b.0 =
            sym (wrote.begun w.number w.call w.there w.tells) ∙ ap (slice_get ((did j).writes i).begins) w.count ∙ b.1 in
            inr (
              w.number,
              w.call,
              λ t et. record {
                there = w.there;
                chosen = w.chosen;
                chose = λ s es.
                    let p : 0 < (n - 1) * width = line width n limit opening steps did run in
                    let after = write_after in
                    let less : s < b.0 = times_rise width n limit opening steps did run j
                    (at width n limit opening steps did run j w.number + ((n - 1) * width - 1))
                    (at width n limit opening steps did run j w.number + (n - 1 + back.0) * width) s b.0 lj es begun (omega arith) in
                    let some : 0 < width = run.size.2 in
                    let inside = read_inside in
                    let l : at width n limit opening steps did run i k + (e * width + (width - 1))
                    ≤ at width n limit opening steps did run i k + ((n - 1) * width - 1) = omega arith in
                    let r = there_before (did i).times (at width n limit opening steps did run i k + (e * width + (width - 1)))
                    (at width n limit opening steps did run i k + ((n - 1) * width - 1)) t et l in
                    let until : b.0 < r.0 = b.2 r.0 (read.ended k lk ∙ r.1) in
                    let last : r.0 ≤ t = times_at_most width n limit opening steps did run i
                    (at width n limit opening steps did run i k + (e * width + (width - 1)))
                    (at width n limit opening steps did run i k + ((n - 1) * width - 1)) r.0 t li r.1 et l in
                    omega arith;
              },
            )

        above : (m end : ℕ) (d : Called V) → slice_get (did j).calls m ≡ Some d → d.tells ≡ true →
            end_of width n (did j) m d ≡ Some end → end < c.begin → IsAtMost d.chosen.stamp answer.stamp
        above m end d at_d tells at_end before = by_answer numbered.0 refl late
          where
            -- the write that told it had ended before the read began
            late : told (did j).calls m < numbered.0
            late =
                let some : 0 < width = run.size.2 in
                let after = write_after in
                let inside = write_inside in
                let fin : slice_get (did j).times (at width n limit opening steps did run j (suc m) - 1) ≡ Some end =
                ends width n limit opening steps did run j m d at_d ∙ at_end in
                let full : at width n limit opening steps did run j (suc m)
                ≡ at width n limit opening steps did run j m + ((n - 1) * width + (n - 1) * width) =
                at_tells width n limit opening steps did run j m d at_d tells in
                let before_end : at width n limit opening steps did run j m + ((n - 1 + back.0) * width + (width - 1))
                ≤ at width n limit opening steps did run j (suc m) - 1 = omega arith in
                let v = there_before (did j).times
                (at width n limit opening steps did run j m + ((n - 1 + back.0) * width + (width - 1)))
                (at width n limit opening steps did run j (suc m) - 1) end fin before_end in
                let ended : slice_get ((did j).writes i).ends (told (did j).calls m) ≡ Some v.0 = wrote.ended m d at_d tells ∙ v.1 in
                let column : at width n limit opening steps did run i k + e * width
                ≤ at width n limit opening steps did run i k + ((n - 1) * width - 1) = let r = read_inside in omega arith in
                let b = there_before (did i).times (at width n limit opening steps did run i k + e * width)
                (at width n limit opening steps did run i k + ((n - 1) * width - 1)) chose.0 chose.1 column in
                let one : v.0 ≤ end = times_at_most width n limit opening steps did run j
                (at width n limit opening steps did run j m + ((n - 1 + back.0) * width + (width - 1)))
                (at width n limit opening steps did run j (suc m) - 1) v.0 end lj v.1 fin before_end in
                let two : c.begin ≤ b.0 = times_at_most width n limit opening steps did run i (at width n limit opening steps did run i k)
                (at width n limit opening steps did run i k + e * width) c.begin b.0 li
                (begins width n limit opening steps did run i k c li made) b.1 (omega arith) in
                of.late (told (did j).calls m)
                (to_before (slice_get ((did j).writes i).ends (told (did j).calls m)) (slice_get ((did i).reads j).begins k) v.0 ended
                (λ z h. let same : b.0 ≡ z = same_Some b.0 z (sym (read.begun k lk ∙ b.1) ∙ h) in omega arith))

            -- what was told later has no smaller stamp
            by_answer : (y : ℕ) → y ≡ numbered.0 → told (did j).calls m < y → IsAtMost d.chosen.stamp answer.stamp
            by_answer zero q l = absurd (omega arith)
            by_answer (suc y) q l =
                let v = told_by (did j).calls y answer (ap (slice_get (first ∷ records (did j).calls)) q ∙ source) in
                let b : told (did j).calls v.number ≡ y = v.count in
                let next : told (did j).calls (suc v.number) ≡ told (did j).calls v.number + 1 =
                told_next (did j).calls v.number v.call v.there ∙ ap (λ b. told (did j).calls v.number + one_if b) v.tells in
                let le : m ≤ v.number = elim (cases_lt v.number m) [
                  | inl less ↦
                      let t : told (did j).calls (suc v.number) ≤ told (did j).calls m =
                      told_rises (did j).calls (suc v.number) m (omega arith) in absurd (omega arith)
                  | inr ge ↦ ge
                ] in
                let lv : v.number < length (did j).calls = slice_get_within (did j).calls v.number v.call v.there in
                let up : IsAtMost (own_at j (suc m)).stamp (own_at j (suc m + (v.number - m))).stamp =
                own_rises width n limit opening steps did run j (suc m) (v.number - m) lj (omega arith) in
                let z : suc m + (v.number - m) ≡ suc v.number = omega arith in
                let here : own_at j (suc m) ≡ d.chosen = own_next first (did j).calls m d at_d in
                let there' : own_at j (suc m + (v.number - m)) ≡ answer =
                ap (own_at j) z ∙ own_next first (did j).calls v.number v.call v.there ∙ v.chosen in
                subst (λ (z : Stamped V × Stamped V). IsAtMost z.0.stamp z.1.stamp) (λ p. (here p, there' p)) up

  module _ (ops : List (Op V)) (stamps : List (Option Stamp)) (h : IsHistorySoFar width n did ops stamps) where
    -- an operation as a call, with the time at which it chose
    record Made : Type 0 where
      place : ℕ
      op : Op V
      stamp : Option Stamp
      there : slice_get ops place ≡ Some op
      reported : slice_get stamps place ≡ Some stamp
      number : ℕ
      is : IsOpOfCallSoFar width n did op stamp number
      time : ℕ
      chose : slice_get (did op.who).times (at width n limit opening steps did run op.who number + ((n - 1) * width - 1)) ≡ Some time

    abbrev made_by : (p k : ℕ) (op : Op V) (stamp : Option Stamp) → slice_get ops p ≡ Some op →
        slice_get stamps p ≡ Some stamp → IsOpOfCallSoFar width n did op stamp k → Made
    made_by p k op stamp e s is =
        let t = chooses_at width n limit opening steps did run op.who k is.call is.who is.made in
        record { place = p; op = op; stamp = stamp; there = e; reported = s; number = k; is = is; time = t.0; chose = t.1 }

    -- of an operation: the call that has chosen, or one that hasn't
    abbrev Which : Op V → Option Stamp → Type 0
    Which op stamp = ((k : ℕ) × IsOpOfCallSoFar width n did op stamp k) ⊎ IsUnchosenCall width n did op stamp

    stamp_at : (p : ℕ) → p < length ops → (s : Option Stamp) × (slice_get stamps p ≡ Some s)
    stamp_at p l = get_exists stamps p (let long = h.long in omega arith)

    below : (m : ℕ) → suc m ≤ length ops → m < length ops
    below m l = omega arith

    upto : (m : ℕ) → suc m ≤ length ops → m ≤ length ops
    upto m l = omega arith

    abbrev and : (p : ℕ) (op : Op V) (stamp : Option Stamp) → slice_get ops p ≡ Some op → slice_get stamps p ≡ Some stamp →
        Which op stamp → List Made → List Made
    and p op stamp e s (inl c) rest = made_by p c.0 op stamp e s c.1 ∷ rest
    and p op stamp e s (inr u) rest = rest

    abbrev at_first : (p : ℕ) → p < length ops → List Made → List Made
    at_first p l rest = and p (get_exists ops p l).0 (stamp_at p l).0 (get_exists ops p l).1 (stamp_at p l).1
        (h.each p (get_exists ops p l).0 (stamp_at p l).0 (get_exists ops p l).1 (stamp_at p l).1) rest

    abbrev all_made : (m : ℕ) → m ≤ length ops → List Made
    all_made zero l = []
    all_made (suc m) l = at_first m (below m l) (all_made m (upto m l))

    -- a call that has chosen isn't one that hasn't
    chosen_there : (p : ℕ) (op : Op V) (stamp : Option Stamp) (e : slice_get ops p ≡ Some op) (s : slice_get stamps p ≡ Some stamp)
        (w : Which op stamp) (rest : List Made) (y : Made) → y.place ≡ p → (x : Made) × IsIn x (and p op stamp e s w rest) × (x.place ≡ p)
    chosen_there p op stamp e s (inl c) rest y q = (made_by p c.0 op stamp e s c.1, inl refl, refl)
    chosen_there p op stamp e s (inr u) rest y q =
        let same : stamp ≡ y.stamp = same_Some stamp y.stamp (sym s ∙ ap (slice_get stamps) (sym q) ∙ y.reported) in
        absurd (no_stamp y.stamp stamp y.is.call.chosen.stamp (sym same) y.is.stamp u.stamp)

    further : (p : ℕ) (op : Op V) (stamp : Option Stamp) (e : slice_get ops p ≡ Some op) (s : slice_get stamps p ≡ Some stamp)
        (w : Which op stamp) (rest : List Made) (x : Made) → IsIn x rest → IsIn x (and p op stamp e s w rest)
    further p op stamp e s (inl c) rest x m = inr m
    further p op stamp e s (inr u) rest x m = m

    in_all : (m : ℕ) (l : m ≤ length ops) (y : Made) → y.place < m → (x : Made) × IsIn x (all_made m l) × (x.place ≡ y.place)
    in_all zero l y lp = absurd (omega arith)
    in_all (suc m) l y lp = elim (cases_eq y.place m) [
      | inl e ↦
          let b : m < length ops = below m l in
          let w = chosen_there m (get_exists ops m b).0 (stamp_at m b).0 (get_exists ops m b).1 (stamp_at m b).1
          (h.each m (get_exists ops m b).0 (stamp_at m b).0 (get_exists ops m b).1 (stamp_at m b).1) (all_made m (upto m l)) y e in
          (w.0, w.1, w.2 ∙ sym e)
      | inr ne ↦
          let b : m < length ops = below m l in
          let w = in_all m (upto m l) y (omega arith) in (
            w.0,
            further m (get_exists ops m b).0 (stamp_at m b).0 (get_exists ops m b).1 (stamp_at m b).1
                (h.each m (get_exists ops m b).0 (stamp_at m b).0 (get_exists ops m b).1 (stamp_at m b).1) (all_made m (upto m l)) w.0 w.1,
            w.2,
          )
    ]

    -- the newest first
    abbrev Same : Made → Made → Type 0
    Same a b = b.time ≡ a.time

    abbrev Later : Made → Made → Type 0
    Later a b = b.time < a.time

    abbrev which : (a b : Made) → Same a b ⊎ (Later a b ⊎ Later b a)
    which a b = cases_order b.time a.time

    later_trans : (a b c : Made) → Later a b → Later b c → Later a c
    later_trans a b c l m = omega arith

    whole : length ops ≤ length ops
    whole = omega arith

    made : List Made
    made = all_made (length ops) whole

    sorted : List Made
    sorted = sort Same Later which (λ a. refl) later_trans made

    abbrev IsStrict : List Made → Type 0
    IsStrict xs = Strict Same Later which (λ a. refl) later_trans xs

    strict : IsStrict sorted
    unfolding sorted
    strict = strict_sort Same Later which (λ a. refl) later_trans made

    -- each call that has chosen stands there, by its time
    has : (y : Made) → (x : Made) × IsIn x sorted × (x.time ≡ y.time)
    unfolding sorted made
    has y =
        let w = in_all (length ops) whole y (slice_get_within ops y.place y.op y.there) in
        let s = sort_in Same Later which (λ a. refl) later_trans w.0 made w.1 in
        (s.0, s.1, s.2 ∙ time_at w.0 y w.2)
      where
        time_at : (a b : Made) → a.place ≡ b.place → a.time ≡ b.time
        time_at a b e =
            let o : a.op ≡ b.op = same_Some a.op b.op (sym a.there ∙ ap (slice_get ops) e ∙ b.there) in
            let x : IsOpOfCallSoFar width n did a.op a.stamp a.number = a.is in
            let y : IsOpOfCallSoFar width n did b.op b.stamp b.number = b.is in
            let q = begin_once width n limit opening steps did run a.op.who b.op.who
            a.number b.number x.call y.call x.who y.who x.made y.made
            (sym x.begins ∙ ap (λ z. z.starts) o ∙ y.begins) in
            same_Some a.time b.time (sym a.chose
            ∙ ap (λ (z : ℕ × ℕ). slice_get (did z.0).times (at width n limit opening steps did run z.0 z.1 + ((n - 1) * width - 1)))
            (λ k. (q.0 k, q.1 k))
            ∙ b.chose)

    -- of one time is one operation
    one_time : (a b : Made) → a.time ≡ b.time → a.place ≡ b.place
    one_time a b e =
        let x : IsOpOfCallSoFar width n did a.op a.stamp a.number = a.is in
        let y : IsOpOfCallSoFar width n did b.op b.stamp b.number = b.is in
        let o = times_once width n limit opening steps did run a.op.who b.op.who
        (at width n limit opening steps did run a.op.who a.number + ((n - 1) * width - 1))
        (at width n limit opening steps did run b.op.who b.number + ((n - 1) * width - 1)) a.time x.who y.who a.chose
        (b.chose ∙ ap Some (sym e)) in
        let same : at width n limit opening steps did run a.op.who a.number ≡ at width n limit opening steps did run b.op.who b.number =
        let p : 0 < (n - 1) * width = line width n limit opening steps did run in let q = o.1 in omega arith in
        let begins' : slice_get (did a.op.who).times (at width n limit opening steps did run a.op.who a.number) ≡ Some b.op.starts =
        ap (λ (z : ℕ × ℕ). slice_get (did z.0).times z.1) (λ k. (o.0 k, same k))
        ∙ begins width n limit opening steps did run b.op.who b.number y.call y.who y.made ∙ ap Some (sym y.begins) in
        let starts : a.op.starts ≡ b.op.starts = x.begins ∙ same_Some x.call.begin b.op.starts
        (sym (begins width n limit opening steps did run a.op.who a.number x.call x.who x.made) ∙ begins') in
        elim (cases_order a.place b.place) [
          | inl e ↦ e
          | inr (inl l) ↦ let r : a.op.starts < b.op.starts = h.rising a.place b.place a.op b.op a.there b.there l in absurd (omega arith)
          | inr (inr l) ↦ let r : b.op.starts < a.op.starts = h.rising b.place a.place b.op a.op b.there a.there l in absurd (omega arith)
        ]

    abbrev choice : Made → Choice V
    choice m = record {
      place = m.place;
      who = m.op.who;
      kind = m.op.kind;
      stamp = m.is.call.chosen.stamp;
      item = m.is.call.chosen.item;
    }

    -- what is chosen no later is there too
    abbrev IsFull : List Made → Type 0
    IsFull xs = (x y : Made) → IsIn x xs → y.time ≤ x.time → (z : Made) × IsIn z xs × (z.time ≡ y.time)

    full_rest : (x : Made) (xs : List Made) → IsStrict (x ∷ xs) → IsFull (x ∷ xs) → IsFull xs
    full_rest x xs s f a b m le =
        let w = f a b (inr m) le in
        let below : a.time < x.time = s.0 a m in (
          w.0,
          elim w.1 [
            | inl e ↦ absurd (let t : w.0.time ≡ x.time = ap (λ z. z.time) e in let u : w.0.time ≡ b.time = w.2 in omega arith)
            | inr r ↦ r
          ],
          w.2,
        )

    full_sorted : IsFull sorted
    full_sorted x y m le =
        has y

    -- a call that has chosen before stands in the past
    in_past : (x : Made) (xs : List Made) → IsFull (x ∷ xs) → (j q t : ℕ) (d : Called V) → j < n → slice_get (did j).calls q ≡ Some d →
        slice_get (did j).times (at width n limit opening steps did run j q + ((n - 1) * width - 1)) ≡ Some t → t < x.time →
        (y : Made) × IsIn y xs × (y.is.call ≡ d)
    in_past x xs f j q t d lj e et lt =
        let w = h.all j q d lj e in
        let y : Made = made_by w.0 q w.1 w.2 w.3 w.4 w.6 in
        let who : w.1.who ≡ j = w.5 in
        let ty : y.time ≡ t = same_Some y.time t (sym y.chose
        ∙ ap (λ z. slice_get (did z).times (at width n limit opening steps did run z q + ((n - 1) * width - 1))) who ∙ et) in
        let z = f x y (inl refl) (omega arith) in
        let tz : z.0.time ≡ y.time = z.2 in
        let same : z.0.place ≡ y.place = one_time z.0 y tz in
        let o : z.0.op ≡ y.op = same_Some z.0.op y.op (sym z.0.there ∙ ap (slice_get ops) same ∙ y.there) in
        let a : IsOpOfCallSoFar width n did z.0.op z.0.stamp z.0.number = z.0.is in
        let b = begin_once width n limit opening steps did run z.0.op.who j z.0.number q a.call d a.who lj a.made e
        (sym a.begins ∙ ap (λ u. u.starts) o ∙ w.6.begins
        ∙ ap (λ (u : Called V). u.begin) (same_Some w.6.call d (sym w.6.made ∙ ap (λ i. slice_get (did i).calls q) who ∙ e))) in (
          z.0,
          elim z.1 [ inl e ↦ absurd (let u : z.0.time ≡ x.time = ap (λ v. v.time) e in omega arith) | inr r ↦ r ],
          same_Some a.call d (sym a.made ∙ ap (λ (u : ℕ × ℕ). slice_get (did u.0).calls u.1) (λ k. (b.0 k, b.1 k)) ∙ e),
        )

    module _ (x : Made) (xs : List Made) (s : IsStrict (x ∷ xs)) (f : IsFull (x ∷ xs)) where
      abbrev i : ℕ
      i = x.op.who

      abbrev k : ℕ
      k = x.number

      abbrev c : Called V
      c = x.is.call

      li : i < n
      li = x.is.who

      sees : Sees n first i (did i) k c.seen
      sees = (run.each i li).sees k c x.is.made

      from_call : (j q : ℕ) (d : Called V) (t : ℕ) (r : Stamped V) → j < n → slice_get (did j).calls q ≡ Some d → d.chosen ≡ r →
          slice_get (did j).times (at width n limit opening steps did run j q + ((n - 1) * width - 1)) ≡ Some t → t < x.time →
          IsFrom opening (map choice xs) r.stamp r.item
      from_call j q d t r lj e chosen et lt =
          let y = in_past x xs f j q t d lj e et lt in
          let same : y.0.is.call.chosen ≡ r = ap (λ z. z.chosen) y.2 ∙ chosen in
          inr (choice y.0, map_in choice xs y.0 y.1, ap (λ z. z.stamp) same, ap (λ z. z.item) same)

      -- the own record is the opening, or was chosen by the call before
      from_own : (m : ℕ) → m ≡ k → IsFrom opening (map choice xs) (own_at i m).stamp (own_at i m).item
      from_own zero e = inl (ap (λ z. z.stamp) (own_zero first (did i).calls), ap (λ z. z.item) (own_zero first (did i).calls))
      from_own (suc m) e =
          let lk : k < length (did i).calls = slice_get_within (did i).calls k c x.is.made in
          let d = get_exists (did i).calls m (omega arith) in
          let t = chooses_at width n limit opening steps did run i m d.0 li d.1 in
          let up : at width n limit opening steps did run i m + (n - 1) * width ≤ at width n limit opening steps did run i (suc m) =
          at_least width n limit opening steps did run i m d.0 d.1 in
          let on : at width n limit opening steps did run i (suc m) ≤ at width n limit opening steps did run i k =
          at_rises width n limit opening steps did run i (suc m) k (omega arith) in
          let p : 0 < (n - 1) * width = line width n limit opening steps did run in
          from_call i m d.0 t.0 (own_at i (suc m)) li d.1 (sym (own_next first (did i).calls m d.0 d.1)) t.1
          (times_rise width n limit opening steps did run i (at width n limit opening steps did run i m + ((n - 1) * width - 1))
          (at width n limit opening steps did run i k + ((n - 1) * width - 1)) t.0 x.time li t.1 x.chose (omega arith))

      answer_of : (e : ℕ) (answer : Stamped V) → slice_get sees.answers e ≡ Some answer → IsHeard i k e c answer
      answer_of e answer there =
          heard i k e c li (let a = sees.each in let b = slice_get_within sees.answers e answer there in omega arith) x.is.made answer
          (sees.answered e answer there)

      from_answer : (e : ℕ) (answer : Stamped V) → slice_get sees.answers e ≡ Some answer →
          IsFrom opening (map choice xs) answer.stamp answer.item
      from_answer e answer there =
          let le : e + 1 < n = let a = sees.each in let b = slice_get_within sees.answers e answer there in omega arith in
          let lj : other i e < n = other_inside n i e li le in
          elim (answer_of e answer there).from [
            | inl first ↦ inl (ap (λ z. z.stamp) first, ap (λ z. z.item) first)
            | inr w ↦
                let o : IsSource (other i e) w.0 w.1 answer x.time = w.2 x.time x.chose in
                let t = chooses_at width n limit opening steps did run (other i e) w.0 w.1 lj o.there in
                from_call (other i e) w.0 w.1 t.0 answer lj o.there o.chosen t.1 (o.chose t.0 t.1)
          ]

      -- what the process chose before
      above_own : (m : ℕ) (d : Called V) → slice_get (did i).calls m ≡ Some d → m < k → IsAtMost d.chosen.stamp c.seen.stamp
      above_own m d e l =
          let lk : k < length (did i).calls = slice_get_within (did i).calls k c x.is.made in
          let up : IsAtMost (own_at i (suc m)).stamp (own_at i (suc m + (k - suc m))).stamp =
          own_rises width n limit opening steps did run i (suc m) (k - suc m) li (omega arith) in
          let z : suc m + (k - suc m) ≡ k = omega arith in
          let one : IsAtMost d.chosen.stamp (own_at i k).stamp =
          subst (λ (z : Stamped V × Stamped V). IsAtMost z.0.stamp z.1.stamp)
          (λ p. (own_next first (did i).calls m d e p, own_at i (z p))) up in
          at_most_trans d.chosen.stamp (own_at i k).stamp c.seen.stamp one
          (subst (λ z. IsAtMost (own_at i k).stamp z.stamp) (sym sees.greatest) (greatest_first (own_at i k) sees.answers))

      -- an operation of the past of the same process has a smaller number
      smaller : (y : Made) → y.time < x.time → y.op.who ≡ i → y.number < k
      smaller y l who = elim (cases_lt y.number k) [
        | inl less ↦ less
        | inr ge ↦
            let up : at width n limit opening steps did run i k ≤ at width n limit opening steps did run i y.number =
            at_rises width n limit opening steps did run i k y.number ge in
            let there : slice_get (did i).times (at width n limit opening steps did run i y.number + ((n - 1) * width - 1)) ≡ Some y.time =
            subst (λ z. slice_get (did z).times (at width n limit opening steps did run z y.number + ((n - 1) * width - 1)) ≡ Some y.time)
            who y.chose in
            let r : x.time ≤ y.time = times_at_most width n limit opening steps did run i
            (at width n limit opening steps did run i k + ((n - 1) * width - 1))
            (at width n limit opening steps did run i y.number + ((n - 1) * width - 1)) x.time y.time li x.chose there (omega arith) in
            absurd (omega arith)
      ]

      own_past : (y : Made) → y.time < x.time → y.op.who ≡ i → IsAtMost y.is.call.chosen.stamp c.seen.stamp
      own_past y l who = above_own y.number y.is.call (subst (λ z. slice_get (did z).calls y.number ≡ Some y.is.call) who y.is.made)
          (smaller y l who)

      -- a call of the same process that ended before this one began has a smaller number
      ended_smaller : (m end : ℕ) (d : Called V) → slice_get (did i).calls m ≡ Some d → end_of width n (did i) m d ≡ Some end →
          end < c.begin → m < k
      ended_smaller m end d e at_end before = elim (cases_lt m k) [
        | inl less ↦ less
        | inr ge ↦
            let up : at width n limit opening steps did run i k ≤ at width n limit opening steps did run i m =
            at_rises width n limit opening steps did run i k m ge in
            let on : at width n limit opening steps did run i m + (n - 1) * width ≤ at width n limit opening steps did run i (suc m) =
            at_least width n limit opening steps did run i m d e in
            let p : 0 < (n - 1) * width = line width n limit opening steps did run in
            let r : c.begin ≤ end = times_at_most width n limit opening steps did run i (at width n limit opening steps did run i k)
            (at width n limit opening steps did run i (suc m) - 1) c.begin end li
            (begins width n limit opening steps did run i k c li x.is.made)
            (ends width n limit opening steps did run i m d e ∙ at_end) (omega arith) in
            absurd (omega arith)
      ]

      -- what was told by a call that ended before this one began
      told_past : (j m end : ℕ) (d : Called V) → j < n → slice_get (did j).calls m ≡ Some d → d.tells ≡ true →
          end_of width n (did j) m d ≡ Some end → end < c.begin → IsAtMost d.chosen.stamp c.seen.stamp
      told_past j m end d lj e tells at_end before = elim (cases_eq j i) [
        | inl who ↦
            let here : slice_get (did i).calls m ≡ Some d = subst (λ z. slice_get (did z).calls m ≡ Some d) who e in
            above_own m d here
            (ended_smaller m end d here (subst (λ z. end_of width n (did z) m d ≡ Some end) who at_end) before)
        | inr ne ↦
            let o = other_reached n i j li lj ne in
            let le : o.0 + 1 < n = o.1 in
            let a = get_exists sees.answers o.0 (let z = sees.each in omega arith) in
            let v : IsHeard i k o.0 c a.0 = answer_of o.0 a.0 a.1 in
            at_most_trans d.chosen.stamp a.0.stamp c.seen.stamp
            (v.above m end d (subst (λ z. slice_get (did z).calls m ≡ Some d) (sym o.2) e) tells
            (subst (λ z. end_of width n (did z) m d ≡ Some end) (sym o.2) at_end) before)
            (subst (λ z. IsAtMost a.0.stamp z.stamp) (sym sees.greatest) (greatest_each (own_at i k) sees.answers o.0 a.0 a.1))
      ]

      -- what a call chose that ended before this one began: it told it, or found that it was told, or had it before
      past_by : (j m end : ℕ) (d : Called V) → j < n → slice_get (did j).calls m ≡ Some d →
          end_of width n (did j) m d ≡ Some end → end < c.begin → IsAtMost (own_at j m).stamp c.seen.stamp →
          IsAtMost d.chosen.stamp c.seen.stamp
      past_by j m end d lj e at_end before own = elim (cases_Bool d.tells) [
        | inl tells ↦ told_past j m end d lj e tells at_end before
        | inr untold ↦ elim (cases_Bool d.finds) [
          | inl finds ↦
              let w : WasTold width n did d.chosen.stamp end = run.finds j m end d lj e untold finds at_end in
              let l : w.end < end = w.before in
              at_most_trans d.chosen.stamp w.call.chosen.stamp c.seen.stamp w.not_below
              (told_past w.who w.number w.end w.call w.inside w.there w.tells w.ended (omega arith))
          | inr silent ↦ subst (λ z. IsAtMost z.stamp c.seen.stamp) (sym ((run.each j lj).silent m d e untold silent)) own
        ]
      ]

      earlier_past : (j m end : ℕ) (d : Called V) → j < n → slice_get (did j).calls m ≡ Some d →
          end_of width n (did j) m d ≡ Some end → end < c.begin → IsAtMost d.chosen.stamp c.seen.stamp
      earlier_past j zero end d lj e at_end before = past_by j zero end d lj e at_end before
          (subst (λ z. IsAtMost z.stamp c.seen.stamp) (sym (own_zero first (did j).calls)) (first_least c.seen.stamp))
      earlier_past j (suc m) end d lj e at_end before =
          let lm : suc m < length (did j).calls = slice_get_within (did j).calls (suc m) d e in
          let b = get_exists (did j).calls m (omega arith) in
          let t = in_turn width n limit opening steps did run j m (suc m) b.0 d lj b.1 e (omega arith) in
          let up : t.0 < d.begin = t.2 in
          let on : d.begin ≤ end = lasts width n limit opening steps did run j (suc m) end d lj e at_end in
          past_by j (suc m) end d lj e at_end before
          (subst (λ z. IsAtMost z.stamp c.seen.stamp) (sym (own_next first (did j).calls m b.0 b.1))
          (earlier_past j m t.0 b.0 lj b.1 t.1 (omega arith)))

      -- what precedence of two choices says of their calls
      ended_before : (a b : Made) → IsEarlier ops (choice a) (choice b) →
          (end : ℕ) × (end_of width n (did a.op.who) a.number a.is.call ≡ Some end) × (end < b.is.call.begin)
      ended_before a b w =
          let p : w.0 ≡ a.op = same_Some w.0 a.op (sym w.2 ∙ a.there) in
          let q : w.1 ≡ b.op = same_Some w.1 b.op (sym w.3 ∙ b.there) in
          let l = end_there w.0.ends w.1.starts w.4 in
          let s : w.1.starts ≡ b.is.call.begin = ap (λ z. z.starts) q ∙ b.is.begins in
          (l.0, sym a.is.ends ∙ ap (λ z. z.ends) (sym p) ∙ l.1, let m : l.0 < w.1.starts = l.2 in omega arith)

      -- a call chooses while it lasts
      chooses_in : (a : Made) → (a.is.call.begin ≤ a.time)
          × ((end : ℕ) → end_of width n (did a.op.who) a.number a.is.call ≡ Some end → a.time ≤ end)
      chooses_in a =
          let p : 0 < (n - 1) * width = line width n limit opening steps did run in
          let up : at width n limit opening steps did run a.op.who a.number + (n - 1) * width
          ≤ at width n limit opening steps did run a.op.who (suc a.number) =
          at_least width n limit opening steps did run a.op.who a.number a.is.call a.is.made in (
            times_at_most width n limit opening steps did run a.op.who (at width n limit opening steps did run a.op.who a.number)
                (at width n limit opening steps did run a.op.who a.number + ((n - 1) * width - 1)) a.is.call.begin a.time a.is.who
                (begins width n limit opening steps did run a.op.who a.number a.is.call a.is.who a.is.made) a.chose (omega arith),
            λ end f. times_at_most width n limit opening steps did run a.op.who
                (at width n limit opening steps did run a.op.who a.number + ((n - 1) * width - 1))
                (at width n limit opening steps did run a.op.who (suc a.number) - 1) a.time end a.is.who a.chose
                (ends width n limit opening steps did run a.op.who a.number a.is.call a.is.made ∙ f) (omega arith),
          )

      chooses : Chooses (IsEarlier ops) opening limit (map choice xs) (choice x)
      chooses = record {
        seen = c.seen.stamp;
        seen_item = c.seen.item;
        from = subst (λ z. IsFrom opening (map choice xs) z.stamp z.item) (sym sees.greatest)
            (greatest_is (λ z. IsFrom opening (map choice xs) z.stamp z.item) (own_at i k) sees.answers (from_own k refl)
            (λ e answer there. from_answer e answer there));
        own = λ d m who.
            let y = in_map choice xs d m in
            let e : d ≡ choice y.0 = y.2 in
            let l : y.0.time < x.time = s.0 y.0 y.1 in
            subst (λ z. IsAtMost z.stamp c.seen.stamp) (sym e) (own_past y.0 l (ap (λ z. z.who) (sym e) ∙ who));
        earlier = λ d m w.
            let y = in_map choice xs d m in
            let e : d ≡ choice y.0 = y.2 in
            let l : y.0.time < x.time = s.0 y.0 y.1 in
            subst (λ z. IsAtMost z.stamp c.seen.stamp) (sym e)
            (let b = ended_before y.0 x (subst (λ z. IsEarlier ops z (choice x)) e w) in
            earlier_past y.0.op.who y.0.number b.0 y.0.is.call y.0.is.who y.0.is.made b.1 b.2);
        chosen = subst (λ z. ChoosesByKind limit (record (choice x) { kind = z }) z c.seen.stamp c.seen.item) (sym x.is.kind)
            ((run.each i li).chooses k x.place c x.is.made);
        not_later = λ d m w.
            let y = in_map choice xs d m in
            let e : d ≡ choice y.0 = y.2 in
            let l : y.0.time < x.time = s.0 y.0 y.1 in
            let b = ended_before x y.0 (subst (λ z. IsEarlier ops (choice x) z) e w) in
            let less : b.0 < y.0.is.call.begin = b.2 in
            let p = chooses_in x in
            let q = chooses_in y.0 in
            let p1 : x.time ≤ b.0 = p.1 b.0 b.1 in
            let q0 : y.0.is.call.begin ≤ y.0.time = q.0 in
            omega arith;
        interval = λ w.
            let b = ended_before x x w in
            let less : b.0 < c.begin = b.2 in
            let l : c.begin ≤ b.0 = lasts width n limit opening steps did run i k b.0 c li x.is.made b.1 in
            omega arith;
        writer = let l : i < n = li in let m : n ≤ 16 = run.size.1 in omega arith;
      }

    choose_all : (xs : List Made) → IsStrict xs → IsFull xs → AllChoose (IsEarlier ops) opening limit (map choice xs)
    choose_all [] s f = tt
    choose_all (x ∷ xs) s f = (chooses x xs s f, choose_all xs s.1 (full_rest x xs s f))

    abbrev choices : List (Choice V)
    choices = map choice sorted

    is_choice : (m : Made) → IsChoiceOf ops stamps (choice m)
    is_choice m = record {
      op = m.op;
      there = m.there;
      reported = m.reported ∙ ap Some m.is.stamp;
      actor = refl;
      same_kind = refl;
      written = λ w. m.is.item;
      ended = λ end e. m.is.item;
    }

    of_made : (y : Made) → (c : Choice V) × IsIn c choices × (c.place ≡ y.place)
    of_made y = let w = has y in (choice w.0, map_in choice sorted w.0 w.1, one_time w.0 y w.2)

    by_stamp : (p : ℕ) (s : Stamp) (op : Op V) → slice_get ops p ≡ Some op → slice_get stamps p ≡ Some (Some s) → Which op (Some s) →
        (c : Choice V) × IsIn c choices × (c.place ≡ p)
    by_stamp p s op e r (inl c) = of_made (made_by p c.0 op (Some s) e r c.1)
    by_stamp p s op e r (inr u) = absurd (no_stamp (Some s) (Some s) s refl refl u.stamp)

    by_end : (p end : ℕ) (op : Op V) (stamp : Option Stamp) → slice_get ops p ≡ Some op → slice_get stamps p ≡ Some stamp →
        op.ends ≡ Some end → Which op stamp → (c : Choice V) × IsIn c choices × (c.place ≡ p)
    by_end p end op stamp e r f (inl c) = of_made (made_by p c.0 op stamp e r c.1)
    by_end p end op stamp e r f (inr u) = absurd (no_stamp op.ends op.ends end refl f u.ends)

    one_choice : (a b : Made) → a.place ≡ b.place → choice a ≡ choice b
    one_choice a b e =
        let o : a.op ≡ b.op = same_Some a.op b.op (sym a.there ∙ ap (slice_get ops) e ∙ b.there) in
        let stamp : a.is.call.chosen.stamp ≡ b.is.call.chosen.stamp = same_Some a.is.call.chosen.stamp b.is.call.chosen.stamp
        (sym a.is.stamp ∙ same_Some a.stamp b.stamp (sym a.reported ∙ ap (slice_get stamps) e ∙ b.reported) ∙ b.is.stamp) in
        let item : a.is.call.chosen.item ≡ b.is.call.chosen.item = same_Some a.is.call.chosen.item b.is.call.chosen.item
        (sym a.is.item ∙ ap (λ z. z.item) o ∙ b.is.item) in
        ap (λ (z : ℕ × Op V × Stamp × V). record { place = z.0; who = z.1.who; kind = z.1.kind; stamp = z.2; item = z.3 })
        (λ k. (e k, o k, stamp k, item k))

    pub choices_there : (choices : List (Choice V)) × HasChoices opening limit ops stamps choices
    choices_there = (
      choices,
      record {
        law = choose_all sorted strict full_sorted;
        each = λ c m. let w = in_map choice sorted c m in subst (IsChoiceOf ops stamps) (sym w.2) (is_choice w.0);
        reported = λ p s e.
            let o = get_exists ops p (let l = slice_get_within stamps p (Some s) e in let long = h.long in omega arith) in
            by_stamp p s o.0 o.1 e (h.each p o.0 (Some s) o.1 e);
        finished = λ p end o e f.
            let s = stamp_at p (slice_get_within ops p o e) in
            by_end p end o s.0 e s.1 f (h.each p o s.0 e s.1);
        once = λ c d mc md e.
            let v = in_map choice sorted c mc in
            let w = in_map choice sorted d md in
            v.2 ∙ one_choice v.0 w.0 (ap (λ z. z.place) (sym v.2) ∙ e ∙ ap (λ z. z.place) w.2) ∙ sym w.2;
      },
    )

    pub history_atomic : (order : List ℕ) → IsInOrder ops stamps order → IsAtomicOrder (λ x y. x ≡ y) opening ops order
    history_atomic order is = let x = choices_there in term_atomic opening limit ops stamps x.0 order x.1 is h.long h.rising

    pub history_lawful : (order : List ℕ) → IsInOrder ops stamps order →
        RefusesLawfully (record { first = 0; limit = limit } ∷ []) ops order
    history_lawful order is = let x = choices_there in term_lawful opening limit ops stamps x.0 order x.1 is h.long h.rising

module _ {V : Type 0} (width n : ℕ) (did : ℕ → Did V) (ops : List (Op V)) (stamps : List (Option Stamp))
    (h : IsHistorySoFar width n did ops stamps) where
  -- an operation that is cut off stands in the order exactly if it is a write that has chosen
  pub history_stands : (order : List ℕ) → IsInOrder ops stamps order → StandIfChosen ops stamps order
  history_stands order is p op stamp e s = is.listed p op stamp e s ∙ ap (λ b. if b then 1 else 0) (stands op stamp (h.each p op stamp e s))
    where
      stands : (op : Op V) (stamp : Option Stamp) →
          ((k : ℕ) × IsOpOfCallSoFar width n did op stamp k) ⊎ IsUnchosenCall width n did op stamp →
          is_listed op stamp ≡ (is_some op.ends || (is_write op.kind && is_some stamp))
      stands op stamp (inl c) =
          ap (is_listed op) c.1.stamp ∙ ap (λ b. is_some op.ends || b) (sym (and_true (is_write op.kind)))
          ∙ ap (λ s. is_some op.ends || (is_write op.kind && is_some s)) (sym c.1.stamp)
      stands op stamp (inr u) =
          ap (is_listed op) u.stamp ∙ sym (and_false (is_write op.kind))
          ∙ ap (λ z. z || (is_write op.kind && false)) (ap is_some (sym u.ends))
          ∙ ap (λ s. is_some op.ends || (is_write op.kind && is_some s)) (sym u.stamp)
