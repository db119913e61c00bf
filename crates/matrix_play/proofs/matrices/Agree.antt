-- Where each access is one step, a run by accesses is as exact as a function: two runs of one schedule chose the same records. By
-- induction over the positions of the choices: a read has the number of the last write before it, and that write's operation chose
-- before.
use Rattle.std.proofs.Common.{◌≡◌, ℕ, zero, suc, ◌+◌, ◌-◌, ◌*◌, ◌<◌, ◌≤◌, List, [], ◌∷◌, length, slice_get, Option, None, Some, refl}
use Rattle.std.proofs.Common.{sym, subst, ◌∙◌, ap, arith, inl, inr}
use Rattle.std.proofs.lemmas.Bool.{cases_lt}
use Rattle.std.proofs.lemmas.Option.{same_Some, slice_get_within}
use Rattle.history_core.specs.declared.history.Op.{Op}
use Rattle.history_core.specs.declared.history.Kind.TheVariants.{Write as WriteKind, Read as ReadKind, Refused as RefusedKind}
use Rattle.history_core.specs.declared.wish.Wish.{Wish}
use Rattle.history_core.specs.declared.wish.Wish.TheVariants.{Write, Read}
use Rattle.history_core.specs.Schedules.{access_at, Follows, IsOperation, IsPlayed, planned, positions, Span}
use Rattle.history_core.proofs.Played.{same_operation_number}
use Rattle.history_core.proofs.Positions.{position_once}
use Rattle.history_core.specs.Registers.{Intervals, IsBefore, IsReadOf}
use Rattle.history_core.proofs.Times.{of_before}
use Rattle.matrix_core.specs.Stamps.{greatest}
use Rattle.four_slot_core.specs.Traces.{source_record}
use Rattle.matrix_core.specs.declared.stamp.Stamp.{Stamp}
use Rattle.matrix_core.specs.declared.stamp.Stamped.{Stamped}
use Rattle.matrix_core.specs.ByAccesses.{choice_at, chooses_at, ChoosesBy, column, IsChosenBy, IsCut, row}
use Rattle.matrix_core.specs.Choices.{Choice, ChoosesByKind}
use Rattle.matrix_core.specs.Lines.{first_record, other}
use Rattle.matrix_play.specs.MatrixRuns.{IsMatrixRun}
use Rattle.matrix_core.proofs.lines.Others.{other_differs, other_inside, other_reached}
use Rattle.matrix_core.proofs.choices.ByAccesses.{event_before, event_upto}

-- lists with the same elements
same_list : {X : Type 0} (xs ys : List X) → length xs ≡ length ys →
    ((k : ℕ) (x y : X) → slice_get xs k ≡ Some x → slice_get ys k ≡ Some y → x ≡ y) → xs ≡ ys
same_list [] [] l h = refl
same_list [] (y ∷ ys) l h = absurd (omega arith)
same_list (x ∷ xs) [] l h = absurd (omega arith)
same_list (x ∷ xs) (y ∷ ys) l h =
    ap (λ z. z ∷ xs) (h 0 x y refl refl) ∙ ap (λ zs. y ∷ zs) (same_list xs ys (omega arith) (λ k a b ea eb. h (suc k) a b ea eb))

-- a read has one number where accesses have one position each
number_at_most : (writes reads : Intervals) (m n1 n2 : ℕ) → ((k : ℕ) → writes.begins k ≡ writes.ends k) →
    ((k : ℕ) → reads.begins k ≡ reads.ends k) → IsReadOf writes reads m n1 → IsReadOf writes reads m n2 → n2 ≤ n1
number_at_most writes reads m n1 zero pw pr h1 h2 = omega arith
number_at_most writes reads m n1 (suc k) pw pr h1 h2 =
    let b : IsBefore (writes.begins k) (reads.ends m) = h2.begun k (omega arith) in
    let l : k < n1 =
    h1.late k (subst (λ x. IsBefore x (reads.begins m)) (pw k) (subst (λ y. IsBefore (writes.begins k) y) (sym (pr m)) b)) in
    omega arith

-- one choice by kind has one record
same_record : {R : Type 0} (limit : ℕ) (w : Option (Wish R)) (o p : Op R) (c d : Choice R) (seen : Stamped R) → Follows w o →
    Follows w p → c.who ≡ d.who
    → ChoosesByKind limit c o.kind seen.stamp seen.item → ChoosesByKind limit d p.kind seen.stamp seen.item →
    (o.kind ≡ WriteKind → o.item ≡ Some c.item) → (p.kind ≡ WriteKind → p.item ≡ Some d.item)
    → (c.stamp ≡ d.stamp) × (c.item ≡ d.item)
same_record limit None o p c d seen fo fp who ho hp io ip = absurd fo
same_record limit (Some Read) o p c d seen fo fp who ho hp io ip =
    let x : ChoosesByKind limit c ReadKind seen.stamp seen.item = subst (λ k. ChoosesByKind limit c k seen.stamp seen.item) fo ho in
    let y : ChoosesByKind limit d ReadKind seen.stamp seen.item = subst (λ k. ChoosesByKind limit d k seen.stamp seen.item) fp hp in
    (x.0 ∙ sym y.0, x.1 ∙ sym y.1)
same_record limit (Some (Write v)) o p c d seen fo fp who ho hp io ip = elim fo [
  | inl wo ↦
      let x : ChoosesByKind limit c WriteKind seen.stamp seen.item = subst (λ k. ChoosesByKind limit c k seen.stamp seen.item) wo.0 ho in
      let lx : seen.stamp.tag < limit = x.0 in
      elim fp [
        | inl wp ↦
            let y : ChoosesByKind limit d WriteKind seen.stamp seen.item =
            subst (λ k. ChoosesByKind limit d k seen.stamp seen.item) wp.0 hp in
            let stamp : ℕ → Stamp = λ z. record { tag = seen.stamp.tag + 1; writer = z } in
            (x.1 ∙ ap stamp who ∙ sym y.1, same_Some c.item d.item (sym (io wo.0) ∙ wo.1 ∙ sym wp.1 ∙ ip wp.0))
        | inr rp ↦
            let y : ChoosesByKind limit d RefusedKind seen.stamp seen.item =
            subst (λ k. ChoosesByKind limit d k seen.stamp seen.item) rp hp in
            let ly : limit ≤ seen.stamp.tag = y.0 in
            absurd (omega arith)
      ]
  | inr ro ↦
      let x : ChoosesByKind limit c RefusedKind seen.stamp seen.item = subst (λ k. ChoosesByKind limit c k seen.stamp seen.item) ro ho in
      let lx : limit ≤ seen.stamp.tag = x.0 in
      elim fp [
        | inl wp ↦
            let y : ChoosesByKind limit d WriteKind seen.stamp seen.item =
            subst (λ k. ChoosesByKind limit d k seen.stamp seen.item) wp.0 hp in
            let ly : seen.stamp.tag < limit = y.0 in
            absurd (omega arith)
        | inr rp ↦
            let y : ChoosesByKind limit d RefusedKind seen.stamp seen.item =
            subst (λ k. ChoosesByKind limit d k seen.stamp seen.item) rp hp in
            (x.1 ∙ sym y.1, x.2 ∙ sym y.2)
      ]
]

module _ {R : Type 0} (at : ℕ) (span : Span R) (opening : R) (cut : IsCut 1 span) where
  abbrev n : ℕ
  n = length span.plans

  abbrev a : ℕ
  a = span.accesses

  more_steps : (2 ≤ n) × (0 < a)
  more_steps = let two : 2 ≤ n = cut.at_least in let e : a ≡ (2 * (n - 1)) * 1 = cut.accesses in (two, omega arith)

  -- what operation k of process i saw and chose
  record Knows (chosen : ℕ → ℕ → Stamped R) (i k : ℕ) : Type 0 where
    op : Op R
    choice : Choice R
    answers : List (Stamped R)
    actor : choice.who ≡ i
    is : (choice.stamp ≡ (chosen i k).stamp) × (choice.item ≡ (chosen i k).item)
    follows : Follows (planned span i k) op
    item : op.kind ≡ WriteKind → op.item ≡ Some choice.item
    each : length answers + 1 ≡ n
    answered : (read write : ℕ) (answer : Stamped R) → slice_get answers read ≡ Some answer → other (other i read) write ≡ i → write + 1 < n
        → (m : ℕ) × IsReadOf (row at span 1 (other i read) write) (column at span 1 i read) k m
        × (answer ≡ source_record (first_record opening) (chosen (other i read)) m)
    chose : let seen = greatest (source_record (first_record opening) (chosen i) k) answers in
        ChoosesByKind span.limit choice op.kind seen.stamp seen.item

  knows : (ops : List (Op R)) (stamps : List (Option Stamp)) (chosen : ℕ → ℕ → Stamped R) (i k t : ℕ) → IsPlayed at span ops →
      IsChosenBy at span 1 opening ops stamps chosen → chooses_at at span 1 i k ≡ Some t → Knows chosen i k
  knows ops stamps chosen i k t played by h =
      let pos = more_steps in
      let first = event_upto at span i k 0 ((n - 2) * 1 + (1 - 1)) t (omega arith) h in
      let o = played.all i k first.0 first.1 in
      let op : Op R = o.1 in
      let each = played.each o.0 op o.2 in
      let once : each.0 * a + 0 ≡ k * a + 0 = position_once at op.who span.steps (each.0 * a + 0) (k * a + 0) op.starts each.1.begins
      (ap (λ z. access_at at span z k 0) o.3 ∙ first.1 ∙ ap Some (sym o.4)) in
      let number : each.0 ≡ k = same_operation_number a each.0 k 0 0 once (omega arith) (omega arith) in
      let is : IsOperation at span k op = subst (λ z. IsOperation at span z op) number each.1 in
      let here : chooses_at at span 1 op.who k ≡ Some t = ap (λ z. chooses_at at span 1 z k) o.3 ∙ h in
      let c : ChoosesBy at span 1 opening chosen (choice_at chosen o.0 k op) k = by.chooses o.0 k t op o.2 is here in
      let x : Knows chosen op.who k = record {
        op = op;
        choice = choice_at chosen o.0 k op;
        answers = c.answers;
        actor = refl;
        is = (refl, refl);
        follows = is.follows;
        item = by.written o.0 k t op o.2 is here;
        each = c.each;
        answered = c.answered;
        chose = c.by_kind;
      } in
      subst (λ z. Knows chosen z k) o.3 x

  module _ (chosen chosen' : ℕ → ℕ → Stamped R) (one : (i k t : ℕ) → chooses_at at span 1 i k ≡ Some t → Knows chosen i k)
      (two : (i k t : ℕ) → chooses_at at span 1 i k ≡ Some t → Knows chosen' i k) where
    -- records with numbers whose operations chose before are the same
    same_source : (b i m : ℕ) → i < n → ((j k t : ℕ) → j < n → t < b → chooses_at at span 1 j k ≡ Some t → chosen j k ≡ chosen' j k) →
        ((k : ℕ) → m ≡ k + 1 → (t : ℕ) × (chooses_at at span 1 i k ≡ Some t) × (t < b))
        → source_record (first_record opening) (chosen i) m ≡ source_record (first_record opening) (chosen' i) m
    same_source b i zero li before early = refl
    same_source b i (suc k) li before early = let x = early k (omega arith) in before i k x.0 li x.2 x.1

    -- so are all that chose at the next position
    same_next : (b : ℕ) → ((j k t : ℕ) → j < n → t < b → chooses_at at span 1 j k ≡ Some t → chosen j k ≡ chosen' j k) → (i k : ℕ) → i < n →
        chooses_at at span 1 i k ≡ Some b → chosen i k ≡ chosen' i k
    same_next b before i k li h =
        let pos = more_steps in
        let x = one i k b h in
        let y = two i k b h in
        let ch : ℕ = (n - 2) * 1 + (1 - 1) in
        let own : source_record (first_record opening) (chosen i) k ≡ source_record (first_record opening) (chosen' i) k
        = same_source b i k li before (λ j e. earlier i j k b e h) in
        let ex : length x.answers + 1 ≡ n = x.each in
        let ey : length y.answers + 1 ≡ n = y.each in
        let same_answers : x.answers ≡ y.answers = same_list x.answers y.answers (omega arith) (λ read p q ep eq.
        let lr : read < length x.answers = slice_get_within x.answers read p ep in
        let w = other_reached n (other i read) i (other_inside n i read li (omega arith)) li (λ z. other_differs i read (sym z)) in
        let u = x.answered read w.0 p ep w.2 w.1 in
        let v = y.answered read w.0 q eq w.2 w.1 in
        let points_row : (m : ℕ) → (row at span 1 (other i read) w.0).begins m ≡ (row at span 1 (other i read) w.0).ends m =
        λ m. ap (access_at at span (other i read) m) (omega arith) in
        let points_column : (m : ℕ) → (column at span 1 i read).begins m ≡ (column at span 1 i read).ends m =
        λ m. ap (access_at at span i m) (omega arith) in
        let le : v.0 ≤ u.0 =
        number_at_most (row at span 1 (other i read) w.0) (column at span 1 i read) k u.0 v.0 points_row points_column u.1 v.1 in
        let ge : u.0 ≤ v.0 =
        number_at_most (row at span 1 (other i read) w.0) (column at span 1 i read) k v.0 u.0 points_row points_column v.1 u.1 in
        let nums : u.0 ≡ v.0 = omega arith in
        let lw : w.0 + 1 < n = w.1 in
        u.2 ∙ same_source b (other i read) u.0 (other_inside n i read li (omega arith)) before (λ m e.
        let f = of_before ((row at span 1 (other i read) w.0).begins m) ((column at span 1 i read).ends k) (u.1.begun m e) in
        let r = event_upto at span i k (read * 1 + (1 - 1)) ch b (omega arith) h in
        let c = event_before at span (other i read) m ch ((n - 1 + w.0) * 1) f.0 (omega arith) f.1 in
        let lf : f.0 < r.0 = f.2 r.0 r.1 in
        let lr2 : r.0 ≤ b = r.2 in
        let lc : c.0 < f.0 = c.2 in
        (c.0, c.1, omega arith))
        ∙ ap (source_record (first_record opening) (chosen' (other i read))) nums ∙ sym v.2) in
        let seen : greatest (source_record (first_record opening) (chosen i) k) x.answers
        ≡ greatest (source_record (first_record opening) (chosen' i) k) y.answers
        = ap (λ z. greatest z x.answers) own ∙ ap (greatest (source_record (first_record opening) (chosen' i) k)) same_answers in
        let r = same_record span.limit (planned span i k) x.op y.op x.choice y.choice
        (greatest (source_record (first_record opening) (chosen' i) k) y.answers) x.follows y.follows (x.actor ∙ sym y.actor)
        (subst (λ (z : Stamped R). ChoosesByKind span.limit x.choice x.op.kind z.stamp z.item) seen x.chose) y.chose x.item y.item in
        let s : (chosen i k).stamp ≡ (chosen' i k).stamp = sym x.is.0 ∙ r.0 ∙ y.is.0 in
        let t : (chosen i k).item ≡ (chosen' i k).item = sym x.is.1 ∙ r.1 ∙ y.is.1 in
        ap (λ z. record { stamp = z; item = (chosen i k).item }) s ∙ ap (λ z. record { stamp = (chosen' i k).stamp; item = z }) t
      where
        earlier : (i j k b : ℕ) → k ≡ j + 1 → chooses_at at span 1 i k ≡ Some b → (t : ℕ) × (chooses_at at span 1 i j ≡ Some t) × (t < b)
        earlier i j k b e h =
            let pos = more_steps in
            let ch : ℕ = (n - 2) * 1 + (1 - 1) in
            let mul : k * a ≡ j * a + a = ap (λ z. z * a) e ∙ omega arith in
            let same : j * a + (a + ch) ≡ k * a + ch = omega arith in
            let x = event_before at span i j ch (a + ch) b (omega arith) (ap (λ z. slice_get (positions at i span.steps) z) same ∙ h) in
            (x.0, x.1, x.2)

    same_below : (b j k t : ℕ) → j < n → t < b → chooses_at at span 1 j k ≡ Some t → chosen j k ≡ chosen' j k
    same_below zero j k t lj l h = absurd (omega arith)
    same_below (suc b) j k t lj l h = elim (cases_lt t b) [
      | inl less ↦ same_below b j k t lj less h
      | inr ge ↦ let e : t ≡ b = omega arith in same_next b (λ i m u li lu g. same_below b i m u li lu g) j k lj (h ∙ ap Some e)
    ]

  pub runs_agree : (ops these : List (Op R)) (stamps those : List (Option Stamp)) (chosen picked : ℕ → ℕ → Stamped R) →
      IsPlayed at span ops → IsPlayed at span these
      → IsMatrixRun at span opening ops stamps chosen → IsMatrixRun at span opening these those picked → (i k t : ℕ) →
      i < length span.plans → chooses_at at span 1 i k ≡ Some t → chosen i k ≡ picked i k
  runs_agree ops these stamps those chosen picked played shown run other_run i k t li h = same_below chosen picked
      (λ j m u e. knows ops stamps chosen j m u played run.by e) (λ j m u e. knows these those picked j m u shown other_run.by e) (suc t)
      i k t li (omega arith) h
