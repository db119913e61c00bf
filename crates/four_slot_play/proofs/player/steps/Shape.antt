-- The operations that the player makes of its parts are those of the schedule: each stands where its beginning is played, ends
-- where its last step is, and does what was planned, since no step of the schedule is without an operation.
use Rattle.std.proofs.Common.{◌≡◌, ℕ, ◌<◌, ◌+◌, ◌*◌, List, [], ◌∷◌, map, replicate, slice_get, Option, Some, inl, zero, suc, refl, sym}
use Rattle.std.proofs.Common.{subst}
use Rattle.std.proofs.Common.{◌∙◌, ap, arith}
use Rattle.std.specs.Option.{option_map}
use Rattle.std.proofs.lemmas.Option.{same_Some, slice_get-map}
use Rattle.history_core.specs.declared.history.Op.{Op}
use Rattle.history_core.specs.declared.history.Term.{Term}
use Rattle.history_core.specs.declared.wish.Wish.{Wish}
use Rattle.history_core.specs.declared.wish.Wish.TheVariants.{Write, Read}
use Rattle.history_core.specs.Schedules.{positions, access_at, planned, Follows, IsOperation, IsPlayed, HasOperations, HasShape}
use Rattle.history_core.proofs.Positions.{position_step}
use Rattle.history_core.proofs.Overruns.{planned_here}
use Rattle.history_core.proofs.Terms.{one_term, term_at}
use Rattle.four_slot_core.specs.declared.schedule.Turn.{Turn}
use Rattle.four_slot_core.specs.declared.schedule.Turn.TheVariants.{Writer, Reader}
use Rattle.four_slot_play.specs.declared.player.steps.Started.{Started}
use Rattle.four_slot_play.specs.declared.player.run.Numbered.{Numbered}
use Rattle.four_slot_core.specs.Play.{actor, span_of}
use Rattle.four_slot_play.specs.inner.Parts.{started, op_by, op_of, IsPartsOf, IsAccessesOf}
use Rattle.four_slot_play.specs.inner.Runs.{Log, IsAssembled}

-- what an element of a mapped list comes from
pub mapped_from : {A B : Type 0} (f : A → B) (xs : List A) (p : ℕ) (y : B) → slice_get (map f xs) p ≡ Some y →
    (x : A) × (slice_get xs p ≡ Some x) × (f x ≡ y)
mapped_from f [] p y h = cc
mapped_from f (x ∷ xs) zero y h = (x, refl, same_Some (f x) y h)
mapped_from f (x ∷ xs) (suc p) y h = mapped_from f xs p y h

pub mapped_to : {A B : Type 0} (f : A → B) (xs : List A) (p : ℕ) (x : A) → slice_get xs p ≡ Some x → slice_get (map f xs) p ≡ Some (f x)
mapped_to f xs p x h = slice_get-map f xs p ∙ ap (option_map f) h

replicated : {A : Type 0} (n k : ℕ) (x y : A) → slice_get (replicate n x) k ≡ Some y → x ≡ y
replicated zero k x y h = cc
replicated (suc n) zero x y h = same_Some x y h
replicated (suc n) (suc k) x y h = replicated n k x y h

-- a step of an actor is a step of a side
pub side_of : (steps : List Turn) (n who : ℕ) → slice_get (map actor steps) n ≡ Some who → (t : Turn) × (actor t ≡ who)
side_of steps n who h = let w = mapped_from actor steps n who h in (w.0, w.2)

first_of_five : 0 < 5
first_of_five = omega arith

module _ {R : Type 0} where
  -- what the operation of a part is to do
  planned_part : (steps : List Turn) (writes : List R) (reads who k begin : ℕ) → HasOperations (span_of steps writes reads ∷ []) →
      access_at 0 (span_of steps writes reads) who k 0 ≡ Some begin →
      (wish : Wish R) × (planned (span_of steps writes reads) who k ≡ Some wish)
  planned_part steps writes reads who k begin has at =
      let w = position_step 0 who (map actor steps) (k * 5 + 0) begin at in
      planned_here (span_of steps writes reads) w.place who k 0 w.actor (λ o. has w.place (inl o)) w.before first_of_five

  follows_write : (writes : List R) (k starts : ℕ) (writer_ends reader_ends : List ℕ) (answers : List (Numbered R)) (wish : Wish R) →
      slice_get (map Write writes) k ≡ Some wish →
      Follows (slice_get (map Write writes) k) (op_by Writer k starts writes writer_ends reader_ends answers)
  follows_write writes k starts writer_ends reader_ends answers wish e =
      let w = mapped_from Write writes k wish e in
      let P : Option (Wish R) → Type 0 = λ o. Follows o (op_by Writer k starts writes writer_ends reader_ends answers) in
      subst P (sym (mapped_to Write writes k w.0 w.1)) (inl (refl, w.1))

  follows_read : (reads k starts : ℕ) (writes : List R) (writer_ends reader_ends : List ℕ) (answers : List (Numbered R)) (wish : Wish R) →
      slice_get (replicate reads Read) k ≡ Some wish →
      Follows (slice_get (replicate reads Read) k) (op_by Reader k starts writes writer_ends reader_ends answers)
  follows_read reads k starts writes writer_ends reader_ends answers wish e =
      let P : Option (Wish R) → Type 0 = λ o. Follows o (op_by Reader k starts writes writer_ends reader_ends answers) in
      subst P (sym (e ∙ ap Some (sym (replicated reads k Read wish e)))) refl

  part_is : (steps : List Turn) (writes : List R) (reads : ℕ) (writer_ends reader_ends : List ℕ) (answers : List (Numbered R)) (turn : Turn)
      (k starts : ℕ) → HasOperations (span_of steps writes reads ∷ []) → IsAccessesOf 0 4 (map actor steps) writer_ends →
      IsAccessesOf 1 4 (map actor steps) reader_ends → slice_get (positions 0 (actor turn) (map actor steps)) (k * 5 + 0) ≡ Some starts →
      IsOperation 0 (span_of steps writes reads) k (op_by turn k starts writes writer_ends reader_ends answers)
  part_is steps writes reads writer_ends reader_ends answers Writer k starts has we re at = record {
    begins = at;
    finishes = sym (we.each k);
    follows =
        let w = planned_part steps writes reads 0 k starts has at in
        follows_write writes k starts writer_ends reader_ends answers w.0 w.1;
  }
  part_is steps writes reads writer_ends reader_ends answers Reader k starts has we re at = record {
    begins = at;
    finishes = sym (re.each k);
    follows =
        let w = planned_part steps writes reads 1 k starts has at in
        follows_read reads k starts writes writer_ends reader_ends answers w.0 w.1;
  }

  pub who_of : (turn : Turn) (k starts : ℕ) (writes : List R) (writer_ends reader_ends : List ℕ) (answers : List (Numbered R)) →
      (op_by turn k starts writes writer_ends reader_ends answers).who ≡ actor turn
  who_of Writer k starts writes writer_ends reader_ends answers = refl
  who_of Reader k starts writes writer_ends reader_ends answers = refl

  pub starts_of : (turn : Turn) (k starts : ℕ) (writes : List R) (writer_ends reader_ends : List ℕ) (answers : List (Numbered R)) →
      (op_by turn k starts writes writer_ends reader_ends answers).starts ≡ starts
  starts_of Writer k starts writes writer_ends reader_ends answers = refl
  starts_of Reader k starts writes writer_ends reader_ends answers = refl

  pub parts_are_played : (steps : List Turn) (writes : List R) (reads : ℕ) (writer_ends reader_ends : List ℕ) (answers : List (Numbered R))
      (parts : List Started) → HasOperations (span_of steps writes reads ∷ []) → IsAccessesOf 0 4 (map actor steps) writer_ends →
      IsAccessesOf 1 4 (map actor steps) reader_ends → IsPartsOf (map actor steps) parts →
      IsPlayed 0 (span_of steps writes reads) (map (op_of writes writer_ends reader_ends answers) parts)
  parts_are_played steps writes reads writer_ends reader_ends answers parts has we re h = record {
    each = λ p op at.
        let w = mapped_from make parts p op at in
        let P : Op R → Type 0 = λ o. IsOperation 0 (span_of steps writes reads) w.0.number o in (
          w.0.number,
          subst P w.2
              (part_is steps writes reads writer_ends reader_ends answers w.0.turn w.0.number w.0.starts has we re (h.each p w.0 w.1)),
        );
    all = λ who k begin at.
        let step = position_step 0 who (map actor steps) (k * 5 + 0) begin at in
        let side = side_of steps step.place who step.actor in
        let w = h.all side.0 k begin (ap (λ n. slice_get (positions 0 n (map actor steps)) (k * 5 + 0)) side.1 ∙ at) in (
          w.0,
          make (started side.0 k begin),
          mapped_to make parts w.0 (started side.0 k begin) w.1,
          who_of side.0 k begin writes writer_ends reader_ends answers ∙ side.1,
          starts_of side.0 k begin writes writer_ends reader_ends answers,
        );
    rising = λ p q a b pa qb lt.
        let u = mapped_from make parts p a pa in
        let v = mapped_from make parts q b qb in
        let rise = h.rising p q u.0 v.0 u.1 v.1 lt in
        let ea : u.0.starts ≡ a.starts =
        sym (starts_of u.0.turn u.0.number u.0.starts writes writer_ends reader_ends answers) ∙ ap (λ (o : Op R). o.starts) u.2 in
        let eb : v.0.starts ≡ b.starts =
        sym (starts_of v.0.turn v.0.number v.0.starts writes writer_ends reader_ends answers) ∙ ap (λ (o : Op R). o.starts) v.2 in
        subst (λ (z : ℕ). z < b.starts) ea (subst (λ (z : ℕ). u.0.starts < z) eb rise);
  }
    where
      make : Started → Op R
      make = op_of writes writer_ends reader_ends answers

  -- so the report has the schedule's shape
  pub assembled_shape : (log : Log (Numbered R)) (steps : List Turn) (writes : List R) (reads : ℕ) (terms : List Term) (ops : List (Op R))
      (slots : List (Option ℕ)) (order : List ℕ) → HasOperations (span_of steps writes reads ∷ []) →
      IsAssembled log steps writes terms ops slots order → HasShape (span_of steps writes reads ∷ []) terms ops
  assembled_shape log steps writes reads terms ops slots order has a =
      let P : List Term → List (Op R) → Type 0 = HasShape (span_of steps writes reads ∷ []) in
      subst (λ t. P t ops) (sym a.terms_are)
      (subst (P (term_at 0 (span_of steps writes reads) ∷ [])) (sym a.ops_are)
      (one_term (span_of steps writes reads) (map (op_of writes a.writer_ends a.reader_ends log.answers) a.parts)
      (parts_are_played steps writes reads a.writer_ends a.reader_ends log.answers a.parts has a.are_writer_ends
      a.are_reader_ends a.are_parts)))
