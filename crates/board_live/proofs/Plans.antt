-- A call as far as it has come: after any step of its column or of its row its process has made calls so far.
use Rattle.std.proofs.Common.{◌≡◌, ℕ, ◌+◌, ◌-◌, ◌*◌, ◌<◌, ◌≤◌, List, [], ◌∷◌, ◌++◌, length, map, slice_get, Option, None, Some}
use Rattle.std.proofs.Common.{refl, sym, ◌∙◌, ap, subst, arith, inl, inr, append_assoc, append-nil, add-mul, mul-le-mul_right, true, false}
use Rattle.std.proofs.lemmas.Bool.{cases_lt}
use Rattle.std.proofs.lemmas.List.{length-append, length-map, map-append}
use Rattle.std.proofs.lemmas.Option.{none-some, same_Some, slice_get_within}
use Rattle.history_core.proofs.Places.{get_after, get_before, get_last}
use Rattle.history_core.proofs.Played.{later_operation}
use Rattle.history_core.specs.declared.history.Kind.{Kind}
use Rattle.history_core.specs.declared.history.Kind.TheVariants.{Read}
use Rattle.cell_contract.specs.declared.said.Said.{Said}
use Rattle.cell_contract.specs.declared.said.Found.{Found}
use Rattle.cell_contract.specs.Accesses.{KeepsEach, KeepsOthers}
use Rattle.cell_contract.specs.Plans.{Accesses, Doings, HasNoSteps, if_there as if_made, MayFind, MayReadEach, MayWriteEach}
use Rattle.cell_contract.specs.Plans.{ReadsSoFar}
use Rattle.cell_contract.specs.Plans.{WritesSoFar}
use Rattle.cell_contract.specs.Rows.{OneByOne}
use Rattle.cell_contract.specs.Rows.OneByOne.{no_call, one_more}
use Rattle.matrix_core.specs.Choices.{ChoosesByKind}
use Rattle.matrix_core.specs.Stamps.{greatest as greatest_stamped}
use Rattle.matrix_core.specs.Lines.{other}
use Rattle.matrix_core.proofs.orders.Listing.{get_map_back}
use Rattle.board_history.specs.Accesses.{IsInterval, ReadsOnce}
use Rattle.board_history.specs.BoardRuns.{Called, end_among, IsProcess, own_before}
use Rattle.board_history.specs.CutOff.{if_there, IsPart}
use Rattle.board_history.specs.RunsSoFar.{AreFirstOf, IsProcessSoFar}
use Rattle.board_history.proofs.cut_off.Calls.{column_begun, row_begun}
use Rattle.board_history.proofs.cut_off.Parts.{part_before}
use Rattle.board_history.proofs.Growing.{call_made, not_both, nothing_made}
use Rattle.board_live.specs.declared.record.Posted.{Posted}
use Rattle.board_live.specs.Plans.{answered_by, did_with, KeepsItsWord, MakesCalls, written_by}
use Rattle.board_live.specs.Records.{greatest_posted, stamped}
use Rattle.board_live.proofs.Accessing.{other_once, stays}
use Rattle.board_live.proofs.Records.{stamped_greatest}
use Rattle.board_live.proofs.Same.{same_process}
use Rattle.board_live.proofs.Words.{word_later, word_more, word_told}

same_time : (o : Option ℕ) → if_made o ≡ if_there o
same_time None = refl
same_time (Some t) = refl

-- an access among more steps, and the one that they begin
part_stays : (width : ℕ) (steps more : List ℕ) (access count : ℕ) (begins ends begins' ends' : List ℕ) → length steps ≡ count * width →
    access < count → 0 < width → IsPart width steps access begins ends begins' ends' →
    IsPart width (steps ++ more) access begins ends begins' ends'
part_stays width steps more access count begins ends begins' ends' long l some h =
    let room : access * width + width ≤ count * width = later_operation width access count l in
    record {
      begun = h.begun ∙ ap (λ o. begins ++ if_there o) (sym (get_before steps more (access * width) (omega arith)));
      ended = h.ended ∙ ap (λ o. ends ++ if_there o) (sym (get_before steps more (access * width + (width - 1)) (omega arith)));
    }

part_newest : (width : ℕ) (steps more : List ℕ) (count : ℕ) (begins ends begins' ends' : List ℕ) → length steps ≡ count * width →
    begins' ≡ begins ++ if_made (slice_get more 0) → ends' ≡ ends ++ if_made (slice_get more (width - 1)) →
    IsPart width (steps ++ more) count begins ends begins' ends'
part_newest width steps more count begins ends begins' ends' long b e = record {
  begun = b ∙ ap (λ z. begins ++ z) (same_time (slice_get more 0)) ∙ ap (λ o. begins ++ if_there o)
      (sym (ap (slice_get (steps ++ more)) (let z : count * width ≡ length steps + 0 = omega arith in z) ∙ get_after steps more 0));
  ended = e ∙ ap (λ z. ends ++ z) (same_time (slice_get more (width - 1))) ∙ ap (λ o. ends ++ if_there o)
      (sym (ap (slice_get (steps ++ more)) (let z : count * width + (width - 1) ≡ length steps + (width - 1) = omega arith in z)
      ∙ get_after steps more (width - 1)));
}

-- an access after other steps
part_shifted : (width : ℕ) (before steps : List ℕ) (count access : ℕ) (begins ends begins' ends' : List ℕ) →
    length before ≡ count * width → IsPart width steps access begins ends begins' ends' →
    IsPart width (before ++ steps) (count + access) begins ends begins' ends'
part_shifted width before steps count access begins ends begins' ends' long h =
    let at : (count + access) * width ≡ length before + access * width = add-mul count access width ∙ omega arith in
    record {
      begun = h.begun ∙ ap (λ o. begins ++ if_there o)
          (sym (ap (slice_get (before ++ steps)) at ∙ get_after before steps (access * width)));
      ended = h.ended ∙ ap (λ o. ends ++ if_there o)
          (sym (ap (slice_get (before ++ steps))
          (let e : (count + access) * width + (width - 1) ≡ length before + (access * width + (width - 1)) = omega arith in e)
          ∙ get_after before steps (access * width + (width - 1))));
    }

module _ {T : Type 0} (Added : List T → List T → Type 0) (width i : ℕ) where
  -- the first of the others were accessed in these steps, each once, and the others weren't
  pub record AreAccessed (count : ℕ) (steps : List ℕ) (old new : ℕ → Accesses T) : Type 0 where
    pub parts : (e : ℕ) → e < count → IsPart width steps e (old (other i e)).begins (old (other i e)).ends
        (new (other i e)).begins (new (other i e)).ends
    pub added : (e : ℕ) → e < count → Added (old (other i e)).items (new (other i e)).items
    pub rest : (e : ℕ) → count ≤ e → new (other i e) ≡ old (other i e)

  none_accessed : (old : ℕ → Accesses T) → AreAccessed 0 [] old old
  none_accessed old = record {
    parts = λ e l. absurd (omega arith);
    added = λ e l. absurd (omega arith);
    rest = λ e l. refl;
  }

  accessed_more : (count : ℕ) (steps more : List ℕ) (old now new : ℕ → Accesses T) → AreAccessed count steps old now →
      length steps ≡ count * width → 0 < width →
      (new (other i count)).begins ≡ (now (other i count)).begins ++ if_made (slice_get more 0) →
      (new (other i count)).ends ≡ (now (other i count)).ends ++ if_made (slice_get more (width - 1)) →
      Added (now (other i count)).items (new (other i count)).items → KeepsOthers (other i count) now new →
      AreAccessed (count + 1) (steps ++ more) old new
  accessed_more count steps more old now new h long some b e added others = record {
    parts = λ a l. elim (cases_lt a count) [
      | inl lt ↦
          let same : new (other i a) ≡ now (other i a) = others (other i a) (λ s. let z = other_once i a count s in omega arith) in
          subst (λ (z : Accesses T). IsPart width (steps ++ more) a (old (other i a)).begins (old (other i a)).ends z.begins z.ends)
          (sym same) (part_stays width steps more a count _ _ _ _ long lt some (h.parts a lt))
      | inr ge ↦
          let at : count ≡ a = omega arith in
          subst (λ z. IsPart width (steps ++ more) z (old (other i z)).begins (old (other i z)).ends
          (new (other i z)).begins (new (other i z)).ends) at
          (subst (λ (z : Accesses T). IsPart width (steps ++ more) count z.begins z.ends
          (new (other i count)).begins (new (other i count)).ends) (h.rest count (omega arith))
          (part_newest width steps more count _ _ _ _ long b e))
    ];
    added = λ a l. elim (cases_lt a count) [
      | inl lt ↦
          let same : new (other i a) ≡ now (other i a) = others (other i a) (λ s. let z = other_once i a count s in omega arith) in
          subst (λ (z : Accesses T). Added (old (other i a)).items z.items) (sym same) (h.added a lt)
      | inr ge ↦
          let at : count ≡ a = omega arith in
          subst (λ z. Added (old (other i z)).items (new (other i z)).items) at
          (subst (λ (z : Accesses T). Added z.items (new (other i count)).items) (h.rest count (omega arith)) added)
    ];
    rest = λ a l. others (other i a) (λ s. let z = other_once i a count s in omega arith) ∙ h.rest a (omega arith);
  }

  -- each access has come so far
  part_of : (count : ℕ) (steps : List ℕ) (old new : ℕ → Accesses T) → AreAccessed count steps old new → length steps ≤ count * width →
      (e : ℕ) → IsPart width steps e (old (other i e)).begins (old (other i e)).ends (new (other i e)).begins (new (other i e)).ends
  part_of count steps old new h few e = elim (cases_lt e count) [
    | inl lt ↦ h.parts e lt
    | inr ge ↦
        let room : count * width ≤ e * width = at_most_times count e width ge in
        part_before width steps e _ _ _ _ (omega arith) (ap (λ (z : Accesses T). z.begins) (h.rest e ge))
        (ap (λ (z : Accesses T). z.ends) (h.rest e ge))
  ]
    where
      at_most_times : (a b w : ℕ) → a ≤ b → a * w ≤ b * w
      at_most_times a b w l = omega (arith, mul-le-mul_right w l)

one_longer : (width count : ℕ) → count * width + width ≡ (count + 1) * width
one_longer width count = (let z : count * width + width ≡ count * width + 1 * width = omega arith in z) ∙ sym (add-mul count 1 width)

first_of : {A : Type 0} (xs ys zs : List A) → zs ≡ xs ++ ys → AreFirstOf xs zs
first_of xs ys zs e x a at = ap (λ ls. slice_get ls x) e ∙ get_before xs ys x (slice_get_within xs x a at) ∙ at

module _ {T : Type 0} (width i : ℕ) (some : 0 < width) where
  abbrev Grown : List T → List T → Type 0
  Grown xs ys = (more : List T) × (ys ≡ xs ++ more)

  abbrev GrownBy : T → List T → List T → Type 0
  GrownBy item xs ys = ys ≡ xs ++ item ∷ []

  -- so many of the others were read, in so many steps; or they were written to
  pub record ReadsOthers (count size : ℕ) (old new : Doings T) : Type 0 where
    pub steps : List ℕ
    pub long : length steps ≡ size
    pub times : new.times ≡ old.times ++ steps
    pub reads : AreAccessed Grown width i count steps old.reads new.reads
    pub writes : KeepsEach old.writes new.writes
    pub tags : (new.said ≡ old.said) × (new.found ≡ old.found)

  pub record WritesOthers (item : T) (count size : ℕ) (old new : Doings T) : Type 0 where
    pub steps : List ℕ
    pub long : length steps ≡ size
    pub times : new.times ≡ old.times ++ steps
    pub writes : AreAccessed (GrownBy item) width i count steps old.writes new.writes
    pub reads : KeepsEach old.reads new.reads
    pub tags : (new.said ≡ old.said) × (new.found ≡ old.found)

  reads_more : (count made : ℕ) (old now new : Doings T) → ReadsOthers count (count * width) old now →
      ReadsSoFar width made (other i count) now new → ReadsOthers (count + 1) (count * width + made) old new
  reads_more count made old now new r h = record {
    steps = r.steps ++ h.steps;
    long = length-append r.steps h.steps ∙ ap (λ m. m + length h.steps) r.long ∙ ap (λ m. count * width + m) h.long;
    times = h.times ∙ ap (λ ts. ts ++ h.steps) r.times ∙ append_assoc old.times r.steps h.steps;
    reads = accessed_more Grown width i count r.steps h.steps old.reads now.reads new.reads r.reads r.long some h.begins h.ends
        (h.answers, h.items) h.others.0;
    writes = λ j. h.others.1 j ∙ r.writes j;
    tags = (h.tags.0 ∙ r.tags.0, h.tags.1 ∙ r.tags.1);
  }

  pub reads_each : (old : Doings T) (count : ℕ) (now : Doings T) → OneByOne (ReadsSoFar width width) i old count now →
      ReadsOthers count (count * width) old now
  reads_each old _ _ no_call = record {
    steps = [];
    long = let z : 0 ≡ 0 * width = omega arith in z;
    times = sym (append-nil old.times);
    reads = none_accessed Grown width i old.reads;
    writes = λ j. refl;
    tags = (refl, refl);
  }
  reads_each old _ _ (one_more count now new r h) =
      subst (λ z. ReadsOthers (count + 1) z old new) (one_longer width count)
      (reads_more count width old now new (reads_each old count now r) h)

  pub reads_part : (count made : ℕ) (old now new : Doings T) → OneByOne (ReadsSoFar width width) i old count now →
      ReadsSoFar width made (other i count) now new → ReadsOthers (count + 1) (count * width + made) old new
  reads_part count made old now new r h = reads_more count made old now new (reads_each old count now r) h

  writes_more : (item : T) (count made : ℕ) (old now new : Doings T) → WritesOthers item count (count * width) old now →
      WritesSoFar width made item (other i count) now new → WritesOthers item (count + 1) (count * width + made) old new
  writes_more item count made old now new r h = record {
    steps = r.steps ++ h.steps;
    long = length-append r.steps h.steps ∙ ap (λ m. m + length h.steps) r.long ∙ ap (λ m. count * width + m) h.long;
    times = h.times ∙ ap (λ ts. ts ++ h.steps) r.times ∙ append_assoc old.times r.steps h.steps;
    writes = accessed_more (GrownBy item) width i count r.steps h.steps old.writes now.writes new.writes r.writes r.long some h.begins
        h.ends h.items h.others.0;
    reads = λ j. h.others.1 j ∙ r.reads j;
    tags = (h.tags.0 ∙ r.tags.0, h.tags.1 ∙ r.tags.1);
  }

  pub writes_each : (item : T) (old : Doings T) (count : ℕ) (now : Doings T) → OneByOne (WritesSoFar width width item) i old count now →
      WritesOthers item count (count * width) old now
  writes_each item old _ _ no_call = record {
    steps = [];
    long = let z : 0 ≡ 0 * width = omega arith in z;
    times = sym (append-nil old.times);
    writes = none_accessed (GrownBy item) width i old.writes;
    reads = λ j. refl;
    tags = (refl, refl);
  }
  writes_each item old _ _ (one_more count now new r h) =
      subst (λ z. WritesOthers item (count + 1) z old new) (one_longer width count)
      (writes_more item count width old now new (writes_each item old count now r) h)

  pub writes_part : (item : T) (count made : ℕ) (old now new : Doings T) → OneByOne (WritesSoFar width width item) i old count now →
      WritesSoFar width made item (other i count) now new → WritesOthers item (count + 1) (count * width + made) old new
  writes_part item count made old now new r h = writes_more item count made old now new (writes_each item old count now r) h

module _ {V : Type 0} (width n limit i : ℕ) (opening : Posted V) (two : 2 ≤ n) (some : 0 < width) where
  -- the steps of the accesses are those of a column at most
  at_most : (count made long : ℕ) → count + 1 < n → made ≤ width → long ≡ count * width + made → long ≤ (n - 1) * width
  at_most count made long l few e =
      let room : count * width + width ≤ (n - 1) * width = later_operation width count (n - 1) (omega arith) in omega arith

  within_next : (count made : ℕ) → made ≤ width → count * width + made ≤ (count + 1) * width
  within_next count made few = let e = one_longer width count in omega arith

  -- after any step of the column
  pub column_allowed : (calls : List (Called V)) (old : Doings (Posted V)) →
      ((numbers : ℕ → List ℕ) → IsProcess width n limit (stamped opening) i (did_with calls numbers old)) →
      KeepsItsWord width n i old.times calls old.said old.found → MayReadEach (MakesCalls opening width n limit i) width n i old
  column_allowed calls old process word count now l before made new begun few h =
      let r : ReadsOthers width i some (count + 1) (count * width + made) old new = reads_part width i some count made old now new before h
      in (
        calls,
        λ numbers. column_begun width n limit (stamped opening) i (did_with calls numbers old) (did_with calls numbers new) two some
            (process numbers) (record {
              calls = refl;
              steps = r.steps;
              few = at_most count made (length r.steps) l few r.long;
              times = r.times;
              reads = λ e le. part_of _ width i (count + 1) r.steps old.reads new.reads r.reads
                  (let a = r.long in let b = within_next count made few in omega arith) e;
              answered = λ e le. elim (cases_lt e (count + 1)) [
                | inl lt ↦
                    let x = r.reads.added e lt in
                    first_of (map stamped (old.reads (other i e)).items) (map stamped x.0) (map stamped (new.reads (other i e)).items)
                    (ap (map stamped) x.1 ∙ map-append stamped (old.reads (other i e)).items x.0)
                | inr ge ↦
                    first_of (map stamped (old.reads (other i e)).items) [] (map stamped (new.reads (other i e)).items)
                    (ap (λ (z : Accesses (Posted V)). map stamped z.items) (r.reads.rest e ge)
                    ∙ sym (append-nil (map stamped (old.reads (other i e)).items)))
              ];
              writes = λ e le. ap written_by (r.writes (other i e));
            }),
        subst (λ (z : List ℕ × List Said × List Found). KeepsItsWord width n i z.0 calls z.1 z.2)
            (λ j. (sym r.times j, sym r.tags.0 j, sym r.tags.1 j))
            (word_later width n i two some old.times r.steps calls (process (λ j. [])).long old.said old.found word),
      )

  -- after any step of the row: the column was made, and the record was chosen
  pub row_allowed : (calls : List (Called V)) (kind : Kind) (begin : ℕ) (seen own item : Posted V) (answers : List (Posted V))
      (steps : List ℕ) (old mid : Doings (Posted V)) →
      ((numbers : ℕ → List ℕ) → IsProcess width n limit (stamped opening) i (did_with calls numbers old)) →
      KeepsItsWord width n i old.times calls old.said old.found → length steps ≡ (n - 1) * width →
      mid.times ≡ old.times ++ steps → slice_get steps 0 ≡ Some begin → length answers + 1 ≡ n →
      ((e : ℕ) (answer : Posted V) → slice_get answers e ≡ Some answer →
      IsInterval width steps e (old.reads (other i e)).begins (old.reads (other i e)).ends (mid.reads (other i e)).begins
      (mid.reads (other i e)).ends × ((mid.reads (other i e)).items ≡ (old.reads (other i e)).items ++ answer ∷ [])) →
      KeepsEach old.writes mid.writes → (mid.said ≡ old.said) × (mid.found ≡ old.found) → seen ≡ greatest_posted own answers →
      stamped own ≡ own_before (stamped opening) calls (length calls) →
      ((place : ℕ) → ChoosesByKind limit (record { place = place; who = i; kind = kind; stamp = item.stamp; item = item.item })
      kind seen.stamp seen.item) →
      MayWriteEach (MakesCalls opening width n limit i) width n i item mid
  row_allowed calls kind begin seen own item answers steps old mid process word long times first each reads kept tags saw had chooses
      count now l before made new begun few h =
      let w : WritesOthers width i some item (count + 1) (count * width + made) mid new =
      writes_part width i some item count made mid now new before h in
      let call : Called V = record {
        begin = begin;
        end = 0;
        kind = kind;
        seen = stamped seen;
        chosen = stamped item;
        tells = true;
        finds = false;
      } in (
        calls ++ call ∷ [],
        λ numbers. row_begun width n limit (stamped opening) i (did_with calls numbers old) (did_with (calls ++ call ∷ []) numbers new) call
            two some (process numbers) (record {
              calls = refl;
              tells = refl;
              steps = steps ++ w.steps;
              enough = let e = length-append steps w.steps in omega arith;
              few =
                  let e = length-append steps w.steps in
                  let m = at_most count made (length w.steps) l few w.long in omega arith;
              times = w.times ∙ ap (λ ts. ts ++ w.steps) times ∙ append_assoc old.times steps w.steps;
              begun = get_before steps w.steps 0 (slice_get_within steps 0 begin first) ∙ first;
              answers = map stamped answers;
              each = ap (λ m. m + 1) (length-map answers stamped) ∙ each;
              reads = λ e answer there.
                  let x = get_map_back stamped answers e answer there in
                  let le : e < n - 1 = let a = slice_get_within answers e x.0 x.1 in let b = each in omega arith in
                  let y = reads e x.0 x.1 in
                  subst (λ (z : Accesses (Posted V)). ReadsOnce width (steps ++ w.steps) e
                  (answered_by (numbers (other i e)) (old.reads (other i e))) (answered_by (numbers (other i e)) z) answer)
                  (sym (w.reads (other i e)))
                  (record {
                    interval = stays width steps w.steps e (n - 1) _ _ _ _ long le some y.0;
                    items = ap (map stamped) y.1 ∙ map-append stamped (old.reads (other i e)).items (x.0 ∷ [])
                        ∙ ap (λ z. map stamped (old.reads (other i e)).items ++ z ∷ []) x.2;
                  });
              writes = λ e le.
                  let p = part_of _ width i (count + 1) w.steps mid.writes new.writes w.writes
                  (let a = w.long in let b = within_next count made few in omega arith) e in
                  part_shifted width steps w.steps (n - 1) e (old.writes (other i e)).begins (old.writes (other i e)).ends
                  (new.writes (other i e)).begins (new.writes (other i e)).ends long
                  (subst (λ (z : Accesses (Posted V)). IsPart width w.steps e z.begins z.ends (new.writes (other i e)).begins
                  (new.writes (other i e)).ends) (kept (other i e)) p);
              items = λ e le. elim (cases_lt e (count + 1)) [
                | inl lt ↦
                    let x : (new.writes (other i e)).items ≡ (old.writes (other i e)).items ++ item ∷ [] =
                    subst (λ (z : Accesses (Posted V)). (new.writes (other i e)).items ≡ z.items ++ item ∷ []) (kept (other i e))
                    (w.writes.added e lt) in
                    subst (AreFirstOf (map stamped (new.writes (other i e)).items))
                    (ap (map stamped) x ∙ map-append stamped (old.writes (other i e)).items (item ∷ [])) (λ x a at. at)
                | inr ge ↦
                    first_of (map stamped (new.writes (other i e)).items) (stamped item ∷ [])
                    (map stamped (old.writes (other i e)).items ++ stamped item ∷ [])
                    (ap (λ (z : Accesses (Posted V)). map stamped z.items ++ stamped item ∷ [])
                    (sym (w.writes.rest e ge ∙ kept (other i e))))
              ];
              sees = ap stamped saw ∙ stamped_greatest own answers ∙ ap (λ o. greatest_stamped o (map stamped answers)) had;
              chooses = chooses;
            }),
        subst (λ (z : List ℕ × List Said × List Found). KeepsItsWord width n i z.0 (calls ++ call ∷ []) z.1 z.2)
            (λ j. (
              sym (w.times ∙ ap (λ ts. ts ++ w.steps) times ∙ append_assoc old.times steps w.steps) j,
              sym (w.tags.0 ∙ tags.0) j,
              sym (w.tags.1 ∙ tags.1) j,
            ))
            (word_told width n i two some old.times (steps ++ w.steps) calls (process (λ j. [])).long call old.said old.found refl word),
      )

  -- calls that have all ended
  pub whole_so_far : (calls : List (Called V)) (numbers : ℕ → List ℕ) (done : Doings (Posted V)) →
      IsProcess width n limit (stamped opening) i (did_with calls numbers done) →
      IsProcessSoFar width n limit (stamped opening) i (did_with calls numbers done)
  whole_so_far calls numbers done process =
      column_begun width n limit (stamped opening) i (did_with calls numbers done) (did_with calls numbers done) two some process (record {
        calls = refl;
        steps = [];
        few = omega arith;
        times = sym (append-nil done.times);
        reads = λ e l. part_before width [] e _ _ _ _ (omega arith) refl refl;
        answered = λ e l x a at. at;
        writes = λ e l. refl;
      })

  -- after a look that finds the record told: the column was made, and the record was chosen by a read
  pub find_allowed : (calls : List (Called V)) (begin : ℕ) (own item : Posted V) (answers : List (Posted V))
      (steps : List ℕ) (old mid : Doings (Posted V)) →
      ((numbers : ℕ → List ℕ) → IsProcess width n limit (stamped opening) i (did_with calls numbers old)) →
      KeepsItsWord width n i old.times calls old.said old.found → length steps ≡ (n - 1) * width →
      mid.times ≡ old.times ++ steps → slice_get steps 0 ≡ Some begin → length answers + 1 ≡ n →
      ((e : ℕ) (answer : Posted V) → slice_get answers e ≡ Some answer →
      IsInterval width steps e (old.reads (other i e)).begins (old.reads (other i e)).ends (mid.reads (other i e)).begins
      (mid.reads (other i e)).ends × ((mid.reads (other i e)).items ≡ (old.reads (other i e)).items ++ answer ∷ [])) →
      KeepsEach old.writes mid.writes → (mid.said ≡ old.said) × (mid.found ≡ old.found) → item ≡ greatest_posted own answers →
      stamped own ≡ own_before (stamped opening) calls (length calls) →
      MayFind (MakesCalls opening width n limit i) item.stamp.writer item.stamp.tag mid
  find_allowed calls begin own item answers steps old mid process word long times first each reads kept tags saw had time =
      let call : Called V = record {
        begin = begin;
        end = time;
        kind = Read;
        seen = stamped item;
        chosen = stamped item;
        tells = false;
        finds = true;
      } in
      let one : Found = record { who = item.stamp.writer; tag = item.stamp.tag; time = time } in
      let next : Doings (Posted V) = record mid { times = mid.times ++ time ∷ []; found = mid.found ++ one ∷ [] } in
      let all : mid.times ++ time ∷ [] ≡ old.times ++ (steps ++ time ∷ []) = ap (λ ts. ts ++ time ∷ []) times
      ∙ append_assoc old.times steps (time ∷ []) in
      let more : length (steps ++ time ∷ []) ≡ (n - 1) * width + 1 = length-append steps (time ∷ []) ∙ ap (λ m. m + 1) long in
      let last : slice_get (steps ++ time ∷ []) ((n - 1) * width) ≡ Some time = get_last steps time ((n - 1) * width) (sym long) in
      let made : (numbers : ℕ → List ℕ) → IsProcess width n limit (stamped opening) i (did_with (calls ++ call ∷ []) numbers next) =
      λ numbers. call_made width n limit (stamped opening) i (did_with calls numbers old) (did_with (calls ++ call ∷ []) numbers next) call
      two some (process numbers) (record {
        calls = refl;
        steps = steps ++ time ∷ [];
        long = more;
        begun = get_before steps (time ∷ []) 0 (slice_get_within steps 0 begin first) ∙ first;
        ended = ap (slice_get (steps ++ time ∷ [])) (let z : (n - 1) * width + 1 - 1 ≡ (n - 1) * width = omega arith in z) ∙ last;
        times = all;
        answers = map stamped answers;
        each = ap (λ m. m + 1) (length-map answers stamped) ∙ each;
        reads = λ e answer there.
            let x = get_map_back stamped answers e answer there in
            let le : e < n - 1 = let a = slice_get_within answers e x.0 x.1 in let b = each in omega arith in
            let y = reads e x.0 x.1 in
            record {
              interval = stays width steps (time ∷ []) e (n - 1) _ _ _ _ long le some y.0;
              items = ap (map stamped) y.1 ∙ map-append stamped (old.reads (other i e)).items (x.0 ∷ [])
                  ∙ ap (λ z. map stamped (old.reads (other i e)).items ++ z ∷ []) x.2;
            };
        writes = λ e l t. absurd (not_both false t refl);
        unwritten = λ e l f. ap written_by (kept (other i e));
        silent = λ f g. absurd (not_both true refl g);
        sees = ap stamped saw ∙ stamped_greatest own answers ∙ ap (λ o. greatest_stamped o (map stamped answers)) had;
        chooses = λ place. (refl, refl);
      }) in
      let is_last : slice_get (calls ++ call ∷ []) (length calls) ≡ Some call = get_last calls call (length calls) refl in
      let word' : KeepsItsWord width n i (old.times ++ (steps ++ time ∷ [])) (calls ++ call ∷ []) (old.said ++ []) (old.found ++ one ∷ []) =
      word_more width n i two some old.times (steps ++ time ∷ []) calls (process (λ j. [])).long call old.said [] old.found (one ∷ []) word
      (λ x s e. absurd (none-some s e))
      (λ end t f g. (
        0,
        ap (λ (z : ℕ). Some (record { who = item.stamp.writer; tag = item.stamp.tag; time = z }))
            (same_Some time end (sym ((made (λ j. [])).ended (length calls) call is_last)
            ∙ ap (λ ts. end_among width n ts (calls ++ call ∷ []) (length calls) call) all ∙ g)),
      )) in (
        calls ++ call ∷ [],
        λ numbers. whole_so_far (calls ++ call ∷ []) numbers next (made numbers),
        subst (λ (z : List ℕ × List Said × List Found). KeepsItsWord width n i z.0 (calls ++ call ∷ []) z.1 z.2)
            (λ j. (sym all j, (append-nil old.said ∙ sym tags.0) j, ap (λ z. z ++ one ∷ []) (sym tags.1) j)) word',
      )

  -- a process that has made no step
  pub none_allowed : (done : Doings (Posted V)) → HasNoSteps done → MakesCalls opening width n limit i done
  none_allowed done none = (
    [],
    λ numbers. whole_so_far [] numbers done
        (same_process width n limit (stamped opening) i (did_with [] (λ j. []) done) (did_with [] numbers done) refl refl
        (λ e. record { items = refl; begins = refl; ends = refl }) (λ e. refl)
        (nothing_made width n limit (stamped opening) i (did_with [] (λ j. []) done) (record {
          times = none.times;
          calls = refl;
          reads = λ j. ap (answered_by []) (none.reads j);
          writes = λ j. ap written_by (none.writes j);
        }))),
    record {
      says = λ x s e. absurd (none-some s (ap (λ z. slice_get z x) (sym none.tags.0) ∙ e));
      finds = λ k end c e. absurd (none-some c e);
    },
  )
