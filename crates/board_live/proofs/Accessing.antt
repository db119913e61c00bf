-- One access more of a call: it is the last of its steps, and those before keep their places.
use Rattle.std.proofs.Common.{◌≡◌, Bool, true, false, ℕ, zero, suc, ◌+◌, ◌-◌, ◌*◌, ◌<◌, ◌≤◌, List, [], ◌∷◌, ◌++◌, length, slice_get, Some}
use Rattle.std.proofs.Common.{refl, sym, ◌∙◌, ap, subst, arith, inl, inr, append_assoc, append-nil, add-mul}
use Rattle.std.specs.Prelude.{IsTrue}
use Rattle.std.proofs.lemmas.Bool.{cases_lt}
use Rattle.std.proofs.lemmas.List.{length_push, length-append}
use Rattle.std.proofs.lemmas.List.Sums.{fold-append}
use Rattle.std.proofs.lemmas.Option.{none-some, same_Some, slice_get_within}
use Rattle.history_core.proofs.Places.{get_after, get_before, get_pushed_cases}
use Rattle.history_core.proofs.Played.{later_operation}
use Rattle.cell_contract.specs.declared.said.Said.{Said}
use Rattle.cell_contract.specs.declared.said.Found.{Found}
use Rattle.cell_contract.specs.Plans.{Doings, doings}
use Rattle.cell_contract.specs.declared.times.Times.{Times}
use Rattle.cell_contract.specs.Running.{last_or}
use Rattle.cell_contract.specs.declared.family.Family.{Ghosts as FamilyWords}
use Rattle.cell_contract.specs.Accesses.{IsAccess, IsWriteAccess, KeepsEach, KeepsOthers, ReadAccesses, RisesAfter as Later, WriteAccesses}
use Rattle.cell_contract.specs.Rows.{OneByOne, IsReadFrom, IsWriteTo, SeesNew}
use Rattle.cell_contract.specs.Rows.OneByOne.{no_call, one_more}
use Rattle.matrix_core.specs.Choices.{IsAtMost}
use Rattle.matrix_core.specs.Lines.{other}
use Rattle.matrix_core.proofs.choices.Stamps.{at_most_trans}
use Rattle.matrix_core.proofs.lines.Others.{other_above, other_below}
use Rattle.board_history.specs.Accesses.{IsInterval}
use Rattle.board_history.proofs.Growing.{not_both}
use Rattle.board_live.specs.declared.record.Posted.{Posted}
use Rattle.board_live.specs.inner.Calls.{LooksForTag, HasReadColumn, HasRow, HasWrittenRow, IsIntervalOf, IsOf, IsStretch, KeepsTags}
use Rattle.board_live.specs.Passes.{IsFurtherAnswer}
use Rattle.board_live.specs.Records.{greater, Rises, rises_on}
use Rattle.board_live.proofs.Records.{greater_either, not_above, risen, rises_at_most, rises_greater}

pub other_once : (i e r : ℕ) → other i e ≡ other i r → e ≡ r
other_once i e r h = elim (cases_lt e i) [
  | inl le ↦ elim (cases_lt r i) [
    | inl lr ↦ sym (other_below i e le) ∙ h ∙ other_below i r lr
    | inr ge ↦ let a = other_below i e le in let b = other_above i r ge in absurd (omega arith)
  ]
  | inr ge ↦ elim (cases_lt r i) [
    | inl lr ↦ let a = other_above i e ge in let b = other_below i r lr in absurd (omega arith)
    | inr gr ↦ let a = other_above i e ge in let b = other_above i r gr in omega arith
  ]
]

-- an access among more steps
pub stays : (width : ℕ) (steps more : List ℕ) (access count : ℕ) (begins ends begins' ends' : List ℕ) → length steps ≡ count * width →
    access < count → 0 < width → IsInterval width steps access begins ends begins' ends' →
    IsInterval width (steps ++ more) access begins ends begins' ends'
stays width steps more access count begins ends begins' ends' long l some h =
    let room : access * width + width ≤ count * width = later_operation width access count l in
    record {
      begin = h.begin;
      end = h.end;
      first = get_before steps more (access * width) (omega arith) ∙ h.first;
      last = get_before steps more (access * width + (width - 1)) (omega arith) ∙ h.last;
      begun = h.begun;
      ended = h.ended;
    }

-- the access that was just made
newest : (width clock clock' : ℕ) (times times' steps : List ℕ) (old new : Times) (count : ℕ) → length steps ≡ count * width →
    (h : IsAccess width clock clock' times times' old new) →
    IsInterval width (steps ++ h.steps) count old.begins old.ends new.begins new.ends
newest width clock clock' times times' steps old new count long h = record {
  begin = h.first;
  end = clock';
  first = ap (slice_get (steps ++ h.steps)) (let e : count * width ≡ length steps + 0 = omega arith in e) ∙ get_after steps h.steps 0
      ∙ h.first_is;
  last = ap (slice_get (steps ++ h.steps)) (let e : count * width + (width - 1) ≡ length steps + (width - 1) = omega arith in e)
      ∙ get_after steps h.steps (width - 1) ∙ h.last_is;
  begun = h.begins;
  ended = h.ends;
}

longer : (width count : ℕ) (steps more : List ℕ) → length steps ≡ count * width → length more ≡ width →
    length (steps ++ more) ≡ (count + 1) * width
longer width count steps more a b = length-append steps more
    ∙ (let z : length steps + length more ≡ count * width + 1 * width = omega arith in z) ∙ sym (add-mul count 1 width)

some_steps : (width clock clock' : ℕ) (times times' : List ℕ) (old new : Times) → IsAccess width clock clock' times times' old new →
    0 < width
some_steps width clock clock' times times' old new h = let l = slice_get_within h.steps 0 h.first h.first_is in let e = h.long in
    omega arith

-- steps that rise, and their last
rises_above : (clock : ℕ) (steps : List ℕ) (k b : ℕ) → Later clock steps → slice_get steps k ≡ Some b → clock < b
rises_above clock [] k b h e = absurd (none-some b e)
rises_above clock (t ∷ ts) zero b h e = let z : t ≡ b = same_Some t b e in let l = h.0 in omega arith
rises_above clock (t ∷ ts) (suc k) b h e = let l = h.0 in let m : t < b = rises_above t ts k b h.1 e in omega arith

rises_from : (clock : ℕ) (steps : List ℕ) (k a b : ℕ) → Later clock steps → slice_get steps 0 ≡ Some a → slice_get steps k ≡ Some b →
    (clock < a) × (a ≤ b)
rises_from clock [] k a b h e f = absurd (none-some a e)
rises_from clock (t ∷ ts) zero a b h e f =
    let y : t ≡ a = same_Some t a e in let z : t ≡ b = same_Some t b f in let l = h.0 in (omega arith, omega arith)
rises_from clock (t ∷ ts) (suc k) a b h e f =
    let y : t ≡ a = same_Some t a e in
    let l = h.0 in
    let m : t < b = rises_above t ts k b h.1 f in
    (omega arith, omega arith)

access_span : (width clock clock' : ℕ) (times times' : List ℕ) (old new : Times) → (h : IsAccess width clock clock' times times' old new) →
    IsStretch clock clock' h.steps
access_span width clock clock' times times' old new h =
    let r = rises_from clock h.steps (width - 1) h.first clock' h.rising h.first_is h.last_is in
    inr (h.first, h.first_is, r.0, r.1, subst (λ m. slice_get h.steps (m - 1) ≡ Some clock') (sym h.long) h.last_is)

-- steps after steps
pub span_on : (a b c : ℕ) (steps more : List ℕ) → IsStretch a b steps → IsStretch b c more → IsStretch a c (steps ++ more)
span_on a b c steps more (inl x) (inl y) =
    inl (ap (λ z. z ++ more) x.0 ∙ y.0, y.1 ∙ x.1)
span_on a b c steps more (inl x) (inr y) =
    subst (λ z. IsStretch z c (steps ++ more)) x.1 (subst (λ z. IsStretch b c (z ++ more)) (sym x.0) (inr y))
span_on a b c steps more (inr x) (inl y) =
    subst (λ z. IsStretch a z (steps ++ more)) (sym y.1)
    (subst (λ z. IsStretch a b (steps ++ z)) (sym y.0) (subst (IsStretch a b) (sym (append-nil steps)) (inr x)))
span_on a b c steps more (inr x) (inr y) =
    let n = slice_get_within steps 0 x.0 x.1 in
    let m = slice_get_within more 0 y.0 y.1 in
    let l = x.3 in
    let k = y.2 in
    let j = y.3 in
    inr (
      x.0,
      get_before steps more 0 n ∙ x.1,
      x.2,
      omega arith,
      ap (slice_get (steps ++ more)) (let e : length (steps ++ more) ≡ length steps + length more = length-append steps more in
          let z : length (steps ++ more) - 1 ≡ length steps + (length more - 1) = omega arith in z)
          ∙ get_after steps more (length more - 1) ∙ y.4,
    )

module _ {V F S T : Type 0} (words : FamilyWords F (Posted V) S T) where
  pub nothing_read : (obeys : V → Bool) (family : F) (process : ℕ) (seat : S) (seen : Posted V) → words.is_seat family seat →
      IsTrue (obeys seen.item) → HasReadColumn words obeys family process 0 seat seat seen seen
  nothing_read obeys family process seat seen is lawful = record {
    of = (is, refl);
    steps = [];
    long = let z : 0 ≡ 0 * words.width = omega arith in z;
    times = sym (append-nil (words.times seat));
    span = inl (refl, refl);
    answers = [];
    each = refl;
    reads = λ e answer there. absurd (none-some answer there);
    unread = λ e l. refl;
    writes = λ j. refl;
    sees = refl;
    lawful = lawful;
    rises = inr (refl, refl);
    tags = (refl, refl);
  }

  -- a read of one process, as the family has it
  abbrev IsReadOf : (V → Bool) → F → ℕ → S × Posted V → S × Posted V → Type 0
  IsReadOf obeys family = IsReadFrom (words.is_seat family) words.who words.clock words.times words.writes words.reads words.said
      words.found words.width (words.opening family) (λ p. IsTrue (obeys p.item)) Rises (SeesNew (λ old item new. new ≡ greater old item))

  -- the record isn't below the last answer of this other process
  abbrev pub IsNewest : F → ℕ → S → Posted V → ℕ → Type 0
  IsNewest family process seat own e =
      IsAtMost (last_or (words.opening family) (words.reads seat (other process e)).answers).stamp own.stamp

  pub read_more : (obeys : V → Bool) (family : F) (process count : ℕ) (start now next : S) (own seen seen' : Posted V) →
      HasReadColumn words obeys family process count start now own seen → IsNewest family process start own count →
      IsReadOf obeys family (other process count) (now, seen) (next, seen') →
      HasReadColumn words obeys family process (count + 1) start next own seen'
  read_more obeys family process count start now next own seen seen' r above h = record {
    of = (h.own.0, h.own.1 ∙ r.of.1);
    steps = r.steps ++ h.access.steps;
    long = longer words.width count r.steps h.access.steps r.long h.access.long;
    times = h.access.made ∙ ap (λ ts. ts ++ h.access.steps) r.times ∙ append_assoc (words.times start) r.steps h.access.steps;
    span = span_on (words.clock start) (words.clock now) (words.clock next) r.steps h.access.steps r.span
        (access_span words.width (words.clock now) (words.clock next) (words.times now) (words.times next)
        (words.reads now (other process count)).times (words.reads next (other process count)).times h.access);
    answers = r.answers ++ h.answer ∷ [];
    each = length_push r.answers h.answer ∙ ap (λ m. m + 1) r.each;
    reads = λ e answer there. elim (get_pushed_cases r.answers h.answer e answer there) [
      | inl was ↦
          let l : e < count = let a = slice_get_within r.answers e answer was in let b = r.each in omega arith in
          let x = r.reads e answer was in
          subst (λ (z : ReadAccesses (Posted V)). IsIntervalOf words.width (r.steps ++ h.access.steps) e
          (words.reads start (other process e)).times z.times
          × IsFurtherAnswer obeys (words.opening family) (words.reads start (other process e)) z answer)
          (sym (h.others.0 (other process e) (λ s. let z = other_once process e count s in omega arith)))
          (stays words.width r.steps h.access.steps e count _ _ _ _ r.long l some x.0, x.1)
      | inr new ↦
          let at : e ≡ count = new.0 ∙ r.each in
          subst (λ z. IsIntervalOf words.width (r.steps ++ h.access.steps) z (words.reads start (other process z)).times
          (words.reads next (other process z)).times
          × IsFurtherAnswer obeys (words.opening family) (words.reads start (other process z)) (words.reads next (other process z)) answer)
          (sym at)
          (subst (λ (z : ReadAccesses (Posted V)). IsIntervalOf words.width (r.steps ++ h.access.steps) count z.times
          (words.reads next (other process count)).times
          × IsFurtherAnswer obeys (words.opening family) z (words.reads next (other process count)) answer) (r.unread count (omega arith)) (
            newest words.width (words.clock now) (words.clock next) (words.times now) (words.times next) r.steps
                (words.reads now (other process count)).times (words.reads next (other process count)).times count r.long h.access,
            subst (IsFurtherAnswer obeys (words.opening family) (words.reads now (other process count))
                (words.reads next (other process count))) new.1
                (record { read = h.read; running = h.may }),
          ))
    ];
    unread = λ e l. h.others.0 (other process e) (λ s. let z = other_once process e count s in omega arith) ∙ r.unread e (omega arith);
    writes = λ j. h.others.1 j ∙ r.writes j;
    sees = saw ∙ ap (λ z. greater z h.answer) r.sees ∙ sym (fold-append greater own r.answers (h.answer ∷ []));
    lawful = subst (λ z. IsTrue (obeys z.item)) (sym saw) (greater_either obeys seen h.answer r.lawful h.may.0);
    rises = subst (λ z. Rises own z) (sym saw) (rises_on own seen (greater seen h.answer) r.rises (rises_greater seen h.answer));
    tags = (h.tags.0 ∙ r.tags.0, h.tags.1 ∙ r.tags.1);
  }
    where
      some : 0 < words.width
      some = some_steps words.width (words.clock now) (words.clock next) (words.times now) (words.times next)
          (words.reads now (other process count)).times (words.reads next (other process count)).times h.access

      last : Posted V
      last = last_or (words.opening family) (words.reads now (other process count)).answers

      below : IsAtMost last.stamp seen.stamp
      below = at_most_trans last.stamp own.stamp seen.stamp
          (subst (λ z. IsAtMost (last_or (words.opening family) z.answers).stamp own.stamp) (sym (r.unread count (omega arith))) above)
          (rises_at_most own seen r.rises)

      -- what was left out is no greater
      saw : seen' ≡ greater seen h.answer
      saw = elim h.saw [
        | inl sees ↦ sees
        | inr same ↦ same.0 ∙ sym (not_above seen h.answer (subst (λ z. IsAtMost z.stamp seen.stamp) (sym same.1) below))
      ]

  -- a column of the family is one of the board
  pub column_read : (obeys : V → Bool) (family : F) (process : ℕ) (start : S) (own : Posted V) → words.is_seat family start →
      IsTrue (obeys own.item) → (count : ℕ) (now : S × Posted V) → ((e : ℕ) → e < count → IsNewest family process start own e) →
      OneByOne (IsReadOf obeys family) process (start, own) count now →
      HasReadColumn words obeys family process count start now.0 own now.1
  column_read obeys family process start own is lawful _ _ above no_call = nothing_read obeys family process start own is lawful
  column_read obeys family process start own is lawful _ _ above (one_more count now new r call) =
      read_more obeys family process count start now.0 new.0
      own now.1 new.1 (column_read obeys family process start own is lawful count now (λ e l. above e (omega arith)) r)
      (above count (omega arith)) call

  last_of : (first : Posted V) (items : List (Posted V)) (item : Posted V) → last_or first (items ++ item ∷ []) ≡ item
  last_of first [] item = refl
  last_of first (x ∷ items) item = last_of x items item

  pub nothing_written : (family : F) (process : ℕ) (seat : S) (item : Posted V) → words.is_seat family seat →
      HasWrittenRow words family process 0 seat seat item
  nothing_written family process seat item is = record {
    of = (is, refl);
    steps = [];
    long = let z : 0 ≡ 0 * words.width = omega arith in z;
    times = sym (append-nil (words.times seat));
    span = inl (refl, refl);
    writes = λ e l. absurd (omega arith);
    unwritten = λ e l. refl;
    last = λ e first l. absurd (omega arith);
    reads = λ j. refl;
    tags = (refl, refl);
  }

  pub write_more : (family : F) (process count : ℕ) (start now next : S) (item : Posted V) →
      HasWrittenRow words family process count start now item → words.is_seat family next × (words.who next ≡ words.who now) →
      IsAccess words.width (words.clock now) (words.clock next) (words.times now) (words.times next)
      (words.writes now (other process count)).times (words.writes next (other process count)).times →
      IsWriteAccess (words.writes now (other process count)) (words.writes next (other process count)) item →
      KeepsOthers (other process count) (words.writes now) (words.writes next) × KeepsEach (words.reads now) (words.reads next) →
      KeepsTags words now next → HasWrittenRow words family process (count + 1) start next item
  write_more family process count start now next item r of access more others tags = record {
    of = (of.0, of.1 ∙ r.of.1);
    steps = r.steps ++ access.steps;
    long = longer words.width count r.steps access.steps r.long access.long;
    times = access.made ∙ ap (λ ts. ts ++ access.steps) r.times ∙ append_assoc (words.times start) r.steps access.steps;
    span = span_on (words.clock start) (words.clock now) (words.clock next) r.steps access.steps r.span
        (access_span words.width (words.clock now) (words.clock next) (words.times now) (words.times next)
        (words.writes now (other process count)).times (words.writes next (other process count)).times access);
    writes = λ e l. elim (cases_lt e count) [
      | inl lt ↦
          let x = r.writes e lt in
          subst (λ (z : WriteAccesses (Posted V)). IsIntervalOf words.width (r.steps ++ access.steps) e
          (words.writes start (other process e)).times z.times
          × IsWriteAccess (words.writes start (other process e)) z item)
          (sym (others.0 (other process e) (λ s. let z = other_once process e count s in omega arith)))
          (stays words.width r.steps access.steps e count _ _ _ _ r.long lt some x.0, x.1)
      | inr ge ↦
          let at : e ≡ count = omega arith in
          subst (λ z. IsIntervalOf words.width (r.steps ++ access.steps) z (words.writes start (other process z)).times
          (words.writes next (other process z)).times
          × IsWriteAccess (words.writes start (other process z)) (words.writes next (other process z)) item)
          (sym at)
          (subst (λ (z : WriteAccesses (Posted V)). IsIntervalOf words.width (r.steps ++ access.steps) count z.times
          (words.writes next (other process count)).times × IsWriteAccess z (words.writes next (other process count)) item)
          (r.unwritten count (omega arith)) (
            newest words.width (words.clock now) (words.clock next) (words.times now) (words.times next) r.steps
                (words.writes now (other process count)).times (words.writes next (other process count)).times count r.long access,
            more,
          ))
    ];
    unwritten = λ e l. others.0 (other process e) (λ s. let z = other_once process e count s in omega arith) ∙ r.unwritten e (omega arith);
    last = λ e first l. elim (cases_lt e count) [
      | inl lt ↦ ap (λ w. last_or first w.items) (others.0 (other process e) (λ s. let z = other_once process e count s in omega arith))
          ∙ r.last e first lt
      | inr ge ↦
          let at : e ≡ count = omega arith in
          ap (λ z. last_or first (words.writes next (other process z)).items) at ∙ ap (last_or first) more.items
          ∙ last_of first (words.writes now (other process count)).items item
    ];
    reads = λ j. others.1 j ∙ r.reads j;
    tags = (tags.0 ∙ r.tags.0, tags.1 ∙ r.tags.1);
  }
    where
      some : 0 < words.width
      some = some_steps words.width (words.clock now) (words.clock next) (words.times now) (words.times next)
          (words.writes now (other process count)).times (words.writes next (other process count)).times access

  -- a row of the family is one of the board
  pub row_written : (family : F) (process : ℕ) (start : S) (item : Posted V) → words.is_seat family start → (count : ℕ) (now : S) →
      OneByOne (IsWriteTo (words.is_seat family) words.who words.clock words.times words.writes words.reads words.said words.found
      words.width item) process start count now → HasWrittenRow words family process count start now item
  row_written family process start item is _ _ no_call = nothing_written family process start item is
  row_written family process start item is _ _ (one_more count now new r call) = write_more family process count start now new item
      (row_written family process start item is count now r) call.own call.access call.written call.others
      call.tags

  -- where nobody looked, nothing was found
  pub not_looked : (family : F) (seat : S) (item : Posted V) → words.is_seat family seat → LooksForTag words family seat seat item false
  not_looked family seat item is = record {
    of = (is, refl);
    finds = λ e. absurd (not_both false e refl);
    unfound = λ e. (refl, refl, refl);
    said = refl;
    calls = (λ j. refl, λ j. refl);
  }

  -- a look that found nothing leaves all as it was
  pub of_still : (family : F) (processes process : ℕ) (seat seat' : S) → IsOf words family processes process seat →
      words.is_seat family seat' × (words.who seat' ≡ words.who seat) → IsOf words family processes process seat'
  of_still family processes process seat seat' of same = record {
    size = of.size;
    all = of.all;
    inside = of.inside;
    seat = same.0;
    who = same.1 ∙ of.who;
  }

  pub done_still : (family : F) (seat seat' : S) (item : Posted V) (found : Bool) → LooksForTag words family seat seat' item found →
      found ≡ false → (P : Doings (Posted V) → ℕ → Type 0) →
      P (doings (words.times seat) (words.writes seat) (words.reads seat) (words.said seat) (words.found seat)) (words.who seat) →
      P (doings (words.times seat') (words.writes seat') (words.reads seat') (words.said seat') (words.found seat')) (words.who seat')
  done_still family seat seat' item found look is P h =
      let same = look.unfound is in
      subst (λ (z : List ℕ × (ℕ → WriteAccesses (Posted V)) × (ℕ → ReadAccesses (Posted V)) × List Said × List Found × ℕ).
      P (doings z.0 z.1 z.2 z.3 z.4) z.5)
      (λ k. (sym same.1 k, λ j. sym (look.calls.0 j) k, λ j. sym (look.calls.1 j) k, sym look.said k, sym same.2 k, sym look.of.1 k)) h

  -- a row that was written, and its tag may then have been said
  pub row_told : (family : F) (process count : ℕ) (seat mid : S) (own item : Posted V) (told : Bool) →
      HasWrittenRow words family process count seat mid item →
      (w : HasRow words family process count seat mid own item told true) × (w.tells ≡ true)
  row_told family process count seat mid own item told w = (
    record {
      of = w.of;
      tells = true;
      finds = false;
      steps = w.steps;
      long = w.long;
      times = w.times;
      span = w.span;
      writes = λ t e l. w.writes e l;
      unwritten = λ f. absurd (not_both true refl f);
      silent = λ f. absurd (not_both true refl f);
      last = λ t e first l. w.last e first l;
      reads = w.reads;
      now_told = λ t. refl;
      untold = λ f. absurd (not_both true refl f);
      says = [];
      said = w.tags.0 ∙ sym (append-nil (words.said seat));
      truly = λ x s e. absurd (none-some s e);
      found = w.tags.1 ∙ sym (append-nil (words.found seat));
    },
    refl,
  )

  pub row_said : (family : F) (process count : ℕ) (seat mid seat' : S) (own item : Posted V) (told : Bool) →
      HasWrittenRow words family process count seat mid item → item.stamp.writer ≡ process →
      words.is_seat family seat' × (words.who seat' ≡ words.who mid) →
      words.said seat' ≡ words.said mid ++ record { tag = item.stamp.tag; time = words.clock mid } ∷ [] →
      (words.clock seat' ≡ words.clock mid) × (words.times seat' ≡ words.times mid) × (words.found seat' ≡ words.found mid) →
      KeepsEach (words.writes mid) (words.writes seat') × KeepsEach (words.reads mid) (words.reads seat') →
      HasRow words family process count seat seat' own item told true
  row_said family process count seat mid seat' own item told w writer of said same calls = record {
    of = (of.0, of.1 ∙ w.of.1);
    tells = true;
    finds = false;
    steps = w.steps;
    long = w.long;
    times = same.1 ∙ w.times;
    span = subst (λ z. IsStretch (words.clock seat) z w.steps) (sym same.0) w.span;
    writes = λ t e l. subst (λ (z : WriteAccesses (Posted V)). IsIntervalOf words.width w.steps e
        (words.writes seat (other process e)).times z.times × IsWriteAccess (words.writes seat (other process e)) z item)
        (sym (calls.0 (other process e))) (w.writes e l);
    unwritten = λ f. absurd (not_both true refl f);
    silent = λ f. absurd (not_both true refl f);
    last = λ t e first l. ap (λ (z : WriteAccesses (Posted V)). last_or first z.items) (calls.0 (other process e)) ∙ w.last e first l;
    reads = λ j. calls.1 j ∙ w.reads j;
    now_told = λ t. refl;
    untold = λ f. absurd (not_both true refl f);
    says = record { tag = item.stamp.tag; time = words.clock mid } ∷ [];
    said = said ∙ ap (λ z. z ++ record { tag = item.stamp.tag; time = words.clock mid } ∷ []) w.tags.0;
    truly = λ x s e. truly x s e;
    found = same.2 ∙ w.tags.1 ∙ sym (append-nil (words.found seat));
  }
    where
      truly : (x : ℕ) (s : Said) → slice_get (record { tag = item.stamp.tag; time = words.clock mid } ∷ []) x ≡ Some s →
          (true ≡ true) × (item.stamp.writer ≡ process) × (s.tag ≡ item.stamp.tag) × (s.time ≡ words.clock seat')
      truly zero s e =
          let is : record { tag = item.stamp.tag; time = words.clock mid } ≡ s = same_Some _ s e in
          (refl, writer, ap (λ (z : Said). z.tag) (sym is), ap (λ (z : Said). z.time) (sym is) ∙ sym same.0)
      truly (suc x) s e = absurd (none-some s e)

  -- no row, since the own record is seen again
  pub row_kept : (family : F) (process count : ℕ) (seat : S) (own item : Posted V) (told : Bool) → words.is_seat family seat →
      Rises own item → own.stamp ≡ item.stamp → HasRow words family process count seat seat own item told told
  row_kept family process count seat own item told is rises test = record {
    of = (is, refl);
    tells = false;
    finds = false;
    steps = [];
    long = refl;
    times = sym (append-nil (words.times seat));
    span = inl (refl, refl);
    writes = λ t. absurd (not_both false t refl);
    unwritten = λ f j. refl;
    silent = λ f g. (risen own item rises test, refl);
    last = λ t. absurd (not_both false t refl);
    reads = λ j. refl;
    now_told = λ t. absurd (not_both false t refl);
    untold = λ f g. absurd (not_both false g refl);
    says = [];
    said = sym (append-nil (words.said seat));
    truly = λ x s e. absurd (none-some s e);
    found = sym (append-nil (words.found seat));
  }

  -- nor where it was found to be told
  pub row_found : (family : F) (process count : ℕ) (seat seat' : S) (own item : Posted V) (told found : Bool) →
      LooksForTag words family seat seat' item found → found ≡ true → HasRow words family process count seat seat' own item told false
  row_found family process count seat seat' own item told found look is =
      let h = look.finds is in
      record {
        of = look.of;
        tells = false;
        finds = true;
        steps = words.clock seat' ∷ [];
        long = refl;
        times = h.1;
        span = inr (words.clock seat', refl, h.0, at_most_itself (words.clock seat'), refl);
        writes = λ t. absurd (not_both false t refl);
        unwritten = λ f j. look.calls.0 j;
        silent = λ f g. absurd (not_both true refl g);
        last = λ t. absurd (not_both false t refl);
        reads = λ j. look.calls.1 j;
        now_told = λ t. absurd (not_both false t refl);
        untold = λ f g. refl;
        says = [];
        said = look.said ∙ sym (append-nil (words.said seat));
        truly = λ x s e. absurd (none-some s e);
        found = h.2;
      }
    where
      at_most_itself : (a : ℕ) → a ≤ a
      at_most_itself a = omega arith

  -- a row behind a look that found nothing
  pub row_after : (family : F) (process count : ℕ) (seat mid seat' : S) (item : Posted V) (found : Bool) →
      LooksForTag words family seat mid item found → found ≡ false → HasWrittenRow words family process count mid seat' item →
      HasWrittenRow words family process count seat seat' item
  row_after family process count seat mid seat' item found look is w =
      let same = look.unfound is in
      record {
        of = (w.of.0, w.of.1 ∙ look.of.1);
        steps = w.steps;
        long = w.long;
        times = w.times ∙ ap (λ ts. ts ++ w.steps) same.1;
        span = subst (λ z. IsStretch z (words.clock seat') w.steps) same.0 w.span;
        writes = λ e l. subst (λ (z : WriteAccesses (Posted V)). IsIntervalOf words.width w.steps e z.times
            (words.writes seat' (other process e)).times × IsWriteAccess z (words.writes seat' (other process e)) item)
            (look.calls.0 (other process e)) (w.writes e l);
        unwritten = λ e l. w.unwritten e l ∙ look.calls.0 (other process e);
        last = w.last;
        reads = λ j. w.reads j ∙ look.calls.1 j;
        tags = (w.tags.0 ∙ look.said, w.tags.1 ∙ same.2);
      }
