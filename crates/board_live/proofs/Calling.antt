-- A whole call: its reads and then its writes are the steps of one call more.
use Rattle.std.proofs.Common.{◌≡◌, ◌≢◌, Bool, true, false, ℕ, zero, suc, ◌+◌, ◌-◌, ◌*◌, ◌<◌, ◌≤◌, List, [], ◌∷◌, ◌++◌, length, map}
use Rattle.std.proofs.Common.{slice_get, Some}
use Rattle.std.proofs.Common.{refl, sym, ◌∙◌, ap, subst, arith, inl, inr, append-nil, append_assoc, add-mul}
use Rattle.std.specs.Prelude.{All, IsTrue, if◌then◌else◌}
use Rattle.std.proofs.lemmas.Bool.{cases_Bool}
use Rattle.std.proofs.lemmas.List.{length-append, length-map, map-append}
use Rattle.std.proofs.lemmas.List.Elements.{All-weaker}
use Rattle.std.proofs.lemmas.Option.{same_Some, slice_get_within}
use Rattle.history_core.specs.declared.history.Kind.{Kind}
use Rattle.history_core.proofs.Places.{get_after, get_before, get_last}
use Rattle.cell_contract.specs.Intervals.{AreFirst, AreHeeded, IsHeeded}
use Rattle.cell_contract.specs.Running.{last_or}
use Rattle.cell_contract.proofs.ListLaws.{last_snoc}
use Rattle.cell_contract.specs.declared.family.Family.{Ghosts as FamilyWords}
use Rattle.cell_contract.specs.declared.said.Said.{Said}
use Rattle.cell_contract.specs.declared.said.Found.{Found}
use Rattle.cell_contract.specs.Accesses.{IsWriteAccess, WriteAccesses}
use Rattle.cell_contract.specs.Plans.{Doings, doings, MaySay}
use Rattle.matrix_core.specs.declared.stamp.Stamped.{Stamped}
use Rattle.matrix_core.specs.Choices.{ChoosesByKind, IsAtMost}
use Rattle.matrix_core.proofs.choices.Stamps.{at_most_trans}
use Rattle.matrix_core.specs.Stamps.{greatest as greatest_stamped}
use Rattle.matrix_core.specs.Lines.{other}
use Rattle.matrix_core.proofs.lines.Others.{other_differs, other_inside, other_reached}
use Rattle.matrix_core.proofs.lists.Elements.{get_exists}
use Rattle.matrix_core.proofs.orders.Listing.{get_map_back}
use Rattle.board_history.specs.Accesses.{IsInterval, ReadsOnce, WritesOnce}
use Rattle.board_history.specs.BoardRuns.{Called, end_among, IsProcess, own_before, steps_of_call}
use Rattle.board_history.proofs.Growing.{call_made, not_both}
use Rattle.board_live.specs.declared.board.Board.{Board}
use Rattle.board_live.specs.declared.board.Pass.{Pass}
use Rattle.board_live.specs.declared.record.Posted.{Posted}
use Rattle.board_live.specs.inner.Calls.{HasReadColumn, HasRow, IsStretch}
use Rattle.board_live.specs.Passes.{answered_of, did_of, HasMade, IsFurtherAnswer, IsBounded, IsCall, IsKnown, IsMindful, IsPass}
use Rattle.board_live.specs.Passes.{written_of}
use Rattle.board_live.specs.Plans.{did_with, KeepsItsWord, MakesCalls, WasTrue}
use Rattle.board_live.specs.Records.{Rises, rises_on, stamped}
use Rattle.board_live.proofs.Accessing.{stays}
use Rattle.board_live.proofs.Allowed.{carried}
use Rattle.board_live.proofs.Plans.{whole_so_far}
use Rattle.board_live.proofs.Same.{same_process}
use Rattle.board_live.proofs.Words.{word_more, word_said}
use Rattle.board_live.proofs.Records.{greatest_from, least, rises_at_most, stamped_greatest}

-- what a process has after one call more
pub own_done : {V : Type 0} (first : Stamped V) (calls : List (Called V)) (c : Called V) →
    c.chosen ≡ own_before first (calls ++ c ∷ []) (length (calls ++ c ∷ []))
own_done first [] c = refl
own_done first (d ∷ calls) c = own_done d.chosen calls c

-- an access after other steps
shifted : (width : ℕ) (before steps : List ℕ) (count access : ℕ) (begins ends begins' ends' : List ℕ) → length before ≡ count * width →
    IsInterval width steps access begins ends begins' ends' → IsInterval width (before ++ steps) (count + access) begins ends begins' ends'
shifted width before steps count access begins ends begins' ends' long h =
    let at : (count + access) * width ≡ length before + access * width = add-mul count access width ∙ omega arith in
    record {
      begin = h.begin;
      end = h.end;
      first = ap (slice_get (before ++ steps)) at ∙ get_after before steps (access * width) ∙ h.first;
      last = ap (slice_get (before ++ steps))
          (let e : (count + access) * width + (width - 1) ≡ length before + (access * width + (width - 1)) = omega arith in e)
          ∙ get_after before steps (access * width + (width - 1)) ∙ h.last;
      begun = h.begun;
      ended = h.ended;
    }

-- a call has steps, of its first part and perhaps of its second
pub call_span : (a b c : ℕ) (steps more : List ℕ) → IsStretch a b steps → IsStretch b c more → 0 < length steps →
    (begin : ℕ) × (slice_get (steps ++ more) 0 ≡ Some begin) × (slice_get (steps ++ more) (length (steps ++ more) - 1) ≡ Some c)
    × (a < begin) × (begin ≤ c)
call_span a b c steps more (inl x) y l = absurd (let e : length steps ≡ 0 = ap length x.0 in omega arith)
call_span a b c steps more (inr x) (inl y) l =
    let p = x.3 in
    let q : c ≡ b = y.1 in
    let all : steps ++ more ≡ steps = ap (λ ms. steps ++ ms) y.0 ∙ append-nil steps in (
      x.0,
      get_before steps more 0 l ∙ x.1,
      ap (λ ms. slice_get ms (length ms - 1)) all ∙ x.4 ∙ ap Some (sym q),
      x.2,
      omega arith,
    )
call_span a b c steps more (inr x) (inr y) l =
    let p = x.3 in
    let q = y.2 in
    let r = y.3 in
    let m : 0 < length more = slice_get_within more 0 y.0 y.1 in (
      x.0,
      get_before steps more 0 l ∙ x.1,
      ap (slice_get (steps ++ more)) (let e : length (steps ++ more) ≡ length steps + length more = length-append steps more in
          let z : length (steps ++ more) - 1 ≡ length steps + (length more - 1) = omega arith in z)
          ∙ get_after steps more (length more - 1) ∙ y.4,
      x.2,
      omega arith,
    )

twice : (a b : ℕ) → 2 * a * b ≡ a * b + a * b
twice a b = grind arith

module _ {V F S T : Type 0} (words : FamilyWords F (Posted V) S T) (obeys : V → Bool) (board : Board V F S T) (old : Pass V F S T)
    (of : IsPass words obeys board old) (kind : Kind) (seen chosen : Posted V) (told : Bool) (mid next : S)
    (r : HasReadColumn words obeys board.family old.process (board.processes - 1) old.seat mid old.own seen)
    (w : HasRow words board.family old.process (board.processes - 1) mid next old.own chosen old.told told) where
  abbrev n : ℕ
  n = board.processes

  abbrev i : ℕ
  i = old.process

  abbrev new : Pass V F S T
  new = record { process = old.process; own = chosen; told = told; seat = next; room = old.room }

  two : 2 ≤ n
  two = of.size.0

  some_of : (a b : ℕ) → 0 < a → 0 < b → 0 < a * b
  some_of zero b la lb = absurd (omega arith)
  some_of (suc a) zero la lb = absurd (omega arith)
  some_of (suc a) (suc b) la lb = omega arith

  some : 0 < (n - 1) * words.width
  some = let t = two in some_of (n - 1) words.width (omega arith) of.some

  span : (begin : ℕ) × (slice_get (r.steps ++ w.steps) 0 ≡ Some begin)
      × (slice_get (r.steps ++ w.steps) (length (r.steps ++ w.steps) - 1) ≡ Some (words.clock next)) × (words.clock old.seat < begin)
      × (begin ≤ words.clock next)
  span = call_span (words.clock old.seat) (words.clock mid) (words.clock next) r.steps w.steps r.span w.span
      (let a = r.long in let s = some in omega arith)

  abbrev called : Called V
  called = record {
    begin = span.0;
    end = words.clock next;
    kind = kind;
    seen = stamped seen;
    chosen = stamped chosen;
    tells = w.tells;
    finds = w.finds;
  }

  long : length (r.steps ++ w.steps) ≡ steps_of_call words.width n w.tells w.finds
  long = length-append r.steps w.steps ∙ ap (λ m. m + length w.steps) r.long ∙ ap (λ m. (n - 1) * words.width + m) w.long

  all_times : words.times next ≡ words.times old.seat ++ (r.steps ++ w.steps)
  all_times = w.times ∙ ap (λ ts. ts ++ w.steps) r.times ∙ append_assoc (words.times old.seat) r.steps w.steps

  abbrev Choice : Type 0
  Choice = (place : ℕ) → ChoosesByKind board.limit
      (record { place = place; who = i; kind = kind; stamp = chosen.stamp; item = chosen.item }) kind seen.stamp seen.item

  process_made : Choice → (calls : List (Called V)) → HasMade words board old calls →
      IsProcess words.width n board.limit (stamped board.first) i (did_of words next (calls ++ called ∷ []))
  process_made chooses calls h = call_made words.width n board.limit (stamped board.first) i (did_of words old.seat calls)
      (did_of words next (calls ++ called ∷ [])) called two of.some h.made (record {
        calls = refl;
        steps = r.steps ++ w.steps;
        long = long;
        begun = span.1;
        ended = subst (λ m. slice_get (r.steps ++ w.steps) (m - 1) ≡ Some (words.clock next)) long span.2;
        times = all_times;
        answers = map stamped r.answers;
        each = ap (λ m. m + 1) (length-map r.answers stamped ∙ r.each) ∙ (let t = two in omega arith);
        reads = λ e answer there.
            let x = get_map_back stamped r.answers e answer there in
            let l : e < n - 1 = let a = slice_get_within r.answers e x.0 x.1 in let b = r.each in omega arith in
            let y = r.reads e x.0 x.1 in
            subst (λ z. ReadsOnce words.width (r.steps ++ w.steps) e (answered_of (words.reads old.seat (other i e)))
            (answered_of z) answer)
            (sym (w.reads (other i e)))
            (record {
              interval = stays words.width r.steps w.steps e (n - 1) _ _ _ _ r.long l of.some y.0;
              items = ap (map stamped) y.1.read.answers ∙ map-append stamped (words.reads old.seat (other i e)).answers (x.0 ∷ [])
                  ∙ ap (λ z. map stamped (words.reads old.seat (other i e)).answers ++ z ∷ []) x.2;
            });
        writes = λ e l t.
            let x = w.writes t e (omega arith) in
            subst (λ z. WritesOnce words.width (r.steps ++ w.steps) (n - 1 + e) (written_of z)
            (written_of (words.writes next (other i e))) (stamped chosen)) (r.writes (other i e))
            (record {
              interval = shifted words.width r.steps w.steps (n - 1) e _ _ _ _ r.long x.0;
              items = ap (map stamped) x.1.items ∙ map-append stamped (words.writes mid (other i e)).items (chosen ∷ []);
            });
        unwritten = λ e l f. ap written_of (w.unwritten f (other i e) ∙ r.writes (other i e));
        silent = λ f g. ap stamped (w.silent f g).0 ∙ h.own;
        sees = ap stamped r.sees ∙ stamped_greatest old.own r.answers ∙ ap (λ o. greatest_stamped o (map stamped r.answers)) h.own;
        chooses = chooses;
      })

  -- it ends with its last step
  ends : Choice → (calls : List (Called V)) → HasMade words board old calls →
      end_among words.width n (words.times next) (calls ++ called ∷ []) (length calls) called ≡ Some (words.clock next)
  ends chooses calls h = (process_made chooses calls h).ended (length calls) called (get_last calls called (length calls) refl)

  -- so a tag of its own that it tells may be said
  truly : Choice → (calls : List (Called V)) → HasMade words board old calls → w.tells ≡ true → chosen.stamp.writer ≡ i →
      (s : Said) → s.tag ≡ chosen.stamp.tag → s.time ≡ words.clock next →
      WasTrue words.width n i (words.times next) (calls ++ called ∷ []) s
  truly chooses calls h tells writer s tag time = record {
    number = length calls;
    call = called;
    there = get_last calls called (length calls) refl;
    tells = tells;
    writer = writer;
    not_below = omega arith;
    end = words.clock next;
    ended = ends chooses calls h;
    before = omega arith;
  }

  -- and what it found was found with its last step
  all_found : List Found
  all_found = if w.tells then [] else (if w.finds then record {
    who = chosen.stamp.writer;
    tag = chosen.stamp.tag;
    time = words.clock next;
  } ∷ [] else [])

  found_one : w.tells ≡ false → w.finds ≡ true → all_found ≡ record {
    who = chosen.stamp.writer;
    tag = chosen.stamp.tag;
    time = words.clock next;
  } ∷ []
  unfolding all_found
  found_one t f = ap (λ (z : Bool × Bool). if z.0 then [] else (if z.1 then record {
    who = chosen.stamp.writer;
    tag = chosen.stamp.tag;
    time = words.clock next;
  } ∷ [] else [])) (λ k. (t k, f k))

  found_is : words.found next ≡ words.found old.seat ++ all_found
  unfolding all_found
  found_is = w.found ∙ ap (λ z. z ++ all_found) r.tags.1

  word : Choice → (calls : List (Called V)) → HasMade words board old calls →
      KeepsItsWord words.width n i (words.times next) (calls ++ called ∷ []) (words.said next) (words.found next)
  word chooses calls h =
      subst (λ (z : List ℕ × List Said × List Found). KeepsItsWord words.width n i z.0 (calls ++ called ∷ []) z.1 z.2)
      (λ k. (sym all_times k, sym (w.said ∙ ap (λ z. z ++ w.says) r.tags.0) k, sym found_is k))
      (word_more words.width n i two of.some (words.times old.seat) (r.steps ++ w.steps) calls h.made.long called (words.said old.seat)
      w.says (words.found old.seat) all_found h.word
      (λ x s e.
      let y = w.truly x s e in
      subst (λ z. WasTrue words.width n i z (calls ++ called ∷ []) s) all_times
      (truly chooses calls h y.0 y.1 s y.2 y.3))
      (λ end t f g.
      let same : words.clock next ≡ end = same_Some (words.clock next) end (sym (ends chooses calls h)
      ∙ ap (λ ts. end_among words.width n ts (calls ++ called ∷ []) (length calls) called) all_times ∙ g) in (
        0,
        ap (λ z. slice_get z 0) (found_one t f)
            ∙ ap (λ z. Some (record { who = chosen.stamp.writer; tag = chosen.stamp.tag; time = z })) same,
      )))

  made : Choice → (calls : List (Called V)) → HasMade words board old calls → HasMade words board new (calls ++ called ∷ [])
  made chooses calls h = record {
    made = process_made chooses calls h;
    own = own_done (stamped board.first) calls called;
    word = word chooses calls h;
  }

  -- the plan allows to say its tag
  pub may_say : Choice → w.tells ≡ true → chosen.stamp.writer ≡ i → MaySay
      (MakesCalls (words.opening board.family) words.width (words.processes board.family) (words.limit board.family) (words.who next))
      chosen.stamp.tag (words.clock next)
      (doings (words.times next) (words.writes next) (words.reads next) (words.said next) (words.found next))
  may_say chooses tells writer =
      let calls : List (Called V) = of.made.0 in
      let one : Said = record { tag = chosen.stamp.tag; time = words.clock next } in
      let done : Doings (Posted V) = doings (words.times next) (words.writes next) (words.reads next) (words.said next ++ one ∷ [])
      (words.found next) in
      carried words obeys board old of (λ opening n limit process. MaySay (MakesCalls opening words.width n limit process)
      chosen.stamp.tag (words.clock next)
      (doings (words.times next) (words.writes next) (words.reads next) (words.said next) (words.found next))) (words.who next)
      (w.of.1 ∙ r.of.1 ∙ of.who) (
        calls ++ called ∷ [],
        λ numbers. whole_so_far words.width n board.limit i board.first two of.some (calls ++ called ∷ []) numbers done
            (same_process words.width n board.limit (stamped board.first) i (did_of words next (calls ++ called ∷ []))
            (did_with (calls ++ called ∷ []) numbers done) refl refl
            (λ e. record { items = refl; begins = refl; ends = refl }) (λ e. refl) (process_made chooses calls of.made.1)),
        word_said words.width n i (words.times next) (calls ++ called ∷ []) (words.said next) (words.found next) one
            (truly chooses calls of.made.1 tells writer one refl refl) (word chooses calls of.made.1),
      )

  known : IsKnown words board old new seen
  known = elim (greatest_from old.own r.answers) [
    | inl own ↦ inl (r.sees ∙ own)
    | inr there ↦
        let e : ℕ = there.0 in
        let at : slice_get r.answers e ≡ Some seen = there.1 ∙ ap Some (sym r.sees) in
        let l : e + 1 < n = let a = slice_get_within r.answers e seen at in let b = r.each in omega arith in
        let read = (r.reads e seen at).1.read in
        let x = read.numbered in
        inr (
          other i e,
          x.number,
          other_inside n i e of.inside l,
          other_differs i e,
          subst (λ z. slice_get (board.first ∷ z.known.items) x.number ≡ Some seen) (sym (w.reads (other i e)))
              (subst (λ o. slice_get (o ∷ (words.reads mid (other i e)).known.items) x.number ≡ Some seen) of.opens x.source),
          subst (λ z. AreHeeded z.heard z.known x.number) (sym (w.reads (other i e)))
              (subst (AreHeeded (words.reads mid (other i e)).heard (words.reads mid (other i e)).known)
              (ap (last_or 0) x.numbers ∙ last_snoc 0 (words.reads old.seat (other i e)).numbers x.number) read.heeds),
        )
  ]

  heeds : (j : ℕ) → j < n → j ≢ i → All (λ t. IsAtMost t.stamp seen.stamp) (words.reads old.seat j).told
  heeds j l ne =
      let e = other_reached n i j of.inside l ne in
      let a = get_exists r.answers e.0 (let b = r.each in let z = e.1 in omega arith) in
      let told : All (λ t. Rises t a.0) (words.reads old.seat j).told =
      subst (λ z. All (λ t. Rises t a.0) (words.reads old.seat z).told) e.2 (r.reads e.0 a.0 a.1).1.running.3 in
      let up : IsAtMost a.0.stamp seen.stamp = subst (λ z. IsAtMost a.0.stamp z.stamp) (sym r.sees) (least old.own r.answers e.0 a.0 a.1) in
      All-weaker (λ t. Rises t a.0) (λ t. IsAtMost t.stamp seen.stamp)
      (λ t h. at_most_trans t.stamp a.0.stamp seen.stamp (rises_at_most t a.0 h) up) (words.reads old.seat j).told told

  mindful : (j : ℕ) → j < n → j ≢ i → IsMindful (words.reads old.seat j) (words.reads next j)
  mindful j l ne =
      let e = other_reached n i j of.inside l ne in
      let a = get_exists r.answers e.0 (let b = r.each in let z = e.1 in omega arith) in
      let read = (r.reads e.0 a.0 a.1).1.read in
      subst (λ z. IsMindful (words.reads old.seat z) (words.reads next z)) e.2
      (subst (λ z. IsMindful (words.reads old.seat (other i e.0)) z) (sym (w.reads (other i e.0))) (record {
        same = read.heard;
        first = All-weaker (λ told. IsHeeded told (words.reads mid (other i e.0)).known (last_or 0 (words.reads mid (other i e.0)).numbers))
            (λ told. AreFirst told (words.reads mid (other i e.0)).known.items (words.reads mid (other i e.0)).known.times)
            (λ t h. h.first) (words.reads mid (other i e.0)).heard read.heeds;
      }))

  -- its steps are those of its column, and of its row where it has one
  pub is_bounded : IsBounded words board old new
  is_bounded = record {
    accesses =
        let all = ap length all_times
        ∙ length-append (words.times old.seat) (r.steps ++ w.steps) ∙ ap (λ m. length (words.times old.seat) + m) long in
        most w.tells w.finds all;
    each = words.few_steps;
  }
    where
      most : (tells finds : Bool) → length (words.times next) ≡ length (words.times old.seat) + steps_of_call words.width n tells finds →
          length (words.times next) ≤ length (words.times old.seat) + 2 * (n - 1) * words.width
      most true finds e = let d = twice (n - 1) words.width in omega arith
      most false true e = let d = twice (n - 1) words.width in let s = some in omega arith
      most false false e = let d = twice (n - 1) words.width in omega arith

  pub is_call : Rises seen chosen → Choice → IsCall words obeys board kind old new seen
  is_call onward chooses = record {
    process = refl;
    begin = span.0;
    end = words.clock next;
    interval = (span.3, span.4, refl);
    answers = r.answers;
    each = let t = two in let e = r.each in omega arith;
    answered = λ e answer there.
        subst (λ z. IsFurtherAnswer obeys board.first (words.reads old.seat (other i e)) z answer) (sym (w.reads (other i e)))
        (subst (λ o. IsFurtherAnswer obeys o (words.reads old.seat (other i e)) (words.reads mid (other i e)) answer) of.opens
        (r.reads e answer there).1);
    is_seen = r.sees;
    known = known;
    heeds = λ j l ne. heeds j l ne;
    heard = λ j l ne. mindful j l ne;
    rises = r.rises;
    onward = onward;
    tells = w.tells;
    finds = w.finds;
    steps = ap length all_times
        ∙ length-append (words.times old.seat) (r.steps ++ w.steps) ∙ ap (λ m. length (words.times old.seat) + m) long;
    written = λ t j l ne.
        let e = other_reached n i j of.inside l ne in
        let x = (w.writes t e.0 (let z = e.1 in omega arith)).1 in
        subst (λ z. IsWriteAccess z (words.writes next j) chosen) (r.writes j)
        (subst (λ z. IsWriteAccess (words.writes mid z) (words.writes next z) chosen) e.2 x);
    unwritten = λ f j. w.unwritten f j ∙ r.writes j;
    silent = w.silent;
    found = λ t f. found_is ∙ ap (λ z. words.found old.seat ++ z) (found_one t f);
    told = w.now_told;
    untold = w.untold;
    made = λ calls h. made chooses calls h;
  }

  pub call_tells : (onward : Rises seen chosen) (chooses : Choice) → (is_call onward chooses).tells ≡ w.tells
  unfolding is_call
  call_tells onward chooses = refl

  -- if it was told, the record stands last in each register of the process
  pub is_pass : Rises seen chosen → Choice → IsTrue (obeys chosen.item) → IsPass words obeys board new
  is_pass onward chooses lawful = record {
    size = of.size;
    some = of.some;
    processes = of.processes;
    opens = of.opens;
    limit = of.limit;
    first = of.first;
    inside = of.inside;
    room = of.room;
    seat = w.of.0;
    who = w.of.1 ∙ r.of.1 ∙ of.who;
    lawful = lawful;
    below = λ j l ne. elim (cases_Bool w.tells) [
      | inl t ↦ subst (λ z. Rises z chosen) (sym (last_told t j l ne)) (inr (refl, refl))
      | inr f ↦ rises_on (last_or board.first (words.writes next j).items) old.own chosen
          (subst (λ (z : WriteAccesses (Posted V)). Rises (last_or board.first z.items) old.own)
          (sym (w.unwritten f j ∙ r.writes j)) (of.below j l ne))
          (rises_on old.own seen chosen r.rises onward)
    ];
    last = λ now j l ne. elim (cases_Bool w.tells) [
      | inl t ↦ last_told t j l ne
      | inr f ↦ elim (cases_Bool w.finds) [
        | inl g ↦ absurd (not_both told now (w.untold f g))
        | inr g ↦
            let kept = w.silent f g in
            ap (λ x. last_or board.first x.items) (w.unwritten f j ∙ r.writes j) ∙ of.last (sym kept.1 ∙ now) j l ne ∙ sym kept.0
      ]
    ];
    made = (of.made.0 ++ called ∷ [], made chooses of.made.0 of.made.1);
  }
    where
      last_told : w.tells ≡ true → (j : ℕ) → j < n → j ≢ i → last_or board.first (words.writes next j).items ≡ chosen
      last_told t j l ne =
          let e = other_reached n i j of.inside l ne in
          let le : e.0 < n - 1 = let z = e.1 in omega arith in
          ap (λ z. last_or board.first (words.writes next z).items) (sym e.2) ∙ w.last t e.0 board.first le
