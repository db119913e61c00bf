-- The input, piece by piece, and what goes out.
use Rattle.std.proofs.Common.{rules, ◌≡◌, ◌≢◌, ◌⊎◌, ℕ, ◌<◌, ◌≤◌, ◌+◌, List, [], ◌∷◌, ◌++◌, length, refl, ap, sym, ◌∙◌, subst, inl, inr}
use Rattle.std.proofs.Common.{arith, append_assoc, append-nil}
use Rattle.std.proofs.Common.{Option, Some, None, Result, Ok, Err}
use Rattle.std.proofs.lemmas.List.{take_all}
use Rattle.std.proofs.KnownBytes.{Consumes-nil, Consumes-trans, Appends-nil}
use Rattle.std.specs.Io.{StartsWith}
use Rattle.std.specs.Io.KnownBytes.{Appends, Consumes, IsAtEnd}
use Rattle.program_runs.specs.Run.{Fails}
use Rattle.program_runs.specs.declared.fault.Answer.{Answer}
use Rattle.program_streams.specs.declared.transfer.InputFault.{InputFault}
use Rattle.program_runs.specs.declared.fault.Fault.TheVariants as fault
use Rattle.read_document.specs.Document.{max_bytes}
use Rattle.text_lines.specs.Splits.{lines_of}
use Rattle.watch_lines.specs.Replies.{IsToldFrom, IsWatchReply, StopAt, TellsIf}
use Rattle.watch_lines.specs.Seen.{LinesSeen}
use Rattle.watch_lines.specs.Watchers.{KnowsIf}
use Rattle.watch_lines.specs.declared.told.Told.{Told}
use Rattle.watch_lines.specs.declared.told.Told.TheVariants.{Lawful, Lost}
use Rattle.watch_lines.specs.declared.told.WatchFault.{WatchFault}
use Rattle.watch_lines.specs.declared.told.WatchFault.TheVariants.{Below, Refused}
use Rattle.watch_lines.specs.declared.watcher.Watcher.{Watcher}
use Rattle.fsr_watch_answers.specs.Fronts.{HasNoFeed}
use Rattle.fsr_watch_answers.specs.Pieces.{AddsPiece}
use Rattle.fsr_watch_answers.specs.Runs.{IsToldEarly, WatchesInput, WatchRuns}
use Rattle.fsr_watch_answers.specs.Text.{answer_of, printed, told_status, told_text, watch_status}
use Rattle.fsr_watch_answers.specs.inner.Comings.{HasWatched, IsLastTold, IsLongTold, IsSoFar, IsWatchedTo, last_lines}
use Rattle.fsr_watch_answers.specs.inner.Givings.{GivesTold}
use Rattle.fsr_watch_answers.specs.declared.lines.Coming.{Coming}
use Rattle.fsr_watch_answers.specs.declared.lines.Coming.TheVariants as coming
use Rattle.fsr_watch_answers.proofs.FrontLemmas.{begins_line, left_alone}
use Rattle.fsr_watch_answers.proofs.ReplyLemmas.{go_both, none_watched, stop_behind, tells_so, told_behind}

-- ---- a piece more

pub nothing_yet : (left : Option (List ℕ)) → IsSoFar left left None []
nothing_yet left = record { taken = []; takes = Consumes-nil left; to = none_watched None [] None tt; open_line = refl }

-- what was taken with a piece
pub record HasMore (old new : Option (List ℕ)) (read : Option Watcher) (bytes : List ℕ) : Type 0 where
  pub taken : List ℕ
  pub takes : Consumes old new taken
  pub to : IsWatchedTo None taken bytes read

abbrev pub piece_more : (old mid new : Option (List ℕ)) (read : Option Watcher) (before after : List ℕ) (n : ℕ) →
    IsSoFar old mid read before →
    AddsPiece mid new before after (Ok n) → HasMore old new read after
piece_more old mid new read before after n so adds = record {
  taken = so.taken ++ adds.0;
  takes = Consumes-trans old mid new so.taken adds.0 so.takes adds.1;
  to = record {
    lines = so.to.lines;
    after = so.to.after;
    goes = so.to.goes;
    knows = so.to.knows;
    split = λ x. ap lines_of (append_assoc so.taken adds.0 x) ∙ (so.to.split (adds.0 ++ x)
        ∙ (ap (λ (l : List ℕ). so.to.lines ++ lines_of l) (sym (append_assoc before adds.0 x))
        ∙ ap (λ (l : List ℕ). so.to.lines ++ lines_of (l ++ x)) (sym adds.2)));
  };
}

-- whole lines of it were watched
pub more_watched : (old new : Option (List ℕ)) (read next : Option Watcher) (bytes left : List ℕ) → (more : HasMore old new read bytes) →
    HasWatched more.to.after bytes left (coming.GoesOn next) → IsSoFar old new next left
more_watched old new read next bytes left more watched =
    let now = watched.0 in record {
      taken = more.taken;
      takes = more.takes;
      to = record {
        lines = more.to.lines ++ now.lines;
        after = now.after;
        goes = go_both None more.to.lines now.lines more.to.after now.after more.to.goes now.goes;
        knows = now.knows;
        split = λ x. more.to.split x ∙ (ap (λ (l : List (List ℕ)). more.to.lines ++ l) (now.split x)
            ∙ sym (append_assoc more.to.lines now.lines (lines_of (left ++ x))));
      };
      open_line = watched.1;
    }

told_of_more : (taken bytes behind : List ℕ) (read : Option Watcher) (r : Result Told WatchFault) →
    (to : IsWatchedTo None taken bytes read) → IsToldFrom to.after (lines_of (bytes ++ behind)) r → IsWatchReply (taken ++ behind) r
told_of_more taken bytes behind read r to told =
    let P : List (List ℕ) → Type 0 = λ l. IsToldFrom None l r in
    subst P (sym (to.split behind)) (told_behind None to.lines (lines_of (bytes ++ behind)) to.after r to.goes told)

-- or one of them stops
pub more_stops : (old new : Option (List ℕ)) (read : Option Watcher) (bytes left : List ℕ) (reply : Result Told WatchFault) →
    (more : HasMore old new read bytes) → HasWatched more.to.after bytes left (coming.Stops reply) → WatchesInput old new (Ok reply)
more_stops old new read bytes left reply more stops = (
  more.taken,
  more.takes,
  tells_so (λ r. (x : List ℕ) → StopAt more.to.after (lines_of (bytes ++ x)) r) (IsToldEarly more.taken new)
      (λ r stop behind end. told_of_more more.taken bytes behind read r more.to (inl (stop behind))) reply stops,
)

-- the line that is begun is too long
pub so_long : (old new : Option (List ℕ)) (read : Option Watcher) (bytes : List ℕ) (reply : Result Told WatchFault) →
    (so : IsSoFar old new read bytes) → max_bytes < length bytes → IsLongTold so.to.after bytes reply → WatchesInput old new (Ok reply)
so_long old new read bytes reply so l told = (
  so.taken,
  so.takes,
  tells_so (λ r. (y : List ℕ) (lines : List (List ℕ)) → StopAt so.to.after ((bytes ++ y) ∷ lines) r) (IsToldEarly so.taken new)
      (λ r stop behind end.
      let line = begins_line bytes behind (some bytes l) so.open_line in
      let P : List (List ℕ) → Type 0 = λ z. StopAt so.to.after z r in
      told_of_more so.taken bytes behind read r so.to (inl (subst P (sym line.are) (stop line.more line.lines)))) reply told,
)
  where
    some : (l : List ℕ) → max_bytes < length l → l ≢ []
    some [] m e = absurd (omega (arith, m))
    some (x ∷ xs) m e = cc

-- nothing more comes
pub so_ends : (old mid new : Option (List ℕ)) (read : Option Watcher) (before after : List ℕ) (n : ℕ) (reply : Result Told WatchFault) →
    (so : IsSoFar old mid read before) → AddsPiece mid new before after (Ok n) → n ≡ 0 → IsLastTold so.to.after after reply →
    WatchesInput old new (Ok reply)
so_ends old mid new read before after n reply so adds none told =
    let empty : adds.0 ≡ [] = (adds.3 none).0 in
    let same : after ≡ before = adds.2 ∙ (ap (λ (l : List ℕ). before ++ l) empty ∙ append-nil before) in
    let more = piece_more old mid new read before after n so adds in
    let feed : HasNoFeed after = subst HasNoFeed (sym same) so.open_line in (
      more.taken,
      more.takes,
      tells_so (IsToldFrom so.to.after (last_lines after)) (IsToldEarly more.taken new) (λ r of_last behind end.
          let gone : behind ≡ [] = end (adds.3 none).1 in
          let P : List (List ℕ) → Type 0 = λ l. IsToldFrom so.to.after l r in
          let lines : lines_of (after ++ behind) ≡ last_lines after =
          ap (λ (l : List ℕ). lines_of (after ++ l)) gone ∙ (ap lines_of (append-nil after) ∙ left_alone after feed) in
          told_of_more more.taken after behind read r more.to (subst P (sym lines) of_last)) reply told,
    )

-- a read failed, or memory ran out within one
pub piece_fails : (old mid new : Option (List ℕ)) (read : Option Watcher) (before after : List ℕ) (e : InputFault) →
    IsSoFar old mid read before → AddsPiece mid new before after (Err e) → (taken : List ℕ) × Consumes old new taken
piece_fails old mid new read before after e so adds =
    (so.taken ++ adds.0, Consumes-trans old mid new so.taken adds.0 so.takes adds.1)

-- ---- what goes out

whole_front : (text : List ℕ) → StartsWith text text
whole_front text = take_all (length text) text (omega arith)

low : (told : Told) → told_status told ≤ 1
low (Lawful counts ended) = omega arith
low (Lost at line) = omega arith

given_whole : (in_old in_new out_old out_new : Option (List ℕ)) (told : Told) (status : ℕ) → WatchesInput in_old in_new (Ok (Ok told)) →
    Appends out_old out_new (told_text told) → status ≡ told_status told → WatchRuns in_old in_new out_old out_new status
given_whole in_old in_new out_old out_new told status watches sends is = record {
  taken = watches.0;
  sent = told_text told;
  takes = watches.1;
  sends = sends;
  front = inr (Ok told, watches.2, whole_front (told_text told));
  silent = λ two other. absurd (let l = low told in omega (arith, two, is, l));
  told = λ not_four not_five.
      (Ok told, watches.2, ap (λ (n : ℕ). let a : Answer = record { text = told_text told; status = n } in a) is);
}

given_front : (in_old in_new out_old out_new : Option (List ℕ)) (told : Told) (sent : List ℕ) → WatchesInput in_old in_new (Ok (Ok told)) →
    StartsWith (told_text told) sent → Appends out_old out_new sent → WatchRuns in_old in_new out_old out_new 5
given_front in_old in_new out_old out_new told sent watches front sends = record {
  taken = watches.0;
  sent = sent;
  takes = watches.1;
  sends = sends;
  front = inr (Ok told, watches.2, front);
  silent = λ two other. absurd (other refl);
  told = λ not_four not_five. absurd (not_five refl);
}

-- memory ran out
given_nothing : (in_old in_new out : Option (List ℕ)) (taken : List ℕ) → Consumes in_old in_new taken → WatchRuns in_old in_new out out 4
given_nothing in_old in_new out taken takes = record {
  taken = taken;
  sent = [];
  takes = takes;
  sends = Appends-nil out;
  front = inl refl;
  silent = λ two other. refl;
  told = λ not_four not_five. absurd (not_four refl);
}

-- a read failed
pub given_unread : (in_old in_new out : Option (List ℕ)) (taken : List ℕ) (status : ℕ) → Consumes in_old in_new taken → status ≡ 5 →
    WatchRuns in_old in_new out out status
given_unread in_old in_new out taken status takes five = record {
  taken = taken;
  sent = [];
  takes = takes;
  sends = Appends-nil out;
  front = inl refl;
  silent = λ two other. refl;
  told = λ not_four not_five. absurd (not_five five);
}

given_fault : (in_old in_new out : Option (List ℕ)) (f : WatchFault) → (watches : WatchesInput in_old in_new (Ok (Err f))) →
    f ≢ Refused fault.NoMemory → WatchRuns in_old in_new out out (watch_status f)
given_fault in_old in_new out f watches other = record {
  taken = watches.0;
  sent = [];
  takes = watches.1;
  sends = Appends-nil out;
  front = inl refl;
  silent = λ two not_five. refl;
  told = λ not_four not_five. (Err f, watches.2 other, refl);
}

of_fault : (in_old in_new out : Option (List ℕ)) (f : WatchFault) → WatchesInput in_old in_new (Ok (Err f)) →
    WatchRuns in_old in_new out out (watch_status f)
of_fault in_old in_new out (Below line high) watches = given_fault in_old in_new out (Below line high) watches (λ e. cc)
of_fault in_old in_new out (Refused fault.NoMemory) watches = given_nothing in_old in_new out watches.0 watches.1
of_fault in_old in_new out (Refused (fault.Document why)) watches =
    given_fault in_old in_new out (Refused (fault.Document why)) watches (λ e. cc)
of_fault in_old in_new out (Refused (fault.History why)) watches =
    given_fault in_old in_new out (Refused (fault.History why)) watches (λ e. cc)
of_fault in_old in_new out (Refused (fault.Lines why)) watches =
    given_fault in_old in_new out (Refused (fault.Lines why)) watches (λ e. cc)
of_fault in_old in_new out (Refused (fault.Schedule at)) watches =
    given_fault in_old in_new out (Refused (fault.Schedule at)) watches (λ e. cc)
of_fault in_old in_new out (Refused fault.NoThread) watches = given_fault in_old in_new out (Refused fault.NoThread) watches (λ e. cc)
of_fault in_old in_new out (Refused (fault.Undecided line)) watches =
    given_fault in_old in_new out (Refused (fault.Undecided line)) watches (λ e. cc)

fault_given : (in_old in_new out : Option (List ℕ)) (f : WatchFault) (status : ℕ) → WatchesInput in_old in_new (Ok (Err f)) →
    (status ≡ watch_status f) ⊎ (status ≡ 4) → WatchRuns in_old in_new out out status
fault_given in_old in_new out f status watches (inl is) =
    let P : ℕ → Type 0 = λ n. WatchRuns in_old in_new out out n in subst P (sym is) (of_fault in_old in_new out f watches)
fault_given in_old in_new out f status watches (inr is) =
    let P : ℕ → Type 0 = λ n. WatchRuns in_old in_new out out n in
    subst P (sym is) (given_nothing in_old in_new out watches.0 watches.1)

pub run_given : (in_old in_new out_old out_new : Option (List ℕ)) (reply : Result Told WatchFault) (failed_old failed_new status : ℕ) →
    WatchesInput in_old in_new (Ok reply) → GivesTold reply out_old out_new failed_old failed_new status →
    WatchRuns in_old in_new out_old out_new status
run_given in_old in_new out_old out_new (Ok told) failed_old failed_new status watches (inl whole) =
    given_whole in_old in_new out_old out_new told status watches whole.0 whole.2
run_given in_old in_new out_old out_new (Ok told) failed_old failed_new status watches (inr (inl front)) =
    let P : ℕ → Type 0 = λ n. WatchRuns in_old in_new out_old out_new n in
    subst P (sym front.2) (given_front in_old in_new out_old out_new told front.0.0 watches front.0.1 front.0.2)
run_given in_old in_new out_old out_new (Ok told) failed_old failed_new status watches (inr (inr none)) =
    let P : ℕ → Type 0 = λ n. WatchRuns in_old in_new out_old out_new n in
    let Q : Option (List ℕ) → Type 0 = λ o. WatchRuns in_old in_new out_old o 4 in
    subst P (sym none.1) (subst Q (sym none.0.0) (given_nothing in_old in_new out_old watches.0 watches.1))
run_given in_old in_new out_old out_new (Err f) failed_old failed_new status watches given =
    let Q : Option (List ℕ) → Type 0 = λ o. WatchRuns in_old in_new out_old o status in
    subst Q (sym given.0.0) (fault_given in_old in_new out_old f status watches given.1)

not_five : (f : WatchFault) → watch_status f ≢ 5
not_five (Below line high) e = omega (arith, e)
not_five (Refused (fault.Document why)) e = omega (arith, e)
not_five (Refused (fault.History why)) e = omega (arith, e)
not_five (Refused (fault.Lines why)) e = omega (arith, e)
not_five (Refused (fault.Schedule at)) e = omega (arith, e)
not_five (Refused fault.NoMemory) e = omega (arith, e)
not_five (Refused fault.NoThread) e = omega (arith, e)
not_five (Refused (fault.Undecided line)) e = omega (arith, e)

fails_five : (in_old in_new out_old out_new status : ℕ) → in_new ≡ in_old → out_new ≡ out_old + 1 → status ≡ 5 →
    Fails in_old in_new out_old out_new status
fails_five in_old in_new out_old out_new status same one five = record {
  five = (λ e. inr (omega (arith, one)), λ e. five);
  once = omega (arith, same, one);
}

fails_not : (in_old in_new out_old out_new status : ℕ) → in_new ≡ in_old → out_new ≡ out_old → status ≢ 5 →
    Fails in_old in_new out_old out_new status
fails_not in_old in_new out_old out_new status same none other = record {
  five = (λ e. absurd (other e), neither);
  once = omega (arith, same, none);
}
  where
    neither : (in_old < in_new) ⊎ (out_old < out_new) → status ≡ 5
    neither (inl l) = absurd (omega (arith, l, same))
    neither (inr l) = absurd (omega (arith, l, none))

pub fails_given : (in_old in_new failed_old failed_new status : ℕ) (out_old out_new : Option (List ℕ)) (reply : Result Told WatchFault) →
    in_new ≡ in_old → GivesTold reply out_old out_new failed_old failed_new status → Fails in_old in_new failed_old failed_new status
fails_given in_old in_new failed_old failed_new status out_old out_new (Ok told) same (inl whole) =
    let l = low told in let is = whole.2 in
    fails_not in_old in_new failed_old failed_new status same whole.1 (λ e. omega (arith, e, is, l))
fails_given in_old in_new failed_old failed_new status out_old out_new (Ok told) same (inr (inl front)) =
    fails_five in_old in_new failed_old failed_new status same front.1 front.2
fails_given in_old in_new failed_old failed_new status out_old out_new (Ok told) same (inr (inr none)) =
    let is = none.1 in fails_not in_old in_new failed_old failed_new status same none.0.1 (λ e. omega (arith, e, is))
fails_given in_old in_new failed_old failed_new status out_old out_new (Err f) same given = by_status given.1
  where
    by_status : (status ≡ watch_status f) ⊎ (status ≡ 4) → Fails in_old in_new failed_old failed_new status
    by_status (inl is) = fails_not in_old in_new failed_old failed_new status same given.0.1 (λ e. not_five f (sym is ∙ e))
    by_status (inr is) = fails_not in_old in_new failed_old failed_new status same given.0.1 (λ e. omega (arith, e, is))
