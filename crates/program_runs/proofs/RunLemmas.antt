-- The ends of a run: each says what was taken and what went out, and why the status tells it.
use Rattle.std.proofs.Common.{rules, ◌≡◌, ◌⊎◌, inl, inr, ◌≤◌, ◌<◌, ℕ, Bool, List, [], length, Option, Result, Ok, Err, refl, arith}
use Rattle.std.proofs.Common.{subst, sym, ⊎_elim, ◌∙◌, ◌≢◌}
use Rattle.std.proofs.lemmas.List.{take_all}
use Rattle.std.proofs.KnownBytes.{Consumes-nil, Appends-nil}
use Rattle.std.specs.Io.{StartsWith}
use Rattle.std.specs.Io.KnownBytes.{Appends}
use Rattle.program_streams.proofs.SpaceLemmas.{within}
use Rattle.program_streams.specs.Transfer.{IsWhole as IsInputWhole, most_taken, TakesBytes as TakesInput, CountsFailure}
use Rattle.program_streams.specs.declared.transfer.InputFault.{InputFault}
use Rattle.program_streams.specs.declared.transfer.InputFault.TheVariants as input
use Rattle.program_runs.specs.Answers.{GivesReply, HasAnswerStatus}
use Rattle.program_runs.specs.Run.{CountsUntaken, Fails, GivesAnswer, IsInBound, IsToldBy, IsWholeInput, never, Runs, TakesInBound}
use Rattle.program_runs.specs.Run.{TakesDocument, TellsFault, fault_status, nothing_asked, untaken_status}
use Rattle.program_runs.specs.declared.fault.Answer.{Answer}
use Rattle.program_runs.specs.declared.fault.Fault.{Fault}
use Rattle.program_runs.specs.declared.fault.Fault.TheVariants as fault
use Rattle.program_runs.specs.declared.run.Program.{Program}

-- ---- what was taken

-- so many bytes end in no more white space than is kept
short_in_bound : (taken : List ℕ) → length taken ≤ most_taken → IsInBound never taken
short_in_bound taken short = (λ bounded. short, omega (arith, within taken, short))

-- up to its bound an input was taken as a document is
pub document_taken : (old new : Option (List ℕ)) (taken : List ℕ) → TakesInput old new taken → IsInputWhole taken new
    → TakesInBound never old new taken × IsWholeInput never taken new
document_taken old new taken takes (inl long) = ((takes.0, short_in_bound taken takes.1), inr (inl (refl, long)))
document_taken old new taken takes (inr end) = ((takes.0, short_in_bound taken takes.1), inl end)

pub document_untaken : (old new : Option (List ℕ)) (status : ℕ) → (taken : List ℕ) × TakesInput old new taken
    → TakesDocument never old new (Err status)
document_untaken old new status taken = (taken.0, (taken.1.0, short_in_bound taken.0 taken.1.1))

-- the status tells what was counted
pub counts_untaken : (old new status : ℕ) (why : InputFault) → CountsFailure {T = Unit {0}} old new (Err why)
    → status ≡ untaken_status why → CountsUntaken old new status
counts_untaken old new status input.Failed counts is = inl (is, counts)
counts_untaken old new status input.NoMemory counts is = inr (is, counts)

-- ---- what a fault is told by

-- its own status, or that of want of memory
pub status_told : (program : Program) (f : Fault) (old new : Option (List ℕ)) (failed_old failed_new status : ℕ)
    → TellsFault program f old new failed_old failed_new status → (status ≡ fault_status f) ⊎ (status ≡ 4)
status_told program fault.NoMemory old new failed_old failed_new status told = inl told.1
status_told program fault.NoThread old new failed_old failed_new status told = inl told.1
status_told program (fault.Document refusal) old new failed_old failed_new status (inl told) = inl told.1.1
status_told program (fault.Document refusal) old new failed_old failed_new status (inr memory) = inr memory.1
status_told program (fault.History why) old new failed_old failed_new status (inl told) = inl told.1.1
status_told program (fault.History why) old new failed_old failed_new status (inr memory) = inr memory.1
status_told program (fault.Lines why) old new failed_old failed_new status (inl told) = inl told.1.1
status_told program (fault.Lines why) old new failed_old failed_new status (inr memory) = inr memory.1
status_told program (fault.Schedule position) old new failed_old failed_new status (inl told) = inl told.1.1
status_told program (fault.Schedule position) old new failed_old failed_new status (inr memory) = inr memory.1
status_told program (fault.Undecided line) old new failed_old failed_new status (inl told) = inl told.1.1
status_told program (fault.Undecided line) old new failed_old failed_new status (inr memory) = inr memory.1

-- ---- runs without an answer

module _ (IsOutcome : List ℕ → Answer → Type 0) (is_unbounded : List ℕ → Bool) where
  -- memory ran out, and nothing went out
  ends_without_memory : (in_old in_new out : Option (List ℕ)) (taken : List ℕ) → TakesInBound is_unbounded in_old in_new taken
      → Runs IsOutcome is_unbounded in_old in_new out out 4
  ends_without_memory in_old in_new out taken takes = record {
    taken = taken;
    sent = [];
    takes = takes.0;
    at_most = takes.1;
    sends = Appends-nil out;
    front = inl refl;
    silent = λ two other more. refl;
    told = λ not_four not_five. absurd (not_four refl);
    whole = λ not_two not_four not_five. absurd (not_four refl);
  }

  -- nothing is in bound
  nothing_taken : IsInBound is_unbounded []
  nothing_taken = (λ bounded. omega arith, omega arith)

  -- memory ran out before anything was taken
  pub ends_at_once : (left out : Option (List ℕ)) → Runs IsOutcome is_unbounded left left out out 4
  ends_at_once left out = ends_without_memory left left out [] (Consumes-nil left, nothing_taken)

  -- nothing was asked that the program does
  pub ends_unasked : (left out : Option (List ℕ)) → IsOutcome [] nothing_asked → Runs IsOutcome is_unbounded left left out out 2
  ends_unasked left out outcome = record {
    taken = [];
    sent = [];
    takes = Consumes-nil left;
    at_most = nothing_taken;
    sends = Appends-nil out;
    front = inl refl;
    silent = λ two other more. refl;
    told = λ not_four not_five. outcome;
    whole = λ not_two not_four not_five. absurd (not_two refl);
  }

  -- a read failed
  ends_unread : (in_old in_new out : Option (List ℕ)) (taken : List ℕ) → TakesInBound is_unbounded in_old in_new taken
      → Runs IsOutcome is_unbounded in_old in_new out out 5
  ends_unread in_old in_new out taken takes = record {
    taken = taken;
    sent = [];
    takes = takes.0;
    at_most = takes.1;
    sends = Appends-nil out;
    front = inl refl;
    silent = λ two other more. refl;
    told = λ not_four not_five. absurd (not_five refl);
    whole = λ not_two not_four not_five. absurd (not_five refl);
  }

  -- the input wasn't taken whole
  pub ends_untaken : (in_old in_new out : Option (List ℕ)) (failed_old failed_new status : ℕ) →
      (taken : List ℕ) × TakesInBound is_unbounded in_old in_new taken
      → CountsUntaken failed_old failed_new status → Runs IsOutcome is_unbounded in_old in_new out out status
  ends_untaken in_old in_new out failed_old failed_new status takes (inl failed) =
      subst (Runs IsOutcome is_unbounded in_old in_new out out) (sym failed.0) (ends_unread in_old in_new out takes.0 takes.1)
  ends_untaken in_old in_new out failed_old failed_new status takes (inr full) =
      subst (Runs IsOutcome is_unbounded in_old in_new out out) (sym full.0) (ends_without_memory in_old in_new out takes.0 takes.1)

pub fails_untaken : (in_old in_new out status : ℕ) → CountsUntaken in_old in_new status → Fails in_old in_new out out status
fails_untaken in_old in_new out status (inl failed) = record {
  five = (λ five. inl (omega (arith, failed.1)), λ rose. failed.0);
  once = omega (arith, failed.1);
}
fails_untaken in_old in_new out status (inr full) = record {
  five = (
    λ (five : status ≡ 5). absurd (omega (arith, five, full.0)),
    ⊎_elim (λ (rose : in_old < in_new). absurd (omega (arith, rose, full.1)))
        (λ (rose : out < out). absurd (omega (arith, rose))),
  );
  once = omega (arith, full.1);
}

-- no stream was used that could have failed
pub fails_unused : (input out status : ℕ) → (status ≡ 2) ⊎ (status ≡ 4) → Fails input input out out status
fails_unused input out status ended = record {
  five = (
    λ (five : status ≡ 5). absurd (⊎_elim (λ (two : status ≡ 2). omega (arith, two, five))
        (λ (four : status ≡ 4). omega (arith, four, five)) ended),
    ⊎_elim (λ (rose : input < input). absurd (omega (arith, rose))) (λ (rose : out < out). absurd (omega (arith, rose))),
  );
  once = omega arith;
}

-- ---- runs with an answer

module _ (IsReply : List ℕ → Result Answer Fault → Type 0) (is_unbounded : List ℕ → Bool) (in_old in_new : Option (List ℕ)) (taken : List ℕ)
    (takes : TakesInBound is_unbounded in_old in_new taken) (whole : IsWholeInput is_unbounded taken in_new) where
  -- a fault is answered, and nothing went out
  ends_with_fault : (out : Option (List ℕ)) (f : Fault) → IsReply taken (Err f)
      → Runs (IsToldBy IsReply) is_unbounded in_old in_new out out (fault_status f)
  ends_with_fault out f answered = record {
    taken = taken;
    sent = [];
    takes = takes.0;
    at_most = takes.1;
    sends = Appends-nil out;
    front = inl refl;
    silent = λ two other more. refl;
    told = λ not_four not_five. (Err f, answered, refl);
    whole = λ not_two not_four not_five. whole;
  }

  ends_refused : (out : Option (List ℕ)) (f : Fault) → GivesReply (IsReply taken) (Err f)
      → Runs (IsToldBy IsReply) is_unbounded in_old in_new out out (fault_status f)
  ends_refused out fault.NoMemory refused = ends_without_memory (IsToldBy IsReply) is_unbounded in_old in_new out taken takes
  ends_refused out (fault.Document refusal) refused = ends_with_fault out (fault.Document refusal) (refused (search rules))
  ends_refused out (fault.History why) refused = ends_with_fault out (fault.History why) (refused (search rules))
  ends_refused out (fault.Lines why) refused = ends_with_fault out (fault.Lines why) (refused (search rules))
  ends_refused out (fault.Schedule position) refused = ends_with_fault out (fault.Schedule position) (refused (search rules))
  ends_refused out fault.NoThread refused = ends_with_fault out fault.NoThread (refused (search rules))
  ends_refused out (fault.Undecided line) refused = ends_with_fault out (fault.Undecided line) (refused (search rules))

  -- the text went out whole
  ends_told : (out_old out_new : Option (List ℕ)) (a : Answer) → IsReply taken (Ok a) → (a.status ≤ 1) ⊎ (a.status ≡ 8)
      → Appends out_old out_new a.text
      → Runs (IsToldBy IsReply) is_unbounded in_old in_new out_old out_new a.status
  ends_told out_old out_new a answered shown sends = record {
    taken = taken;
    sent = a.text;
    takes = takes.0;
    at_most = takes.1;
    sends = sends;
    front = inr ((a, (Ok a, answered, refl), take_all (length a.text) a.text (omega arith)), whole);
    silent = λ two other more. absurd (⊎_elim (λ (least : a.status ≤ 1). omega (arith, two, least)) more shown);
    told = λ not_four not_five. (Ok a, answered, refl);
    whole = λ not_two not_four not_five. whole;
  }

  -- a write failed after a front of the text
  ends_cut : (out_old out_new : Option (List ℕ)) (a : Answer) (sent : List ℕ) → IsReply taken (Ok a) → StartsWith a.text sent
      → Appends out_old out_new sent → Runs (IsToldBy IsReply) is_unbounded in_old in_new out_old out_new 5
  ends_cut out_old out_new a sent answered front sends = record {
    taken = taken;
    sent = sent;
    takes = takes.0;
    at_most = takes.1;
    sends = sends;
    front = inr ((a, (Ok a, answered, refl), front), whole);
    silent = λ two other more. absurd (other refl);
    told = λ not_four not_five. absurd (not_five refl);
    whole = λ not_two not_four not_five. absurd (not_five refl);
  }

  ends_given : (out_old out_new : Option (List ℕ)) (failed_old failed_new status : ℕ) (reply : Result Answer Fault)
      → GivesReply (IsReply taken) reply → HasAnswerStatus reply → GivesAnswer reply out_old out_new failed_old failed_new status
      → Runs (IsToldBy IsReply) is_unbounded in_old in_new out_old out_new status
  ends_given out_old out_new failed_old failed_new status (Ok a) answered low (inl told) =
      subst (Runs (IsToldBy IsReply) is_unbounded in_old in_new out_old out_new)
      (sym told.2) (ends_told out_old out_new a answered low told.0)
  ends_given out_old out_new failed_old failed_new status (Ok a) answered low (inr cut) =
      subst (Runs (IsToldBy IsReply) is_unbounded in_old in_new out_old out_new) (sym cut.2)
      (ends_cut out_old out_new a cut.0.0 answered cut.0.1 cut.0.2)
  ends_given out_old out_new failed_old failed_new status (Err f) refused low told =
      let P : Option (List ℕ) → ℕ → Type 0 = λ out s. Runs (IsToldBy IsReply) is_unbounded in_old in_new out_old out s in
      subst (λ out. P out status) (sym told.0)
      (⊎_elim (λ (same : status ≡ fault_status f). subst (P out_old) (sym same) (ends_refused out_old f refused))
      (λ (four : status ≡ 4). subst (P out_old) (sym four)
      (ends_without_memory (IsToldBy IsReply) is_unbounded in_old in_new out_old taken takes)) told.2)

-- the input was answered, as these bytes, and the answer given
pub ends_answered : (IsReply : List ℕ → Result Answer Fault → Type 0) (is_unbounded : List ℕ → Bool)
    (in_old in_new out_old out_new : Option (List ℕ)) (taken given : List ℕ)
    (failed_old failed_new status : ℕ) (reply : Result Answer Fault)
    → TakesInBound is_unbounded in_old in_new taken × IsWholeInput is_unbounded taken in_new →
    given ≡ taken → GivesReply (IsReply given) reply → HasAnswerStatus reply
    → GivesAnswer reply out_old out_new failed_old failed_new status →
    Runs (IsToldBy IsReply) is_unbounded in_old in_new out_old out_new status
ends_answered IsReply is_unbounded in_old in_new out_old out_new taken given failed_old
    failed_new status reply takes same answered low told =
    ends_given IsReply is_unbounded in_old in_new taken takes.0 takes.1 out_old out_new failed_old failed_new status reply
    (subst (λ bytes. GivesReply (IsReply bytes) reply) same answered) low told

no_stream : (f : Fault) → fault_status f ≢ 5
no_stream fault.NoMemory = λ five. absurd (omega (arith, five))
no_stream (fault.Document refusal) = λ five. absurd (omega (arith, five))
no_stream (fault.History why) = λ five. absurd (omega (arith, five))
no_stream (fault.Lines why) = λ five. absurd (omega (arith, five))
no_stream (fault.Schedule position) = λ five. absurd (omega (arith, five))
no_stream fault.NoThread = λ five. absurd (omega (arith, five))
no_stream (fault.Undecided line) = λ five. absurd (omega (arith, five))

pub fails_answered : (in_old in_new out_old out_new status : ℕ) (old new : Option (List ℕ)) (reply : Result Answer Fault) → in_new ≡ in_old
    → HasAnswerStatus reply → GivesAnswer reply old new out_old out_new status → Fails in_old in_new out_old out_new status
fails_answered in_old in_new out_old out_new status old new (Ok a) same shown (inl told) = record {
  five = (
    λ (five : status ≡ 5). absurd (⊎_elim (λ (least : a.status ≤ 1). omega (arith, five, told.2, least))
        (λ (little : a.status ≡ 8). omega (arith, five, told.2, little)) shown),
    ⊎_elim (λ (rose : in_old < in_new). absurd (omega (arith, rose, same)))
        (λ (rose : out_old < out_new). absurd (omega (arith, rose, told.1))),
  );
  once = omega (arith, same, told.1);
}
fails_answered in_old in_new out_old out_new status old new (Ok a) same low (inr cut) = record {
  five = (λ five. inr (omega (arith, cut.1)), λ rose. cut.2);
  once = omega (arith, same, cut.1);
}
fails_answered in_old in_new out_old out_new status old new (Err f) same low told = record {
  five = (
    λ (five : status ≡ 5). absurd (⊎_elim (λ (e : status ≡ fault_status f). absurd (no_stream f (sym e ∙ five)))
        (λ (e : status ≡ 4). omega (arith, five, e)) told.2),
    ⊎_elim (λ (rose : in_old < in_new). absurd (omega (arith, rose, same)))
        (λ (rose : out_old < out_new). absurd (omega (arith, rose, told.1))),
  );
  once = omega (arith, same, told.1);
}
