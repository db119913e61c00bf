-- A log of one key has no line that is refused for its key.
use Rattle.std.proofs.Common.{◌≡◌, ◌∙◌, inl, inr, ℕ, List, [], ◌∷◌, ◌++◌, Bool, true, false, Option, None, Some}
use Rattle.std.proofs.Common.{Result, Ok, Err, ap}
use Rattle.std.proofs.Common.{refl, length, slice_get}
use Rattle.std.specs.Prelude.{◌==◌, ◌||◌, codes, if◌then◌else◌, nat_le, not, option_and_then, is_some, ⊤}
use Rattle.std.specs.List.{find}
use Rattle.serde_json.specs.Data.{Data}
use Rattle.history_core.specs.declared.history.Kind.{Kind}
use Rattle.history_core.specs.declared.history.Op.{Op}
use Rattle.history_core.specs.declared.reason.SearchError.{SearchError}
use Rattle.history_core.specs.declared.reason.SearchError.TheVariants as search_error
use Rattle.program_runs.specs.declared.fault.Answer.{Answer}
use Rattle.program_runs.specs.declared.fault.Fault.{Fault}
use Rattle.program_runs.specs.declared.fault.Fault.TheVariants as fault
use Rattle.program_runs.specs.declared.fault.LinesFault.TheVariants.{Refused}
use Rattle.program_runs.specs.declared.show.Show.{Show}
use Rattle.read_document.specs.Document.{is_kind, json_of, max_bytes, value_of}
use Rattle.read_document.specs.Refusals.{◌>>=◌, field, is_missing, must, none_missing, required, some_or}
use Rattle.read_document.specs.declared.key.Key.{Key}
use Rattle.read_document.specs.declared.key.Key.TheVariants as key
use Rattle.read_document.specs.declared.refusal.DocError.{DocError}
use Rattle.read_document.specs.declared.refusal.DocError.TheVariants.{Law, Long, Missing, NoMemory, NotJson, Range}
use Rattle.read_document.specs.declared.refusal.DocError.TheVariants.{Shape, Kind as OfKind}
use Rattle.read_document.specs.LineFields.{done_in, key_in, record_in}
use Rattle.read_line.specs.Lines.{allowed, done, ends_later, entry_in, entry_of, has_record, Head, head_in}
use Rattle.read_line.specs.Lines.{head_of, kind_in, KeyedOp, LineEntry, operation, operation_in}
use Rattle.read_document.specs.Records.{record_text}
use Rattle.read_document.specs.Keys.{name_of}
use Rattle.history_fields.specs.Fields.{limit_in_range}
use Rattle.read_document.specs.Values.{as_whole, optional}
use Rattle.serde_json.specs.Find.{get}
use Rattle.std.specs.Option.{option_map_or}
use Rattle.lines_log.specs.Faults.{is_last, IsLineFault, IsLinesFault, refused_at, told_of}
use Rattle.lines_log.specs.Logs.{is_refused, judged, judged_line, LineRule, rule_in, same_key}
use Rattle.order_laws.specs.OneKey.{AreOfOneKey}
use Rattle.fsr_keys_answers.specs.ByKeys.{IsAnswerByKeys, IsAnswerIfSmall, is_other_key}

-- ---- no line is refused for its key by what it says alone

abbrev NotKey : {A : Type 0} → Result A DocError → Type 0
NotKey (Ok x) = Unit {0}
NotKey (Err why) = ¬ (why ≡ Law key.Key)

bound : {A B : Type 0} (r : Result A DocError) (f : A → Result B DocError) → NotKey r → ((x : A) → NotKey (f x)) → NotKey (r >>= f)
bound (Ok x) f here behind = behind x
bound (Err why) f here behind = here

abbrev make_op : Option (List ℕ) → ℕ → Kind → ℕ → Option ℕ → Option (List ℕ) → KeyedOp
make_op which who kind begin ends item =
    record { key = which; op = record { who = who; kind = kind; starts = begin; ends = ends; item = item } }

abbrev make_head : List ℕ → Option ℕ → Head
make_head opening limit = record { opening = opening; limit = limit }

then_ok : {A B : Type 0} (r : Result A DocError) (x : B) → NotKey r → NotKey (r >>= (λ (a : A). let ok : Result B DocError = Ok x in ok))
then_ok (Ok a) x here = tt
then_ok (Err why) x here = here

of_must : (b : Bool) (why : DocError) → ¬ (why ≡ Law key.Key) → NotKey (must b why)
of_must true why other = tt
of_must false why other = other

of_some : {A : Type 0} (why : DocError) (o : Option A) → ¬ (why ≡ Law key.Key) → NotKey (some_or why o)
of_some why None other = other
of_some why (Some x) other = tt

of_shape : {A : Type 0} (k : Key) (o : Option A) → NotKey (some_or (Shape k) o)
of_shape k o = of_some (Shape k) o (λ (e : Shape k ≡ Law key.Key). cc)

of_missing : (o : Option Key) → NotKey (none_missing o)
of_missing None = tt
of_missing (Some k) = λ (e : Missing k ≡ Law key.Key). cc

of_value : (bytes : List ℕ) → NotKey (value_of bytes)
unfolding value_of
of_value bytes =
    bound (must (nat_le (length bytes) max_bytes) Long) (λ x. some_or NotJson (json_of bytes))
    (of_must (nat_le (length bytes) max_bytes) Long (λ (e : Long ≡ Law key.Key). cc))
    (λ x. of_some NotJson (json_of bytes) (λ (e : NotJson ≡ Law key.Key). cc))

of_allowed : (kind : Kind) (begin : ℕ) (ends : Option ℕ) (there : Bool) → NotKey (allowed kind begin ends there)
unfolding allowed
of_allowed kind begin ends there =
    bound (must (ends_later begin ends) (Law key.End)) (λ x. must (has_record kind ends there) (Law key.Record))
    (of_must (ends_later begin ends) (Law key.End) (λ (e : Law key.End ≡ Law key.Key). cc))
    (λ x. of_must (has_record kind ends there) (Law key.Record) (λ (e : Law key.Record ≡ Law key.Key). cc))

-- the steps of an operation, none of which refuses for the key
op_steps : (r1 : Result ⊤ DocError) (r2 : Result ℕ DocError) (r3 : Result Kind DocError) (r4 : Result ℕ DocError)
    (r5 : Result (Option ℕ) DocError) (r6 r7 : Result (Option (List ℕ)) DocError)
    (r8 : Kind → ℕ → Option ℕ → Bool → Result ⊤ DocError) → NotKey r1 → NotKey r2 → NotKey r3 → NotKey r4 → NotKey r5
    → NotKey r6 → NotKey r7
    → ((kind : Kind) (begin : ℕ) (ends : Option ℕ) (there : Bool) → NotKey (r8 kind begin ends there))
    → NotKey (do
      all_there ← r1
      who ← r2
      kind ← r3
      begin ← r4
      ends ← r5
      item ← r6
      which ← r7
      as_allowed ← r8 kind begin ends (is_some item)
      Ok (make_op which who kind begin ends item))
op_steps (Err e) r2 r3 r4 r5 r6 r7 r8 n1 n2 n3 n4 n5 n6 n7 n8 = n1
op_steps (Ok a) (Err e) r3 r4 r5 r6 r7 r8 n1 n2 n3 n4 n5 n6 n7 n8 = n2
op_steps (Ok a) (Ok who) (Err e) r4 r5 r6 r7 r8 n1 n2 n3 n4 n5 n6 n7 n8 = n3
op_steps (Ok a) (Ok who) (Ok kind) (Err e) r5 r6 r7 r8 n1 n2 n3 n4 n5 n6 n7 n8 = n4
op_steps (Ok a) (Ok who) (Ok kind) (Ok begin) (Err e) r6 r7 r8 n1 n2 n3 n4 n5 n6 n7 n8 = n5
op_steps (Ok a) (Ok who) (Ok kind) (Ok begin) (Ok ends) (Err e) r7 r8 n1 n2 n3 n4 n5 n6 n7 n8 = n6
op_steps (Ok a) (Ok who) (Ok kind) (Ok begin) (Ok ends) (Ok item) (Err e) r8 n1 n2 n3 n4 n5 n6 n7 n8 = n7
op_steps (Ok a) (Ok who) (Ok kind) (Ok begin) (Ok ends) (Ok item) (Ok which) r8 n1 n2 n3 n4 n5 n6 n7 n8 =
    then_ok (r8 kind begin ends (is_some item)) (make_op which who kind begin ends item) (n8 kind begin ends (is_some item))

of_operation : (d : Data) → NotKey (operation_in d)
unfolding operation_in
of_operation d =
    op_steps (required (key.Who ∷ key.Kind ∷ key.Begin ∷ key.End ∷ key.Record ∷ []) d) (field key.Who as_whole d)
    (some_or (Shape key.Kind) (kind_in d)) (field key.Begin as_whole d)
    (some_or (Shape key.End) (optional as_whole (get (codes "end") d))) (record_in d) (key_in d) allowed
    (of_missing (find (is_missing d) (key.Who ∷ key.Kind ∷ key.Begin ∷ key.End ∷ key.Record ∷ [])))
    (of_shape key.Who (option_and_then as_whole (get (name_of key.Who) d))) (of_shape key.Kind (kind_in d))
    (of_shape key.Begin (option_and_then as_whole (get (name_of key.Begin) d)))
    (of_shape key.End (optional as_whole (get (codes "end") d)))
    (of_shape key.Record (optional record_text (get (codes "record") d)))
    (of_shape key.Key (optional record_text (get (codes "key") d))) of_allowed

of_done : (d : Data) → NotKey (done_in d)
unfolding done_in
of_done d =
    bound (required (key.Ops ∷ []) d) (λ x. field key.Ops as_whole d) (of_missing (find (is_missing d) (key.Ops ∷ [])))
    (λ x. of_shape key.Ops (option_and_then as_whole (get (name_of key.Ops) d)))

of_entry : (d : Data) → NotKey (entry_in d)
unfolding entry_in
of_entry d = by_kind (is_kind (codes "done") d)
  where
    by_kind : (b : Bool) → NotKey (if b then (do
      ops ← done_in d
      Ok (done ops)) else (do
        op ← operation_in d
        Ok (operation op)))
    by_kind true = bound (done_in d) (λ ops. Ok (done ops)) (of_done d) (λ ops. tt)
    by_kind false = bound (operation_in d) (λ op. Ok (operation op)) (of_operation d) (λ op. tt)

entry_not : (line : List ℕ) → NotKey (entry_of line)
unfolding entry_of
entry_not line = bound (value_of line) entry_in (of_value line) of_entry

head_steps : (r1 : Result ⊤ DocError) (r2 : Result (List ℕ) DocError) (r3 : Result (Option ℕ) DocError)
    (r4 : Option ℕ → Result ⊤ DocError) → NotKey r1 → NotKey r2 → NotKey r3 → ((limit : Option ℕ) → NotKey (r4 limit))
    → NotKey (do
      there ← r1
      opening ← r2
      limit ← r3
      in_range ← r4 limit
      Ok (make_head opening limit))
head_steps (Err e) r2 r3 r4 n1 n2 n3 n4 = n1
head_steps (Ok a) (Err e) r3 r4 n1 n2 n3 n4 = n2
head_steps (Ok a) (Ok opening) (Err e) r4 n1 n2 n3 n4 = n3
head_steps (Ok a) (Ok opening) (Ok limit) r4 n1 n2 n3 n4 = then_ok (r4 limit) (make_head opening limit) (n4 limit)

of_head : (d : Data) → NotKey (head_in d)
unfolding head_in
of_head d =
    head_steps (required (key.Opening ∷ []) d) (field key.Opening record_text d)
    (some_or (Shape key.Limit) (optional as_whole (get (codes "limit") d)))
    (λ limit. must (option_map_or limit_in_range limit true) (Range key.Limit))
    (of_missing (find (is_missing d) (key.Opening ∷ [])))
    (of_shape key.Opening (option_and_then record_text (get (name_of key.Opening) d)))
    (of_shape key.Limit (optional as_whole (get (codes "limit") d)))
    (λ limit. of_must (option_map_or limit_in_range limit true) (Range key.Limit) (λ (e : Range key.Limit ≡ Law key.Key). cc))

head_not : (line : List ℕ) → NotKey (head_of line)
unfolding head_of
head_not line =
    bound (value_of line) (λ d. if is_kind (codes "lines") d then head_in d else Err OfKind) (of_value line)
    (λ d. by_kind d (is_kind (codes "lines") d))
  where
    by_kind : (d : Data) (b : Bool) → NotKey (if b then head_in d else Err OfKind)
    by_kind d true = of_head d
    by_kind d false = λ (e : OfKind ≡ Law key.Key). cc

-- ---- nor by the key, where all have one

at_middle : (xs : List (List ℕ)) (x : List ℕ) (ys : List (List ℕ)) → slice_get (xs ++ x ∷ ys) (length xs) ≡ Some x
at_middle [] x ys = refl
at_middle (z ∷ zs) x ys = at_middle zs x ys

judged_not : (rule : LineRule) (count : ℕ) (last : Bool) (entry : Result LineEntry DocError)
    → ((o : KeyedOp) → entry ≡ Ok (operation o) → same_key rule.key o.key ≡ true) → NotKey entry
    → NotKey (entry >>= judged rule count last)
judged_not rule count last (Err why) same here = here
judged_not rule count last (Ok (done ops)) same here = by_tests last (ops == count)
  where
    by_tests : (at_end all : Bool) → NotKey {A = Option (Op (List ℕ))}
        (if at_end then (if all then Ok None else Err (Law key.Ops)) else Err (Shape key.Kind))
    by_tests true true = tt
    by_tests true false = λ (e : Law key.Ops ≡ Law key.Key). cc
    by_tests false all = λ (e : Shape key.Kind ≡ Law key.Key). cc
judged_not rule count last (Ok (operation o)) same here =
    by_tests (same_key rule.key o.key) (rule.limited || not (is_refused o.op.kind)) (same o refl)
  where
    by_tests : (same_one may : Bool) → same_one ≡ true
        → NotKey {A = Option (Op (List ℕ))}
        (if same_one then (if may then Ok (Some o.op) else Err (Missing key.Limit)) else Err (Law key.Key))
    by_tests true true e = tt
    by_tests true false e = λ (z : Missing key.Limit ≡ Law key.Key). cc
    by_tests false may e = cc

use_not : {A : Type 0} (r : Result A DocError) (why : DocError) → NotKey r → r ≡ Err why → ¬ (why ≡ Law key.Key)
use_not (Ok x) why here e = cc
use_not (Err own) why here e = λ k. here (let same : own ≡ why = cc in same ∙ k)

told_key : (n line : ℕ) (why : DocError) → fault.Lines (Refused line (Law key.Key)) ≡ refused_at n why → why ≡ Law key.Key
told_key n line NoMemory e = cc
told_key n line (Law key.End) e = cc
told_key n line why e = cc

not_told : (line : ℕ) (why : DocError) (error : SearchError) → fault.Lines (Refused line why) ≡ told_of error → ⊥
not_told line why search_error.NoMemory e = cc
not_told line why search_error.Terms e = cc
not_told line why (search_error.Backwards p) e = cc
not_told line why (search_error.WritesOpening p) e = cc
not_told line why (search_error.WritesTwice p q) e = cc

none_refused : (bytes : List ℕ) → AreOfOneKey bytes → (line : ℕ) → IsLinesFault bytes (fault.Lines (Refused line (Law key.Key))) → ⊥
none_refused bytes one line (inl none) = cc
none_refused bytes one line (inr (inl empty)) =
    let clash : NotJson ≡ Law key.Key = told_key 1 line NotJson empty.1 in cc
none_refused bytes one line (inr (inr (inl head))) =
    use_not (head_of head.header) head.why (head_not head.header) head.refused (told_key 1 line head.why head.told)
none_refused bytes one line (inr (inr (inr later))) = by_line later.wrong.wrong
  where
    by_line : IsLineFault later.head.opening (rule_in later.head later.body) later.wrong.lines later.wrong.line (is_last later.wrong.behind)
        (fault.Lines (Refused line (Law key.Key))) → ⊥
    by_line (inl none) = cc
    by_line (inr (inl refused)) =
        let at : slice_get later.body (length later.wrong.lines) ≡ Some later.wrong.line =
        ap (λ (l : List (List ℕ)). slice_get l (length later.wrong.lines)) later.wrong.split
        ∙ at_middle later.wrong.lines later.wrong.line later.wrong.behind in
        use_not (judged_line (rule_in later.head later.body) (length later.wrong.lines) _ later.wrong.line) refused.0
        (judged_not (rule_in later.head later.body) (length later.wrong.lines) _ (entry_of later.wrong.line)
        (λ o is. one later.header later.body later.split (length later.wrong.lines) later.wrong.line o at is)
        (entry_not later.wrong.line)) refused.1 (told_key _ line refused.0 refused.2)
    by_line (inr (inr (inl over))) = let told = over.3 in cc
    by_line (inr (inr (inr again))) = not_told line (Law key.Key) again.error again.told

-- ---- so the answer is as to a log of one key

of_lines : (show : Show) (small : Bool) (bytes : List ℕ) (f : Fault) → IsAnswerIfSmall show small bytes (Err f) → IsLinesFault bytes f
of_lines show true bytes f wrong = wrong
of_lines show false bytes f wrong = wrong

never_other : (show : Show) (bytes : List ℕ) (r : Result Answer Fault) → AreOfOneKey bytes
    → IsAnswerIfSmall show show.small bytes r → is_other_key r ≡ true → ⊥
never_other show bytes (Err (fault.Lines (Refused line (Law key.Key)))) one wrong other =
    none_refused bytes one line (of_lines show show.small bytes (fault.Lines (Refused line (Law key.Key))) wrong)
never_other show bytes (Err why) one wrong other = cc
never_other show bytes (Ok answer) one wrong other = cc

pub one_key_as_one : (show : Show) (bytes : List ℕ) (reply : Result Answer Fault) → AreOfOneKey bytes
    → IsAnswerByKeys show bytes reply → IsAnswerIfSmall show show.small bytes reply
one_key_as_one show bytes reply one (inl answered) = answered.0
one_key_as_one show bytes reply one (inr several) = absurd (never_other show bytes several.0 one several.1 several.2)
