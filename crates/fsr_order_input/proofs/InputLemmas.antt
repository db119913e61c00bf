-- What was taken behind the front, and the front, are the input as it is to be taken.
use Rattle.std.proofs.Common.{◌≡◌, ◌⊎◌, inl, inr, ◌<◌, ◌≤◌, ℕ, List, ◌++◌, length, Option, Ok, Err, true, false, refl, arith, sym, ap}
use Rattle.std.proofs.Common.{◌∙◌, subst}
use Rattle.std.proofs.KnownBytes.{Consumes-trans}
use Rattle.std.specs.Io.KnownBytes.{Consumes, IsAtEnd}
use Rattle.text_lines.specs.Words.{text_in}
use Rattle.text_lines.specs.declared.text.PackedText.{PackedText}
use Rattle.program_streams.specs.Spaces.{ends_in_space}
use Rattle.program_streams.specs.Transfer.{most_taken}
use Rattle.program_streams.specs.declared.transfer.InputFault.{InputFault}
use Rattle.program_runs.specs.Run.{IsInBound, IsWholeInput, never, TakesInBound}
use Rattle.read_document.specs.Document.{max_bytes}
use Rattle.fsr_order_input.specs.Kinds.{are_lines}
use Rattle.fsr_order_input.proofs.FrontLemmas.{front_decides}
use Rattle.fsr_order_input.specs.Inputs.{TakesLog}
use Rattle.fsr_order_input.specs.inner.Inputs.{KeepsSpace, TakesBehind, TakesLines}
use Rattle.fsr_order_input.specs.declared.log.LogInput.{LogInput}
use Rattle.fsr_order_input.specs.declared.log.LogInput.TheVariants.{Lines, Document}

long_is_unbounded : (front more : List ℕ) → most_taken ≤ length front → are_lines front ≡ true → are_lines (front ++ more) ≡ true
long_is_unbounded front more long lines =
    let header : max_bytes < length front = omega (arith, long) in front_decides front more header ∙ lines

never_both : {A : Type 0} (taken : List ℕ) → are_lines taken ≡ true → are_lines taken ≡ false → A
never_both taken is isnt = absurd (let clash : true ≡ false = sym is ∙ isnt in cc)

long_taken : (a b c : Option (List ℕ)) (front : List ℕ) → TakesInBound never a b front → most_taken ≤ length front →
    are_lines front ≡ true → (more : List ℕ) → Consumes b c more → KeepsSpace front (front ++ more)
    → TakesInBound are_lines a c (front ++ more)
long_taken a b c front first long lines more next keeps = (
  Consumes-trans a b c front more first.0 next,
  (never_both (front ++ more) (long_is_unbounded front more long lines), keeps first.1.1),
)

left_whole : (front : List ℕ) (left : Option (List ℕ)) → IsWholeInput never front left →
    (length front < most_taken) ⊎ (are_lines front ≡ false)
    → IsWholeInput are_lines front left
left_whole front left (inl end) why = inl end
left_whole front left (inr (inr space)) why = inr (inr space)
left_whole front left (inr (inl full)) (inl short) = absurd (omega (arith, full.1, short))
left_whole front left (inr (inl full)) (inr other) = inr (inl (other, full.1))

left_bound : (front : List ℕ) → IsInBound never front → IsInBound are_lines front
left_bound front bound = (λ bounded. bound.0 refl, bound.1)

front_left : (a b c : Option (List ℕ)) (front given : List ℕ) → TakesInBound never a b front × IsWholeInput never front b →
    given ≡ front → c ≡ b → (length front < most_taken) ⊎ (are_lines front ≡ false)
    → TakesInBound are_lines a c given × IsWholeInput are_lines given c
front_left a b c front given taken text same why =
    let here : TakesInBound are_lines a b front × IsWholeInput are_lines front b =
    ((taken.0.0, left_bound front taken.0.1), left_whole front b taken.1 why) in
    let there : TakesInBound are_lines a c front × IsWholeInput are_lines front c =
    subst (λ (o : Option (List ℕ)). TakesInBound are_lines a o front × IsWholeInput are_lines front o) (sym same) here in
    subst (λ (l : List ℕ). TakesInBound are_lines a c l × IsWholeInput are_lines l c) (sym text) there

front_untaken : (a b c : Option (List ℕ)) (front : List ℕ) → TakesInBound never a b front → c ≡ b
    → (taken : List ℕ) × TakesInBound are_lines a c taken
front_untaken a b c front first same =
    (front, subst (λ (o : Option (List ℕ)). TakesInBound are_lines a o front) (sym same) (first.0, left_bound front first.1))

rest_whole : (taken : List ℕ) (left : Option (List ℕ)) → IsAtEnd left ⊎ (ends_in_space taken ≡ true) → IsWholeInput are_lines taken left
rest_whole taken left (inl end) = inl end
rest_whole taken left (inr space) = inr (inr space)

pub lines_taken : (a b c : Option (List ℕ)) (front : List ℕ) (text : PackedText) →
    TakesInBound never a b front × IsWholeInput never front b → are_lines front ≡ true → TakesLines front b c (Ok text)
    → TakesLog a c (Ok (Lines text))
lines_taken a b c front text taken lines (inl left) =
    let all = front_left a b c front (text_in text) taken left.0 left.1 (inl left.2) in
    (all.0, all.1, ap are_lines left.0 ∙ lines)
lines_taken a b c front text taken lines (inr (long, rest)) =
    let more : are_lines (front ++ rest.0) ≡ true = long_is_unbounded front rest.0 long lines in
    let keeps : KeepsSpace front (front ++ rest.0) = subst (KeepsSpace front) rest.2 rest.4 in
    let all : TakesInBound are_lines a c (front ++ rest.0) = long_taken a b c front taken.0 long lines rest.0 rest.1 keeps in
    (subst (TakesInBound are_lines a c) (sym rest.2) all, rest_whole (text_in text) c rest.3, ap are_lines rest.2 ∙ more)

lines_untaken : (a b c : Option (List ℕ)) (front : List ℕ) (why : InputFault) → TakesInBound never a b front →
    are_lines front ≡ true → TakesLines front b c (Err why) → (taken : List ℕ) × TakesInBound are_lines a c taken
lines_untaken a b c front why first lines (inl same) = front_untaken a b c front first same
lines_untaken a b c front why first lines (inr (long, rest)) =
    (front ++ rest.0, long_taken a b c front first long lines rest.0 rest.1 rest.2)

pub log_taken : (a b c : Option (List ℕ)) (front : List ℕ) (log : LogInput) →
    TakesInBound never a b front × IsWholeInput never front b → TakesBehind front b c (Ok log) → TakesLog a c (Ok log)
log_taken a b c front (Lines text) taken behind = lines_taken a b c front text taken behind.0 behind.1
log_taken a b c front (Document bytes) taken behind =
    let all = front_left a b c front bytes.items taken behind.0 behind.1 (inr behind.2) in
    (all.0, all.1, ap are_lines behind.0 ∙ behind.2)

pub behind_untaken : (a b c : Option (List ℕ)) (front : List ℕ) (why : InputFault) → TakesInBound never a b front
    → TakesBehind front b c (Err why) → (taken : List ℕ) × TakesInBound are_lines a c taken
behind_untaken a b c front why first (inl same) = front_untaken a b c front first same
behind_untaken a b c front why first (inr behind) = lines_untaken a b c front why first behind.0 behind.1
