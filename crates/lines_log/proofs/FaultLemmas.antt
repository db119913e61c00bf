-- The header or a later line is at fault.
use Rattle.std.proofs.Common.{◌≡◌, ◌≢◌, ◌⊎◌, ◌∷◌, inl, inr, ℕ, List, Bool, length, Ok, Err, refl, ap, sym, ◌∙◌, subst}
use Rattle.read_document.specs.declared.refusal.DocError.{DocError}
use Rattle.read_document.specs.declared.refusal.DocError.TheVariants.{Kind, Law, Long, Missing, NoMemory, NotJson, Range, Shape}
use Rattle.program_runs.specs.declared.fault.Fault.{Fault}
use Rattle.text_lines.specs.Places.{line_at}
use Rattle.text_lines.specs.Splits.{lines_of}
use Rattle.read_line.specs.Lines.{Head, head_of}
use Rattle.lines_log.specs.Faults.{IsBodyFault, IsLineFault, IsLinesFault, refused_at}
use Rattle.lines_log.specs.Logs.{judged_line, LineRule, rule_in, text_of}

pub is_memory : (why : DocError) → (why ≡ NoMemory) ⊎ (why ≢ NoMemory)
is_memory Long = inr (λ e. cc)
is_memory NotJson = inr (λ e. cc)
is_memory Kind = inr (λ e. cc)
is_memory (Missing key) = inr (λ e. cc)
is_memory (Shape key) = inr (λ e. cc)
is_memory (Range key) = inr (λ e. cc)
is_memory (Law key) = inr (λ e. cc)
is_memory NoMemory = inl refl

pub header_fault : (bytes text first body : List ℕ) (why : DocError) (f : Fault) → text ≡ text_of bytes
    → lines_of text ≡ first ∷ lines_of body
    → (why ≢ NoMemory → head_of first ≡ Err why) → f ≡ refused_at 1 why → IsLinesFault bytes f
header_fault bytes text first body why f is_text split refused told = by_cause (is_memory why)
  where
    by_cause : (why ≡ NoMemory) ⊎ (why ≢ NoMemory) → IsLinesFault bytes f
    by_cause (inl e) = inl (told ∙ ap (refused_at 1) e)
    by_cause (inr ne) = inr (inr (inl (record {
      header = first;
      body = lines_of body;
      why = why;
      split = ap lines_of (sym is_text) ∙ split;
      refused = refused ne;
      told = told;
    })))

pub later_fault : (bytes text first body : List ℕ) (head : Head) (rule : LineRule) (f : Fault) → text ≡ text_of bytes
    → lines_of text ≡ first ∷ lines_of body → head_of first ≡ Ok head → rule ≡ rule_in head (lines_of body)
    → IsBodyFault head.opening rule (lines_of body) f → IsLinesFault bytes f
later_fault bytes text first body head rule f is_text split said limits wrong = inr (inr (inr (record {
  header = first;
  body = lines_of body;
  head = head;
  split = ap lines_of (sym is_text) ∙ split;
  said = said;
  wrong = subst (λ (b : LineRule). IsBodyFault head.opening b (lines_of body) f) limits wrong;
})))

-- the line behind these was refused
pub line_fault : (opening : List ℕ) (rule : LineRule) (lines : List (List ℕ)) (line : List ℕ) (last : Bool) (place : ℕ) (why : DocError)
    (f : Fault) → place ≡ length lines → (why ≢ NoMemory → judged_line rule place last line ≡ Err why)
    → f ≡ refused_at (line_at place) why → IsLineFault opening rule lines line last f
line_fault opening rule lines line last place why f here refused told = by_cause (is_memory why)
  where
    by_cause : (why ≡ NoMemory) ⊎ (why ≢ NoMemory) → IsLineFault opening rule lines line last f
    by_cause (inl e) = inl (told ∙ ap (refused_at (line_at place)) e)
    by_cause (inr ne) = inr (inl (
      why,
      subst (λ (n : ℕ). judged_line rule n last line ≡ Err why) here (refused ne),
      told ∙ ap (λ (n : ℕ). refused_at (line_at n) why) here,
    ))
