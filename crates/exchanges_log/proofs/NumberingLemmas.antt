-- A record that was met has its number, and a new one gets the next.
use Rattle.std.proofs.Common.{rules, tests, ◌≡◌, ◌≢◌, ℕ, List, [], ◌∷◌, ◌++◌, length, refl, ap, sym, ◌∙◌, arith, subst, slice_get, Some}
use Rattle.std.proofs.Common.{None, Option, Bool, true, false, cond, ◌⊎◌, inl, inr, length-append}
use Rattle.std.specs.Prelude.{◌+◌, if◌then◌else◌, is_some, String}
use Rattle.std.specs.declared.alloc.Global.{Global}
use Rattle.std.specs.BTreeMap.{BTreeMap, get_by_text}
use Rattle.std.specs.Str.{bytes_eq}
use Rattle.std.specs.Map.{update}
use Rattle.std.specs.Bool.{Decides}
use Rattle.std.proofs.lemmas.Slice.Eq.{bytes_eq-Decides}
use Rattle.std.proofs.lemmas.Option.{same_Some}
use Rattle.history_core.proofs.Places.{get_pushed_cases}
use Rattle.kept_lines.specs.Numberings.{AreDistinct}
use Rattle.kept_lines.proofs.NumberLemmas.{get_before, get_last, none_there}
use Rattle.exchanges_log.specs.Numberings.{IsNumbering}
use Rattle.exchanges_log.specs.declared.numbering.Numbering.{Numbering}

-- the numbers that a look-up gives, of these records
pub record Numbers (records : List (List ℕ)) (number : List ℕ → Option ℕ) : Type 0 where
  pub found : (text : List ℕ) (n : ℕ) → number text ≡ Some n → slice_get records n ≡ Some text
  pub known : (text : List ℕ) (n : ℕ) → slice_get records n ≡ Some text → number text ≡ Some n

pub one_more : (records : List (List ℕ)) (text : List ℕ) (next : ℕ) (before after : List ℕ → Option ℕ) → next ≡ length records
    → Numbers records before → before text ≡ None
    → ((other : List ℕ) → after other ≡ update bytes_eq before text (Some next) other) → Numbers (records ++ text ∷ []) after
one_more records text next before after long numbers new updated = record {
  found = λ other n e. found other n (bytes_eq text other) (bytes_eq-Decides text other) (sym (updated other) ∙ e);
  known = λ other n e. updated other ∙ known other n (bytes_eq text other) (bytes_eq-Decides text other)
      (get_pushed_cases records text n other e);
}
  where
    found : (other : List ℕ) (n : ℕ) (b : Bool) → Decides b (text ≡ other) → cond b (Some next) (before other) ≡ Some n
        → slice_get (records ++ text ∷ []) n ≡ Some other
    found other n true same e =
        let is : text ≡ other = search (rules, tests) in
        let at : length records ≡ n = sym long ∙ same_Some next n e in
        subst (λ (m : ℕ). slice_get (records ++ text ∷ []) m ≡ Some other) at (get_last records text ∙ ap Some is)
    found other n false apart e = get_before records text n other (numbers.found other n e)

    known : (other : List ℕ) (n : ℕ) (b : Bool) → Decides b (text ≡ other)
        → (slice_get records n ≡ Some other) ⊎ ((n ≡ length records) × (text ≡ other))
        → cond b (Some next) (before other) ≡ Some n
    known other n true same (inl old) =
        let is : text ≡ other = search (rules, tests) in
        let had : before text ≡ Some n = subst (λ (t : List ℕ). before t ≡ Some n) (sym is) (numbers.known other n old) in
        absurd (let clash : None ≡ Some n = sym new ∙ had in cc)
    known other n true same (inr last) = ap Some (long ∙ sym last.0)
    known other n false apart (inl old) = numbers.known other n old
    known other n false apart (inr last) = absurd (let differs : text ≢ other = search (rules, tests) in differs last.1)

pub none_yet : (m : BTreeMap (String Global) ℕ) → m.entries ≡ [] → Numbers [] (get_by_text m)
none_yet m e = record {
  found = λ text n h. let clash : None ≡ Some n = sym (none_there m e text) ∙ h in cc;
  known = λ text n h. cc;
}

pub one_longer : (old : Option ℕ) (before after : ℕ) (records : List (List ℕ)) (text : List ℕ) → old ≡ None
    → after ≡ before + (if is_some old then 0 else 1) → before ≡ length records → after ≡ length (records ++ text ∷ [])
one_longer None before after records text none is long = omega (arith, length-append records (text ∷ []))
one_longer (Some n) before after records text none is long = cc

-- of records that have their numbers none stands twice
pub distinct : (records : List (List ℕ)) (numbering : Numbering) → IsNumbering records numbering → AreDistinct records
distinct records numbering numbers = λ text m n at_m at_n. same_Some m n (sym (numbers.known text m at_m) ∙ numbers.known text n at_n)
