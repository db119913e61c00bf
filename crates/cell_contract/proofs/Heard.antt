-- What a receipt buys its reader, by the intervals alone.
use Rattle.std.proofs.Common.{◌≡◌, ℕ, suc, ◌<◌, ◌≤◌, List, [], ◌∷◌, ◌++◌, length, slice_get, Some, refl, sym, ap, ◌∙◌, arith, length-append}
use Rattle.std.proofs.lemmas.Option.{slice_get_within, same_Some}
use Rattle.four_slot_core.proofs.Pushed.{get_last}
use Rattle.history_core.proofs.Times.{to_before}
use Rattle.std.proofs.Common.{subst}
use Rattle.std.proofs.lemmas.List.Elements.{All-get_or}
use Rattle.std.proofs.lemmas.Option.{get_or_from_slice_get}
use Rattle.cell_contract.proofs.ListLaws.{last_snoc}
use Rattle.cell_contract.specs.Intervals.{AreAtomic, AreHeeded, HaveEnded, IsHeard, IsHeeded, IsNextAnswer, IsNextCall, IsNoOlder, known_as}
use Rattle.cell_contract.specs.Running.{last_or}
use Rattle.cell_contract.specs.declared.times.Known.{Known}
use Rattle.cell_contract.specs.declared.times.Times.{Times}

-- what a read after a receipt gives: `k` is the number of records written before, and the receipt names the next one
pub heard_last : {T : Type 0} (o : T) (written answers : List T) (numbers : List ℕ) (writes reads last earlier heard : Times)
    (earlier_numbers : List ℕ) (n : ℕ) (item answer : T) →
    AreAtomic o (written ++ item ∷ []) writes (answers ++ answer ∷ []) numbers reads →
    HaveEnded writes → IsNextCall last writes → IsHeard earlier heard writes.clock →
    IsNextCall heard reads → numbers ≡ earlier_numbers ++ n ∷ [] → answer ≡ item
heard_last o written answers numbers writes reads last earlier heard old n item answer h done wrote learnt read more =
    let one = length-append written (item ∷ []) in
    let two = length-append answers (answer ∷ []) in
    let three = length-append old (n ∷ []) in
    let four = length-append last.ends (wrote.end ∷ []) in
    let five = length-append heard.begins (read.begin ∷ []) in
    let same : length numbers ≡ length (answers ++ answer ∷ []) = h.regular.numbered in
    let numbers_long : length numbers ≡ length (old ++ n ∷ []) = ap length more in
    let ends_long : length writes.ends ≡ length (last.ends ++ wrote.end ∷ []) = ap length wrote.ends in
    let begins_long : length reads.begins ≡ length (heard.begins ++ read.begin ∷ []) = ap length read.begins in
    let ends_all : length writes.ends ≡ length (written ++ item ∷ []) = done ∙ h.writes_begun in
    let begins_all : length reads.begins ≡ length (answers ++ answer ∷ []) = h.reads_counted.0 in
    let m : ℕ = length answers in
    let k : ℕ = length written in
    let at : slice_get numbers m ≡ Some n = ap (λ zs. slice_get zs m) more
    ∙ get_last old n m (let e : m ≡ length old = omega arith in e) in
    let ended : slice_get writes.ends k ≡ Some wrote.end = ap (λ zs. slice_get zs k) wrote.ends
    ∙ get_last last.ends wrote.end k (let e : k ≡ length last.ends = omega arith in e) in
    let begun : slice_get reads.begins m ≡ Some read.begin = ap (λ zs. slice_get zs m) read.begins
    ∙ get_last heard.begins read.begin m (let e : m ≡ length heard.begins = omega arith in e) in
    let clock : writes.clock ≡ wrote.end = wrote.clock in
    let told : writes.clock ≤ heard.clock = learnt.heard in
    let after : heard.clock < read.begin = read.after in
    let low : k < n = (h.regular.read_of m n at).late k (to_before (slice_get writes.ends k) (slice_get reads.begins m) wrote.end ended
    (λ y e. let s : read.begin ≡ y = same_Some read.begin y (sym begun ∙ e) in let z : wrote.end < y = omega arith in z)) in
    let here : slice_get (answers ++ answer ∷ []) m ≡ Some answer = get_last answers answer m refl in
    let source : slice_get (o ∷ (written ++ item ∷ [])) n ≡ Some answer = h.regular.source m n answer at here in
    let inside : n < length (o ∷ (written ++ item ∷ [])) = slice_get_within (o ∷ (written ++ item ∷ [])) n answer source in
    let is : n ≡ suc k = omega arith in
    same_Some answer item (sym source ∙ (ap (slice_get (o ∷ (written ++ item ∷ []))) is ∙ get_last written item k refl))

pub learnt_last : {A : Type 0} (xs ys : List A) (y : A) → ys ≡ xs ++ y ∷ [] → slice_get ys (length xs) ≡ Some y
learnt_last xs ys y e = ap (λ z. slice_get z (length xs)) e ∙ get_last xs y (length xs) refl

-- An answer after a receipt was learnt, by its own number. The cell may go on.
module _ {T : Type 0} (opening answer : T) (heard : List (Known T)) (k : ℕ) (old new : Known T) (before after : List ℕ) (answers : List T)
    (reads : Times) (all : AreHeeded heard new (last_or 0 after)) (h : IsNextAnswer opening old new before after answers reads answer) where
  pub heeds_one : (told : Known T) → slice_get heard k ≡ Some told → IsHeeded told new h.number
  heeds_one told at =
      let n : last_or 0 after ≡ h.number = ap (last_or 0) h.numbers ∙ last_snoc 0 before h.number in
      subst (IsHeeded told new) n (subst (λ z. IsHeeded z new (last_or 0 after)) (get_or_from_slice_get heard k told told at)
      (All-get_or (λ z. IsHeeded z new (last_or 0 after)) heard k told (slice_get_within heard k told at) all))

  pub no_older : (written : List T) (writes : Times) → slice_get heard k ≡ Some (known_as written writes) → IsNoOlder opening written answer
  no_older written writes at = let is = heeds_one (known_as written writes) at in
      (is.first.items.0, h.number, is.later, subst (λ z. slice_get (opening ∷ z) h.number ≡ Some answer) is.first.items.1 h.source)
