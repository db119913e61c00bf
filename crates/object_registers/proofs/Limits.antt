-- What a limit forbids: a register with one goes on as one without, save for writes that it refuses.
use Rattle.std.proofs.Common.{◌≡◌, ℕ, ◌-◌, ◌&&◌, not, Bool, true, false, cond, nat_eq, List, [], ◌∷◌, slice_get}
use Rattle.std.proofs.Common.{Option, None, Some, sym, ap, subst}
use Rattle.std.proofs.lemmas.Option.{same_Some}
use Rattle.object_core.specs.declared.operation.Operation.{Operation}
use Rattle.object_core.specs.Logs.{CanMake, IsLawfulOrder}
use Rattle.object_registers.specs.declared.exchanging.Exchange.{Exchange}
use Rattle.object_registers.specs.declared.exchanging.Exchange.TheVariants.{Sets, Gets, Swaps, Misses, Finds, Tries, Refuses}
use Rattle.object_registers.specs.declared.exchanging.Exchanging.{Exchanging}
use Rattle.object_registers.specs.declared.limited_exchanging.LimitedExchanging.{LimitedExchanging}
use Rattle.object_registers.specs.Registers.{exchanging_after, limited_exchanging_after, unlimited, written}

-- ---- a step with a limit is one without

-- where a test holds, or doesn't
held : (b : Bool) (s u t : LimitedExchanging) → cond b (Some u) None ≡ Some t → cond b (Some (unlimited u)) None ≡ Some (unlimited t)
held true s u t e = ap (λ z. Some (unlimited z)) (same_Some u t e)
held false s u t e = cc

not_held : (b : Bool) (s t : LimitedExchanging) → cond b None (Some s) ≡ Some t → cond b None (Some (unlimited s)) ≡ Some (unlimited t)
not_held true s t e = cc
not_held false s t e = ap (λ z. Some (unlimited z)) (same_Some s t e)

either : (b : Bool) (s u t : LimitedExchanging) → Some (cond b u s) ≡ Some t →
    Some (cond b (unlimited u) (unlimited s)) ≡ Some (unlimited t)
either true s u t e = ap (λ z. Some (unlimited z)) (same_Some u t e)
either false s u t e = ap (λ z. Some (unlimited z)) (same_Some s t e)

first_of : (a b : Bool) (s t : LimitedExchanging) → cond (a && b) (Some s) None ≡ Some t →
    cond a (Some (unlimited s)) None ≡ Some (unlimited t)
first_of true true s t e = ap (λ z. Some (unlimited z)) (same_Some s t e)
first_of true false s t e = cc
first_of false b s t e = cc

follows : (s t : LimitedExchanging) (what : Exchange) → limited_exchanging_after s what ≡ Some t →
    exchanging_after (unlimited s) what ≡ Some (unlimited t)
follows s t (Sets value) e = ap (λ z. Some (unlimited z)) (same_Some (written s value) t e)
follows s t (Gets value) e = held (nat_eq s.held value) s s t e
follows s t (Swaps from to) e = held (nat_eq s.held from) s (written s to) t e
follows s t (Misses from) e = not_held (nat_eq s.held from) s t e
follows s t (Finds from found) e = held (nat_eq s.held found && not (nat_eq from found)) s s t e
follows s t (Tries from to) e = either (nat_eq s.held from) s (written s to) t e
follows s t (Refuses value) e = first_of (nat_eq s.held value) (nat_eq s.due 0) s t e

all_follow : (log : List (Operation Exchange)) (s : LimitedExchanging) (order : List ℕ) → CanMake limited_exchanging_after log s order →
    CanMake exchanging_after log (unlimited s) order
all_follow log s [] h = tt
all_follow log s (p ∷ rest) h = (h.0, unlimited h.1, h.2, follows s h.1 h.0.what h.3, all_follow log h.1 rest h.4)

pub forbids : (opening : LimitedExchanging) (log : List (Operation Exchange)) (order : List ℕ) →
    IsLawfulOrder limited_exchanging_after opening log order → IsLawfulOrder exchanging_after (unlimited opening) log order
forbids opening log order h = record {
  listing = h.listing;
  precedence = h.precedence;
  steps = all_follow log opening order h.steps;
}

-- ---- and where none is due, a step without is one with a limit

abbrev no_due : Exchanging → LimitedExchanging
no_due x = record { held = x.held; due = 0 }

kept : (b : Bool) (u t : Exchanging) → cond b (Some u) None ≡ Some t → cond b (Some (no_due u)) None ≡ Some (no_due t)
kept true u t e = ap (λ z. Some (no_due z)) (same_Some u t e)
kept false u t e = cc

kept_else : (b : Bool) (x t : Exchanging) → cond b None (Some x) ≡ Some t → cond b None (Some (no_due x)) ≡ Some (no_due t)
kept_else true x t e = cc
kept_else false x t e = ap (λ z. Some (no_due z)) (same_Some x t e)

kept_both : (b : Bool) (x u t : Exchanging) → Some (cond b u x) ≡ Some t → Some (cond b (no_due u) (no_due x)) ≡ Some (no_due t)
kept_both true x u t e = ap (λ z. Some (no_due z)) (same_Some u t e)
kept_both false x u t e = ap (λ z. Some (no_due z)) (same_Some x t e)

kept_refused : (b : Bool) (x t : Exchanging) → cond b (Some x) None ≡ Some t → cond (b && true) (Some (no_due x)) None ≡ Some (no_due t)
kept_refused true x t e = ap (λ z. Some (no_due z)) (same_Some x t e)
kept_refused false x t e = cc

goes_on : (x t : Exchanging) (what : Exchange) → exchanging_after x what ≡ Some t →
    limited_exchanging_after (no_due x) what ≡ Some (no_due t)
goes_on x t (Sets value) e = ap (λ z. Some (no_due z)) (same_Some (record { held = value }) t e)
goes_on x t (Gets value) e = kept (nat_eq x.held value) x t e
goes_on x t (Swaps from to) e = kept (nat_eq x.held from) (record { held = to }) t e
goes_on x t (Misses from) e = kept_else (nat_eq x.held from) x t e
goes_on x t (Finds from found) e = kept (nat_eq x.held found && not (nat_eq from found)) x t e
goes_on x t (Tries from to) e = kept_both (nat_eq x.held from) x (record { held = to }) t e
goes_on x t (Refuses value) e = kept_refused (nat_eq x.held value) x t e

all_go_on : (log : List (Operation Exchange)) (x : Exchanging) (order : List ℕ) → CanMake exchanging_after log x order →
    CanMake limited_exchanging_after log (no_due x) order
all_go_on log x [] h = tt
all_go_on log x (p ∷ rest) h = (h.0, no_due h.1, h.2, goes_on x h.1 h.0.what h.3, all_go_on log h.1 rest h.4)

pub none_due : (opening : LimitedExchanging) (log : List (Operation Exchange)) (order : List ℕ) → opening.due ≡ 0 →
    IsLawfulOrder exchanging_after (unlimited opening) log order → IsLawfulOrder limited_exchanging_after opening log order
none_due opening log order none h = record {
  listing = h.listing;
  precedence = h.precedence;
  steps = (let P : ℕ → Type 0 = λ n. CanMake limited_exchanging_after log (record { held = opening.held; due = n }) order in
      subst P (sym none) (all_go_on log (unlimited opening) order h.steps));
}
