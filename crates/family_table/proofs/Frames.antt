-- A step on one cell leaves what a process knows of each other one.
use Rattle.std.proofs.Common.{◌≡◌, ◌≢◌, ◌⊎◌, ℕ, ◌<◌, nat_eq, cond, List, length, refl, sym, ap, ◌∙◌, subst, arith, ⊎_elim}
use Rattle.std.proofs.lemmas.Bool.{cases_eq}
use Rattle.family_table.specs.declared.notes.Process.{Process}
use Rattle.family_table.specs.Family.{of_cell, knows}
use Rattle.family_table.proofs.Seats.{differ, same_number}
use Rattle.family_table.proofs.Slices.{get_set_here, get_set_else, set_long}

-- one cell's notes change, and nothing else of what is known of cells
pub record IsChanged {V : Type 0} (blank : V) (v u : Process V) (k : ℕ) (w : V) : Type 0 where
  pub who : u.who ≡ v.who
  pub long : length u.parts ≡ length v.parts
  pub here : of_cell blank k u.parts ≡ w
  pub others : (j : ℕ) → j ≢ k → of_cell blank j u.parts ≡ of_cell blank j v.parts

module _ {V : Type 0} (blank : V) where
  pub changed : (v : Process V) (k t : ℕ) (w : V) (held : List ℕ) → k < length v.parts → IsChanged blank v (knows blank v k w t held) k w
  changed v k t w held l = record {
    who = refl;
    long = set_long v.parts k w;
    here = get_set_here v.parts k w blank l;
    others = λ j ne. get_set_else v.parts k j w blank ne;
  }

  pub changed_again : (v u : Process V) (k t : ℕ) (x w : V) (held : List ℕ) → k < length v.parts → IsChanged blank v u k x →
      IsChanged blank v (knows blank u k w t held) k w
  changed_again v u k t x w held l c =
      let long : length u.parts ≡ length v.parts = c.long in record {
        who = c.who;
        long = set_long u.parts k w ∙ c.long;
        here = get_set_here u.parts k w blank (omega arith);
        others = λ j ne. get_set_else u.parts k j w blank ne ∙ c.others j ne;
      }

-- what is seen of a cell that didn't change, or that is seen as before
module _ {V A : Type 0} (blank : V) (seen : V → A) where
  pub stays : (v u : Process V) (k : ℕ) (w : V) → IsChanged blank v u k w → (at : ℕ → ℕ → ℕ) (j : ℕ) →
      (j ≢ v.who → (at v.who j ≢ k) ⊎ (seen w ≡ seen (of_cell blank k v.parts))) →
      seen (cond (nat_eq j u.who) blank (of_cell blank (at u.who j) u.parts)) ≡ seen
      (cond (nat_eq j v.who) blank (of_cell blank (at v.who j) v.parts))
  stays v u k w c at j either =
      let who : u.who ≡ v.who = c.who in
      let P : ℕ → Type 0 = λ z. seen (cond (nat_eq j z) blank (of_cell blank (at z j) u.parts))
      ≡ seen (cond (nat_eq j v.who) blank (of_cell blank (at v.who j) v.parts)) in
      subst P (sym who) (⊎_elim
      (λ (e : j ≡ v.who).
      let t = same_number j v.who e in
      ap (λ b. seen (cond b blank (of_cell blank (at v.who j) u.parts))) t
      ∙ sym (ap (λ b. seen (cond b blank (of_cell blank (at v.who j) v.parts))) t))
      (λ (ne : j ≢ v.who).
      let f = differ j v.who ne in
      ap (λ b. seen (cond b blank (of_cell blank (at v.who j) u.parts))) f
      ∙ (⊎_elim
      (λ (away : at v.who j ≢ k). ap seen (c.others (at v.who j) away))
      (λ (same : seen w ≡ seen (of_cell blank k v.parts)). ⊎_elim
      (λ (e : at v.who j ≡ k). ap (λ z. seen (of_cell blank z u.parts)) e
      ∙ (ap seen c.here ∙ (same ∙ sym (ap (λ z. seen (of_cell blank z v.parts)) e))))
      (λ (d : at v.who j ≢ k). ap seen (c.others (at v.who j) d))
      (cases_eq (at v.who j) k))
      (either ne)
      ∙ sym (ap (λ b. seen (cond b blank (of_cell blank (at v.who j) v.parts))) f)))
      (cases_eq j v.who))
