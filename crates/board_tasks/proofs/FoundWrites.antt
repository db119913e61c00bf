-- In a log whose entries are in order a stamp is found by halves, and its write is the first entry that isn't below it.
use Rattle.std.proofs.Common.{◌≡◌, ℕ, zero, suc, ◌+◌, ◌<◌, ◌≤◌, Bool, true, false, ◌&&◌, List, [], ◌∷◌, length, refl, sym, ◌∙◌, subst}
use Rattle.std.proofs.Common.{arith, add-one, ⊎_elim}
use Rattle.std.specs.Prelude.{slice_get, Some, None, ◌||◌}
use Rattle.std.specs.List.{list_any}
use Rattle.std.proofs.lemmas.Bool.{cases_lt}
use Rattle.std.proofs.lemmas.Bool.Decides.{nat_tests}
use Rattle.std.proofs.lemmas.Option.{none-some, same_Some, slice_get_within}
use Rattle.history_core.specs.declared.wish.Wish.{Wish}
use Rattle.history_core.specs.declared.wish.Wish.TheVariants.{Write, Read}
use Rattle.matrix_core.specs.Stamps.{is_below}
use Rattle.matrix_core.specs.declared.stamp.Stamp.{Stamp}
use Rattle.board_tasks.specs.declared.lane.Entry.{Entry}
use Rattle.board_tasks.specs.declared.lane.Reply.{Reply}
use Rattle.board_tasks.specs.declared.lane.Reply.TheVariants.{Written, Seen, Ended}
use Rattle.board_live.specs.declared.record.Posted.{Posted}
use Rattle.board_tasks.specs.inner.Found.{AreParted, IsFirstFrom}
use Rattle.board_tasks.specs.Logs.{is_at_most, stamp_of}
use Rattle.board_tasks.specs.Origins.{has_write, in_order, is_reply_at, KeptBefore, same_stamp, stamp_before, wrote}
use Rattle.board_tasks.proofs.LogLaws.{at_most_trans}
use Rattle.board_tasks.proofs.SoundLogs.{stamp_after}
use Rattle.board_tasks.proofs.SoundOrders.{any_in, in_at}
use Rattle.matrix_core.proofs.lists.Elements.{get_exists}

below_at_most : (a b : Stamp) → is_below a b ≡ true → is_at_most a b ≡ true
below_at_most a b h = grind (arith, nat_tests)

at_most_below : (a b c : Stamp) → is_at_most a b ≡ true → is_below b c ≡ true → is_below a c ≡ true
at_most_below a b c h k = grind (arith, nat_tests)

at_most_itself : (a : Stamp) → is_at_most a a ≡ true
at_most_itself a = grind (arith, nat_tests)

below_same : (a b c : Stamp) → same_stamp b c ≡ true → is_below a b ≡ true → is_below a c ≡ true
below_same a b c e h = grind (arith, nat_tests)

never_below : (a b : Stamp) → same_stamp a b ≡ true → is_below a b ≡ false
never_below a b e = grind (arith, nat_tests)

first_of : (a b : Bool) → (a && b) ≡ true → a ≡ true
first_of true b h = refl
first_of false b h = h

second_of : (a b : Bool) → (a && b) ≡ true → b ≡ true
second_of true b h = h
second_of false b h = cc

differ : (a : Bool) → a ≡ true → a ≡ false → ⊥
differ true t f = cc
differ false t f = cc

same_answer : (a b : Bool) → (a ≡ true → b ≡ true) → (b ≡ true → a ≡ true) → a ≡ b
same_answer true true f h = refl
same_answer false false f h = refl
same_answer true false f h = sym (f refl)
same_answer false true f h = h refl

abbrev AnyIn : {X : Type 0} → (X → Bool) → List X → Type 0
AnyIn p xs = (j : ℕ) × (x : _) × (slice_get xs j ≡ Some x) × (p x ≡ true)

any_first : {X : Type 0} (p : X → Bool) (x : X) (xs : List X) (b : Bool) → p x ≡ b → (b || list_any p xs) ≡ true
    → (list_any p xs ≡ true → AnyIn p xs) → AnyIn p (x ∷ xs)
any_first p x xs true e h rest = (0, x, refl, e)
any_first p x xs false e h rest = let w = rest h in (suc w.0, w.1, w.2, w.3)

any_back : {X : Type 0} (p : X → Bool) (xs : List X) → list_any p xs ≡ true → AnyIn p xs
any_back p [] h = cc
any_back p (x ∷ xs) h = any_first p x xs (p x) refl h (any_back p xs)

module _ {V : Type 0} where
  -- an entry in order isn't below the one before
  reply_up : (task : ℕ) (before : Stamp) (wish : Wish V) (reply : Reply V) → is_reply_at task before wish reply ≡ true
      → is_at_most before (stamp_of reply) ≡ true
  reply_up task before (Write item) (Written s) h = below_at_most before s (second_of _ (is_below before s) h)
  reply_up task before (Write item) (Seen p) h = cc
  reply_up task before (Write item) (Ended p) h = h
  reply_up task before Read (Written s) h = cc
  reply_up task before Read (Seen p) h = h
  reply_up task before Read (Ended p) h = cc

  -- and a write is above it
  write_up : (equal : V → V → Bool) (p : Posted V) (task : ℕ) (before : Stamp) (wish : Wish V) (reply : Reply V)
      → is_reply_at task before wish reply ≡ true → wrote equal p wish reply ≡ true → is_below before p.stamp ≡ true
  write_up equal p task before (Write item) (Written s) h w =
      below_same before s p.stamp (first_of (same_stamp s p.stamp) _ w) (second_of _ (is_below before s) h)
  write_up equal p task before (Write item) (Seen q) h w = cc
  write_up equal p task before (Write item) (Ended q) h w = cc
  write_up equal p task before Read reply h w = cc

  write_stamp : (equal : V → V → Bool) (p : Posted V) (wish : Wish V) (reply : Reply V) → wrote equal p wish reply ≡ true
      → is_below (stamp_of reply) p.stamp ≡ false
  write_stamp equal p (Write item) (Written s) w = never_below s p.stamp (first_of (same_stamp s p.stamp) _ w)
  write_stamp equal p (Write item) (Seen q) w = cc
  write_stamp equal p (Write item) (Ended q) w = cc
  write_stamp equal p Read reply w = cc

  module _ (task : ℕ) (log : List (Entry V)) (ordered : KeptBefore in_order task log (length log)) where
    kept_at : (j : ℕ) (e : Entry V) → slice_get log j ≡ Some e → is_reply_at task (stamp_before log j) e.wish e.reply ≡ true
    kept_at j e at = ordered j e (slice_get_within log j e at) at

    next_up : (j : ℕ) (e : Entry V) → slice_get log j ≡ Some e → is_at_most (stamp_before log j) (stamp_of e.reply) ≡ true
    next_up j e at = reply_up task (stamp_before log j) e.wish e.reply (kept_at j e at)

    -- the stamps before a place are at most the one before it
    before_up : (k j : ℕ) (e : Entry V) → slice_get log k ≡ Some e → k < j → j ≤ length log
        → is_at_most (stamp_of e.reply) (stamp_before log j) ≡ true
    before_up k zero e at less within = absurd (omega arith)
    before_up k (suc j) e at less within =
        let f = get_exists log j (omega arith) in
        let after : stamp_before log (j + 1) ≡ stamp_of f.0.reply = stamp_after log j f.0 f.1 in
        let up : is_at_most (stamp_of e.reply) (stamp_of f.0.reply) ≡ true =
        ⊎_elim (λ (l : k < j). at_most_trans (stamp_of e.reply) (stamp_before log j) (stamp_of f.0.reply)
        (before_up k j e at l (omega arith)) (next_up j f.0 f.1))
        (λ (m : j ≤ k).
        let same : k ≡ j = omega arith in
        let here : e ≡ f.0 = same_Some e f.0 (sym at ∙ subst (λ n. slice_get log n ≡ Some f.0) (sym same) f.1) in
        subst (λ (z : Entry V). is_at_most (stamp_of e.reply) (stamp_of z.reply) ≡ true) here (at_most_itself (stamp_of e.reply)))
        (cases_lt k j) in
        subst (λ n. is_at_most (stamp_of e.reply) (stamp_before log n) ≡ true) (add-one j)
        (subst (λ s. is_at_most (stamp_of e.reply) s ≡ true) (sym after) up)

    -- stamps never fall
    rises_to : (k j : ℕ) (e f : Entry V) → slice_get log k ≡ Some e → slice_get log j ≡ Some f → k < j
        → is_at_most (stamp_of e.reply) (stamp_of f.reply) ≡ true
    rises_to k j e f at at' less =
        at_most_trans (stamp_of e.reply) (stamp_before log j) (stamp_of f.reply)
        (let w = slice_get_within log j f at' in before_up k j e at less (omega arith)) (next_up j f at')

    -- ---- by halves

    pub parted_none : (s : Stamp) → AreParted log s 0 (length log)
    parted_none s = record {
      inside = (omega arith, omega arith);
      below = λ j e less at. absurd (omega arith);
      from = λ j e less at. absurd (let w = slice_get_within log j e at in omega arith);
    }

    pub parted_all : (s : Stamp) (low high : ℕ) → AreParted log s low high → high ≤ low → IsFirstFrom log s low
    parted_all s low high h l =
        let i = h.inside.0 in
        let same : high ≡ low = omega arith in
        subst (λ n. AreParted log s low n) same h

    pub part_low : (s : Stamp) (low high middle : ℕ) (e : Entry V) → AreParted log s low high → low ≤ middle → middle < high
        → slice_get log middle ≡ Some e → is_below (stamp_of e.reply) s ≡ true → AreParted log s (middle + 1) high
    part_low s low high middle e h l m at below = record {
      inside = let i = h.inside.1 in (omega arith, i);
      below = λ j f less at'.
          ⊎_elim (λ (q : j < middle). at_most_below (stamp_of f.reply) (stamp_of e.reply) s (rises_to j middle f e at' at q) below)
          (λ (q : middle ≤ j).
          let same : j ≡ middle = omega arith in
          let here : e ≡ f = same_Some e f (sym at ∙ subst (λ n. slice_get log n ≡ Some f) same at') in
          subst (λ (z : Entry V). is_below (stamp_of z.reply) s ≡ true) here below)
          (cases_lt j middle);
      from = h.from;
    }

    not_below : (a b s : Stamp) → is_at_most a b ≡ true → is_below a s ≡ false → is_below b s ≡ false
    not_below a b s h k = grind (arith, nat_tests)

    pub part_high : (s : Stamp) (low high middle : ℕ) (e : Entry V) → AreParted log s low high → low ≤ middle → middle < high
        → slice_get log middle ≡ Some e → is_below (stamp_of e.reply) s ≡ false → AreParted log s low middle
    part_high s low high middle e h l m at above = record {
      inside = let i = h.inside.1 in (l, omega arith);
      below = h.below;
      from = λ j f less at'.
          ⊎_elim (λ (q : middle < j). not_below (stamp_of e.reply) (stamp_of f.reply) s (rises_to middle j e f at at' q) above)
          (λ (q : j ≤ middle).
          let same : j ≡ middle = omega arith in
          let here : e ≡ f = same_Some e f (sym at ∙ subst (λ n. slice_get log n ≡ Some f) same at') in
          subst (λ (z : Entry V). is_below (stamp_of z.reply) s ≡ false) here above)
          (cases_lt middle j);
    }

    -- ---- the write of a record

    module _ (equal : V → V → Bool) (p : Posted V) (place : ℕ) (h : IsFirstFrom log p.stamp place) where
      only_place : (j : ℕ) (f : Entry V) → slice_get log j ≡ Some f → wrote equal p f.wish f.reply ≡ true → j ≡ place
      only_place j f at w =
          let within = slice_get_within log j f at in
          ⊎_elim (λ (l : j < place). absurd (differ _ (h.below j f l at) (write_stamp equal p f.wish f.reply w)))
          (λ (m : place ≤ j). ⊎_elim
          (λ (l : place < j).
          let e = get_exists log place (omega arith) in
          absurd (differ _
          (at_most_below (stamp_of e.0.reply) (stamp_before log j) p.stamp (before_up place j e.0 e.1 l (omega arith))
          (write_up equal p task (stamp_before log j) f.wish f.reply (kept_at j f at) w))
          (h.from place e.0 (omega arith) e.1)))
          (λ (n : j ≤ place). let same : j ≡ place = omega arith in same)
          (cases_lt place j))
          (cases_lt j place)

      pub write_found : (e : Entry V) → slice_get log place ≡ Some e → wrote equal p e.wish e.reply ≡ has_write equal p (Some log)
      write_found e at =
          same_answer (wrote equal p e.wish e.reply) (has_write equal p (Some log))
          (λ w. any_in (λ (d : Entry V). wrote equal p d.wish d.reply) log e (in_at log place e at) w)
          (λ any.
          let f = any_back (λ (d : Entry V). wrote equal p d.wish d.reply) log any in
          let same : f.0 ≡ place = only_place f.0 f.1 f.2 f.3 in
          let here : f.1 ≡ e = same_Some f.1 e (sym f.2 ∙ subst (λ n. slice_get log n ≡ Some e) (sym same) at) in
          subst (λ (z : Entry V). wrote equal p z.wish z.reply ≡ true) here f.3)

      pub no_write : slice_get log place ≡ None → false ≡ has_write equal p (Some log)
      no_write at =
          same_answer false (has_write equal p (Some log)) (λ w. absurd (differ false w refl))
          (λ any.
          let f = any_back (λ (d : Entry V). wrote equal p d.wish d.reply) log any in
          let same : f.0 ≡ place = only_place f.0 f.1 f.2 f.3 in
          absurd (none-some f.1 (sym at ∙ subst (λ n. slice_get log n ≡ Some f.1) same f.2)))
