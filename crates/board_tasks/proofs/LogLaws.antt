-- Logs that get one more entry.
use Rattle.std.proofs.Common.{get_or, ◌≡◌, Bool, ℕ, zero, suc, ◌+◌, ◌<◌, List, [], ◌∷◌, ◌++◌, length, length-append, refl, sym, ◌∙◌, ap}
use Rattle.std.proofs.Common.{subst, arith, true, ◌⊎◌, inl}
use Rattle.std.proofs.Common.{inr, ⊎_elim}
use Rattle.std.specs.Prelude.{All, slice_get, Some, not, ◌&&◌, ◌||◌, nat_lt, nat_eq}
use Rattle.std.proofs.lemmas.Option.{same_Some, none-some, slice_get_read, slice_get_within, get_or_from_slice_get}
use Rattle.std.proofs.lemmas.List.Elements.{All-get_or}
use Rattle.std.proofs.lemmas.List.{take_more, map-append}
use Rattle.std.proofs.lemmas.Bool.Decides.{nat_tests}
use Rattle.history_core.specs.declared.wish.Wish.{Wish}
use Rattle.history_core.specs.declared.wish.Wish.TheVariants.{Write, Read}
use Rattle.matrix_core.specs.Stamps.{IsBelow}
use Rattle.matrix_core.specs.declared.stamp.Stamp.{Stamp}
use Rattle.cell_contract.specs.declared.family.Family.{Ghosts as FamilyWords}
use Rattle.board_live.specs.declared.board.Board.{Board}
use Rattle.board_live.specs.declared.board.Pass.{Pass}
use Rattle.board_live.specs.declared.record.Posted.{Posted}
use Rattle.board_tasks.specs.declared.lane.Reply.{Reply}
use Rattle.board_tasks.specs.declared.lane.Reply.TheVariants.{Written, Seen, Ended}
use Rattle.board_tasks.specs.declared.lane.Entry.{Entry}
use Rattle.board_live.specs.Records.{Rises, rises_on}
use Rattle.board_tasks.specs.Logs.{IsLogOfScript, is_at_most, stamp_of}
use Rattle.board_tasks.specs.Tasks.{IsEntry, Replies, AreCalls}

at_most_parts : (m v n w p x : ℕ) → not (nat_lt n m || (nat_eq n m && nat_lt w v)) ≡ true
    → not (nat_lt p n || (nat_eq p n && nat_lt x w)) ≡ true
    → not (nat_lt p m || (nat_eq p m && nat_lt x v)) ≡ true
at_most_parts m v n w p x h k = grind (arith, nat_tests)

pub at_most_trans : (a b c : Stamp) → is_at_most a b ≡ true → is_at_most b c ≡ true → is_at_most a c ≡ true
at_most_trans a b c h k = at_most_parts a.tag a.writer b.tag b.writer c.tag c.writer h k

at_most_below : (a b : Stamp) → IsBelow a b → is_at_most a b ≡ true
at_most_below a b h = grind (arith, nat_tests)

at_most_self : (a : Stamp) → is_at_most a a ≡ true
at_most_self a = grind (arith, nat_tests)

pub at_most_rises : {V : Type 0} (a b : Posted V) → Rises a b → is_at_most a.stamp b.stamp ≡ true
at_most_rises a b (inl p) = at_most_below a.stamp b.stamp p
at_most_rises a b (inr e) = rw e.0 (at_most_self b.stamp)

-- an element of a list with one more is one of the list, or the one
pub get_last : {X : Type 0} (a : List X) (z : X) (n : ℕ) (x : X) → slice_get (a ++ z ∷ []) n ≡ Some x
    → (slice_get a n ≡ Some x) ⊎ ((n ≡ length a) × (x ≡ z))
get_last [] z zero x h = inr (refl, sym (same_Some z x h))
get_last [] z (suc n) x h = absurd (none-some x h)
get_last (y ∷ a) z zero x h = inl h
get_last (y ∷ a) z (suc n) x h = ⊎_elim (λ p. inl p) (λ q. inr (ap suc q.0, q.1)) (get_last a z n x h)

-- a log of calls whose records rise
pub log_more : {V : Type 0} (script : List (Wish V)) (log : List (Entry V)) (own new : Posted V) (e : Entry V)
    → IsLogOfScript script log own.stamp → slice_get script (length log) ≡ Some e.wish → Rises own new → stamp_of e.reply ≡ new.stamp
    → IsLogOfScript script (log ++ e ∷ []) new.stamp
log_more script log own new e h at up same =
    let lt : length log < length script = slice_get_within script (length log) e.wish at in
    let long : length (log ++ e ∷ []) ≡ length log + 1 = length-append log (e ∷ []) in
    let up' : is_at_most own.stamp new.stamp ≡ true = at_most_rises own new up in
    let last : is_at_most (stamp_of e.reply) new.stamp ≡ true = rw same (at_most_self new.stamp) in
    let old : (j : ℕ) (f : Entry _) → slice_get log j ≡ Some f → is_at_most (stamp_of f.reply) new.stamp ≡ true =
    λ j f p. at_most_trans (stamp_of f.reply) own.stamp new.stamp (h.below j f p) up' in
    record {
      wishes = rw (
        long,
        take_more script (length log) e.wish lt,
        map-append (λ (d : Entry _). d.wish) log (e ∷ []),
        h.wishes,
        get_or_from_slice_get script (length log) e.wish e.wish at,
      )
          refl;
      within = rw long (omega arith);
      rising = λ j k f d l p q. ⊎_elim
          (λ qa. ⊎_elim (λ pa. h.rising j k f d l pa qa)
          (λ (pb : (j ≡ length log) × (f ≡ e)). absurd (let e1 : j ≡ length log = pb.0 in omega (arith, slice_get_within log k d qa)))
          (get_last log e j f p))
          (λ (qb : (k ≡ length log) × (d ≡ e)). ⊎_elim
          (λ pa. rw (qb.1, same) (old j f pa))
          (λ (pb : (j ≡ length log) × (f ≡ e)). absurd (let e1 : j ≡ length log = pb.0 in let e2 : k ≡ length log = qb.0 in omega arith))
          (get_last log e j f p))
          (get_last log e k d q);
      below = λ j f p. ⊎_elim (λ pa. old j f pa) (λ (pb : (j ≡ length log) × (f ≡ e)). rw pb.1 last) (get_last log e j f p);
    }

-- the next wish of a script
pub wish_at : {A B : Type 0} (script : List A) (log : List B) (n : ℕ) (x : A) → n ≡ length log → length log < length script →
    x ≡ get_or script n x → slice_get script (length log) ≡ Some x
wish_at script log n x e lt read = subst (λ i. slice_get script i ≡ Some x) e (slice_get_read script _ n x refl (omega (arith, e, lt)) read)

pub obeys_at : {A B : Type 0} (P : A → Type 0) (script : List A) (log : List B) (n : ℕ) (x : A) → n ≡ length log →
    length log < length script → x ≡ get_or script n x → All P script → P x
obeys_at P script log n x e lt read h = subst P (sym read) (All-get_or P script n x (omega (arith, e, lt)) h)

pub stamp_replied : {V : Type 0} (limit process : ℕ) (wish : Wish V) (seen chosen : Posted V) (reply : Reply V)
    → Replies limit process wish seen chosen reply → stamp_of reply ≡ chosen.stamp
stamp_replied limit process Read seen chosen (Written s) h = absurd h
stamp_replied limit process Read seen chosen (Seen p) h = ap (λ (q : Posted _). q.stamp) h.0 ∙ sym (ap (λ (q : Posted _). q.stamp) h.1)
stamp_replied limit process Read seen chosen (Ended p) h = absurd h
stamp_replied limit process (Write item) seen chosen (Written s) h = sym (ap (λ (q : Posted _). q.stamp) h.2)
stamp_replied limit process (Write item) seen chosen (Seen p) h = absurd h
stamp_replied limit process (Write item) seen chosen (Ended p) h =
    ap (λ (q : Posted _). q.stamp) h.1 ∙ sym (ap (λ (q : Posted _). q.stamp) h.2)

module _ {V F S T : Type 0} (family : FamilyWords F (Posted V) S T) (obeys : V → Bool) where
  -- the log after one more call
  pub log_called : (board : Board V F S T) (script : List (Wish V)) (log : List (Entry V)) (old new : Pass V F S T) (e : Entry V)
      → IsLogOfScript script log old.own.stamp → slice_get script (length log) ≡ Some e.wish → IsEntry family obeys board old e new
      → IsLogOfScript script (log ++ e ∷ []) new.own.stamp
  log_called board script log old new e h at entry = log_more script log old.own new.own e h at
      (rises_on old.own entry.seen new.own entry.call.rises entry.call.onward)
      (stamp_replied board.limit old.process e.wish entry.seen new.own e.reply entry.replies)

  -- one more call after others
  pub calls_more : (board : Board V F S T) (old : Pass V F S T) (es : List (Entry V))
      (mid : Pass V F S T) (e : Entry V) (new : Pass V F S T)
      → AreCalls family obeys board old es mid → IsEntry family obeys board mid e new → AreCalls family obeys board old (es ++ e ∷ []) new
  calls_more board old [] mid e new h one = (new, rw h one, refl)
  calls_more board old (d ∷ es) mid e new h one = (h.0, h.1, calls_more board h.0 es mid e new h.2 one)
