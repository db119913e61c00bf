-- The start has the rule: all bits are 0, the opening stands in all four slots, and one seat sees it. A family parts that seat at once.
use Rattle.std.proofs.Common.{◌≡◌, ℕ, zero, suc, ◌+◌, ◌*◌, Bool, true, false, None, Some, List, [], ◌∷◌, map, sym, refl, ap, ◌∙◌, subst}
use Rattle.std.proofs.Common.{arith, ◌≤◌, le_refl}
use mathlib.Core.Option.{some, some-injective, some-ne-none}
use lib.ListN.{get_elem?}
use Rattle.atomic_table.specs.Table.{State, Me, opening}
use Rattle.four_slot_core.specs.Events.{side, bit_number, both, opening_state}
use Rattle.four_slot_core.specs.Invariant.{latest_slot}
use Rattle.four_slot_core.proofs.events.Keeping.{opening_is_sound}
use Rattle.four_slot_core.specs.Interleaving.Leads.{Stays}
use Rattle.cell_four_slot.specs.Steps.{FourSlotSight, first_writer, first_reader, first_sight}
use Rattle.cell_four_slot.specs.Rule.{number_in, named_slot, Sees, FourSlotRule}
use Rattle.cell_contract.proofs.Timing.{first_all}
use Rattle.cell_four_slot.proofs.Timing.{timed_starts}
use Rattle.cell_four_slot.proofs.Keeps.Seats.{reseated_at}

module _ {T : Type 0} where
  open_records : (o : T) (a b : Bool) → side (side (both (both o)) a) b ≡ o
  open_records o true true = refl
  open_records o true false = refl
  open_records o false true = refl
  open_records o false false = refl

  open_homes : (o : T) (a b : Bool) → get_elem? (map some (o ∷ o ∷ o ∷ o ∷ [])) (2 * bit_number a + bit_number b) ≡ some (some o)
  open_homes o true true = refl
  open_homes o true false = refl
  open_homes o false true = refl
  open_homes o false false = refl

module _ {T : Type 0} (fits : T → Type 0) (rises : T → T → Type 0) (o : T) where
  abbrev V : Type 0
  V = FourSlotSight T

  abbrev St : Type 0
  St = State T V

  abbrev M : Type 0
  M = Me T V

  abbrev Rule : St → Type 0
  Rule = FourSlotRule fits rises o

  abbrev shown_number : {s : St} → Rule s → ℕ
  shown_number r = number_in r.put.slots (latest_slot r.core)

  abbrev RuleAt : ℕ → St → Type 0
  RuleAt t s = (r : Rule s) × (r.now ≤ t)

  abbrev pair_number : {s : St} → Rule s → ℕ
  pair_number r = number_in r.put.slots (named_slot r.core r.core.read.pair)

  only_one : (j : ℕ) (v : V) → get_elem? (first_sight o ∷ []) j ≡ some v → Sees o (first_writer o) (first_reader o) 0 0 0 0 j v
  only_one zero v e = subst (Sees o (first_writer o) (first_reader o) 0 0 0 0 0) (some-injective (first_sight o) v e)
      (refl, refl, refl, refl)
  only_one (suc j) v e = absurd (some-ne-none v (sym e))

  pub starts_at : fits o → RuleAt 0 (opening (0 ∷ 0 ∷ 0 ∷ 0 ∷ []) (o ∷ o ∷ o ∷ o ∷ []) (first_sight o))
  starts_at f = (
    record {
      put = first_writer o;
      get = first_reader o;
      writer = 0;
      reader = 0;
      core = opening_state o o;
      in_table = record {
        words_are = refl;
        four = refl;
        home = λ k mine theirs. open_homes o k.pair k.index ∙ ap (λ (y : T). some (some y)) (sym (open_records o k.pair k.index));
        in_writer = λ n. absurd n;
        in_reader = λ k u. let e : None ≡ Some k = u.1 in absurd (cc);
      };
      in_views = record {
        writer_at = refl;
        write_is = refl;
        item_is = refl;
        remembered_are = refl;
        latest_is = refl;
        reader_at = refl;
        read_is = refl;
        chosen_is = refl;
      };
      noise = refl;
      shown = (tt, tt);
      sound = opening_is_sound o o;
      numbered = record {
        counted = refl;
        under_way = λ n. absurd n;
        content = λ k. ap some (sym (open_records o k.pair k.index));
        newest = refl;
        older = λ k ne l. absurd (omega arith);
        finished = refl;
        latest = λ _. refl;
      };
      settled = record { to_latest = (tt, λ k d l. absurd (omega arith)); to_pair = λ b. absurd b };
      counted = record { writes = le_refl 0; reads = le_refl 0 };
      openings = (refl, refl);
      lawful = (f, tt);
      leads = Stays (opening_state o o) (opening_state o o) refl;
      now = 0;
      timed = timed_starts o;
      known = first_all [] (first_writer o).times;
      each_seat = λ j v e. only_one j v e;
    },
    le_refl 0,
  )

  pub starts : fits o → Rule (opening (0 ∷ 0 ∷ 0 ∷ 0 ∷ []) (o ∷ o ∷ o ∷ o ∷ []) (first_sight o))
  starts f = (starts_at f).0

  -- the start, with any views
  pub parted_at : fits o → (w g : ℕ) (vs : List V) →
      ((j : ℕ) (v : V) → get_elem? vs j ≡ some v → Sees o (first_writer o) (first_reader o) 0 0 w g j v) →
      RuleAt 0 (record { words = 0 ∷ 0 ∷ 0 ∷ 0 ∷ []; homes = some o ∷ some o ∷ some o ∷ some o ∷ []; views = vs })
  unfolding starts_at
  parted_at f w g vs seats =
      reseated_at fits rises o 0 (opening (0 ∷ 0 ∷ 0 ∷ 0 ∷ []) (o ∷ o ∷ o ∷ o ∷ []) (first_sight o)) (starts_at f) w g vs seats
