-- The two ways of a read: its load decides it, or the swap after a load that found the mark.
use Rattle.std.proofs.Common.{◌≡◌, ℕ, ◌+◌, ◌*◌, ◌%◌, ◌<◌, ◌≤◌, List, [], ◌∷◌, ◌++◌, length, set, refl, sym, ap, ◌∙◌, subst, arith}
use Rattle.std.proofs.Common.{append-nil, Bool, true, false, inl, inr}
use Rattle.std.specs.Prelude.{◌||◌}
use mathlib.Core.Option.{none}
use Rattle.atomic_table.specs.Table.{Me, step}
use Rattle.cell_contract.specs.Running.{held_slots}
use Rattle.cell_contract.specs.declared.sight.Sight.TheVariants.{Spent, Reader}
use Rattle.cell_triple.specs.declared.notes.ReaderNotes.{ReaderNotes}
use Rattle.cell_triple.specs.Steps.{TripleSight, looked_by, asked_by, fetched, answered}
use Rattle.family_table.specs.declared.notes.Process.{Process}
use Rattle.family_table.specs.declared.notes.View.{View}
use Rattle.family_table.specs.declared.notes.View.TheVariants.{Has}
use Rattle.family_table.specs.Family.{knows}
use Rattle.family_table.proofs.Slices.{get_set_here, set_long, set_twice}
use Rattle.family_triple.specs.Access.{HasLooked, shown_by}
use Rattle.family_triple.specs.Places.{slot_at}
use Rattle.family_triple.specs.Steps.{alters, looks, fetches}
use Rattle.family_triple.specs.Tables.{HasReader, IsRotated}

pub word_is : (k : ℕ) → 8 * k + 8 ≡ 8 * k + 8 + 0
word_is k = omega arith

marked_is : true ≡ false → ⊥
marked_is e = cc

pub unturned : {A : Type 0} (xs ys : List A) → ys ≡ xs → IsRotated xs ys
unturned xs ys e = (xs, [], sym (append-nil xs), e)

-- a read whose record is shown always, or where the mark was found, sees it as it has to
pub is_shown : {L T : Type 0} (sees : L → T → L → Type 0) (again marked : Bool) (old new : L) (answer last : T) →
    ((again || marked) ≡ true → sees old answer new) → ((again || marked) ≡ false → new ≡ old) → (marked ≡ false → answer ≡ last) →
    shown_by again sees last old answer new
is_shown sees true marked old new answer last shown unshown same = shown refl
is_shown sees false true old new answer last shown unshown same = inl (shown refl)
is_shown sees false false old new answer last shown unshown same = inr (unshown refl, same refl)

module _ {T : Type 0} (fits : T → Type 0) (rises : T → T → Type 0) where
  module _ (words k n slot : ℕ) (v : Process (TripleSight T)) (g : ReaderNotes T) (cs : List (ℕ × T)) (me m : Me T (View (TripleSight T)))
      (reader : HasReader me k v g) (there : me.1 ≡ (slot_at k g.slot, g.at_hand.value) ∷ cs) (low : g.slot < 3) (is : slot ≡ g.slot)
      (told : looks fits rises (step words (8 * k + 8) 0 0 none) me n m) where
    pub looked_now : n < 4 → HasLooked fits rises k v g cs m slot false
    looked_now less =
        let d = (told k v g (word_is k) reader.process.one reader.notes).1 less in
        let a = d.4 in
        subst (λ z. HasLooked fits rises k v g cs m z false) (sym is) (record {
          notes = looked_by g n;
          answer = g.at_hand.value;
          time = d.0;
          number = d.1;
          writes = d.2;
          same = (refl, refl, refl);
          kept = (refl, refl);
          took = (refl, refl, low);
          later = a.0;
          slots = a.2 ∙ there;
          view = a.1
              ∙ ap (λ zs. Has (knows Spent v k (Reader (answered (looked_by g n) g.at_hand.value d.0 d.1 d.2)) d.0
              (held_slots zs) ∷ [])) there;
          may = d.5;
          again = λ _. refl;
          did = d.6;
          heard = refl;
          heeds = d.7;
        })

    abbrev pub asking : Process (TripleSight T)
    asking = alters v k (Reader (asked_by g n)) (held_slots me.1)

    pub asked_reader : 4 ≤ n → HasReader m k asking (asked_by g n)
    asked_reader marked =
        let b = (told k v g (word_is k) reader.process.one reader.notes).0 marked in
        let has : k < length v.parts = reader.process.has in
        let long : length (set v.parts k (Reader (asked_by g n))) ≡ length v.parts = set_long v.parts k (Reader (asked_by g n)) in
        let z : k < length (set v.parts k (Reader (asked_by g n))) = omega arith in record {
          process = record { one = b.0; has = z; held = unturned (held_slots me.1) (held_slots m.1) (ap held_slots b.1) };
          notes = get_set_here v.parts k (Reader (asked_by g n)) Spent has;
        }

    pub asked_slots : 4 ≤ n → m.1 ≡ (slot_at k g.slot, g.at_hand.value) ∷ cs
    asked_slots marked = ((told k v g (word_is k) reader.process.one reader.notes).0 marked).1 ∙ there

    pub fetched_now : 4 ≤ n → (n' new : ℕ) (m' : Me T (View (TripleSight T))) →
        fetches fits rises (step words (8 * k + 8) new 0 none) m n' m' →
        HasLooked fits rises k v g cs m' (n' % 4) true
    fetched_now marked n' new m' swapped =
        let reads = asked_reader marked in
        let q : ReaderNotes T = asked_by g n in
        let d = swapped k asking q g.at_hand.value cs (word_is k) reads.process.one reads.notes (asked_slots marked) refl in
        let a = d.6 in
        let w : TripleSight T = Reader (answered (fetched q (n' % 4) d.0) d.0 d.1 d.2 d.3) in
        let held : List ℕ = held_slots ((slot_at k (n' % 4), d.0) ∷ cs) in record {
          notes = fetched q (n' % 4) d.0;
          answer = d.0;
          time = d.1;
          number = d.2;
          writes = d.3;
          same = (refl, refl, refl);
          kept = (refl, refl);
          took = (refl, refl, d.4);
          later = a.0;
          slots = a.2;
          view = a.1 ∙ ap (λ ps. Has (record v { clock = d.1; times = v.times ++ d.1 ∷ []; held = held; parts = ps } ∷ []))
              (set_twice v.parts k (Reader q) w);
          may = d.7;
          again = λ unmarked. absurd (marked_is unmarked);
          did = d.8;
          heard = refl;
          heeds = d.9;
        }
