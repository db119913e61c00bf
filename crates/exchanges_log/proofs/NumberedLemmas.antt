-- Records that get their numbers one after the other: those that were met stay where they stand.
use Rattle.std.proofs.Common.{◌≡◌, ℕ, List, [], ◌∷◌, ◌++◌, length, refl, ap, sym, ◌∙◌, subst, slice_get, Some, None}
use Rattle.std.proofs.Common.{inl, inr, zero, suc}
use Rattle.history_core.proofs.Places.{get_last, get_pushed_cases, get_stays}
use Rattle.object_registers.specs.declared.exchanging.Exchange.{Exchange}
use Rattle.object_registers.specs.declared.exchanging.Exchange.TheVariants.{Gets, Finds}
use Rattle.kept_lines.specs.Numberings.{MeetsRecord}
use Rattle.exchanges_log.specs.Numberings.{GaveNumber, IsNumbering}
use Rattle.exchanges_log.specs.declared.numbering.Numbering.{Numbering}
use Rattle.lines_log.specs.inner.Numbers.{Grow}
use Rattle.read_exchange.specs.Exchanges.{SaidExchange, gets, finds}
use Rattle.exchanges_log.specs.ExchangeLogs.{MeansExchange, texts_of}
use Rattle.exchanges_log.specs.ExchangeNumbers.{AreNumbersOf, GaveNumbers, GrowBy, IsExchangeNow}

pub grow_none : (records : List (List ℕ)) → GrowBy records [] records
grow_none records = record { grows = λ n text at. at; met = λ n text at. inl at }

grow_one : (records after : List (List ℕ)) (text : List ℕ) → MeetsRecord records text after → GrowBy records (text ∷ []) after
grow_one records after text (inl same) = record {
  grows = λ n t at. ap (λ l. slice_get l n) same ∙ at;
  met = λ n t at. inl (sym (ap (λ l. slice_get l n) same) ∙ at);
}
grow_one records after text (inr more) = record {
  grows = λ n t at. ap (λ l. slice_get l n) more ∙ get_stays records t text n at;
  met = λ n t at. elim (get_pushed_cases records text n t (sym (ap (λ l. slice_get l n) more) ∙ at)) [
    | inl old ↦ inl old
    | inr new ↦ inr (0, ap Some new.1)
  ];
}

-- first by some texts, then by one more
grow_more : (records mid after texts : List (List ℕ)) (text : List ℕ) → GrowBy records texts mid → GrowBy mid (text ∷ []) after
    → GrowBy records (texts ++ text ∷ []) after
grow_more records mid after texts text before now = record {
  grows = λ n t at. now.grows n t (before.grows n t at);
  met = λ n t at. elim (now.met n t at) [
    | inl old ↦ elim (before.met n t old) [
      | inl was ↦ inl was
      | inr among ↦ inr (among.0, get_stays texts t text among.0 among.1)
    ]
    | inr new ↦ inr (length texts, get_last texts text (length texts) refl ∙ ap Some (only new.0 t new.1))
  ];
}
  where
    only : (i : ℕ) (t : List ℕ) → slice_get (text ∷ []) i ≡ Some t → text ≡ t
    only zero t e = cc
    only (suc i) t e = cc

numbers_stay : (records after texts : List (List ℕ)) (ns : List ℕ) → Grow records after → AreNumbersOf records texts ns
    → AreNumbersOf after texts ns
numbers_stay records after [] [] grows are = tt
numbers_stay records after [] (n ∷ ns) grows are = are
numbers_stay records after (text ∷ texts) [] grows are = are
numbers_stay records after (text ∷ texts) (n ∷ ns) grows are = (grows n text are.0, numbers_stay records after texts ns grows are.1)

one_behind : (records texts : List (List ℕ)) (ns : List ℕ) (text : List ℕ) (n : ℕ) → AreNumbersOf records texts ns
    → slice_get records n ≡ Some text → AreNumbersOf records (texts ++ text ∷ []) (ns ++ n ∷ [])
one_behind records [] [] text n are at = (at, tt)
one_behind records [] (m ∷ ns) text n are at = absurd are
one_behind records (t ∷ texts) [] text n are at = absurd are
one_behind records (t ∷ texts) (m ∷ ns) text n are at = (are.0, one_behind records texts ns text n are.1 at)

-- one record got its number
pub gave_first : (records : List (List ℕ)) (text fitted : List ℕ) (n : ℕ) (numbering : Numbering) → fitted ≡ text
    → GaveNumber records fitted n numbering → GaveNumbers records (text ∷ []) (n ∷ []) numbering
gave_first records text fitted n numbering fit gave =
    subst (λ (t : List ℕ). GaveNumbers records (t ∷ []) (n ∷ []) numbering) fit (record {
      after = gave.after;
      grow = grow_one records gave.after fitted gave.meets;
      numbers = gave.numbers;
      are = (gave.at, tt);
    })

-- and then another one
pub gave_next : (records texts : List (List ℕ)) (ns : List ℕ) (text : List ℕ) (n : ℕ) (old new : Numbering)
    → GaveNumbers records texts ns old
    → ((mid : List (List ℕ)) → IsNumbering mid old → GaveNumbers mid (text ∷ []) (n ∷ []) new)
    → GaveNumbers records (texts ++ text ∷ []) (ns ++ n ∷ []) new
gave_next records texts ns text n old new gave more =
    let now = more gave.after gave.numbers in
    record {
      after = now.after;
      grow = grow_more records gave.after now.after texts text gave.grow now.grow;
      numbers = now.numbers;
      are = one_behind now.after texts ns text n (numbers_stay gave.after now.after texts ns now.grow.grows gave.are) now.are.0;
    }

-- ---- what an operation does, once its records have their numbers

pub of_one : (records : List (List ℕ)) (text : List ℕ) (n : ℕ) (numbering : Numbering) (said : SaidExchange) (what : Exchange)
    → texts_of said ≡ text ∷ [] → ((after : List (List ℕ)) → slice_get after n ≡ Some text → MeansExchange after said what)
    → GaveNumbers records (text ∷ []) (n ∷ []) numbering → IsExchangeNow records said numbering what
of_one records text n numbering said what names means gave = record {
  after = gave.after;
  grow = subst (λ (ts : List (List ℕ)). GrowBy records ts gave.after) (sym names) gave.grow;
  numbers = gave.numbers;
  is = means gave.after gave.are.0;
}

pub of_two : (records : List (List ℕ)) (from to : List ℕ) (m n : ℕ) (numbering : Numbering) (said : SaidExchange) (what : Exchange)
    → texts_of said ≡ from ∷ to ∷ []
    → ((after : List (List ℕ)) → slice_get after m ≡ Some from → slice_get after n ≡ Some to → MeansExchange after said what)
    → GaveNumbers records (from ∷ to ∷ []) (m ∷ n ∷ []) numbering → IsExchangeNow records said numbering what
of_two records from to m n numbering said what names means gave = record {
  after = gave.after;
  grow = subst (λ (ts : List (List ℕ)). GrowBy records ts gave.after) (sym names) gave.grow;
  numbers = gave.numbers;
  is = means gave.after gave.are.0 gave.are.1.0;
}

pub of_three : (records : List (List ℕ)) (from to found : List ℕ) (m n k : ℕ) (numbering : Numbering)
    → GaveNumbers records (from ∷ to ∷ found ∷ []) (m ∷ n ∷ k ∷ []) numbering
    → IsExchangeNow records (finds from to found) numbering (Finds m k)
of_three records from to found m n k numbering gave = record {
  after = gave.after;
  grow = gave.grow;
  numbers = gave.numbers;
  is = (m, n, k, gave.are.0, gave.are.1.0, gave.are.1.1.0, refl);
}

pub of_none : (records : List (List ℕ)) (numbering : Numbering) → IsNumbering records numbering
    → IsExchangeNow records (gets None) numbering (Gets 0)
of_none records numbering numbers = record { after = records; grow = grow_none records; numbers = numbers; is = refl }
