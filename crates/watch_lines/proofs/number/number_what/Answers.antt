-- By the numbers of its records an operation does the same.
use Rattle.std.proofs.Common.{refl, sym, ◌∙◌, ap, subst, Some, string_bytes, inl}
use Rattle.object_registers.specs.declared.exchanging.Exchange.TheVariants.{Sets, Gets, Swaps, Misses, Finds, Tries, Refuses}
use Rattle.read_exchange.specs.Exchanges.{gets, misses, refuses, sets, swaps, tries, what_seen}
use Rattle.read_exchange.specs.declared.line.TextExchange.{TextExchange}
use Rattle.read_exchange.specs.declared.line.TextExchange.TheVariants as text
use Rattle.watch_lines.specs.Namings.{IsNamedWhat}
use Rattle.watch_lines.proofs.NumberLemmas.{of_none, of_one, of_three, of_two}
use Rattle.watch_lines.proofs.number.number_what.Goals as goal

pub returns-in_ok-number-in-Sets : goal.returns-in_ok-number-in-Sets
returns-in_ok-number-in-Sets c = λ all naming kept.
    let n = c.in_ok-number-in-Sets.number in
    let new = c.number.new.records in
    let P : TextExchange → Type 0 = λ w. IsNamedWhat all naming c.args.records.now (what_seen w) new (Sets n) in
    subst P (sym c.in-Sets.is)
    (of_one all naming c.args.records.now new (string_bytes c.in-Sets.text) n (sets (string_bytes c.in-Sets.text)) (Sets n) refl
    (λ after f at. (f n, at, refl)) (λ k names. names) (c.in_ok-number-in-Sets.ensures all naming kept))

pub returns-in-Gets-None : goal.returns-in-Gets-None
returns-in-Gets-None c = λ all naming kept.
    let P : TextExchange → Type 0 = λ w. IsNamedWhat all naming c.args.records.now (what_seen w) c.args.records.now (Gets 0) in
    subst P (sym (c.in-Gets-None.is ∙ ap text.Gets c.in-Gets-None.field-0-is)) (of_none all naming c.args.records.now kept)

pub returns-in_ok-number-in-Gets-Some : goal.returns-in_ok-number-in-Gets-Some
returns-in_ok-number-in-Gets-Some c = λ all naming kept.
    let n = c.in_ok-number-in-Gets-Some.number in
    let new = c.number-in-Gets-Some.new.records in
    let bytes = string_bytes c.in-Gets-Some.text in
    let P : TextExchange → Type 0 = λ w. IsNamedWhat all naming c.args.records.now (what_seen w) new (Gets n) in
    subst P (sym (c.in-Gets-Some.is ∙ ap text.Gets c.in-Gets-Some.field-0-is))
    (of_one all naming c.args.records.now new bytes n (gets (Some bytes)) (Gets n) refl (λ after f at. (f n, at, refl))
    (λ k names. names) (c.in_ok-number-in-Gets-Some.ensures all naming kept))

pub returns-in_ok-from-in-Swaps : goal.returns-in_ok-from-in-Swaps
returns-in_ok-from-in-Swaps c = λ all naming kept.
    let m = c.in_ok-from-in-Swaps.from in
    let n = c.in_ok-from-in-Swaps.to in
    let new = c.number_two.new.records in
    let first = string_bytes c.in-Swaps.from in
    let second = string_bytes c.in-Swaps.to in
    let P : TextExchange → Type 0 = λ w. IsNamedWhat all naming c.args.records.now (what_seen w) new (Swaps m n) in
    subst P (sym c.in-Swaps.is)
    (of_two all naming c.args.records.now new first second m n (swaps first second) (Swaps m n) refl
    (λ after f at_m at_n. (f m, f n, at_m, at_n, refl)) (λ k names. names) (c.in_ok-from-in-Swaps.ensures all naming kept))

pub returns-in_ok-from-in-Misses : goal.returns-in_ok-from-in-Misses
returns-in_ok-from-in-Misses c = λ all naming kept.
    let m = c.in_ok-from-in-Misses.from in
    let n = c.in_ok-from-in-Misses.field-0-1 in
    let new = c.number_two-in-Misses.new.records in
    let first = string_bytes c.in-Misses.from in
    let second = string_bytes c.in-Misses.to in
    let P : TextExchange → Type 0 = λ w. IsNamedWhat all naming c.args.records.now (what_seen w) new (Misses m) in
    subst P (sym c.in-Misses.is)
    (of_two all naming c.args.records.now new first second m n (misses first second) (Misses m) refl
    (λ after f at_m at_n. (f m, f n, at_m, at_n, refl)) (λ k names. inl names) (c.in_ok-from-in-Misses.ensures all naming kept))

pub returns-in_ok-from-in-Finds : goal.returns-in_ok-from-in-Finds
returns-in_ok-from-in-Finds c = λ all naming kept.
    let m = c.in_ok-from-in-Finds.from in
    let n = c.in_ok-from-in-Finds.field-0-1 in
    let k = c.in_ok-from-in-Finds.found in
    let new = c.number_three.new.records in
    let P : TextExchange → Type 0 = λ w. IsNamedWhat all naming c.args.records.now (what_seen w) new (Finds m k) in
    subst P (sym c.in-Finds.is)
    (of_three all naming c.args.records.now new (string_bytes c.in-Finds.from) (string_bytes c.in-Finds.to)
    (string_bytes c.in-Finds.found) m n k (c.in_ok-from-in-Finds.ensures all naming kept))

pub returns-in_ok-from-in-Tries : goal.returns-in_ok-from-in-Tries
returns-in_ok-from-in-Tries c = λ all naming kept.
    let m = c.in_ok-from-in-Tries.from in
    let n = c.in_ok-from-in-Tries.to in
    let new = c.number_two-in-Tries.new.records in
    let first = string_bytes c.in-Tries.from in
    let second = string_bytes c.in-Tries.to in
    let P : TextExchange → Type 0 = λ w. IsNamedWhat all naming c.args.records.now (what_seen w) new (Tries m n) in
    subst P (sym c.in-Tries.is)
    (of_two all naming c.args.records.now new first second m n (tries first second) (Tries m n) refl
    (λ after f at_m at_n. (f m, f n, at_m, at_n, refl)) (λ k names. names) (c.in_ok-from-in-Tries.ensures all naming kept))

pub returns-in_ok-number-in-Refuses : goal.returns-in_ok-number-in-Refuses
returns-in_ok-number-in-Refuses c = λ all naming kept.
    let n = c.in_ok-number-in-Refuses.number in
    let new = c.number-in-Refuses.new.records in
    let bytes = string_bytes c.in-Refuses.text in
    let P : TextExchange → Type 0 = λ w. IsNamedWhat all naming c.args.records.now (what_seen w) new (Refuses n) in
    subst P (sym c.in-Refuses.is)
    (of_one all naming c.args.records.now new bytes n (refuses bytes) (Refuses n) refl (λ after f at. (f n, at, refl))
    (λ k names. names) (c.in_ok-number-in-Refuses.ensures all naming kept))
