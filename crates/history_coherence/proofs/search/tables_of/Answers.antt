-- The tables are those of the log.
use Rattle.std.proofs.Common.{◌≡◌, ℕ, Bool, List, length, map, Option, ap, sym, subst, ◌∙◌}
use Rattle.std.proofs.lemmas.List.{length-map}
use Rattle.history_coherence.specs.inner.Keys.{AreKeys, AreMet, ArePrevious, AreTasks, key_of, NumbersUpTo, task_of}
use Rattle.history_coherence.proofs.Tabled.{are_keys, are_tasks, finished_up_to, keys_up_to}
use Rattle.history_coherence.proofs.search.tables_of.Goals as goal

pub met_numbers-requires : goal.met_numbers-requires
met_numbers-requires c =
    let P : List (Option ℕ) → Type 0 = λ z. NumbersUpTo z c.args.greatest in
    subst P (sym (c.as_slice.ensures.value ∙ c.in_ok-records.ensures)) (finished_up_to c.args.log.now c.args.greatest c.requires)

pub returns-clause-tabled : goal.returns-clause-tabled
returns-clause-tabled c =
    let log = c.args.log.now in
    let asked = c.in_ok-asked.asked.items in
    let ek : c.in_ok-keys.keys.items ≡ map (key_of asked) log =
    c.in_ok-keys.ensures ∙ ap (λ (z : List Bool). map (key_of z) log) c.as_slice-2.ensures.value in
    let et : c.in_ok-tasks.tasks.items ≡ map (task_of asked) log =
    c.in_ok-tasks.ensures ∙ ap (λ (z : List Bool). map (task_of z) log) c.as_slice-3.ensures.value in
    let M : List (Option ℕ) → Type 0 = λ z. AreMet z (length z) asked in
    let met = subst M (c.as_slice.ensures.value ∙ c.in_ok-records.ensures) c.in_ok-asked.ensures.met in
    let K : List (Option ℕ) → Type 0 = λ z. AreKeys log z in
    let T : List (Option ℕ) → Type 0 = λ z. AreTasks log z (map (task_of asked) log) in
    let E : List (Option ℕ) → Type 0 = λ z. ArePrevious z (length z) c.in_ok-earlier.earlier.items in
    let N : List (Option ℕ) → Type 0 = λ z. ArePrevious z (length z) c.in_ok-mates.mates.items in
    record {
      long = ap length ek ∙ length-map log (key_of asked);
      keys = subst K (sym ek) (are_keys log asked c.args.greatest c.requires c.in_ok-asked.ensures.long met);
      tasks = map (task_of asked) log;
      are_tasks = subst T (sym ek) (are_tasks log asked c.args.greatest c.requires c.in_ok-asked.ensures.long met);
      earlier = subst E (c.as_slice-4.ensures.value ∙ et) c.in_ok-earlier.ensures;
      mates = subst N c.as_slice-5.ensures.value c.in_ok-mates.ensures;
    }

pub returns-clause-within : goal.returns-clause-within
returns-clause-within c =
    let log = c.args.log.now in
    let asked = c.in_ok-asked.asked.items in
    let ek : c.in_ok-keys.keys.items ≡ map (key_of asked) log =
    c.in_ok-keys.ensures ∙ ap (λ (z : List Bool). map (key_of z) log) c.as_slice-2.ensures.value in
    let M : List (Option ℕ) → Type 0 = λ z. AreMet z (length z) asked in
    let met = subst M (c.as_slice.ensures.value ∙ c.in_ok-records.ensures) c.in_ok-asked.ensures.met in
    let P : List (Option ℕ) → Type 0 = λ z. NumbersUpTo z c.args.greatest in
    subst P (sym ek) (keys_up_to log asked c.args.greatest c.requires c.in_ok-asked.ensures.long met)
