-- The key has its number, and its reader enters the operation.
use Rattle.std.proofs.Common.{◌≡◌, ◌+◌, ◌≤◌, arith, ap, refl, sym, subst, slice_get, Some, List, Option, ℕ}
use Rattle.keys_log.specs.Keys.{key_on, keys_in, with_key}
use Rattle.keys_log.specs.inner.KeyReadings.{HaveKeys}
use Rattle.keys_log.proofs.KeyEntryLemmas.{entered_key, key_room, reads_at, reads_key}
use Rattle.keys_log.proofs.KeyLemmas.{others}
use Rattle.keys_log.proofs.keys_reader.KeysReader.enter.Goals as goal

pub enter_at-requires-clause-inside : goal.enter_at-requires-clause-inside
enter_at-requires-clause-inside c =
    let known = c.requires.known in
    let have = c.in-Ok.ensures.known known.0 known.2 (keys_in known.1 known.2) known.3 (others known.1 known.2) in
    reads_key known.0 known.2 _ _ c.in-Ok.number c.number_of.new.self have.0 have.1

pub enter_at-requires-clause-known : goal.enter_at-requires-clause-known
enter_at-requires-clause-known c = λ one at_one.
    let known = c.requires.known in
    let have = c.in-Ok.ensures.known known.0 known.2 (keys_in known.1 known.2) known.3 (others known.1 known.2) in
    let room = key_room known.0 known.2 _ _ c.in-Ok.number c.number_of.new.self one have.0 have.1 at_one in
    let few : one.reader.count ≤ c.number_of.new.self.count = room.0 in
    let same : c.number_of.new.self.count ≡ c.args.self.now.count = c.in-Ok.ensures.same in
    (omega (arith, few, same, c.requires.room), room.1)

pub returns-in-Ok-enter_at-clause-entered : goal.returns-in-Ok-enter_at-clause-entered
returns-in-Ok-enter_at-clause-entered c = λ head first lines line read key_is is.
    let keys = keys_in first lines in
    let known = c.in-Ok.ensures.known head lines keys read (others first lines) in
    let have : HaveKeys head lines (with_key keys (key_on line)) c.number_of.new.self =
    subst (λ (k : Option (List ℕ)). HaveKeys head lines (with_key keys k) c.number_of.new.self) key_is known.0 in
    let at : slice_get (with_key keys (key_on line)) c.in-Ok.number ≡ Some (key_on line) =
    subst (λ (k : Option (List ℕ)). slice_get (with_key keys k) c.in-Ok.number ≡ Some k) key_is known.1 in
    entered_key head first lines line c.in-Ok.number c.number_of.new.self _ have at
    (c.in-Ok-enter_at.ensures.entered head lines (key_on line) line
    (reads_at head lines (with_key keys (key_on line)) (key_on line) c.in-Ok.number c.number_of.new.self have at) is read.count)
    refl refl (ap (λ (n : ℕ). n + 1) (sym c.in-Ok.ensures.same))

pub returns-in-Err-enter_at-clause-fault : goal.returns-in-Err-enter_at-clause-fault
returns-in-Err-enter_at-clause-fault c = λ head first lines line read key_is is.
    let keys = keys_in first lines in
    let known = c.in-Ok.ensures.known head lines keys read (others first lines) in
    let have : HaveKeys head lines (with_key keys (key_on line)) c.number_of.new.self =
    subst (λ (k : Option (List ℕ)). HaveKeys head lines (with_key keys k) c.number_of.new.self) key_is known.0 in
    let at : slice_get (with_key keys (key_on line)) c.in-Ok.number ≡ Some (key_on line) =
    subst (λ (k : Option (List ℕ)). slice_get (with_key keys k) c.in-Ok.number ≡ Some k) key_is known.1 in
    c.in-Err-enter_at.ensures.fault head lines (key_on line) line
    (reads_at head lines (with_key keys (key_on line)) (key_on line) c.in-Ok.number c.number_of.new.self have at) is read.count
