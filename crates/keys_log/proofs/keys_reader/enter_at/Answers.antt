-- The reader with the number enters it.
use Rattle.std.proofs.Common.{◌≡◌, Some, refl, slice_get}
use Rattle.std.proofs.lemmas.Option.{slice_get_read}
use Rattle.std.proofs.lemmas.Result.{IfErr-weaker, on_ok_weaker}
use Rattle.keys_log.proofs.KeyEntryLemmas.{read_at}
use Rattle.keys_log.proofs.keys_reader.enter_at.Goals as goal

pub returns-clause-entered : goal.returns-clause-entered
returns-clause-entered c =
    let at : slice_get c.args.readers.now.items c.args.number ≡ Some c.index_mut-one.result.now =
    slice_get_read c.args.readers.now.items _ c.args.number c.index_mut-one.result.now refl c.requires.inside
    c.index_mut-one.ensures.value in
    on_ok_weaker c.enter.result (λ entered head lines key line reads is place. (
      c.enter.new.self,
      refl,
      entered head lines key line (read_at head lines key c.args.readers.now.items c.args.number _ at reads) is place,
    )) c.enter.ensures.entered

pub returns-clause-fault : goal.returns-clause-fault
returns-clause-fault c =
    let at : slice_get c.args.readers.now.items c.args.number ≡ Some c.index_mut-one.result.now =
    slice_get_read c.args.readers.now.items _ c.args.number c.index_mut-one.result.now refl c.requires.inside
    c.index_mut-one.ensures.value in
    IfErr-weaker c.enter.result _ _ (λ f wrong head lines key line reads is place.
    wrong head lines key line (read_at head lines key c.args.readers.now.items c.args.number _ at reads) is place)
    c.enter.ensures.fault
