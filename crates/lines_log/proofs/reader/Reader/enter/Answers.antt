-- The operation has its number and its turn and is kept, or overlaps another of its task, or is a write of a record that has one.
use Rattle.std.proofs.Common.{◌<◌, arith, refl, inl, inr, sym, ◌∙◌, ap, length, subst}
use Rattle.std.proofs.lemmas.Option.{slice_get_within}
use Rattle.kept_lines.specs.Tasks.{IsTurnError, Overlap}
use Rattle.read_line.specs.Lines.{op_seen}
use Rattle.text_lines.specs.Places.{line_at}
use Rattle.lines_log.proofs.ReadLemmas.{entered, few_unfinished, in_order, item_there, overlapped, repeated}
use Rattle.lines_log.proofs.reader.Reader.enter.Goals as goal

pub number_op-requires : goal.number_op-requires
number_op-requires c = (c.requires.known.2.records, c.requires.known.2.numbered)

pub line_at-requires : goal.line_at-requires
line_at-requires c =
    let read = c.requires.known.2 in
    let overlap : Overlap read.log c.in-Ok.next c.in-Err-Overlaps.first =
    subst (IsTurnError read.log c.in-Ok.next) c.in-Err-Overlaps.field-0-is (c.in-Err-Overlaps.ensures.error read.log read.tasks) in
    let within : c.in-Err-Overlaps.first < length read.log = slice_get_within _ _ overlap.op overlap.at in
    omega (arith, within, read.count, c.requires.room)

pub returns-in-Ok-enter-2 : goal.returns-in-Ok-enter-2
returns-in-Ok-enter-2 c = record {
  entered = λ opening lines line last read judged.
      entered opening lines line last c.args.self.now _ (op_seen c.args.op) c.in-Ok.next read judged refl c.in-Ok.ensures
      (λ tasks. c.in-Ok-enter.ensures.entered read.log (sym read.count) tasks)
      (λ kept. c.in-Ok-thin.ensures.entered read.log (sym read.count) kept)
      (λ knows. c.in-Ok-enter-2.ensures read.log knows) refl c.with_unfinished-self.ensures;
  rule = refl;
  grows = omega arith;
  fault = tt;
}

pub returns-in-Err-thin : goal.returns-in-Err-thin
returns-in-Err-thin c = record {
  entered = tt;
  rule = tt;
  grows = tt;
  fault = λ opening lines line last read judged.
      repeated opening lines line last c.args.self.now c.number_op.new.numbers
      (op_seen c.args.op) c.in-Ok.next c.in-Err-thin.fault read judged
      c.in-Ok.ensures (c.in-Err-thin.ensures.fault read.log (sym read.count) read.kept);
}

pub returns-in-Err-Overlaps : goal.returns-in-Err-Overlaps
returns-in-Err-Overlaps c = record {
  entered = tt;
  rule = tt;
  grows = tt;
  fault = λ opening lines line last read judged.
      let overlap : Overlap read.log c.in-Ok.next c.in-Err-Overlaps.first =
      subst (IsTurnError read.log c.in-Ok.next) c.in-Err-Overlaps.field-0-is (c.in-Err-Overlaps.ensures.error read.log read.tasks) in
      inr (inr (inl (
        c.in-Ok.next.who,
        c.line_at.result,
        c.line_at-in-Err-Overlaps.result,
        refl,
        overlapped opening lines line last c.args.self.now c.number_op.new.numbers
            (op_seen c.args.op) c.in-Ok.next c.in-Err-Overlaps.first _ _
            read judged c.in-Ok.ensures overlap c.line_at.ensures (c.line_at-in-Err-Overlaps.ensures ∙ ap line_at read.count),
      )));
}

pub enter-requires : goal.enter-requires
enter-requires c =
    let now = c.in-Ok.ensures c.requires.known.2.records c.requires.known.2.numbered in
    in_order now.after c.args.op c.in-Ok.next c.requires.allowed now.is

pub thin-requires : goal.thin-requires
thin-requires c =
    let now = c.in-Ok.ensures c.requires.known.2.records c.requires.known.2.numbered in
    item_there now.after c.args.op c.in-Ok.next c.requires.allowed now.is

pub with_unfinished-self-requires : goal.with_unfinished-self-requires
with_unfinished-self-requires c =
    let read = c.requires.known.2 in
    omega (arith, read.unfinished, few_unfinished read.log, read.count, c.requires.room)

pub line_at-requires-in-Err-Overlaps : goal.line_at-requires-in-Err-Overlaps
line_at-requires-in-Err-Overlaps c = c.requires.room

pub returns-in-Err : goal.returns-in-Err
returns-in-Err c = record { entered = tt; rule = tt; grows = tt; fault = λ opening lines line last read judged. inl refl }

pub returns-in-Err-enter : goal.returns-in-Err-enter
returns-in-Err-enter c = record { entered = tt; rule = tt; grows = tt; fault = λ opening lines line last read judged. inl refl }

pub returns-in-Err-NoMemory : goal.returns-in-Err-NoMemory
returns-in-Err-NoMemory c = record { entered = tt; rule = tt; grows = tt; fault = λ opening lines line last read judged. inl refl }
