-- The line was an operation, which was entered, or the end, or was refused.
use Rattle.std.proofs.Common.{◌∙◌, ap, arith, refl}
use Rattle.lines_log.proofs.FaultLemmas.{line_fault}
use Rattle.lines_log.proofs.ReadLemmas.{ended_as, judged_as}
use Rattle.lines_log.specs.Faults.{refused_at}
use Rattle.lines_log.specs.inner.Readings.{rule_of}
use Rattle.lines_log.proofs.reader.Reader.read.Goals as goal

pub enter-requires : goal.enter-requires
enter-requires c = record {
  allowed = rw c.in-Ok-Some.field-0-is at c.in-Ok-Some.ensures.allowed;
  room = c.requires.room;
  known = c.requires.known;
}

pub line_at-requires : goal.line_at-requires
line_at-requires c = c.requires.room

pub returns-in-Ok : goal.returns-in-Ok
returns-in-Ok c = record {
  read = λ opening lines read. c.in-Ok.ensures.entered opening lines c.args.bytes.now c.args.last read
      (judged_as (rule_of c.args.self.now) c.args.self.now.count _ c.args.last c.args.bytes.now c.in-Ok-Some.field-0 c.in-Ok-Some.op
      c.in-Ok-Some.ensures.said c.in-Ok-Some.field-0-is (read.count ∙ read.are.long));
  rule = c.in-Ok.ensures.rule;
  grows = c.in-Ok.ensures.grows;
  fault = tt;
}

pub returns-in-Err-enter : goal.returns-in-Err-enter
returns-in-Err-enter c = record {
  read = tt;
  rule = tt;
  grows = tt;
  fault = λ opening lines read. c.in-Err-enter.ensures.fault opening lines c.args.bytes.now c.args.last read
      (judged_as (rule_of c.args.self.now) c.args.self.now.count _ c.args.last c.args.bytes.now c.in-Ok-Some.field-0 c.in-Ok-Some.op
      c.in-Ok-Some.ensures.said c.in-Ok-Some.field-0-is (read.count ∙ read.are.long));
}

pub returns-in-Ok-None : goal.returns-in-Ok-None
returns-in-Ok-None c = record {
  read = λ opening lines read. (
    read,
    ended_as (rule_of c.args.self.now) c.args.self.now.count _ c.args.last c.args.bytes.now c.in-Ok-None.field-0
        c.in-Ok-None.ensures.said c.in-Ok-None.field-0-is (read.count ∙ read.are.long),
  );
  rule = refl;
  grows = omega arith;
  fault = tt;
}

pub returns-in-Err : goal.returns-in-Err
returns-in-Err c = record {
  read = tt;
  rule = tt;
  grows = tt;
  fault = λ opening lines read. line_fault opening (rule_of c.args.self.now) lines c.args.bytes.now c.args.last c.args.self.now.count
      c.in-Err.why c.refused_at.result (read.count ∙ read.are.long) c.in-Err.ensures.said
      (c.refused_at.ensures ∙ ap (λ n. refused_at n c.in-Err.why) c.line_at.ensures);
}
