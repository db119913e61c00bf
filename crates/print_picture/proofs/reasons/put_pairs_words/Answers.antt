-- The line is put together from its end.
use Rattle.print_picture.proofs.Headlines.{pairs_line}
use Rattle.print_picture.proofs.reasons.put_pairs_words.Goals as goal

pub returns : goal.returns
returns c =
    pairs_line c.args.a c.args.b c.args.c c.args.d c.args.line.now _ _ _ c.put_last_words.ensures.text c.put_both.ensures.text
    c.put_first_words.ensures
