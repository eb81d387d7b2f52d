-- Four bytes are copied, and behind them the line of the value is written: together they are the text of the refusal.
use Rattle.answers.specs.OutputLaws.{refusal_written}
use Rattle.answers.proofs.output.write_refusal.Goals as goal

pub returns : goal.returns
returns c =
    refusal_written _ _ _ c.requires c.number-number.ensures c.decimal.ensures c.decimal-2.ensures c.copy_from_slice.ensures.after c.value.ensures
    c.write_line.ensures
