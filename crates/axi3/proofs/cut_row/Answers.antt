-- `axi3::cut_row` meets its contract: a row of 16 is room for every cut, so what was asked for decides. Assumes nothing.
use Rattle.axi3.proofs.Alone.{alone}
use Rattle.axi3.proofs.cut_row.Goals as goal

pub returns : goal.returns
returns c =
    alone c.args.b c.args.room c.min.result c.min.ensures c.blank_row-bursts.result c.blank_row-bursts.ensures c.cut-answer.result c.cut-answer.new.row c.cut-answer.ensures
