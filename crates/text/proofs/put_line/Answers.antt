-- `text::put_line` meets its contract: three pieces one after the other. Assumes nothing.
use Rattle.text.proofs.Laws.{key_room, number-room, end-room, line_put}
use Rattle.text.proofs.put_line.Goals as goal

pub put_octets-number-requires : goal.put_octets-number-requires
put_octets-number-requires c =
    key_room c.args.at c.args.n c.args.key.now c.args.out.now c.requires

pub put_decimal-end-requires : goal.put_decimal-end-requires
put_decimal-end-requires c =
    number-room c.args.at c.args.n c.args.key.now c.args.out.now c.requires c.put_octets-number.new.out
    c.put_octets-number.result c.put_octets-number.ensures

pub put_octets-requires : goal.put_octets-requires
put_octets-requires c =
    end-room c.args.at c.args.n c.args.key.now c.args.out.now c.requires c.put_octets-number.new.out
    c.put_octets-number.result c.put_octets-number.ensures c.put_decimal-end.new.out
    c.put_decimal-end.result c.put_decimal-end.ensures

pub returns : goal.returns
returns c =
    line_put c.args.at c.args.n c.args.key.now c.args.out.now c.requires c.put_octets-number.new.out
    c.put_octets-number.result c.put_octets-number.ensures c.put_decimal-end.new.out
    c.put_decimal-end.result c.put_decimal-end.ensures c.put_octets.new.out
    c.put_octets.result c.put_octets.ensures
