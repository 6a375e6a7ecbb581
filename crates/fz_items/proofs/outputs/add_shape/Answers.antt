use Rattle.std.specs.HashMap.{get_by_text}
use Rattle.std.specs.String.{string_bytes}
use Rattle.fz_items.specs.Forms.{form}
use Rattle.fz_items.proofs.NameBytes.{shape_optional}
use Rattle.fz_items.proofs.outputs.add_shape.Goals as goal

pub returns-then-shape : goal.returns-then-shape
returns-then-shape c =
    shape_optional (get_by_text c.args.table.now) (get_by_text c.add.new.table) (get_by_text c.add-then-shape.new.table) c.args.k (form c.args.shape.now) (string_bytes c.in_ok-first.first) (string_bytes c.in_ok-second.second) c.if-shape.true c.in_ok-first.ensures c.in_ok-second.ensures c.in_ok-add.ensures c.in_ok-add-2.ensures
