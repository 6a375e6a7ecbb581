use Rattle.std.proofs.Common.{refl, map}
use Rattle.std.proofs.lemmas.List.{length-map}
use Rattle.std.specs.HashMap.{get_by_text}
use Rattle.fz_items.specs.Forms.{form, forms}
use Rattle.fz_items.proofs.NameBytes.{finds_begin, finds_more, finds_end}
use Rattle.fz_items.proofs.outputs.table_of.Goals as goal

pub loop-k-init : goal.loop-k-init
loop-k-init c = finds_begin (get_by_text c.new-table.result) (forms c.args.shapes.now) (λ q. rw c.new-table.ensures.empty refl)

pub loop-k-preserved : goal.loop-k-preserved
loop-k-preserved c =
    finds_more form (get_by_text c.loop-k.table) (get_by_text c.add_shape.new.table) c.args.shapes.now c.loop-k.k c.index-shapes-k.result (forms c.args.shapes.now) c.loop-k-test.true c.index-shapes-k.is c.in_ok-add_shape.ensures c.loop-k.invariant

pub returns : goal.returns
returns c = finds_end (get_by_text c.loop-k.table) c.loop-k.k (map form c.args.shapes.now) (forms c.args.shapes.now) (rw length-map c.loop-k-test.false) c.loop-k.invariant
