use Rattle.std.proofs.Common.{sym, ◌∙◌}
use Rattle.flat_root.specs.declared.marks.Children.TheVariants.{None as NoChild, One, Two, Three}
use Rattle.flat_root.proofs.Marking.{covers_none, covers_node, on_ok_on}
use Rattle.flat_root.proofs.marks.add_children.Goals as goal

pub returns-in-None : goal.returns-in-None
returns-in-None c = covers_node c.args.need.now c.args.need.now c.args.n.now NoChild (sym c.in-None.is ∙ c.children_of.ensures) (covers_none c.args.need.now)

pub returns-in-One : goal.returns-in-One
returns-in-One c = on_ok_on c.add_one.result _ _ (covers_node c.args.need.now c.add_one.new.need c.args.n.now One (sym c.in-One.is ∙ c.children_of.ensures)) c.add_one.ensures

pub returns-in-Two : goal.returns-in-Two
returns-in-Two c = on_ok_on c.add_two.result _ _ (covers_node c.args.need.now c.add_two.new.need c.args.n.now Two (sym c.in-Two.is ∙ c.children_of.ensures)) c.add_two.ensures

pub returns-in-Three : goal.returns-in-Three
returns-in-Three c = on_ok_on c.add_three.result _ _ (covers_node c.args.need.now c.add_three.new.need c.args.n.now Three (sym c.in-Three.is ∙ c.children_of.ensures)) c.add_three.ensures
