use Rattle.std.proofs.Common.{◌≡◌, rules, true}
use Rattle.std.specs.Prelude.{map}
use Rattle.mz_tree.specs.Views.{link}
use Rattle.mz_expr_operands.specs.Views.{is_one_member}
use Rattle.mz_expr_operands.proofs.Operands.{chained-member}
use Rattle.mz_expr_operands.proofs.operand.related.Goals as goal

pub returns : goal.returns
returns c = let one : is_one_member (map link c.args.links.items) ≡ true = search rules in
    rw c.new.ensures (chained-member c.args.name c.args.at c.args.links.items c.pop.new.self.items (c.in-Some.o, c.in-Some.set) one c.in-Some.ensures.items)
