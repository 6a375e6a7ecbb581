use Rattle.std.proofs.Common.{sym, subst₂, w64}
use Rattle.std.proofs.lemmas.Int.{to_z-of_z}
use Rattle.mz_arena.specs.Instances.{model_var, var_cell}
use Rattle.flat.specs.Absent.{IsValueNode, IsLeastNode, has_truths}
use Rattle.flat.proofs.Absenting.{value_node, occurs_mid, option_root, added_by}
use Rattle.flat.proofs.absent.fix_value.Goals as goal

pub least_node-requires : goal.least_node-requires
least_node-requires c = subst₂ (λ b n. IsValueNode c.args.arena.now b c.args.c.now.term n) (sym c.has_truths.ensures) (sym (to_z-of_z w64 c.args.least c.ranges.least)) (value_node c.args.arena.now c.requires.arena (model_var c.args.m.now) c.args.o (var_cell c.args.c.now) c.requires.option c.args.least c.requires.least c.requires.limit)

pub either-requires-clause-a : goal.either-requires-clause-a
either-requires-clause-a c = occurs_mid c.args.arena.now c.least_node.new.arena (model_var c.args.m.now) c.args.o (var_cell c.args.c.now) (has_truths c.args.m.now.base) c.args.least c.in-Ok.x c.requires.option (subst₂ (λ b n. IsLeastNode c.args.arena.now c.least_node.new.arena b c.args.c.now.term n c.in-Ok.x) c.has_truths.ensures (to_z-of_z w64 c.args.least c.ranges.least) c.in-Ok.ensures)

pub either-requires-clause-b : goal.either-requires-clause-b
either-requires-clause-b c = c.in-Ok.ensures.is_truth

pub returns : goal.returns
returns c = added_by c.args.arena.now c.either.new.arena _ c.args.roots.now.items c.push.new.self.items _ c.in_ok-push.ensures.items (option_root c.args.arena.now c.least_node.new.arena c.either.new.arena (model_var c.args.m.now) c.args.o (var_cell c.args.c.now) c.args.least c.in-Ok.x c.in-Ok-either.x c.requires.arena c.requires.option c.requires.occurs c.requires.least (subst₂ (λ b n. IsLeastNode c.args.arena.now c.least_node.new.arena b c.args.c.now.term n c.in-Ok.x) c.has_truths.ensures (to_z-of_z w64 c.args.least c.ranges.least) c.in-Ok.ensures) c.in-Ok-either.ensures c.args.roots.now.items)
