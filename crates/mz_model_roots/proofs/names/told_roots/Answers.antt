use Rattle.std.proofs.Common.{refl}
use Rattle.mz_symbol.proofs.ConstantLaws.{out_value, out_other}
use Rattle.mz_model_roots.proofs.CellRoots.{constraint_rooted}
use Rattle.mz_model_roots.proofs.OperandLaws.{roots_true}
use Rattle.mz_model_roots.proofs.names.told_roots.Goals as goal

pub returns-clause-stays : goal.returns-clause-stays
returns-clause-stays c r h = out_other (c.in_ok-s.ensures.means r h) refl

pub returns-clause-roots : goal.returns-clause-roots
returns-clause-roots c = constraint_rooted c.symbol_in.new.run c.args.k.now c.in_ok-s.s c.in_ok-id.id c.in_ok-ids.ids.items (λ r h. out_value (c.in_ok-s.ensures.means r h)) c.in_ok-id.ensures
    (roots_true c.symbol_in.new.run c.in_ok-ids.ids.items c.in_ok-id.id c.arena.result.now c.arena.ensures.nodes c.in_ok-ids.ensures)
