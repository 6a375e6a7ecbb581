use Rattle.std.proofs.Common.{◌∙◌, refl}
use Rattle.mz_symbol.proofs.ConstantLaws.{out_value, out_other}
use Rattle.mz_model_roots.proofs.CellRoots.{place_rooted}
use Rattle.mz_model_roots.proofs.names.tested.Goals as goal

pub returns-clause-stays : goal.returns-clause-stays
returns-clause-stays c r h = out_other (c.in_ok-y.ensures.means r (c.in_ok-id.ensures.goes.back r h)) refl ∙ c.in_ok-id.ensures.stays r h

pub returns-clause-roots : goal.returns-clause-roots
returns-clause-roots c = place_rooted c.symbol_in.new.run c.equal_node.new.run c.args.place.now c.args.value.now c.in_ok-y.y c.in_ok-id.id (λ r h. c.in_ok-id.ensures.goes.back r h) (λ r h. out_value (c.in_ok-y.ensures.means r h)) c.in_ok-id.ensures.equal
