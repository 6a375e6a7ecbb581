use Rattle.mz_scope_order.proofs.Apart.{ArePlacesTill}
use Rattle.mz_scope_order.proofs.type_order.places_in.Given as goal

abbrev pub invariant-loop-i : goal.invariant-loop-i
invariant-loop-i l = ArePlacesTill l.count l.order l.at.items l.i
