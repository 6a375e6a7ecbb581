use Rattle.std.proofs.Common.{◌≡◌, ◌∙◌, ◌∷◌, ℕ, List, refl, sym, subst}
use Rattle.mz_symbol.specs.declared.types.Symbol.{Symbol}
use Rattle.mz_symbol.proofs.ConstantLaws.{out_value, out_other}
use Rattle.mz_eval_symbols.specs.Taken.{ranges_in}
use Rattle.mz_model_state.specs.Hands.{ManyPlaces}
use Rattle.mz_model_roots.specs.Rooted.{view, AreRootsOf}
use Rattle.mz_model_roots.specs.StepsEqual.{IsLineOf}
use Rattle.mz_model_roots.proofs.ArrayRoots.{array_rooted}
use Rattle.mz_model_roots.proofs.arrays.line_roots.Goals as goal

pub returns-clause-stays : goal.returns-clause-stays
returns-clause-stays c r h = out_other (c.in_ok-line.ensures.means r (c.in_ok-nodes.ensures.goes.back r h)) refl ∙ c.in_ok-nodes.ensures.stays r h

pub returns-clause-roots : goal.returns-clause-roots
returns-clause-roots c =
    let items = subst (λ (ys : List Symbol). IsLineOf c.line_in.new.run c.in_ok-line.line c.in_ok-found.found.0 ys) (sym c.deref.ensures.value) c.in_ok-found.ensures in
    subst (λ (ids : List ℕ). AreRootsOf c.element_nodes.new.run (ManyPlaces (ranges_in c.args.value.now) c.args.places.now) (view c.args.value.now) ids) (sym c.in_ok-ids.ensures)
    (array_rooted c.line_in.new.run c.element_nodes.new.run c.args.places.now c.deref.result.now c.args.value.now c.in_ok-line.line c.in_ok-found.found.0 c.in_ok-nodes.nodes.items (λ r h. c.in_ok-nodes.ensures.goes.back r h) (λ r h. out_value (c.in_ok-line.ensures.means r h)) items c.in_ok-nodes.ensures.equal)
