use Rattle.std.proofs.Common.{◌≡◌, ◌-◌, arith, drop, length, refl, take}
use Rattle.std.proofs.lemmas.List.{length-drop, take_all}
use Rattle.std.specs.Option.{option_map}
use Rattle.mz_eval_cells.specs.Views.{known_bounds}
use Rattle.mz_eval_row_bounds.proofs.Shaping.{shaped}
use Rattle.mz_eval_row_bounds.proofs.made.shaped.Goals as goal

pub returns : goal.returns
returns c =
    let ks = c.args.cells.now in
    let rest : take (length ks - c.args.d) (drop c.args.d ks) ≡ drop c.args.d ks = take_all (length ks - c.args.d) (drop c.args.d ks) (omega (arith, length-drop c.args.d ks)) in
    shaped c.args.d ks (take c.args.d ks) (take (length ks - c.args.d) (drop c.args.d ks)) (option_map known_bounds c.in_ok-b.b) (omega arith) refl rest c.in_ok-b.ensures
