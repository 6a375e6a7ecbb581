use Rattle.std.proofs.Common.{◌≡◌, rules, map, sym, ap, ◌∙◌}
use Rattle.std.specs.Prelude.{Some, None}
use Rattle.std.specs.Option.{option_map}
use Rattle.mz_operations.specs.Bounds.{intersection_from}
use Rattle.mz_operations.specs.RowBounds.{each, as_upper}
use Rattle.mz_eval_cells.specs.Views.{known_bound}
use Rattle.mz_eval_row_bounds.proofs.Listing.{first_intersected, none_first}
use Rattle.mz_eval_row_bounds.proofs.uppers.intersection_with.Goals as goal

pub returns-in_default : goal.returns-in_default
returns-in_default c =
    let missing : as_upper (known_bound c.args.first.now) ≡ None = search rules in
    sym (none_first known_bound c.args.first.now c.args.others.now missing)

pub returns : goal.returns
returns c =
    let there : as_upper (known_bound c.args.first.now) ≡ Some c.in-Some.u.now = search rules in
    c.in_ok-s.ensures ∙ ap (λ x. option_map (intersection_from x) (each as_upper (map known_bound c.args.others.now))) c.in_ok-start.ensures
    ∙ sym (first_intersected known_bound c.args.first.now c.args.others.now c.in-Some.u.now there)
