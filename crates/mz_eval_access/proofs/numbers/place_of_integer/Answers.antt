use Rattle.std.proofs.Common.{◌≡◌, w64, subst}
use Rattle.std.specs.Prelude.{◌≤ℤ◌}
use Rattle.std.proofs.lemmas.Int.{to_z-of_z}
use Rattle.mz_eval_cells.specs.Views.{cell_of}
use Rattle.mz_eval_access.specs.StepsPlaces.{steps_between}
use Rattle.mz_eval_access.proofs.NumberLaws.{number_placed, number_reached}
use Rattle.mz_eval_access.proofs.numbers.place_of_integer.Goals as goal

pub returns-clause-place : goal.returns-clause-place
returns-clause-place c =
    let r = c.args.r in
    let n = to_z-of_z w64 c.args.n c.ranges.n in
    number_placed r (cell_of c.args.i.now) c.args.n c.offset-p.result c.requires
    (subst (λ m. (r.0 ≤ℤ m) × (m ≤ℤ r.1)) n (c.is_inside.ensures c.if-not-is_inside.false))
    (subst (λ m. c.offset-p.result ≡ steps_between r.0 m) n c.offset-p.ensures)

pub returns-clause-ends : goal.returns-clause-ends
returns-clause-ends c =
    let r = c.args.r in
    let n = to_z-of_z w64 c.args.n c.ranges.n in
    number_reached r (cell_of c.args.i.now) c.args.n c.args.all.now c.offset-p.result c.in_ok-b.b.now c.ends_in.result c.requires
    (subst (λ m. (r.0 ≤ℤ m) × (m ≤ℤ r.1)) n (c.is_inside.ensures c.if-not-is_inside.false))
    (subst (λ m. c.offset-p.result ≡ steps_between r.0 m) n c.offset-p.ensures) c.in_ok-b.ensures c.ends_in.ensures
