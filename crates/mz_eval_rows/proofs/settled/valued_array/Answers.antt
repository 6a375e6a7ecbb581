use Rattle.std.proofs.Common.{◌∙◌, map, sym, ap}
use Rattle.mz_operations.specs.Bounds as bounds
use Rattle.mz_meaning.specs.Cells.{Var, held}
use Rattle.mz_eval_cells.specs.Views.{known_bound}
use Rattle.mz_eval_rows.proofs.settled.valued_array.Goals as goal

pub returns : goal.returns
returns c r =
    ap (λ v. Var (bounds.many c.args.ix.now.value.items (map known_bound c.args.all.now.value.items)) (held r.mode v)) (sym (c.in_ok-origins.ensures r.line))
    ∙ sym (c.in_ok-k.ensures r)
