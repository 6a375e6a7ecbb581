use Rattle.std.proofs.Common.{◌∙◌, sym, ap}
use Rattle.mz_operations.specs.Bounds as bounds
use Rattle.mz_meaning.specs.Cells.{Var, held, value_of}
use Rattle.mz_eval_cells.specs.Views.{cell_of, known_bound}
use Rattle.mz_eval_rows.proofs.settled.valued_single.Goals as goal

pub returns : goal.returns
returns c r =
    ap (λ b. Var (bounds.one b) (held r.mode (value_of (cell_of c.args.c.now)))) (sym c.in_ok-same.ensures)
    ∙ ap (λ v. Var (bounds.one (known_bound c.in_ok-same.same)) (held r.mode v)) (sym (c.in_ok-origin.ensures r.term))
    ∙ sym (c.in_ok-k.ensures.seen r)
