use Rattle.std.proofs.Common.{◌∙◌, map, ap, sym}
use Rattle.mz_operations.specs.Bounds as bounds
use Rattle.mz_meaning.specs.Cells.{Var}
use Rattle.mz_eval_cells.specs.Views.{known_bound}
use Rattle.mz_eval_rows.proofs.JoinedLaws.{lined}
use Rattle.mz_eval_rows.proofs.joined.cell_on.Goals as goal

pub returns : goal.returns
returns c r t h =
    let ix = c.args.ix.now.value.items in
    ap (λ v. Var (bounds.many ix (map known_bound c.args.all.now.value.items)) v)
    (lined r c.args.run.now t ix c.args.line c.in_ok-found.found.0 c.in_ok-found.found.1 h c.in_ok-found.ensures.line (c.in_ok-fits.ensures c.if-not-fits.false))
    ∙ sym (c.in_ok-k.ensures r)
