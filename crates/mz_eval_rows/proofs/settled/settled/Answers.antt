use Rattle.std.proofs.Common.{ap}
use Rattle.mz_meaning.specs.Cells.{value_of}
use Rattle.mz_eval_cells.specs.Views.{row_content, seen, var_content}
use Rattle.mz_eval_rows.proofs.SettledLaws.{told_settled}
use Rattle.mz_eval_rows.proofs.settled.settled.Goals as goal

pub returns-in-Var : goal.returns-in-Var
returns-in-Var c = told_settled c.args.k.now (λ r. var_content r.term c.in-Var.x.value) c.settled_value.result (λ r. ap (λ y. value_of (seen r y)) c.in-Var.is) c.settled_value.ensures

pub returns-in-Row : goal.returns-in-Row
returns-in-Row c = told_settled c.args.k.now (λ r. row_content r.line c.in-Row.ix.value.items c.in-Row.xs.value) c.settled_items.result (λ r. ap (λ y. value_of (seen r y)) c.in-Row.is) c.settled_items.ensures
