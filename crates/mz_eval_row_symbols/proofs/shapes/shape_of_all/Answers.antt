use Rattle.mz_value.specs.Contents.{case_names}
use Rattle.mz_core.specs.Types.{plain_type}
use Rattle.mz_eval_row_symbols.proofs.ToldLaws.{tells_seen}
use Rattle.mz_eval_row_symbols.proofs.shapes.shape_of_all.Goals as goal

pub returns : goal.returns
returns c r = tells_seen r (case_names c.args.cases.now) c.args.row (plain_type c.args.t.now) c.args.at c.args.cells.items c.row_of_all.result c.row_of_all.ensures
