use Rattle.std.proofs.Common.{◌+◌, ◌*◌, arith}
use Rattle.mz_symbol_rows.proofs.GoingOn.{goes_most}
use Rattle.mz_eval_global_terms.specs.Calls.{call_room}
use Rattle.mz_eval_global_terms.proofs.CostLaws.{work_pays}
use Rattle.mz_eval_global_terms.proofs.symbols.symbol_of_call.Goals as goal

pub returns-clause-goes : goal.returns-clause-goes
returns-clause-goes c =
    goes_most (call_room c.args.g c.args.all.now) (64 * (1 + c.args.cost)) _ _ (work_pays c.args.g c.args.all.now c.args.cost c.requires (omega arith)) c.symbol.ensures.goes
