use Rattle.mz_symbol_arrays.proofs.SureLaws.{abs_sure, add_sure, if_sure, mul_sure}
use Rattle.mz_symbol_arrays.proofs.sure.enough.Goals as goal

pub returns-in-Add : goal.returns-in-Add
returns-in-Add c = add_sure c.args.nodes.now c.args.id c.in-Some.n c.in-Some.ensures c.in-Add.is

pub returns-in-Mul : goal.returns-in-Mul
returns-in-Mul c = mul_sure c.args.nodes.now c.args.id c.in-Some.n c.in-Some.ensures c.in-Mul.is

pub returns-in-Abs : goal.returns-in-Abs
returns-in-Abs c = abs_sure c.args.nodes.now c.args.id c.in-Some.n c.in-Some.ensures c.in-Abs.is

pub returns-in-If : goal.returns-in-If
returns-in-If c = if_sure c.args.nodes.now c.args.id c.in-Some.n c.in-Some.ensures c.in-If.is
