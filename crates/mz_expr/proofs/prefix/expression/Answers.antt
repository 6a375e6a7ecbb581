use Rattle.std.proofs.Common.{refl}
use Rattle.mz_tree.specs.Views.{tree}
use Rattle.mz_grammar.specs.Parts as parts
use Rattle.mz_expr.proofs.Prefixes.{prefix}
use Rattle.mz_expr.proofs.prefix.expression.Goals as goal

pub returns-clause-answers : goal.returns-clause-answers
returns-clause-answers c =
    let old = c.args.cur.now in
    prefix parts.expr tree old.room old.end c.expr.new.cur.end old.rest.now c.expr.new.cur.rest.now c.expr.result refl c.expr.ensures.end c.expr.ensures.reads
