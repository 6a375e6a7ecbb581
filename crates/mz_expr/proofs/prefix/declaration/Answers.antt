use Rattle.std.proofs.Common.{refl}
use Rattle.mz_tree.specs.Views.{declaration}
use Rattle.mz_grammar.specs.Parts as parts
use Rattle.mz_expr.proofs.Prefixes.{prefix}
use Rattle.mz_expr.proofs.prefix.declaration.Goals as goal

pub returns-clause-answers : goal.returns-clause-answers
returns-clause-answers c =
    let old = c.args.cur.now in
    prefix parts.declaration declaration old.room old.end c.declaration.new.cur.end old.rest.now c.declaration.new.cur.rest.now c.declaration.result refl c.declaration.ensures.end c.declaration.ensures.reads
