use Rattle.std.proofs.Common.{refl}
use Rattle.mz_tree.specs.Views.{written}
use Rattle.mz_grammar.specs.Parts as parts
use Rattle.mz_expr.proofs.Prefixes.{prefix}
use Rattle.mz_expr.proofs.prefix.type_text.Goals as goal

pub returns-clause-answers : goal.returns-clause-answers
returns-clause-answers c =
    let old = c.args.cur.now in
    prefix parts.type written old.room old.end c.type_text.new.cur.end old.rest.now c.type_text.new.cur.rest.now c.type_text.result refl c.type_text.ensures.end c.type_text.ensures.reads
