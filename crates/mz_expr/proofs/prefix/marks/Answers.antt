use Rattle.std.proofs.Common.{refl}
use Rattle.mz_grammar.specs.Parts as parts
use Rattle.mz_expr.proofs.Prefixes.{prefix}
use Rattle.mz_expr.proofs.prefix.marks.Goals as goal

pub returns-clause-answers : goal.returns-clause-answers
returns-clause-answers c =
    let old = c.args.cur.now in
    prefix parts.marks (λ u. tt) old.room old.end c.marks.new.cur.end old.rest.now c.marks.new.cur.rest.now c.marks.result refl c.marks.ensures.end c.marks.ensures.reads
