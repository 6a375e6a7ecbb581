use Rattle.std.proofs.Common.{refl}
use Rattle.mz_grammar.specs.Parts as parts
use Rattle.mz_expr.proofs.Prefixes.{prefix, passed, stopped}
use Rattle.mz_expr.proofs.prefix.anns.Goals as goal

pub returns-in-Ok-clause-answers : goal.returns-in-Ok-clause-answers
returns-in-Ok-clause-answers c =
    let old = c.args.cur.now in
    passed old.room old.end old.rest.now c.annotations.new.cur.rest.now c.annotations.result c.in-Ok.field-0 c.in-Ok.is
    (prefix parts.annotations (λ x. x) old.room old.end c.annotations.new.cur.end old.rest.now c.annotations.new.cur.rest.now c.annotations.result refl c.annotations.ensures.end c.annotations.ensures.reads)

pub returns-in-Err-clause-answers : goal.returns-in-Err-clause-answers
returns-in-Err-clause-answers c =
    let old = c.args.cur.now in
    stopped old.room old.end old.rest.now c.annotations.new.cur.rest.now c.annotations.result c.in-Err.stop c.in-Err.is
    (prefix parts.annotations (λ x. x) old.room old.end c.annotations.new.cur.end old.rest.now c.annotations.new.cur.rest.now c.annotations.result refl c.annotations.ensures.end c.annotations.ensures.reads)
