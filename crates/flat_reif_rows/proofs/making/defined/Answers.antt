use Rattle.std.proofs.Common.{map}
use Rattle.fz_program.specs.Arguments.{argument}
use Rattle.flat_reif_rows.proofs.Given.{may_define_by, gives_by, if_ok_both}
use Rattle.flat_reif_rows.proofs.making.defined.Goals as goal

pub define-requires : goal.define-requires
define-requires c = may_define_by c.args.build.now c.args.name (map argument c.args.inputs.now) c.in-Ok.x c.requires c.in-Ok.ensures.is c.in-Ok.ensures.some

pub returns-clause-gives : goal.returns-clause-gives
returns-clause-gives c =
    let inputs = map argument c.args.inputs.now in
    let may = may_define_by c.args.build.now c.args.name inputs c.in-Ok.x c.requires c.in-Ok.ensures.is c.in-Ok.ensures.some in
    if_ok_both c.define.result _ _ _ (λ added out g. gives_by c.args.build.now c.define.new.self c.args.name inputs c.in-Ok.x (argument out) may c.in-Ok.ensures.is c.in-Ok.ensures.some c.in-Ok.ensures.holds added g) c.define.ensures.added c.define.ensures.defines
