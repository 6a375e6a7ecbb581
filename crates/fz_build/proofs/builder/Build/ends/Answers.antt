use Rattle.std.proofs.Common.{subst}
use Rattle.fz_program.specs.Arguments.{plain}
use Rattle.fz_build.proofs.InputValues.{ends_enclose}
use Rattle.fz_build.specs.Build.{IsBuilt}
use Rattle.fz_build.proofs.builder.Build.ends.Goals as goal

pub returns-clause-encloses : goal.returns-clause-encloses
returns-clause-encloses c =
    let built : IsBuilt c.args.self.now = subst IsBuilt c.self.view_is c.self.invariant.0 in
    λ f d. ends_enclose c.args.self.now.vars f (plain c.args.a.now) built.well_formed.parts.vars d
