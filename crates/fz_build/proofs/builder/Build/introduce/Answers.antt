use Rattle.std.proofs.Common.{◌≡◌, ◌<◌, ◌^◌, ap, subst, sym, ◌∙◌, arith}
use Rattle.fz_program.specs.Arguments.{argument}
use Rattle.fz_program.specs.Flat.{Program, Variable, variable}
use Rattle.fz_build.specs.Naming.{introduced_name, next_number}
use Rattle.fz_build.specs.Build.{IsBuilt, MayDeclare, introduced_variable, with_variable}
use Rattle.fz_build.specs.Growth.{Declares}
use Rattle.fz_build.proofs.Lists.{if_ok_weaker, on_ok_weaker}
use Rattle.fz_build.proofs.Grown.{may_introduce, named_introduced, next_below}
use Rattle.fz_build.proofs.builder.Build.introduce.Goals as goal

number : (c : goal.After-introduced_variable) → c.self.inside.next ≡ next_number c.args.self.now.vars
number c = c.self.invariant.1 ∙ ap (λ (p : Program). next_number p.vars) c.self.view_is

the_variable : (c : goal.After-introduced_variable) → variable c.introduced_variable.result ≡ introduced_variable c.args.self.now c.args.domain
the_variable c = c.introduced_variable.ensures ∙ named_introduced c.args.self.now _ c.args.domain (c.in-Ok.ensures ∙ ap introduced_name (number c))

pub declare-requires : goal.declare-requires
declare-requires c =
    let most = next_below c.self.inside.vars.items c.self.inside.next c.self.invariant.1 in
    let next = number c in
    let room : next_number c.args.self.now.vars < 2 ^ 64 = omega (arith, most, next, c.self.inside.vars.ok.0, c.self.inside.vars.ok.1, c.self.inside.vars.small) in
    let built : IsBuilt c.args.self.now = subst IsBuilt c.self.view_is c.self.invariant.0 in
    subst (MayDeclare c.args.self.now) (sym (the_variable c)) (may_introduce c.args.self.now c.args.domain built room c.has_set.ensures c.requires)

pub returns-clause-added : goal.returns-clause-added
returns-clause-added c = on_ok_weaker c.declare.result _ _ (λ e. e ∙ ap (with_variable c.args.self.now) (the_variable c.before)) c.declare.ensures.added

pub returns-clause-declares : goal.returns-clause-declares
returns-clause-declares c =
    if_ok_weaker c.declare.result _ _ (λ out d. subst (λ (v : Variable). Declares c.args.self.now c.declare.new.self v.domain (argument out)) (the_variable c.before) d) c.declare.ensures.declares
