use Rattle.std.proofs.Common.{◌≡◌, ℕ, length, ap, subst, sym, ◌∙◌, arith}
use Rattle.std.proofs.lemmas.List.{length-map}
use Rattle.fz_program.specs.declared.program.Arg.{the_lemmas}
use Rattle.fz_program.specs.Arguments.{one, var}
use Rattle.fz_program.specs.Flat.{Program, variable}
use Rattle.fz_build.specs.Build.{IsBuilt, with_variable}
use Rattle.fz_build.specs.Growth.{Declares}
use Rattle.fz_build.proofs.Declared.{declared}
use Rattle.fz_build.proofs.Grown.{items_variable, next_below, stands_variable}
use Rattle.fz_build.proofs.builder.Build.declare.Goals as goal

pub number_after-self-inside-requires : goal.number_after-self-inside-requires
number_after-self-inside-requires c =
    let below = next_below c.self.inside.vars.items c.self.inside.next c.self.invariant.1 in
    omega (arith, below, c.self.inside.vars.ok.0, c.self.inside.vars.ok.1, c.self.inside.vars.small)

pub invariant_of-self-2 : goal.invariant_of-self-2
invariant_of-self-2 c =
    let stands = stands_variable c.self.inside.vars.items c.push.new.self.items c.self.inside.arrays.items c.self.inside.rows.items c.self.inside.next c.args.var c.args.self.now c.in_ok-push.ensures.items c.self.view_is c.self.invariant c.requires in
    (stands.0, c.number_after-self-inside.ensures ∙ stands.1)

pub returns-clause-added : goal.returns-clause-added
returns-clause-added c =
    items_variable c.self.inside.vars.items c.push.new.self.items c.self.inside.arrays.items c.self.inside.rows.items c.args.var c.in_ok-push.ensures.items
    ∙ ap (λ p. with_variable p (variable c.args.var)) c.self.view_is

place : (c : goal.After-self-1) → c.len-k.result ≡ length c.args.self.now.vars
place c = c.len-k.ensures ∙ c.self.inside.vars.ok.0 ∙ sym (length-map c.self.inside.vars.items variable) ∙ ap (λ (p : Program). length p.vars) c.self.view_is

pub returns-clause-place : goal.returns-clause-place
returns-clause-place c = simp the_lemmas (ap (λ k. one (var k)) (place c))

pub returns-clause-declares : goal.returns-clause-declares
returns-clause-declares c =
    let built : IsBuilt c.args.self.now = subst IsBuilt c.self.view_is c.self.invariant.0 in
    let Of : Program → ℕ → Type 0 = λ q k. Declares c.args.self.now q c.args.var.domain (one (var k)) in
    let new : Of (with_variable c.args.self.now (variable c.args.var)) (length c.args.self.now.vars) = declared c.args.self.now (variable c.args.var) built.well_formed.parts.rows in
    simp the_lemmas (subst (λ q. Of q c.len-k.result) (sym (returns-clause-added c)) (subst (Of (with_variable c.args.self.now (variable c.args.var))) (sym (place c)) new))
