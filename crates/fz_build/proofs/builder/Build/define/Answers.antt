use Rattle.std.proofs.Common.{inr, ◌≡◌, ◌<◌, ◌^◌, length, map, subst, ap, sym, ◌∙◌, arith}
use Rattle.std.proofs.lemmas.List.{length-map}
use Rattle.fz_program.specs.declared.program.Arg.{the_lemmas}
use Rattle.fz_program.specs.declared.program.FzRow.{FzRow}
use Rattle.fz_program.specs.Arguments.{argument, one, var}
use Rattle.fz_program.specs.Flat.{Program, variable, row}
use Rattle.fz_build.specs.Naming.{introduced_name, next_number}
use Rattle.fz_build.specs.Build.{IsBuilt, items, defined_variable, defining, with_defined}
use Rattle.fz_build.specs.Growth.{Defines}
use Rattle.fz_build.proofs.Grown.{next_below, named_variable, row_of, items_defined, stands_defined}
use Rattle.fz_build.proofs.Defined.{defined}
use Rattle.fz_build.proofs.builder.Build.define.Goals as goal

place : (c : goal.After-self-1) → c.len-k.result ≡ length c.args.self.now.vars
place c = c.len-k.ensures ∙ c.self.inside.vars.ok.0 ∙ sym (length-map c.self.inside.vars.items variable) ∙ ap (λ (p : Program). length p.vars) c.self.view_is

number : (c : goal.After-self-1) → c.self.inside.next ≡ next_number c.args.self.now.vars
number c = c.self.invariant.1 ∙ ap (λ (p : Program). next_number p.vars) c.self.view_is

the_variable : (c : goal.After-self-1) → variable c.defined_variable.result ≡ defined_variable c.args.self.now c.args.domain
the_variable c = c.defined_variable.ensures ∙ named_variable c.args.self.now _ c.args.domain (c.in-Ok.ensures ∙ ap introduced_name (number c))

abbrev the_row : (c : goal.After-self-1) → FzRow
the_row c = c.defining_row.result

row_is : (c : goal.After-self-1) → row (the_row c) ≡ defining c.args.name (map argument c.args.inputs.now) (length c.args.self.now.vars)
row_is c = c.defining_row.ensures ∙ row_of c.args.name (map argument c.in-Ok-args_with.x.items) (map argument c.args.inputs.now) c.len-k.result (length c.args.self.now.vars) c.in-Ok-args_with.ensures (place c)

added : (c : goal.After-self-1) → items c.push_both.new.vars.items c.self.inside.arrays.items c.push_both.new.rows.items ≡ with_defined c.args.self.now c.args.name (map argument c.args.inputs.now) c.args.domain
added c = items_defined c.self.inside.vars.items c.push_both.new.vars.items c.self.inside.arrays.items c.self.inside.rows.items c.push_both.new.rows.items c.defined_variable.result (the_row c) c.args.self.now c.args.name (map argument c.args.inputs.now) c.args.domain c.in-Ok-push_both.ensures.vars c.in-Ok-push_both.ensures.rows c.self.view_is (the_variable c) (row_is c)

pub number_after-self-inside-requires : goal.number_after-self-inside-requires
number_after-self-inside-requires c =
    let most = next_below c.self.inside.vars.items c.self.inside.next c.self.invariant.1 in
    omega (arith, most, c.self.inside.vars.ok.0, c.self.inside.vars.ok.1, c.self.inside.vars.small)

pub invariant_of-self-2 : goal.invariant_of-self-2
invariant_of-self-2 c =
    let most = next_below c.self.inside.vars.items c.self.inside.next c.self.invariant.1 in
    let room : c.self.inside.next < 2 ^ 64 = omega (arith, most, c.self.inside.vars.ok.0, c.self.inside.vars.ok.1, c.self.inside.vars.small) in
    let stands = stands_defined c.self.inside.vars.items c.push_both.new.vars.items c.self.inside.arrays.items c.self.inside.rows.items c.push_both.new.rows.items c.self.inside.next c.defined_variable.result (the_row c) c.args.self.now c.args.name (map argument c.args.inputs.now) c.args.domain c.in-Ok-push_both.ensures.vars c.in-Ok-push_both.ensures.rows c.self.view_is (the_variable c) (row_is c) c.self.invariant room c.has_set.ensures c.requires in
    (stands.0, c.number_after-self-inside.ensures ∙ stands.1)

pub returns-clause-added : goal.returns-clause-added
returns-clause-added c = inr (added c)

pub returns-clause-defines : goal.returns-clause-defines
returns-clause-defines c =
    let inputs = map argument c.args.inputs.now in
    let built : IsBuilt c.args.self.now = subst IsBuilt c.self.view_is c.self.invariant.0 in
    let new : Defines c.args.self.now (with_defined c.args.self.now c.args.name inputs c.args.domain) c.args.name inputs c.args.domain (one (var (length c.args.self.now.vars))) = defined c.args.self.now c.args.name inputs c.args.domain c.requires built.well_formed.parts.rows in
    let here : Defines c.args.self.now (with_defined c.args.self.now c.args.name inputs c.args.domain) c.args.name inputs c.args.domain (one (var c.len-k.result)) = subst (λ k. Defines c.args.self.now (with_defined c.args.self.now c.args.name inputs c.args.domain) c.args.name inputs c.args.domain (one (var k))) (sym (place c)) new in
    simp the_lemmas (subst (λ (q : Program). Defines c.args.self.now q c.args.name inputs c.args.domain (one (var c.len-k.result))) (sym (added c)) here)
