use Rattle.std.proofs.Common.{◌≡◌, None, ap, subst, sym, map, ◌∙◌}
use Rattle.fz_program.specs.declared.program.FzRow.{FzRow}
use Rattle.fz_program.specs.Arguments.{argument}
use Rattle.fz_program.specs.Flat.{Program, row}
use Rattle.fz_build.specs.Build.{constraint, with_row}
use Rattle.fz_build.specs.Growth.{Posts}
use Rattle.fz_build.proofs.Declared.{posted}
use Rattle.fz_build.proofs.Grown.{items_row, stands_row}
use Rattle.fz_build.proofs.builder.Build.post.Goals as goal

abbrev the_row : (c : goal.In_ok-push) → FzRow
the_row c = record { name = c.args.name; args = c.in_ok-args.args; defines = None }

row_is : (c : goal.In_ok-push) → row (the_row c) ≡ constraint c.args.name (map argument c.args.args.now)
row_is c = ap (constraint c.args.name) c.in_ok-args.ensures

pub invariant_of-self-2 : goal.invariant_of-self-2
invariant_of-self-2 c = stands_row c.self.inside.vars.items c.self.inside.arrays.items c.self.inside.rows.items c.push.new.self.items c.self.inside.next (the_row c) c.args.self.now (constraint c.args.name (map argument c.args.args.now)) c.in_ok-push.ensures.items (row_is c) c.self.view_is c.self.invariant c.requires

pub returns-clause-added : goal.returns-clause-added
returns-clause-added c =
    items_row c.self.inside.vars.items c.self.inside.arrays.items c.self.inside.rows.items c.push.new.self.items (the_row c) c.in_ok-push.ensures.items
    ∙ ap (λ p. with_row p (row (the_row c))) c.self.view_is ∙ ap (with_row c.args.self.now) (row_is c)

pub returns-clause-posts : goal.returns-clause-posts
returns-clause-posts c =
    let old = c.args.self.now in
    let r = constraint c.args.name (map argument c.args.args.now) in
    subst (λ (q : Program). Posts old q r) (sym (returns-clause-added c)) (posted old r)
