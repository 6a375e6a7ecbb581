use Rattle.std.proofs.Common.{ap, ◌∙◌}
use Rattle.fz_program.specs.Flat.{array_item}
use Rattle.fz_build.specs.Build.{with_array}
use Rattle.fz_build.proofs.Grown.{items_array, stands_array}
use Rattle.fz_build.proofs.builder.Build.array.Goals as goal

pub invariant_of-self-2 : goal.invariant_of-self-2
invariant_of-self-2 c = stands_array c.self.inside.vars.items c.self.inside.arrays.items c.push.new.self.items c.self.inside.rows.items c.self.inside.next c.args.a c.args.self.now c.in_ok-push.ensures.items c.self.view_is c.self.invariant c.requires

pub returns-clause-added : goal.returns-clause-added
returns-clause-added c =
    items_array c.self.inside.vars.items c.self.inside.arrays.items c.push.new.self.items c.self.inside.rows.items c.args.a c.in_ok-push.ensures.items
    ∙ ap (λ p. with_array p (array_item c.args.a)) c.self.view_is
