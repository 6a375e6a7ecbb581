use Rattle.std.proofs.Common.{◌*◌, length, ap}
use Rattle.mz_core.specs.Types.{plain_type}
use Rattle.mz_meaning.specs.Domains.{domain_over}
use Rattle.mz_eval_declared.proofs.Lined.{chosen_line_is}
use Rattle.mz_eval_declared.proofs.arrays.chosen_line.Goals as goal

pub push_line-requires : goal.push_line-requires
push_line-requires c t h e = c.in_ok-items.ensures.items t h

pub returns-clause-line : goal.returns-clause-line
returns-clause-line c =
    chosen_line_is c.args.count (16 * length c.in_ok-items.items.items) (length c.choices.result.now) c.in-Ok.yes c.in-Ok-push_line.line
    (domain_over (plain_type c.args.t.now) c.args.set.now)
    c.args.run.now c.truth_node.new.self c.take_each.new.run c.push_line.new.self c.in_ok-items.items.items
    (λ r h. c.in-Ok.ensures.means r h) (ap length c.choices.ensures) c.in_ok-take_each.ensures.takes
    c.in_ok-items.ensures.of c.in_ok-items.ensures.count c.in-Ok-push_line.ensures.goes (λ r h. c.in-Ok-push_line.ensures.means r h)
