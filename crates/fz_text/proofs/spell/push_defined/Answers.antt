use Rattle.std.proofs.Common.{codes, map, ◌++◌}
use Rattle.fz_program.specs.Flat.{labels_of, variable}
use Rattle.fz_text.specs.Spelling.{definition, label_at}
use Rattle.fz_text.proofs.Appends.{joined, joined_on_ok}
use Rattle.fz_text.proofs.spell.push_defined.Goals as goal

pub returns : goal.returns
unfolding definition
returns c =
    let old = c.args.out.now.items in
    let label = label_at (labels_of (map variable c.args.vars.now)) c.args.k in
    let e1 = joined old (codes " :: defines_var(") label c.in-Ok.ensures c.in-Ok-push_label.ensures in
    joined_on_ok c.push_text-2.result old (codes " :: defines_var(" ++ label) (codes ")") c.push_label.new.out.items c.push_text-2.new.out.items e1 c.push_text-2.ensures
