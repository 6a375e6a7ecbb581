use Rattle.std.proofs.Common.{codes, ◌++◌, ◌∙◌, ap, map}
use Rattle.fz_program.specs.Table.{line}
use Rattle.fz_program.specs.Arguments.{argument}
use Rattle.fz_program.specs.Flat.{labels_of, row, variable}
use Rattle.fz_text.specs.Spelling.{row_line, argument_list, definition}
use Rattle.fz_text.proofs.Appends.{joined, joined_on_ok}
use Rattle.fz_text.proofs.spell.push_row.Goals as goal

pub returns : goal.returns
unfolding row_line
returns c =
    let old = c.args.out.now.items in
    let names = labels_of (map variable c.args.vars.now) in
    let r = row c.args.r.now in
    let t1 = codes "constraint " ++ (line r.name).text in
    let t2 = t1 ++ codes "(" in
    let t3 = t2 ++ argument_list names r.args in
    let t4 = t3 ++ codes ")" in
    let t5 = t4 ++ definition names r.defines in
    let e1 = joined old (codes "constraint ") (line r.name).text c.in-Ok.ensures (c.in-Ok-push_text.ensures ∙ ap (λ t. c.push_text.new.out.items ++ t) c.name_of.ensures) in
    let e2 = joined old t1 (codes "(") e1 c.in-Ok-push_text-2.ensures in
    let e3 = joined old t2 (argument_list names r.args) e2 (c.in-Ok-push_arguments.ensures ∙ ap (λ t. c.push_text-3.new.out.items ++ argument_list names (map argument t)) c.deref.ensures.value) in
    let e4 = joined old t3 (codes ")") e3 c.in-Ok-push_text-3.ensures in
    let e5 = joined old t4 (definition names r.defines) e4 c.in-Ok-push_definition.ensures in
    joined_on_ok c.push_text-5.result old t5 (codes ";\n") c.push_definition.new.out.items c.push_text-5.new.out.items e5 c.push_text-5.ensures
