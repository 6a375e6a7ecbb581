use Rattle.std.proofs.Common.{codes, ◌++◌, ◌∙◌, ap}
use Rattle.fz_program.specs.Flat.{variable}
use Rattle.fz_text.specs.Spelling.{variable_line, domain_text, mark}
use Rattle.fz_text.proofs.Appends.{joined, joined_on_ok}
use Rattle.fz_text.proofs.spell.push_variable.Goals as goal

pub returns : goal.returns
unfolding variable_line
returns c =
    let old = c.args.out.now.items in
    let v = variable c.args.v.now in
    let t1 = codes "var " ++ domain_text v.domain in
    let t2 = t1 ++ codes ": " in
    let t3 = t2 ++ v.label in
    let t4 = t3 ++ mark v.output (codes "output_var") in
    let t5 = t4 ++ mark v.introduced (codes "var_is_introduced") in
    let t6 = t5 ++ mark v.defined (codes "is_defined_var") in
    let e1 = joined old (codes "var ") (domain_text v.domain) c.in-Ok.ensures c.in-Ok-push_domain.ensures in
    let e2 = joined old t1 (codes ": ") e1 c.in-Ok-push_text.ensures in
    let e3 = joined old t2 v.label e2 (c.in-Ok-push_text-2.ensures ∙ ap (λ t. c.push_text-2.new.out.items ++ t) c.as_bytes.ensures.value) in
    let e4 = joined old t3 (mark v.output (codes "output_var")) e3 c.in-Ok-push_mark.ensures in
    let e5 = joined old t4 (mark v.introduced (codes "var_is_introduced")) e4 c.in-Ok-push_mark-2.ensures in
    let e6 = joined old t5 (mark v.defined (codes "is_defined_var")) e5 c.in-Ok-push_mark-3.ensures in
    joined_on_ok c.push_text-4.result old t6 (codes ";\n") c.push_mark-3.new.out.items c.push_text-4.new.out.items e6 c.push_text-4.ensures
