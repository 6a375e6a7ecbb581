use Rattle.std.proofs.Common.{◌≡◌, codes, decimal, ◌++◌, ◌∙◌, ap, map, length, rules}
use Rattle.fz_program.specs.Flat.{array_item, labels_of, variable}
use Rattle.fz_text.specs.Spelling.{array_line, commas, element_text, interval, label_at}
use Rattle.fz_text.proofs.Appends.{joined, joined_on_ok}
use Rattle.fz_text.proofs.array.push_array.Goals as goal

pub returns : goal.returns
unfolding array_line
returns c =
    let old = c.args.out.now.items in
    let vs = map variable c.args.vars.now in
    let a = array_item c.args.a.now in
    let n : c.len.result ≡ length a.items = search rules in
    let ranges = commas (map interval a.index) in
    let names = commas (map (label_at (labels_of vs)) a.items) in
    let t1 = codes "array [1.." ++ decimal (length a.items) in
    let t2 = t1 ++ codes "] of var " in
    let t3 = t2 ++ element_text vs a.items in
    let t4 = t3 ++ codes ": " in
    let t5 = t4 ++ a.label in
    let t6 = t5 ++ codes " :: output_array([" in
    let t7 = t6 ++ ranges in
    let t8 = t7 ++ codes "]) = [" in
    let t9 = t8 ++ names in
    let e1 = joined old (codes "array [1..") (decimal (length a.items)) c.in-Ok.ensures (c.in-Ok-push_count.ensures ∙ ap (λ k. c.push_text.new.out.items ++ decimal k) n) in
    let e2 = joined old t1 (codes "] of var ") e1 c.in-Ok-push_text.ensures in
    let e3 = joined old t2 (element_text vs a.items) e2 (c.in-Ok-push_element.ensures ∙ ap (λ t. c.push_text-2.new.out.items ++ element_text vs t) c.deref.ensures.value) in
    let e4 = joined old t3 (codes ": ") e3 c.in-Ok-push_text-2.ensures in
    let e5 = joined old t4 a.label e4 (c.in-Ok-push_text-3.ensures ∙ ap (λ t. c.push_text-3.new.out.items ++ t) c.as_bytes.ensures.value) in
    let e6 = joined old t5 (codes " :: output_array([") e5 c.in-Ok-push_text-4.ensures in
    let e7 = joined old t6 ranges e6 (c.in-Ok-push_intervals.ensures ∙ ap (λ t. c.push_text-5.new.out.items ++ commas (map interval t)) c.deref-2.ensures.value) in
    let e8 = joined old t7 (codes "]) = [") e7 c.in-Ok-push_text-5.ensures in
    let e9 = joined old t8 names e8 (c.in-Ok-push_labels.ensures ∙ ap (λ t. c.push_text-6.new.out.items ++ commas (map (label_at (labels_of vs)) t)) c.deref-3.ensures.value) in
    joined_on_ok c.push_text-7.result old t9 (codes "];\n") c.push_labels.new.out.items c.push_text-7.new.out.items e9 c.push_text-7.ensures
