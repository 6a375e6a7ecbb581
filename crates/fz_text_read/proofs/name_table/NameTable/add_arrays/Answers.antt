use Rattle.std.proofs.Common.{map, ap, sym, ◌∙◌, string_bytes}
use Rattle.std.proofs.lemmas.List.{length-map}
use Rattle.fz_program.specs.Flat.{array_labels, array_item}
use Rattle.fz_program.proofs.Labels.{array_label_is}
use Rattle.fz_text_read.proofs.NameLoops.{all_put, one_more, stops_at}
use Rattle.fz_text_read.proofs.name_table.NameTable.add_arrays.Goals as goal

pub returns-in-Err : goal.returns-in-Err
returns-in-Err c =
    let all = array_labels (map array_item c.args.arrays.now) in
    let i = c.loop-a.a-index in
    let x = c.as_str.result.now in
    stops_at c.args.self.now c.loop-a.self c.add.new.self all i x c.in-Err.miss (rw (length-map, length-map) c.loop-a-test.true) (c.as_str.ensures.value ∙ ap (λ y. string_bytes y.label.text) c.a-item.is ∙ sym (array_label_is c.args.arrays.now i x c.a-item.result c.loop-a-test.true)) c.loop-a.invariant c.in-Err.ensures

pub loop-a-preserved : goal.loop-a-preserved
loop-a-preserved c =
    let all = array_labels (map array_item c.args.arrays.now) in
    let i = c.loop-a.a-index in
    let x = c.as_str.result.now in
    one_more c.args.self.now c.loop-a.self c.add.new.self all i x (rw (length-map, length-map) c.loop-a-test.true) (c.as_str.ensures.value ∙ ap (λ y. string_bytes y.label.text) c.a-item.is ∙ sym (array_label_is c.args.arrays.now i x c.a-item.result c.loop-a-test.true)) c.loop-a.invariant c.in-Ok.ensures

pub returns : goal.returns
returns c =
    let all = array_labels (map array_item c.args.arrays.now) in
    all_put c.args.self.now c.loop-a.self all c.loop-a.a-index (rw (length-map, length-map) c.loop-a-test.false) c.loop-a.invariant
