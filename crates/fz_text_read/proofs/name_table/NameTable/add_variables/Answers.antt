use Rattle.std.proofs.Common.{map, ap, sym, ◌∙◌, string_bytes}
use Rattle.std.proofs.lemmas.List.{length-map}
use Rattle.fz_program.specs.Flat.{labels_of, variable}
use Rattle.fz_program.proofs.Labels.{label_or_is}
use Rattle.fz_text_read.proofs.NameLoops.{all_put, one_more, stops_at}
use Rattle.fz_text_read.proofs.name_table.NameTable.add_variables.Goals as goal

pub returns-in-Err : goal.returns-in-Err
returns-in-Err c =
    let all = labels_of (map variable c.args.vars.now) in
    let i = c.loop-v.v-index in
    let x = c.as_str.result.now in
    stops_at c.args.self.now c.loop-v.self c.add.new.self all i x c.in-Err.miss (rw (length-map, length-map) c.loop-v-test.true) (c.as_str.ensures.value ∙ ap (λ y. string_bytes y.label.text) c.v-item.is ∙ sym (label_or_is c.args.vars.now i x c.v-item.result c.loop-v-test.true)) c.loop-v.invariant c.in-Err.ensures

pub loop-v-preserved : goal.loop-v-preserved
loop-v-preserved c =
    let all = labels_of (map variable c.args.vars.now) in
    let i = c.loop-v.v-index in
    let x = c.as_str.result.now in
    one_more c.args.self.now c.loop-v.self c.add.new.self all i x (rw (length-map, length-map) c.loop-v-test.true) (c.as_str.ensures.value ∙ ap (λ y. string_bytes y.label.text) c.v-item.is ∙ sym (label_or_is c.args.vars.now i x c.v-item.result c.loop-v-test.true)) c.loop-v.invariant c.in-Ok.ensures

pub returns : goal.returns
returns c =
    let all = labels_of (map variable c.args.vars.now) in
    all_put c.args.self.now c.loop-v.self all c.loop-v.v-index (rw (length-map, length-map) c.loop-v-test.false) c.loop-v.invariant
