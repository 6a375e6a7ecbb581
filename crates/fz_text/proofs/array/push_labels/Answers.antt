use Rattle.std.proofs.Common.{◌<◌, refl, sym, map, length, arith}
use Rattle.std.proofs.lemmas.List.{append-nil, nil_from_length}
use Rattle.fz_program.specs.Flat.{labels_of, variable}
use Rattle.fz_text.specs.Spelling.{commas, label_at}
use Rattle.fz_text.proofs.Commas.{listed}
use Rattle.fz_text.proofs.array.push_labels.Goals as goal

pub returns-in-empty : goal.returns-in-empty
unfolding commas
returns-in-empty c =
    let below : length c.args.items.now < 1 = c.in-empty.len_below in
    rw (nil_from_length c.args.items.now (omega arith)) (sym (append-nil c.args.out.now.items))

pub returns-in-Ok : goal.returns-in-Ok
returns-in-Ok c =
    let old = c.args.out.now.items in
    let items = c.args.items.now in
    let names = labels_of (map variable c.args.vars.now) in
    listed c.push_more_labels.result (label_at names) items 0 old c.push_label.new.out.items c.push_more_labels.new.out.items (commas (map (label_at names) items)) c.in-len1-up.len_at_least (refl) (c.in-Ok.ensures) c.push_more_labels.ensures
