use Rattle.std.proofs.Common.{◌<◌, ◌++◌, ◌∙◌, sym, ap, map, length, arith}
use Rattle.std.proofs.lemmas.List.{append-nil, nil_from_length}
use Rattle.fz_program.specs.Flat.{labels_of, variable}
use Rattle.fz_program.specs.Arguments.{plain, plains}
use Rattle.fz_text.specs.Spelling.{commas, plain_text}
use Rattle.fz_text.proofs.Commas.{listed, plains_map}
use Rattle.fz_text.proofs.spell.push_plains.Goals as goal

pub returns-in-empty : goal.returns-in-empty
unfolding commas
returns-in-empty c =
    let below : length c.args.items.now < 1 = c.in-empty.len_below in
    rw (nil_from_length c.args.items.now (omega arith)) (sym (append-nil c.args.out.now.items))

pub returns-in-Ok : goal.returns-in-Ok
returns-in-Ok c =
    let old = c.args.out.now.items in
    let items = c.args.items.now in
    let names = labels_of (map variable c.args.vars.now) in
    listed c.push_more_plains.result (λ a. plain_text names (plain a)) items c.first-item.result old c.push_plain.new.out.items c.push_more_plains.new.out.items (commas (map (plain_text names) (plains items))) c.in-len1-up.len_at_least (ap commas (plains_map (plain_text names) items)) (c.in-Ok.ensures ∙ ap (λ a. old ++ plain_text names (plain a)) c.first-item.is) c.push_more_plains.ensures
