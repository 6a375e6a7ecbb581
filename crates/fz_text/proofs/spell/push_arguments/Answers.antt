use Rattle.std.proofs.Common.{◌<◌, ◌++◌, ◌∙◌, sym, ap, map, length, arith}
use Rattle.std.proofs.lemmas.List.{append-nil, nil_from_length}
use Rattle.fz_program.specs.Flat.{labels_of, variable}
use Rattle.fz_program.specs.Arguments.{argument}
use Rattle.fz_text.specs.Spelling.{commas, argument_text}
use Rattle.fz_text.proofs.Commas.{listed, map_map}
use Rattle.fz_text.proofs.spell.push_arguments.Goals as goal

pub returns-in-empty : goal.returns-in-empty
unfolding commas
returns-in-empty c =
    let below : length c.args.args.now < 1 = c.in-empty.len_below in
    rw (nil_from_length c.args.args.now (omega arith)) (sym (append-nil c.args.out.now.items))

pub returns-in-Ok : goal.returns-in-Ok
returns-in-Ok c =
    let old = c.args.out.now.items in
    let items = c.args.args.now in
    let names = labels_of (map variable c.args.vars.now) in
    listed c.push_more_arguments.result (λ a. argument_text names (argument a)) items c.first-item.result old c.push_argument.new.out.items c.push_more_arguments.new.out.items (commas (map (argument_text names) (map argument items))) c.in-len1-up.len_at_least (ap commas (map_map (argument_text names) argument items)) (c.in-Ok.ensures ∙ ap (λ a. old ++ argument_text names (argument a)) c.first-item.is) c.push_more_arguments.ensures
