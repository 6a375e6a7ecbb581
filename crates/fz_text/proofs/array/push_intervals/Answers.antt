use Rattle.std.proofs.Common.{◌<◌, refl, sym, map, length, arith}
use Rattle.std.proofs.lemmas.List.{append-nil, nil_from_length}
use Rattle.std.specs.Prelude.{pos}
use Rattle.fz_text.specs.Spelling.{commas, interval}
use Rattle.fz_text.proofs.Commas.{listed}
use Rattle.fz_text.proofs.array.push_intervals.Goals as goal

pub returns-in-empty : goal.returns-in-empty
unfolding commas
returns-in-empty c =
    let below : length c.args.ranges.now < 1 = c.in-empty.len_below in
    rw (nil_from_length c.args.ranges.now (omega arith)) (sym (append-nil c.args.out.now.items))

pub returns-in-Ok : goal.returns-in-Ok
returns-in-Ok c =
    let old = c.args.out.now.items in
    let items = c.args.ranges.now in
    listed c.push_more_intervals.result interval items (pos 0, pos 0) old c.push_interval.new.out.items c.push_more_intervals.new.out.items (commas (map interval items)) c.in-len1-up.len_at_least (refl) (c.in-Ok.ensures) c.push_more_intervals.ensures
