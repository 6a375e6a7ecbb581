use Rattle.mz_symbol_access.proofs.StandingLaws.{chooses_itself, chooses_first, chooses_second}
use Rattle.mz_symbol_access.proofs.items.either.Goals as goal

pub returns-then-stands_beside-clause-chooses : goal.returns-then-stands_beside-clause-chooses
returns-then-stands_beside-clause-chooses c r h =
    let w = c.in_ok-one.ensures.picks r h in
    let back = c.in_ok-one.ensures.goes.back r h in
    chooses_first r c.args.run.now c.as_option.new.run c.picked.new.run c.args.c c.args.p c.args.q c.in_ok-first.first c.in_ok-one.one (c.in_ok-first.ensures.replaces r back) w

pub returns-then-stands_beside-2-clause-chooses : goal.returns-then-stands_beside-2-clause-chooses
returns-then-stands_beside-2-clause-chooses c r h =
    let w = c.in_ok-other.ensures.picks r h in
    let back = c.in_ok-other.ensures.goes.back r h in
    chooses_second r c.args.run.now c.as_option-then-stands_beside-2.new.run c.picked-then-stands_beside-2.new.run c.args.c c.args.p c.args.q c.in_ok-second.second c.in_ok-other.other (c.in_ok-second.ensures.replaces r back) w

pub returns-clause-chooses : goal.returns-clause-chooses
returns-clause-chooses c r h = chooses_itself r c.args.run.now c.picked-2.new.run c.args.c c.args.p c.args.q c.in_ok-plain.plain (c.in_ok-plain.ensures.picks r h)
