use Rattle.std.proofs.Common.{◌≤ℤ◌, subst, w64}
use Rattle.std.proofs.lemmas.Int.{to_z-of_z}
use Rattle.mz_interval.specs.Interval.{ends}
use Rattle.mz_partial.specs.Calls.{Tests, is_up_to}
use Rattle.mz_partial.proofs.Testing.{tests_place, is_flag_later, whole_later}
use Rattle.mz_partial.proofs.access.inside.Goals as goal

pub up_to-requires-clause-whole : goal.up_to-requires-clause-whole
up_to-requires-clause-whole c = whole_later c.args.arena.now c.from_one.new.arena c.args.u (ends c.args.range) c.in_ok-low.ensures.extends.grew c.requires.whole

pub both-requires-clause-f : goal.both-requires-clause-f
both-requires-clause-f c = is_flag_later c.from_one.new.arena c.up_to.new.arena c.in_ok-low.low c.in_ok-high.ensures.extends.grew c.in_ok-low.ensures.flag

pub returns : goal.returns
returns c = tests_place c.args.arena.now c.from_one.new.arena c.up_to.new.arena c.both.new.arena c.args.u (ends c.args.range) c.args.len c.in_ok-low.low c.in_ok-high.high c.in_ok-f.f c.in_ok-low.ensures
    (subst (λ l. Tests 2 ((ends c.args.range).1 ≤ℤ l) c.from_one.new.arena c.up_to.new.arena c.args.u (is_up_to l) c.in_ok-high.high) (to_z-of_z w64 c.args.len c.ranges.len) c.in_ok-high.ensures) c.in_ok-f.ensures
