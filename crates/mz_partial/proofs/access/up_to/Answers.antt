use Rattle.std.proofs.Common.{◌≤ℤ◌, refl, rules, subst, w64}
use Rattle.std.proofs.lemmas.Int.{to_z-of_z}
use Rattle.mz_interval.specs.Interval.{ends}
use Rattle.mz_partial.specs.Calls.{is_up_to, IsNumber}
use Rattle.mz_partial.proofs.Testing.{tests_told, tests_up_to, below_last, not_up_to, number_whole, whole_later}
use Rattle.mz_partial.proofs.access.up_to.Goals as goal

pub returns-then-range-len : goal.returns-then-range-len
returns-then-range-len c = tests_told ((ends c.args.range).1 ≤ℤ c.args.len) c.args.arena.now c.args.u (ends c.args.range) (is_up_to c.args.len) c.requires.arena c.requires.whole (λ m h. below_last (ends c.args.range) c.args.len m _ _ c.if-range-len.true (to_z-of_z w64 c.args.range.hi (search rules)) (to_z-of_z w64 c.args.len c.ranges.len) h)

pub comparison-requires : goal.comparison-requires
comparison-requires c =
    let z = c.in_ok-last.ensures in
    record {
      arena = z.arena;
      kind = refl;
      a = record { ends = ends c.args.range; is = whole_later c.args.arena.now c.integer.new.arena c.args.u (ends c.args.range) z.extends.grew c.requires.whole };
      b = number_whole c.args.arena.now c.integer.new.arena _ c.in_ok-last.last z;
    }

pub returns : goal.returns
returns c = tests_up_to ((ends c.args.range).1 ≤ℤ c.args.len) c.args.arena.now c.integer.new.arena c.comparison.new.arena c.args.u c.in_ok-last.last c.in_ok-f.f (ends c.args.range) c.args.len c.requires.whole (subst (λ k. IsNumber c.args.arena.now c.integer.new.arena k c.in_ok-last.last) (to_z-of_z w64 c.args.len c.ranges.len) c.in_ok-last.ensures) c.in_ok-f.ensures (λ x. not_up_to (ends c.args.range) c.args.len _ _ c.if-range-len.false (to_z-of_z w64 c.args.range.hi (search rules)) (to_z-of_z w64 c.args.len c.ranges.len) x)
