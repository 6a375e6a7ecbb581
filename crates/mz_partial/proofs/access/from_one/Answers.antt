use Rattle.std.proofs.Common.{◌≤ℤ◌, pos, refl, rules, w64}
use Rattle.std.proofs.lemmas.Int.{to_z-of_z}
use Rattle.mz_interval.specs.Interval.{ends}
use Rattle.mz_partial.specs.Calls.{is_from_one}
use Rattle.mz_partial.proofs.Testing.{tests_told, tests_from_one, above_one, not_from_one, number_whole, whole_later}
use Rattle.mz_partial.proofs.access.from_one.Goals as goal

pub returns-then-range-ge1 : goal.returns-then-range-ge1
returns-then-range-ge1 c = tests_told (pos 1 ≤ℤ (ends c.args.range).0) c.args.arena.now c.args.u (ends c.args.range) is_from_one c.requires.arena c.requires.whole (λ m h. above_one (ends c.args.range) m _ c.if-range-ge1.true (to_z-of_z w64 c.args.range.lo (search rules)) h)

pub comparison-requires : goal.comparison-requires
comparison-requires c =
    let z = c.in_ok-first.ensures in
    record {
      arena = z.arena;
      kind = refl;
      a = number_whole c.args.arena.now c.integer.new.arena _ c.in_ok-first.first z;
      b = record { ends = ends c.args.range; is = whole_later c.args.arena.now c.integer.new.arena c.args.u (ends c.args.range) z.extends.grew c.requires.whole };
    }

pub returns : goal.returns
returns c = tests_from_one (pos 1 ≤ℤ (ends c.args.range).0) c.args.arena.now c.integer.new.arena c.comparison.new.arena c.args.u c.in_ok-first.first c.in_ok-f.f (ends c.args.range) c.requires.whole c.in_ok-first.ensures c.in_ok-f.ensures (λ x. not_from_one (ends c.args.range) _ c.if-range-ge1.false (to_z-of_z w64 c.args.range.lo (search rules)) x)
