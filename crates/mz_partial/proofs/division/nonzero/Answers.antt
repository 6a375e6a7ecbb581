use Rattle.std.proofs.Common.{refl, rules, w64}
use Rattle.std.proofs.lemmas.Int.{to_z-of_z}
use Rattle.mz_interval.specs.Interval.{ends}
use Rattle.mz_partial.specs.Told.{IsApart}
use Rattle.mz_partial.specs.Calls.{is_nonzero}
use Rattle.mz_partial.proofs.Testing.{tests_told, tests_nonzero, above_zero, below_zero, not_apart, number_whole, whole_later}
use Rattle.mz_partial.proofs.division.nonzero.Goals as goal

pub returns-then-range-gt0 : goal.returns-then-range-gt0
returns-then-range-gt0 c = tests_told (IsApart (ends c.args.range)) c.args.arena.now c.args.u (ends c.args.range) is_nonzero c.requires.arena c.requires.whole (λ m h. above_zero (ends c.args.range) m _ c.if-range-gt0.true (to_z-of_z w64 c.args.range.lo (search rules)) h)

pub returns-then-range-lt0 : goal.returns-then-range-lt0
returns-then-range-lt0 c = tests_told (IsApart (ends c.args.range)) c.args.arena.now c.args.u (ends c.args.range) is_nonzero c.requires.arena c.requires.whole (λ m h. below_zero (ends c.args.range) m _ c.if-range-lt0.true (to_z-of_z w64 c.args.range.hi (search rules)) h)

pub comparison-requires : goal.comparison-requires
comparison-requires c =
    let z = c.in_ok-zero.ensures in
    record {
      arena = z.arena;
      kind = refl;
      a = record { ends = ends c.args.range; is = whole_later c.args.arena.now c.integer.new.arena c.args.u (ends c.args.range) z.extends.grew c.requires.whole };
      b = number_whole c.args.arena.now c.integer.new.arena _ c.in_ok-zero.zero z;
    }

pub returns : goal.returns
returns c = tests_nonzero (IsApart (ends c.args.range)) c.args.arena.now c.integer.new.arena c.comparison.new.arena c.args.u c.in_ok-zero.zero c.in_ok-f.f (ends c.args.range) c.requires.whole c.in_ok-zero.ensures c.in_ok-f.ensures (λ x. not_apart (ends c.args.range) _ _ c.if-range-gt0.false (to_z-of_z w64 c.args.range.lo (search rules)) c.if-range-lt0.false (to_z-of_z w64 c.args.range.hi (search rules)) x)
