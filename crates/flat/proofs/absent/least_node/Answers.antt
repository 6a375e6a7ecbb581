use Rattle.std.proofs.Common.{◌≡◌, subst, sym, true, w64}
use Rattle.std.proofs.lemmas.Int.{to_z-of_z}
use Rattle.mz_interval.specs.Ends.{is_number}
use Rattle.mz_partial.specs.Calls.{IsNumber}
use Rattle.flat.proofs.Absenting.{truth_given, least_truth, least_number, whole_given, limit_given, whole_mid, number_whole}
use Rattle.flat.proofs.absent.least_node.Goals as goal

pub negation-requires : goal.negation-requires
negation-requires c = truth_given c.args.arena.now c.args.truth c.args.id c.args.least c.if-truth.true c.requires

pub returns-in-Ok : goal.returns-in-Ok
returns-in-Ok c = least_truth c.args.arena.now c.negation.new.arena c.args.truth c.args.id c.args.least c.in-Ok.x c.if-truth.true c.requires c.in-Ok.ensures

pub integer-requires : goal.integer-requires
integer-requires c = subst (λ n. is_number n ≡ true) (sym (to_z-of_z w64 c.args.least c.ranges.least)) (limit_given c.args.arena.now c.args.truth c.args.id c.args.least c.if-truth.false c.requires)

pub equal-requires-clause-a : goal.equal-requires-clause-a
equal-requires-clause-a c = whole_mid c.args.arena.now c.integer.new.arena c.args.id c.in-Ok-integer.x c.args.least (subst (λ n. IsNumber c.args.arena.now c.integer.new.arena n c.in-Ok-integer.x) (to_z-of_z w64 c.args.least c.ranges.least) c.in-Ok-integer.ensures) (whole_given c.args.arena.now c.args.truth c.args.id c.args.least c.if-truth.false c.requires)

pub equal-requires-clause-b : goal.equal-requires-clause-b
equal-requires-clause-b c = number_whole c.args.arena.now c.integer.new.arena c.in-Ok-integer.x c.args.least (subst (λ n. IsNumber c.args.arena.now c.integer.new.arena n c.in-Ok-integer.x) (to_z-of_z w64 c.args.least c.ranges.least) c.in-Ok-integer.ensures)

pub returns-in-Ok-equal : goal.returns-in-Ok-equal
returns-in-Ok-equal c = least_number c.args.arena.now c.integer.new.arena c.equal.new.arena c.args.truth c.args.id c.args.least c.in-Ok-integer.x c.in-Ok-equal.x c.if-truth.false c.requires (subst (λ n. IsNumber c.args.arena.now c.integer.new.arena n c.in-Ok-integer.x) (to_z-of_z w64 c.args.least c.ranges.least) c.in-Ok-integer.ensures) c.in-Ok-equal.ensures
