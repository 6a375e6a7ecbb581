use Rattle.std.proofs.Common.{subst, w64}
use Rattle.std.proofs.lemmas.Int.{to_z-of_z}
use Rattle.mz_partial.specs.Calls.{IsNumber}
use Rattle.mz_partial.proofs.Standing.{truth_later}
use Rattle.mz_partial.proofs.Saying.{flag_by}
use Rattle.mz_partial.proofs.Testing.{safe_none, safe_some, choice_alike}
use Rattle.mz_partial.proofs.division.safe.Goals as goal

pub returns-in_default : goal.returns-in_default
returns-in_default c = safe_none c.args.arena.now c.args.u c.args.f c.args.number c.requires.arena c.in_default.is

pub choice-requires : goal.choice-requires
choice-requires c =
    let z = c.in_ok-k.ensures in
    record {
      arena = z.arena;
      c = truth_later c.args.arena.now c.integer.new.arena c.in-Some.c z.extends.grew (flag_by c.args.arena.now c.args.f c.in-Some.c c.in-Some.is c.requires.flag);
      alike = choice_alike c.args.arena.now c.integer.new.arena c.args.u c.in_ok-k.k _ c.requires.whole z;
    }

pub returns : goal.returns
returns c = safe_some c.args.arena.now c.integer.new.arena c.choice.new.arena c.args.u c.in-Some.c c.in_ok-k.k c.in_ok-w.w c.args.f c.args.number c.in-Some.is
    (subst (λ k. IsNumber c.args.arena.now c.integer.new.arena k c.in_ok-k.k) (to_z-of_z w64 c.args.number c.ranges.number) c.in_ok-k.ensures) c.in_ok-w.ensures
