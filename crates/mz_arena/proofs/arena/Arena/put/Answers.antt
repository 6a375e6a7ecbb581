use Rattle.std.proofs.Common.{arith, sym, subst, ◌∙◌}
use Rattle.mz_arena.specs.Tables.{asked, TellsIn, IsLongCons}
use Rattle.mz_arena.proofs.Kept.{kept_kept}
use Rattle.mz_arena.proofs.Placing.{kept_listed, asked_kept}
use Rattle.mz_arena.proofs.Put.{put_ready, put_places, put_last, count_fits, count_next, count_same, told_kept, arena_kept}
use Rattle.mz_arena.proofs.Telling.{length-entries}
use Rattle.mz_arena.proofs.arena.Arena.put.Goals as goal

pub reach_of-requires-clause-listed : goal.reach_of-requires-clause-listed
reach_of-requires-clause-listed c = c.self.invariant.lists

pub add_list-requires-clause-listed : goal.add_list-requires-clause-listed
add_list-requires-clause-listed c = kept_listed c.self.inside.table c.reach_of.new.self c.in_ok-reach.ensures.kept c.self.invariant.lists

pub add_list-requires-clause-told : goal.add_list-requires-clause-told
add_list-requires-clause-told c = subst (λ o. TellsIn c.reach_of.new.self o (asked c.reach_of.new.self c.args.n.now)) c.in-Some.is (subst (λ x. TellsIn c.reach_of.new.self c.in_ok-reach.field-0 x) (sym (asked_kept c.self.inside.table c.reach_of.new.self c.args.n.now c.in_ok-reach.ensures.kept)) c.in_ok-reach.ensures.told)

pub add_list-requires-clause-long : goal.add_list-requires-clause-long
add_list-requires-clause-long c = subst (λ o. IsLongCons c.args.n.now.kind o) c.in-Some.is c.in_ok-reach.ensures.long

pub push-requires-clause-ready : goal.push-requires-clause-ready
push-requires-clause-ready c = put_ready c.self.inside.table c.add_list.new.self c.args.self.now c.args.n.now c.in-Some.reach c.in_ok-place.place c.self.view_is (kept_kept c.self.inside.table c.reach_of.new.self c.add_list.new.self c.in_ok-reach.ensures.kept c.in_ok-place.ensures.kept) c.in_ok-reach.field-0 c.in-Some.is (told_kept c.reach_of.new.self c.add_list.new.self c.in_ok-reach.field-0 _ c.in_ok-place.ensures.sets c.in_ok-reach.ensures.told) (sym c.may_stand.ensures ∙ c.if-not-may_stand.false) c.in_ok-reach.ensures.long

pub push-requires-clause-listed : goal.push-requires-clause-listed
push-requires-clause-listed c = kept_listed c.self.inside.table c.add_list.new.self (kept_kept c.self.inside.table c.reach_of.new.self c.add_list.new.self c.in_ok-reach.ensures.kept c.in_ok-place.ensures.kept) c.self.invariant.lists

pub push-requires-clause-places : goal.push-requires-clause-places
push-requires-clause-places c = put_places c.self.inside.table c.add_list.new.self c.args.self.now c.args.n.now c.in-Some.reach c.in_ok-place.place c.self.view_is (kept_kept c.self.inside.table c.reach_of.new.self c.add_list.new.self c.in_ok-reach.ensures.kept c.in_ok-place.ensures.kept) c.in_ok-reach.field-0 c.in-Some.is (told_kept c.reach_of.new.self c.add_list.new.self c.in_ok-reach.field-0 _ c.in_ok-place.ensures.sets c.in_ok-reach.ensures.told) (sym c.may_stand.ensures ∙ c.if-not-may_stand.false) (asked c.reach_of.new.self c.args.n.now) (asked_kept c.self.inside.table c.reach_of.new.self c.args.n.now c.in_ok-reach.ensures.kept) c.in_ok-place.ensures.wholes c.in_ok-place.ensures.subsets

pub overflow_add-self : goal.overflow_add-self
overflow_add-self c =
    let below = count_fits c.self.inside.table c.add_list.new.self c.args.self.now c.args.n.now c.in-Some.reach c.in_ok-place.place c.self.view_is (kept_kept c.self.inside.table c.reach_of.new.self c.add_list.new.self c.in_ok-reach.ensures.kept c.in_ok-place.ensures.kept) c.in_ok-reach.field-0 c.in-Some.is (told_kept c.reach_of.new.self c.add_list.new.self c.in_ok-reach.field-0 _ c.in_ok-place.ensures.sets c.in_ok-reach.ensures.told) (sym c.may_stand.ensures ∙ c.if-not-may_stand.false) c.push.new.self c.in_ok-id.id c.self.inside.choices c.in_ok-id.ensures.pushed c.self.invariant in
    omega (arith, below, length-entries c.push.new.self.sets.items c.push.new.self.stored.items, c.push.new.self.stored.ok.0)

pub invariant_of-self-then-is_local : goal.invariant_of-self-then-is_local
invariant_of-self-then-is_local c = count_next c.self.inside.table c.add_list.new.self c.args.self.now c.args.n.now c.in-Some.reach c.in_ok-place.place c.self.view_is (kept_kept c.self.inside.table c.reach_of.new.self c.add_list.new.self c.in_ok-reach.ensures.kept c.in_ok-place.ensures.kept) c.in_ok-reach.field-0 c.in-Some.is (told_kept c.reach_of.new.self c.add_list.new.self c.in_ok-reach.field-0 _ c.in_ok-place.ensures.sets c.in_ok-reach.ensures.told) (sym c.may_stand.ensures ∙ c.if-not-may_stand.false) c.push.new.self c.in_ok-id.id c.self.inside.choices c.in_ok-id.ensures.pushed c.self.invariant c.in_ok-id.ensures.sound c.in_ok-id.ensures.listed (sym c.is_local.ensures ∙ c.if-is_local.true)

pub invariant_of-self-else-is_local : goal.invariant_of-self-else-is_local
invariant_of-self-else-is_local c = count_same c.self.inside.table c.add_list.new.self c.args.self.now c.args.n.now c.in-Some.reach c.in_ok-place.place c.self.view_is (kept_kept c.self.inside.table c.reach_of.new.self c.add_list.new.self c.in_ok-reach.ensures.kept c.in_ok-place.ensures.kept) c.in_ok-reach.field-0 c.in-Some.is (told_kept c.reach_of.new.self c.add_list.new.self c.in_ok-reach.field-0 _ c.in_ok-place.ensures.sets c.in_ok-reach.ensures.told) (sym c.may_stand.ensures ∙ c.if-not-may_stand.false) c.push.new.self c.in_ok-id.id c.self.inside.choices c.in_ok-id.ensures.pushed c.self.invariant c.in_ok-id.ensures.sound c.in_ok-id.ensures.listed (sym c.is_local.ensures ∙ c.if-is_local.false)

pub returns-then-is_local : goal.returns-then-is_local
returns-then-is_local c = put_last c.self.inside.table c.add_list.new.self c.args.self.now c.args.n.now c.in-Some.reach c.in_ok-place.place c.self.view_is (kept_kept c.self.inside.table c.reach_of.new.self c.add_list.new.self c.in_ok-reach.ensures.kept c.in_ok-place.ensures.kept) c.in_ok-reach.field-0 c.in-Some.is (told_kept c.reach_of.new.self c.add_list.new.self c.in_ok-reach.field-0 _ c.in_ok-place.ensures.sets c.in_ok-reach.ensures.told) (sym c.may_stand.ensures ∙ c.if-not-may_stand.false) c.push.new.self c.in_ok-id.id c.in_ok-id.ensures.pushed

pub returns-else-is_local : goal.returns-else-is_local
returns-else-is_local c = put_last c.self.inside.table c.add_list.new.self c.args.self.now c.args.n.now c.in-Some.reach c.in_ok-place.place c.self.view_is (kept_kept c.self.inside.table c.reach_of.new.self c.add_list.new.self c.in_ok-reach.ensures.kept c.in_ok-place.ensures.kept) c.in_ok-reach.field-0 c.in-Some.is (told_kept c.reach_of.new.self c.add_list.new.self c.in_ok-reach.field-0 _ c.in_ok-place.ensures.sets c.in_ok-reach.ensures.told) (sym c.may_stand.ensures ∙ c.if-not-may_stand.false) c.push.new.self c.in_ok-id.id c.in_ok-id.ensures.pushed

pub invariant_of-self : goal.invariant_of-self
invariant_of-self c = arena_kept c.self.inside.table c.reach_of.new.self c.self.inside.choices c.in_err-reach.ensures.kept c.self.invariant

pub invariant_of-self-in_default : goal.invariant_of-self-in_default
invariant_of-self-in_default c = arena_kept c.self.inside.table c.reach_of.new.self c.self.inside.choices c.in_ok-reach.ensures.kept c.self.invariant

pub invariant_of-self-in_err-place : goal.invariant_of-self-in_err-place
invariant_of-self-in_err-place c =
    arena_kept c.self.inside.table c.add_list.new.self c.self.inside.choices (kept_kept c.self.inside.table c.reach_of.new.self c.add_list.new.self c.in_ok-reach.ensures.kept c.in_err-place.ensures.kept) c.self.invariant
