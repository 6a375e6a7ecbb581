use Rattle.std.proofs.Common.{◌≡◌, ◌++◌, ◌∷◌, [], length, refl, sym, ap, ◌∙◌, inl}
use Rattle.mz_arena.specs.Tables.{entries, const_node}
use Rattle.mz_arena.proofs.Placing.{kept_listed}
use Rattle.mz_arena.proofs.Pushed.{with_set, const_is, const_made, same_charges, pushed_extends}
use Rattle.mz_arena.specs.Numbering.{local_ids}
use Rattle.mz_arena.proofs.Put.{choices_same, arena_kept, at_most_extends}
use Rattle.mz_arena.proofs.arena.Arena.set_const.Goals as goal

new_is : (c : goal.In_ok-id) → entries c.push_const.new.self.sets.items c.push_const.new.self.stored.items ≡ c.args.self.now ++ with_set (const_node c.in_ok-place.place) c.args.s ∷ []
new_is c = const_is c.keep_const.new.self c.push_const.new.self c.args.self.now c.in_ok-place.place c.in_ok-id.id c.args.s c.in_ok-id.ensures.pushed (c.in_ok-place.ensures.kept.entries ∙ c.self.view_is) c.in_ok-place.ensures.put

pub returns-clause-extends : goal.returns-clause-extends
returns-clause-extends c = pushed_extends c.args.self.now _ (with_set (const_node c.in_ok-place.place) c.args.s) (new_is c) refl

pub returns-clause-made : goal.returns-clause-made
returns-clause-made c = const_made c.args.self.now _ c.in_ok-place.place c.in_ok-id.id c.args.s (new_is c) (c.in_ok-id.ensures.pushed.last ∙ ap length (c.in_ok-place.ensures.kept.entries ∙ c.self.view_is))

pub returns-clause-charged : goal.returns-clause-charged
returns-clause-charged c = same_charges c.args.self.now _ c.in_ok-place.place c.args.s (new_is c)

pub invariant_of-self-2 : goal.invariant_of-self-2
invariant_of-self-2 c = record {
  table = c.in_ok-id.ensures.sound;
  lists = c.in_ok-id.ensures.listed;
  count = c.self.invariant.count ∙ ap (λ es. length (local_ids es)) c.self.view_is ∙ sym (choices_same c.args.self.now _ (with_set (const_node c.in_ok-place.place) c.args.s) (new_is c) refl);
}

pub push_const-requires-clause-listed : goal.push_const-requires-clause-listed
push_const-requires-clause-listed c = kept_listed c.self.inside.table c.keep_const.new.self c.in_ok-place.ensures.kept c.self.invariant.lists

pub invariant_of-self : goal.invariant_of-self
invariant_of-self c = arena_kept c.self.inside.table c.keep_const.new.self c.self.inside.choices c.in_err-place.ensures.kept c.self.invariant

pub returns-in_err-place-clause-extends : goal.returns-in_err-place-clause-extends
returns-in_err-place-clause-extends c = at_most_extends c.args.self.now _ (with_set (const_node 0) []) (inl (c.in_err-place.ensures.kept.entries ∙ c.self.view_is)) refl

pub returns-in_err-id-clause-extends : goal.returns-in_err-id-clause-extends
returns-in_err-id-clause-extends c = at_most_extends c.args.self.now _ (with_set (const_node 0) []) (inl (c.in_err-id.ensures.err ∙ c.in_ok-place.ensures.kept.entries ∙ c.self.view_is)) refl
