use Rattle.std.proofs.Common.{◌≡◌, ◌∷◌, ◌∙◌, List, ap, drop, map, refl, rules, subst, sym, to_z, of_z, w64}
use Rattle.std.proofs.lemmas.Int.{to_z-of_z}
use Rattle.mz_value.specs.Ranges.{Range}
use Rattle.mz_eval_comprehensions.specs.Views.{member_in, numbers_left, turn_in}
use Rattle.mz_eval_comprehensions.proofs.TurnLaws.{next_seen, none_seen}
use Rattle.mz_eval_comprehensions.proofs.turns.next_member.Goals as goal

pub returns-in_default-clause-next : goal.returns-in_default-clause-next
returns-in_default-clause-next c = record {
  same = λ r h. refl;
  next = λ r h. ap (λ (s : List Range). map (member_in r c.args.of c.args.m) (numbers_left (drop c.args.place.now s) c.args.last.now)) (sym c.ranges-2.ensures.ranges) ∙ none_seen (member_in r c.args.of c.args.m) _ (rw c.in_default.is at c.next_number.ensures);
}

pub returns-clause-next : goal.returns-clause-next
returns-clause-next c =
    let n = c.in-Some.n in
    let back : to_z w64 (of_z w64 n) ≡ n = to_z-of_z w64 n (search rules) in
    record {
      same = c.in_ok-x.ensures.turn.same;
      next = λ r h.
          let f = member_in r c.args.of c.args.m in
          subst (λ (s : List Range). map f (numbers_left (drop c.args.place.now s) c.args.last.now) ≡ turn_in r c.in_ok-x.x ∷ map f (numbers_left (drop c.next_number.new.place s) c.next_number.new.last))
          c.ranges-2.ensures.ranges
          (next_seen f _ _ n _ c.in-Some.ensures (c.in_ok-x.ensures.turn.is r h ∙ ap f back));
    }
