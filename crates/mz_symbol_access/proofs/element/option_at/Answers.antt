use Rattle.std.proofs.Common.{◌≡◌, ◌∙◌, ap}
use Rattle.mz_index.specs.Places.{count_of}
use Rattle.mz_symbol.proofs.ConstantLaws.{out_value, out_state}
use Rattle.mz_symbol_access.specs.StepsElement.{occurs_at, option_place, value_term}
use Rattle.mz_symbol_access.proofs.element.option_at.Goals as goal

pub returns-clause-option : goal.returns-clause-option
returns-clause-option c r h =
    let e = c.in_ok-option.ensures.option r h in
    let g = c.in_ok-at.ensures.means r (c.in_ok-option.ensures.goes.back r h) in
    let at : option_place r c.args.d c.args.place ≡ r.term c.in_ok-at.at = out_value g in
    let ls = c.args.lists in
    let n = count_of c.args.ranges.now in
    record {
      same = out_state g ∙ e.same;
      number = c.requires;
      base = e.base;
      there = e.there;
      occurs = e.occurs;
      occurs_is = ap (λ x. occurs_at r (value_term c.args.base n ls.occurs x (r.term ls.terms)) x ls.occurs) at ∙ e.occurs_is;
      term_is = ap (λ x. value_term c.args.base n ls.occurs x (r.term ls.terms)) at ∙ e.term_is;
    }
