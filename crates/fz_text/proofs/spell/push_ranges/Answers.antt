use Rattle.std.proofs.Common.{◌≡◌, ◌<◌, ◌∷◌, sym, length, arith}
use Rattle.std.proofs.lemmas.Bool.Decides.{nat_tests}
use Rattle.fz_text.specs.Spelling.{braces, interval, set}
use Rattle.fz_text.proofs.Appends.{same_on_ok}
use Rattle.fz_text.proofs.Sets.{set_of_one, set_of_more}
use Rattle.fz_text.proofs.spell.push_ranges.Goals as goal

pub returns-then-is_empty : goal.returns-then-is_empty
returns-then-is_empty c =
    let first = c.args.first in
    let rest = c.args.rest.now in
    let none : length rest ≡ 0 = grind (arith, nat_tests) in
    same_on_ok c.push_interval.result c.args.out.now.items (interval first) (set (first ∷ rest)) c.push_interval.new.out.items (sym (set_of_one first rest none)) c.push_interval.ensures

pub returns-else-is_empty : goal.returns-else-is_empty
returns-else-is_empty c =
    let first = c.args.first in
    let rest = c.args.rest.now in
    let some : 0 < length rest = grind (arith, nat_tests) in
    same_on_ok c.push_braces.result c.args.out.now.items (braces (first ∷ rest)) (set (first ∷ rest)) c.push_braces.new.out.items (sym (set_of_more first rest some)) c.push_braces.ensures
