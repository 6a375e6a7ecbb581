use Rattle.std.proofs.Common.{◌++◌, ◌∷◌, codes, flat_map}
use Rattle.fz_text.specs.Spelling.{elements, numbers}
use Rattle.fz_text.proofs.Appends.{joined, joined_on_ok}
use Rattle.fz_text.proofs.spell.push_braces.Goals as goal

pub returns : goal.returns
returns c =
    let old = c.args.out.now.items in
    let inner = numbers (flat_map elements (c.args.first ∷ c.args.rest.now)) in
    let both = joined old (codes "{") inner c.in-Ok.ensures c.in-Ok-push_elements.ensures in
    joined_on_ok c.push_text-2.result old (codes "{" ++ inner) (codes "}") c.push_elements.new.out.items c.push_text-2.new.out.items both c.push_text-2.ensures
