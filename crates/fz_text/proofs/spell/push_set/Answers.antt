use Rattle.std.proofs.Common.{◌∷◌, ◌-◌, ◌<◌, ◌∙◌, sym, ap, subst, codes, get_or, take, drop, length, pos, arith}
use Rattle.std.proofs.lemmas.List.{nil_from_length}
use Rattle.mz_value.specs.Ranges.{AreCanonical}
use Rattle.fz_text.specs.Spelling.{set}
use Rattle.fz_text.proofs.Appends.{same_on_ok}
use Rattle.fz_text.proofs.Lists.{first_and_rest}
use Rattle.fz_text.proofs.spell.push_set.Goals as goal

pub returns-in-empty : goal.returns-in-empty
unfolding set
returns-in-empty c =
    let s = c.ranges-2.result.now in
    let below : length s < 1 = c.in-empty.len_below in
    let none = nil_from_length s (omega arith) in
    same_on_ok c.push_text.result c.args.out.now.items (codes "1..0") (set c.args.s.now) c.push_text.new.out.items (ap set (sym none ∙ c.ranges-2.ensures.ranges)) c.push_text.ensures

pub push_ranges-requires : goal.push_ranges-requires
push_ranges-requires c =
    let s = c.ranges-2.result.now in
    let canonical = subst AreCanonical (sym c.ranges-2.ensures.ranges) c.ranges-2.ensures.canonical in
    subst AreCanonical (first_and_rest s (pos 0, pos 0) c.in-len1-up.len_at_least) canonical

pub returns-in-len1-up : goal.returns-in-len1-up
returns-in-len1-up c =
    let s = c.ranges-2.result.now in
    let whole = first_and_rest s (pos 0, pos 0) c.in-len1-up.len_at_least in
    same_on_ok c.push_ranges.result c.args.out.now.items (set (get_or s 0 (pos 0, pos 0) ∷ take (length s - 1) (drop 1 s))) (set c.args.s.now) c.push_ranges.new.out.items (ap set (sym whole ∙ c.ranges-2.ensures.ranges)) c.push_ranges.ensures
