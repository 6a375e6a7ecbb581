use Rattle.std.proofs.Common.{◌<◌, ◌∙◌, sym, ap, subst, length, fold, arith}
use Rattle.mz_base.specs.Names.{text_of}
use Rattle.mz_base.proofs.Tables.{grows_on}
use Rattle.std.proofs.lemmas.List.Elements.{All-get_or}
use Rattle.mz_tree.specs.Items.{item as tree_of}
use Rattle.mz_include.specs.Naming.{included_by, with_mention}
use Rattle.mz_include.specs.Trees.{IsIncludeKnown}
use Rattle.mz_include.proofs.Later.{included_later}
use Rattle.mz_include.proofs.Noting.{noted_items}
use Rattle.mz_include.proofs.included.note_included.Goals as goal

pub loop-item-preserved : goal.loop-item-preserved
loop-item-preserved c =
    let old = c.args.names.now in
    let i = c.item-item.result in
    let k = c.loop-item.item-index in
    let below : k < length c.args.items.now = omega arith in
    let known : IsIncludeKnown old (tree_of i) = subst (λ j. IsIncludeKnown old (tree_of j)) (sym c.item-item.is) (All-get_or (λ j. IsIncludeKnown old (tree_of j)) c.args.items.now k i below c.requires.items) in
    record {
      noted = noted_items _ (included_by old (text_of old c.args.owner)) c.args.items.now k i _ _ below c.item-item.is c.loop-item.invariant.noted
          (c.in_ok-note_item.ensures.noted ∙ ap (fold with_mention _) (ap (λ o. included_by c.loop-item.names o (tree_of i)) (c.loop-item.invariant.grows c.args.owner c.requires.owner).1 ∙ included_later old c.loop-item.names (text_of old c.args.owner) (tree_of i) c.loop-item.invariant.grows known));
      known = c.in_ok-note_item.ensures.known;
      grows = grows_on old c.loop-item.names c.note_item.new.names c.loop-item.invariant.grows c.in_ok-note_item.ensures.grows;
    }
