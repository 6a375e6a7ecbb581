-- The texts of what is typed are texts of what it is typed from.
use Rattle.std.proofs.Common.{ℕ, List, [], ◌∷◌}
use Rattle.mz_base.specs.declared.fault.Span.{Span}
use Rattle.mz_core.specs.Types.{PlainType}
use Rattle.mz_core.specs.Tree as tree
use Rattle.mz_core.specs.Tree.{Tree, Shape}
use Rattle.mz_check_meaning.specs.Texts.{text_at, texts_among}
use Rattle.mz_check_meaning.proofs.Giving.{AllBy, all_both}
use Rattle.mz_check_meaning.proofs.Rules.{Rules, IsPlain}

module _ (P : ℕ → Type 0) where
  -- where it is a text literal, its name is so
  abbrev pub IsTexted : Tree → Type 0
  IsTexted e = AllBy P (text_at e)

  pub plain_texted : (at : Span) (t : PlainType) (f : Shape) → IsPlain f → IsTexted (tree.node at t f)
  plain_texted at t (tree.bool b) p = tt
  plain_texted at t (tree.int n) p = tt
  plain_texted at t (tree.case e k) p = tt
  plain_texted at t (tree.text n) p = absurd p
  plain_texted at t tree.absent p = tt
  plain_texted at t (tree.enum_set e) p = tt
  plain_texted at t (tree.slot s) p = tt
  plain_texted at t tree.whole p = tt
  plain_texted at t (tree.chain e ss) p = tt
  plain_texted at t (tree.builtin r es) p = tt
  plain_texted at t (tree.call f es) p = tt
  plain_texted at t (tree.access e es) p = tt
  plain_texted at t (tree.array es) p = tt
  plain_texted at t (tree.rows rs) p = tt
  plain_texted at t (tree.set es) p = tt
  plain_texted at t (tree.comp b e gs) p = tt
  plain_texted at t (tree.choice bs e) p = tt
  plain_texted at t (tree.let_in is e) p = absurd p
  plain_texted at t (tree.coerce c e) p = absurd p

  abbrev pub texts : Rules
  texts = record {
    holds = IsTexted;
    allows = P;
    plain = plain_texted;
    text = λ at t n h. (h, tt);
    link = λ at c u e s h. tt;
    local = λ at t is e h. tt;
  }

  pub among : (es : List Tree) → AllBy IsTexted es → AllBy P (texts_among es)
  among [] h = tt
  among (e ∷ es) h = all_both P (text_at e) (texts_among es) h.0 (among es h.1)
