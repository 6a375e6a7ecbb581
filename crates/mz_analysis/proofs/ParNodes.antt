-- What is par at one node.
use Rattle.std.proofs.Common.{◌≡◌, true, false, List, [], ◌∷◌, ◌++◌, Option, Some, None, refl}
use Rattle.std.specs.Prelude.{is_none}
use Rattle.std.specs.List.{AllByRecursion}
use Rattle.mz_base.specs.declared.fault.Span.{Span}
use Rattle.mz_core.specs.declared.types.Base.{Base}
use Rattle.mz_core.specs.declared.types.Coercion.{Coercion}
use Rattle.mz_core.specs.Types.{PlainType}
use Rattle.mz_core.specs.Coercions.{Raises, bool_to_int, enum_to_int, set_enum_to_set_int, bottom_to_base, set_bottom_to_set, Coerces, to_var, to_opt, to_base, to_array, to_int_index, PathLink}
use Rattle.mz_core.specs.Tree as tree
use Rattle.mz_core.specs.Tree.{Tree, Shape, Item, declares, constrains, items, maybe, if_tree, all_items, type_of, root_coercions}
use Rattle.mz_tree.proofs.Anything.{AnyName}
use Rattle.mz_meaning_laws.specs.Independence.{keeps_par, AllKeepPar}
use Rattle.mz_check_meaning.specs.Lets.{HasValue}
use Rattle.mz_check_meaning.proofs.Rules.{Rules, IsPlain}
use Rattle.mz_analysis.specs.Par.{RespectsPar}
use Rattle.mz_check_meaning.proofs.Giving.{AllBy}

-- ---- nodes that are neither coercions nor lets

pub plain_respects : (at : Span) (t : PlainType) (f : Shape) → IsPlain f → RespectsPar (tree.node at t f)
plain_respects at t (tree.coerce c e) p = absurd p
plain_respects at t (tree.let_in is e) p = absurd p
plain_respects at t f p = record { tree = λ h. record { node = h; links = tt }; locals = tt }

-- ---- coercions: none leads from var to par, and the one to var leads to no par type

abbrev Keeps : PlainType → Coercion → PlainType → Type 0
Keeps t c u = u.var ≡ false → (t.var ≡ false) × (keeps_par c ≡ true)

raises_keeps : {c : Coercion} {a b : Base} → Raises c a b → keeps_par c ≡ true
raises_keeps bool_to_int = refl
raises_keeps (enum_to_int e) = refl
raises_keeps (set_enum_to_set_int e) = refl
raises_keeps (bottom_to_base b) = refl
raises_keeps (set_bottom_to_set b h) = refl

coerces_keeps : {c : Coercion} {t u : PlainType} → Coerces c t u → Keeps t c u
coerces_keeps (to_var t h) k = absurd (cc)
coerces_keeps (to_opt t h) k = (k, refl)
coerces_keeps (to_base t c b r) k = (k, raises_keeps r)
coerces_keeps (to_array t b v o d e) k = (k, refl)
coerces_keeps (to_int_index t before after e d) k = (k, refl)

one_more : (ls : List PathLink) (l : PathLink) → AllKeepPar ls → keeps_par l.0 ≡ true → AllKeepPar (ls ++ l ∷ [])
one_more [] l h k = (k, tt)
one_more (x ∷ xs) l h k = (h.0, one_more xs l h.1 k)

pub coercion_respects : (at : Span) (c : Coercion) (u : PlainType) (e : Tree) → Coerces c (type_of e) u → RespectsPar e → RespectsPar (tree.node at u (tree.coerce c e))
coercion_respects at c u e s h = record {
  tree = λ p. let k = coerces_keeps s p in record { node = (h.tree k.0).node; links = one_more (root_coercions e) (c, u) (h.tree k.0).links k.1 };
  locals = tt;
}

-- ---- lets

same_value : (v : Option Tree) → is_none v ≡ false → is_none (if_tree (maybe v)) ≡ false
same_value None h = h
same_value (Some e) h = refl

have_values : (is : List Item) → AllBy HasValue is → AllByRecursion HasValue (all_items (items is))
have_values [] h = tt
have_values (declares d ∷ is) h = ((λ p. same_value d.value (h.0 p)), have_values is h.1)
have_values (constrains e ∷ is) h = (tt, have_values is h.1)

pub let_respects : (at : Span) (t : PlainType) (is : List Item) (e : Tree) → AllBy HasValue is → RespectsPar (tree.node at t (tree.let_in (items is) e))
let_respects at t is e h = record { tree = λ p. record { node = p; links = tt }; locals = have_values is h }

-- ---- whatever the texts

abbrev pub par_rules : Rules
par_rules = record {
  holds = RespectsPar;
  allows = AnyName;
  plain = plain_respects;
  text = λ at t n h. record { tree = λ p. record { node = p; links = tt }; locals = tt };
  link = coercion_respects;
  local = let_respects;
}
