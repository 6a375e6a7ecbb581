-- Names that a test takes.
use Rattle.std.proofs.Common.{◌≡◌, zero, suc, List, [], ◌∷◌, map, Contains, sym, subst, string_bytes, arith}
use Rattle.std.specs.List.{AllByRecursion}
use Rattle.std.specs.Prelude.{String}
use Rattle.mz_arena.specs.Instances.{ModelVar}
use Rattle.fz_program.specs.Names.{Name}
use Rattle.fz_program.specs.Flat.{AreDistinct}
use Rattle.flat_meaning.specs.Front.{AreNamed, HaveNames}
use Rattle.cases_instances.specs.Texts.{AreTexts}

pub lacks_text : {Z : Type 0} (texts : List (String Z)) (x : Name) → AllByRecursion (λ y. string_bytes y ≡ x → ⊥) texts → Contains (map string_bytes texts) x → ⊥
lacks_text [] x a h = absurd (omega (arith, h.1))
lacks_text (y ∷ ys) x a (zero, below, at) = a.0 at
lacks_text (y ∷ ys) x a (suc k, below, at) = lacks_text ys x a.1 (k, omega arith, at)

pub named_given : (table : List Name) (ms : List ModelVar) (texts : List Name) → HaveNames table ms → AreTexts table ms texts → AreDistinct texts → AreNamed table ms
named_given table ms texts names same distinct = record { names = names; distinct = subst AreDistinct (sym same) distinct }
