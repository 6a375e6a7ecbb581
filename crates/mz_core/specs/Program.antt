-- Typed programs, without where they lie in memory.
use Rattle.std.specs.Prelude.{ℕ, List, map}
use Rattle.mz_base.specs.declared.fault.Span.{Span}
use Rattle.mz_value.specs.Contents.{case_names, text_bytes}
use Rattle.mz_core.specs.declared.program.CoreFunction.{CoreFunction}
use Rattle.mz_core.specs.declared.program.CoreGoal.{CoreGoal}
use Rattle.mz_core.specs.declared.program.CoreGoal.TheVariants as goals
use Rattle.mz_core.specs.declared.program.Program.{Program}
use Rattle.mz_core.specs.Tree.{Tree, Decl, DeclaredType}
use Rattle.mz_core.specs.TreeViews.{tree, decl, declared_type}

pub record Function : Type 0 where
  pub name : ℕ
  pub span : Span
  pub params : List Decl
  pub result : DeclaredType
  pub body : Tree

-- what is asked for
pub data Goal : Type 0 where
  satisfy : Goal
  minimize : Tree → Goal
  maximize : Tree → Goal

-- `cases` has the names of each enum's cases, `texts` the text of each text literal's name, and
-- `order` the places in `decls` in the order of evaluation
pub record PlainProgram : Type 0 where
  pub cases : List (List (List ℕ))
  pub texts : List (ℕ × List ℕ)
  pub decls : List Decl
  pub order : List ℕ
  pub functions : List Function
  pub constraints : List Tree
  pub goal : Goal
  pub outputs : List Tree

abbrev pub function : CoreFunction → Function
function f = record { name = f.name; span = f.span; params = map decl f.params.items; result = declared_type f.result; body = tree f.body }

abbrev pub goal : CoreGoal → Goal
goal goals.Satisfy = satisfy
goal (goals.Minimize e) = minimize (tree e)
goal (goals.Maximize e) = maximize (tree e)

-- what the code's program stands for
unfoldable pub plain_program : Program → PlainProgram
plain_program p = record {
  cases = case_names p.cases;
  texts = map (λ t. (t.0, text_bytes t.1)) p.texts.items;
  decls = map decl p.decls.items;
  order = p.order.items;
  functions = map function p.functions.items;
  constraints = map tree p.constraints.items;
  goal = goal p.goal;
  outputs = map tree p.outputs.items;
}
