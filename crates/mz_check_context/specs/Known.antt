-- What is known of a model, without where it lies in memory.
use Rattle.std.specs.Prelude.{ℕ, List, map, Result}
use Rattle.mz_base.specs.declared.fault.Fault.{Fault}
use Rattle.mz_core.specs.TreeViews.{declared_type}
use Rattle.mz_check_meaning.specs.Tests.{Test}
use Rattle.mz_check_meaning.specs.Models.{Model}
use Rattle.mz_check_context.specs.declared.context.Context.{Context}
use Rattle.mz_check_context.specs.Headings.{heading, tested}

-- numbered answers, seen
abbrev pub answers : {A B : Type 0} → (A → B) → List (ℕ × Result A Fault) → List (ℕ × Test B)
answers see es = map (λ e. (e.0, tested see e.1)) es

unfoldable pub known : Context → Model
known c = record {
  texts = c.texts.now;
  names = c.meanings;
  functions = c.overloads;
  function_names = c.function_names;
  count = c.count;
  types = answers declared_type c.types.entries;
  headings = answers heading c.headings.entries;
}
