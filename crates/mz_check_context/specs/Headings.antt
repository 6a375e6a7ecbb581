-- The types of functions, and what a table of types holds, without where they lie in memory.
use Rattle.std.specs.Prelude.{map, Result, Ok, Err}
use Rattle.mz_base.specs.declared.fault.Fault.{Fault}
use Rattle.mz_core.specs.TreeViews.{decl, declared_type}
use Rattle.mz_check_meaning.specs.Tests.{Test}
use Rattle.mz_check_meaning.specs.Models.{Heading}
use Rattle.mz_check_context.specs.declared.heading.Heading.{Heading as Typed}

abbrev pub heading : Typed → Heading
heading h = record { params = map decl h.params.items; result = declared_type h.result }

abbrev pub tested : {A B : Type 0} → (A → B) → Result A Fault → Test B
tested see (Ok x) = Ok (see x)
tested see (Err f) = Err f
