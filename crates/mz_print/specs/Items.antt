-- Output items, joined one by one.
use Rattle.std.specs.Prelude.{ℕ, ℤ, pos, List, [], ◌∷◌, ◌++◌, Option, Some, None}
use Rattle.mz_base.specs.declared.fault.Span.{Span}
use Rattle.mz_base.specs.declared.kind.Kind.TheVariants.{OutputUndefined}
use Rattle.mz_value.specs.Contents.{Content}
use Rattle.mz_core.specs.Program.{PlainProgram}
use Rattle.mz_meaning.specs.Runs.{Answer, Out, Stopped, start, then_do, fault}
use Rattle.mz_meaning.specs.Cells.{Env}
use Rattle.mz_eval_scopes.specs.Views.{world_for}
use Rattle.mz_print.specs.Output.{OutputItem, output_items, joined_elements, joined_items}
use Rattle.mz_print_stream.specs.Printing.{Text, says, refuses}
use Rattle.mz_print.specs.declared.items.Joined.{Joined}

-- the text up to the first undefined item, and that item's place
pub record JoinedText : Type 0 where
  pub text : List ℕ
  pub undefined : Option Span

abbrev pub nothing_joined : JoinedText
nothing_joined = record { text = []; undefined = None }

-- nothing is joined after an undefined item
abbrev pub next_with : List ℕ → Option Span → Span → Option Content → JoinedText
next_with t (Some at) here v = record { text = t; undefined = Some at }
next_with t None here (Some x) = record { text = t ++ joined_elements x; undefined = None }
next_with t None here None = record { text = t; undefined = Some here }

abbrev pub next_joined : JoinedText → OutputItem → JoinedText
next_joined j i = next_with j.text j.undefined i.0 i.1

abbrev pub joined : Joined → JoinedText
joined j = record { text = j.text.items; undefined = j.undefined }

-- the text of all items, or the fault of the first undefined one
abbrev pub finished_with : ℕ → List ℕ → Option Span → Text
finished_with block t None = says t
finished_with block t (Some at) = refuses (fault OutputUndefined at (pos block))

abbrev pub finished : ℕ → JoinedText → Text
finished block j = finished_with block j.text j.undefined

-- an answer as the text of a stream's block
abbrev pub text_of : Answer (List ℕ) → Text
text_of (Out t s) = says t
text_of (Stopped f) = refuses f

-- the text of a program's output items, over these cells of its names
abbrev pub items_text : PlainProgram → ℕ → ℤ → Env → ℕ → Text
items_text p budget int_range env block = text_of (then_do (output_items (world_for p budget int_range env) p.outputs start) (joined_items block))
