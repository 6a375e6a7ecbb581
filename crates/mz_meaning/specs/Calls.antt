-- Calls of a model's functions.
use Rattle.std.specs.Prelude.{ℕ, ◌+◌, Bool, true, false, List, [], ◌∷◌, Option, Some, None, slice_get}
use Rattle.mz_base.specs.declared.fault.Span.{Span}
use Rattle.mz_core.specs.Program.{Function}
use Rattle.mz_core.specs.Tree.{Tree, Decl, place_of}
use Rattle.mz_meaning.specs.Runs.{Run, ◌>>=◌, ◌>>◌, give, loop, weigh}
use Rattle.mz_meaning.specs.Cells.{Cell, Env, undefined, length_of, or_zero, Sure, both_sure, guarded}
use Rattle.mz_meaning.specs.Arrays.{Want, suits, has_set, fitted}
use Rattle.mz_meaning.specs.Contexts.{Context}
use Rattle.mz_meaning.specs.Forms.{World, Eval, done, parts, handed}
use Rattle.mz_meaning.specs.Lets.{want, index_wants, all_have_sets, Names, nothing_bound, names_in, with_local}

-- AN ARGUMENT IS A PART: it is there and lies in its parameter's set. Where the call's result is par, an argument whose parameter is var counts as both; the set has to be there all the same
abbrev pub argument_suits : Bool → Bool → Want → Cell → Sure
argument_suits true var x c = suits x c
argument_suits false false x c = suits x c
argument_suits false true x c = has_set x

abbrev pub arguments : List Decl → List Tree → List Cell → List (Decl × Tree × Cell)
arguments [] es cs = []
arguments (d ∷ ds) [] cs = []
arguments (d ∷ ds) (e ∷ es) [] = []
arguments (d ∷ ds) (e ∷ es) (c ∷ cs) = (d, e, c) ∷ arguments ds es cs

-- a parameter's sets, which may name the parameters before it; an array takes its index sets, else IndexMismatch at the argument
abbrev pub parameter : Eval → Context → Bool → Env → Names → Decl × Tree × Cell → Run Names
parameter go ctx var top b p = do
  ixs ← index_wants go ctx p.0.ty.index (names_in b top)
  x ← want go ctx p.0.ty.set (names_in b top)
  c ← fitted (place_of p.1) ixs p.2
  give (with_local b p.0.slot (c, both_sure (all_have_sets ixs) (argument_suits var p.0.ty.ty.var x c)))

-- the body has the context of the call; then come the result's sets, with IndexMismatch at the body
abbrev pub called : World → Eval → Context → Function → Span → Names → Run Cell
called w go ctx f at b = do
  c ← go ctx f.body (names_in b w.top)
  ixs ← index_wants go ctx f.result.index (names_in b w.top)
  x ← want go ctx f.result.set (names_in b w.top)
  r ← fitted (place_of f.body) ixs c
  handed w.mode r
  done w at (guarded w.mode f.result.ty (both_sure b.holds (both_sure (all_have_sets ixs) (suits x r))) r)

abbrev pub all_lengths : ℕ → List Cell → ℕ
all_lengths n [] = n
all_lengths n (c ∷ cs) = all_lengths (n + or_zero (length_of c)) cs

-- AN UNDEFINED ARGUMENT DOESN'T STOP A CALL: the body is evaluated all the same
abbrev pub call_of : World → Eval → Context → Option Function → List Tree → List Cell → Span → Run Cell
call_of w go ctx None es cells at = done w at undefined
call_of w go ctx (Some f) es cells at = do
  weigh w.mode (all_lengths 0 cells)
  b ← loop (parameter go ctx f.result.ty.var w.top) nothing_bound (arguments f.params es cells)
  called w go ctx f at b

abbrev pub call : World → Eval → Context → ℕ → List Tree → Span → Env → Run Cell
call w go ctx f es at env = parts go ctx es env >>= λ cells. call_of w go ctx (slice_get w.functions f) es cells at
