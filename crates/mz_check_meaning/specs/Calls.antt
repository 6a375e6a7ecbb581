-- Calls and operators: which function or row they call, and what is refused or left out.
use Rattle.std.specs.Prelude.{ℕ, Bool, true, false, not, ◌&&◌, ◌||◌, List, [], ◌∷◌, ◌++◌, map, filter, slice_get, is_none, codes, Ok}
use Rattle.std.specs.List.{list_any}
use Rattle.std.specs.Str.{bytes_eq}
use Rattle.mz_base.specs.declared.fault.Span.{Span}
use Rattle.mz_base.specs.declared.kind.Kind.{Kind}
use Rattle.mz_base.specs.declared.kind.Kind.TheVariants as kind
use Rattle.mz_base.specs.Names.{text_of}
use Rattle.mz_core.specs.Types.{PlainType, PlainSignature, is_text}
use Rattle.mz_core.specs.Tree.{Tree, node, builtin, call, trees, type_of}
use Rattle.mz_overload.specs.declared.resolution.Resolution.{Resolution}
use Rattle.mz_overload.specs.declared.resolution.Resolution.TheVariants.{One, NoneFits, Ambiguous}
use Rattle.mz_overload.specs.Best.{resolution}
use Rattle.mz_builtin.specs.Readings.{Numbered}
use Rattle.mz_builtin.specs.Signatures.{fitting, global_place}
use Rattle.mz_tree.specs.Tree.{Name}
use Rattle.mz_scope_names.specs.Sets.{holds}
use Rattle.mz_check_meaning.specs.declared.callee.Callee.{Callee}
use Rattle.mz_check_meaning.specs.declared.callee.Callee.TheVariants as callee
use Rattle.mz_check_meaning.specs.Tests.{Test, ◌>>=◌, refuse, found, each}
use Rattle.mz_check_meaning.specs.Models.{Model, signature_of, entries_of, heading_of}
use Rattle.mz_check_meaning.specs.Coerced.{all_coerced, is_scalar, is_set_type}

pub record Candidate : Type 0 where
  pub callee : Callee
  pub signature : PlainSignature

-- WHAT IS LEFT OUT BY NAME, where no candidate accepts

abbrev pub is_one_of : List (List ℕ) → List ℕ → Bool
is_one_of names name = list_any (bytes_eq name) names

abbrev pub is_order : List ℕ → Bool
is_order name = is_one_of (codes "<" ∷ codes "<=" ∷ codes ">" ∷ codes ">=" ∷ []) name

abbrev pub is_equality : List ℕ → Bool
is_equality name = is_one_of (codes "=" ∷ codes "!=" ∷ []) name

abbrev pub is_power : List ℕ → Bool
is_power name = is_one_of (codes "^" ∷ codes "pow" ∷ []) name

abbrev pub is_array : PlainType → Bool
is_array t = not (is_scalar t)

abbrev pub is_option : PlainType → Bool
is_option t = t.opt && is_scalar t

abbrev pub is_text_type : PlainType → Bool
is_text_type t = is_text t.base && is_scalar t

abbrev pub par : PlainType → PlainType
par t = record t { var = false }

abbrev pub is_empty : List Numbered → Bool
is_empty [] = true
is_empty (n ∷ ns) = false

-- the library has a row that would accept these
abbrev pub would_fit : List ℕ → List PlainType → Bool
would_fit name args = not (is_empty (fitting name args))

-- Comparisons of arrays; orders of sets and of options; `=` of texts; a range with an end that is var, and a power with an exponent that
-- is, which would fit if it were par
abbrev pub is_left_out_of : List ℕ → PlainType → PlainType → Bool
is_left_out_of name t u =
    ((is_order name || is_equality name) && (is_array t && is_array u))
    || ((is_order name && ((is_set_type t && is_set_type u) || (is_option t || is_option u)))
    || ((bytes_eq name (codes "=") && (is_text_type t && is_text_type u))
    || ((bytes_eq name (codes "..") && would_fit name (par t ∷ par u ∷ []))
    || (is_power name && would_fit name (t ∷ par u ∷ [])))))

unfoldable pub is_left_out : List ℕ → List PlainType → Bool
is_left_out name [] = false
is_left_out name (t ∷ []) = false
is_left_out name (t ∷ u ∷ []) = is_left_out_of name t u
is_left_out name (t ∷ u ∷ v ∷ ts) = false

-- THE BEST CANDIDATE

abbrev pub unfit : Bool → Kind
unfit true = kind.LeftOut
unfit false = kind.NoOverload

abbrev pub chosen : Span → List ℕ → List PlainType → List Candidate → Resolution → Test Candidate
chosen at name args cands (One k) = found kind.NoOverload at (slice_get cands k)
chosen at name args cands NoneFits = refuse (unfit (is_left_out name args)) at
chosen at name args cands Ambiguous = refuse kind.Ambiguous at

-- among these candidates the accepting one whose parameters are below those of every other accepting one
unfoldable pub best : Span → List ℕ → List PlainType → List Candidate → Test Candidate
best at name args cands = chosen at name args cands (resolution (map (λ c. c.signature) cands) args)

-- CANDIDATES

abbrev pub row_candidate : Numbered → Candidate
row_candidate n = record { callee = callee.Row n.0; signature = n.1 }

abbrev pub is_built_in : Numbered → Bool
is_built_in n = is_none (global_place n.0)

-- the rows of the library that accept. A function of the model hides the globals of its name, and no other row
unfoldable pub rows_for : Bool → List ℕ → List PlainType → List Numbered
rows_for true name args = filter is_built_in (fitting name args)
rows_for false name args = fitting name args

abbrev pub function_candidate : Model → Span → ℕ → Test Candidate
function_candidate m at f = heading_of m at f >>= λ h. Ok (record { callee = callee.Function f; signature = signature_of h })

-- the functions of the model that have parameters and this name, and the rows
unfoldable pub candidates : Model → Span → Name → List PlainType → Test (List Candidate)
candidates m at n args = do
  fs ← each (function_candidate m at) (entries_of n m.functions)
  Ok (fs ++ map row_candidate (rows_for (holds n m.function_names) (text_of m.texts n) args))

-- NODES

abbrev pub called_node : Span → PlainType → Callee → List Tree → Tree
called_node at t (callee.Function f) es = node at t (call f (trees es))
called_node at t (callee.Row r) es = node at t (builtin r (trees es))

-- the call of a candidate, with its arguments coerced
unfoldable pub call_node : Span → List Tree → Candidate → Tree
call_node at es c = called_node at c.signature.result c.callee (all_coerced es c.signature.params)

-- a call of a name with these arguments
unfoldable pub applied : Model → Span → Name → List Tree → Test Tree
applied m at n es = do
  cs ← candidates m at n (map type_of es)
  c ← best at (text_of m.texts n) (map type_of es) cs
  Ok (call_node at es c)

-- the row of an operator, or of a call that the language makes
unfoldable pub row_of : Span → List ℕ → List PlainType → Test Candidate
row_of at name args = best at name args (map row_candidate (fitting name args))

unfoldable pub row_node : Span → List ℕ → List Tree → Test Tree
row_node at name es = row_of at name (map type_of es) >>= λ c. Ok (call_node at es c)
