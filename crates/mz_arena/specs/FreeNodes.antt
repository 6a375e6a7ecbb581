-- What the variables and the choices of an arena tell of its terms.
use Rattle.std.specs.Prelude.{◌≡◌, ℕ, List, Bool, true, false, Some, slice_get}
use Rattle.mz_arena.specs.declared.node.NodeKind.{NodeKind}
use Rattle.mz_arena.specs.declared.node.NodeKind.TheVariants.{SetVar, SetLocal}
use Rattle.mz_arena.specs.Entries.{Entry, is_free}
use Rattle.mz_arena.specs.Values.{Values}
use Rattle.mz_arena.specs.Terms.{term, own_id}

-- a variable or a choice whose values are sets
abbrev pub is_set_kind : NodeKind → Bool
is_set_kind SetVar = true
is_set_kind SetLocal = true
is_set_kind kind = false

-- two values give an id one set, or one number
abbrev pub AgreeOn : Bool → ℕ → Values → Values → Type 0
AgreeOn true id v w = v.set id ≡ w.set id
AgreeOn false id v w = v.number id ≡ w.number id

-- two values give each variable and each choice one value
abbrev pub AgreeOnFree : List Entry → Values → Values → Type 0
AgreeOnFree es v w = (id : ℕ) (e : Entry) → slice_get es id ≡ Some e → is_free e.node.kind ≡ true → AgreeOn (is_set_kind e.node.kind) (own_id e.node) v w

-- ---- laws

abbrev pub TermsAreToldByFreeNodes : Type 0
TermsAreToldByFreeNodes = (es : List Entry) (v w : Values) → AgreeOnFree es v w → (id : ℕ) → term v es id ≡ term w es id
