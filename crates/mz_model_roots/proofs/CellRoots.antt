-- Roots of cells.
use Rattle.std.proofs.Common.{◌≡◌, ◌≢◌, ◌∙◌, ℕ, Bool, true, false, ◌&&◌, List, [], ◌∷◌, ◌++◌, None, sym, ap, subst}
use Rattle.mz_core.specs.declared.types.Base.{Base}
use Rattle.mz_core.specs.declared.types.Base.TheVariants as base
use Rattle.mz_arena.specs.Values.{bit}
use Rattle.mz_arena.specs.Values as terms
use Rattle.mz_meaning.specs.Cells.{value_of, is_true}
use Rattle.mz_symbol.specs.declared.types.Free.{Free}
use Rattle.mz_symbol.specs.declared.types.Symbol.{Symbol}
use Rattle.mz_symbol.specs.Symbols.{value_by, value_at, symbol_value}
use Rattle.mz_symbol.specs.Runs.{Run}
use Rattle.mz_symbol.specs.Readings.{Reading, IsGiven, Reads}
use Rattle.mz_symbol.specs.Arguments.{as_argument, truth_of}
use Rattle.mz_symbol_rows.specs.RowValues.{argument}
use Rattle.mz_symbol_rows.specs.StepsNodes.{IsOf}
use Rattle.mz_symbol_rows.proofs.RowLaws.{truth_is}
use Rattle.mz_eval_cells.specs.declared.types.Known.{Known}
use Rattle.mz_eval_cells.specs.Views.{seen}
use Rattle.mz_eval_symbols.specs.Taken.{cell_value}
use Rattle.mz_model_state.specs.Hands.{View, NameKind, ParName, OnePlace, IsAim}
use Rattle.mz_model_state.specs.Roots.{TestsOne, are_all_true}
use Rattle.mz_model_state.proofs.Roots.{place_roots, false_roots, constraint_roots}
use Rattle.mz_model_roots.specs.Rooted.{view, AreRootsOf, AreRootsOfConstraint, own_argument, IsEqualNode}
use Rattle.mz_model_roots.proofs.EqualNodes.{given_held}

-- a symbol that stands for a cell
abbrev pub StandsFor : Run → Known → Symbol → Type 0
StandsFor s k y = (r : Reading) → Reads r s → cell_value r k ≡ argument r y

pub same_value : (s : Run) (k : Known) (y : Symbol) (r : Reading) → StandsFor s k y → IsGiven r.mode → Reads r s → value_of (seen r k) ≡ own_argument r y
same_value s k y r told given reads = sym (given_held r.mode (value_of (seen r k)) given) ∙ told r reads ∙ given_held r.mode (own_argument r y) given

pub place_rooted : (mid new : Run) (f : Free) (k : Known) (y : Symbol) (id : ℕ) → ((r : Reading) → Reads r new → Reads r mid) → StandsFor mid k y → IsEqualNode new f.symbol y id → AreRootsOf new (OnePlace f) (view k) (id ∷ [])
place_rooted mid new f k y id back told node = record {
  by = λ ns n kind value roots. place_roots new ns n f (view k) id (record {
    kind = kind;
    value = value;
    roots = roots;
    tests = λ r given reads some. subst (λ w. TestsOne (r.term id) (symbol_value r.term f.symbol) w) (sym (same_value mid k y r told given (back r reads))) (node.tests r given reads some);
  });
}

pub undefined_rooted : (s : Run) (kind : NameKind) (k : Known) (id : ℕ) → kind ≢ ParName → ((r : Reading) → value_of (seen r k) ≡ None) → ((r : Reading) → Reads r s → r.term id ≡ bit false) → AreRootsOf s kind (view k) (id ∷ [])
undefined_rooted s kind k id variable none never = record {
  by = λ ns n is value roots. false_roots s (ns ++ n ∷ []) n (view k) id (record {
    variable = λ p. variable (sym is ∙ p);
    value = value;
    roots = roots;
    undefined = λ r given reads. none r;
    never = λ r given reads. ap terms.is_true (never r reads);
  });
}

-- ---- constraints

pub constraint_rooted : (s : Run) (k : Known) (y : Symbol) (id : ℕ) (ids : List ℕ) → StandsFor s k y → IsOf base.Bool id y → ((r : Reading) → Reads r s → are_all_true r ids ≡ terms.is_true (r.term id)) → AreRootsOfConstraint s (view k) ids
constraint_rooted s k y id ids told is same = record {
  by = λ c cell roots. constraint_roots s c (λ r given reads.
      ap (λ (v : View). is_true (value_of (v r))) cell
      ∙ ap is_true (same_value s k y r told given reads)
      ∙ ap (λ (b : Base). is_true (as_argument b y.occurs (value_at r.term b y.occurs y.term))) is.base
      ∙ ap (λ o. is_true (as_argument base.Bool o (value_at r.term base.Bool o y.term))) is.occurs
      ∙ ap (λ i. is_true (truth_of (value_by base.Bool (r.term i)))) is.term
      ∙ truth_is (r.term id)
      ∙ sym (same r reads)
      ∙ ap (are_all_true r) (sym roots));
}

pub met_rooted : (s : Run) (k : Known) (ids : List ℕ) → ((r : Reading) → is_true (value_of (seen r k)) ≡ true) → ids ≡ [] → AreRootsOfConstraint s (view k) ids
met_rooted s k ids met none = record { by = λ c cell roots. constraint_roots s c (λ r given reads. ap (λ (v : View). is_true (value_of (v r))) cell ∙ met r ∙ ap (are_all_true r) (sym (roots ∙ none))) }

pub unmet_rooted : (s : Run) (k : Known) (ids : List ℕ) (id : ℕ) → ((r : Reading) → value_of (seen r k) ≡ None) → ((r : Reading) → Reads r s → r.term id ≡ bit false) → ids ≡ id ∷ [] → AreRootsOfConstraint s (view k) ids
unmet_rooted s k ids id none never one = record {
  by = λ c cell roots. constraint_roots s c (λ r given reads.
      ap (λ (v : View). is_true (value_of (v r))) cell
      ∙ ap is_true (none r)
      ∙ ap (λ u. terms.is_true u && true) (sym (never r reads))
      ∙ ap (are_all_true r) (sym (roots ∙ one)));
}

-- ---- the objective

pub aimed : (s : Run) (k : Known) (y : Symbol) (id : ℕ) → StandsFor s k y → IsOf base.Int id y → IsAim s (view k) id
aimed s k y id told is = λ r given reads.
    same_value s k y r told given reads
    ∙ ap (λ (b : Base). as_argument b y.occurs (value_at r.term b y.occurs y.term)) is.base
    ∙ ap (λ o. as_argument base.Int o (value_at r.term base.Int o y.term)) is.occurs
    ∙ ap (λ i. value_by base.Int (r.term i)) is.term
