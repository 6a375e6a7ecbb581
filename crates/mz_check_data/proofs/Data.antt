-- The nodes of what the values of data are typed to are so.
use Rattle.std.proofs.Common.{ℕ, Bool, true, false, List, [], ◌∷◌, ◌++◌, Option, Some, None, Ok, Err, map, zip, length}
use Rattle.std.specs.Prelude.{nat_eq, codes, if◌then◌else◌}
use Rattle.mz_base.specs.declared.fault.Span.{Span}
use Rattle.mz_base.specs.declared.kind.Kind.TheVariants as kind
use Rattle.mz_core.specs.declared.types.Ix.{Ix}
use Rattle.mz_core.specs.Types.{PlainType}
use Rattle.mz_core.specs.Tree.{Tree, Decl, DeclaredType}
use Rattle.mz_tree.specs.Data as pure
use Rattle.mz_tree.specs.Data.{Value, Values, Lines, Given}
use Rattle.mz_check_meaning.specs.declared.meaning.Meaning.{Meaning}
use Rattle.mz_check_meaning.specs.declared.meaning.Meaning.TheVariants as meaning
use Rattle.mz_check_meaning.specs.Tests.{Test, ◌>>=◌, require, each}
use Rattle.mz_check_meaning.specs.Models.{Model, entry_of, type_of_decl}
use Rattle.mz_check_meaning.specs.Coerced.{fitted, list_of}
use Rattle.mz_check_meaning.specs.Arrays.{listed, tabled, set_literal}
use Rattle.mz_check_meaning.specs.Calls.{par, row_node}
use Rattle.mz_check_data.specs.Datum.{Meanings, list_in, lines_in, name_tree, one_tree, range_tree, set_tree, plain_tree, list_tree, are_level, rows_tree, index_set_type, index_set_tree, array_call, shaped_tree, value_tree, wanted, type_for, fitted_value, as_data_form, typed_value}
use Rattle.mz_check_data.specs.WithData.{declared_as, given_value, given_values, or_given, with_value}
use Rattle.mz_check_meaning.proofs.Giving.{AllBy, all_both, all_mapped, Gives, gives_then, gives_after, each_gives}
use Rattle.mz_core.specs.Nodes.{nodes_in}
use Rattle.mz_check_meaning.proofs.Rules.{Rules}
use Rattle.mz_check_meaning.proofs.Leaves as leaves
use Rattle.mz_check_meaning.proofs.Leaves.{IsKept, AreKept, IsKeptMaybe, IsKeptDecl, fitted_kept, row_kept}

module _ (rules : Rules) where
  -- ---- one value

  module _ (ms : Meanings) (at : Span) where
    name_kept : (x : Option Meaning) → Gives (name_tree at x) (IsKept rules)
    unfolding name_tree nodes_in
    name_kept None = tt
    name_kept (Some (meaning.Decl d)) = tt
    name_kept (Some (meaning.Function f)) = tt
    name_kept (Some (meaning.Enum e)) = (rules.plain _ _ _ tt, tt)
    name_kept (Some (meaning.Case e k)) = (rules.plain _ _ _ tt, tt)

    one_kept : (v : Value) → Gives (one_tree ms at v) (IsKept rules)
    unfolding one_tree nodes_in
    one_kept (pure.bool b) = (rules.plain _ _ _ tt, tt)
    one_kept (pure.int n) = (rules.plain _ _ _ tt, tt)
    one_kept (pure.ident n) = name_kept (entry_of n ms)
    one_kept pure.absent = tt
    one_kept (pure.range v w) = tt
    one_kept (pure.set vs) = tt
    one_kept (pure.array vs) = tt
    one_kept (pure.rows ls) = tt
    one_kept (pure.array_nd ss vs) = tt

    ones_kept : (vs : List Value) → AllBy (λ v. Gives (one_tree ms at v) (IsKept rules)) vs
    ones_kept [] = tt
    ones_kept (v ∷ vs) = (one_kept v, ones_kept vs)

    range_kept : (v w : Value) → Gives (range_tree ms at v w) (IsKept rules)
    unfolding range_tree
    range_kept v w =
        let last : Tree → Tree → Test Tree = λ low high. row_node at (codes "..") (low ∷ high ∷ []) in
        gives_then (IsKept rules) (IsKept rules) (one_tree ms at v) (λ low. one_tree ms at w >>= λ high. last low high) (one_kept v) (λ low l.
        gives_then (IsKept rules) (IsKept rules) (one_tree ms at w) (last low) (one_kept w) (λ high h. row_kept rules at (codes "..") (low ∷ high ∷ []) (l, (h, tt))))

    set_kept : (vs : Values) → Gives (set_tree ms at vs) (IsKept rules)
    unfolding set_tree
    set_kept vs =
        gives_then (AreKept rules) (IsKept rules) (each (one_tree ms at) (list_in vs)) (set_literal at) (each_gives (IsKept rules) (one_tree ms at) (list_in vs) (ones_kept (list_in vs))) (λ es h. leaves.set_kept rules at es h)

    plain_kept : (v : Value) → Gives (plain_tree ms at v) (IsKept rules)
    unfolding plain_tree nodes_in
    plain_kept (pure.bool b) = one_kept (pure.bool b)
    plain_kept (pure.int n) = one_kept (pure.int n)
    plain_kept (pure.ident n) = one_kept (pure.ident n)
    plain_kept pure.absent = (rules.plain _ _ _ tt, tt)
    plain_kept (pure.range v w) = range_kept v w
    plain_kept (pure.set vs) = set_kept vs
    plain_kept (pure.array vs) = one_kept (pure.array vs)
    plain_kept (pure.rows ls) = one_kept (pure.rows ls)
    plain_kept (pure.array_nd ss vs) = one_kept (pure.array_nd ss vs)

    plains_kept : (vs : List Value) → AllBy (λ v. Gives (plain_tree ms at v) (IsKept rules)) vs
    plains_kept [] = tt
    plains_kept (v ∷ vs) = (plain_kept v, plains_kept vs)

    elements_kept : (vs : List Value) → Gives (each (plain_tree ms at) vs) (AreKept rules)
    elements_kept vs = each_gives (IsKept rules) (plain_tree ms at) vs (plains_kept vs)

    lines_kept : (ls : List (List Value)) → AllBy (λ l. Gives (each (plain_tree ms at) l) (AreKept rules)) ls
    lines_kept [] = tt
    lines_kept (l ∷ ls) = (elements_kept l, lines_kept ls)

    list_kept : (vs : Values) → Gives (list_tree ms at vs) (IsKept rules)
    unfolding list_tree
    list_kept vs = gives_then (AreKept rules) (IsKept rules) (each (plain_tree ms at) (list_in vs)) (listed at) (elements_kept (list_in vs)) (λ es h. leaves.listed_kept rules at es h)

    rows_kept : (ls : Lines) → Gives (rows_tree ms at ls) (IsKept rules)
    unfolding rows_tree
    rows_kept ls =
        gives_after (IsKept rules) (require (are_level (lines_in ls)) kind.DataForm at) (λ u. each (each (plain_tree ms at)) (lines_in ls) >>= λ rs. tabled at rs) (λ u.
        gives_then (AllBy (AreKept rules)) (IsKept rules) (each (each (plain_tree ms at)) (lines_in ls)) (λ rs. tabled at rs) (each_gives (AreKept rules) (each (plain_tree ms at)) (lines_in ls) (lines_kept (lines_in ls))) (λ rs h.
        leaves.tabled_kept rules at rs h))

    index_kept : (p : Value × Ix) → Gives (index_set_tree ms at p) (IsKept rules)
    unfolding index_set_tree
    index_kept p = gives_then (IsKept rules) (IsKept rules) (plain_tree ms at p.0) (λ e. fitted e (index_set_type p.1)) (plain_kept p.0) (λ e h. fitted_kept rules e (index_set_type p.1) h)

    indices_kept : (ss : List Value) (xs : List Ix) → AllBy (λ p. Gives (index_set_tree ms at p) (IsKept rules)) (zip ss xs)
    indices_kept [] xs = tt
    indices_kept (s ∷ ss) [] = tt
    indices_kept (s ∷ ss) (x ∷ xs) = (index_kept (s, x), indices_kept ss xs)

    shaped_kept : (u : PlainType) (ss vs : Values) → Gives (shaped_tree ms at u ss vs) (IsKept rules)
    unfolding shaped_tree
    shaped_kept u ss vs =
        let last : List Tree → Tree → Test Tree = λ sets fit. row_node at (array_call (length u.dims)) (sets ++ fit ∷ []) in
        let fit : List Tree → Tree → Test Tree = λ sets elements. fitted elements (list_of (par u)) >>= λ e. last sets e in
        let elements : List Tree → Test Tree = λ sets. list_tree ms at vs >>= λ e. fit sets e in
        gives_after (IsKept rules) (require (nat_eq (length (list_in ss)) (length u.dims)) kind.DataForm at) (λ c. each (index_set_tree ms at) (zip (list_in ss) u.dims) >>= λ sets. elements sets) (λ c.
        gives_then (AreKept rules) (IsKept rules) (each (index_set_tree ms at) (zip (list_in ss) u.dims)) elements (each_gives (IsKept rules) (index_set_tree ms at) (zip (list_in ss) u.dims) (indices_kept (list_in ss) u.dims)) (λ sets h.
        gives_then (IsKept rules) (IsKept rules) (list_tree ms at vs) (fit sets) (list_kept vs) (λ e k.
        gives_then (IsKept rules) (IsKept rules) (fitted e (list_of (par u))) (last sets) (fitted_kept rules e (list_of (par u)) k) (λ f l.
        row_kept rules at (array_call (length u.dims)) (sets ++ f ∷ []) (all_both (IsKept rules) sets (f ∷ []) h (l, tt))))))

    value_kept : (u : PlainType) (v : Value) → Gives (value_tree ms at u v) (IsKept rules)
    unfolding value_tree
    value_kept u (pure.bool b) = plain_kept (pure.bool b)
    value_kept u (pure.int n) = plain_kept (pure.int n)
    value_kept u (pure.ident n) = plain_kept (pure.ident n)
    value_kept u pure.absent = plain_kept pure.absent
    value_kept u (pure.range v w) = plain_kept (pure.range v w)
    value_kept u (pure.set vs) = plain_kept (pure.set vs)
    value_kept u (pure.array vs) = list_kept vs
    value_kept u (pure.rows ls) = rows_kept ls
    value_kept u (pure.array_nd ss vs) = shaped_kept u ss vs

  as_data_kept : (at : Span) (t : Test Tree) → Gives t (IsKept rules) → Gives (as_data_form at t) (IsKept rules)
  as_data_kept at (Ok e) h = h
  as_data_kept at (Err f) h = tt

  typed_kept : (ms : Meanings) (u : PlainType) (g : Given) → Gives (typed_value ms u g) (IsKept rules)
  unfolding typed_value
  typed_kept ms u g =
      let t : PlainType = type_for u g.value in
      as_data_kept g.at (fitted_value ms g.at t g.value)
      (gives_then (IsKept rules) (IsKept rules) (value_tree ms g.at t g.value) (λ e. fitted e (wanted t g.value)) (value_kept ms g.at t g.value) (λ e h. fitted_kept rules e (wanted t g.value) h))

  -- ---- all of them

  -- a value of a declaration's number
  abbrev pub IsKeptGiven : ℕ × Tree → Type 0
  IsKeptGiven v = IsKept rules v.1

  given_kept : (m : Model) (g : Given) → Gives (given_value m g) IsKeptGiven
  unfolding given_value
  given_kept m g =
      let last : ℕ → Tree → Test (ℕ × Tree) = λ d e. Ok (d, e) in
      let typed : ℕ → DeclaredType → Test (ℕ × Tree) = λ d u. typed_value m.names u.ty g >>= λ e. last d e in
      gives_after IsKeptGiven (declared_as g.at (entry_of g.name m.names)) (λ d. type_of_decl m g.span d >>= λ u. typed d u) (λ d.
      gives_after IsKeptGiven (type_of_decl m g.span d) (typed d) (λ u.
      gives_then (IsKept rules) IsKeptGiven (typed_value m.names u.ty g) (last d) (typed_kept m.names u.ty g) (λ e h. h)))

  each_kept : (m : Model) (gs : List Given) → AllBy (λ g. Gives (given_value m g) IsKeptGiven) gs
  each_kept m [] = tt
  each_kept m (g ∷ gs) = (given_kept m g, each_kept m gs)

  pub values_kept : (m : Model) (gs : List Given) → Gives (given_values m gs) (AllBy IsKeptGiven)
  unfolding given_values
  values_kept m gs = each_gives IsKeptGiven (given_value m) gs (each_kept m gs)

  -- ---- declarations with these values

  found_case : (b : Bool) (e : Tree) (o : Option Tree) → IsKept rules e → IsKeptMaybe rules o → IsKeptMaybe rules (if b then Some e else o)
  found_case true e o h k = h
  found_case false e o h k = k

  found_kept : (n : ℕ) (vs : List (ℕ × Tree)) → AllBy IsKeptGiven vs → IsKeptMaybe rules (entry_of n vs)
  unfolding entry_of
  found_kept n [] h = tt
  found_kept n (v ∷ vs) h = found_case (nat_eq v.0 n) v.1 (entry_of n vs) h.0 (found_kept n vs h.1)

  or_kept : (v w : Option Tree) → IsKeptMaybe rules v → IsKeptMaybe rules w → IsKeptMaybe rules (or_given v w)
  or_kept None w h k = k
  or_kept (Some e) w h k = h

  pub decls_kept : (vs : List (ℕ × Tree)) (ds : List Decl) → AllBy IsKeptGiven vs → AllBy (IsKeptDecl rules) ds → AllBy (IsKeptDecl rules) (map (with_value vs) ds)
  decls_kept vs ds h all = all_mapped (IsKeptDecl rules) (IsKeptDecl rules) (with_value vs) ds (λ d k. (k.0, or_kept d.value (entry_of d.slot vs) k.1 (found_kept d.slot vs h))) all
