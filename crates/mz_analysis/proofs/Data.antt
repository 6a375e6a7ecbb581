-- The places of what the values of data are typed to are those of the values.
use Rattle.std.proofs.Common.{ℕ, Bool, true, false, List, [], ◌∷◌, ◌++◌, Option, Some, None, Ok, Err, map, zip, length}
use Rattle.std.specs.Prelude.{nat_eq, codes, if◌then◌else◌}
use Rattle.mz_base.specs.declared.fault.Span.{Span}
use Rattle.mz_base.specs.declared.kind.Kind.TheVariants as kind
use Rattle.mz_core.specs.declared.types.Ix.{Ix}
use Rattle.mz_core.specs.Types.{PlainType}
use Rattle.mz_core.specs.Tree.{Tree, Decl, DeclaredType}
use Rattle.mz_tree.specs.Data as pure
use Rattle.mz_tree.specs.Data.{Value, Values, Lines, Given}
use Rattle.mz_check_meaning.specs.declared.meaning.Meaning.{Meaning}
use Rattle.mz_check_meaning.specs.declared.meaning.Meaning.TheVariants as meaning
use Rattle.mz_check_meaning.specs.Tests.{Test, ◌>>=◌, require, each}
use Rattle.mz_check_meaning.specs.Models.{Model, entry_of, type_of_decl}
use Rattle.mz_check_meaning.specs.Coerced.{fitted, list_of}
use Rattle.mz_check_meaning.specs.Arrays.{listed, tabled, set_literal}
use Rattle.mz_check_meaning.specs.Calls.{par, row_node}
use Rattle.mz_check_data.specs.Datum.{Meanings, list_in, lines_in, name_tree, one_tree, range_tree, set_tree, plain_tree, list_tree, are_level, rows_tree, index_set_type, index_set_tree, array_call, shaped_tree, value_tree, wanted, type_for, fitted_value, as_data_form, typed_value}
use Rattle.mz_check_data.specs.WithData.{declared_as, given_value, given_values, or_given, with_value}
use Rattle.mz_check_meaning.proofs.Giving.{AllBy, all_both, all_mapped, Gives, gives_then, gives_after, each_gives}
use Rattle.mz_core.specs.Nodes.{nodes_in}
use Rattle.mz_analysis.proofs.PlaceNodes as nodes
use Rattle.mz_analysis.proofs.PlaceNodes.{IsPlaced, ArePlaced, IsPlacedMaybe, IsPlacedDecl, fitted_placed, row_placed}

module _ (P : Span → Type 0) where
  -- ---- one value

  module _ (ms : Meanings) (at : Span) (here : P at) where
    name_placed : (x : Option Meaning) → Gives (name_tree at x) (IsPlaced P)
    unfolding name_tree nodes_in
    name_placed None = tt
    name_placed (Some (meaning.Decl d)) = tt
    name_placed (Some (meaning.Function f)) = tt
    name_placed (Some (meaning.Enum e)) = ((here, tt), tt)
    name_placed (Some (meaning.Case e k)) = ((here, tt), tt)

    one_placed : (v : Value) → Gives (one_tree ms at v) (IsPlaced P)
    unfolding one_tree nodes_in
    one_placed (pure.bool b) = ((here, tt), tt)
    one_placed (pure.int n) = ((here, tt), tt)
    one_placed (pure.ident n) = name_placed (entry_of n ms)
    one_placed pure.absent = tt
    one_placed (pure.range v w) = tt
    one_placed (pure.set vs) = tt
    one_placed (pure.array vs) = tt
    one_placed (pure.rows ls) = tt
    one_placed (pure.array_nd ss vs) = tt

    ones_placed : (vs : List Value) → AllBy (λ v. Gives (one_tree ms at v) (IsPlaced P)) vs
    ones_placed [] = tt
    ones_placed (v ∷ vs) = (one_placed v, ones_placed vs)

    range_placed : (v w : Value) → Gives (range_tree ms at v w) (IsPlaced P)
    unfolding range_tree
    range_placed v w =
        let last : Tree → Tree → Test Tree = λ low high. row_node at (codes "..") (low ∷ high ∷ []) in
        gives_then (IsPlaced P) (IsPlaced P) (one_tree ms at v) (λ low. one_tree ms at w >>= λ high. last low high) (one_placed v) (λ low l.
        gives_then (IsPlaced P) (IsPlaced P) (one_tree ms at w) (last low) (one_placed w) (λ high h. row_placed P at (codes "..") (low ∷ high ∷ []) here (l, (h, tt))))

    set_placed : (vs : Values) → Gives (set_tree ms at vs) (IsPlaced P)
    unfolding set_tree
    set_placed vs =
        gives_then (ArePlaced P) (IsPlaced P) (each (one_tree ms at) (list_in vs)) (set_literal at) (each_gives (IsPlaced P) (one_tree ms at) (list_in vs) (ones_placed (list_in vs))) (λ es h. nodes.set_placed P at es here h)

    plain_placed : (v : Value) → Gives (plain_tree ms at v) (IsPlaced P)
    unfolding plain_tree nodes_in
    plain_placed (pure.bool b) = one_placed (pure.bool b)
    plain_placed (pure.int n) = one_placed (pure.int n)
    plain_placed (pure.ident n) = one_placed (pure.ident n)
    plain_placed pure.absent = ((here, tt), tt)
    plain_placed (pure.range v w) = range_placed v w
    plain_placed (pure.set vs) = set_placed vs
    plain_placed (pure.array vs) = one_placed (pure.array vs)
    plain_placed (pure.rows ls) = one_placed (pure.rows ls)
    plain_placed (pure.array_nd ss vs) = one_placed (pure.array_nd ss vs)

    plains_placed : (vs : List Value) → AllBy (λ v. Gives (plain_tree ms at v) (IsPlaced P)) vs
    plains_placed [] = tt
    plains_placed (v ∷ vs) = (plain_placed v, plains_placed vs)

    elements_placed : (vs : List Value) → Gives (each (plain_tree ms at) vs) (ArePlaced P)
    elements_placed vs = each_gives (IsPlaced P) (plain_tree ms at) vs (plains_placed vs)

    lines_placed : (ls : List (List Value)) → AllBy (λ l. Gives (each (plain_tree ms at) l) (ArePlaced P)) ls
    lines_placed [] = tt
    lines_placed (l ∷ ls) = (elements_placed l, lines_placed ls)

    list_placed : (vs : Values) → Gives (list_tree ms at vs) (IsPlaced P)
    unfolding list_tree
    list_placed vs = gives_then (ArePlaced P) (IsPlaced P) (each (plain_tree ms at) (list_in vs)) (listed at) (elements_placed (list_in vs)) (λ es h. nodes.listed_placed P at es here h)

    rows_placed : (ls : Lines) → Gives (rows_tree ms at ls) (IsPlaced P)
    unfolding rows_tree
    rows_placed ls =
        gives_after (IsPlaced P) (require (are_level (lines_in ls)) kind.DataForm at) (λ u. each (each (plain_tree ms at)) (lines_in ls) >>= λ rs. tabled at rs) (λ u.
        gives_then (AllBy (ArePlaced P)) (IsPlaced P) (each (each (plain_tree ms at)) (lines_in ls)) (λ rs. tabled at rs) (each_gives (ArePlaced P) (each (plain_tree ms at)) (lines_in ls) (lines_placed (lines_in ls))) (λ rs h.
        nodes.tabled_placed P at rs here h))

    index_placed : (p : Value × Ix) → Gives (index_set_tree ms at p) (IsPlaced P)
    unfolding index_set_tree
    index_placed p = gives_then (IsPlaced P) (IsPlaced P) (plain_tree ms at p.0) (λ e. fitted e (index_set_type p.1)) (plain_placed p.0) (λ e h. fitted_placed P e (index_set_type p.1) h)

    indices_placed : (ss : List Value) (xs : List Ix) → AllBy (λ p. Gives (index_set_tree ms at p) (IsPlaced P)) (zip ss xs)
    indices_placed [] xs = tt
    indices_placed (s ∷ ss) [] = tt
    indices_placed (s ∷ ss) (x ∷ xs) = (index_placed (s, x), indices_placed ss xs)

    shaped_placed : (u : PlainType) (ss vs : Values) → Gives (shaped_tree ms at u ss vs) (IsPlaced P)
    unfolding shaped_tree
    shaped_placed u ss vs =
        let last : List Tree → Tree → Test Tree = λ sets fit. row_node at (array_call (length u.dims)) (sets ++ fit ∷ []) in
        let fit : List Tree → Tree → Test Tree = λ sets elements. fitted elements (list_of (par u)) >>= λ e. last sets e in
        let elements : List Tree → Test Tree = λ sets. list_tree ms at vs >>= λ e. fit sets e in
        gives_after (IsPlaced P) (require (nat_eq (length (list_in ss)) (length u.dims)) kind.DataForm at) (λ c. each (index_set_tree ms at) (zip (list_in ss) u.dims) >>= λ sets. elements sets) (λ c.
        gives_then (ArePlaced P) (IsPlaced P) (each (index_set_tree ms at) (zip (list_in ss) u.dims)) elements (each_gives (IsPlaced P) (index_set_tree ms at) (zip (list_in ss) u.dims) (indices_placed (list_in ss) u.dims)) (λ sets h.
        gives_then (IsPlaced P) (IsPlaced P) (list_tree ms at vs) (fit sets) (list_placed vs) (λ e k.
        gives_then (IsPlaced P) (IsPlaced P) (fitted e (list_of (par u))) (last sets) (fitted_placed P e (list_of (par u)) k) (λ f l.
        row_placed P at (array_call (length u.dims)) (sets ++ f ∷ []) here (all_both (IsPlaced P) sets (f ∷ []) h (l, tt))))))

    value_placed : (u : PlainType) (v : Value) → Gives (value_tree ms at u v) (IsPlaced P)
    unfolding value_tree
    value_placed u (pure.bool b) = plain_placed (pure.bool b)
    value_placed u (pure.int n) = plain_placed (pure.int n)
    value_placed u (pure.ident n) = plain_placed (pure.ident n)
    value_placed u pure.absent = plain_placed pure.absent
    value_placed u (pure.range v w) = plain_placed (pure.range v w)
    value_placed u (pure.set vs) = plain_placed (pure.set vs)
    value_placed u (pure.array vs) = list_placed vs
    value_placed u (pure.rows ls) = rows_placed ls
    value_placed u (pure.array_nd ss vs) = shaped_placed u ss vs

  as_data_placed : (at : Span) (t : Test Tree) → Gives t (IsPlaced P) → Gives (as_data_form at t) (IsPlaced P)
  as_data_placed at (Ok e) h = h
  as_data_placed at (Err f) h = tt

  typed_placed : (ms : Meanings) (u : PlainType) (g : Given) → P g.at → Gives (typed_value ms u g) (IsPlaced P)
  unfolding typed_value
  typed_placed ms u g here =
      let t : PlainType = type_for u g.value in
      as_data_placed g.at (fitted_value ms g.at t g.value)
      (gives_then (IsPlaced P) (IsPlaced P) (value_tree ms g.at t g.value) (λ e. fitted e (wanted t g.value)) (value_placed ms g.at here t g.value) (λ e h. fitted_placed P e (wanted t g.value) h))

  -- ---- all of them

  -- a value of a declaration's number
  abbrev pub IsPlacedGiven : ℕ × Tree → Type 0
  IsPlacedGiven v = IsPlaced P v.1

  given_placed : (m : Model) (g : Given) → P g.at → Gives (given_value m g) IsPlacedGiven
  unfolding given_value
  given_placed m g here =
      let last : ℕ → Tree → Test (ℕ × Tree) = λ d e. Ok (d, e) in
      let typed : ℕ → DeclaredType → Test (ℕ × Tree) = λ d u. typed_value m.names u.ty g >>= λ e. last d e in
      gives_after IsPlacedGiven (declared_as g.at (entry_of g.name m.names)) (λ d. type_of_decl m g.span d >>= λ u. typed d u) (λ d.
      gives_after IsPlacedGiven (type_of_decl m g.span d) (typed d) (λ u.
      gives_then (IsPlaced P) IsPlacedGiven (typed_value m.names u.ty g) (last d) (typed_placed m.names u.ty g here) (λ e h. h)))

  each_placed : (m : Model) (gs : List Given) → AllBy (λ g. P g.at) gs → AllBy (λ g. Gives (given_value m g) IsPlacedGiven) gs
  each_placed m [] h = tt
  each_placed m (g ∷ gs) h = (given_placed m g h.0, each_placed m gs h.1)

  pub values_placed : (m : Model) (gs : List Given) → AllBy (λ g. P g.at) gs → Gives (given_values m gs) (AllBy IsPlacedGiven)
  unfolding given_values
  values_placed m gs h = each_gives IsPlacedGiven (given_value m) gs (each_placed m gs h)

  -- ---- declarations with these values

  found_case : (b : Bool) (e : Tree) (o : Option Tree) → IsPlaced P e → IsPlacedMaybe P o → IsPlacedMaybe P (if b then Some e else o)
  found_case true e o h k = h
  found_case false e o h k = k

  found_placed : (n : ℕ) (vs : List (ℕ × Tree)) → AllBy IsPlacedGiven vs → IsPlacedMaybe P (entry_of n vs)
  unfolding entry_of
  found_placed n [] h = tt
  found_placed n (v ∷ vs) h = found_case (nat_eq v.0 n) v.1 (entry_of n vs) h.0 (found_placed n vs h.1)

  or_placed : (v w : Option Tree) → IsPlacedMaybe P v → IsPlacedMaybe P w → IsPlacedMaybe P (or_given v w)
  or_placed None w h k = k
  or_placed (Some e) w h k = h

  pub decls_placed : (vs : List (ℕ × Tree)) (ds : List Decl) → AllBy IsPlacedGiven vs → AllBy (IsPlacedDecl P) ds → AllBy (IsPlacedDecl P) (map (with_value vs) ds)
  decls_placed vs ds h all = all_mapped (IsPlacedDecl P) (IsPlacedDecl P) (with_value vs) ds (λ d k. record { span = k.span; ty = k.ty; value = or_placed d.value (entry_of d.slot vs) k.value (found_placed d.slot vs h) }) all
