-- Values of data files, without where they lie in memory.
use Rattle.std.specs.Prelude.{ℤ, Bool, true, false, List, [], ◌∷◌, map}
use Rattle.mz_base.specs.declared.fault.Span.{Span}
use Rattle.mz_tree.specs.declared.data.Datum.{Datum, Datum-F, fold-Datum}
use Rattle.mz_tree.specs.declared.data.Datum.TheOpen as open_datum
use Rattle.mz_tree.specs.declared.data.DataItem.{DataItem}
use Rattle.mz_tree.specs.Tree.{Name}

mutual
  pub data Value : Type 0 where
    bool : Bool → Value
    int : ℤ → Value
    ident : Name → Value
    absent : Value
    range : Value → Value → Value
    set : Values → Value
    array : Values → Value
    rows : Lines → Value
    -- the index sets, and the elements
    array_nd : Values → Values → Value

  pub data Values : Type 0 where
    no_values : Values
    a_value : Value → Values → Values

  pub data Lines : Type 0 where
    no_lines : Lines
    a_line : Values → Lines → Lines

abbrev pub values : List Value → Values
values [] = no_values
values (v ∷ vs) = a_value v (values vs)

abbrev pub lines : List (List Value) → Lines
lines [] = no_lines
lines (l ∷ ls) = a_line (values l) (lines ls)

abbrev pub datum_step : Datum-F Value → Value
datum_step (open_datum.Bool b) = bool b
datum_step (open_datum.Int n) = int n
datum_step (open_datum.Ident n) = ident n
datum_step open_datum.Absent = absent
datum_step (open_datum.Range a b) = range a.value b.value
datum_step (open_datum.Set vs) = set (values vs.items)
datum_step (open_datum.Array vs) = array (values vs.items)
datum_step (open_datum.Rows ls) = rows (lines (map (λ l. l.items) ls.items))
datum_step (open_datum.ArrayNd ss vs) = array_nd (values ss.items) (values vs.items)

-- what the code's value stands for
unfoldable pub value : Datum → Value
value = fold-Datum Value datum_step

-- one layer of it, with what its parts stand for: by the equation of proofs/DataLooks
abbrev pub datum_seen : Datum-F Datum → Value
datum_seen (open_datum.Bool b) = bool b
datum_seen (open_datum.Int n) = int n
datum_seen (open_datum.Ident n) = ident n
datum_seen open_datum.Absent = absent
datum_seen (open_datum.Range a b) = range (value a.value) (value b.value)
datum_seen (open_datum.Set vs) = set (values (map value vs.items))
datum_seen (open_datum.Array vs) = array (values (map value vs.items))
datum_seen (open_datum.Rows ls) = rows (lines (map (λ l. map value l.items) ls.items))
datum_seen (open_datum.ArrayNd ss vs) = array_nd (values (map value ss.items)) (values (map value vs.items))

-- whether a value is an identifier
abbrev pub is_name : Value → Bool
is_name (ident n) = true
is_name _ = false

-- a value for a name, with the places of the name and of the value
pub record Given : Type 0 where
  pub name : Name
  pub span : Span
  pub at : Span
  pub value : Value

abbrev pub given : DataItem → Given
given d = record { name = d.name; span = d.span; at = d.at; value = value d.datum }
