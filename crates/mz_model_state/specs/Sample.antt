-- A WORKED EXAMPLE: what the walk has in hand of a small model, whose instance is `sample` of mz_instance.
-- var opt 1..2: o; var set of 1..2: s; array[1..2] of var bool: b; constraint let { var 1..2: y } in y = 2;
use Rattle.std.specs.Prelude.{ℕ, pos, Bool, List, [], ◌∷◌, Option, Some, None}
use Rattle.std.specs.Option.{option_map}
use Rattle.mz_value.specs.Ranges.{Range}
use Rattle.mz_value.specs.Contents.{Content}
use Rattle.mz_value.specs.Contents as values
use Rattle.mz_core.specs.declared.types.Base.{Base}
use Rattle.mz_core.specs.declared.types.Base.TheVariants as base
use Rattle.mz_core.specs.Program.{PlainProgram, satisfy}
use Rattle.mz_core.specs.Tree.{Tree, Decl, declares}
use Rattle.mz_operations.specs.declared.row.ScalarRow.TheVariants.{Equal}
use Rattle.mz_operations.specs.Bounds as bounds
use Rattle.mz_operations.specs.Bounds.{truth}
use Rattle.mz_operations.specs.Values.{scalar_value}
use Rattle.mz_meaning.specs.Cells.{Cell, Var, Mode, held, is_true}
use Rattle.mz_meaning.specs.Coerced.{recast}
use Rattle.mz_meaning.specs.Domains.{domains_bounds}
use Rattle.mz_meaning.specs.RowNumbers as op
use Rattle.mz_meaning.specs.Walk.{Limits, Declared}
use Rattle.mz_meaning.specs.Written.{list_of, var_int, var_bool, var_opt_int, var_ints, num, slot, bin, to_var, let_in, range, within, indexed, decl}
use Rattle.mz_instance.specs.Parts.{truths}
use Rattle.mz_instance.specs.Sample.{one_or_two, arena}
use Rattle.mz_symbol.specs.declared.types.Free.{Free}
use Rattle.mz_symbol.specs.Symbols.{symbol_value}
use Rattle.mz_symbol.specs.Runs.{Run}
use Rattle.mz_symbol.specs.Readings.{Reading}
use Rattle.mz_model_state.specs.Hands.{NameKind, ParName, OnePlace, ManyPlaces, kind_domains, array_value, places_value, HeldName, HeldConstraint, Hand}

-- ---- the model

abbrev pub limits : Limits
limits = record { budget = 10000; int_range = pos 1000000000 }

abbrev pub o : Decl
o = decl 14 0 (within var_opt_int (range 9 (pos 1) (pos 2))) None

abbrev pub s : Decl
s = decl 36 1 (within var_ints (range 31 (pos 1) (pos 2))) None

abbrev pub b : Decl
b = decl 60 2 (indexed (list_of var_bool) (Some (range 45 (pos 1) (pos 2)) ∷ []) None) None

abbrev pub y_is_two : Tree
y_is_two = let_in 75 var_bool (declares (decl 90 20 (within var_int (range 85 (pos 1) (pos 2))) None) ∷ []) (bin 98 var_bool (slot 98 var_int 20) op.equal (to_var (num 102 (pos 2))))

abbrev pub model : PlainProgram
model = record { cases = []; texts = []; decls = o ∷ s ∷ b ∷ []; order = 0 ∷ 1 ∷ 2 ∷ []; functions = []; constraints = y_is_two ∷ []; goal = satisfy; outputs = [] }

-- ---- what is in hand

abbrev pub place : Base → Option ℕ → ℕ → List Range → Free
place b o id u = record { symbol = record { base = b; occurs = o; term = id }; set = u }

abbrev pub choice : Free
choice = place base.Int None 7 one_or_two

abbrev pub run : Run
run = record { work = 23; weight = 4; saved = 0; arena = arena; choices = choice ∷ []; lines = [] }

-- the value of a place, or of places
abbrev pub value_under : Reading → NameKind → Option Content
value_under r ParName = None
value_under r (OnePlace f) = symbol_value r.term f.symbol
value_under r (ManyPlaces ix fs) = array_value ix (places_value r.term fs)

abbrev pub variable_cell : Mode → NameKind → Option Content → Cell
variable_cell m k v = Var (domains_bounds (kind_domains k)) (held m v)

-- a variable without a declared value has no root
abbrev pub variable : ℕ → NameKind → HeldName
variable slot k = record { slot = slot; kind = k; cell = λ r. variable_cell r.mode k (value_under r k); value = None; roots = [] }

abbrev pub o_name : HeldName
o_name = variable 0 (OnePlace (place base.Int (Some 1) 3 one_or_two))

abbrev pub s_name : HeldName
s_name = variable 1 (OnePlace (place base.SetInt None 4 one_or_two))

abbrev pub b_name : HeldName
b_name = variable 2 (ManyPlaces one_or_two (place base.Bool None 5 truths ∷ place base.Bool None 6 truths ∷ []))

-- such a name, whose slot has this value
abbrev pub given_name : Mode → Option Content → HeldName → Declared
given_name m v n = record { slot = n.slot; domains = kind_domains n.kind; cell = variable_cell m n.kind v; value = None }

-- whether a value is 2
abbrev pub is_two : Option Content → Bool
is_two v = is_true (option_map (recast base.Bool) (scalar_value Equal (v ∷ Some (values.int (pos 2)) ∷ [])))

abbrev pub truth_cell : Mode → Bool → Cell
truth_cell m q = Var (bounds.one (bounds.number truth)) (held m (Some (values.bool q)))

-- its root is the node of `y = 2`
abbrev pub constraint : HeldConstraint
constraint = record { cell = λ r. truth_cell r.mode (is_two (symbol_value r.term choice.symbol)); roots = 9 ∷ [] }

abbrev pub hand : Hand
hand = record { run = run; names = o_name ∷ s_name ∷ b_name ∷ []; constraints = constraint ∷ []; objective = None }
