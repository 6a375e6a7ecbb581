-- Worked examples: what names have for values in a solution, and which rows define which variables.
use Rattle.std.proofs.Common.{◌≡◌, refl, ℕ, pos, true, false, Bool, [], ◌∷◌, Some, None, Option, codes, slice_get, inl, inr, arith}
use Rattle.std.specs.Fmt.{digits}
use Rattle.mz_value.specs.Contents.{Content, none, more}
use Rattle.mz_value.specs.Contents as values
use Rattle.mz_operations.specs.Sets.{end_of}
use Rattle.mz_core.specs.declared.types.Base.{Base}
use Rattle.mz_core.specs.declared.types.Base.TheVariants as base
use Rattle.mz_core.specs.declared.types.Ix.TheVariants as ix
use Rattle.mz_core.specs.Types.{PlainType}
use Rattle.mz_instance.specs.Sample.{one_or_two, sample}
use Rattle.mz_instance.proofs.Items.{each_at}
use Rattle.fz_program.specs.Names.{Name}
use Rattle.fz_program.specs.Values.{Values, number, set}
use Rattle.fz_program.specs.Flat.{Variable}
use Rattle.flat_meaning.specs.Front.{front_variables, front_arrays}
use Rattle.flat_meaning.specs.Reading.{read_content, HasDefaults}
use Rattle.flat_meaning.specs.Defined.{DefinedOnce, IsDefinedBy}
use Rattle.flat_meaning.specs.Sample.{table, front, made, program}

abbrev scalar : Bool → Base → PlainType
scalar opt b = record { var = true; opt = opt; base = b; dims = [] }

abbrev list_of : Base → PlainType
list_of b = record { var = true; opt = false; base = b; dims = ix.Int ∷ [] }

-- whether o is there; o's value is 1, s is {2}, b is [false, true], the choice is 2
abbrev solution : ℕ → Values
solution there = number (pos there) ∷ number (pos 1) ∷ set ((pos 2, pos 2) ∷ []) ∷ number (pos 0) ∷ number (pos 1) ∷ number (pos 2) ∷ number (pos 1) ∷ []

abbrev reads : PlainType → Name → Option Content
reads t x = read_content t program (solution 1) x

record Reading : Type 0 where
  option : reads (scalar true base.Int) (codes "o") ≡ Some (values.int (pos 1))
  absent : read_content (scalar true base.Int) program (solution 0) (codes "o") ≡ Some values.absent
  set_read : reads (scalar false base.SetInt) (codes "s") ≡ Some (values.set None ((pos 2, pos 2) ∷ []))
  array_read : reads (list_of base.Bool) (codes "b") ≡ Some (values.array one_or_two (more (values.bool false) (more (values.bool true) none)))
  -- a name that isn't there
  no_name : reads (scalar false base.Int) (codes "x") ≡ None
  no_option : reads (scalar true base.Int) (codes "s") ≡ None
  no_array : reads (list_of base.Int) (codes "s") ≡ None
  -- a set is no number, and a truth value no number or set
  set_for_int : reads (scalar false base.Int) (codes "s") ≡ None
  int_for_set : reads (scalar false base.SetInt) (codes "X_VAL_o") ≡ None
  bool_for_int : reads (scalar false base.Int) (codes "X_OCC_o") ≡ None
  bools_for_ints : reads (list_of base.Int) (codes "b") ≡ None
  -- a variable that isn't marked for output
  unmarked : reads (scalar false base.Bool) (codes "X_ELT_1_b") ≡ None

reading : Reading
reading = record { option = refl; absent = refl; set_read = refl; array_read = refl; no_name = refl; no_option = refl; no_array = refl; set_for_int = refl; int_for_set = refl; bool_for_int = refl; bools_for_ints = refl; unmarked = refl }

-- where o isn't there, its value is the least, 1
default : HasDefaults (scalar true base.Int) program (solution 0) (codes "o")
unfolding end_of
default = λ h. refl

-- the front is that of the instance
front_is : front_variables table sample.vars ≡ front
unfolding digits
front_is = refl

arrays_are : front_arrays table 0 sample.vars ≡ program.arrays
arrays_are = refl

-- the variable 6 is defined by the first row, and no other by any
defined : (k : ℕ) (v : Variable) → slice_get program.vars k ≡ Some v → IsDefinedBy v.defined program.rows k
defined = each_at (λ k (v : Variable). IsDefinedBy v.defined program.rows k) program.vars
    (refl, (refl, (refl, (refl, (refl, (refl, (record { row = _; only = refl; before = (inr (omega arith), (tt, (inl refl, tt))) }, tt)))))))

pub defined_once : DefinedOnce program made 1
defined_once = record { rows = defined; free = refl }
