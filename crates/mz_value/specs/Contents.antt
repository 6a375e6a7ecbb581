-- Values without where they lie in memory.
use Rattle.std.specs.Prelude.{ℕ, ℤ, List, [], ◌∷◌, map, Bool, Option, string_bytes}
use Rattle.mz_value.specs.declared.value.ArrayValue.{ArrayValue-F}
use Rattle.mz_value.specs.declared.value.Value.{Value, Value-F, fold-Value}
use Rattle.mz_value.specs.declared.value.Value.TheOpen.{Bool as Truth, Int, Enum, Set, Absent, Text, Array}
use Rattle.mz_value.specs.declared.value.TextValue.{TextValue}
use Rattle.mz_value.specs.declared.value.Cases.{Cases}
use Rattle.mz_value.specs.Ranges.{Range}

mutual
  pub data Content : Type 0 where
    bool : Bool → Content
    int : ℤ → Content
    -- an enum's number, and a case of it, of which the first is 1
    case : ℕ → ℤ → Content
    -- an enum's number, None for integers, and a canonical list of ranges
    set : Option ℕ → List Range → Content
    absent : Content
    text : List ℕ → Content
    -- the least and the greatest index of each dimension, and the items
    array : List Range → Contents → Content

  pub data Contents : Type 0 where
    none : Contents
    more : Content → Contents → Contents

abbrev pub contents : List Content → Contents
contents [] = none
contents (x ∷ xs) = more x (contents xs)

abbrev pub text_bytes : TextValue → List ℕ
text_bytes t = string_bytes t.text

abbrev pub value_step : Value-F Content Content → Content
value_step (Truth b) = bool b
value_step (Int n) = int n
value_step (Enum e k) = case e k
value_step (Set s) = set s.of s.ranges
value_step Absent = absent
value_step (Text t) = text (text_bytes t)
value_step (Array a) = a

abbrev pub array_step : ArrayValue-F Content Content → Content
array_step a = array a.index.items (contents a.items.items)

-- what the code's value stands for
abbrev pub content : Value → Content
content = fold-Value Content Content value_step array_step

-- each enum's cases' names
abbrev pub case_names : Cases → List (List (List ℕ))
case_names c = map (λ e. map text_bytes e.items) c.names.items
