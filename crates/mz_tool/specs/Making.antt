-- THE MODEL THAT `make` MAKES of a number, and its summary.
use Rattle.std.specs.Prelude.{◌≡◌, refl, ℕ, pos, List, [], ◌∷◌, ◌++◌, length, Some, codes, decimal}
use Rattle.std.specs.Fmt.{digits}
use Rattle.mz_io.specs.Files.{Texts}
use Rattle.mz_io.specs.MemFiles.{text_of}
use Rattle.mz_words.specs.Requests.{Settings}
use Rattle.mz_words.specs.declared.request.TheConstants.{DEFAULT_BUDGET, DEFAULT_INT_RANGE}
use Rattle.fz_program.specs.Flat.{Program}

-- the text before the number, and the three parts after it
unfoldable pub made_head : List ℕ
made_head = codes "int: n = "

unfoldable pub made_arrays : List ℕ
made_arrays = codes ";\narray[1..n] of var 0..9: x;\narray[1..n] of var opt 1..4: o;\n"

unfoldable pub made_constraints : List ℕ
made_constraints =
    codes "constraint forall(i in 1..n - 1)(x[i] * x[i + 1] <= 20 + i mod 7);\nconstraint forall(i in 1..n - 1)(x[i] div x[i + 1] != 3 \\/ occurs(o[i]));\n"
    ++ codes "constraint sum(x) <= 5 * n;\nconstraint count(x, 0) <= n div 2 + 1;\n"

unfoldable pub made_objective : List ℕ
made_objective = codes "solve maximize sum(i in 1..n)(x[i] * (i mod 3));\n"

abbrev pub model_text : ℕ → List ℕ
model_text n = made_head ++ (decimal n ++ (made_arrays ++ (made_constraints ++ made_objective)))

-- the one file of the model, by its name
abbrev pub made_name : List ℕ
made_name = codes "make"

abbrev pub made_texts : ℕ → Texts
made_texts n = Some (text_of ((made_name, model_text n) ∷ []))

-- its model with no data, and the defaults
abbrev pub made_settings : Settings
made_settings = record { model = made_name; data_files = []; budget = DEFAULT_BUDGET; int_range = pos DEFAULT_INT_RANGE }

abbrev pub summary_line : List ℕ → ℕ → List ℕ
summary_line label n = label ++ (decimal n ++ codes "\n")

-- of a model of this many bytes, for which so many bytes are written
abbrev pub summary_of : ℕ → ℕ → Program → List ℕ
summary_of model written flat =
    summary_line (codes "model ") model ++ (summary_line (codes "flatzinc ") written
    ++ (summary_line (codes "variables ") (length flat.vars) ++ summary_line (codes "rows ") (length flat.rows)))

-- THE SUMMARY, four lines: how many bytes the model has, and what is written for it; and how many variable items and constraint items the
-- program has that these bytes spell
abbrev pub summary : ℕ → List ℕ → Program → List ℕ
summary n written flat = summary_of (length (model_text n)) (length written) flat

pub text_of_three : length (model_text 3) ≡ 329
unfolding made_head made_arrays made_constraints made_objective digits
text_of_three = refl
