-- Words that are written out, and what they ask for.
use Rattle.std.specs.Prelude.{◌≡◌, ◌==◌, ℕ, pos, List, [], ◌∷◌, Some, None, if◌then◌else◌, codes}
use Rattle.clap.specs.Walk.{Text}
use Rattle.mz_words.specs.Requests.{asked, check, compile, make, print}

abbrev pub with_byte : ℕ → List Text → List Text
with_byte byte [] = (byte ∷ []) ∷ []
with_byte byte (word ∷ words) = (byte ∷ word) ∷ words

-- the words of a line, one blank between two
unfoldable pub words : List ℕ → List Text
words [] = [] ∷ []
words (byte ∷ line) = if byte == 32 then [] ∷ words line else with_byte byte (words line)

-- the line asks to compile this model with these data files, this budget and this range
abbrev pub Compiles : Text → Text → List Text → ℕ → ℕ → Type 0
Compiles line model data_files budget int_range =
    asked (words line) ≡ Some (compile (record { model = model; data_files = data_files; budget = budget; int_range = pos int_range }))

abbrev pub Checks : Text → Text → List Text → ℕ → ℕ → Type 0
Checks line model data_files budget int_range =
    asked (words line) ≡ Some (check (record { model = model; data_files = data_files; budget = budget; int_range = pos int_range }))

abbrev pub Prints : Text → Text → List Text → ℕ → ℕ → Type 0
Prints line model data_files budget int_range =
    asked (words line) ≡ Some (print (record { model = model; data_files = data_files; budget = budget; int_range = pos int_range }))

-- the line asks to make the model of this number
abbrev pub Makes : Text → ℕ → Type 0
Makes line number = asked (words line) ≡ Some (make number)

-- the words of the line are used wrongly
abbrev pub IsMisuse : Text → Type 0
IsMisuse line = asked (words line) ≡ None

pub record Examples : Type 0 where
  pub compile_alone : Compiles (codes "compile m.mzn") (codes "m.mzn") [] 10000000 1000000000
  pub check_alone : Checks (codes "check m.mzn") (codes "m.mzn") [] 10000000 1000000000
  pub options_anywhere : Compiles (codes "compile --budget=5 m.mzn a.dzn --int-range 7 b.dzn") (codes "m.mzn") (codes "a.dzn" ∷ codes "b.dzn" ∷ []) 5 7
  pub greatest : Checks (codes "check m.mzn --budget=100000000 --int-range=2305843009213693952") (codes "m.mzn") [] 100000000 2305843009213693952
  pub plus_and_zeros : Compiles (codes "compile m.mzn --budget +5 --int-range 0007") (codes "m.mzn") [] 5 7
  pub dashes : Compiles (codes "compile -- -m.mzn --budget 5 --") (codes "-m.mzn") (codes "--budget" ∷ codes "5" ∷ codes "--" ∷ []) 10000000 1000000000
  pub dash_is_a_file : Compiles (codes "compile -") (codes "-") [] 10000000 1000000000
  pub empty_is_a_file : Compiles (codes "compile ") [] [] 10000000 1000000000
  pub help_is_a_file : Checks (codes "check help m.mzn") (codes "help") (codes "m.mzn" ∷ []) 10000000 1000000000
  pub no_words : asked [] ≡ None
  pub no_command : IsMisuse (codes "run m.mzn")
  pub prefix_of_a_command : IsMisuse (codes "comp m.mzn")
  pub no_model : IsMisuse (codes "compile")
  pub options_alone : IsMisuse (codes "check --budget 5")
  pub given_twice : IsMisuse (codes "compile m.mzn --budget 5 --budget=6")
  pub zero_budget : IsMisuse (codes "compile m.mzn --budget 0")
  pub past_budget : IsMisuse (codes "compile m.mzn --budget 100000001")
  pub zero_range : IsMisuse (codes "compile m.mzn --int-range=0")
  pub past_range : IsMisuse (codes "compile m.mzn --int-range 2305843009213693953")
  pub minus : IsMisuse (codes "compile m.mzn --budget=-5")
  pub minus_word : IsMisuse (codes "compile m.mzn --budget -5")
  pub no_value : IsMisuse (codes "compile m.mzn --budget")
  pub empty_value : IsMisuse (codes "compile m.mzn --int-range=")
  pub dashes_for_a_value : IsMisuse (codes "compile m.mzn --budget -- 5")
  pub abbreviation : IsMisuse (codes "compile m.mzn --bud 5")
  pub short_option : IsMisuse (codes "compile m.mzn -b")
  pub help_option : IsMisuse (codes "compile --help m.mzn")
  pub print_alone : Prints (codes "print m.mzn") (codes "m.mzn") [] 10000000 1000000000
  pub print_with_data : Prints (codes "print --int-range=7 m.mzn d.dzn --budget 5") (codes "m.mzn") (codes "d.dzn" ∷ []) 5 7
  pub print_nothing : IsMisuse (codes "print")
  pub print_zero_budget : IsMisuse (codes "print m.mzn --budget 0")
  pub make_least : Makes (codes "make 1") 1
  pub make_greatest : Makes (codes "make 10000") 10000
  pub make_plus : Makes (codes "make +3") 3
  pub make_zeros : Makes (codes "make 0003") 3
  pub make_after_dashes : Makes (codes "make -- 3") 3
  pub make_nothing : IsMisuse (codes "make")
  pub make_zero : IsMisuse (codes "make 0")
  pub make_past : IsMisuse (codes "make 10001")
  pub make_twice : IsMisuse (codes "make 3 4")
  pub make_option : IsMisuse (codes "make 3 --budget 5")
  pub make_minus : IsMisuse (codes "make -3")
  pub make_word : IsMisuse (codes "make three")
