-- A well-formed program's text is read again, so bytes spell at most one program.
use Rattle.std.proofs.lemmas.Bool.{and_parts}
use Rattle.std.proofs.Common.{◌≡◌, ℕ, zero, suc, ◌+◌, ◌<◌, ◌≤◌, List, [], ◌∷◌, ◌++◌, length, length-append, Bool, true, false, refl, sym, ap, subst, ◌∙◌, arith, Some, None, append_assoc, flat_map, codes}
use Rattle.std.specs.Prelude.{Option}
use Rattle.std.specs.List.{AllByRecursion}
use Rattle.std.proofs.lemmas.Option.{none-some, same_Some}
use Rattle.mz_base.specs.Words.{is_identifier}
use Rattle.fz_items.specs.Items.{◌>>=◌, Read}
use Rattle.fz_program.specs.declared.program.FzGoal.{FzGoal}
use Rattle.fz_program.specs.declared.program.FzGoal.TheVariants.{Satisfy, Minimize, Maximize}
use Rattle.fz_program.specs.Names.{Name}
use Rattle.fz_program.specs.Flat.{Variable, ArrayItem, Row, Program, WellFormed, AreDistinct, AreParts, IsWellFormedVariable, IsWellFormedArray, IsWellFormedRow, array_labels, labels, labels_of}
use Rattle.fz_text_read.specs.Tokens.{behind}
use Rattle.fz_text_read.specs.Tables.{are_new, named_items}
use Rattle.fz_text_read.specs.Lines.{Body, array_item_at, body_at, every_at, lines_at, named_at, program_at, row_at, variable_at, with_variables}
use Rattle.fz_text_read.proofs.LineLoops.{more_at, stop_at}
use Rattle.fz_text_read.proofs.NameLoops.{named_unit, new_append}
use Rattle.fz_text.specs.Spelling.{Spells, array_line, goal_line, row_line, spelling, variable_line}
use Rattle.fz_text.specs.Reading.{IsOnly, SpellsNone}
use Rattle.fz_text.proofs.ArgumentsAgain.{AreNames}
use Rattle.fz_text.proofs.LinesAgain.{array_line_again, goal_again, inside_array, inside_row, inside_variable, row_again, variable_again}
use Rattle.fz_text.proofs.NamesOnce.{distinct_are_new, new_names}

-- ---- lines that begin with the same text

-- a line is a head and what stands inside, and is read again
pub record IsLine {A : Type 0} (head : List ℕ) (part : List ℕ → Read A) (text : A → List ℕ) (x : A) : Type 0 where
  pub inside : List ℕ → List ℕ
  pub is : (rest : List ℕ) → text x ++ rest ≡ head ++ inside rest
  pub again : (rest : List ℕ) → part (inside rest) ≡ Some (x, rest)

pub lines_again : {A : Type 0} (head : List ℕ) (part : List ℕ → Read A) (text : A → List ℕ) (xs : List A) (most : ℕ) (rest : List ℕ) → ((bs : List ℕ) → behind head (head ++ bs) ≡ Some bs) → AllByRecursion (IsLine head part text) xs → behind head rest ≡ None → length xs ≤ most → lines_at head part most (flat_map text xs ++ rest) ≡ Some (xs, rest)
lines_again head part text [] most rest goes all stops enough = stop_at head part most rest stops
lines_again head part text (x ∷ xs) zero rest goes all stops enough = absurd (omega arith)
lines_again head part text (x ∷ xs) (suc most) rest goes all stops enough =
    let tail = flat_map text xs ++ rest in
    let first = append_assoc (text x) (flat_map text xs) rest ∙ all.0.is tail in
    let bs = head ++ all.0.inside tail in
    ap (lines_at head part (suc most)) first
    ∙ more_at head part most bs (all.0.inside tail) tail x (goes (all.0.inside tail)) (all.0.again tail)
    ∙ rw (lines_again head part text xs most rest goes all.1 stops (omega arith)) refl

lines_length : {A : Type 0} (head : List ℕ) (part : List ℕ → Read A) (text : A → List ℕ) (xs : List A) (rest : List ℕ) → 0 < length head → AllByRecursion (IsLine head part text) xs → length xs ≤ length (flat_map text xs ++ rest)
lines_length head part text [] rest some all = omega arith
lines_length head part text (x ∷ xs) rest some all =
    let line : length (text x) + 0 ≡ length head + length (all.0.inside []) =
    sym (length-append (text x) []) ∙ ap length (all.0.is []) ∙ length-append head (all.0.inside []) in
    let whole : length ((text x ++ flat_map text xs) ++ rest) ≡ length (text x) + length (flat_map text xs ++ rest) =
    ap length (append_assoc (text x) (flat_map text xs) rest) ∙ length-append (text x) (flat_map text xs ++ rest) in
    let more = lines_length head part text xs rest some all.1 in
    omega arith

pub every_again : {A : Type 0} (head : List ℕ) (part : List ℕ → Read A) (text : A → List ℕ) (xs : List A) (rest : List ℕ) → 0 < length head → ((bs : List ℕ) → behind head (head ++ bs) ≡ Some bs) → AllByRecursion (IsLine head part text) xs → behind head rest ≡ None → every_at head part (flat_map text xs ++ rest) ≡ Some (xs, rest)
every_again head part text xs rest some goes all stops = lines_again head part text xs (length (flat_map text xs ++ rest)) rest goes all stops (lines_length head part text xs rest some all)

var_head : (bs : List ℕ) → behind (codes "var ") (codes "var " ++ bs) ≡ Some bs
unfolding behind
var_head bs = refl

array_head : (bs : List ℕ) → behind (codes "array [1..") (codes "array [1.." ++ bs) ≡ Some bs
unfolding behind
array_head bs = refl

row_head : (bs : List ℕ) → behind (codes "constraint ") (codes "constraint " ++ bs) ≡ Some bs
unfolding behind
row_head bs = refl

variable_lines : (vs : List Variable) → AllByRecursion IsWellFormedVariable vs → AllByRecursion (IsLine (codes "var ") variable_at variable_line) vs
unfolding variable_line
variable_lines [] h = tt
variable_lines (v ∷ vs) h = (record { inside = inside_variable v; is = λ rest. simp append_assoc; again = λ rest. variable_again v rest h.0 }, variable_lines vs h.1)

array_lines : (vs : List Variable) (xs : List ArrayItem) → AreNames (labels_of vs) → AllByRecursion (IsWellFormedArray vs) xs → AllByRecursion (IsLine (codes "array [1..") (array_item_at (labels_of vs)) (array_line vs)) xs
unfolding array_line
array_lines vs [] are h = tt
array_lines vs (a ∷ xs) are h = (record { inside = inside_array vs a; is = λ rest. simp append_assoc; again = λ rest. array_line_again vs a rest are h.0 }, array_lines vs xs are h.1)

row_lines : (vs : List Variable) (rs : List Row) → AreNames (labels_of vs) → AllByRecursion (IsWellFormedRow vs) rs → AllByRecursion (IsLine (codes "constraint ") (row_at (labels_of vs)) (row_line (labels_of vs))) rs
unfolding row_line
row_lines vs [] are h = tt
row_lines vs (r ∷ rs) are h = (record { inside = inside_row (labels_of vs) r; is = λ rest. simp append_assoc; again = λ rest. row_again vs r rest are h.0 }, row_lines vs rs are h.1)

-- ---- what follows lines is no such line: each begins with another letter

goal_is_no_row : (names : List Name) (g : FzGoal) → behind (codes "constraint ") (goal_line names g) ≡ None
unfolding behind goal_line
goal_is_no_row names Satisfy = refl
goal_is_no_row names (Minimize k) = refl
goal_is_no_row names (Maximize k) = refl

goal_is_no_array : (names : List Name) (g : FzGoal) → behind (codes "array [1..") (goal_line names g) ≡ None
unfolding behind goal_line
goal_is_no_array names Satisfy = refl
goal_is_no_array names (Minimize k) = refl
goal_is_no_array names (Maximize k) = refl

goal_is_no_variable : (names : List Name) (g : FzGoal) → behind (codes "var ") (goal_line names g) ≡ None
unfolding behind goal_line
goal_is_no_variable names Satisfy = refl
goal_is_no_variable names (Minimize k) = refl
goal_is_no_variable names (Maximize k) = refl

row_is_no_array : (names : List Name) (rs : List Row) (g : FzGoal) → behind (codes "array [1..") (flat_map (row_line names) rs ++ goal_line names g) ≡ None
unfolding behind row_line
row_is_no_array names [] g = goal_is_no_array names g
row_is_no_array names (r ∷ rs) g = refl

row_is_no_variable : (names : List Name) (rs : List Row) (g : FzGoal) → behind (codes "var ") (flat_map (row_line names) rs ++ goal_line names g) ≡ None
unfolding behind row_line
row_is_no_variable names [] g = goal_is_no_variable names g
row_is_no_variable names (r ∷ rs) g = refl

array_is_no_variable : (vs : List Variable) (xs : List ArrayItem) (rs : List Row) (g : FzGoal) → behind (codes "var ") (flat_map (array_line vs) xs ++ (flat_map (row_line (labels_of vs)) rs ++ goal_line (labels_of vs) g)) ≡ None
unfolding behind array_line
array_is_no_variable vs [] rs g = row_is_no_variable (labels_of vs) rs g
array_is_no_variable vs (a ∷ xs) rs g = refl

-- ---- names

names_are : (vs : List Variable) (ys : List Name) → AllByRecursion IsWellFormedVariable vs → AreDistinct (labels_of vs ++ ys) → AreNames (labels_of vs)
names_are vs ys h d = record { identifiers = each vs h; distinct = new_names (labels_of vs) (and_parts (are_new [] (labels_of vs)) (are_new (labels_of vs) ys) (sym (new_append [] (labels_of vs) ys) ∙ distinct_are_new [] (labels_of vs ++ ys) d)).0 }
  where
    each : (vs : List Variable) → AllByRecursion IsWellFormedVariable vs → AllByRecursion (λ w. is_identifier w ≡ true) (labels_of vs)
    each [] h = tt
    each (v ∷ vs) h = (h.0.label, each vs h.1)

-- ---- the whole

rest_again : (p : Program) → AreNames (labels_of p.vars) → AreParts p → body_at (labels_of p.vars) (flat_map (array_line p.vars) p.arrays ++ (flat_map (row_line (labels_of p.vars)) p.rows ++ goal_line (labels_of p.vars) p.goal)) ≡ Some (record { arrays = p.arrays; rows = p.rows; goal = p.goal })
unfolding body_at
rest_again p are h =
    let names = labels_of p.vars in
    let last = goal_line names p.goal in
    rw (every_again (codes "array [1..") (array_item_at names) (array_line p.vars) p.arrays (flat_map (row_line names) p.rows ++ last) (omega arith) array_head (array_lines p.vars p.arrays are h.arrays) (row_is_no_array names p.rows p.goal))
    (rw (every_again (codes "constraint ") (row_at names) (row_line names) p.rows last (omega arith) row_head (row_lines p.vars p.rows are h.rows) (goal_is_no_row names p.goal))
    (rw (goal_again p.vars p.goal are h.goal) refl))

-- a program's text, from its first line
abbrev lines_of : Program → List ℕ
lines_of p = flat_map variable_line p.vars ++ (flat_map (array_line p.vars) p.arrays ++ (flat_map (row_line (labels_of p.vars)) p.rows ++ goal_line (labels_of p.vars) p.goal))

spelling_is : (p : Program) → spelling p ≡ lines_of p
spelling_is p = simp append_assoc

lines_are_read : (p : Program) → WellFormed p → program_at (lines_of p) ≡ Some p
unfolding program_at
lines_are_read p h =
    let names = labels_of p.vars in
    let are = names_are p.vars (array_labels p.arrays) h.parts.vars h.distinct in
    let once = distinct_are_new [] (labels p) h.distinct in
    let first = distinct_are_new [] names are.distinct in
    rw (every_again (codes "var ") variable_at variable_line p.vars (flat_map (array_line p.vars) p.arrays ++ (flat_map (row_line names) p.rows ++ goal_line names p.goal)) (omega arith) var_head (variable_lines p.vars h.parts.vars) (array_is_no_variable p.vars p.arrays p.rows p.goal))
    (rw first (rw (rest_again p are h.parts) (rw once refl)))

-- a well-formed program's text is read to it
pub program_again : (p : Program) → WellFormed p → program_at (spelling p) ≡ Some p
program_again p h = ap program_at (spelling_is p) ∙ lines_are_read p h

pub spelled_again : (bytes : List ℕ) (p : Program) → Spells bytes p → program_at bytes ≡ Some p
spelled_again bytes p h = ap program_at h.spelled ∙ program_again p h.well_formed

-- bytes spell at most one program
pub only_one : IsOnly
only_one bytes p q a b = same_Some p q (sym (spelled_again bytes p a) ∙ spelled_again bytes q b)

-- bytes that are read to nothing, or to what isn't well formed or has another spelling, spell no program
pub none_spelled : (bytes : List ℕ) → program_at bytes ≡ None → SpellsNone bytes
none_spelled bytes e p h = none-some p (sym e ∙ spelled_again bytes p h)

pub other_spelled : (bytes : List ℕ) (p : Program) → program_at bytes ≡ Some p → (AreParts p × (bytes ≡ spelling p) → ⊥) → SpellsNone bytes
other_spelled bytes p e differs q h =
    let same : q ≡ p = same_Some q p (sym (spelled_again bytes q h) ∙ e) in
    differs (subst (λ r. AreParts r × (bytes ≡ spelling r)) same (h.well_formed.parts, h.spelled))

-- a program that is read has no name twice
named_once : (vs : List Variable) (b : Body) (p : Program) → (named_items vs b.arrays >>= λ u. Some (with_variables vs b)) ≡ Some p → AreDistinct (labels p)
named_once vs b p e = by (are_new [] (labels_of vs ++ array_labels b.arrays)) refl e
  where
    by : (t : Bool) → are_new [] (labels_of vs ++ array_labels b.arrays) ≡ t → (named_unit t >>= λ u. Some (with_variables vs b)) ≡ Some p → AreDistinct (labels p)
    by true once same = subst (λ q. AreDistinct (labels q)) (same_Some (with_variables vs b) p same) (new_names (labels_of vs ++ array_labels b.arrays) once)
    by false once same = absurd (none-some p same)

body_once : (vs : List Variable) (o : Option Body) (p : Program) → (o >>= λ b. named_items vs b.arrays >>= λ u. Some (with_variables vs b)) ≡ Some p → AreDistinct (labels p)
body_once vs None p e = absurd (none-some p e)
body_once vs (Some b) p e = named_once vs b p e

lines_once : (o : Read (List Variable)) (p : Program) → (o >>= λ vs. named_at vs.0 vs.1 >>= λ b. named_items vs.0 b.arrays >>= λ u. Some (with_variables vs.0 b)) ≡ Some p → AreDistinct (labels p)
lines_once None p e = absurd (none-some p e)
lines_once (Some vs) p e = body_once vs.0 (named_at vs.0 vs.1) p e

pub read_names : (bs : List ℕ) (p : Program) → program_at bs ≡ Some p → AreDistinct (labels p)
unfolding program_at
read_names bs p e = lines_once (every_at (codes "var ") variable_at bs) p e

-- what is read, is well formed in all else and spells the bytes, is spelled by them
pub is_spelled : (bytes : List ℕ) (p : Program) → program_at bytes ≡ Some p → AreParts p → bytes ≡ spelling p → Spells bytes p
is_spelled bytes p e parts same = record { well_formed = record { distinct = read_names bytes p e; parts = parts }; spelled = same }
