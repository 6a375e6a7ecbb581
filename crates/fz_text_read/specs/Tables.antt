-- Names, of which none may stand twice.
use Rattle.std.specs.Prelude.{◌≡◌, List, [], ◌∷◌, ◌++◌, Bool, true, false, ◌&&◌, not, Option, Some, None, Result, Ok, Err, if◌then◌else◌}
use Rattle.std.specs.List.{list_any}
use Rattle.std.specs.Str.{bytes_eq}
use Rattle.fz_items.specs.declared.miss.Miss.{Miss}
use Rattle.fz_items.specs.declared.miss.Miss.TheVariants.{Unfit, Memory}
use Rattle.fz_program.specs.Names.{Name}
use Rattle.fz_program.specs.Flat.{Variable, ArrayItem, labels_of, array_labels}

abbrev pub is_among : List Name → Name → Bool
is_among names x = list_any (bytes_eq x) names

-- the names with one more, where it doesn't stand there yet
abbrev pub with_text : List Name → Name → List Name
with_text names x = if is_among names x then names else names ++ x ∷ []

-- no name is one of the earlier names or stands twice
unfoldable pub are_new : List Name → List Name → Bool
are_new earlier [] = true
are_new earlier (x ∷ xs) = not (is_among earlier x) && are_new (earlier ++ x ∷ []) xs

-- a name was put last, or stands there already
abbrev pub Adds : List Name → List Name → Name → Result (Unit {0}) Miss → Type 0
Adds old new x (Ok u) = (is_among old x ≡ false) × (new ≡ old ++ x ∷ [])
Adds old new x (Err Unfit) = is_among old x ≡ true
Adds old new x (Err Memory) = Unit {0}

-- names were put last, or one stands twice
abbrev pub Named : List Name → List Name → List Name → Result (Unit {0}) Miss → Type 0
Named old new xs (Ok u) = (are_new old xs ≡ true) × (new ≡ old ++ xs)
Named old new xs (Err Unfit) = are_new old xs ≡ false
Named old new xs (Err Memory) = Unit {0}

-- the names of the variables, where none stands twice
abbrev pub named_variables : List Variable → Option (List Name)
named_variables vs = if are_new [] (labels_of vs) then Some (labels_of vs) else None

-- that no name stands twice, of a variable or an array
abbrev pub named_items : List Variable → List ArrayItem → Option (Unit {0})
named_items vs xs = if are_new [] (labels_of vs ++ array_labels xs) then Some tt else None
