-- A function of the code gives what a function on lists gives.
use Rattle.std.specs.Prelude.{◌≡◌, ℕ, List, [], ◌∷◌, ◌++◌, Option, Some, None, Result, Ok, Err, Bool, true, false, IsSome}
use Rattle.fz_items.specs.declared.miss.Miss.{Miss}
use Rattle.fz_items.specs.declared.miss.Miss.TheVariants.{Unfit, Memory}
use denote.Ref.{Bor}

-- Unfit where the function on lists gives nothing; out of memory says nothing
abbrev pub Fails : {Y : Type 0} → Miss → Option Y → Type 0
Fails Unfit read = read ≡ None
Fails Memory read = Unit {0}

-- what a function gives, seen by view
abbrev pub Gives : {X Y : Type 0} → (X → Y) → Result X Miss → Option Y → Type 0
Gives view (Ok x) read = read ≡ Some (view x)
Gives view (Err e) read = Fails e read

-- a value with the bytes after it
abbrev pub with_rest : {X Y : Type 0} → (X → Y) → X × Bor (List ℕ) → Y × List ℕ
with_rest view r = (view r.0, (r.1).now)

-- what is read is put last in a list, and the bytes after it are given
abbrev pub Pushes : {X : Type 0} → List X → List X → Result (Bor (List ℕ)) Miss → Option (X × List ℕ) → Type 0
Pushes {X} old new (Ok rest) read = (x : X) × (read ≡ Some (x, rest.now)) × (new ≡ old ++ x ∷ [])
Pushes old new (Err e) read = Fails e read

-- whether a value fits, and what it gives then; else nothing changes
abbrev pub Fits : {X : Type 0} → Bool → Option X → X → Type 0
Fits true read new = read ≡ Some new
Fits false read new = read ≡ None

-- what is put into a block; nothing changes where memory runs out
abbrev pub Puts : {X : Type 0} → Option X → Option X → Result (Unit {0}) Miss → Option X → Type 0
Puts old new (Ok x) read = (read ≡ new) × IsSome new
Puts old new (Err Unfit) read = read ≡ None
Puts old new (Err Memory) read = new ≡ old
