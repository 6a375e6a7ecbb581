-- What ranges that are put together enclose.
use Rattle.std.proofs.Common.{ℤ, ◌≤ℤ◌, neg_ℤ, Option, Some, None, unwrap_or, arith}
use Rattle.std.proofs.lemmas.Int.{ints, clamps}
use Rattle.mz_interval.specs.Ends.{Ends, Encloses, between, hull_of, hull_of_some}

pub hull_of-left : (e f : Ends) (x : ℤ) → Encloses e x → Encloses (hull_of e f) x
hull_of-left e f x h = record { from = omega (arith, ints, clamps); to = omega (arith, ints, clamps) }

pub hull_of-right : (e f : Ends) (x : ℤ) → Encloses f x → Encloses (hull_of e f) x
hull_of-right e f x h = record { from = omega (arith, ints, clamps); to = omega (arith, ints, clamps) }

pub between-first : (u v : ℤ) → Encloses (between u v) u
between-first u v = record { from = omega (arith, ints, clamps); to = omega (arith, ints, clamps) }

pub between-second : (u v : ℤ) → Encloses (between u v) v
between-second u v = record { from = omega (arith, ints, clamps); to = omega (arith, ints, clamps) }

pub between-rising : (u v x : ℤ) → u ≤ℤ x → x ≤ℤ v → Encloses (between u v) x
between-rising u v x p q = record { from = omega (arith, ints, clamps); to = omega (arith, ints, clamps) }

pub between-falling : (u v x : ℤ) → v ≤ℤ x → x ≤ℤ u → Encloses (between u v) x
between-falling u v x p q = record { from = omega (arith, ints, clamps); to = omega (arith, ints, clamps) }

pub between-neg : (u v x : ℤ) → Encloses (between u v) x → Encloses (between (neg_ℤ u) (neg_ℤ v)) (neg_ℤ x)
between-neg u v x h = record { from = omega (arith, ints, clamps); to = omega (arith, ints, clamps) }

-- a range holds what lies between two of its numbers
pub Encloses-between : (e : Ends) (u v x : ℤ) → Encloses e u → Encloses e v → Encloses (between u v) x → Encloses e x
Encloses-between e u v x p q h = record { from = omega (arith, ints, clamps); to = omega (arith, ints, clamps) }

-- x lies in the range that is there
abbrev pub Holds : Option Ends → ℤ → Type 0
Holds None x = ⊥
Holds (Some e) x = Encloses e x

pub hull_of_some-left : (e f : Option Ends) (x : ℤ) → Holds e x → Holds (hull_of_some e f) x
hull_of_some-left None f x h = absurd h
hull_of_some-left (Some e) None x h = h
hull_of_some-left (Some e) (Some f) x h = hull_of-left e f x h

pub hull_of_some-right : (e f : Option Ends) (x : ℤ) → Holds f x → Holds (hull_of_some e f) x
hull_of_some-right None f x h = h
hull_of_some-right (Some e) None x h = absurd h
hull_of_some-right (Some e) (Some f) x h = hull_of-right e f x h

pub Encloses-unwrap_or : (e : Option Ends) (d : Ends) (x : ℤ) → Holds e x → Encloses (unwrap_or e d) x
Encloses-unwrap_or None d x h = absurd h
Encloses-unwrap_or (Some e) d x h = h
