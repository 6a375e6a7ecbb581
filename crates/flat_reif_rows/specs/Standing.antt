-- What it means that an argument of a row stands for a node of an arena.
use Rattle.std.specs.Prelude.{◌≡◌, ◌≤ℤ◌, pos, List, [], ◌∷◌, map, true, Option, Some, None}
use Rattle.mz_value.specs.Ranges.{Range}
use Rattle.mz_interval.specs.Ends.{Ends, if_interval}
use Rattle.mz_operations.specs.Laws.{IsSet, IsPart}
use Rattle.mz_arena.specs.declared.node.NodeKind.{NodeKind}
use Rattle.mz_arena.specs.Entries.{Entry}
use Rattle.mz_arena.specs.Values as terms
use Rattle.mz_arena.specs.Values.{Val, Term}
use Rattle.mz_arena.specs.Terms.{kind_term}
use Rattle.mz_arena.specs.Extents.{Known, whole, truth, subset, kind_extent}
use Rattle.fz_program.specs.declared.row_name.Kind.{Kind}
use Rattle.fz_program.specs.declared.row_name.Kind.TheVariants.{Int, Bool as Truth, Set}
use Rattle.fz_program.specs.Arguments.{Plain}
use Rattle.fz_program.specs.Values as values
use Rattle.fz_program.specs.Values.{Value, Values}
use Rattle.fz_program.specs.Flat.{Variable, is_plain, plain_value}
use Rattle.fz_build.specs.Bounds.{ends_of, upper_of}

-- ---- values

-- a flat value as the value of a term
abbrev pub seen : Value → Val
seen (values.number n) = terms.number n
seen (values.set s) = terms.set s

abbrev pub seen_maybe : Option Value → Term
seen_maybe None = None
seen_maybe (Some x) = Some (seen x)

-- ---- bounds

-- an argument for an integer or a truth value: it has bounds in the limit, and they lie in those of its node
pub record LiesWithin (kind : Kind) (vs : List Variable) (p : Plain) (e : Ends) : Type 0 where
  pub sort : is_plain vs kind p ≡ true
  pub interval : if_interval (ends_of vs p) ≡ Some (ends_of vs p)
  pub from : e.0 ≤ℤ (ends_of vs p).0
  pub to : (ends_of vs p).1 ≤ℤ e.1

-- an argument for a set: the greatest set that it may be is part of its node's
pub record IsPartOf (vs : List Variable) (p : Plain) (u : List Range) : Type 0 where
  pub sort : is_plain vs Set p ≡ true
  pub own : IsSet (upper_of vs p)
  pub upper : IsSet u
  pub part : IsPart (upper_of vs p) u

-- An argument is of the sort of these bounds, and lies within them. A list has no argument of its own.
abbrev pub Suits : List Variable → Plain → Known → Type 0
Suits vs p (Some (whole e)) = LiesWithin Int vs p e
Suits vs p (Some (truth e)) = LiesWithin Truth vs p e
Suits vs p (Some (subset u)) = IsPartOf vs p u
Suits vs p _ = ⊥

abbrev pub AllSuit : List Variable → List Plain → List Known → Type 0
AllSuit vs [] [] = Unit {0}
AllSuit vs (p ∷ ps) (x ∷ xs) = Suits vs p x × AllSuit vs ps xs
AllSuit vs _ _ = ⊥

-- ---- a node over its children's arguments

-- some node of a kind: of a node that has children its kind alone matters
abbrev pub of_kind : NodeKind → Entry
of_kind k = record { node = record { kind = k; a = 0; b = 0; c = 0; number = pos 0 }; set = [] }

-- the bounds of a node of a kind, by its children's
abbrev pub extent_over : NodeKind → List Known → Known
extent_over k xs = kind_extent (of_kind k) k xs

-- the term of a node of a kind, by the values of its children's arguments
abbrev pub term_over : terms.Values → NodeKind → List Plain → Values → Term
term_over v k ps f = kind_term v (of_kind k) k (map (λ p. Some (seen (plain_value f p))) ps)
