-- One argument more.
use Rattle.std.proofs.Common.{◌≡◌, ℕ, zero, suc, ◌+◌, ◌<◌, ◌≤◌, Bool, true, false, List, [], ◌∷◌, ◌++◌, length, set, Option, Some, None, option_map, slice_get, ◌⊎◌, inl, inr, refl, sym, ap, ap₂, subst, ◌∙◌, arith}
use Rattle.mz_arena.specs.Entries.{Entry, at, is_local}
use Rattle.fz_program.specs.declared.program.Arg.{Arg}
use Rattle.fz_program.specs.Arguments.{Plain, plain}
use Rattle.flat_reif.specs.States.{put_at, one_choice, given_choices, plain_args}

pub put_here : (args : List (Option Plain)) (id : ℕ) (p : Plain) → at (put_at args id p) id ≡ Some p
put_here [] zero p = refl
put_here [] (suc id) p = put_here [] id p
put_here (a ∷ args) zero p = refl
put_here (a ∷ args) (suc id) p = put_here args id p

pub put_keeps : (args : List (Option Plain)) (id : ℕ) (p : Plain) (j : ℕ) (q : Plain) → at args id ≡ None → at args j ≡ Some q → at (put_at args id p) j ≡ Some q
put_keeps [] id p j q h k = absurd (cc)
put_keeps (a ∷ args) zero p zero q h k = absurd (cc)
put_keeps (a ∷ args) zero p (suc j) q h k = k
put_keeps (a ∷ args) (suc id) p zero q h k = k
put_keeps (a ∷ args) (suc id) p (suc j) q h k = put_keeps args id p j q h k

-- the place and the argument that were put
pub record IsPut (id : ℕ) (p : Plain) (j : ℕ) (q : Plain) : Type 0 where
  pub place : j ≡ id
  pub same : p ≡ q

same_plain : (p q : Plain) → Some p ≡ Some q → p ≡ q
same_plain p q h = cc

next_put : (id : ℕ) (p : Plain) (j : ℕ) (q : Plain) → IsPut id p j q → IsPut (suc id) p (suc j) q
next_put id p j q h = record { place = ap suc h.place; same = h.same }

pub put_was : (args : List (Option Plain)) (id : ℕ) (p : Plain) (j : ℕ) (q : Plain) → at (put_at args id p) j ≡ Some q → (at args j ≡ Some q) ⊎ IsPut id p j q
put_was [] zero p zero q h = inr (record { place = refl; same = same_plain p q h })
put_was [] zero p (suc j) q h = absurd (cc)
put_was [] (suc id) p zero q h = absurd (cc)
put_was [] (suc id) p (suc j) q h = elim (put_was [] id p j q h) [ inl k ↦ absurd (cc) | inr k ↦ inr (next_put id p j q k) ]
put_was (a ∷ args) zero p zero q h = inr (record { place = refl; same = same_plain p q h })
put_was (a ∷ args) zero p (suc j) q h = inl h
put_was (a ∷ args) (suc id) p zero q h = inl h
put_was (a ∷ args) (suc id) p (suc j) q h = elim (put_was args id p j q h) [ inl k ↦ inl k | inr k ↦ inr (next_put id p j q k) ]

-- ---- how many choices have an argument

no_args : (es : List Entry) → given_choices es [] ≡ 0
no_args [] = refl
no_args (e ∷ es) = refl

no_choice : (b : Bool) → one_choice b None ≡ 0
no_choice true = refl
no_choice false = refl

pub no_choice_put : (es : List Entry) (args : List (Option Plain)) (id : ℕ) (e : Entry) (p : Plain) → slice_get es id ≡ Some e → is_local e.node.kind ≡ false → given_choices es (put_at args id p) ≡ given_choices es args
no_choice_put [] args id e p h k = absurd (cc)
no_choice_put (d ∷ es) [] zero e p h k = ap₂ (λ x n. x + n) (none_here (is_local d.node.kind) (Some p) (same d e h k)) (no_args es)
  where
    none_here : (b : Bool) (a : Option Plain) → b ≡ false → one_choice b a ≡ 0
    none_here true a f = absurd (cc)
    none_here false a f = refl

    same : (x y : Entry) → Some x ≡ Some y → is_local y.node.kind ≡ false → is_local x.node.kind ≡ false
    same x y q f = subst (λ (z : Entry). is_local z.node.kind ≡ false) (sym (into x y q)) f
      where
        into : (x y : Entry) → Some x ≡ Some y → x ≡ y
        into x y q = cc
no_choice_put (d ∷ es) [] (suc id) e p h k = ap₂ (λ x n. x + n) (no_choice (is_local d.node.kind)) (no_choice_put es [] id e p h k ∙ no_args es)
no_choice_put (d ∷ es) (a ∷ args) zero e p h k = ap (λ x. x + given_choices es args) (both (is_local d.node.kind) (same d e h k))
  where
    both : (b : Bool) → b ≡ false → one_choice b (Some p) ≡ one_choice b a
    both true f = absurd (cc)
    both false f = refl

    into : (x y : Entry) → Some x ≡ Some y → x ≡ y
    into x y q = cc

    same : (x y : Entry) → Some x ≡ Some y → is_local y.node.kind ≡ false → is_local x.node.kind ≡ false
    same x y q f = subst (λ (z : Entry). is_local z.node.kind ≡ false) (sym (into x y q)) f
no_choice_put (d ∷ es) (a ∷ args) (suc id) e p h k = ap (λ n. one_choice (is_local d.node.kind) a + n) (no_choice_put es args id e p h k)

-- ---- the code's list of arguments

pub longer_put : (args : List (Option Plain)) (id : ℕ) (p : Plain) → length args ≤ id → put_at (args ++ None ∷ []) id p ≡ put_at args id p
longer_put [] zero p l = refl
longer_put [] (suc id) p l = refl
longer_put (a ∷ args) zero p l = absurd (omega (arith, l))
longer_put (a ∷ args) (suc id) p l = ap (λ xs. a ∷ xs) (longer_put args id p (omega (arith, l)))

pub set_put : (args : List (Option Arg)) (id : ℕ) (a : Arg) → id < length args → plain_args (set args id (Some a)) ≡ put_at (plain_args args) id (plain a)
set_put [] id a l = absurd (omega (arith, l))
set_put (b ∷ args) zero a l = refl
set_put (b ∷ args) (suc id) a l = ap (λ xs. option_map plain b ∷ xs) (set_put args id a (omega (arith, l)))

pub push_put : (args : List (Option Arg)) (id : ℕ) (p : Plain) → length args ≤ id → put_at (plain_args (args ++ None ∷ [])) id p ≡ put_at (plain_args args) id p
push_put [] zero p l = refl
push_put [] (suc id) p l = refl
push_put (a ∷ args) zero p l = absurd (omega (arith, l))
push_put (a ∷ args) (suc id) p l = ap (λ xs. option_map plain a ∷ xs) (push_put args id p (omega (arith, l)))

add_one : (m : ℕ) → 1 + m ≡ suc (0 + m)
add_one m = omega arith

-- a choice that had none
pub choice_put : (es : List Entry) (args : List (Option Plain)) (id : ℕ) (e : Entry) (p : Plain) → slice_get es id ≡ Some e → is_local e.node.kind ≡ true → at args id ≡ None → given_choices es (put_at args id p) ≡ suc (given_choices es args)
choice_put [] args id e p h k none = absurd (cc)
choice_put (d ∷ es) [] zero e p h k none = ap₂ (λ x n. x + n) (one_more (is_local d.node.kind) (local_here d e h k)) (no_args es)
  where
    local_here : (x y : Entry) → Some x ≡ Some y → is_local y.node.kind ≡ true → is_local x.node.kind ≡ true
    local_here x y q f = cc

    one_more : (b : Bool) → b ≡ true → one_choice b (Some p) ≡ 1
    one_more true f = refl
    one_more false f = absurd (cc)
choice_put (d ∷ es) [] (suc id) e p h k none = ap₂ (λ x n. x + n) (no_choice (is_local d.node.kind)) (choice_put es [] id e p h k refl ∙ ap suc (no_args es))
choice_put (d ∷ es) (a ∷ args) zero e p h k none = both (is_local d.node.kind) a (local_here d e h k) none
  where
    local_here : (x y : Entry) → Some x ≡ Some y → is_local y.node.kind ≡ true → is_local x.node.kind ≡ true
    local_here x y q f = cc

    both : (b : Bool) (o : Option Plain) → b ≡ true → o ≡ None → one_choice b (Some p) + given_choices es args ≡ suc (one_choice b o + given_choices es args)
    both true None f n = add_one (given_choices es args)
    both true (Some q) f n = absurd (cc)
    both false o f n = absurd (cc)
choice_put (d ∷ es) (a ∷ args) (suc id) e p h k none = ap (λ n. one_choice (is_local d.node.kind) a + n) (choice_put es args id e p h k none) ∙ omega arith
