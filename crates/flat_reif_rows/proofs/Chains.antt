-- Programs that grow in several steps.
use Rattle.std.proofs.Common.{◌≡◌, ℕ, zero, suc, ◌<◌, ◌≤◌, pos, true, List, [], ◌∷◌, ◌++◌, length, take, slice_index_or, refl, sym, ap, subst, ◌∙◌, arith}
use Rattle.fz_program.specs.declared.row_name.Kind.{Kind}
use Rattle.fz_program.specs.Arguments.{Plain, bool, int, set, var, nested}
use Rattle.fz_program.specs.Values as values
use Rattle.fz_program.specs.Values.{Value, Values}
use Rattle.fz_program.specs.Flat.{Variable, Program, FlatSolves, plain_value, is_plain}
use Rattle.fz_build.specs.Build.{IsOver}
use Rattle.fz_build.specs.Growth.{AreKept, Grows}
use Rattle.fz_build.proofs.Wider.{variable_there}
use Rattle.flat_reif_rows.specs.Making.{GoesOnMade}

take_fewer : {A : Type 0} (xs : List A) (m n : ℕ) → m ≤ n → take m (take n xs) ≡ take m xs
take_fewer xs zero n l = refl
take_fewer xs (suc m) zero l = absurd (omega (arith, l))
take_fewer [] (suc m) (suc n) l = refl
take_fewer (x ∷ xs) (suc m) (suc n) l = ap (λ ys. x ∷ ys) (take_fewer xs m n (omega (arith, l)))

pub all_in_turn : {A : Type 0} (xs ys zs : List A) → (xs ++ ys) ++ zs ≡ xs ++ (ys ++ zs)
all_in_turn [] ys zs = refl
all_in_turn (x ∷ xs) ys zs = ap (λ us. x ∷ us) (all_in_turn xs ys zs)

pub kept_twice : (us vs ws : List Variable) → AreKept us vs → AreKept vs ws → AreKept us ws
kept_twice us vs ws g h = λ k v s. h k v (g k v s)

pub made_twice : (p q r : Program) → GoesOnMade p q → GoesOnMade q r → GoesOnMade p r
made_twice p q r g h = λ front n made. h front n (g front n made)

-- two steps: `Can` of a solution of the first program gives what each step asks
pub grows_twice : (p q r : Program) (C D Can : Values → Type 0) → Grows p q C → Grows q r D → ((f : Values) → FlatSolves p f → Can f → C f) → ((f : Values) → FlatSolves q f → D f) → Grows p r Can
grows_twice p q r C D Can g h first second =
    let m = length p.vars in
    let n = length q.vars in
    record {
      longer = omega (arith, g.longer, h.longer);
      kept = kept_twice p.vars q.vars r.vars g.kept h.kept;
      down = λ f s. subst (FlatSolves p) (take_fewer f m n g.longer) (g.down (take n f) (h.down f s));
      up = λ f s can.
          let x = g.up f s (first f s can) in
          let y = h.up (f ++ x.rest) x.solves (second (f ++ x.rest) x.solves) in
          record { rest = x.rest ++ y.rest; solves = subst (FlatSolves r) (all_in_turn f x.rest y.rest) y.solves };
      one = λ f k s t e. h.one f k s t (g.one (take n f) (take n k) (h.down f s) (h.down k t) (take_fewer f m n g.longer ∙ e ∙ sym (take_fewer k m n g.longer)));
    }

-- ---- an argument's value stays where more variables stand behind the old ones

taken : (n : ℕ) (f : Values) (k : ℕ) (d : Value) → k < n → slice_index_or (take n f) k d ≡ slice_index_or f k d
taken zero f k d l = absurd (omega (arith, l))
taken (suc n) [] k d l = refl
taken (suc n) (x ∷ f) zero d l = refl
taken (suc n) (x ∷ f) (suc k) d l = taken n f k d (omega (arith, l))

pub plain_taken : (n : ℕ) (f : Values) (p : Plain) → IsOver n p → plain_value (take n f) p ≡ plain_value f p
plain_taken n f (var k) h = taken n f k (values.number (pos 0)) h
plain_taken n f (bool b) h = refl
plain_taken n f (int i) h = refl
plain_taken n f (set s) h = refl
plain_taken n f nested h = refl

pub plain_over : (vs : List Variable) (kind : Kind) (p : Plain) → is_plain vs kind p ≡ true → IsOver (length vs) p
unfolding is_plain
plain_over vs kind (var k) h = variable_there vs kind k h
plain_over vs kind (bool b) h = tt
plain_over vs kind (int i) h = tt
plain_over vs kind (set s) h = tt
plain_over vs kind nested h = tt

pub over_more : (m n : ℕ) (p : Plain) → m ≤ n → IsOver m p → IsOver n p
over_more m n (var k) l h = omega (arith, l, h)
over_more m n (bool b) l h = tt
over_more m n (int i) l h = tt
over_more m n (set s) l h = tt
over_more m n nested l h = tt
