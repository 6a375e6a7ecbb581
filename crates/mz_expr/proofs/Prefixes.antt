-- From what is read to what is promised of it.
use Rattle.std.proofs.Common.{◌≡◌, ℕ, List, subst, true, Result, Bool}
use Rattle.std.specs.Prelude.{Ok, Err}
use Rattle.mz_base.specs.declared.fault.Span.{Span}
use Rattle.mz_base.specs.declared.stop.Stop.{Stop}
use Rattle.mz_base.specs.declared.stop.Stop.TheVariants.{Refused, Memory}
use Rattle.mz_lexer.specs.declared.token.Token.{Token}
use Rattle.mz_grammar.specs.RulesPromise.{Gives, Answers}
use Rattle.mz_grammar.specs.Parts.{Place, Value, annotations}
use Rattle.mz_grammar.specs.Model.{rule}
use Rattle.mz_grammar.specs.Reading.{reads}
use Rattle.mz_grammar.proofs.Viability.{may_be_last, answers}
use Rattle.mz_expr.specs.Prefix.{PassesAnnotations}

pub prefix : {X : Type 0} (n : Place) (view : X → Value n) (room : ℕ) (end now : Span) (old new : List Token) (result : Result X Stop) → may_be_last n ≡ true → now ≡ end → Gives view now new result (reads n room old) → Answers rule n view room end old new result
prefix n view room end now old new result may same g = answers n view room end old new result may (subst (λ e. Gives view e new result (reads n room old)) same g)

pub passed : (room : ℕ) (end : Span) (old new : List Token) (result : Result Bool Stop) (b : Bool) → result ≡ Ok b → Answers rule annotations (λ x. x) room end old new result → PassesAnnotations room end old new (Ok tt)
passed room end old new result b is h = go (subst (λ r. Answers rule annotations (λ x. x) room end old new r) is h)
  where
    go : Answers rule annotations (λ x. x) room end old new (Ok b) → PassesAnnotations room end old new (Ok tt)
    go g = (b, g)

abbrev the_err : Stop → Result Bool Stop
the_err s = Err s

same_stop : (room : ℕ) (end : Span) (old new : List Token) (result : Result Bool Stop) (stop : Stop) → Answers rule annotations (λ x. x) room end old new result → result ≡ Err stop → PassesAnnotations room end old new (Err stop)
same_stop room end old new (Ok b) stop h is = cc
same_stop room end old new (Err Memory) stop h is = subst (λ s. PassesAnnotations room end old new (Err s)) (err_same is) tt
  where
    err_same : the_err Memory ≡ the_err stop → Memory ≡ stop
    err_same e = cc
same_stop room end old new (Err (Refused f)) stop h is = subst (λ s. PassesAnnotations room end old new (Err s)) (err_same is) h
  where
    err_same : the_err (Refused f) ≡ the_err stop → Refused f ≡ stop
    err_same e = cc

pub stopped : (room : ℕ) (end : Span) (old new : List Token) (result : Result Bool Stop) (stop : Stop) → result ≡ Err stop → Answers rule annotations (λ x. x) room end old new result → PassesAnnotations room end old new (Err stop)
stopped room end old new result stop is h = same_stop room end old new result stop h is
