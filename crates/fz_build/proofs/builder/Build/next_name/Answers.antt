use Rattle.std.proofs.Common.{◌≡◌, ap, ◌∙◌, string_bytes}
use Rattle.fz_program.specs.Flat.{Program}
use Rattle.fz_build.specs.Naming.{introduced_name, next_number}
use Rattle.fz_build.proofs.Lists.{if_ok_weaker}
use Rattle.fz_build.proofs.builder.Build.next_name.Goals as goal

pub returns : goal.returns
returns c =
    let number = c.self.invariant.1 ∙ ap (λ (p : Program). next_number p.vars) c.self.view_is in
    if_ok_weaker c.introduced_name.result (λ n. string_bytes n.text ≡ introduced_name c.self.inside.next) (λ n. string_bytes n.text ≡ introduced_name (next_number c.args.self.now.vars)) (λ n e. e ∙ ap introduced_name number) c.introduced_name.ensures
