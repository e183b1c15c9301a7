use native.Mathlib.Omega.{arith}
use borrow.Author.Rules.{rules}
use Rattle.keys.proofs.PrefixLaws.{shared_fits, shared_fits_too, pass_shared}
use Rattle.keys.proofs.compare.pass_wide.Statement.{statement}
use Rattle.keys.proofs.compare.pass_wide.Tie as tie

pub pass_wide_spec : {M : Type 1} → statement M
pass_wide_spec =
    tie.close
    (tie.spec
    (λ c. search rules)
    (λ c. search rules)
    (λ c κs. search rules)
    (λ c. search rules)
    (λ c. search rules)
    (λ c. search rules)
    (λ c. search rules)
    (λ c. search rules)
    (λ c. search rules)
    (λ c. search rules)
    (λ c κs. search rules)
    (λ c κs. search rules)
    (λ c. search rules)
    (λ c. omega (arith, shared_fits c.args.caseless c.args.a.now c.args.b.now c.args.i c.args.j _ c.shared-n.ensures c.if-n-eq0.false c.requires.0))
    (λ c. omega (arith, shared_fits_too c.args.caseless c.args.a.now c.args.b.now c.args.i c.args.j _ c.shared-n.ensures c.if-n-eq0.false c.requires.1))
    (λ c. pass_shared c.args.caseless c.args.a.now c.args.b.now c.args.i c.args.j _ c.shared-n.ensures c.if-n-eq0.false))
