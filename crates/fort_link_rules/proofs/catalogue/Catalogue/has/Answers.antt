use Rattle.std.proofs.Common.{ℕ, ◌≡◌, ◌+◌, ◌-◌, ◌<◌, List, length, get_or, refl, sym, ap, subst, arith}
use Rattle.std.proofs.lemmas.Bool.{false≢true}
use Rattle.fort_link_rules.specs.declared.signatures.Signature.{Signature}
use Rattle.fort_link_rules.proofs.Chains.{Passed, passed_first, passed_more, passed_smaller, passed_all, found_at, not_found_at}
use Rattle.fort_link_rules.proofs.catalogue.Catalogue.has.Goals as goal

pub back-init : goal.back-init
back-init c =
    subst (Passed c.args.self.now.signatures c.args.wanted.now) (sym c.get-at.ensures)
    (passed_first c.args.self.now c.args.wanted.now c.requires)

pub back-preserved : goal.back-preserved
back-preserved c =
    let below : c.back.at ≡ (c.back.at - 1) + 1 = omega arith in
    let all = ap (λ (xs : List Signature). length xs) c.as_slice-signatures.ensures in
    let inside : c.back.at - 1 < length c.as_slice-signatures.result.now =
    (let w = c.back.invariant.within in omega arith) in
    passed_more c.args.self.now c.args.wanted.now c.back.at (c.back.at - 1) _ c.requires
    c.back.invariant below
    (ap (λ (xs : List ℕ). get_or xs (c.back.at - 1) 0) c.as_slice-before.ensures)
    (not_found_at c.args.self.now.signatures c.as_slice-signatures.result.now c.args.wanted.now
    c.index-signatures-at.result (c.back.at - 1) c.as_slice-signatures.ensures inside
    c.index-signatures-at.is (λ e. false≢true (c.if-found.ensures.1 e)))

pub back-smaller : goal.back-smaller
back-smaller c =
    let below : c.back.at ≡ (c.back.at - 1) + 1 = omega arith in
    passed_smaller c.args.self.now c.args.wanted.now c.back.at (c.back.at - 1) _ c.requires
    c.back.invariant below
    (ap (λ (xs : List ℕ). get_or xs (c.back.at - 1) 0) c.as_slice-before.ensures)

pub returns-then-found : goal.returns-then-found
returns-then-found c =
    let all = ap (λ (xs : List Signature). length xs) c.as_slice-signatures.ensures in
    let inside : c.back.at - 1 < length c.as_slice-signatures.result.now =
    (let w = c.back.invariant.within in omega arith) in (
      λ t. found_at c.args.self.now.signatures c.as_slice-signatures.result.now c.args.wanted.now
          c.index-signatures-at.result (c.back.at - 1) c.as_slice-signatures.ensures inside
          c.index-signatures-at.is (c.if-found.ensures.0 refl),
      λ w. refl,
    )

pub returns : goal.returns
returns c = (
  λ t. absurd (false≢true t),
  λ w. absurd (passed_all c.args.self.now.signatures
      c.args.wanted.now c.back.at c.back-test.false c.back.invariant w),
)
