use Rattle.std.proofs.Common.{◌≡◌, suc, ◌+◌, ◌∙◌, ap, subst, length, take, length-append, inl, arith}
use Rattle.site_drive.proofs.Results.{err_gives}
use Rattle.server.specs.Placing.{AreAddresses}
use Rattle.server.proofs.Placed.{in_at, next_address, all_addresses}
use Rattle.server.proofs.addresses.all.Goals as goal

pub returns-in_err-address-clause-bad : goal.returns-in_err-address-clause-bad
returns-in_err-address-clause-bad c = err_gives c.from_residual-in_err-address.result c.from_residual-in_err-address.ensures.1 λ e is.
    inl (is ∙ c.in_err-address.ensures.bad.0, λ each. c.in_err-address.ensures.bad.1 (each _ (in_at c.args.texts.now c.loop-text.text-index _ c.loop-text-test.true)))

pub loop-text-preserved : goal.loop-text-preserved
loop-text-preserved c =
    let i = c.loop-text.text-index in
    let texts = c.args.texts.now in
    let next : suc i ≡ i + 1 = omega arith in (
      ap length c.in-Ok.ensures.items ∙ (length-append c.loop-text.found.items _ ∙ ap (λ n. n + 1) c.loop-text.invariant.0),
      subst (λ n. AreAddresses (take n texts) (λ t. t.now)) next (next_address (λ t. t.now) texts i _ c.loop-text-test.true c.loop-text.invariant.1 c.in_ok-address.ensures.ok),
    )

pub returns-clause-ok : goal.returns-clause-ok
returns-clause-ok c = (
  omega (arith, c.loop-text.invariant.0, c.loop-text-test.false, c.loop-text.auto.text-index-end),
  all_addresses (λ t. t.now) c.args.texts.now c.loop-text.text-index c.loop-text-test.false c.loop-text.invariant.1,
)
