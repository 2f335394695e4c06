use Rattle.std.proofs.Common.{sym, subst, inl, inr}
use Rattle.site_drive.proofs.Results.{err_gives}
use Rattle.server.specs.Running.{EndsBefore}
use Rattle.server.proofs.engine.open.Goals as goal

pub returns-in_err-shell-clause-err : goal.returns-in_err-shell-clause-err
returns-in_err-shell-clause-err g c = err_gives c.from_residual-in_err-shell.result c.from_residual-in_err-shell.ensures.1 λ e is.
    subst (EndsBefore c.args.options.now) (sym is) (inr (inl (c.in_ok-addresses.ensures.ok.0, inr (inl c.in_err-shell.ensures))))
