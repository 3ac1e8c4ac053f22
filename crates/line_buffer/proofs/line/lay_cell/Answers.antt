use Rattle.std.proofs.Common.{◌-◌, ◌<◌, ◌≤◌, length, sym, ap, ◌∙◌, arith}
use Rattle.line_buffer.specs.Lines.{only_at, laid}
use Rattle.line_buffer.proofs.Laid.{laid_one, laid_one_outside, laid_one_none}
use Rattle.line_buffer.proofs.line.lay_cell.Goals as goal
use Rattle.line_buffer.proofs.line.lay_cell.Goals.{else-at-address-via-then-at-address+else-address-at, else-at-address-via-else-at-address}

pub returns-then-address-at : goal.returns-then-address-at
returns-then-address-at c =
    laid_one c.args.at c.args.address c.in-Some.b c.args.out.now c.if-at-address.true c.if-address-at.true
    ∙ ap (λ v. laid c.args.at (only_at c.args.address v) c.args.out.now) (sym c.in-Some.is)

pub returns-else-at-address : goal.returns-else-at-address
returns-else-at-address c =
    let past : c.args.at ≤ c.args.address → c.args.address - c.args.at < length c.args.out.now → ⊥ =
    λ a b.
    elim c.else-at-address.branch [
      | else-at-address-via-then-at-address+else-address-at w ↦ omega (arith, w.if-address-at.false)
      | else-at-address-via-else-at-address w ↦ omega (arith, w.if-at-address.false)
    ] in
    laid_one_outside c.args.at c.args.address c.args.cell c.args.out.now past

pub returns-in_default : goal.returns-in_default
returns-in_default c =
    laid_one_none c.args.at c.args.address c.args.out.now
    ∙ ap (λ v. laid c.args.at (only_at c.args.address v) c.args.out.now) (sym c.in_default.is)
