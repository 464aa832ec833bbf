use Rattle.std.proofs.Common.{sym}
use Rattle.address.proofs.Shapes.{base_shape, refused_shape}
use Rattle.address.proofs.base.Base.fill.Goals as goal

pub returns-then-not-is_base-clause-shaped : goal.returns-then-not-is_base-clause-shaped
returns-then-not-is_base-clause-shaped c = refused_shape c.args.bytes.now (sym c.if-not-is_base.ensures)

pub returns-clause-shaped : goal.returns-clause-shaped
returns-clause-shaped c = base_shape c.args.bytes.now (sym c.if-not-is_base.ensures)
