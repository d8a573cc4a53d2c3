use Rattle.builtin_sizes.proofs.SizeSteps.{no_text}
use Rattle.builtin_sizes.proofs.size.plain.Goals as goal

pub returns-in_default : goal.returns-in_default
returns-in_default c = no_text c.args.which c.args.args.now c.in_default.not-Text c.in_default.not-Texts c.in_default.not-TextAt c.in_default.not-SubstringTo c.in_default.not-Mid c.in_default.not-Replace c.in_default.not-Decimal
