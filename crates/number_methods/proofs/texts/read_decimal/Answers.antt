use Rattle.std.proofs.Common.{◌∙◌, subst}
use Rattle.apex_num.specs.Decimals.{Reads}
use Rattle.number_methods.proofs.Read.{decimal_answer}
use Rattle.number_methods.proofs.texts.read_decimal.Goals as goal

pub returns : goal.returns
returns c = c.ok.ensures.value ∙ decimal_answer c.args.text.now c.read_dec.result (subst (λ t. Reads t c.read_dec.result) c.as_bytes.ensures.value c.read_dec.ensures.reads)
