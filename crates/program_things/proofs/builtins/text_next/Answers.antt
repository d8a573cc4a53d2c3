use Rattle.std.proofs.Common.{◌+◌, Some, None, length, subst}
use Rattle.apex_num.specs.declared.kind.LimitKind.TheVariants.{Alloc}
use Rattle.program_things.specs.Steps.{Charges, ChargesSize}
use Rattle.program_things.proofs.Called.{renamed}
use Rattle.program_things.proofs.Charged.{charged_over}
use Rattle.program_things.proofs.Made.{text_behind}
use Rattle.program_things.proofs.builtins.text_next.Goals as goal

pub returns-in-Some : goal.returns-in-Some
returns-in-Some c =
    charged_over Alloc (16 + length c.args.text) c.args.c.now _ c.in-Some.moved c.charge_sized.new.c
    (subst (λ n. Charges Alloc (16 + n) c.args.c.now (Some c.in-Some.moved) c.charge_sized.new.c) c.bytes_in-size.ensures (subst (λ r. ChargesSize (Some c.bytes_in-size.result) c.args.c.now r c.charge_sized.new.c) c.in-Some.is c.charge_sized.ensures))

pub returns-in-None : goal.returns-in-None
returns-in-None c =
    let e = c.charge_sized.new.c in
    renamed c.next_with.result _ _ c.next_with.new.c
    (text_behind c.args.text c.args.c.now e
    (subst (λ n. Charges Alloc (16 + n) c.args.c.now None e) c.bytes_in-size.ensures (subst (λ r. ChargesSize (Some c.bytes_in-size.result) c.args.c.now r e) c.in-None.is c.charge_sized.ensures))) c.next_with.ensures
