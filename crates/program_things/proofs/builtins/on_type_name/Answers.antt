use Rattle.std.proofs.Common.{sym, ap, subst, ◌∙◌}
use Rattle.apex_meaning.specs.Exceptions.{BuiltIn, Declared, Nothing, kind_of_thing}
use Rattle.stack_code.specs.Things.{name_of_kind, text_next}
use Rattle.program_things.specs.Kinds.{as_kind}
use Rattle.program_things.specs.Steps.{IsStep}
use Rattle.program_things.proofs.Called.{renamed}
use Rattle.program_things.proofs.Made.{kind_built_in, kind_declared, kind_none}
use Rattle.program_things.proofs.builtins.on_type_name.Goals as goal

pub returns-in-Nothing : goal.returns-in-Nothing
returns-in-Nothing c =
    subst (λ x. IsStep x c.raise.result c.raise.new.c)
    (sym (kind_none c.args.on.now c.args.c.now (λ t. text_next (name_of_kind c.args.image.now (kind_of_thing t)) c.args.c.now c.args.c.now.top.stack) (sym (ap as_kind c.in-Nothing.is) ∙ c.kind_named.ensures))) c.raise.ensures

pub returns-in-BuiltIn : goal.returns-in-BuiltIn
returns-in-BuiltIn c =
    renamed c.name_next.result _ _ c.name_next.new.c
    (kind_built_in c.args.on.now c.args.c.now c.in-BuiltIn.class (λ k. text_next (name_of_kind c.args.image.now k) c.args.c.now c.args.c.now.top.stack) (sym (ap as_kind c.in-BuiltIn.is) ∙ c.kind_named.ensures)) c.name_next.ensures

pub returns-in-Declared : goal.returns-in-Declared
returns-in-Declared c =
    renamed c.name_next-in-Declared.result _ _ c.name_next-in-Declared.new.c
    (kind_declared c.args.on.now c.args.c.now c.in-Declared.class (λ k. text_next (name_of_kind c.args.image.now k) c.args.c.now c.args.c.now.top.stack) (sym (ap as_kind c.in-Declared.is) ∙ c.kind_named.ensures)) c.name_next-in-Declared.ensures
