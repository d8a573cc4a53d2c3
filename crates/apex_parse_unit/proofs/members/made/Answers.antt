use Rattle.std.proofs.Common.{sym, ap, ◌∙◌}
use Rattle.apex_syntax.specs.declared.unit.MemberTree.TheVariants.{Field, Property, Method}
use Rattle.token_grammar.proofs.Chain.{given}
use Rattle.apex_parse_unit.specs.Members.{member_tree}
use Rattle.apex_parse_unit.proofs.members.made.Goals as goal

pub returns-in-Field : goal.returns-in-Field
returns-in-Field c = λ ts. given (ap (λ k. Field c.args.span c.args.modifiers k c.in-Field.name c.in-Field.value) c.into_value-kind.ensures ∙ sym (ap (member_tree c.args.span c.args.modifiers) (sym c.into_value.ensures ∙ c.in-Field.is))) c.boxed.ensures

pub returns-in-Property : goal.returns-in-Property
returns-in-Property c = λ ts. given (ap (λ k. Property c.args.span c.args.modifiers k c.in-Property.name) c.into_value-written.ensures ∙ sym (ap (member_tree c.args.span c.args.modifiers) (sym c.into_value.ensures ∙ c.in-Property.is))) c.boxed-in-Property.ensures

pub returns-in-Method : goal.returns-in-Method
returns-in-Method c = λ ts. given (ap (λ r. Method c.args.span c.args.modifiers r c.in-Method.name c.in-Method.params c.in-Method.body) c.into_value-answer.ensures ∙ sym (ap (member_tree c.args.span c.args.modifiers) (sym c.into_value.ensures ∙ c.in-Method.is))) c.boxed-in-Method.ensures

pub returns-in-Constructor : goal.returns-in-Constructor
returns-in-Constructor c = λ ts. given (sym (ap (member_tree c.args.span c.args.modifiers) (sym c.into_value.ensures ∙ c.in-Constructor.is))) c.boxed-in-Constructor.ensures
