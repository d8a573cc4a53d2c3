-- What is said of small schemas, worked out by hand.
use Rattle.std.proofs.Common.{◌≡◌, true, false, [], ◌∷◌, codes, Some, None, refl}
use Rattle.schema_plans.specs.declared.plan.PlanKind.TheVariants as Kind
use Rattle.schema_plans.specs.declared.plan.PlanLength.TheVariants.{Whole, Other}
use Rattle.apex_schema.specs.declared.schema.Access.TheVariants.{Edit}
use Rattle.apex_schema.specs.declared.schema.RollupBy.TheVariants.{Count, Sum}
use Rattle.apex_schema.specs.declared.schema.FieldKind.TheVariants as Made
use Rattle.fault_words.specs.declared.fault.FaultWord.TheVariants.{Duplicate, BadName, BadPrefix, UnknownRole, RoleLoop, UnknownObject, TooManyMasters, MasterLoop, BadLength, BadRollup}
use Rattle.schema_names.specs.Names.{is_bad_name}
use Rattle.schema_plans.specs.Plans.{schema_fault}
use Rattle.schema_plans.specs.Schemas.{field_of}

-- ---- names

good_name : is_bad_name (codes "Invoice__c") ≡ false
good_name = refl

begins_with_a_digit : is_bad_name (codes "1a") ≡ true
begins_with_a_digit = refl

begins_with_a_line : is_bad_name (codes "_a") ≡ true
begins_with_a_line = refl

empty_name : is_bad_name [] ≡ true
empty_name = refl

keyword_in_any_case : is_bad_name (codes "Class") ≡ true
keyword_in_any_case = refl

word_of_queries : is_bad_name (codes "select") ≡ false
word_of_queries = refl

-- ---- plans

empty_plan : schema_fault (record { roles = []; users = []; objects = [] }) ≡ None
empty_plan = refl

role_twice : schema_fault (record { roles = record { name = codes "head"; parent = None } ∷ record { name = codes "Head"; parent = None } ∷ []; users = []; objects = [] }) ≡ Some (record { place = codes "schema Head"; word = Duplicate })
role_twice = refl

role_above_itself : schema_fault (record { roles = record { name = codes "a"; parent = (Some (codes "a")) } ∷ []; users = []; objects = [] }) ≡ Some (record { place = codes "schema a"; word = RoleLoop })
role_above_itself = refl

role_below_a_loop : schema_fault (record { roles = record { name = codes "a"; parent = (Some (codes "b")) } ∷ record { name = codes "b"; parent = (Some (codes "c")) } ∷ record { name = codes "c"; parent = (Some (codes "b")) } ∷ []; users = []; objects = [] }) ≡ Some (record { place = codes "schema a"; word = RoleLoop })
role_below_a_loop = refl

role_chain : schema_fault (record { roles = record { name = codes "a"; parent = (Some (codes "b")) } ∷ record { name = codes "b"; parent = (Some (codes "C")) } ∷ record { name = codes "c"; parent = None } ∷ []; users = []; objects = [] }) ≡ None
role_chain = refl

role_of_no_name : schema_fault (record { roles = record { name = codes "a"; parent = (Some (codes "b")) } ∷ []; users = []; objects = [] }) ≡ Some (record { place = codes "schema a"; word = UnknownRole })
role_of_no_name = refl

user_of_no_role : schema_fault (record { roles = record { name = codes "a"; parent = None } ∷ []; users = record { name = codes "ann"; role = (Some (codes "A")) } ∷ record { name = codes "bob"; role = (Some (codes "b")) } ∷ []; objects = [] }) ≡ Some (record { place = codes "schema bob"; word = UnknownRole })
user_of_no_role = refl

user_twice : schema_fault (record { roles = []; users = record { name = codes "ann"; role = None } ∷ record { name = codes "ann"; role = None } ∷ []; objects = [] }) ≡ Some (record { place = codes "schema ann"; word = Duplicate })
user_twice = refl

object_twice : schema_fault (record { roles = []; users = []; objects = record { name = codes "Account"; prefix = codes "001"; default = Edit; fields = []; rules = [] } ∷ record { name = codes "ACCOUNT"; prefix = codes "002"; default = Edit; fields = []; rules = [] } ∷ [] }) ≡ Some (record { place = codes "schema ACCOUNT"; word = Duplicate })
object_twice = refl

object_of_the_platform : schema_fault (record { roles = []; users = []; objects = record { name = codes "RowShare"; prefix = codes "001"; default = Edit; fields = []; rules = [] } ∷ [] }) ≡ Some (record { place = codes "schema RowShare"; word = Duplicate })
object_of_the_platform = refl

object_with_a_keyword : schema_fault (record { roles = []; users = []; objects = record { name = codes "Class"; prefix = codes "001"; default = Edit; fields = []; rules = [] } ∷ [] }) ≡ Some (record { place = codes "schema Class"; word = BadName })
object_with_a_keyword = refl

prefix_of_users : schema_fault (record { roles = []; users = []; objects = record { name = codes "A"; prefix = codes "005"; default = Edit; fields = []; rules = [] } ∷ [] }) ≡ Some (record { place = codes "schema A"; word = BadPrefix })
prefix_of_users = refl

prefix_twice : schema_fault (record { roles = []; users = []; objects = record { name = codes "Account"; prefix = codes "001"; default = Edit; fields = []; rules = [] } ∷ record { name = codes "B"; prefix = codes "001"; default = Edit; fields = []; rules = [] } ∷ [] }) ≡ Some (record { place = codes "schema B"; word = BadPrefix })
prefix_twice = refl

prefix_of_another_case : schema_fault (record { roles = []; users = []; objects = record { name = codes "A"; prefix = codes "a01"; default = Edit; fields = []; rules = [] } ∷ record { name = codes "B"; prefix = codes "A01"; default = Edit; fields = []; rules = [] } ∷ [] }) ≡ None
prefix_of_another_case = refl

prefix_too_long : schema_fault (record { roles = []; users = []; objects = record { name = codes "A"; prefix = codes "0011"; default = Edit; fields = []; rules = [] } ∷ [] }) ≡ Some (record { place = codes "schema A"; word = BadPrefix })
prefix_too_long = refl

field_id : schema_fault (record { roles = []; users = []; objects = record { name = codes "Account"; prefix = codes "001"; default = Edit; fields = record { name = codes "ID"; kind = Kind.Text; length = None; required = false; to = None; relation = None; children = None; of = None; by = None; field = None } ∷ []; rules = [] } ∷ [] }) ≡ Some (record { place = codes "schema Account.ID"; word = Duplicate })
field_id = refl

field_twice : schema_fault (record { roles = []; users = []; objects = record { name = codes "Account"; prefix = codes "001"; default = Edit; fields = record { name = codes "a"; kind = Kind.Text; length = None; required = false; to = None; relation = None; children = None; of = None; by = None; field = None } ∷ record { name = codes "A"; kind = Kind.Number; length = None; required = false; to = None; relation = None; children = None; of = None; by = None; field = None } ∷ []; rules = [] } ∷ [] }) ≡ Some (record { place = codes "schema Account.A"; word = Duplicate })
field_twice = refl

length_of_nothing : schema_fault (record { roles = []; users = []; objects = record { name = codes "Account"; prefix = codes "001"; default = Edit; fields = record { name = codes "a"; kind = Kind.Text; length = (Some (Whole 0)); required = false; to = None; relation = None; children = None; of = None; by = None; field = None } ∷ []; rules = [] } ∷ [] }) ≡ Some (record { place = codes "schema Account.a"; word = BadLength })
length_of_nothing = refl

length_too_great : schema_fault (record { roles = []; users = []; objects = record { name = codes "Account"; prefix = codes "001"; default = Edit; fields = record { name = codes "a"; kind = Kind.Text; length = (Some (Whole 100001)); required = false; to = None; relation = None; children = None; of = None; by = None; field = None } ∷ []; rules = [] } ∷ [] }) ≡ Some (record { place = codes "schema Account.a"; word = BadLength })
length_too_great = refl

length_not_whole : schema_fault (record { roles = []; users = []; objects = record { name = codes "Account"; prefix = codes "001"; default = Edit; fields = record { name = codes "a"; kind = Kind.Text; length = (Some Other); required = false; to = None; relation = None; children = None; of = None; by = None; field = None } ∷ []; rules = [] } ∷ [] }) ≡ Some (record { place = codes "schema Account.a"; word = BadLength })
length_not_whole = refl

length_of_a_number : schema_fault (record { roles = []; users = []; objects = record { name = codes "Account"; prefix = codes "001"; default = Edit; fields = record { name = codes "a"; kind = Kind.Number; length = (Some Other); required = false; to = None; relation = None; children = None; of = None; by = None; field = None } ∷ []; rules = [] } ∷ [] }) ≡ None
length_of_a_number = refl

link_to_nothing : schema_fault (record { roles = []; users = []; objects = record { name = codes "Account"; prefix = codes "001"; default = Edit; fields = record { name = codes "a"; kind = Kind.Lookup; length = None; required = false; to = (Some (codes "B")); relation = (Some (codes "r")); children = (Some (codes "c")); of = None; by = None; field = None } ∷ []; rules = [] } ∷ [] }) ≡ Some (record { place = codes "schema Account.a"; word = UnknownObject })
link_to_nothing = refl

link_without_words : schema_fault (record { roles = []; users = []; objects = record { name = codes "Account"; prefix = codes "001"; default = Edit; fields = record { name = codes "a"; kind = Kind.Lookup; length = None; required = false; to = (Some (codes "Account")); relation = None; children = None; of = None; by = None; field = None } ∷ []; rules = [] } ∷ [] }) ≡ Some (record { place = codes "schema Account.a"; word = BadName })
link_without_words = refl

relation_is_its_field : schema_fault (record { roles = []; users = []; objects = record { name = codes "Account"; prefix = codes "001"; default = Edit; fields = record { name = codes "a"; kind = Kind.Lookup; length = None; required = false; to = (Some (codes "Account")); relation = (Some (codes "A")); children = (Some (codes "c")); of = None; by = None; field = None } ∷ []; rules = [] } ∷ [] }) ≡ Some (record { place = codes "schema Account.a"; word = Duplicate })
relation_is_its_field = refl

relation_is_a_later_field : schema_fault (record { roles = []; users = []; objects = record { name = codes "Account"; prefix = codes "001"; default = Edit; fields = record { name = codes "a"; kind = Kind.Lookup; length = None; required = false; to = (Some (codes "Account")); relation = (Some (codes "r")); children = (Some (codes "c")); of = None; by = None; field = None } ∷ record { name = codes "R"; kind = Kind.Text; length = None; required = false; to = None; relation = None; children = None; of = None; by = None; field = None } ∷ []; rules = [] } ∷ [] }) ≡ Some (record { place = codes "schema Account.R"; word = Duplicate })
relation_is_a_later_field = refl

children_is_a_field : schema_fault (record { roles = []; users = []; objects = record { name = codes "Account"; prefix = codes "001"; default = Edit; fields = record { name = codes "n"; kind = Kind.Text; length = None; required = false; to = None; relation = None; children = None; of = None; by = None; field = None } ∷ record { name = codes "a"; kind = Kind.Lookup; length = None; required = false; to = (Some (codes "Account")); relation = (Some (codes "r")); children = (Some (codes "N")); of = None; by = None; field = None } ∷ []; rules = [] } ∷ [] }) ≡ Some (record { place = codes "schema Account.a"; word = Duplicate })
children_is_a_field = refl

children_twice : schema_fault (record { roles = []; users = []; objects = record { name = codes "Account"; prefix = codes "001"; default = Edit; fields = record { name = codes "a"; kind = Kind.Lookup; length = None; required = false; to = (Some (codes "Account")); relation = (Some (codes "r")); children = (Some (codes "c")); of = None; by = None; field = None } ∷ []; rules = [] } ∷ record { name = codes "B"; prefix = codes "002"; default = Edit; fields = record { name = codes "b"; kind = Kind.Lookup; length = None; required = false; to = (Some (codes "account")); relation = (Some (codes "r")); children = (Some (codes "C")); of = None; by = None; field = None } ∷ []; rules = [] } ∷ [] }) ≡ Some (record { place = codes "schema B.b"; word = Duplicate })
children_twice = refl

link_to_row_share : schema_fault (record { roles = []; users = []; objects = record { name = codes "Account"; prefix = codes "001"; default = Edit; fields = record { name = codes "a"; kind = Kind.Lookup; length = None; required = false; to = (Some (codes "RowShare")); relation = (Some (codes "r")); children = (Some (codes "c")); of = None; by = None; field = None } ∷ []; rules = [] } ∷ [] }) ≡ None
link_to_row_share = refl

children_of_row_share : schema_fault (record { roles = []; users = []; objects = record { name = codes "Account"; prefix = codes "001"; default = Edit; fields = record { name = codes "a"; kind = Kind.Lookup; length = None; required = false; to = (Some (codes "RowShare")); relation = (Some (codes "r")); children = (Some (codes "Level")); of = None; by = None; field = None } ∷ []; rules = [] } ∷ [] }) ≡ Some (record { place = codes "schema Account.a"; word = Duplicate })
children_of_row_share = refl

two_masters : schema_fault (record { roles = []; users = []; objects = record { name = codes "Account"; prefix = codes "001"; default = Edit; fields = []; rules = [] } ∷ record { name = codes "B"; prefix = codes "002"; default = Edit; fields = record { name = codes "a"; kind = Kind.MasterDetail; length = None; required = false; to = (Some (codes "Account")); relation = (Some (codes "r")); children = (Some (codes "c")); of = None; by = None; field = None } ∷ record { name = codes "b"; kind = Kind.MasterDetail; length = None; required = false; to = (Some (codes "Account")); relation = (Some (codes "s")); children = (Some (codes "d")); of = None; by = None; field = None } ∷ []; rules = [] } ∷ [] }) ≡ Some (record { place = codes "schema B.b"; word = TooManyMasters })
two_masters = refl

master_of_itself : schema_fault (record { roles = []; users = []; objects = record { name = codes "Account"; prefix = codes "001"; default = Edit; fields = record { name = codes "a"; kind = Kind.MasterDetail; length = None; required = false; to = (Some (codes "Account")); relation = (Some (codes "r")); children = (Some (codes "c")); of = None; by = None; field = None } ∷ []; rules = [] } ∷ [] }) ≡ Some (record { place = codes "schema Account.a"; word = MasterLoop })
master_of_itself = refl

three_masters_above : schema_fault (record { roles = []; users = []; objects = record { name = codes "A"; prefix = codes "001"; default = Edit; fields = []; rules = [] } ∷ record { name = codes "B"; prefix = codes "002"; default = Edit; fields = record { name = codes "m"; kind = Kind.MasterDetail; length = None; required = false; to = (Some (codes "A")); relation = (Some (codes "r")); children = (Some (codes "bs")); of = None; by = None; field = None } ∷ []; rules = [] } ∷ record { name = codes "C"; prefix = codes "003"; default = Edit; fields = record { name = codes "m"; kind = Kind.MasterDetail; length = None; required = false; to = (Some (codes "B")); relation = (Some (codes "r")); children = (Some (codes "cs")); of = None; by = None; field = None } ∷ []; rules = [] } ∷ record { name = codes "D"; prefix = codes "004"; default = Edit; fields = record { name = codes "m"; kind = Kind.MasterDetail; length = None; required = false; to = (Some (codes "C")); relation = (Some (codes "r")); children = (Some (codes "ds")); of = None; by = None; field = None } ∷ []; rules = [] } ∷ [] }) ≡ None
three_masters_above = refl

four_masters_above : schema_fault (record { roles = []; users = []; objects = record { name = codes "A"; prefix = codes "001"; default = Edit; fields = []; rules = [] } ∷ record { name = codes "B"; prefix = codes "002"; default = Edit; fields = record { name = codes "m"; kind = Kind.MasterDetail; length = None; required = false; to = (Some (codes "A")); relation = (Some (codes "r")); children = (Some (codes "bs")); of = None; by = None; field = None } ∷ []; rules = [] } ∷ record { name = codes "C"; prefix = codes "003"; default = Edit; fields = record { name = codes "m"; kind = Kind.MasterDetail; length = None; required = false; to = (Some (codes "B")); relation = (Some (codes "r")); children = (Some (codes "cs")); of = None; by = None; field = None } ∷ []; rules = [] } ∷ record { name = codes "D"; prefix = codes "004"; default = Edit; fields = record { name = codes "m"; kind = Kind.MasterDetail; length = None; required = false; to = (Some (codes "C")); relation = (Some (codes "r")); children = (Some (codes "ds")); of = None; by = None; field = None } ∷ []; rules = [] } ∷ record { name = codes "E"; prefix = codes "006"; default = Edit; fields = record { name = codes "m"; kind = Kind.MasterDetail; length = None; required = false; to = (Some (codes "D")); relation = (Some (codes "r")); children = (Some (codes "es")); of = None; by = None; field = None } ∷ []; rules = [] } ∷ [] }) ≡ Some (record { place = codes "schema E.m"; word = MasterLoop })
four_masters_above = refl

roll_up : schema_fault (record { roles = []; users = []; objects = record { name = codes "Account"; prefix = codes "001"; default = Edit; fields = record { name = codes "Total"; kind = Kind.Rollup; length = None; required = false; to = None; relation = None; children = None; of = (Some (codes "line")); by = (Some Sum); field = (Some (codes "amount")) } ∷ []; rules = [] } ∷ record { name = codes "Line"; prefix = codes "002"; default = Edit; fields = record { name = codes "Amount"; kind = Kind.Number; length = None; required = false; to = None; relation = None; children = None; of = None; by = None; field = None } ∷ record { name = codes "a"; kind = Kind.MasterDetail; length = None; required = false; to = (Some (codes "Account")); relation = (Some (codes "r")); children = (Some (codes "Lines")); of = None; by = None; field = None } ∷ record { name = codes "Text"; kind = Kind.Text; length = None; required = false; to = None; relation = None; children = None; of = None; by = None; field = None } ∷ []; rules = [] } ∷ [] }) ≡ None
roll_up = refl

roll_up_count : schema_fault (record { roles = []; users = []; objects = record { name = codes "Account"; prefix = codes "001"; default = Edit; fields = record { name = codes "Total"; kind = Kind.Rollup; length = None; required = false; to = None; relation = None; children = None; of = (Some (codes "Line")); by = (Some Count); field = None } ∷ []; rules = [] } ∷ record { name = codes "Line"; prefix = codes "002"; default = Edit; fields = record { name = codes "Amount"; kind = Kind.Number; length = None; required = false; to = None; relation = None; children = None; of = None; by = None; field = None } ∷ record { name = codes "a"; kind = Kind.MasterDetail; length = None; required = false; to = (Some (codes "Account")); relation = (Some (codes "r")); children = (Some (codes "Lines")); of = None; by = None; field = None } ∷ record { name = codes "Text"; kind = Kind.Text; length = None; required = false; to = None; relation = None; children = None; of = None; by = None; field = None } ∷ []; rules = [] } ∷ [] }) ≡ None
roll_up_count = refl

roll_up_of_a_text : schema_fault (record { roles = []; users = []; objects = record { name = codes "Account"; prefix = codes "001"; default = Edit; fields = record { name = codes "Total"; kind = Kind.Rollup; length = None; required = false; to = None; relation = None; children = None; of = (Some (codes "Line")); by = (Some Sum); field = (Some (codes "Text")) } ∷ []; rules = [] } ∷ record { name = codes "Line"; prefix = codes "002"; default = Edit; fields = record { name = codes "Amount"; kind = Kind.Number; length = None; required = false; to = None; relation = None; children = None; of = None; by = None; field = None } ∷ record { name = codes "a"; kind = Kind.MasterDetail; length = None; required = false; to = (Some (codes "Account")); relation = (Some (codes "r")); children = (Some (codes "Lines")); of = None; by = None; field = None } ∷ record { name = codes "Text"; kind = Kind.Text; length = None; required = false; to = None; relation = None; children = None; of = None; by = None; field = None } ∷ []; rules = [] } ∷ [] }) ≡ Some (record { place = codes "schema Account.Total"; word = BadRollup })
roll_up_of_a_text = refl

roll_up_without_field : schema_fault (record { roles = []; users = []; objects = record { name = codes "Account"; prefix = codes "001"; default = Edit; fields = record { name = codes "Total"; kind = Kind.Rollup; length = None; required = false; to = None; relation = None; children = None; of = (Some (codes "Line")); by = (Some Sum); field = None } ∷ []; rules = [] } ∷ record { name = codes "Line"; prefix = codes "002"; default = Edit; fields = record { name = codes "Amount"; kind = Kind.Number; length = None; required = false; to = None; relation = None; children = None; of = None; by = None; field = None } ∷ record { name = codes "a"; kind = Kind.MasterDetail; length = None; required = false; to = (Some (codes "Account")); relation = (Some (codes "r")); children = (Some (codes "Lines")); of = None; by = None; field = None } ∷ record { name = codes "Text"; kind = Kind.Text; length = None; required = false; to = None; relation = None; children = None; of = None; by = None; field = None } ∷ []; rules = [] } ∷ [] }) ≡ Some (record { place = codes "schema Account.Total"; word = BadRollup })
roll_up_without_field = refl

roll_up_of_no_detail : schema_fault (record { roles = []; users = []; objects = record { name = codes "Account"; prefix = codes "001"; default = Edit; fields = record { name = codes "Total"; kind = Kind.Rollup; length = None; required = false; to = None; relation = None; children = None; of = (Some (codes "B")); by = (Some Count); field = None } ∷ []; rules = [] } ∷ record { name = codes "B"; prefix = codes "002"; default = Edit; fields = []; rules = [] } ∷ [] }) ≡ Some (record { place = codes "schema Account.Total"; word = BadRollup })
roll_up_of_no_detail = refl

roll_up_of_nothing : schema_fault (record { roles = []; users = []; objects = record { name = codes "Account"; prefix = codes "001"; default = Edit; fields = record { name = codes "Total"; kind = Kind.Rollup; length = None; required = false; to = None; relation = None; children = None; of = None; by = (Some Count); field = None } ∷ []; rules = [] } ∷ [] }) ≡ Some (record { place = codes "schema Account.Total"; word = BadRollup })
roll_up_of_nothing = refl

rule_without_a_name : schema_fault (record { roles = []; users = []; objects = record { name = codes "Account"; prefix = codes "001"; default = Edit; fields = []; rules = record { name = codes "1"; when = []; message = [] } ∷ [] } ∷ [] }) ≡ Some (record { place = codes "schema Account.1"; word = BadName })
rule_without_a_name = refl

two_rules_of_one_name : schema_fault (record { roles = []; users = []; objects = record { name = codes "Account"; prefix = codes "001"; default = Edit; fields = []; rules = record { name = codes "r"; when = []; message = [] } ∷ record { name = codes "r"; when = []; message = [] } ∷ [] } ∷ [] }) ≡ None
two_rules_of_one_name = refl

roles_come_before_users : schema_fault (record { roles = record { name = codes "a"; parent = (Some (codes "b")) } ∷ []; users = record { name = codes "1"; role = None } ∷ []; objects = [] }) ≡ Some (record { place = codes "schema a"; word = UnknownRole })
roles_come_before_users = refl

objects_come_before_fields : schema_fault (record { roles = []; users = []; objects = record { name = codes "Account"; prefix = codes "001"; default = Edit; fields = record { name = codes "1"; kind = Kind.Text; length = None; required = false; to = None; relation = None; children = None; of = None; by = None; field = None } ∷ []; rules = [] } ∷ record { name = codes "B"; prefix = codes "00"; default = Edit; fields = []; rules = [] } ∷ [] }) ≡ Some (record { place = codes "schema B"; word = BadPrefix })
objects_come_before_fields = refl

fields_come_before_rules : schema_fault (record { roles = []; users = []; objects = record { name = codes "Account"; prefix = codes "001"; default = Edit; fields = []; rules = record { name = codes "1"; when = []; message = [] } ∷ [] } ∷ record { name = codes "B"; prefix = codes "002"; default = Edit; fields = record { name = codes "2"; kind = Kind.Text; length = None; required = false; to = None; relation = None; children = None; of = None; by = None; field = None } ∷ []; rules = [] } ∷ [] }) ≡ Some (record { place = codes "schema B.2"; word = BadName })
fields_come_before_rules = refl

a_loop_by_the_second_master : schema_fault (record { roles = []; users = []; objects = record { name = codes "A"; prefix = codes "001"; default = Edit; fields = record { name = codes "f"; kind = Kind.MasterDetail; length = None; required = false; to = (Some (codes "B")); relation = (Some (codes "r")); children = (Some (codes "c")); of = None; by = None; field = None } ∷ []; rules = [] } ∷ record { name = codes "B"; prefix = codes "002"; default = Edit; fields = record { name = codes "m1"; kind = Kind.MasterDetail; length = None; required = false; to = (Some (codes "C")); relation = (Some (codes "r1")); children = (Some (codes "c1")); of = None; by = None; field = None } ∷ record { name = codes "m2"; kind = Kind.MasterDetail; length = None; required = false; to = (Some (codes "A")); relation = (Some (codes "r2")); children = (Some (codes "c2")); of = None; by = None; field = None } ∷ []; rules = [] } ∷ record { name = codes "C"; prefix = codes "003"; default = Edit; fields = []; rules = [] } ∷ [] }) ≡ Some (record { place = codes "schema A.f"; word = MasterLoop })
a_loop_by_the_second_master = refl

a_detail_by_its_second_master : schema_fault (record { roles = []; users = []; objects = record { name = codes "A"; prefix = codes "001"; default = Edit; fields = record { name = codes "s"; kind = Kind.Rollup; length = None; required = false; to = None; relation = None; children = None; of = (Some (codes "B")); by = (Some Sum); field = (Some (codes "F")) } ∷ []; rules = [] } ∷ record { name = codes "B"; prefix = codes "002"; default = Edit; fields = record { name = codes "F"; kind = Kind.Number; length = None; required = false; to = None; relation = None; children = None; of = None; by = None; field = None } ∷ record { name = codes "m1"; kind = Kind.MasterDetail; length = None; required = false; to = (Some (codes "C")); relation = (Some (codes "r1")); children = (Some (codes "c1")); of = None; by = None; field = None } ∷ record { name = codes "m2"; kind = Kind.MasterDetail; length = None; required = false; to = (Some (codes "A")); relation = (Some (codes "r2")); children = (Some (codes "c2")); of = None; by = None; field = None } ∷ []; rules = [] } ∷ record { name = codes "C"; prefix = codes "003"; default = Edit; fields = []; rules = [] } ∷ [] }) ≡ Some (record { place = codes "schema B.m2"; word = TooManyMasters })
a_detail_by_its_second_master = refl

a_number_behind_a_text_of_its_name : schema_fault (record { roles = []; users = []; objects = record { name = codes "A"; prefix = codes "001"; default = Edit; fields = record { name = codes "s"; kind = Kind.Rollup; length = None; required = false; to = None; relation = None; children = None; of = (Some (codes "B")); by = (Some Sum); field = (Some (codes "F")) } ∷ []; rules = [] } ∷ record { name = codes "B"; prefix = codes "002"; default = Edit; fields = record { name = codes "F"; kind = Kind.Text; length = None; required = false; to = None; relation = None; children = None; of = None; by = None; field = None } ∷ record { name = codes "F"; kind = Kind.Number; length = None; required = false; to = None; relation = None; children = None; of = None; by = None; field = None } ∷ record { name = codes "m2"; kind = Kind.MasterDetail; length = None; required = false; to = (Some (codes "A")); relation = (Some (codes "r2")); children = (Some (codes "c2")); of = None; by = None; field = None } ∷ []; rules = [] } ∷ [] }) ≡ Some (record { place = codes "schema B.F"; word = Duplicate })
a_number_behind_a_text_of_its_name = refl

a_second_master_far_above : schema_fault (record { roles = []; users = []; objects = record { name = codes "A"; prefix = codes "001"; default = Edit; fields = record { name = codes "f"; kind = Kind.MasterDetail; length = None; required = false; to = (Some (codes "B")); relation = (Some (codes "r")); children = (Some (codes "c")); of = None; by = None; field = None } ∷ []; rules = [] } ∷ record { name = codes "B"; prefix = codes "002"; default = Edit; fields = record { name = codes "g"; kind = Kind.MasterDetail; length = None; required = false; to = (Some (codes "C")); relation = (Some (codes "r")); children = (Some (codes "c")); of = None; by = None; field = None } ∷ []; rules = [] } ∷ record { name = codes "C"; prefix = codes "003"; default = Edit; fields = record { name = codes "h"; kind = Kind.MasterDetail; length = None; required = false; to = (Some (codes "D")); relation = (Some (codes "r")); children = (Some (codes "c")); of = None; by = None; field = None } ∷ record { name = codes "i"; kind = Kind.MasterDetail; length = None; required = false; to = (Some (codes "E")); relation = (Some (codes "s")); children = (Some (codes "d")); of = None; by = None; field = None } ∷ []; rules = [] } ∷ record { name = codes "D"; prefix = codes "004"; default = Edit; fields = []; rules = [] } ∷ record { name = codes "E"; prefix = codes "006"; default = Edit; fields = record { name = codes "k"; kind = Kind.MasterDetail; length = None; required = false; to = (Some (codes "D")); relation = (Some (codes "r")); children = (Some (codes "e")); of = None; by = None; field = None } ∷ []; rules = [] } ∷ [] }) ≡ Some (record { place = codes "schema A.f"; word = MasterLoop })
a_second_master_far_above = refl

a_number_of_no_such_name : schema_fault (record { roles = []; users = []; objects = record { name = codes "A"; prefix = codes "001"; default = Edit; fields = record { name = codes "s"; kind = Kind.Rollup; length = None; required = false; to = None; relation = None; children = None; of = (Some (codes "B")); by = (Some Sum); field = (Some (codes "G")) } ∷ []; rules = [] } ∷ record { name = codes "B"; prefix = codes "002"; default = Edit; fields = record { name = codes "F"; kind = Kind.Number; length = None; required = false; to = None; relation = None; children = None; of = None; by = None; field = None } ∷ record { name = codes "m2"; kind = Kind.MasterDetail; length = None; required = false; to = (Some (codes "A")); relation = (Some (codes "r2")); children = (Some (codes "c2")); of = None; by = None; field = None } ∷ []; rules = [] } ∷ [] }) ≡ Some (record { place = codes "schema A.s"; word = BadRollup })
a_number_of_no_such_name = refl

-- ---- what a field is made to

text_field : field_of (record { roles = []; users = []; objects = [] }) 0 (record { name = codes "Name"; kind = Kind.Text; length = None; required = false; to = None; relation = None; children = None; of = None; by = None; field = None }) ≡ record { name = codes "Name"; kind = Made.Text 255; required = false }
text_field = refl

master_detail : field_of (record { roles = []; users = []; objects = record { name = codes "Account"; prefix = codes "001"; default = Edit; fields = []; rules = [] } ∷ [] }) 1 (record { name = codes "a"; kind = Kind.MasterDetail; length = None; required = false; to = (Some (codes "ACCOUNT")); relation = (Some (codes "r")); children = (Some (codes "c")); of = None; by = None; field = None }) ≡ record { name = codes "a"; kind = Made.MasterDetail (record { to = 0; relation = codes "r"; children = codes "c" }); required = false }
master_detail = refl

roll_up_field : field_of (record { roles = []; users = []; objects = record { name = codes "Account"; prefix = codes "001"; default = Edit; fields = []; rules = [] } ∷ record { name = codes "Line"; prefix = codes "002"; default = Edit; fields = record { name = codes "Amount"; kind = Kind.Number; length = None; required = false; to = None; relation = None; children = None; of = None; by = None; field = None } ∷ record { name = codes "a"; kind = Kind.MasterDetail; length = None; required = false; to = (Some (codes "Account")); relation = (Some (codes "r")); children = (Some (codes "Lines")); of = None; by = None; field = None } ∷ record { name = codes "Text"; kind = Kind.Text; length = None; required = false; to = None; relation = None; children = None; of = None; by = None; field = None } ∷ []; rules = [] } ∷ [] }) 0 (record { name = codes "Total"; kind = Kind.Rollup; length = None; required = false; to = None; relation = None; children = None; of = (Some (codes "Line")); by = (Some Sum); field = (Some (codes "Amount")) }) ≡ record { name = codes "Total"; kind = Made.Rollup (record { detail = 1; by = Sum; field = Some 2 }); required = false }
roll_up_field = refl
